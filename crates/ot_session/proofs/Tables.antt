-- What a table of forms gives, and what it stays with one more.
use Rattle.std.proofs.Common.{cond, if◌then◌else◌, ◌≡◌, ◌<◌, ◌-◌, ◌↔◌, ℕ, Bool, true, false, ◌&&◌, List, [], ◌∷◌, map}
use Rattle.std.proofs.Common.{Option, Some, None, refl, sym, ap, ◌∙◌, subst, get_or, inl, inr}
use Rattle.std.specs.Prelude.{nat_eq, is_some}
use Rattle.std.specs.List.{AllByRecursion, range_with_len}
use Rattle.std.specs.Cmp.Lexicographic.{pointwise}
use Rattle.std.proofs.lemmas.Bool.{cases_Bool, false≢true, eqb-true, eq-eqb, and_from, and_parts, or_cases, or_left}
use Rattle.std.proofs.lemmas.Bool.{or_right}
use Rattle.indexmap.specs.IndexMap.{insert_entry}
use Rattle.ot_model.specs.declared.op.Op.{Op}
use Rattle.fn_rules.specs.Functions.{Function}
use Rattle.ot_causal.specs.Members.{have_one_set, HaveOneSet, IsSublist}
use Rattle.ot_causal.specs.Past.{Past, maker, IsClosed}
use Rattle.ot_causal.specs.Counting.{FormName, name_of, is_same_form, is_among, from_site, IsCounted, AreCounted}
use Rattle.ot_causal.specs.Forms.{form}
use Rattle.ot_session.specs.declared.table.Key.{Key}
use Rattle.ot_session.specs.declared.limits.TheConstants.{MAX_SITES}
use Rattle.ot_session.specs.Past.{IsUsablePast}
use Rattle.ot_session.specs.Lists.{clock, CanBeSought}
use Rattle.ot_session.specs.Entries.{is_same_key, form_under, key_of, IsFormEntry, IsStored, HasForms}
use Rattle.ot_session.proofs.Clocks.{get_or-clock}

both_true : (a b : Bool) → (a && b) ≡ true → (a ≡ true) × (b ≡ true)
both_true true b is = (refl, is)
both_true false b is = cc

-- equal lists of numbers
pointwise-true : (xs ys : List ℕ) → pointwise nat_eq xs ys ≡ true → xs ≡ ys
pointwise-true [] [] is = refl
pointwise-true [] (y ∷ ys) is = cc
pointwise-true (x ∷ xs) [] is = cc
pointwise-true (x ∷ xs) (y ∷ ys) is =
    let both = both_true (nat_eq x y) (pointwise nat_eq xs ys) is in
    rw (eqb-true x y both.0) (ap (λ rest. y ∷ rest) (pointwise-true xs ys both.1))

-- one key
pub same_key : (key other : Key) → is_same_key key other ≡ true
    → (key.number ≡ other.number) × (key.counts ≡ other.counts)
same_key key other is =
    let both = both_true (nat_eq key.number other.number) (pointwise nat_eq key.counts other.counts) is in
    (eqb-true key.number other.number both.0, pointwise-true key.counts other.counts both.1)

pointwise-itself : (xs : List ℕ) → pointwise nat_eq xs xs ≡ true
pointwise-itself [] = refl
pointwise-itself (x ∷ xs) = and_from (nat_eq x x) (pointwise nat_eq xs xs) (eq-eqb x x refl) (pointwise-itself xs)

is_same_key-itself : (key : Key) → is_same_key key key ≡ true
is_same_key-itself key = and_from (nat_eq key.number key.number) (pointwise nat_eq key.counts key.counts)
    (eq-eqb key.number key.number refl) (pointwise-itself key.counts)

-- a choice between something and another choice
is_some-cond : (b : Bool) (p q : Op) (rest more : Option Op) → is_some (cond b (Some p) rest) ≡ true
    → (is_some rest ≡ true → is_some more ≡ true)
    → is_some (cond b (Some q) more) ≡ true
is_some-cond true p q rest more there later = refl
is_some-cond false p q rest more there later = later there

-- what is stored stays stored with one form more
is_some-insert : (key other : Key) (p : Op) (es : List (Key × Op)) → is_some (form_under other es) ≡ true
    → is_some (form_under other (insert_entry is_same_key es key p)) ≡ true
is_some-insert key other p [] there = absurd (false≢true there)
is_some-insert key other p (e ∷ es) there = by (is_same_key key e.0) (is_some-insert key other p es)
  where
    by : (here : Bool)
        → (is_some (form_under other es) ≡ true → is_some (form_under other (insert_entry is_same_key es key p)) ≡ true)
        → is_some (form_under other (if here then (e.0, p) ∷ es else e ∷ insert_entry is_same_key es key p)) ≡ true
    by true later =
        is_some-cond (is_same_key other e.0) e.1 p (form_under other es) (form_under other es) there (λ same. same)
    by false later =
        is_some-cond (is_same_key other e.0) e.1 e.1 (form_under other es)
        (form_under other (insert_entry is_same_key es key p)) there later

-- and so is that form
is_some-inserted : (key : Key) (p : Op) (es : List (Key × Op))
    → is_some (form_under key (insert_entry is_same_key es key p)) ≡ true
is_some-inserted key p [] = rw (is_same_key-itself key) refl
is_some-inserted key p (e ∷ es) = elim (cases_Bool (is_same_key key e.0)) [
  | inl here ↦ rw (here, here) refl
  | inr other ↦ rw (other, other) (is_some-inserted key p es)
]

module _ (f : Function) (past : Past) (seen : List ℕ) (names : List FormName) where
  -- an entry under another spelling of its key
  rekeyed : (key other : Key) (p : Op) → (key.number ≡ other.number) × (key.counts ≡ other.counts)
      → IsFormEntry f past seen names (other, p) → IsFormEntry f past seen names (key, p)
  rekeyed key other p same entry = record {
    list = entry.list;
    sought = subst (λ (o : ℕ). CanBeSought past seen o entry.list) (sym same.0) entry.sought;
    counts = same.1 ∙ entry.counts;
    is = subst (λ (o : ℕ). form f past o entry.list ≡ Some p) (sym same.0) entry.is;
    counted = subst (λ (o : ℕ). is_among names (name_of o entry.list) ≡ true) (sym same.0) entry.counted;
  }

  -- what is found under a key is a form under it
  pub form_under-entry : (key : Key) (p : Op) (es : List (Key × Op)) → AllByRecursion (IsFormEntry f past seen names) es
      → form_under key es ≡ Some p → IsFormEntry f past seen names (key, p)
  form_under-entry key p [] forms found = cc
  form_under-entry key p (e ∷ es) forms found = by (is_same_key key e.0) refl found (form_under-entry key p es forms.1)
    where
      by : (same : Bool) → is_same_key key e.0 ≡ same → (cond same (Some e.1) (form_under key es)) ≡ Some p
          → (form_under key es ≡ Some p → IsFormEntry f past seen names (key, p))
          → IsFormEntry f past seen names (key, p)
      by true same here later =
          let is : e.1 ≡ p = cc in
          subst (λ (q : Op). IsFormEntry f past seen names (key, q)) is
          (rekeyed key e.0 e.1 (same_key key e.0 same) forms.0)
      by false same found later = later found

  -- a table with one more form
  pub forms-insert : (key : Key) (p : Op) (es : List (Key × Op)) → AllByRecursion (IsFormEntry f past seen names) es
      → IsFormEntry f past seen names (key, p)
      → AllByRecursion (IsFormEntry f past seen names) (insert_entry is_same_key es key p)
  forms-insert key p [] forms one = (one, tt)
  forms-insert key p (e ∷ es) forms one = by (is_same_key key e.0) refl (forms-insert key p es forms.1 one)
    where
      by : (same : Bool) → is_same_key key e.0 ≡ same
          → AllByRecursion (IsFormEntry f past seen names) (insert_entry is_same_key es key p)
          → AllByRecursion (IsFormEntry f past seen names) (if same then (e.0, p) ∷ es
          else e ∷ insert_entry is_same_key es key p)
      by true same others =
          let keys = same_key key e.0 same in
          (rekeyed e.0 key p (sym keys.0, sym keys.1) one, forms.1)
      by false same others = (forms.0, others)

  -- with one more counted
  forms-counted : (name : FormName) (es : List (Key × Op)) → AllByRecursion (IsFormEntry f past seen names) es
      → AllByRecursion (IsFormEntry f past seen (name ∷ names)) es
  forms-counted name [] forms = tt
  forms-counted name (e ∷ es) forms = (
    record {
      list = forms.0.list;
      sought = forms.0.sought;
      counts = forms.0.counts;
      is = forms.0.is;
      counted = or_right (is_same_form (name_of e.0.number forms.0.list) name)
          (is_among names (name_of e.0.number forms.0.list)) forms.0.counted;
    },
    forms-counted name es forms.1,
  )

  -- what is found under the key of a list that is sought is the form behind it, and was counted
  pub form_under-form : IsUsablePast f past
      → ((l m : List ℕ) → IsClosed past l → IsClosed past m
      → ((o : ℕ) → o < past.count → from_site past (maker past o) l ≡ from_site past (maker past o) m) → HaveOneSet l m)
      → ((l m : List ℕ) → IsSublist l seen → IsSublist m seen → HaveOneSet l m → l ≡ m)
      → (key : Key) (l : List ℕ) (p : Op) (es : List (Key × Op)) → AllByRecursion (IsFormEntry f past seen names) es
      → form_under key es ≡ Some p → CanBeSought past seen key.number l → key.counts ≡ clock past l
      → (form f past key.number l ≡ Some p) × (is_among names (name_of key.number l) ≡ true)
  form_under-form usable told one key l p es forms found sought counts =
      let entry = form_under-entry key p es forms found in
      let same : entry.list ≡ l =
      one entry.list l entry.sought.sublist sought.sublist
      (told entry.list l entry.sought.ready.1 sought.ready.1
      (λ o made.
      let site = usable.makers o made in
      sym (get_or-clock past entry.list (maker past o) site.0 site.1)
      ∙ ap (λ (cs : List ℕ). get_or cs (maker past o - 1) 0) (sym entry.counts ∙ counts)
      ∙ get_or-clock past l (maker past o) site.0 site.1)) in (
        subst (λ (m : List ℕ). form f past key.number m ≡ Some p) same entry.is,
        subst (λ (m : List ℕ). is_among names (name_of key.number m) ≡ true) same entry.counted,
      )

-- equal functions over one list
pub map-same : (g h : ℕ → ℕ) → ((x : ℕ) → g x ≡ h x) → (xs : List ℕ) → map g xs ≡ map h xs
map-same g h same [] = refl
map-same g h same (x ∷ xs) = rw (same x) (ap (λ rest. h x ∷ rest) (map-same g h same xs))

module _ (past : Past) (seen : List ℕ) where
  -- a form that was counted is stored under its key, whatever it is called
  stored-among : ((s : ℕ) (l m : List ℕ) → IsClosed past l → IsClosed past m → HaveOneSet l m
      → from_site past s l ≡ from_site past s m)
      → ((l m : List ℕ) → (have_one_set l m ≡ true) ↔ HaveOneSet l m)
      → (all names : List FormName) (es : List (Key × Op)) (o : ℕ) (l : List ℕ) → IsClosed past l
      → AllByRecursion (IsCounted past seen all) names → AllByRecursion (IsStored past es) names
      → is_among names (name_of o l) ≡ true
      → is_some (form_under (record { number = o; counts = clock past l }) es) ≡ true
  stored-among counts tested all [] es o l closed counted stored among = absurd (false≢true among)
  stored-among counts tested all (name ∷ names) es o l closed counted stored among =
      elim (or_cases (is_same_form (name_of o l) name) (is_among names (name_of o l)) among) [
        | inl here ↦ (
            let parts : (nat_eq o name.of ≡ true) × (have_one_set l name.behind ≡ true) =
            and_parts (nat_eq o name.of) (have_one_set l name.behind) here in
            let of : o ≡ name.of = eqb-true o name.of parts.0 in
            let clocks : clock past l ≡ clock past name.behind =
            map-same (λ t. from_site past t l) (λ t. from_site past t name.behind)
            (λ t. counts t l name.behind closed counted.0.ready.1 ((tested l name.behind).0 parts.1))
            (range_with_len 1 MAX_SITES) in
            subst (λ (cs : List ℕ). is_some (form_under (record { number = o; counts = cs }) es) ≡ true) (sym clocks)
            (subst (λ (p : ℕ). is_some (form_under (record { number = p; counts = clock past name.behind }) es) ≡ true)
            (sym of) stored.0.there))
        | inr later ↦ stored-among counts tested all names es o l closed counted.1 stored.1 later
      ]

  -- so one that is not stored was not counted
  pub unstored-new : ((s : ℕ) (l m : List ℕ) → IsClosed past l → IsClosed past m → HaveOneSet l m
      → from_site past s l ≡ from_site past s m)
      → ((l m : List ℕ) → (have_one_set l m ≡ true) ↔ HaveOneSet l m)
      → (names : List FormName) (es : List (Key × Op)) (o : ℕ) (l : List ℕ) → IsClosed past l
      → AreCounted past seen names → AllByRecursion (IsStored past es) names
      → form_under (record { number = o; counts = clock past l }) es ≡ None → is_among names (name_of o l) ≡ false
  unstored-new counts tested names es o l closed counted stored none =
      elim (cases_Bool (is_among names (name_of o l))) [
        | inl among ↦ absurd (false≢true (
            sym (ap is_some none) ∙ stored-among counts tested names names es o l closed counted stored among))
        | inr new ↦ new
      ]

-- what is stored stays stored
stored-insert : (past : Past) (key : Key) (p : Op) (names : List FormName) (es : List (Key × Op))
    → AllByRecursion (IsStored past es) names
    → AllByRecursion (IsStored past (insert_entry is_same_key es key p)) names
stored-insert past key p [] es stored = tt
stored-insert past key p (name ∷ names) es stored = (
  record { there = is_some-insert key (key_of past name) p es stored.0.there },
  stored-insert past key p names es stored.1,
)

-- a table with one form more, which is counted
pub HasForms-insert : (f : Function) (past : Past) (seen : List ℕ) (names : List FormName) (o : ℕ) (l : List ℕ)
    (p : Op) (es : List (Key × Op))
    → ((m n : List ℕ) → (have_one_set m n ≡ true) ↔ HaveOneSet m n)
    → HasForms f past seen names es → CanBeSought past seen o l → form f past o l ≡ Some p
    → AreCounted past seen (name_of o l ∷ names)
    → HasForms f past seen (name_of o l ∷ names)
    (insert_entry is_same_key es (record { number = o; counts = clock past l }) p)
HasForms-insert f past seen names o l p es tested has sought is counted = record {
  counted = counted;
  forms = forms-insert f past seen (name_of o l ∷ names) (record { number = o; counts = clock past l }) p es
      (forms-counted f past seen names (name_of o l) es has.forms)
      (record {
        list = l;
        sought = sought;
        counts = refl;
        is = is;
        counted = or_left (is_same_form (name_of o l) (name_of o l)) (is_among names (name_of o l))
            (and_from (nat_eq o o) (have_one_set l l) (eq-eqb o o refl) ((tested l l).1 (record { at = λ x. refl })));
      });
  stored = (
    record { there = is_some-inserted (record { number = o; counts = clock past l }) p es },
    stored-insert past (record { number = o; counts = clock past l }) p names es has.stored,
  );
}
