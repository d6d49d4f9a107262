-- How many forms a site counts at most. A form is told by its operation and by how many operations of each other
-- site are in its list, since those of its own site are known; so it is given a number below the bound, and
-- different forms get different numbers.
use Rattle.std.proofs.Common.{◌≡◌, ◌≢◌, ℕ, zero, suc, ◌+◌, ◌*◌, ◌<◌, ◌≤◌, true, false, List, [], ◌∷◌, ◌++◌, length, map}
use Rattle.std.proofs.Common.{refl, sym, ap, ◌∙◌, subst, inl, inr, arith}
use Rattle.std.specs.Prelude.{nat_eq, if◌then◌else◌}
use Rattle.std.specs.List.{AllByRecursion}
use Rattle.std.proofs.lemmas.Bool.{cases_Bool, cases_eq, cases_order, both_ways, false≢true, eq-eqb, ne_eqb, and_from}
use Rattle.std.proofs.lemmas.Bool.{or_parts, or_from}
use Rattle.std.proofs.lemmas.List.{length-map}
use Rattle.std.proofs.lemmas.Nat.{mul-add-lt, same_from_place}
use Rattle.ot_causal.specs.Members.{has, have_one_set}
use Rattle.ot_causal.specs.Past.{Past, maker, IsClosed, IsReady, IsOrderly}
use Rattle.ot_causal.specs.Counting.{FormName, is_same_form, is_among, sought, count_sought, counted, from_site}
use Rattle.ot_causal.specs.Counting.{made_at, choices, choices_below, most_forms}
use Rattle.ot_causal.specs.Sessions.{IsSite}
use Rattle.ot_causal.proofs.Members.{IsDistinct, same_Bool, has-cases, differ-has}
use Rattle.ot_causal.proofs.Closed.{made-member, has-before}
use Rattle.ot_causal.proofs.Counts.{length-below, from_site-at_most, has-as_many}
use Rattle.ot_causal.proofs.Counted.{have_one_set-iff}
use Rattle.ot_causal.proofs.Sought.{IsApart, IsReadyName, ready-counted, IsApart-counted, length-count_sought}
use Rattle.ot_causal.proofs.Sought.{count_sought-append}
use Rattle.ot_causal.proofs.Forms.{counted-cons}

-- how many operations of a site are in the list, of a site other than the given one
abbrev digit : Past → ℕ → ℕ → List ℕ → ℕ
digit past own s l = if nat_eq s own then 0 else from_site past s l

-- one more than the greatest such number
abbrev radix : Past → ℕ → ℕ → ℕ
radix past own s = if nat_eq s own then 1 else made_at past s + 1

-- the number of a list by its counts of the sites up to this one
abbrev place : Past → ℕ → ℕ → List ℕ → ℕ
place past own zero l = 0
place past own (suc s) l = digit past own (suc s) l * choices past own s + place past own s l

digit-below : (past : Past) (own s : ℕ) (l : List ℕ) → IsClosed past l → digit past own s l < radix past own s
digit-below past own s l closed = elim (cases_Bool (nat_eq s own)) [
  | inl same ↦ rw same (omega arith)
  | inr other ↦ rw other (omega (arith, from_site-at_most past s l closed))
]

place-below : (past : Past) (own s : ℕ) (l : List ℕ) → IsClosed past l → place past own s l < choices past own s
place-below past own zero l closed = omega arith
place-below past own (suc s) l closed =
    mul-add-lt (digit past own (suc s) l) (choices past own s) (place past own s l) (radix past own (suc s))
    (digit-below past own (suc s) l closed) (place-below past own s l closed)

-- lists with one number have as many operations of each other site
from_site-place : (past : Past) (own sites : ℕ) (l m : List ℕ) → IsClosed past l → IsClosed past m
    → place past own sites l ≡ place past own sites m → (s : ℕ) → IsSite sites s → s ≢ own
    → from_site past s l ≡ from_site past s m
from_site-place past own zero l m closed_l closed_m same s site other = absurd (omega (arith, site.low, site.high))
from_site-place past own (suc sites) l m closed_l closed_m same s site other =
    let parts : (digit past own (suc sites) l ≡ digit past own (suc sites) m)
    × (place past own sites l ≡ place past own sites m) =
    same_from_place (digit past own (suc sites) l) (place past own sites l)
    (digit past own (suc sites) m) (place past own sites m)
    (choices past own sites) (place-below past own sites l closed_l) (place-below past own sites m closed_m) same in
    elim (cases_eq s (suc sites)) [
      | inl last ↦ (let apart : suc sites ≢ own = λ is. other (last ∙ is) in
          let one : from_site past (suc sites) l ≡ from_site past (suc sites) m =
          rw (ne_eqb (suc sites) own apart) at parts.0 in
          subst (λ (z : ℕ). from_site past z l ≡ from_site past z m) (sym last) one)
      | inr before ↦ from_site-place past own sites l m closed_l closed_m parts.1 s
          (record { low = site.low; high = omega (arith, site.high, before) }) other
    ]

choices_below-more : (past : Past) (sites m n : ℕ) → m ≤ n → choices_below past sites m ≤ choices_below past sites n
choices_below-more past sites m zero more =
    let none : 0 ≡ m = omega (arith, more) in
    subst (λ (z : ℕ). choices_below past sites z ≤ 0) none (omega arith)
choices_below-more past sites m (suc n) more = elim (cases_eq m (suc n)) [
  | inl same ↦ subst (λ (z : ℕ). choices_below past sites z ≤ choices_below past sites (suc n)) (sym same) (omega arith)
  | inr less ↦ omega (arith, choices_below-more past sites m n (omega (arith, more, less)))
]

module _ (past : Past) (order : IsOrderly past)
    (sites : ℕ) (at_sites : (o : ℕ) → o < past.count → IsSite sites (maker past o)) where
  -- the number of a form
  abbrev code : FormName → ℕ
  code name = choices_below past sites name.of + place past (maker past name.of) sites name.behind

  code-below : (name : FormName) → IsReady past name.of name.behind → code name < choices_below past sites (suc name.of)
  code-below name ready = omega (arith, place-below past (maker past name.of) sites name.behind ready.1)

  -- forms with one number are of one operation
  of-code : (one other : FormName) → IsReady past one.of one.behind
      → IsReady past other.of other.behind → code one ≡ code other
      → one.of ≡ other.of
  of-code one other ready_one ready_other same = elim (cases_order one.of other.of) [
    | inl is ↦ is
    | inr apart ↦ absurd (elim apart [
      | inl less ↦ omega (
        arith,
        same,
        code-below one ready_one,
        choices_below-more past sites (suc one.of) other.of (omega (arith, less)),
      )
      | inr more ↦ omega (
        arith,
        same,
        code-below other ready_other,
        choices_below-more past sites (suc other.of) one.of (omega (arith, more)),
      )
    ])
  ]

  -- lists that are ready for one operation, and have as many operations of each other site, have one set
  has-as_placed : (o : ℕ) (l m : List ℕ) → IsReady past o l → IsReady past o m
      → place past (maker past o) sites l ≡ place past (maker past o) sites m → (x : ℕ)
      → has l x ≡ true → has m x ≡ true
  has-as_placed o l m ready_l ready_m same x member = elim (cases_eq (maker past x) (maker past o)) [
    | inl one_site ↦ elim (order.ordered x o made_x ready_l.0.made one_site (differ-has l x o member ready_l.0.new)) [
      | inl before ↦ ready_m.0.knows x before
      | inr behind ↦ absurd (both_ways (has l o) ready_l.0.new (has-before past l o x ready_l.1 member behind))
    ]
    | inr other_site ↦ has-as_many past order l m x ready_l.1 ready_m.1
        (from_site-place past (maker past o) sites l m ready_l.1 ready_m.1 same (maker past x)
        (at_sites x made_x) other_site) member
  ]
    where
      made_x : x < past.count
      made_x = made-member past l x ready_l.1 member

  -- forms with one number are the same
  is_same_form-code : (one other : FormName) → IsReady past one.of one.behind
      → IsReady past other.of other.behind → code one ≡ code other
      → is_same_form one other ≡ true
  is_same_form-code one other ready_one ready_other same =
      and_from (nat_eq one.of other.of) (have_one_set one.behind other.behind) (eq-eqb one.of other.of of_one)
      ((have_one_set-iff one.behind other.behind).1 (record {
        at = λ x. same_Bool (has one.behind x) (has other.behind x)
            (has-as_placed one.of one.behind other.behind ready_one also_ready one_place x)
            (has-as_placed one.of other.behind one.behind also_ready ready_one (sym one_place) x);
      }))
    where
      of_one : one.of ≡ other.of
      of_one = of-code one other ready_one ready_other same

      also_ready : IsReady past one.of other.behind
      also_ready = subst (λ (o : ℕ). IsReady past o other.behind) (sym of_one) ready_other

      one_place : place past (maker past one.of) sites one.behind ≡ place past (maker past one.of) sites other.behind
      one_place =
          let placed : code one ≡ choices_below past sites one.of + place past (maker past one.of) sites other.behind =
          same ∙ ap (λ o. choices_below past sites o + place past (maker past o) sites other.behind) (sym of_one) in
          omega (arith, placed)

  has-code : (name : FormName) (names : List FormName) → IsReady past name.of name.behind
      → AllByRecursion (IsReadyName past) names
      → is_among names name ≡ false → has (map code names) (code name) ≡ false
  has-code name [] ready all apart = refl
  has-code name (other ∷ names) ready all apart =
      or_from (nat_eq (code name) (code other)) (has (map code names) (code name))
      (ne_eqb (code name) (code other) (λ same. both_ways (is_same_form name other)
      ((or_parts (is_same_form name other) (is_among names name) apart).0) (is_same_form-code name other ready all.0
      same))) (has-code name names ready all.1 ((or_parts (is_same_form name other) (is_among names name) apart).1))

  IsDistinct-code : (names : List FormName) → AllByRecursion (IsReadyName past) names → IsApart names
      → IsDistinct (map code names)
  IsDistinct-code [] all apart = tt
  IsDistinct-code (name ∷ names) all apart =
      (has-code name names all.0 all.1 apart.0, IsDistinct-code names all.1 apart.1)

  code-under_bound : (names : List FormName) → AllByRecursion (IsReadyName past) names → (x : ℕ)
      → has (map code names) x ≡ true
      → x < most_forms past sites
  code-under_bound [] all x member = absurd (false≢true member)
  code-under_bound (name ∷ names) all x member = elim (has-cases (code name) (map code names) x member) [
    | inl newest ↦ omega (
      arith,
      newest,
      code-below name all.0,
      choices_below-more past sites (suc name.of) past.count all.0.0.made,
    )
    | inr older ↦ code-under_bound names all.1 x older
  ]

  pub length-counted : (l : List ℕ) → IsClosed past l → length (counted past l) ≤ most_forms past sites
  length-counted l closed =
      let all : AllByRecursion (IsReadyName past) (counted past l) =
      ready-counted past order l closed in
      subst (λ (n : ℕ). n ≤ most_forms past sites) (length-map (counted past l) code)
      (length-below (most_forms past sites) (map code (counted past l))
      (IsDistinct-code (counted past l) all (IsApart-counted past l)) (code-under_bound (counted past l) all))

  -- so it is where some of what is sought behind the list was counted too
  pub length-counted_within : (l : List ℕ) (o : ℕ) (names more : List FormName) → IsReady past o l
      → sought past o l ≡ names ++ more
      → length (count_sought (counted past l) names) ≤ most_forms past sites
  length-counted_within l o names more ready split =
      let whole : counted past (o ∷ l) ≡ count_sought (count_sought (counted past l) names) more =
      counted-cons past o l ∙ ap (count_sought (counted past l)) split
      ∙ count_sought-append (counted past l) names more in
      omega (
        arith,
        length-count_sought (count_sought (counted past l) names) more,
        ap length whole,
        length-counted (o ∷ l) ready,
      )
