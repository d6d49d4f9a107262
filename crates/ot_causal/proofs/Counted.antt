-- What was counted need not be sought again: with a form all that it is made from was counted. So it is for the
-- lists at one site, which are sublists of what it has integrated.
use Rattle.std.proofs.Common.{◌≡◌, ◌↔◌, ℕ, zero, suc, ◌<◌, ◌≤◌, true, false, List, [], ◌∷◌, ◌++◌, length, Option, Some}
use Rattle.std.proofs.Common.{None, refl, sym, ◌∙◌, subst, inl, inr, arith}
use Rattle.std.specs.Prelude.{nat_eq}
use Rattle.std.specs.List.{AllByRecursion, list_all}
use Rattle.std.proofs.lemmas.Bool.{cases_Bool, false≢true, eq-eqb, eqb-true, and_from, and_parts, or_cases, or_left}
use Rattle.std.proofs.lemmas.Bool.{or_right, or_from, or_parts, false_from_ne_true}
use Rattle.ot_causal.specs.Members.{has, without, have_one_set, HaveOneSet, IsSublist, skip}
use Rattle.ot_causal.specs.Past.{Past, IsClosed, IsReady, IsOrderly, IsOpening}
use Rattle.ot_causal.specs.Forms.{newest_open}
use Rattle.ot_causal.specs.Counting.{FormName, name_of, is_same_form, is_among, sought, count_sought, IsCounted}
use Rattle.ot_causal.specs.Counting.{AreCounted, counted}
use Rattle.ot_causal.proofs.Members.{same_Bool, has-itself, has-older, has-cases, HaveOneSet-trans, IsSublist-itself}
use Rattle.ot_causal.proofs.Members.{IsSublist-without, one_list}
use Rattle.ot_causal.proofs.Closed.{IsDistinct-closed}
use Rattle.ot_causal.proofs.Openings.{IsOpening-newest_open}
use Rattle.ot_causal.proofs.Forms.{sought-none_open, sought-newest_open, counted-nil, counted-cons}
use Rattle.ot_causal.proofs.Counts.{length-one_set}
use Rattle.ot_causal.proofs.Sought.{AllByRecursion-append, AllByRecursion-count_sought, sought-all}

list_all-has : (l m : List ℕ) → ((x : ℕ) → has l x ≡ true → has m x ≡ true) → list_all (has m) l ≡ true
list_all-has [] m among = refl
list_all-has (y ∷ l) m among = and_from (has m y) (list_all (has m) l) (among y (has-itself y l))
    (list_all-has l m (λ x member. among x (has-older y l x member)))

has-list_all : (l m : List ℕ) → list_all (has m) l ≡ true → (x : ℕ) → has l x ≡ true → has m x ≡ true
has-list_all [] m all x member = absurd (false≢true member)
has-list_all (y ∷ l) m all x member = elim (has-cases y l x member) [
  | inl newest ↦ subst (λ (z : ℕ). has m z ≡ true) (sym newest) ((and_parts (has m y) (list_all (has m) l) all).0)
  | inr older ↦ has-list_all l m ((and_parts (has m y) (list_all (has m) l) all).1) x older
]

-- the test of one set says what it is
pub have_one_set-iff : (l m : List ℕ) → (have_one_set l m ≡ true) ↔ HaveOneSet l m
have_one_set-iff l m = (
  λ same.
      let parts : (list_all (has m) l ≡ true) × (list_all (has l) m ≡ true) =
      and_parts (list_all (has m) l) (list_all (has l) m) same in
      record { at = λ x. same_Bool (has l x) (has m x) (has-list_all l m parts.0 x) (has-list_all m l parts.1 x) },
  λ same. and_from (list_all (has m) l) (list_all (has l) m)
      (list_all-has l m (λ x member. sym (same.at x) ∙ member)) (list_all-has m l (λ x member. same.at x ∙ member)),
)

-- two forms are one
pub record IsSameForm (one other : FormName) : Type 0 where
  pub of : one.of ≡ other.of
  pub behind : HaveOneSet one.behind other.behind

is_same_form-fact : (one other : FormName) → is_same_form one other ≡ true → IsSameForm one other
is_same_form-fact one other same =
    let parts : (nat_eq one.of other.of ≡ true) × (have_one_set one.behind other.behind ≡ true) =
    and_parts (nat_eq one.of other.of) (have_one_set one.behind other.behind) same in
    record { of = eqb-true one.of other.of parts.0; behind = (have_one_set-iff one.behind other.behind).0 parts.1 }

is_same_form-from : (one other : FormName) → IsSameForm one other → is_same_form one other ≡ true
is_same_form-from one other same = and_from (nat_eq one.of other.of) (have_one_set one.behind other.behind)
    (eq-eqb one.of other.of same.of) ((have_one_set-iff one.behind other.behind).1 same.behind)

-- a form that is one of these, by another name
is_among-same : (names : List FormName) (one other : FormName) → is_same_form one other ≡ true
    → is_among names other ≡ true → is_among names one ≡ true
is_among-same [] one other same among = absurd (false≢true among)
is_among-same (name ∷ names) one other same among =
    elim (or_cases (is_same_form other name) (is_among names other) among) [
      | inl here ↦ or_left (is_same_form one name) (is_among names one) (
          let first : IsSameForm one other = is_same_form-fact one other same in
          let second : IsSameForm other name = is_same_form-fact other name here in
          is_same_form-from one name
          (record { of = first.of ∙ second.of; behind = HaveOneSet-trans first.behind second.behind }))
      | inr later ↦ or_right (is_same_form one name) (is_among names one) (is_among-same names one other same later)
    ]

is_same_form-itself : (name : FormName) → is_same_form name name ≡ true
is_same_form-itself name = is_same_form-from name name (record { of = refl; behind = record { at = λ x. refl } })

-- what was counted stays counted
pub is_among-counted : (names more : List FormName) (name : FormName) → is_among names name ≡ true
    → is_among (count_sought names more) name ≡ true
is_among-counted names [] name among = among
is_among-counted names (next ∷ more) name among = elim (cases_Bool (is_among names next)) [
  | inl already ↦ rw already (is_among-counted names more name among)
  | inr new ↦
      rw new (is_among-counted (next ∷ names) more name (or_right (is_same_form name next) (is_among names name) among))
]

-- what is sought is counted
pub is_among-sought : (names more : List FormName) (name : FormName) → is_among more name ≡ true
    → is_among (count_sought names more) name ≡ true
is_among-sought names [] name among = absurd (false≢true among)
is_among-sought names (next ∷ more) name among = elim (cases_Bool (is_among names next)) [
  | inl already ↦ rw already (elim (or_cases (is_same_form name next) (is_among more name) among) [
    | inl here ↦ is_among-counted names more name (is_among-same names name next here already)
    | inr later ↦ is_among-sought names more name later
  ])
  | inr new ↦ rw new (elim (or_cases (is_same_form name next) (is_among more name) among) [
    | inl here ↦ is_among-counted (next ∷ names) more name (or_left (is_same_form name next) (is_among names name) here)
    | inr later ↦ is_among-sought (next ∷ names) more name later
  ])
]

-- and nothing else
pub is_among-either : (names more : List FormName) (name : FormName) → is_among names name ≡ false
    → is_among more name ≡ false
    → is_among (count_sought names more) name ≡ false
is_among-either names [] name none none_more = none
is_among-either names (next ∷ more) name none none_more = elim (cases_Bool (is_among names next)) [
  | inl already ↦ rw already (is_among-either names more name none (later none_more))
  | inr new ↦ rw new (is_among-either (next ∷ names) more name
      (or_from (is_same_form name next) (is_among names name) (here none_more) none) (later none_more))
]
  where
    here : is_among (next ∷ more) name ≡ false → is_same_form name next ≡ false
    here is = (or_parts (is_same_form name next) (is_among more name) is).0

    later : is_among (next ∷ more) name ≡ false → is_among more name ≡ false
    later is = (or_parts (is_same_form name next) (is_among more name) is).1

-- counting what was counted changes nothing
pub count_sought-among : (names more : List FormName) → list_all (is_among names) more ≡ true
    → count_sought names more ≡ names
count_sought-among names [] all = refl
count_sought-among names (name ∷ more) all =
    let parts : (is_among names name ≡ true) × (list_all (is_among names) more ≡ true) =
    and_parts (is_among names name) (list_all (is_among names) more) all in
    rw parts.0 (count_sought-among names more parts.1)

-- what is among some is among what these are among
list_all-more : (names more all : List FormName)
    → ((name : FormName) → is_among names name ≡ true → is_among more name ≡ true)
    → list_all (is_among names) all ≡ true → list_all (is_among more) all ≡ true
list_all-more names more [] larger among = refl
list_all-more names more (name ∷ all) larger among =
    let parts : (is_among names name ≡ true) × (list_all (is_among names) all ≡ true) =
    and_parts (is_among names name) (list_all (is_among names) all) among in
    and_from (is_among more name) (list_all (is_among more) all) (larger name parts.0)
    (list_all-more names more all larger parts.1)

list_all-itself : (names : List FormName) → list_all (is_among names) names ≡ true
list_all-itself [] = refl
list_all-itself (name ∷ names) = and_from (is_among (name ∷ names) name) (list_all (is_among (name ∷ names)) names)
    (or_left (is_same_form name name) (is_among names name) (is_same_form-itself name))
    (list_all-more names (name ∷ names) names
    (λ other among. or_right (is_same_form other name) (is_among names other) among) (list_all-itself names))

is_among-front : (names more : List FormName) (name : FormName) → is_among names name ≡ true
    → is_among (names ++ more) name ≡ true
is_among-front [] more name among = absurd (false≢true among)
is_among-front (next ∷ names) more name among = elim (or_cases (is_same_form name next) (is_among names name) among) [
  | inl here ↦ or_left (is_same_form name next) (is_among (names ++ more) name) here
  | inr later ↦ or_right (is_same_form name next) (is_among (names ++ more) name) (is_among-front names more name later)
]

is_among-back : (names more : List FormName) (name : FormName) → is_among more name ≡ true
    → is_among (names ++ more) name ≡ true
is_among-back [] more name among = among
is_among-back (next ∷ names) more name among =
    or_right (is_same_form name next) (is_among (names ++ more) name) (is_among-back names more name among)

module _ (past : Past) (seen : List ℕ) where
  -- what was counted, seen among more
  AreCounted-more : (names more all : List FormName)
      → ((name : FormName) → is_among names name ≡ true → is_among more name ≡ true)
      → AllByRecursion (IsCounted past seen names) all → AllByRecursion (IsCounted past seen more) all
  AreCounted-more names more [] larger counted_all = tt
  AreCounted-more names more (name ∷ all) larger counted_all = (
    record {
      ready = counted_all.0.ready;
      sublist = counted_all.0.sublist;
      parts = list_all-more names more (sought past name.of name.behind) larger counted_all.0.parts;
    },
    AreCounted-more names more all larger counted_all.1,
  )

  module _ (order : IsOrderly past) where
    -- all that is sought for a form, with what each is made from
    AreCounted-sought_within : (n o : ℕ) (l : List ℕ) → length l < n → IsReady past o l → IsSublist l seen
        → AllByRecursion (IsCounted past seen (sought past o l)) (sought past o l)
    AreCounted-sought_within zero o l short ready sublist = absurd (omega (arith, short))
    AreCounted-sought_within (suc n) o l short ready sublist =
        by (newest_open past o l) refl (λ p m. AreCounted-sought_within n p m)
      where
        by : (found : Option ℕ) → newest_open past o l ≡ found
            → ((p : ℕ) (m : List ℕ) → length m < n → IsReady past p m → IsSublist m seen
            → AllByRecursion (IsCounted past seen (sought past p m)) (sought past p m))
            → AllByRecursion (IsCounted past seen (sought past o l)) (sought past o l)
        by None none below = subst (λ (names : List FormName). AllByRecursion (IsCounted past seen names) names)
            (sym (sought-none_open past o l none)) tt
        by (Some x) found below =
            subst (λ (names : List FormName). AllByRecursion (IsCounted past seen (sought past o l)) names) (sym split)
            (AllByRecursion-append (IsCounted past seen (sought past o l)) (of_o ++ of_x) (itself ∷ [])
            (AllByRecursion-append (IsCounted past seen (sought past o l)) of_o of_x
            (AreCounted-more of_o (sought past o l) of_o larger_o
            (below o (without x l) (omega (arith, short, opening.shorter)) (opening.next, opening.closed)
            (IsSublist-without x sublist))) (AreCounted-more of_x (sought past o l) of_x larger_x
            (below x (without x l) (omega (arith, short, opening.shorter)) (opening.next_member, opening.closed)
            (IsSublist-without x sublist))))
            (record { ready = ready; sublist = sublist; parts = list_all-itself (sought past o l) }, tt))
          where
            opening : IsOpening past o l x
            opening = IsOpening-newest_open past order o l x ready found

            of_o : List FormName
            of_o = sought past o (without x l)

            of_x : List FormName
            of_x = sought past x (without x l)

            itself : FormName
            itself = record { of = o; behind = l }

            split : sought past o l ≡ of_o ++ of_x ++ itself ∷ []
            split = sought-newest_open past o l x found

            larger_o : (name : FormName) → is_among of_o name ≡ true → is_among (sought past o l) name ≡ true
            larger_o name among =
                rw split (is_among-front (of_o ++ of_x) (itself ∷ []) name (is_among-front of_o of_x name among))

            larger_x : (name : FormName) → is_among of_x name ≡ true → is_among (sought past o l) name ≡ true
            larger_x name among =
                rw split (is_among-front (of_o ++ of_x) (itself ∷ []) name (is_among-back of_o of_x name among))

    -- counting all that is sought for a form keeps it so
    pub AreCounted-count_sought : (names : List FormName) (o : ℕ) (l : List ℕ) → IsReady past o l → IsSublist l seen
        → AreCounted past seen names
        → AreCounted past seen (count_sought names (sought past o l))
    AreCounted-count_sought names o l ready sublist all =
        AllByRecursion-count_sought (IsCounted past seen (count_sought names (sought past o l))) names (sought past o l)
        (AreCounted-more names (count_sought names (sought past o l)) names
        (is_among-counted names (sought past o l)) all)
        (AreCounted-more (sought past o l) (count_sought names (sought past o l)) (sought past o l) (is_among-sought
        names (sought past o l)) (AreCounted-sought_within (suc (length l)) o l (omega arith) ready sublist))

  -- a form that was counted brings what it is made from, whatever it is called
  parts-counted : (names all : List FormName) (o : ℕ) (l : List ℕ) → IsClosed past seen → IsSublist l seen
      → AllByRecursion (IsCounted past seen all) names
      → is_among names (name_of o l) ≡ true → list_all (is_among all) (sought past o l) ≡ true
  parts-counted [] all o l closed sublist counted_all among = absurd (false≢true among)
  parts-counted (name ∷ names) all o l closed sublist counted_all among =
      elim (or_cases (is_same_form (name_of o l) name) (is_among names (name_of o l)) among) [
        | inl here ↦ (let same : IsSameForm (name_of o l) name = is_same_form-fact (name_of o l) name here in
            let one : l ≡ name.behind = one_list sublist counted_all.0.sublist
            (IsDistinct-closed past seen closed) same.behind in
            subst (λ (p : ℕ). list_all (is_among all) (sought past p l) ≡ true) (sym same.of)
            (subst (λ (m : List ℕ). list_all (is_among all) (sought past name.of m) ≡ true)
            (sym one) counted_all.0.parts))
        | inr later ↦ parts-counted names all o l closed sublist counted_all.1 later
      ]

  -- so what was counted need not be sought again
  pub count_sought-counted : (names : List FormName) (o : ℕ) (l : List ℕ) → IsClosed past seen → IsSublist l seen
      → AreCounted past seen names
      → is_among names (name_of o l) ≡ true → count_sought names (sought past o l) ≡ names
  count_sought-counted names o l closed sublist all among =
      count_sought-among names (sought past o l) (parts-counted names names o l closed sublist all among)

-- what was counted at a site was so when the site has integrated one more
pub AreCounted-newer : (past : Past) (o : ℕ) (seen : List ℕ) (names all : List FormName)
    → AllByRecursion (IsCounted past seen names) all
    → AllByRecursion (IsCounted past (o ∷ seen) names) all
AreCounted-newer past o seen names [] counted_all = tt
AreCounted-newer past o seen names (name ∷ all) counted_all = (
  record {
    ready = counted_all.0.ready;
    sublist = skip o name.behind seen counted_all.0.sublist;
    parts = counted_all.0.parts;
  },
  AreCounted-newer past o seen names all counted_all.1,
)

-- a form whose list is at most so long
record IsShort (past : Past) (k : ℕ) (name : FormName) : Type 0 where
  ready : IsReady past name.of name.behind
  short : length name.behind ≤ k

module _ (past : Past) (order : IsOrderly past) where
  -- what a site has counted that integrated a closed list
  pub AreCounted-counted : (seen : List ℕ) → IsClosed past seen → AreCounted past seen (counted past seen)
  AreCounted-counted [] closed = rw (counted-nil past) tt
  AreCounted-counted (o ∷ seen) closed = rw (counted-cons past o seen)
      (AreCounted-count_sought past (o ∷ seen) order (counted past seen) o seen closed
      (skip o seen seen (IsSublist-itself seen))
      (AreCounted-newer past o seen (counted past seen) (counted past seen) (AreCounted-counted seen closed.1)))

  -- a form is none of those behind shorter lists
  is_among-short : (o : ℕ) (l : List ℕ) (k : ℕ) (names : List FormName) → IsClosed past l → k < length l
      → AllByRecursion (IsShort past k) names
      → is_among names (name_of o l) ≡ false
  is_among-short o l k [] closed long all = refl
  is_among-short o l k (name ∷ names) closed long all =
      or_from (is_same_form (name_of o l) name) (is_among names (name_of o l))
      (false_from_ne_true (is_same_form (name_of o l) name) (λ here.
      let same : IsSameForm (name_of o l) name = is_same_form-fact (name_of o l) name here in
      omega (
        arith,
        long,
        all.0.short,
        length-one_set l name.behind (IsDistinct-closed past l closed)
            (IsDistinct-closed past name.behind all.0.ready.1) same.behind,
      )))
      (is_among-short o l k names closed long all.1)

  -- what a form is made from has not the form itself: it is counted after that
  pub is_among-parts : (names : List FormName) (o : ℕ) (l : List ℕ) (x : ℕ) → IsReady past o l
      → newest_open past o l ≡ Some x
      → is_among names (name_of o l) ≡ false
      → is_among (count_sought names (sought past o (without x l) ++ sought past x (without x l))) (name_of o l) ≡ false
  is_among-parts names o l x ready found new =
      is_among-either names (sought past o (without x l) ++ sought past x (without x l)) (name_of o l) new
      (is_among-short o l (length (without x l)) (sought past o (without x l) ++ sought past x (without x l)) ready.1
      (omega (arith, opening.shorter))
      (AllByRecursion-append (IsShort past (length (without x l))) (sought past o (without x l))
      (sought past x (without x l))
      (sought-all past order (IsShort past (length (without x l))) o (without x l) short (opening.next, opening.closed))
      (sought-all past order (IsShort past (length (without x l))) x (without x l) short
      (opening.next_member, opening.closed))))
    where
      opening : IsOpening past o l x
      opening = IsOpening-newest_open past order o l x ready found

      short : (p : ℕ) (m : List ℕ) → length m ≤ length (without x l) → IsReady past p m
          → IsShort past (length (without x l)) (name_of p m)
      short p m small ready_m = record { ready = ready_m; short = small }
