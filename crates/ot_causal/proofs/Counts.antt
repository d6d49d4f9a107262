-- How many members of lists pass a test, and that closed lists are told apart by how many members each site made.
use Rattle.std.proofs.Common.{◌≡◌, ◌≢◌, ℕ, zero, suc, ◌+◌, ◌<◌, ◌≤◌, Bool, true, false, List, [], ◌∷◌, length, refl}
use Rattle.std.proofs.Common.{sym, ap, ◌∙◌, subst, inl, inr, arith}
use Rattle.std.specs.Prelude.{nat_eq}
use Rattle.std.specs.List.{filter}
use Rattle.std.proofs.lemmas.Bool.{cases_Bool, cases_eq, both_ways, false≢true, eq-eqb, ne_eqb, eqb-true}
use Rattle.std.proofs.lemmas.Bool.{true_from_ne_false}
use Rattle.std.proofs.lemmas.List.Sums.{length-filter}
use Rattle.ot_causal.specs.Members.{has, without, HaveOneSet}
use Rattle.ot_causal.specs.Past.{Past, maker, IsClosed, IsOrderly}
use Rattle.ot_causal.specs.Counting.{from_site, made_among, made_at}
use Rattle.ot_causal.proofs.Members.{IsDistinct, same_Bool, has-itself, has-older, has-other, differ-has, has-without}
use Rattle.ot_causal.proofs.Closed.{IsDistinct-closed, made-member, has-before}

-- a member that passes is one of those that pass
filter-without : (p : ℕ → Bool) (x : ℕ) (l : List ℕ) → has l x ≡ true → p x ≡ true
    → length (filter p l) ≡ suc (length (filter p (without x l)))
filter-without p x [] member passes = absurd (false≢true member)
filter-without p x (y ∷ l) member passes = elim (cases_eq x y) [
  | inl same ↦ (let here : p y ≡ true = subst (λ (z : ℕ). p z ≡ true) same passes in
      rw (eq-eqb x y same, here) refl)
  | inr other ↦ (let rest : length (filter p l) ≡ suc (length (filter p (without x l))) =
      filter-without p x l (sym (has-other y l x other) ∙ member) passes in
      elim (cases_Bool (p y)) [
        | inl also ↦ rw (ne_eqb x y other, also) (ap suc rest)
        | inr fails ↦ rw (ne_eqb x y other, fails) rest
      ])
]

-- a member that fails is none of those that pass
filter-without_failing : (p : ℕ → Bool) (x : ℕ) (l : List ℕ) → p x ≡ false
    → length (filter p (without x l)) ≡ length (filter p l)
filter-without_failing p x [] fails = refl
filter-without_failing p x (y ∷ l) fails = elim (cases_eq x y) [
  | inl same ↦ (let here : p y ≡ false = subst (λ (z : ℕ). p z ≡ false) same fails in
      rw (eq-eqb x y same, here) refl)
  | inr other ↦ elim (cases_Bool (p y)) [
    | inl also ↦ rw (ne_eqb x y other, also) (ap suc (filter-without_failing p x l fails))
    | inr also ↦ rw (ne_eqb x y other, also) (filter-without_failing p x l fails)
  ]
]

-- where each member that passes is in the other list, no more of them pass
pub filter-among : (p : ℕ → Bool) (m l : List ℕ) → IsDistinct m
    → ((z : ℕ) → has m z ≡ true → p z ≡ true → has l z ≡ true)
    → length (filter p m) ≤ length (filter p l)
filter-among p [] l once among = omega arith
filter-among p (y ∷ m) l once among = elim (cases_Bool (p y)) [
  | inl passes ↦ (let rest : length (filter p m) ≤ length (filter p (without y l)) =
      filter-among p m (without y l) once.1 (λ z member passes_z.
      has-without y l z (differ-has m z y member once.0) ∙ among z (has-older y m z member) passes_z) in
      rw passes (omega (arith, rest, filter-without p y l (among y (has-itself y m) passes) passes)))
  | inr fails ↦ rw fails (filter-among p m l once.1 (λ z member. among z (has-older y m z member)))
]

-- and fewer, where one that passes is in the other list alone
pub filter-lacking : (p : ℕ → Bool) (m l : List ℕ) (x : ℕ) → IsDistinct m
    → ((z : ℕ) → has m z ≡ true → p z ≡ true → has l z ≡ true)
    → has l x ≡ true → p x ≡ true → has m x ≡ false → length (filter p m) < length (filter p l)
filter-lacking p m l x once among member passes lacks =
    let rest : length (filter p m) ≤ length (filter p (without x l)) =
    filter-among p m (without x l) once (λ z member_z passes_z.
    has-without x l z (differ-has m z x member_z lacks) ∙ among z member_z passes_z) in
    omega (arith, rest, filter-without p x l member passes)

filter-all : (l : List ℕ) → filter (λ x. true) l ≡ l
filter-all [] = refl
filter-all (x ∷ l) = ap (λ rest. x ∷ rest) (filter-all l)

-- lists of one set are equally long
pub length-one_set : (l m : List ℕ) → IsDistinct l → IsDistinct m → HaveOneSet l m → length l ≡ length m
length-one_set l m once_l once_m same =
    let no_more : length (filter (λ x. true) l) ≤ length (filter (λ x. true) m) =
    filter-among (λ x. true) l m once_l (λ z member _. sym (same.at z) ∙ member) in
    let no_less : length (filter (λ x. true) m) ≤ length (filter (λ x. true) l) =
    filter-among (λ x. true) m l once_m (λ z member _. same.at z ∙ member) in
    omega (arith, no_more, no_less, ap length (filter-all l), ap length (filter-all m))

-- the numbers below this one, the greatest first
abbrev pub numbers_below : ℕ → List ℕ
numbers_below zero = []
numbers_below (suc n) = n ∷ numbers_below n

pub has-numbers_below : (n x : ℕ) → x < n → has (numbers_below n) x ≡ true
has-numbers_below zero x below = absurd (omega (arith, below))
has-numbers_below (suc n) x below = elim (cases_eq x n) [
  | inl same ↦ subst (λ (z : ℕ). has (numbers_below (suc n)) z ≡ true) (sym same) (has-itself n (numbers_below n))
  | inr other ↦ has-older n (numbers_below n) x (has-numbers_below n x (omega (arith, below, other)))
]

length-numbers_below : (n : ℕ) → length (numbers_below n) ≡ n
length-numbers_below zero = refl
length-numbers_below (suc n) = ap suc (length-numbers_below n)

-- so many different numbers are below a number
pub length-below : (n : ℕ) (l : List ℕ) → IsDistinct l → ((x : ℕ) → has l x ≡ true → x < n) → length l ≤ n
length-below n l once below =
    let at_most : length (filter (λ x. true) l) ≤ length (filter (λ x. true) (numbers_below n)) =
    filter-among (λ x. true) l (numbers_below n) once (λ x member _. has-numbers_below n x (below x member)) in
    omega (arith, at_most, ap length (filter-all l), ap length (filter-all (numbers_below n)), length-numbers_below n)

module _ (past : Past) where
  -- the operation is of this site
  abbrev pub is_from : ℕ → ℕ → Bool
  is_from s o = nat_eq (maker past o) s

  from_site-filter : (s : ℕ) (l : List ℕ) → from_site past s l ≡ length (filter (is_from s) l)
  from_site-filter s l = sym (length-filter (is_from s) l)

  made_among-filter : (s n : ℕ) → made_among past s n ≡ length (filter (is_from s) (numbers_below n))
  made_among-filter s zero = refl
  made_among-filter s (suc n) = elim (cases_Bool (is_from s n)) [
    | inl here ↦ rw here (omega (arith, made_among-filter s n))
    | inr other ↦ rw other (omega (arith, made_among-filter s n))
  ]

  -- a list holds no more operations of a site than were made there
  pub from_site-at_most : (s : ℕ) (l : List ℕ) → IsClosed past l → from_site past s l ≤ made_at past s
  from_site-at_most s l closed =
      let at_most : length (filter (is_from s) l) ≤ length (filter (is_from s) (numbers_below past.count)) =
      filter-among (is_from s) l (numbers_below past.count) (IsDistinct-closed past l closed)
      (λ z member _. has-numbers_below past.count z (made-member past l z closed member)) in
      omega (arith, at_most, from_site-filter s l, made_among-filter s past.count)

  module _ (order : IsOrderly past) where
    -- of two closed lists with as many operations of a site, each has those of the other
    pub has-as_many : (l m : List ℕ) (x : ℕ) → IsClosed past l → IsClosed past m
        → from_site past (maker past x) l ≡ from_site past (maker past x) m → has l x ≡ true → has m x ≡ true
    has-as_many l m x closed_l closed_m as_many member = true_from_ne_false (has m x) (λ lacks. absurd (omega (
      arith,
      filter-lacking (is_from (maker past x)) m l x (IsDistinct-closed past m closed_m) (among lacks) member
          (eq-eqb (maker past x) (maker past x) refl) lacks,
      as_many,
      from_site-filter (maker past x) l,
      from_site-filter (maker past x) m,
    )))
      where
        among : has m x ≡ false → (z : ℕ) → has m z ≡ true → is_from (maker past x) z ≡ true → has l z ≡ true
        among lacks z member_z of_site =
            elim (order.ordered z x (made-member past m z closed_m member_z) (made-member past l x closed_l member)
            (eqb-true (maker past z) (maker past x) of_site) (differ-has m z x member_z lacks)) [
              | inl before ↦ has-before past l z x closed_l member before
              | inr behind ↦ absurd (both_ways (has m x) lacks (has-before past m x z closed_m member_z behind))
            ]

    -- closed lists with as many operations of each site have one set
    pub HaveOneSet-as_many : (l m : List ℕ) → IsClosed past l → IsClosed past m
        → ((o : ℕ) → o < past.count → from_site past (maker past o) l ≡ from_site past (maker past o) m)
        → HaveOneSet l m
    HaveOneSet-as_many l m closed_l closed_m as_many = record {
      at = λ x. same_Bool (has l x) (has m x)
          (λ member. has-as_many l m x closed_l closed_m (as_many x (made-member past l x closed_l member)) member)
          (λ member. has-as_many m l x closed_m closed_l
          (sym (as_many x (made-member past m x closed_m member))) member);
    }

-- taking a member out leaves one operation less of its site, and as many of each other one
module _ (past : Past) where
  pub from_site-without : (s x : ℕ) (l : List ℕ) → has l x ≡ true → maker past x ≡ s
      → from_site past s l ≡ from_site past s (without x l) + 1
  from_site-without s x l member here = omega (
    arith,
    filter-without (is_from past s) x l member (eq-eqb (maker past x) s here),
    from_site-filter past s l,
    from_site-filter past s (without x l),
  )

  pub from_site-without_other : (s x : ℕ) (l : List ℕ) → maker past x ≢ s
      → from_site past s (without x l) ≡ from_site past s l
  from_site-without_other s x l other =
      from_site-filter past s (without x l) ∙ filter-without_failing (is_from past s) x l
      (ne_eqb (maker past x) s other) ∙ sym (from_site-filter past s l)

  -- closed lists of one set have as many operations of each site
  pub from_site-one_set : (s : ℕ) (l m : List ℕ) → IsClosed past l → IsClosed past m → HaveOneSet l m
      → from_site past s l ≡ from_site past s m
  from_site-one_set s l m closed_l closed_m same =
      let no_more : length (filter (is_from past s) l) ≤ length (filter (is_from past s) m) =
      filter-among (is_from past s) l m (IsDistinct-closed past l closed_l) (λ z member _. sym (same.at z) ∙ member) in
      let no_less : length (filter (is_from past s) m) ≤ length (filter (is_from past s) l) =
      filter-among (is_from past s) m l (IsDistinct-closed past m closed_m) (λ z member _. same.at z ∙ member) in
      omega (arith, no_more, no_less, from_site-filter past s l, from_site-filter past s m)
