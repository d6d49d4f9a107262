-- The case that is taken is the first whose guard is true, and the transformation comes to its result.
use Rattle.std.proofs.Common.{◌≡◌, ◌≢◌, ℕ, zero, suc, ◌+◌, ◌<◌, true, false, List, [], ◌∷◌, slice_get, refl, ap, sym}
use Rattle.std.proofs.Common.{subst, ◌∙◌, inl, inr, arith}
use Rattle.std.specs.Prelude.{Option, Some, None, option_map, IfSome, IfNone}
use Rattle.std.specs.List.{AllByRecursion}
use Rattle.std.proofs.lemmas.Bool.{cases_Bool}
use Rattle.std.proofs.lemmas.Option.{none-some, same_Some}
use Rattle.ot_model.specs.declared.op.Kind.{Kind}
use Rattle.ot_model.specs.declared.op.Op.{Op}
use Rattle.ot_model.specs.declared.op.Op.TheVariants.{Ins, Del, Upd, Nop}
use Rattle.ot_model.specs.Operations.{kind_of}
use Rattle.fn_rules.specs.Formulas.{holds_of}
use Rattle.fn_rules.specs.Functions.{Function, GuardedCase, cases_of}
use Rattle.fn_rules.specs.Transformation.{result_of, first_result, transform_by_kinds, transform_of}
use Rattle.ot_ways.specs.declared.taken_case.Taken.{Taken}
use Rattle.ot_ways.specs.Taken.{first_true, taken_by_kinds, taken_of, IsTaken, AreAllFalse, BothAct}

-- the guard of this case is false at the two operations
abbrev IsFalseAt : Op → Op → GuardedCase → Type 0
IsFalseAt a b c = holds_of c.guard a b ≡ false

-- the first of some cases whose guard is true is at this place
record IsFirst (cs : List GuardedCase) (a b : Op) (i : ℕ) : Type 0 where
  pub case : GuardedCase
  pub there : slice_get cs i ≡ Some case
  pub holds : holds_of case.guard a b ≡ true
  pub no_earlier : (j : ℕ) (earlier : GuardedCase) → j < i → slice_get cs j ≡ Some earlier → IsFalseAt a b earlier
  pub comes_to : first_result cs a b ≡ Some (result_of case.res a b)

-- behind a case whose guard is false
no_earlier_behind :
    (c : GuardedCase) (cs : List GuardedCase) (a b : Op) (i : ℕ) → IsFalseAt a b c
    → ((j : ℕ) (earlier : GuardedCase) → j < i → slice_get cs j ≡ Some earlier → IsFalseAt a b earlier)
    → (j : ℕ) (earlier : GuardedCase) → j < suc i → slice_get (c ∷ cs) j ≡ Some earlier → IsFalseAt a b earlier
no_earlier_behind c cs a b i here_false rest zero earlier below there =
    subst (λ x. IsFalseAt a b x) (same_Some c earlier there) here_false
no_earlier_behind c cs a b i here_false rest (suc j) earlier below there = rest j earlier (omega (arith, below)) there

-- the case that is found is the first
found_first : (cs : List GuardedCase) (a b : Op) (n m : ℕ) → first_true n cs a b ≡ Some m
    → (i : ℕ) × (m ≡ n + i) × IsFirst cs a b i
found_first [] a b n m e = absurd (none-some m e)
found_first (c ∷ cs) a b n m e =
    elim (cases_Bool (holds_of c.guard a b)) [
      | inl here_true ↦
          let here : Some n ≡ Some m = rw here_true at e in
          let same : n ≡ m = same_Some n m here in (
            0,
            omega (arith, same),
            record {
              case = c;
              there = refl;
              holds = here_true;
              no_earlier = λ j earlier below there. absurd (omega (arith, below));
              comes_to = rw here_true refl;
            },
          )
      | inr here_false ↦
          let later = found_first cs a b (n + 1) m (rw here_false at e) in
          let place : m ≡ n + 1 + later.0 = later.1 in (
            suc later.0,
            omega (arith, place),
            record {
              case = later.2.case;
              there = later.2.there;
              holds = later.2.holds;
              no_earlier = no_earlier_behind c cs a b later.0 here_false later.2.no_earlier;
              comes_to = rw here_false later.2.comes_to;
            },
          )
    ]

-- the first is the one that is found
first_found :
    (cs : List GuardedCase) (a b : Op) (n i : ℕ) (case : GuardedCase) → slice_get cs i ≡ Some case
    → holds_of case.guard a b ≡ true
    → ((j : ℕ) (earlier : GuardedCase) → j < i → slice_get cs j ≡ Some earlier → IsFalseAt a b earlier)
    → first_true n cs a b ≡ Some (n + i)
first_found [] a b n i case there holds no_earlier = absurd (none-some case there)
first_found (c ∷ cs) a b n zero case there holds no_earlier =
    let here_true : holds_of c.guard a b ≡ true =
    subst (λ x. holds_of x.guard a b ≡ true) (sym (same_Some c case there)) holds in
    let same : n ≡ n + 0 = omega arith in
    rw here_true (ap Some same)
first_found (c ∷ cs) a b n (suc i) case there holds no_earlier =
    let here_false : IsFalseAt a b c = no_earlier 0 c (omega arith) refl in
    let same : n + 1 + i ≡ n + suc i = omega arith in
    let later = first_found cs a b (n + 1) i case there holds
    (λ j earlier below at. no_earlier (suc j) earlier (omega (arith, below)) at) in
    rw here_false (later ∙ ap Some same)

-- where none is found, each guard is false
none_found : (cs : List GuardedCase) (a b : Op) (n : ℕ) → first_true n cs a b ≡ None
    → AllByRecursion (λ c. holds_of c.guard a b ≡ false) cs
none_found [] a b n e = tt
none_found (c ∷ cs) a b n e =
    elim (cases_Bool (holds_of c.guard a b)) [
      | inl here_true ↦ let here : Some n ≡ None = rw here_true at e in absurd (none-some n (sym here))
      | inr here_false ↦ (here_false, none_found cs a b (n + 1) (rw here_false at e))
    ]

-- and where each is, none is found
all_false_none : (cs : List GuardedCase) (a b : Op) (n : ℕ) → AllByRecursion (λ c. holds_of c.guard a b ≡ false) cs
    → first_true n cs a b ≡ None
all_false_none [] a b n h = refl
all_false_none (c ∷ cs) a b n h = let here_false : IsFalseAt a b c = h.0 in
    rw here_false (all_false_none cs a b (n + 1) h.1)

-- there is no result exactly where each guard is false
no_result : (cs : List GuardedCase) (a b : Op) → first_result cs a b ≡ None
    → AllByRecursion (λ c. holds_of c.guard a b ≡ false) cs
no_result [] a b e = tt
no_result (c ∷ cs) a b e =
    elim (cases_Bool (holds_of c.guard a b)) [
      | inl here_true ↦ let here : Some (result_of c.res a b) ≡ None = rw here_true at e in
          absurd (none-some (result_of c.res a b) (sym here))
      | inr here_false ↦ (here_false, no_result cs a b (rw here_false at e))
    ]

all_false_no_result : (cs : List GuardedCase) (a b : Op) → AllByRecursion (λ c. holds_of c.guard a b ≡ false) cs
    → first_result cs a b ≡ None
all_false_no_result [] a b h = refl
all_false_no_result (c ∷ cs) a b h = let here_false : IsFalseAt a b c = h.0 in
    rw here_false (all_false_no_result cs a b h.1)

-- a case that is named by its kinds and its number
abbrev named : Kind → Kind → ℕ → Taken
named k l n = record { first = k; second = l; number = n }

module _ (f : Function) (a b : Op) where
  -- the first case of the block is taken
  taken_first : (k l : Kind) (n : ℕ) → kind_of a ≡ Some k → kind_of b ≡ Some l → IsFirst (cases_of f k l) a b n
      → IsTaken f a b (named k l n)
  taken_first k l n p q first = record {
    first = p;
    second = q;
    case = first.case;
    there = first.there;
    holds = first.holds;
    no_earlier = first.no_earlier;
    comes_to = rw p (rw q first.comes_to);
  }

  taken_at :
      (k l : Kind) (t : Taken) (found : Option ℕ) → kind_of a ≡ Some k → kind_of b ≡ Some l
      → first_true 0 (cases_of f k l) a b ≡ found → option_map (λ n. named k l n) found ≡ Some t → IsTaken f a b t
  taken_at k l t None p q is e = absurd (none-some t e)
  taken_at k l t (Some m) p q is e =
      let first = found_first (cases_of f k l) a b 0 m is in
      let place : m ≡ 0 + first.0 = first.1 in
      let same : first.0 ≡ m = omega (arith, place) in
      subst (λ x. IsTaken f a b x) (same_Some (named k l m) t e)
      (taken_first k l m p q (subst (λ n. IsFirst (cases_of f k l) a b n) same first.2))

  taken_kinds : (t : Taken) (k l : Option Kind) → kind_of a ≡ k → kind_of b ≡ l
      → taken_by_kinds f a b k l ≡ Some t → IsTaken f a b t
  taken_kinds t None l p q e = absurd (none-some t e)
  taken_kinds t (Some k) None p q e = absurd (none-some t e)
  taken_kinds t (Some k) (Some l) p q e = taken_at k l t (first_true 0 (cases_of f k l) a b) p q refl e

  -- what is taken is so
  pub taken_is : (t : Taken) → taken_of f a b ≡ Some t → IsTaken f a b t
  taken_is t e = taken_kinds t (kind_of a) (kind_of b) refl refl e

  -- what is so is taken
  pub is_taken : (t : Taken) → IsTaken f a b t → taken_of f a b ≡ Some t
  is_taken t h =
      let found = first_found (cases_of f t.first t.second) a b 0 t.number h.case h.there h.holds h.no_earlier in
      let same : 0 + t.number ≡ t.number = omega arith in
      let here : first_true 0 (cases_of f t.first t.second) a b ≡ Some t.number = found ∙ ap Some same in
      rw h.first (rw h.second (rw here refl))

  none_by_kinds : (k l : Kind) (found : Option ℕ) → first_true 0 (cases_of f k l) a b ≡ found
      → option_map (λ n. named k l n) found ≡ None
      → AllByRecursion (λ c. holds_of c.guard a b ≡ false) (cases_of f k l)
  none_by_kinds k l None is e = none_found (cases_of f k l) a b 0 is
  none_by_kinds k l (Some n) is e = absurd (none-some (named k l n) (sym e))

  -- where none is taken, each guard is false
  pub none_taken : taken_of f a b ≡ None → AreAllFalse f a b
  none_taken e = λ k l p q.
      let here : option_map (λ n. named k l n) (first_true 0 (cases_of f k l) a b) ≡ None = rw q at (rw p at e) in
      none_by_kinds k l (first_true 0 (cases_of f k l) a b) refl here

  untaken_kinds : (k l : Option Kind) → kind_of a ≡ k → kind_of b ≡ l → AreAllFalse f a b
      → taken_by_kinds f a b k l ≡ None
  untaken_kinds None l p q h = refl
  untaken_kinds (Some k) None p q h = refl
  untaken_kinds (Some k) (Some l) p q h = rw (all_false_none (cases_of f k l) a b 0 (h k l p q)) refl

  -- and where each is, none is taken
  pub all_false_untaken : AreAllFalse f a b → taken_of f a b ≡ None
  all_false_untaken h = untaken_kinds (kind_of a) (kind_of b) refl refl h

  undefined_kinds :
      (k l : Option Kind) → transform_by_kinds f a b k l ≡ None
      → (x : Kind) × (y : Kind) × (k ≡ Some x) × (l ≡ Some y) × (first_result (cases_of f x y) a b ≡ None)
  undefined_kinds None l e = absurd (none-some Nop (sym e))
  undefined_kinds (Some k) None e = absurd (none-some a (sym e))
  undefined_kinds (Some k) (Some l) e = (k, l, refl, refl, e)

  -- an operation with a kind is not nop
  acts : (o : Op) (k : Kind) → kind_of o ≡ Some k → o ≢ Nop
  acts o k p = λ nop. none-some k (sym (ap kind_of nop) ∙ p)

  -- a transformation that has here_false result is of two operations that are not nop, and each guard is false
  pub undefined_all_false : transform_of f a b ≡ None → BothAct a b × AreAllFalse f a b
  undefined_all_false e =
      let none = undefined_kinds (kind_of a) (kind_of b) e in
      let each = no_result (cases_of f none.0 none.1) a b none.4 in (
        (acts a none.0 none.2, acts b none.1 none.3),
        λ k l p q.
            subst (λ x. AllByRecursion (λ c. holds_of c.guard a b ≡ false) (cases_of f k x))
            (same_Some none.1 l (sym none.3 ∙ q))
            (subst (λ x. AllByRecursion (λ c. holds_of c.guard a b ≡ false) (cases_of f x none.1))
            (same_Some none.0 k (sym none.2 ∙ p)) each),
      )

-- an operation that is not nop has a kind
kind_there : (o : Op) → o ≢ Nop → (k : Kind) × (kind_of o ≡ Some k)
kind_there (Ins at ch site) act = (_, refl)
kind_there (Del at site) act = (_, refl)
kind_there (Upd at ch site) act = (_, refl)
kind_there Nop act = absurd (act refl)

pub all_false_undefined : (f : Function) (a b : Op) → BothAct a b × AreAllFalse f a b → transform_of f a b ≡ None
all_false_undefined f a b h =
    let first = kind_there a h.0.0 in
    let second = kind_there b h.0.1 in
    rw first.1
    (rw second.1 (all_false_no_result (cases_of f first.0 second.0) a b (h.1 first.0 second.0 first.1 second.1)))

-- what is told of a case that is taken
pub told_some : (f : Function) (a b : Op) (result : Option Taken) → result ≡ taken_of f a b
    → IfSome result (IsTaken f a b)
told_some f a b None e = tt
told_some f a b (Some t) e = taken_is f a b t (sym e)

pub told_none : (f : Function) (a b : Op) (result : Option Taken) → result ≡ taken_of f a b
    → IfNone result (AreAllFalse f a b)
told_none f a b None e = none_taken f a b (sym e)
told_none f a b (Some t) e = tt
