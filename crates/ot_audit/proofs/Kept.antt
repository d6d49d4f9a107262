-- The plans of goals about guards keep the limits of plans, and compare like with like.
use Rattle.std.proofs.Common.{◌≡◌, ℕ, ◌+◌, ◌*◌, ◌<◌, ◌≤◌, ℤ, pos, Bool, true, ◌&&◌, nat_le, IsTrue, Option, Some, None}
use Rattle.std.proofs.Common.{List, [], ◌∷◌, length, take, refl, sym, subst, arith, lit<, lit≤}
use Rattle.std.specs.Prelude.{slice_get}
use Rattle.std.specs.List.{AllByRecursion, list_all, sum_by}
use Rattle.std.proofs.lemmas.Bool.{and_parts}
use Rattle.std.proofs.lemmas.Bool.Decides.{nat_tests}
use Rattle.std.proofs.lemmas.Int.{ints}
use Rattle.std.proofs.lemmas.List.{length-take}
use Rattle.std.proofs.lemmas.List.Sums.{sum_by-cons}
use Rattle.ot_model.specs.declared.op.Kind.{Kind}
use Rattle.ot_model.specs.declared.op.Kind.TheVariants as kinds
use Rattle.ot_model.specs.Kinds.{kind_pairs}
use Rattle.fn_rules.specs.declared.function.Head.{Head}
use Rattle.fn_rules.specs.declared.guard.Sort.{Sort}
use Rattle.fn_rules.specs.declared.guard.Sort.TheVariants.{Pos, Site, Char}
use Rattle.fn_rules.specs.declared.guard.Tightness.TheVariants.{Loose}
use Rattle.fn_rules.specs.declared.limits.TheConstants.{MAX_CASES, MAX_ATOMS, MAX_NESTING}
use Rattle.fn_rules.specs.Atoms.{guard_atoms, block_atoms, function_atoms}
use Rattle.fn_rules.specs.Formulas.{Formula, Always, Compare, And, Or, Not}
use Rattle.fn_rules.specs.Functions.{Function, GuardedCase, cases_of}
use Rattle.fn_rules.specs.Validity.{has_valid_atoms, atoms_of, nesting_of, is_valid_res, is_valid_case, are_valid_cases}
use Rattle.fn_rules.specs.Validity.{compares_chars, is_valid}
use Rattle.ask_core.specs.Plans as plans
use Rattle.ask_core.specs.Plans.{Plan}
use Rattle.ot_questions.specs.declared.name.Who.{Who}
use Rattle.ot_questions.specs.declared.name.Who.TheVariants.{A, B}
use Rattle.ot_questions.specs.declared.place.Place.{Place}
use Rattle.ot_questions.specs.declared.place.SymOp.{SymOp}
use Rattle.ot_questions.specs.declared.why.Why.{Why}
use Rattle.ot_questions.specs.Asked.{IsBelow, IsKept, OpStands, PlaceStands}
use Rattle.ot_questions.specs.Names.{position_name, site_name, char_name}
use Rattle.ot_questions.specs.Nears.{IsNear}
use Rattle.ot_questions.specs.Obligation.{ask_same_form}
use Rattle.ot_questions.specs.Places.{place, zero_place, sym_op, sym_kind}
use Rattle.ot_questions.specs.Questions.{ask_le, ask_guard, ask_result, ask_allowed, ask_lt, ask_eq}
use Rattle.ot_terms.specs.Goals.{GoalTree, Holds, If}
use Rattle.ot_terms.specs.Placing.{guard_form}
use Rattle.ot_terms.specs.Standing.{ask_form, ask_goal}
use Rattle.ot_terms.specs.Starting.{if_allowed}
use Rattle.ot_audit.specs.declared.target.Target.{Target}
use Rattle.ot_audit.specs.declared.target.Target.TheVariants.{Case, Open}
use Rattle.ot_audit.specs.Goals.{found, if_there, if_meant, unless_true, at_own, at_target, target_goal}
use Rattle.ot_audit.specs.Goals.{with_first_result, unless_same, unless_agreed, difference_goal}
use Rattle.ot_audit.proofs.Ends.{AsksGuard, AsksAllowed}
use Rattle.ot_audit.proofs.Differences.{ask_goal-unless_one_place, left_asked, right_asked}
use Rattle.ot_audit.proofs.Names.{IfThere, all_taken, all_got}

-- what the laws of the questions say
abbrev pub StandsNamed : Type 0
StandsNamed =
    (count : ℕ) (k : Kind) (who : Who) → position_name who < count → site_name who < count → char_name who < count
    → OpStands (IsBelow count) 0 (sym_op k who)

abbrev pub KeepsComparison : Type 0
KeepsComparison =
    (count m : ℕ) (sort : Sort) (a b : Place) (p q : Plan Why) → 2 < count → PlaceStands (IsBelow count) 500 sort a
    → PlaceStands (IsBelow count) 500 sort b → IsKept count m p → IsKept count m q
    → IsKept count (m + 1) (ask_le a b p q)

abbrev pub KeepsGuard : Type 0
KeepsGuard =
    (count m : ℕ) (k l : Kind) (g : Formula) (a b : SymOp) (p q : Plan Why) → 2 < count
    → sym_kind a ≡ Some k → sym_kind b ≡ Some l
    → OpStands (IsBelow count) 200 a → OpStands (IsBelow count) 200 b → IsTrue (has_valid_atoms (compares_chars k l) g)
    → IsKept count m p → IsKept count m q → IsKept count (m + 2 * guard_atoms g) (ask_guard g a b p q)

abbrev pub KeepsResult : Type 0
KeepsResult =
    (count m n : ℕ) (f : Function) (a b : SymOp) (go : Option SymOp → Plan Why) → 2 < count
    → IsTrue (is_valid f) → n ≤ 200
    → OpStands (IsBelow count) n a → OpStands (IsBelow count) n b → IsKept count m (go None)
    → ((r : SymOp) → OpStands (IsBelow count) (n + 99) r → IsKept count m (go (Some r)))
    → IsKept count (m + 2 * function_atoms f) (ask_result f a b go)

abbrev pub KeepsAllowed : Type 0
KeepsAllowed =
    (count m n : ℕ) (head : Head) (a b : SymOp) (p : Plan Why) → 2 < count → OpStands (IsBelow count) n a
    → OpStands (IsBelow count) n b → IsKept count m p → IsKept count (m + 4) (ask_allowed head a b p)

abbrev pub KeepsOneForm : Type 0
KeepsOneForm =
    (count : ℕ) (a b : SymOp) → 2 < count → OpStands (IsBelow count) 500 a → OpStands (IsBelow count) 500 b
    → IsKept count 2 (ask_same_form a b)

abbrev pub ValidCases : Type 0
ValidCases = (f : Function) (k l : Kind) → IsTrue (is_valid f)
    → IsTrue (are_valid_cases (compares_chars k l) (cases_of f k l))

-- a guard of a valid case: its atoms are valid, and few
abbrev pub IsSmallCase : Bool → GuardedCase → Type 0
IsSmallCase chars c = (has_valid_atoms chars c.guard ≡ true) × (guard_atoms c.guard ≤ 16)

guard_atoms-atoms_of : (g : Formula) → guard_atoms g ≤ atoms_of g
guard_atoms-atoms_of Always = omega arith
guard_atoms-atoms_of (Compare atom) = omega arith
guard_atoms-atoms_of (And g h) = omega (arith, guard_atoms-atoms_of g, guard_atoms-atoms_of h)
guard_atoms-atoms_of (Or g h) = omega (arith, guard_atoms-atoms_of g, guard_atoms-atoms_of h)
guard_atoms-atoms_of (Not g) = guard_atoms-atoms_of g

le_by_test : (x y : ℕ) → nat_le x y ≡ true → x ≤ y
le_by_test x y e = grind (arith, nat_tests)

small_case : (chars : Bool) (c : GuardedCase) → is_valid_case chars c ≡ true → IsSmallCase chars c
small_case chars c e =
    let atoms = has_valid_atoms chars c.guard in
    let few = nat_le (atoms_of c.guard) MAX_ATOMS in
    let flat = nat_le (nesting_of Loose c.guard) MAX_NESTING in
    let both = and_parts atoms few
    (and_parts (atoms && few) flat (and_parts (atoms && few && flat) (is_valid_res c.res) e).0).0 in
    let most = le_by_test (atoms_of c.guard) 16 both.1 in
    (both.0, omega (arith, guard_atoms-atoms_of c.guard))

small_cases : (chars : Bool) (cs : List GuardedCase) → list_all (is_valid_case chars) cs ≡ true
    → AllByRecursion (IsSmallCase chars) cs
small_cases chars [] e = tt
small_cases chars (c ∷ cs) e =
    let both = and_parts (is_valid_case chars c) (list_all (is_valid_case chars) cs) e in
    (small_case chars c both.0, small_cases chars cs both.1)

-- of a valid block: at most 64 such cases
pub small_block :
    (chars : Bool) (cs : List GuardedCase) → are_valid_cases chars cs ≡ true
    → (length cs ≤ 64) × AllByRecursion (IsSmallCase chars) cs
small_block chars cs e =
    let both = and_parts (nat_le (length cs) MAX_CASES) (list_all (is_valid_case chars) cs) e in
    (le_by_test (length cs) 64 both.0, small_cases chars cs both.1)

-- how many atoms a function can have
block_atoms-small : (chars : Bool) (cs : List GuardedCase) → AllByRecursion (IsSmallCase chars) cs
    → block_atoms cs ≤ 16 * length cs
block_atoms-small chars [] small = omega arith
block_atoms-small chars (c ∷ cs) small =
    let few = small.0.1 in
    omega (arith, sum_by-cons (λ (d : GuardedCase). guard_atoms d.guard) c cs, block_atoms-small chars cs small.1)

sum_few : (f : Kind × Kind → ℕ) (xs : List (Kind × Kind)) → ((x : Kind × Kind) → f x ≤ 1024)
    → sum_by f xs ≤ 1024 * length xs
sum_few f [] each = omega arith
sum_few f (x ∷ xs) each =
    let here = each x in
    let others = sum_few f xs each in
    omega (arith, sum_by-cons f x xs)

nine_pairs : length kind_pairs ≡ 9
nine_pairs = refl

module _ (valid_cases : ValidCases) where
  few_of_pair : (f : Function) → is_valid f ≡ true → (pair : Kind × Kind)
      → block_atoms (cases_of f pair.0 pair.1) ≤ 1024
  few_of_pair f valid pair =
      let block = small_block (compares_chars pair.0 pair.1) (cases_of f pair.0 pair.1)
      (valid_cases f pair.0 pair.1 valid) in
      let short = block.0 in
      let few = block_atoms-small (compares_chars pair.0 pair.1) (cases_of f pair.0 pair.1) block.1 in
      omega arith

  pub few_atoms : (f : Function) → is_valid f ≡ true → function_atoms f ≤ 9216
  few_atoms f valid =
      let sum = sum_few (λ pair. block_atoms (cases_of f pair.0 pair.1)) kind_pairs (few_of_pair f valid) in
      let nine = nine_pairs in
      omega arith

pub longer_kept : (m n : ℕ) (p : Plan Why) → m ≤ n → IsKept 9 m p → IsKept 9 n p
longer_kept m n p more kept = let short = kept.short in record { asked = kept.asked; short = omega arith }

pub holds_kept : (m : ℕ) → IsKept 9 m plans.Holds
holds_kept m = record { asked = tt; short = omega arith }

pub fails_kept : (m : ℕ) (why : Why) → IsKept 9 m (plans.Fails why)
fails_kept m why = record { asked = tt; short = omega arith }

pub kind_of_named : (k : Kind) (who : Who) → sym_kind (sym_op k who) ≡ Some k
kind_of_named kinds.Ins who = refl
kind_of_named kinds.Del who = refl
kind_of_named kinds.Upd who = refl

-- an operation stands also where it may be further away

stands_wider :
    (m n : ℕ) (sort : Sort) (p : Place) → ((off : ℤ) → IsNear m off → IsNear n off) → PlaceStands (IsBelow 9) m sort p
    → PlaceStands (IsBelow 9) n sort p
stands_wider m n sort p wider h = record { is = h.is; free = h.free; steady = h.steady; near = wider p.off h.near }

pub op_wider :
    (m n : ℕ) (o : SymOp) → ((off : ℤ) → IsNear m off → IsNear n off) → OpStands (IsBelow 9) m o
    → OpStands (IsBelow 9) n o
op_wider m n o wider h = record {
  at = stands_wider m n Pos _ wider h.at;
  site = λ s e. stands_wider m n Site (place s (pos 0)) wider (h.site s e);
  ch = λ c e. stands_wider m n Char (place c (pos 0)) wider (h.ch c e);
}

wider_0_200 : (off : ℤ) → IsNear 0 off → IsNear 200 off
wider_0_200 off near = record { low = omega (arith, ints, near.low); high = omega (arith, ints, near.high) }

pub wider_99_500 : (off : ℤ) → IsNear 99 off → IsNear 500 off
wider_99_500 off near = record { low = omega (arith, ints, near.low); high = omega (arith, ints, near.high) }

pub near_zero : IsNear 500 (pos 0)
near_zero = record { low = omega (arith, ints); high = omega (arith, ints) }

module _ (named : StandsNamed) (comparison : KeepsComparison) (guard : KeepsGuard)
    (allowed : KeepsAllowed) (asks_guard : AsksGuard)
    (asks_allowed : AsksAllowed)
    (f : Function) (k l : Kind) where
  abbrev first_op : SymOp
  first_op = sym_op k A

  abbrev second_op : SymOp
  second_op = sym_op l B

  pub first_stands : OpStands (IsBelow 9) 0 first_op
  first_stands = named 9 k A (lit< tt) (lit< tt) (lit< tt)

  pub second_stands : OpStands (IsBelow 9) 0 second_op
  second_stands = named 9 l B (lit< tt) (lit< tt) (lit< tt)

  there_kept :
      (m : ℕ) (who : Who) (next : GoalTree) → PlaceStands (IsBelow 9) 500 Pos (place (position_name who) (pos 0))
      → IsKept 9 m (ask_goal f next) → IsKept 9 (m + 1) (ask_goal f (if_there who next))
  unfolding ask_goal ask_form ask_le ask_lt ask_eq
  there_kept m who next at kept =
      comparison 9 m Pos zero_place (place (position_name who) (pos 0)) (ask_goal f next) plans.Holds (lit< tt)
      (record { is = refl; free = lit< tt; steady = tt; near = near_zero }) at kept (holds_kept m)

  allowed_kept :
      (m : ℕ) (next : GoalTree) → IsKept 9 m (ask_goal f next)
      → IsKept 9 (m + 4) (ask_goal f (if_allowed f.head first_op second_op next))
  allowed_kept m next kept =
      subst (λ p. IsKept 9 (m + 4) p) (sym (asks_allowed f first_op second_op next))
      (allowed 9 m 0 f.head first_op second_op (ask_goal f next) (lit< tt) first_stands second_stands kept)

  pub meant_kept :
      (m : ℕ) (next : GoalTree) → IsKept 9 m (ask_goal f next)
      → IsKept 9 (m + 4 + 1 + 1) (ask_goal f (if_meant f.head first_op second_op next))
  meant_kept m next kept =
      there_kept (m + 4 + 1) A (if_there B (if_allowed f.head first_op second_op next))
      (record { is = refl; free = lit< tt; steady = tt; near = near_zero })
      (there_kept (m + 4) B (if_allowed f.head first_op second_op next)
      (record { is = refl; free = lit< tt; steady = tt; near = near_zero }) (allowed_kept m next kept))

  -- the guard of a case adds at most 32 questions
  guard_kept :
      (m : ℕ) (c : GuardedCase) (first second : GoalTree) → IsSmallCase (compares_chars k l) c
      → IsKept 9 m (ask_goal f first)
      → IsKept 9 m (ask_goal f second)
      → IsKept 9 (m + 32) (ask_goal f (If (guard_form c.guard first_op second_op) first second))
  unfolding ask_goal
  guard_kept m c first second small on_yes on_no =
      let few = small.1 in
      longer_kept (m + 2 * guard_atoms c.guard) (m + 32) _ (omega arith)
      (subst (λ p. IsKept 9 (m + 2 * guard_atoms c.guard) p)
      (sym (asks_guard c.guard first_op second_op (ask_goal f first) (ask_goal f second)))
      (guard 9 m k l c.guard first_op second_op (ask_goal f first) (ask_goal f second) (lit< tt)
      (kind_of_named k A) (kind_of_named l B)
      (op_wider 0 200 first_op wider_0_200 first_stands)
      (op_wider 0 200 second_op wider_0_200 second_stands) small.0 on_yes on_no))

  holds_goal_kept : (m : ℕ) → IsKept 9 m (ask_goal f Holds)
  unfolding ask_goal
  holds_goal_kept m = holds_kept m

  found_kept : (m : ℕ) → IsKept 9 m (ask_goal f found)
  unfolding ask_goal
  found_kept m = fails_kept m _

  unless_true_kept :
      (m : ℕ) (cs : List GuardedCase) (next : GoalTree) → AllByRecursion (IsSmallCase (compares_chars k l)) cs
      → IsKept 9 m (ask_goal f next)
      → IsKept 9 (m + 32 * length cs) (ask_goal f (unless_true cs first_op second_op next))
  unless_true_kept m [] next small kept = longer_kept m (m + 32 * 0) _ (omega arith) kept
  unless_true_kept m (c ∷ cs) next small kept =
      longer_kept (m + 32 * length cs + 32) (m + 32 * length (c ∷ cs)) _ (omega arith)
      (guard_kept (m + 32 * length cs) c Holds (unless_true cs first_op second_op next) small.0
      (holds_goal_kept (m + 32 * length cs)) (unless_true_kept m cs next small.1 kept))

  own_kept :
      (o : Option GuardedCase) → IfThere (IsSmallCase (compares_chars k l)) o
      → IsKept 9 32 (ask_goal f (at_own o first_op second_op))
  own_kept None small = holds_goal_kept 32
  own_kept (Some c) small =
      longer_kept (0 + 32) 32 _ (omega arith) (guard_kept 0 c found Holds small (found_kept 0) (holds_goal_kept 0))

  reached_kept :
      (cs : List GuardedCase) (target : Target) → length cs ≤ 64 → AllByRecursion (IsSmallCase (compares_chars k l)) cs
      → IsKept 9 2080 (ask_goal f (at_target cs target first_op second_op))
  reached_kept cs (Case i) few small =
      longer_kept (32 + 32 * length (take i cs)) 2080 _ (omega (arith, length-take i cs))
      (unless_true_kept 32 (take i cs) (at_own (slice_get cs i) first_op second_op)
      (all_taken (IsSmallCase (compares_chars k l)) cs i small)
      (own_kept (slice_get cs i) (all_got (IsSmallCase (compares_chars k l)) cs i small)))
  reached_kept cs Open few small =
      longer_kept (32 + 32 * length cs) 2080 _ (omega arith) (unless_true_kept 32 cs found small (found_kept 32))

  pub target_kept :
      ValidCases → (target : Target) → is_valid f ≡ true → IsKept 9 2086 (ask_goal f (target_goal f k l target))
  target_kept valid_cases target valid =
      let block = small_block (compares_chars k l) (cases_of f k l) (valid_cases f k l valid) in
      meant_kept 2080 (at_target (cases_of f k l) target first_op second_op)
      (reached_kept (cases_of f k l) target block.0 block.1)

  -- the results of two functions
  module _ (result : KeepsResult) (one_form : KeepsOneForm) (g : Function) where
    same_kept :
        (x y : Option SymOp) → ((r : SymOp) → x ≡ Some r → OpStands (IsBelow 9) 99 r)
        → ((r : SymOp) → y ≡ Some r → OpStands (IsBelow 9) 99 r)
        → IsKept 9 2 (ask_goal f (unless_same x y))
    same_kept None None hx hy = holds_goal_kept 2
    same_kept None (Some y) hx hy = found_kept 2
    same_kept (Some x) None hx hy = found_kept 2
    same_kept (Some x) (Some y) hx hy =
        subst (λ p. IsKept 9 2 p) (sym (ask_goal-unless_one_place f x y))
        (one_form 9 x y (lit< tt) (op_wider 99 500 x wider_99_500 (hx x refl))
        (op_wider 99 500 y wider_99_500 (hy y refl)))

    none_there : (r : SymOp) → None ≡ Some r → OpStands (IsBelow 9) 99 r
    none_there r e = absurd (cc)

    one_there : (x : SymOp) → OpStands (IsBelow 9) 99 x → (r : SymOp) → Some x ≡ Some r → OpStands (IsBelow 9) 99 r
    one_there x h r e = let same : x ≡ r = cc in subst (λ o. OpStands (IsBelow 9) 99 o) same h

    right_kept :
        (x : Option SymOp) → is_valid g ≡ true → ((r : SymOp) → x ≡ Some r → OpStands (IsBelow 9) 99 r)
        → IsKept 9 (2 + 2 * function_atoms g)
        (ask_goal f (with_first_result (cases_of g k l) first_op second_op (λ y. unless_same x y)))
    right_kept x valid hx =
        subst (λ p. IsKept 9 (2 + 2 * function_atoms g) p) (sym (right_asked asks_guard f f g k l x))
        (result 9 2 0 g first_op second_op (λ y. ask_goal f (unless_same x y)) (lit< tt) valid (lit≤ tt) first_stands
        second_stands (same_kept x None hx none_there) (λ r hr. same_kept x (Some r) hx (one_there r hr)))

    agreed_kept :
        is_valid f ≡ true → is_valid g ≡ true
        → IsKept 9 (2 + 2 * function_atoms g + 2 * function_atoms f)
        (ask_goal f (unless_agreed (cases_of f k l) (cases_of g k l) first_op second_op))
    agreed_kept valid other_valid =
        subst (λ p. IsKept 9 (2 + 2 * function_atoms g + 2 * function_atoms f) p)
        (sym (left_asked asks_guard f f g k l)) (result 9 (2 + 2 * function_atoms g) 0 f first_op second_op
        (λ x. ask_goal f (with_first_result (cases_of g k l) first_op second_op (λ y. unless_same x y))) (lit< tt)
        valid (lit≤ tt) first_stands
        second_stands (right_kept None other_valid none_there)
        (λ r hr. right_kept (Some r) other_valid (one_there r hr)))

    pub difference_kept :
        ValidCases → is_valid f ≡ true → is_valid g ≡ true → IsKept 9 36872 (ask_goal f (difference_goal f g k l))
    difference_kept valid_cases valid other_valid =
        let few = few_atoms valid_cases f valid in
        let other_few = few_atoms valid_cases g other_valid in
        longer_kept (2 + 2 * function_atoms g + 2 * function_atoms f + 4 + 1 + 1) 36872 _ (omega arith)
        (meant_kept (2 + 2 * function_atoms g + 2 * function_atoms f)
        (unless_agreed (cases_of f k l) (cases_of g k l) first_op second_op) (agreed_kept valid other_valid))
