-- The plans of goals keep the limits of plans, and compare like with like.
use Rattle.std.proofs.Common.{◌≡◌, ℕ, ◌+◌, ◌*◌, ◌<◌, ℤ, pos, true, Option, Some, None, List, [], ◌∷◌, refl, sym, subst}
use Rattle.std.proofs.Common.{arith, lit<, lit≤}
use Rattle.std.proofs.lemmas.Int.{ints}
use Rattle.ot_model.specs.declared.op.Kind.{Kind}
use Rattle.ot_model.specs.declared.op.Kind.TheVariants as kinds
use Rattle.fn_rules.specs.declared.function.Res.{Res}
use Rattle.fn_rules.specs.declared.function.Res.TheVariants as results
use Rattle.fn_rules.specs.declared.guard.Sort.TheVariants.{Pos}
use Rattle.fn_rules.specs.Atoms.{function_atoms}
use Rattle.fn_rules.specs.Functions.{Function, GuardedCase, cases_of}
use Rattle.fn_rules.specs.Validity.{is_valid}
use Rattle.ask_core.specs.Plans as plans
use Rattle.ask_core.specs.Plans.{Plan}
use Rattle.ot_questions.specs.declared.name.Who.TheVariants.{A, B}
use Rattle.ot_questions.specs.declared.place.SymOp.{SymOp}
use Rattle.ot_questions.specs.declared.why.Why.{Why}
use Rattle.ot_questions.specs.Asked.{IsBelow, IsKept, OpStands}
use Rattle.ot_questions.specs.Nears.{IsNear}
use Rattle.ot_questions.specs.Places.{length_and, sym_kind, sym_op, sym_result, zero_place}
use Rattle.ot_questions.specs.Questions.{ask_enabled, ask_le, ask_lt, ask_eq}
use Rattle.ot_terms.specs.Goals.{GoalTree, Holds}
use Rattle.ot_terms.specs.Standing.{ask_form, ask_goal}
use Rattle.ot_terms.specs.Starting.{if_allowed, if_enabled, if_length}
use Rattle.ot_terms.proofs.Starts.{ask_form-enabled_form}
use Rattle.ot_audit.specs.Goals.{with_first_result}
use Rattle.ot_audit.proofs.Asked.{ask_goal-if_allowed}
use Rattle.ot_audit.proofs.Differences.{ask_goal-unless_one_place}
use Rattle.ot_audit.proofs.Kept.{KeepsAllowed, KeepsComparison, KeepsOneForm, KeepsResult, StandsNamed, ValidCases}
use Rattle.ot_audit.proofs.Kept.{fails_kept, few_atoms, holds_kept, kind_of_named, longer_kept, near_zero, op_wider}
use Rattle.ot_reverse.specs.Goals.{reversal_goal, undefined, unless_back, unless_itself, unless_taken_back}
use Rattle.ot_reverse.specs.Goals.{unless_there}
use Rattle.ot_reverse.proofs.Ends.{back_asked}

abbrev pub KeepsEnabled : Type 0
KeepsEnabled =
    (count m : ℕ) (a : SymOp) (off : ℤ) (p q : Plan Why) → 2 < count → IsNear 499 off → OpStands (IsBelow count) 499 a
    → IsKept count m p → IsKept count m q → IsKept count (m + 2) (ask_enabled a off p q)

wider_0_499 : (off : ℤ) → IsNear 0 off → IsNear 499 off
wider_0_499 off near = record { low = omega (arith, ints, near.low); high = omega (arith, ints, near.high) }

wider_0_99 : (off : ℤ) → IsNear 0 off → IsNear 99 off
wider_0_99 off near = record { low = omega (arith, ints, near.low); high = omega (arith, ints, near.high) }

wider_0_500 : (off : ℤ) → IsNear 0 off → IsNear 500 off
wider_0_500 off near = record { low = omega (arith, ints, near.low); high = omega (arith, ints, near.high) }

wider_198_500 : (off : ℤ) → IsNear 198 off → IsNear 500 off
wider_198_500 off near = record { low = omega (arith, ints, near.low); high = omega (arith, ints, near.high) }

near_499 : IsNear 499 (pos 0)
near_499 = record { low = omega (arith, ints); high = omega (arith, ints) }

-- the same goals by the block of the form's kind, whichever that is
abbrev back_by : Function → Kind → SymOp → SymOp → SymOp → Option Kind → GoalTree
back_by e l a b there None = Holds
back_by e l a b there (Some j) = with_first_result (cases_of e j l) there b (unless_itself a)

abbrev there_by : Function → Kind → SymOp → SymOp → Option SymOp → GoalTree
there_by e l a b None = undefined
there_by e l a b (Some there) = back_by e l a b there (sym_kind there)

module _ (e : Function) (l : Kind) (b : SymOp) where
  -- a result of a named operation is nop or of its kind
  one_back :
      (k : Kind) (res : Res)
      → unless_back (cases_of e k l) (sym_op k A) b (sym_result res (sym_op k A) b)
      (sym_kind (sym_result res (sym_op k A) b))
      ≡ back_by e l (sym_op k A) b (sym_result res (sym_op k A) b) (sym_kind (sym_result res (sym_op k A) b))
  one_back kinds.Ins (results.Keep base off) = refl
  one_back kinds.Del (results.Keep base off) = refl
  one_back kinds.Upd (results.Keep base off) = refl
  one_back k results.Nop = refl

  one_goal :
      (h : Function) (k : Kind) (cs : List GuardedCase)
      → with_first_result cs (sym_op k A) b (unless_there (cases_of e k l) (sym_op k A) b)
      ≡ with_first_result cs (sym_op k A) b (there_by e l (sym_op k A) b)
  one_goal h k [] = refl
  one_goal h k (c ∷ cs) =
      let here = one_back k c.res in
      let others = one_goal h k cs in
      cc

module _ (named : StandsNamed) (comparison : KeepsComparison) (enabled : KeepsEnabled) (allowed : KeepsAllowed)
    (result : KeepsResult) (one_form : KeepsOneForm)
    (valid_cases : ValidCases) (f e : Function) (k l : Kind) (valid : is_valid f ≡ true)
    (other_valid : is_valid e ≡ true) where
  abbrev first_op : SymOp
  first_op = sym_op k A

  abbrev second_op : SymOp
  second_op = sym_op l B

  first_stands : OpStands (IsBelow 9) 0 first_op
  first_stands = named 9 k A (lit< tt) (lit< tt) (lit< tt)

  second_stands : OpStands (IsBelow 9) 0 second_op
  second_stands = named 9 l B (lit< tt) (lit< tt) (lit< tt)

  undefined_kept : (m : ℕ) → IsKept 9 m (ask_goal f undefined)
  unfolding ask_goal
  undefined_kept m = fails_kept m _

  holds_goal_kept : (m : ℕ) → IsKept 9 m (ask_goal f Holds)
  unfolding ask_goal
  holds_goal_kept m = holds_kept m

  same_kept : (y : SymOp) → OpStands (IsBelow 9) 198 y → IsKept 9 2 (ask_goal f (unless_itself first_op (Some y)))
  same_kept y stands =
      subst (λ p. IsKept 9 2 p) (sym (ask_goal-unless_one_place f y first_op))
      (one_form 9 y first_op (lit< tt) (op_wider 198 500 y wider_198_500 stands)
      (op_wider 0 500 first_op wider_0_500 first_stands))

  back_kept :
      (there : SymOp) (o : Option Kind) → sym_kind there ≡ o → OpStands (IsBelow 9) 99 there
      → IsKept 9 (2 + 2 * function_atoms e) (ask_goal f (back_by e l first_op second_op there o))
  back_kept there None is stands = holds_goal_kept (2 + 2 * function_atoms e)
  back_kept there (Some j) is stands =
      subst (λ p. IsKept 9 (2 + 2 * function_atoms e) p)
      (sym (back_asked f e there second_op j l (unless_itself first_op) is (kind_of_named l B)))
      (result 9 2 99 e there second_op (λ y. ask_goal f (unless_itself first_op y)) (lit< tt) other_valid (lit≤ tt)
      stands (op_wider 0 99 second_op wider_0_99 second_stands) (undefined_kept 2) same_kept)

  taken_back_kept :
      IsKept 9 (2 + 2 * function_atoms e + 2 * function_atoms f)
      (ask_goal f (unless_taken_back (cases_of f k l) (cases_of e k l) first_op second_op))
  taken_back_kept =
      subst (λ g. IsKept 9 (2 + 2 * function_atoms e + 2 * function_atoms f) (ask_goal f g)) (sym (one_goal e l
      second_op f k (cases_of f k l))) (subst (λ p. IsKept 9 (2 + 2 * function_atoms e + 2 * function_atoms f) p)
      (sym (back_asked f f first_op second_op k l (there_by e l first_op second_op)
      (kind_of_named k A) (kind_of_named l B)))
      (result 9 (2 + 2 * function_atoms e) 0 f first_op second_op
      (λ x. ask_goal f (there_by e l first_op second_op x)) (lit< tt) valid
      (lit≤ tt) first_stands second_stands (undefined_kept (2 + 2 * function_atoms e))
      (λ there stands. back_kept there (sym_kind there) refl stands)))

  enabled_kept :
      (m : ℕ) (o : SymOp) (next : GoalTree) → OpStands (IsBelow 9) 0 o → IsKept 9 m (ask_goal f next)
      → IsKept 9 (m + 2) (ask_goal f (if_enabled o next))
  unfolding ask_goal
  enabled_kept m o next stands kept =
      subst (λ p. IsKept 9 (m + 2) p) (sym (ask_form-enabled_form o (pos 0) (ask_goal f next) plans.Holds))
      (enabled 9 m o (pos 0) (ask_goal f next) plans.Holds (lit< tt) near_499
      (op_wider 0 499 o wider_0_499 stands) kept (holds_kept m))

  length_kept : (m : ℕ) (next : GoalTree) → IsKept 9 m (ask_goal f next)
      → IsKept 9 (m + 1) (ask_goal f (if_length next))
  unfolding ask_goal ask_form ask_le ask_lt ask_eq
  length_kept m next kept =
      comparison 9 m Pos zero_place (length_and (pos 0)) (ask_goal f next) plans.Holds (lit< tt)
      (record { is = refl; free = lit< tt; steady = tt; near = near_zero })
      (record { is = refl; free = lit< tt; steady = tt; near = near_zero }) kept (holds_kept m)

  allowed_kept :
      (m : ℕ) (next : GoalTree) → IsKept 9 m (ask_goal f next)
      → IsKept 9 (m + 4) (ask_goal f (if_allowed f.head first_op second_op next))
  allowed_kept m next kept =
      subst (λ p. IsKept 9 (m + 4) p) (sym (ask_goal-if_allowed f first_op second_op next))
      (allowed 9 m 0 f.head first_op second_op (ask_goal f next) (lit< tt) first_stands second_stands kept)

  -- the plan of a reversal keeps the limits
  pub reversal_kept : IsKept 9 36875 (ask_goal f (reversal_goal f e k l))
  reversal_kept =
      let few = few_atoms valid_cases f valid in
      let other_few = few_atoms valid_cases e other_valid in
      let n = 2 + 2 * function_atoms e + 2 * function_atoms f in
      let last = unless_taken_back (cases_of f k l) (cases_of e k l) first_op second_op in
      let behind = if_allowed f.head first_op second_op last in
      longer_kept (n + 4 + 2 + 2 + 1) 36875 _ (omega (arith, few, other_few))
      (length_kept (n + 4 + 2 + 2) (if_enabled first_op (if_enabled second_op behind))
      (enabled_kept (n + 4 + 2) first_op (if_enabled second_op behind) first_stands
      (enabled_kept (n + 4) second_op behind second_stands (allowed_kept n last taken_back_kept))))
