-- Where the plan of a goal about guards ends at one valuation, whose names stand for two operations: in a failing end
-- exactly where the operations are meant and the target is reached there.
use Rattle.std.proofs.Common.{◌≡◌, ℕ, ℤ, pos, ◌+ℤ◌, ◌≤ℤ◌, Bool, true, false, if◌then◌else◌, int_le, Option, Some, None}
use Rattle.std.proofs.Common.{List, [], ◌∷◌, take, refl, sym, ◌∙◌, ap, subst, arith}
use Rattle.std.specs.Prelude.{slice_get}
use Rattle.std.proofs.lemmas.Int.{ints}
use Rattle.ot_model.specs.declared.op.Kind.{Kind}
use Rattle.ot_model.specs.declared.op.Kind.TheVariants as kinds
use Rattle.ot_model.specs.declared.op.Op.{Op}
use Rattle.ot_model.specs.Operations.{kind_of, at_of}
use Rattle.fn_rules.specs.Formulas.{Formula, holds_of}
use Rattle.fn_rules.specs.Functions.{Function, GuardedCase, cases_of, is_declared_pair}
use Rattle.fn_rules.specs.Transformation.{IsAllowed, is_allowed}
use Rattle.ask_core.specs.Plans as plans
use Rattle.ask_core.specs.Plans.{Plan, end_of}
use Rattle.ot_questions.specs.declared.name.Who.{Who}
use Rattle.ot_questions.specs.declared.name.Who.TheVariants.{A, B}
use Rattle.ot_questions.specs.declared.place.Place.{Place}
use Rattle.ot_questions.specs.declared.place.SymOp.{SymOp}
use Rattle.ot_questions.specs.declared.why.Why.{Why}
use Rattle.ot_questions.specs.declared.why.Why.TheVariants.{Operations}
use Rattle.ot_questions.specs.Instances.{StandsForOperation}
use Rattle.ot_questions.specs.Names.{zero_name, position_name}
use Rattle.ot_questions.specs.Places.{place, zero_place, integer_at, sym_op}
use Rattle.ot_questions.specs.Questions.{ask_le, ask_guard, ask_allowed, ask_lt, ask_eq}
use Rattle.ot_terms.specs.Goals.{GoalTree, Holds, If}
use Rattle.ot_terms.specs.Placing.{guard_form}
use Rattle.ot_terms.specs.Standing.{ask_form, ask_goal}
use Rattle.ot_terms.specs.Starting.{if_allowed}
use Rattle.ot_audit.specs.declared.target.Target.{Target}
use Rattle.ot_audit.specs.declared.target.Target.TheVariants.{Case, Open}
use Rattle.ot_audit.specs.Goals.{found, if_there, if_meant, unless_true, at_own, at_target, target_goal}
use Rattle.ot_audit.specs.Reached.{AreMeant, AreFalse, IsTrueCase, IsReachedIn}
use Rattle.ot_audit.specs.Searches.{NamesTwo, ReachesTarget}
use Rattle.ot_audit.proofs.Meant.{posed_where_meant, meant_where_posed}

-- what the laws of questions and terms say
abbrev pub EndsAtMost : Type 0
EndsAtMost =
    (v : ℕ → ℤ) (x y : Place) (p q : Plan Why)
    → end_of (ask_le x y p q) v ≡ (if int_le (integer_at v x) (integer_at v y) then end_of p v else end_of q v)

abbrev pub EndsGuard : Type 0
EndsGuard =
    (g : Formula) (v : ℕ → ℤ) (x y : SymOp) (a b : Op) (p q : Plan Why) → v zero_name ≡ pos 0 → StandsForOperation v x a
    → StandsForOperation v y b
    → end_of (ask_guard g x y p q) v ≡ (if holds_of g a b then end_of p v else end_of q v)

abbrev pub EndsAllowed : Type 0
EndsAllowed =
    (f : Function) (v : ℕ → ℤ) (x y : SymOp) (a b : Op) (p : Plan Why) → v zero_name ≡ pos 0 → StandsForOperation v x a
    → StandsForOperation v y b
    → end_of (ask_allowed f.head x y p) v ≡ (if is_allowed f a b then end_of p v else None)

abbrev pub AsksGuard : Type 0
AsksGuard = (g : Formula) (a b : SymOp) (p q : Plan Why) → ask_form (guard_form g a b) p q ≡ ask_guard g a b p q

abbrev pub AsksAllowed : Type 0
AsksAllowed = (f : Function) (a b : SymOp) (next : GoalTree)
    → ask_goal f (if_allowed f.head a b next) ≡ ask_allowed f.head a b (ask_goal f next)

abbrev pub TestsAllowed : Type 0
TestsAllowed = (f : Function) (a b : Op)
    → ((is_allowed f a b ≡ true) → IsAllowed f a b) × (IsAllowed f a b → (is_allowed f a b ≡ true))

-- a cause comes by the way that ends in it
pub some_passed : {X : Type 0} (b : Bool) (o : Option X) (x : X) → (if b then o else None) ≡ Some x
    → (b ≡ true) × (o ≡ Some x)
some_passed true o x e = (refl, e)
some_passed false o x e = absurd (cc)

some_stopped : {X : Type 0} (b : Bool) (o : Option X) (x : X) → (if b then None else o) ≡ Some x
    → (b ≡ false) × (o ≡ Some x)
some_stopped true o x e = absurd (cc)
some_stopped false o x e = (refl, e)

pub by_true : {X : Type 0} (b : Bool) (x y : X) → b ≡ true → (if b then x else y) ≡ x
by_true true x y e = refl
by_true false x y e = absurd (cc)

by_false : {X : Type 0} (b : Bool) (x y : X) → b ≡ false → (if b then x else y) ≡ y
by_false true x y e = absurd (cc)
by_false false x y e = refl

pub le_true : (x y : ℤ) → int_le x y ≡ true → x ≤ℤ y
le_true x y e = grind (arith, ints)

pub true_le : (x y : ℤ) → x ≤ℤ y → int_le x y ≡ true
true_le x y h = grind (arith, ints)

-- names stand for an operation of their kind, at its position
pub kind_named : (v : ℕ → ℤ) (k : Kind) (who : Who) (a : Op)
    → StandsForOperation v (sym_op k who) a → kind_of a ≡ Some k
kind_named v kinds.Ins who a stands = sym stands.kind
kind_named v kinds.Del who a stands = sym stands.kind
kind_named v kinds.Upd who a stands = sym stands.kind

without_offset : (x y : ℤ) → (x +ℤ pos 0) ≡ y → x ≡ y
without_offset x y e = omega (arith, ints)

pub at_named : (v : ℕ → ℤ) (k : Kind) (who : Who) (a : Op) → StandsForOperation v (sym_op k who) a
    → v (position_name who) ≡ at_of a
at_named v kinds.Ins who a stands = without_offset (v (position_name who)) (at_of a) stands.at
at_named v kinds.Del who a stands = without_offset (v (position_name who)) (at_of a) stands.at
at_named v kinds.Upd who a stands = without_offset (v (position_name who)) (at_of a) stands.at

module _ (at_most : EndsAtMost) (f : Function) (v : ℕ → ℤ) (z : v zero_name ≡ pos 0) where
  end_there :
      (who : Who) (next : GoalTree)
      → end_of (ask_goal f (if_there who next)) v
      ≡ (if int_le (v 0 +ℤ pos 0) (v (position_name who) +ℤ pos 0) then end_of (ask_goal f next) v else None)
  unfolding ask_goal ask_form ask_le ask_lt ask_eq
  end_there who next = at_most v zero_place (place (position_name who) (pos 0)) (ask_goal f next) plans.Holds

  -- a goal that asks a position fails only where the position is not negative
  pub there_passed :
      (who : Who) (next : GoalTree) (why : Why) → end_of (ask_goal f (if_there who next)) v ≡ Some why
      → (pos 0 ≤ℤ v (position_name who)) × (end_of (ask_goal f next) v ≡ Some why)
  there_passed who next why e =
      let test = int_le (v 0 +ℤ pos 0) (v (position_name who) +ℤ pos 0) in
      let both = some_passed test (end_of (ask_goal f next) v) why (sym (end_there who next) ∙ e) in
      let high = le_true (v 0 +ℤ pos 0) (v (position_name who) +ℤ pos 0) both.0 in
      (omega (arith, ints), both.1)

  there_passes :
      (who : Who) (next : GoalTree) → pos 0 ≤ℤ v (position_name who)
      → end_of (ask_goal f (if_there who next)) v ≡ end_of (ask_goal f next) v
  there_passes who next low =
      end_there who next
      ∙ by_true (int_le (v 0 +ℤ pos 0) (v (position_name who) +ℤ pos 0)) (end_of (ask_goal f next) v) None
      (true_le (v 0 +ℤ pos 0) (v (position_name who) +ℤ pos 0) (omega (arith, ints)))

  -- so both positions are not negative where such a goal fails
  pub positions_passed :
      (a b : SymOp) (next : GoalTree) (why : Why) → end_of (ask_goal f (if_meant f.head a b next)) v ≡ Some why
      → (pos 0 ≤ℤ v (position_name A)) × (pos 0 ≤ℤ v (position_name B))
  positions_passed a b next why e =
      let first = there_passed A (if_there B (if_allowed f.head a b next)) why e in
      let second = there_passed B (if_allowed f.head a b next) why first.1 in
      (first.0, second.0)

-- at names that stand for two operations of the kinds
module _ (at_most : EndsAtMost) (ends_guard : EndsGuard) (ends_allowed : EndsAllowed) (asks_guard : AsksGuard)
    (asks_allowed : AsksAllowed)
    (tests : TestsAllowed)
    (f : Function) (k l : Kind) (v : ℕ → ℤ) (a b : Op) (declared : is_declared_pair f.head k l ≡ true)
    (names : NamesTwo k l v a b) where
  abbrev ended : GoalTree → Option Why
  ended g = end_of (ask_goal f g) v

  abbrev first_op : SymOp
  first_op = sym_op k A

  abbrev second_op : SymOp
  second_op = sym_op l B

  end_guard :
      (g : Formula) (on_yes on_no : GoalTree)
      → ended (If (guard_form g first_op second_op) on_yes on_no)
      ≡ (if holds_of g a b then ended on_yes else ended on_no)
  unfolding ask_goal
  end_guard g on_yes on_no =
      ap (λ p. end_of p v) (asks_guard g first_op second_op (ask_goal f on_yes) (ask_goal f on_no))
      ∙ ends_guard g v first_op second_op a b (ask_goal f on_yes) (ask_goal f on_no) names.zero names.first names.second

  end_unless :
      (g : Formula) (on_no : GoalTree)
      → ended (If (guard_form g first_op second_op) Holds on_no) ≡ (if holds_of g a b then None else ended on_no)
  unfolding ask_goal
  end_unless g on_no = end_guard g Holds on_no

  end_own :
      (g : Formula) → ended (If (guard_form g first_op second_op) found Holds)
      ≡ (if holds_of g a b then Some Operations else None)
  unfolding ask_goal
  end_own g = end_guard g found Holds

  -- behind guards that are false the plan goes on, and it fails only so
  all_false_pass :
      (cs : List GuardedCase) (next : GoalTree) → AreFalse cs a b
      → ended (unless_true cs first_op second_op next) ≡ ended next
  all_false_pass [] next none = refl
  all_false_pass (c ∷ cs) next none =
      end_unless c.guard (unless_true cs first_op second_op next)
      ∙ by_false (holds_of c.guard a b) None (ended (unless_true cs first_op second_op next)) none.0
      ∙ all_false_pass cs next none.1

  passed_all_false :
      (cs : List GuardedCase) (next : GoalTree) (why : Why) → ended (unless_true cs first_op second_op next) ≡ Some why
      → AreFalse cs a b × (ended next ≡ Some why)
  passed_all_false [] next why e = (tt, e)
  passed_all_false (c ∷ cs) next why e =
      let here =
      some_stopped (holds_of c.guard a b) (ended (unless_true cs first_op second_op next)) why
      (sym (end_unless c.guard (unless_true cs first_op second_op next)) ∙ e) in
      let later = passed_all_false cs next why here.1 in
      ((here.0, later.0), later.1)

  own_fails : (o : Option GuardedCase) → IsTrueCase o a b → ended (at_own o first_op second_op) ≡ Some Operations
  own_fails None is = absurd is
  own_fails (Some c) is = end_own c.guard ∙ by_true (holds_of c.guard a b) (Some Operations) None is

  failed_own : (o : Option GuardedCase) (why : Why) → ended (at_own o first_op second_op) ≡ Some why → IsTrueCase o a b
  unfolding ask_goal
  failed_own None why e = absurd (cc)
  failed_own (Some c) why e = (some_passed (holds_of c.guard a b) (Some Operations) why (sym (end_own c.guard) ∙ e)).0

  reached_fails :
      (cs : List GuardedCase) (target : Target) → IsReachedIn cs target a b
      → ended (at_target cs target first_op second_op) ≡ Some Operations
  unfolding ask_goal
  reached_fails cs (Case i) is =
      all_false_pass (take i cs) (at_own (slice_get cs i) first_op second_op) is.earlier
      ∙ own_fails (slice_get cs i) is.own
  reached_fails cs Open is = all_false_pass cs found is

  failed_reached :
      (cs : List GuardedCase) (target : Target) (why : Why) → ended (at_target cs target first_op second_op) ≡ Some why
      → IsReachedIn cs target a b
  failed_reached cs (Case i) why e =
      let both = passed_all_false (take i cs) (at_own (slice_get cs i) first_op second_op) why e in
      record { earlier = both.0; own = failed_own (slice_get cs i) why both.1 }
  failed_reached cs Open why e = (passed_all_false cs found why e).0

  -- a goal of operations that are meant fails as the goal behind it does
  end_allowed :
      (next : GoalTree)
      → ended (if_allowed f.head first_op second_op next) ≡ (if is_allowed f a b then ended next else None)
  end_allowed next =
      ap (λ p. end_of p v) (asks_allowed f first_op second_op next)
      ∙ ends_allowed f v first_op second_op a b (ask_goal f next) names.zero names.first names.second

  pub meant_pass :
      (next : GoalTree) → AreMeant f k l a b → ended (if_meant f.head first_op second_op next) ≡ ended next
  meant_pass next meant =
      let posed = posed_where_meant f k l a b meant in
      let low : pos 0 ≤ℤ v (position_name A) = subst (λ x. pos 0 ≤ℤ x) (sym (at_named v k A a names.first)) posed.3 in
      let other_low : pos 0 ≤ℤ v (position_name B) =
      subst (λ x. pos 0 ≤ℤ x) (sym (at_named v l B b names.second)) posed.4 in
      there_passes at_most f v names.zero A (if_there B (if_allowed f.head first_op second_op next)) low
      ∙ there_passes at_most f v names.zero B (if_allowed f.head first_op second_op next) other_low
      ∙ end_allowed next
      ∙ by_true (is_allowed f a b) (ended next) None ((tests f a b).1 posed.2)

  -- where a goal of operations that are meant fails, they are meant and the goal behind it fails
  pub passed_meant :
      (next : GoalTree) (why : Why) → ended (if_meant f.head first_op second_op next) ≡ Some why
      → AreMeant f k l a b × (ended next ≡ Some why)
  passed_meant next why e =
      let first = there_passed at_most f v names.zero A
      (if_there B (if_allowed f.head first_op second_op next)) why e in
      let second = there_passed at_most f v names.zero B (if_allowed f.head first_op second_op next) why first.1 in
      let both = some_passed (is_allowed f a b) (ended next) why (sym (end_allowed next) ∙ second.1) in (
        meant_where_posed f k l a b declared (
          kind_named v k A a names.first,
          kind_named v l B b names.second,
          (tests f a b).0 both.0,
          subst (λ x. pos 0 ≤ℤ x) (at_named v k A a names.first) first.0,
          subst (λ x. pos 0 ≤ℤ x) (at_named v l B b names.second) second.0,
        ),
        both.1,
      )

  pub target_fails :
      (target : Target) → ReachesTarget f k l target a b → ended (target_goal f k l target) ≡ Some Operations
  target_fails target (meant, reached) =
      meant_pass (at_target (cases_of f k l) target first_op second_op) meant
      ∙ reached_fails (cases_of f k l) target reached

  pub target_sought :
      (target : Target) (why : Why) → ended (target_goal f k l target) ≡ Some why → ReachesTarget f k l target a b
  target_sought target why e =
      let both = passed_meant (at_target (cases_of f k l) target first_op second_op) why e in
      (both.0, failed_reached (cases_of f k l) target why both.1)
