-- Where the plan of a goal ends at one valuation, whose names stand for two operations and for the length of a
-- document: in a failing end exactly where the operations are concurrent on it and the first one is not taken back.
use Rattle.std.proofs.Common.{◌≡◌, ◌≢◌, ◌⊎◌, ℕ, ℤ, pos, ◌+ℤ◌, int_le, true, if◌then◌else◌, Option, Some, None, List, []}
use Rattle.std.proofs.Common.{◌∷◌, length, refl, sym, ◌∙◌, ap, subst, inl, inr, arith}
use Rattle.std.proofs.lemmas.Bool.{and_parts}
use Rattle.std.proofs.lemmas.Int.{ints}
use Rattle.ot_model.specs.declared.cell.Cell.{Cell}
use Rattle.ot_model.specs.declared.op.Kind.{Kind}
use Rattle.ot_model.specs.declared.op.Op.{Op}
use Rattle.ot_model.specs.declared.op.Op.TheVariants as ops
use Rattle.ot_model.specs.Effect.{IsEnabled, is_enabled}
use Rattle.ot_model.specs.Operations.{kind_of}
use Rattle.fn_rules.specs.declared.function.Head.{Head}
use Rattle.fn_rules.specs.Conditions.{IsFormOf}
use Rattle.fn_rules.specs.Functions.{Function, HasDeclaredKind, cases_of, has_declared_kind, is_declared}
use Rattle.fn_rules.specs.Properties.{AreConcurrent}
use Rattle.fn_rules.specs.Transformation.{is_allowed, transform_of}
use Rattle.ask_core.specs.Plans as plans
use Rattle.ask_core.specs.Plans.{Plan, end_of}
use Rattle.ot_questions.specs.declared.name.Who.TheVariants.{A, B}
use Rattle.ot_questions.specs.declared.place.SymOp.{SymOp}
use Rattle.ot_questions.specs.declared.why.Why.{Why}
use Rattle.ot_questions.specs.declared.why.Why.TheVariants.{Operations, Undefined}
use Rattle.ot_questions.specs.Instances.{NamesPair, StandsForOperation}
use Rattle.ot_questions.specs.Names.{length_name, zero_name}
use Rattle.ot_questions.specs.Places.{length_and, sym_kind, sym_op, zero_place}
use Rattle.ot_questions.specs.Questions.{ask_enabled, ask_first_result, ask_result, ask_result_by_kinds, ask_le, ask_lt}
use Rattle.ot_questions.specs.Questions.{ask_eq}
use Rattle.ot_terms.specs.Goals.{GoalTree}
use Rattle.ot_terms.specs.Standing.{ask_form, ask_goal}
use Rattle.ot_terms.specs.Starting.{if_all_enabled, if_allowed, if_enabled, if_length}
use Rattle.ot_terms.proofs.Starts.{ask_form-enabled_form}
use Rattle.ot_audit.specs.Goals.{with_first_result}
use Rattle.ot_audit.proofs.Asked.{ask_form-guard_form, ask_goal-if_allowed}
use Rattle.ot_audit.proofs.Differences.{Comes, EndsOneForm, EndsResult, KeepsForm, ask_goal-unless_one_place}
use Rattle.ot_audit.proofs.Differences.{ask_goal-with_first_result, goes_to, one_form}
use Rattle.ot_audit.proofs.Ends.{EndsAllowed, EndsAtMost, TestsAllowed, by_true, kind_named, some_passed, true_le}
use Rattle.ot_reverse.specs.Goals.{reversal_goal, unless_back, unless_itself, unless_taken_back, unless_there}
use Rattle.ot_reverse.specs.Reversal.{IsTakenBack}

-- what the laws of questions and functions say beside those of audits
abbrev pub EndsEnabled : Type 0
EndsEnabled =
    (v : ℕ → ℤ) (x : SymOp) (a : Op) (off : ℤ) (n : ℕ) (p q : Plan Why) → v zero_name ≡ pos 0
    → v length_name +ℤ off ≡ pos n
    → StandsForOperation v x a → end_of (ask_enabled x off p q) v ≡ (if is_enabled a n then end_of p v else end_of q v)

abbrev pub TestsEnabled : Type 0
TestsEnabled = (cells : ℕ) (o : Op)
    → ((is_enabled o cells ≡ true) → IsEnabled o cells) × (IsEnabled o cells → (is_enabled o cells ≡ true))

-- the result of operations of two kinds is that of their block
pub ask_result-of_kinds :
    (f : Function) (x y : SymOp) (k l : Kind) (go : Option SymOp → Plan Why) → sym_kind x ≡ Some k → sym_kind y ≡ Some l
    → ask_result f x y go ≡ ask_first_result (cases_of f k l) x y go
ask_result-of_kinds f x y k l go first second =
    ap (λ (o : Option Kind). ask_result_by_kinds f x y o (sym_kind y) go) first
    ∙ ap (λ (o : Option Kind). ask_result_by_kinds f x y (Some k) o go) second

-- the plan of what comes back, in the words of the questions
pub back_asked :
    (h e : Function) (x y : SymOp) (k l : Kind) (go : Option SymOp → GoalTree)
    → sym_kind x ≡ Some k → sym_kind y ≡ Some l
    → ask_goal h (with_first_result (cases_of e k l) x y go) ≡ ask_result e x y (λ r. ask_goal h (go r))
back_asked h e x y k l go first second =
    ask_goal-with_first_result ask_form-guard_form h (cases_of e k l) x y go
    ∙ sym (ask_result-of_kinds e x y k l (λ r. ask_goal h (go r)) first second)

-- an operation is a form of itself, and a form of a form is one
itself : (a : Op) → IsFormOf a a
itself a = inr (record { kind = refl; site = refl; char = refl })

form_of_form : (a p q : Op) → IsFormOf a p → p ≢ ops.Nop → IsFormOf p q → IsFormOf a q
form_of_form a p q (inl gone) there form = absurd (there gone)
form_of_form a p q (inr moved) there (inl gone) = inl gone
form_of_form a p q (inr moved) there (inr again) =
    inr (record { kind = again.kind ∙ moved.kind; site = again.site ∙ moved.site; char = again.char ∙ moved.char })

-- an operation of a kind is not nop, and its form has that kind or is nop
not_nop : (a : Op) (k : Kind) → kind_of a ≡ Some k → a ≢ ops.Nop
not_nop a k is e = let none : None ≡ Some k = sym (ap kind_of e) ∙ is in absurd (cc)

-- the plan ends without a cause where the operation is taken back, and in one where it is not; and one of the two is so
abbrev Decided : Type 0 → Option Why → Type 0
Decided Back end = (Back × (end ≡ None)) ⊎ ((Back → ⊥) × ((why : Why) × (end ≡ Some why)))

clash : {X : Type 0} (x : X) → None ≡ Some x → ⊥
clash x e = absurd (cc)

same_some : {X : Type 0} (x y : X) → Some x ≡ Some y → x ≡ y
same_some x y e = cc

declared_kind : (head : Head) (k : Kind) (o : Op) → kind_of o ≡ Some k → is_declared head k ≡ true
    → HasDeclaredKind head (kind_of o)
declared_kind head k o is declared =
    subst (λ (kind : Option Kind). has_declared_kind head kind ≡ true) (sym is) declared

module _ (at_most : EndsAtMost) (ends_enabled : EndsEnabled) (ends_allowed : EndsAllowed) (tests_allowed : TestsAllowed)
    (tests_enabled : TestsEnabled)
    (results : EndsResult) (one : EndsOneForm) (keeps : KeepsForm)
    (f e : Function) (k l : Kind) (v : ℕ → ℤ) (d : List Cell) (a b : Op)
    (names : NamesPair f k l v (length d) a b) where
  abbrev first_op : SymOp
  first_op = sym_op k A

  abbrev second_op : SymOp
  second_op = sym_op l B

  abbrev ended : GoalTree → Option Why
  ended goal = end_of (ask_goal f goal) v

  first_kind : kind_of a ≡ Some k
  first_kind = kind_named v k A a names.first

  second_kind : kind_of b ≡ Some l
  second_kind = kind_named v l B b names.second

  end_length : (next : GoalTree)
      → ended (if_length next) ≡ (if int_le (v 0 +ℤ pos 0) (v 1 +ℤ pos 0) then ended next else None)
  unfolding ask_goal ask_form ask_le ask_lt ask_eq
  end_length next = at_most v zero_place (length_and (pos 0)) (ask_goal f next) plans.Holds

  length_passes : (next : GoalTree) → ended (if_length next) ≡ ended next
  length_passes next =
      let zero = names.zero in
      let cells = names.cells in
      end_length next
      ∙ by_true (int_le (v 0 +ℤ pos 0) (v 1 +ℤ pos 0)) (ended next) None
      (true_le (v 0 +ℤ pos 0) (v 1 +ℤ pos 0) (omega (arith, ints, zero, cells)))

  end_enabled :
      (x : SymOp) (o : Op) (next : GoalTree) → StandsForOperation v x o
      → ended (if_enabled x next) ≡ (if is_enabled o (length d) then ended next else None)
  unfolding ask_goal
  end_enabled x o next stands =
      ap (λ p. end_of p v) (ask_form-enabled_form x (pos 0) (ask_goal f next) plans.Holds)
      ∙ ends_enabled v x o (pos 0) (length d) (ask_goal f next) plans.Holds names.zero
      (without_change (v 1) (pos (length d)) names.cells) stands
    where
      without_change : (x y : ℤ) → x ≡ y → x +ℤ pos 0 ≡ y
      without_change x y is = omega (arith, ints, is)

  end_allowed :
      (next : GoalTree)
      → ended (if_allowed f.head first_op second_op next) ≡ (if is_allowed f a b then ended next else None)
  end_allowed next =
      ap (λ p. end_of p v) (ask_goal-if_allowed f first_op second_op next)
      ∙ ends_allowed f v first_op second_op a b (ask_goal f next) names.zero names.first names.second

  -- the goal behind the tests
  abbrev posed : GoalTree → GoalTree
  posed next = if_length (if_all_enabled (first_op ∷ second_op ∷ []) (if_allowed f.head first_op second_op next))

  concurrent_pass : (next : GoalTree) → AreConcurrent f d (a ∷ b ∷ []) → ended (posed next) ≡ ended next
  concurrent_pass next concurrent =
      let behind = if_allowed f.head first_op second_op next in
      length_passes (if_enabled first_op (if_enabled second_op behind))
      ∙ end_enabled first_op a (if_enabled second_op behind) names.first
      ∙ by_true (is_enabled a (length d)) (ended (if_enabled second_op behind)) None
      ((tests_enabled (length d) a).1 concurrent.1)
      ∙ end_enabled second_op b behind names.second
      ∙ by_true (is_enabled b (length d)) (ended behind) None ((tests_enabled (length d) b).1 concurrent.3.1)
      ∙ end_allowed next
      ∙ by_true (is_allowed f a b) (ended next) None ((tests_allowed f a b).1 concurrent.2.0)

  -- where a goal with its tests fails, the operations are concurrent and the goal behind the tests fails
  passed_concurrent :
      (next : GoalTree) (why : Why) → ended (posed next) ≡ Some why
      → AreConcurrent f d (a ∷ b ∷ []) × (ended next ≡ Some why)
  passed_concurrent next why failed =
      let behind = if_allowed f.head first_op second_op next in
      let at_first = sym (length_passes (if_enabled first_op (if_enabled second_op behind))) ∙ failed in
      let first =
      some_passed (is_enabled a (length d)) (ended (if_enabled second_op behind)) why
      (sym (end_enabled first_op a (if_enabled second_op behind) names.first) ∙ at_first) in
      let second =
      some_passed (is_enabled b (length d)) (ended behind) why
      (sym (end_enabled second_op b behind names.second) ∙ first.1) in
      let third = some_passed (is_allowed f a b) (ended next) why (sym (end_allowed next) ∙ second.1) in
      let kinds = and_parts (is_declared f.head k) (is_declared f.head l) names.declared in (
        (
          declared_kind f.head k a first_kind kinds.0,
          (tests_enabled (length d) a).0 first.0,
          ((tests_allowed f a b).0 third.0, tt),
          (declared_kind f.head l b second_kind kinds.1, (tests_enabled (length d) b).0 second.0, tt, tt),
        ),
        third.1,
      )

  -- what comes back of a form that is not nop
  module _ (x : SymOp) (p : Op) (stands : StandsForOperation v x p) (is_form : IsFormOf a p) (there : p ≢ ops.Nop)
      (made : transform_of f a b ≡ Some p) where
    abbrev back_goal : GoalTree
    back_goal = with_first_result (cases_of e k l) x second_op (unless_itself first_op)

    form_kind : IsFormOf a p → sym_kind x ≡ Some k
    form_kind (inl gone) = absurd (there gone)
    form_kind (inr moved) = stands.kind ∙ moved.kind ∙ first_kind

    taken_only : IsTakenBack f e a b → transform_of e p b ≡ Some a
    taken_only taken =
        let is : taken.there ≡ p = same_some taken.there p (sym taken.transformed ∙ made) in
        subst (λ (o : Op). transform_of e o b ≡ Some a) is (taken.back (λ gone. there (sym is ∙ gone)))

    back_comes : Comes v (λ y. ask_goal f (unless_itself first_op y)) (ended back_goal) (transform_of e p b)
    back_comes =
        subst (λ plan. Comes v (λ y. ask_goal f (unless_itself first_op y)) (end_of plan v) (transform_of e p b))
        (sym (back_asked f e x second_op k l (unless_itself first_op) (form_kind is_form) (names.second.kind
        ∙ second_kind))) (goes_to v (ask_result e x second_op) (λ y. ask_goal f (unless_itself first_op y))
        (transform_of e p b) (results e v x second_op p b names.zero stands names.second))

    -- what comes back of the form is the operation or another one, and the goal says which
    same_decided :
        (q : Op) (y : SymOp) → transform_of e p b ≡ Some q → StandsForOperation v y q
        → Decided (IsTakenBack f e a b) (ended (unless_itself first_op (Some y)))
    same_decided q y back other =
        let form = form_of_form a p q is_form there (keeps e p b q back) in
        let law = one v y first_op q a a other names.first form (itself a) in
        let asked = ap (λ plan. end_of plan v) (ask_goal-unless_one_place f y first_op) in
        elim (one_form a q a k first_kind form (itself a)) [
          | inl same ↦
              inl (
                record { there = p; transformed = made; back = λ not. back ∙ ap (λ (o : Op). Some o) same },
                asked ∙ law.0 same,
              )
          | inr differ ↦
              inr (
                (λ taken. differ (same_some q a (sym back ∙ taken_only taken))),
                (Operations, asked ∙ law.1 differ),
              )
        ]

    back_decided :
        (o : Option Op) → transform_of e p b ≡ o
        → Comes v (λ y. ask_goal f (unless_itself first_op y)) (ended back_goal) o
        → Decided (IsTakenBack f e a b) (ended back_goal)
    unfolding ask_goal
    back_decided None back comes = inr ((λ taken. clash a (sym back ∙ taken_only taken)), (Undefined, comes))
    back_decided (Some q) back (y, other, comes) =
        subst (λ end. Decided (IsTakenBack f e a b) end) (sym comes) (same_decided q y back other)

    form_decided : Decided (IsTakenBack f e a b) (ended back_goal)
    form_decided = back_decided (transform_of e p b) refl back_comes

  -- of a form, by its kind
  there_decided :
      (x : SymOp) (p : Op) → StandsForOperation v x p → IsFormOf a p → transform_of f a b ≡ Some p
      → Decided (IsTakenBack f e a b) (ended (unless_there (cases_of e k l) first_op second_op (Some x)))
  unfolding ask_goal
  there_decided x p stands (inl gone) made =
      let none : sym_kind x ≡ None = stands.kind ∙ ap kind_of gone in
      inl (
        record { there = p; transformed = made; back = λ not. absurd (not gone) },
        ap (λ (o : Option Kind). ended (unless_back (cases_of e k l) first_op second_op x o)) none,
      )
  there_decided x p stands (inr moved) made =
      let some : sym_kind x ≡ Some k = stands.kind ∙ moved.kind ∙ first_kind in
      let there : p ≢ ops.Nop = not_nop p k (moved.kind ∙ first_kind) in
      subst (λ (o : Option Kind). Decided (IsTakenBack f e a b) (ended (unless_back (cases_of e k l) first_op second_op
      x o))) (sym some) (form_decided x p stands (inr moved) there made)

  abbrev whole_goal : GoalTree
  whole_goal = unless_taken_back (cases_of f k l) (cases_of e k l) first_op second_op

  forms_come :
      Comes v (λ x. ask_goal f (unless_there (cases_of e k l) first_op second_op x))
      (ended whole_goal) (transform_of f a b)
  forms_come =
      subst (λ plan. Comes v (λ x. ask_goal f (unless_there (cases_of e k l) first_op second_op x)) (end_of plan v)
      (transform_of f a b)) (sym (back_asked f f first_op second_op k l (unless_there (cases_of e k l) first_op
      second_op) (names.first.kind ∙ first_kind) (names.second.kind ∙ second_kind)))
      (goes_to v (ask_result f first_op second_op) (λ x. ask_goal f (unless_there (cases_of e k l) first_op second_op
      x)) (transform_of f a b) (results f v first_op second_op a b names.zero names.first names.second))

  forms_decided :
      (o : Option Op) → transform_of f a b ≡ o
      → Comes v (λ x. ask_goal f (unless_there (cases_of e k l) first_op second_op x)) (ended whole_goal) o
      → Decided (IsTakenBack f e a b) (ended whole_goal)
  unfolding ask_goal
  forms_decided None made comes = inr ((λ taken. clash taken.there (sym made ∙ taken.transformed)), (Undefined, comes))
  forms_decided (Some p) made (x, stands, comes) =
      subst (λ end. Decided (IsTakenBack f e a b) end) (sym comes) (there_decided x p stands (keeps f a b p made) made)

  taken_or_not : Decided (IsTakenBack f e a b) (ended whole_goal)
  taken_or_not = forms_decided (transform_of f a b) refl forms_come

  pub reversal_sought :
      (why : Why) → ended (reversal_goal f e k l) ≡ Some why
      → AreConcurrent f d (a ∷ b ∷ []) × (IsTakenBack f e a b → ⊥)
  reversal_sought why failed =
      let parts = passed_concurrent whole_goal why failed in
      elim taken_or_not [
        | inl (back, holds) ↦ absurd (clash why (sym holds ∙ parts.1))
        | inr (never, fails) ↦ (parts.0, never)
      ]

  -- where the plan does not fail, the operation is taken back
  pub reversal_held : ended (reversal_goal f e k l) ≡ None → AreConcurrent f d (a ∷ b ∷ []) → IsTakenBack f e a b
  reversal_held holds concurrent =
      let passes = concurrent_pass whole_goal concurrent in
      elim taken_or_not [
        | inl (back, ends) ↦ back
        | inr (never, fails) ↦ absurd (clash fails.0 (sym (sym passes ∙ holds) ∙ fails.1))
      ]
