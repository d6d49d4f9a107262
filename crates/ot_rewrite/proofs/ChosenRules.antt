-- The rule on a transformation: by the first of the cases that are left.
use Rattle.std.proofs.Common.{◌≡◌, ◌⊎◌, ℕ, suc, ◌+◌, ◌<◌, ◌≤◌, max, IsTrue, Option, Some, None, List, [], ◌∷◌, length}
use Rattle.std.proofs.Common.{drop, MatchOption, refl, ap, sym, ◌∙◌, subst, inl, arith}
use Rattle.ot_model.specs.declared.op.Kind.{Kind}
use Rattle.fn_rules.specs.declared.function.ObName.{ObName}
use Rattle.fn_rules.specs.Formulas.{Formula}
use Rattle.fn_rules.specs.Formulas as guards
use Rattle.fn_rules.specs.Functions.{Function, GuardedCase}
use Rattle.fn_rules.specs.Obligations.{is_obligation}
use Rattle.fn_rules.specs.Validity.{is_valid}
use Rattle.ask_core.specs.Plans.{Plan}
use Rattle.ot_questions.specs.declared.place.SymOp.{SymOp}
use Rattle.ot_questions.specs.declared.place.SymOp.TheVariants as ops
use Rattle.ot_questions.specs.declared.why.Why.{Why}
use Rattle.ot_questions.specs.Names.{name_count}
use Rattle.ot_questions.specs.Nears.{IsNearCase}
use Rattle.ot_questions.specs.Places.{sym_kind, sym_result}
use Rattle.ot_questions.specs.Questions.{ask_guard, ask_first_result, ask_result_by_kinds, or_undefined, ask_transform}
use Rattle.ot_terms.specs.declared.goal.GoalProgress.{GoalProgress}
use Rattle.ot_terms.specs.Goals.{Choose}
use Rattle.ot_terms.specs.Placing.{guard_form}
use Rattle.ot_terms.specs.Standing.{ask_goal, ask_with, from_case, results_of}
use Rattle.ot_terms.specs.Weights.{form_weight, compared_weight, guard_weight, cases_weight, cases_of_kinds}
use Rattle.ot_terms.specs.Weights.{rest_weight, goal_weight}
use Rattle.ot_terms.specs.Belonging.{HasParts, IsChoiceOf, IsMoved, IsNextResult, reach_of, next_operands}
use Rattle.ot_terms.proofs.GuardForms.{ask_form_guard_form}
use Rattle.ot_terms.proofs.GuardPlaces.{guard_form_has_places}
use Rattle.fn_rules.specs.declared.guard.Cmp.{Cmp}
use Rattle.fn_rules.specs.declared.guard.Cmp.TheVariants as cmp
use Rattle.ot_questions.specs.declared.place.Place.{Place}
use Rattle.ot_terms.specs.Placing.{compared}
use Rattle.ot_rewrite.specs.Table.{choose_case, choose_by_kinds, rewrite_choose}
use Rattle.ot_rewrite.proofs.Rewritings.{IsRewriting}
use Rattle.ot_rewrite.proofs.Operands.{next_are_operands}
use Rattle.ot_rewrite.proofs.ChosenCases.{drop_next, drop_within, of_next, AreNear-cases, some_names, result_moves}
use Rattle.ot_rewrite.proofs.ChosenCases.{first_stays}

compared_form_weight : (c : Cmp) (x y : Place) → form_weight (compared c x y) ≡ compared_weight c
compared_form_weight cmp.Lt x y = refl
compared_form_weight cmp.Le x y = refl
compared_form_weight cmp.Eq x y = refl

-- a form weighs what its guard weighs
guard_form_weight : (g : Formula) (a b : SymOp) → form_weight (guard_form g a b) ≡ guard_weight g
guard_form_weight guards.Always a b = refl
guard_form_weight (guards.Compare atom) a b = compared_form_weight atom.cmp _ _
guard_form_weight (guards.And g h) a b =
    ap (λ n. 1 + n + form_weight (guard_form h a b)) (guard_form_weight g a b)
    ∙ ap (λ n. 1 + guard_weight g + n) (guard_form_weight h a b)
guard_form_weight (guards.Or g h) a b =
    ap (λ n. 1 + n + form_weight (guard_form h a b)) (guard_form_weight g a b)
    ∙ ap (λ n. 1 + guard_weight g + n) (guard_form_weight h a b)
guard_form_weight (guards.Not g) a b = ap (λ n. 1 + n) (guard_form_weight g a b)

case_falls :
    (g w rest form before after : ℕ) → form ≡ g → before ≡ 1 + g + w → after ≡ w
    → form + max (1 + rest) (2 + after + rest) < 2 + before + rest
case_falls g w rest form before after e d h = omega arith

-- what may come of the two operations of the next transformation may be the next result
next_result :
    (ob : ObName) (progress : GoalProgress) (a b r : SymOp)
    → next_operands ob progress.ops (results_of progress) ≡ Some (a, b)
    → (r ≡ ops.Nop) ⊎ IsMoved (name_count ob) (reach_of ob (length (results_of progress))) a r
    → IsNextResult ob progress.ops (results_of progress) r
next_result ob progress a b r next h =
    subst
    (λ t. MatchOption t ⊥ (λ pair. (r ≡ ops.Nop)
    ⊎ IsMoved (name_count ob) (reach_of ob (length (results_of progress))) pair.0 r)) (sym next) h

-- of two operations of which neither is nop
module _ (f : Function) (a b : SymOp) (k l : Kind) (there : sym_kind a ≡ Some k) (other : sym_kind b ≡ Some l) where
  cases_by_kinds : cases_of_kinds f (sym_kind a) (sym_kind b) ≡ f.cases k l
  cases_by_kinds =
      ap (λ t. cases_of_kinds f t (sym_kind b)) there ∙ ap (λ t. cases_of_kinds f (Some k) t) other

  -- what is asked is what the cases that are left ask
  ask_from_case :
      (n : ℕ) (go : SymOp → Plan Why)
      → ask_transform (from_case n f) a b go ≡ ask_first_result (drop n (f.cases k l)) a b (or_undefined go)
  unfolding ask_transform
  ask_from_case n go =
      ap (λ t. ask_result_by_kinds (from_case n f) a b t (sym_kind b) (or_undefined go)) there
      ∙ ap (λ t. ask_result_by_kinds (from_case n f) a b (Some k) t (or_undefined go)) other

  asked_of_cases :
      (cs : List GuardedCase) (n : ℕ) (progress : GoalProgress) → drop n (f.cases k l) ≡ cs
      → ask_goal f (choose_case cs n a b progress) ≡ ask_first_result cs a b (or_undefined (ask_with f progress))
  unfolding ask_goal
  asked_of_cases [] n progress e = refl
  asked_of_cases (c ∷ cs) n progress e =
      ask_form_guard_form c.guard a b (ask_with f progress (sym_result c.res a b))
      (ask_transform (from_case (suc n) f) a b (ask_with f progress))
      ∙ ap (λ p. ask_guard c.guard a b (ask_with f progress (sym_result c.res a b)) p)
      (ask_from_case (suc n) (ask_with f progress)
      ∙ ap (λ t. ask_first_result t a b (or_undefined (ask_with f progress))) (drop_next (f.cases k l) n c cs e))

  -- the choice by the first case that is left is lighter than the goal
  lighter_of_cases :
      (cs : List GuardedCase) (n : ℕ) (progress : GoalProgress) → drop n (f.cases k l) ≡ cs
      → goal_weight f (choose_case cs n a b progress) < goal_weight f (Choose n a b progress)
  lighter_of_cases [] n progress e = omega arith
  lighter_of_cases (c ∷ cs) n progress e =
      case_falls (guard_weight c.guard) (cases_weight cs) (rest_weight f progress)
      (form_weight (guard_form c.guard a b)) (cases_weight (drop n (cases_of_kinds f (sym_kind a) (sym_kind b))))
      (cases_weight (drop (suc n) (cases_of_kinds f (sym_kind a) (sym_kind b))))
      (guard_form_weight c.guard a b)
      (ap (λ t. cases_weight (drop n t)) cases_by_kinds ∙ ap cases_weight e)
      (ap (λ t. cases_weight (drop (suc n) t)) cases_by_kinds ∙ ap cases_weight (drop_next (f.cases k l) n c cs e))

  -- the parts, of operands and cases that are not far
  module _ (ob : ObName) (valid : IsTrue (is_valid f)) where
    -- the choice by the first case that is left has parts of the obligation
    parts_of_cases :
        (cs : List GuardedCase) (n : ℕ) (progress : GoalProgress) → drop n (f.cases k l) ≡ cs
        → IsTrue (is_obligation f.head ob)
        → IsChoiceOf f ob n a b progress → HasParts f ob (choose_case cs n a b progress)
    parts_of_cases [] n progress e d h = tt
    parts_of_cases (c ∷ cs) n progress e d h =
        let near : IsNearCase c = of_next IsNearCase (f.cases k l) n c cs (AreNear-cases f k l valid) e in
        let both = next_are_operands f ob progress.ops (results_of progress) a b d h.progress.made
        h.progress.results h.next in
        let some : 2 < name_count ob = some_names ob in
        let below : n < length (f.cases k l) = drop_within (f.cases k l) n c cs e in (
          guard_form_has_places c.guard (name_count ob) a b near.0 (omega arith) both.0.names
              both.1.names h.a_near h.b_near,
          (
            h.progress,
            next_result ob progress a b (sym_result c.res a b) h.next
                (result_moves f ob (length (results_of progress)) a b k there both.0 both.1 c.res near.1),
          ),
          record {
            progress = h.progress;
            next = h.next;
            a_declared = h.a_declared;
            b_declared = h.b_declared;
            a_near = h.a_near;
            b_near = h.b_near;
            cases = subst (λ t. suc n ≤ length t) (sym cases_by_kinds) (omega arith);
          },
        )

module _ (f : Function) (ob : ObName) (case : ℕ) (a b : SymOp) (progress : GoalProgress) where
  -- the choice by the kinds of the two operations asks what the transformation asks
  asked_of_kinds :
      (ka kb : Option Kind) → sym_kind a ≡ ka → sym_kind b ≡ kb
      → ask_goal f (choose_by_kinds f case a b ka kb progress) ≡ ask_goal f (Choose case a b progress)
  unfolding ask_goal ask_transform
  asked_of_kinds None kb there other =
      ap (λ t. ask_result_by_kinds (from_case case f) a b t (sym_kind b) (or_undefined (ask_with f progress)))
      (sym there)
  asked_of_kinds (Some k) None there other =
      ap (λ t. ask_result_by_kinds (from_case case f) a b (Some k) t (or_undefined (ask_with f progress))) (sym other)
      ∙ ap (λ t. ask_result_by_kinds (from_case case f) a b t (sym_kind b) (or_undefined (ask_with f progress)))
      (sym there)
  asked_of_kinds (Some k) (Some l) there other =
      asked_of_cases f a b k l there other (drop case (f.cases k l)) case progress refl
      ∙ sym (ask_from_case f a b k l there other case (ask_with f progress))

  lighter_of_kinds :
      (ka kb : Option Kind) → sym_kind a ≡ ka → sym_kind b ≡ kb
      → goal_weight f (choose_by_kinds f case a b ka kb progress) < goal_weight f (Choose case a b progress)
  lighter_of_kinds None kb there other = omega arith
  lighter_of_kinds (Some k) None there other = omega arith
  lighter_of_kinds (Some k) (Some l) there other =
      lighter_of_cases f a b k l there other (drop case (f.cases k l)) case progress refl

  module _ (valid : IsTrue (is_valid f)) (d : IsTrue (is_obligation f.head ob)) where
    -- so has the choice by the kinds of the two operations
    parts_of_kinds :
        (ka kb : Option Kind) → sym_kind a ≡ ka → sym_kind b ≡ kb → IsChoiceOf f ob case a b progress
        → HasParts f ob (choose_by_kinds f case a b ka kb progress)
    parts_of_kinds None kb there other h = (h.progress, next_result ob progress a b ops.Nop h.next (inl refl))
    parts_of_kinds (Some k) None there other h =
        let both = next_are_operands f ob progress.ops (results_of progress) a b d h.progress.made
        h.progress.results h.next in (
          h.progress,
          next_result ob progress a b a h.next
              (first_stays f ob (length (results_of progress)) a b k there both.0 both.1),
        )
    parts_of_kinds (Some k) (Some l) there other h =
        parts_of_cases f a b k l there other ob valid (drop case (f.cases k l)) case progress refl d h

    pub choose_rule : IsRewriting f ob (Choose case a b progress) (rewrite_choose f case a b progress)
    choose_rule = record {
      asked = asked_of_kinds (sym_kind a) (sym_kind b) refl refl;
      parts = λ h. parts_of_kinds (sym_kind a) (sym_kind b) refl refl h;
      lighter = lighter_of_kinds (sym_kind a) (sym_kind b) refl refl;
    }
