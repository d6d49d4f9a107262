-- Each start of a goal's plan stands for the plan that is there.
use Rattle.std.proofs.Common.{◌≡◌, ℕ, zero, suc, ◌+◌, ◌-◌, negsuc, Bool, true, false, if◌then◌else◌, nat_eq, int_le}
use Rattle.std.proofs.Common.{Option, Some, None, List, [], ◌∷◌, ◌++◌, drop, IsTrue, refl, sym, subst, ◌∙◌}
use Rattle.ot_model.specs.declared.op.Kind.{Kind}
use Rattle.fn_rules.specs.declared.function.ObName.{ObName}
use Rattle.fn_rules.specs.Functions.{Function, GuardedCase}
use Rattle.fn_rules.specs.Obligations.{is_obligation}
use Rattle.proof_trees.specs.Starts.{Ask, Holds, Fails, unmarked, IsMarkedBy}
use Rattle.proof_trees.specs.Startless.{IsMarkedBy-startless}
use Rattle.ot_questions.specs.declared.place.Place.{Place}
use Rattle.ot_questions.specs.declared.place.SymOp.{SymOp}
use Rattle.ot_questions.specs.Places.{plus, by_order, sym_kind, sym_result}
use Rattle.ot_terms.specs.declared.goal.GoalProgress.{GoalProgress}
use Rattle.ot_terms.specs.Belonging.{IsGoalOf, HasParts, IsChoiceOf, next_operands}
use Rattle.ot_terms.specs.Forms as forms
use Rattle.ot_terms.specs.Forms.{FormTree}
use Rattle.ot_terms.specs.Goals as goals
use Rattle.ot_terms.specs.Goals.{GoalTree}
use Rattle.ot_terms.specs.Placing.{guard_form}
use Rattle.ot_terms.specs.Standing.{ask_after, ask_goal, results_of}
use Rattle.ot_terms.specs.Starting.{start_goal_of}
use Rattle.ot_terms.specs.Weights.{transforms_of}
use Rattle.ot_terms.proofs.StartParts.{start_of_belongs}
use Rattle.start_laws.specs.Begun.{start_after}
use Rattle.start_laws.specs.Starts.{Start, meaning}
use Rattle.start_laws.specs.Marking.{Marked, with_start, marked_places, marked_form, marked_cases, marked_by_kinds}
use Rattle.start_laws.specs.Marking.{marked_transform, marked_next, marked_after, marked_with, begun_transform}
use Rattle.start_laws.specs.Marking.{marked_goal, marked_plan}
use Rattle.start_laws.proofs.Unmarked.{unmarked-transform, unmarked-choice, unmarked-after, next_asks}

module _ (f : Function) where
  abbrev AreLawful : Marked → Type 0
  AreLawful p = IsMarkedBy (meaning f) p

  with_start-kept : (s : Start) (p : Marked) → unmarked p ≡ meaning f s → AreLawful p
      → AreLawful (with_start (Some s) p)
  with_start-kept s (Ask other l on_yes on_no) e h = (e, h.1, h.2)
  with_start-kept s (Holds other) e h = e
  with_start-kept s (Fails other why) e h = e

  by_tests-kept :
      (x y : Place) (p q : Marked) (b c : Bool) → AreLawful p → AreLawful q
      → AreLawful (if b then (if c then p else q) else marked_places x y p q)
  by_tests-kept x y p q true true hp hq = hp
  by_tests-kept x y p q true false hp hq = hq
  by_tests-kept x y p q false c hp hq = (tt, hp, hq)

  order-kept : (x y : Place) (p q : Marked) → AreLawful p → AreLawful q → AreLawful (by_order marked_places x y p q)
  order-kept x y p q = by_tests-kept x y p q (nat_eq x.var y.var) (int_le x.off y.off)

  form-kept : (g : FormTree) (p q : Marked) → AreLawful p → AreLawful q → AreLawful (marked_form g p q)
  unfolding marked_form
  form-kept forms.True p q hp hq = hp
  form-kept (forms.Le x y) p q hp hq = order-kept x y p q hp hq
  form-kept (forms.Lt x y) p q hp hq = order-kept x (plus y (negsuc 0)) p q hp hq
  form-kept (forms.Eq x y) p q hp hq = order-kept x y (by_order marked_places y x p q) q (order-kept y x p q hp hq) hq
  form-kept (forms.And g h) p q hp hq = form-kept g (marked_form h p q) q (form-kept h p q hp hq) hq
  form-kept (forms.Or g h) p q hp hq = form-kept g p (marked_form h p q) hp (form-kept h p q hp hq)
  form-kept (forms.Not g) p q hp hq = form-kept g q p hq hp

  module _ (a b : SymOp) (go : SymOp → Marked) (each : (r : SymOp) → AreLawful (go r)) where
    cases-kept : (cs : List GuardedCase) → AreLawful (marked_cases cs a b go)
    unfolding marked_cases
    cases-kept [] = tt
    cases-kept (c ∷ cs) =
        form-kept (guard_form c.guard a b) (go (sym_result c.res a b)) (marked_cases cs a b go)
        (each (sym_result c.res a b)) (cases-kept cs)

    by_kinds-kept : (case : ℕ) (k l : Option Kind) → AreLawful (marked_by_kinds f case a b k l go)
    unfolding marked_by_kinds
    by_kinds-kept case None l = each _
    by_kinds-kept case (Some k) None = each _
    by_kinds-kept case (Some k) (Some l) = cases-kept (drop case (f.cases k l))

    transform-kept : (case : ℕ) → AreLawful (marked_transform f case a b go)
    transform-kept case = by_kinds-kept case (sym_kind a) (sym_kind b)

  next-kept :
      (s : Start) (next : Option (SymOp × SymOp)) (go : SymOp → Marked) → next_operands s.ob s.ops s.got ≡ next
      → ((r : SymOp) → unmarked (go r) ≡ ask_after f s.ob s.ops (s.got ++ r ∷ [])) → ((r : SymOp) → AreLawful (go r))
      → AreLawful (marked_next f s next go)
  unfolding marked_next
  next-kept s None go e same each = IsMarkedBy-startless (meaning f) (ask_after f s.ob s.ops s.got)
  next-kept s (Some next) go e same each =
      with_start-kept s (marked_transform f 0 next.0 next.1 go)
      (unmarked-transform next.0 next.1 go (λ r. ask_after f s.ob s.ops (s.got ++ r ∷ [])) same f 0
      ∙ next_asks f s next e) (transform-kept next.0 next.1 go each 0)

  after-kept : (most : ℕ) (ob : ObName) (os got : List SymOp) → AreLawful (marked_after most f ob os got)
  unfolding marked_after
  after-kept zero ob os got = IsMarkedBy-startless (meaning f) (ask_after f ob os got)
  after-kept (suc most) ob os got =
      next-kept (record { ob = ob; ops = os; got = got }) (next_operands ob os got)
      (λ r. marked_after most f ob os (got ++ r ∷ [])) refl (λ r. unmarked-after f most ob os (got ++ r ∷ []))
      (λ r. after-kept most ob os (got ++ r ∷ []))

  with-kept : (progress : GoalProgress) (r : SymOp) → AreLawful (marked_with f progress r)
  with-kept progress r = after-kept (transforms_of progress.ob - (1 + progress.count)) progress.ob progress.ops
      (results_of progress ++ r ∷ [])

  choice-kept : (case : ℕ) (a b : SymOp) (progress : GoalProgress)
      → AreLawful (marked_transform f case a b (marked_with f progress))
  choice-kept case a b progress = transform-kept a b (marked_with f progress) (with-kept progress) case

  begun_transform-kept :
      (ob : ObName) (case : ℕ) (a b : SymOp) (progress : GoalProgress) → IsChoiceOf f ob case a b progress
      → AreLawful (begun_transform case progress (marked_transform f case a b (marked_with f progress)))
  begun_transform-kept ob zero a b progress h =
      with_start-kept (start_after progress None) (marked_transform f 0 a b (marked_with f progress))
      (unmarked-choice f 0 a b progress ∙ next_asks f (start_after progress None) (a, b)
      (subst (λ o. next_operands o progress.ops (results_of progress) ≡ Some (a, b)) (sym h.progress.same) h.next))
      (choice-kept 0 a b progress)
  begun_transform-kept ob (suc case) a b progress h = choice-kept (suc case) a b progress

  parts-kept : (ob : ObName) (g : GoalTree) → HasParts f ob g → AreLawful (marked_goal f g)
  unfolding marked_goal
  parts-kept ob goals.Holds h = tt
  parts-kept ob (goals.Fails why) h = tt
  parts-kept ob (goals.If g on_yes on_no) h =
      form-kept g (marked_goal f on_yes) (marked_goal f on_no) (parts-kept ob on_yes h.1) (parts-kept ob on_no h.2)
  parts-kept ob (goals.Choose case a b progress) h = begun_transform-kept ob case a b progress h
  parts-kept ob (goals.Deliver o progress) h = with-kept progress o
  parts-kept ob (goals.Same left right) h = IsMarkedBy-startless (meaning f) (ask_goal f (goals.Same left right))

  pub starts_kept : (ob : ObName) (g : GoalTree) → IsGoalOf f ob g → IsMarkedBy (meaning f) (marked_goal f g)
  starts_kept ob g h = parts-kept ob g h.parts

  pub plan_starts_kept :
      (ob : ObName) → IsTrue (is_obligation f.head ob) → IsMarkedBy (meaning f) (marked_plan f ob)
  plan_starts_kept ob declared = starts_kept ob (start_goal_of f.head ob) (start_of_belongs f ob declared)
