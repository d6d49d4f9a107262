-- The plan of a goal with its starts, without them, is the plan of the goal.
use Rattle.std.proofs.Common.{◌≡◌, ℕ, zero, suc, ◌+◌, ◌-◌, Option, Some, None, List, [], ◌∷◌, ◌++◌, drop, refl, ap}
use Rattle.std.proofs.Common.{subst, ◌∙◌}
use Rattle.ot_model.specs.declared.op.Kind.{Kind}
use Rattle.fn_rules.specs.declared.function.ObName.{ObName}
use Rattle.fn_rules.specs.declared.function.ObName.TheVariants.{Pair, Triple}
use Rattle.fn_rules.specs.Functions.{Function, GuardedCase}
use Rattle.ask_core.specs.Plans.{Plan}
use Rattle.proof_trees.specs.Starts.{Ask, Holds, Fails, unmarked}
use Rattle.proof_trees.specs.Startless.{unmarked-startless}
use Rattle.ot_questions.specs.declared.place.SymOp.{SymOp}
use Rattle.ot_questions.specs.declared.why.Why.{Why}
use Rattle.ot_questions.specs.Obligation.{ask_converge, ask_behind, ask_commute, plan_of}
use Rattle.ot_questions.specs.Places.{sym_kind, sym_result}
use Rattle.ot_questions.specs.Questions.{ask_places, ask_guard, ask_first_result, ask_result_by_kinds, ask_transform}
use Rattle.ot_questions.specs.Questions.{or_undefined}
use Rattle.ot_terms.specs.declared.goal.GoalProgress.{GoalProgress}
use Rattle.ot_terms.specs.Belonging.{next_operands}
use Rattle.ot_terms.specs.Forms.{FormTree}
use Rattle.ot_terms.specs.Goals as goals
use Rattle.ot_terms.specs.Goals.{GoalTree}
use Rattle.ot_terms.specs.Placing.{guard_form}
use Rattle.ot_terms.specs.Standing.{ask_form, ask_goal, ask_after, ask_pair_after, ask_second_way_after}
use Rattle.ot_terms.specs.Standing.{ask_triple_after, ask_with, from_case, results_of}
use Rattle.ot_terms.specs.Starting.{start_goal_of}
use Rattle.ot_terms.specs.Weights.{transforms_of}
use Rattle.ot_terms.proofs.ByForms.{form_through}
use Rattle.ot_terms.proofs.GuardForms.{ask_form_guard_form}
use Rattle.ot_terms.proofs.Starts.{ask_goal_start_of}
use Rattle.start_laws.specs.Starts.{Start}
use Rattle.start_laws.specs.Marking.{Marked, with_start, marked_places, marked_form, marked_cases, marked_by_kinds}
use Rattle.start_laws.specs.Marking.{marked_transform, marked_next, marked_after, marked_with, begun_transform}
use Rattle.start_laws.specs.Marking.{marked_goal, marked_plan}

pub unmarked-with_start : (start : Option Start) (p : Marked) → unmarked (with_start start p) ≡ unmarked p
unmarked-with_start start (Ask other l on_yes on_no) = refl
unmarked-with_start start (Holds other) = refl
unmarked-with_start start (Fails other why) = refl

-- without its starts, a form in front of two plans asks what the form asks
pub unmarked-form :
    (g : FormTree) (p q : Marked) → unmarked (marked_form g p q) ≡ ask_form g (unmarked p) (unmarked q)
unfolding marked_form ask_form
unmarked-form = form_through marked_places ask_places unmarked (λ x y p q differ. refl)

-- a transformation that goes on with plans whose starts are left out
module _ (a b : SymOp) (go : SymOp → Marked) (plain : SymOp → Plan Why) (same : (r : SymOp)
    → unmarked (go r) ≡ plain r) where
  unmarked-cases : (cs : List GuardedCase)
      → unmarked (marked_cases cs a b go) ≡ ask_first_result cs a b (or_undefined plain)
  unfolding marked_cases
  unmarked-cases [] = refl
  unmarked-cases (c ∷ cs) =
      unmarked-form (guard_form c.guard a b) (go (sym_result c.res a b)) (marked_cases cs a b go)
      ∙ ask_form_guard_form c.guard a b (unmarked (go (sym_result c.res a b))) (unmarked (marked_cases cs a b go))
      ∙ ap (λ t. ask_guard c.guard a b t (unmarked (marked_cases cs a b go))) (same (sym_result c.res a b))
      ∙ ap (λ t. ask_guard c.guard a b (plain (sym_result c.res a b)) t) (unmarked-cases cs)

  unmarked-by_kinds :
      (f : Function) (case : ℕ) (k l : Option Kind)
      → unmarked (marked_by_kinds f case a b k l go)
      ≡ ask_result_by_kinds (from_case case f) a b k l (or_undefined plain)
  unfolding marked_by_kinds
  unmarked-by_kinds f case None l = same _
  unmarked-by_kinds f case (Some k) None = same _
  unmarked-by_kinds f case (Some k) (Some l) = unmarked-cases (drop case (f.cases k l))

  pub unmarked-transform :
      (f : Function) (case : ℕ) → unmarked (marked_transform f case a b go) ≡ ask_transform (from_case case f) a b plain
  unfolding ask_transform
  unmarked-transform f case = unmarked-by_kinds f case (sym_kind a) (sym_kind b)

-- what is left after these results, by the next transformation, if there is one
module _ (f : Function) where
  abbrev asked_on : ObName → List SymOp → List SymOp → Option (SymOp × SymOp) → Plan Why
  asked_on ob os got None = ask_after f ob os got
  asked_on ob os got (Some next) = ask_transform f next.0 next.1 (λ r. ask_after f ob os (got ++ r ∷ []))

  -- the next transformation, or the end, asks what is left after the results
  asks_on : (ob : ObName) (os got : List SymOp) → asked_on ob os got (next_operands ob os got) ≡ ask_after f ob os got
  unfolding ask_after ask_pair_after ask_triple_after ask_second_way_after ask_converge ask_commute ask_behind
  asks_on (Pair k l) [] got = refl
  asks_on (Pair k l) (a ∷ []) got = refl
  asks_on (Pair k l) (a ∷ b ∷ os) [] = refl
  asks_on (Pair k l) (a ∷ b ∷ os) (x ∷ []) = refl
  asks_on (Pair k l) (a ∷ b ∷ os) (x ∷ y ∷ got) = refl
  asks_on (Triple k l m) [] got = refl
  asks_on (Triple k l m) (a ∷ []) got = refl
  asks_on (Triple k l m) (a ∷ b ∷ []) got = refl
  asks_on (Triple k l m) (a ∷ b ∷ c ∷ os) [] = refl
  asks_on (Triple k l m) (a ∷ b ∷ c ∷ os) (x ∷ []) = refl
  asks_on (Triple k l m) (a ∷ b ∷ c ∷ os) (x ∷ y ∷ []) = refl
  asks_on (Triple k l m) (a ∷ b ∷ c ∷ os) (x ∷ y ∷ left ∷ []) = refl
  asks_on (Triple k l m) (a ∷ b ∷ c ∷ os) (x ∷ y ∷ left ∷ u ∷ []) = refl
  asks_on (Triple k l m) (a ∷ b ∷ c ∷ os) (x ∷ y ∷ left ∷ u ∷ v ∷ []) = refl
  asks_on (Triple k l m) (a ∷ b ∷ c ∷ os) (x ∷ y ∷ left ∷ u ∷ v ∷ right ∷ got) = refl

  pub next_asks :
      (s : Start) (next : SymOp × SymOp) → next_operands s.ob s.ops s.got ≡ Some next
      → ask_transform f next.0 next.1 (λ r. ask_after f s.ob s.ops (s.got ++ r ∷ [])) ≡ ask_after f s.ob s.ops s.got
  next_asks s next e =
      subst (λ o. asked_on s.ob s.ops s.got o ≡ ask_after f s.ob s.ops s.got) e (asks_on s.ob s.ops s.got)

  -- what is left of an obligation, with its starts
  unmarked-next :
      (s : Start) (next : Option (SymOp × SymOp)) (go : SymOp → Marked) → next_operands s.ob s.ops s.got ≡ next
      → ((r : SymOp) → unmarked (go r) ≡ ask_after f s.ob s.ops (s.got ++ r ∷ []))
      → unmarked (marked_next f s next go) ≡ ask_after f s.ob s.ops s.got
  unfolding marked_next
  unmarked-next s None go e same = unmarked-startless Start (ask_after f s.ob s.ops s.got)
  unmarked-next s (Some next) go e same =
      unmarked-with_start (Some s) (marked_transform f 0 next.0 next.1 go)
      ∙ unmarked-transform next.0 next.1 go (λ r. ask_after f s.ob s.ops (s.got ++ r ∷ [])) same f 0
      ∙ next_asks s next e

  pub unmarked-after :
      (most : ℕ) (ob : ObName) (os got : List SymOp) → unmarked (marked_after most f ob os got) ≡ ask_after f ob os got
  unfolding marked_after
  unmarked-after zero ob os got = unmarked-startless Start (ask_after f ob os got)
  unmarked-after (suc most) ob os got =
      unmarked-next (record { ob = ob; ops = os; got = got }) (next_operands ob os got)
      (λ r. marked_after most f ob os (got ++ r ∷ [])) refl (λ r. unmarked-after most ob os (got ++ r ∷ []))

  unmarked-with : (progress : GoalProgress) (r : SymOp) → unmarked (marked_with f progress r) ≡ ask_with f progress r
  unmarked-with progress r =
      unmarked-after (transforms_of progress.ob - (1 + progress.count)) progress.ob progress.ops
      (results_of progress ++ r ∷ [])

  unmarked-begun_transform : (case : ℕ) (progress : GoalProgress) (p : Marked)
      → unmarked (begun_transform case progress p) ≡ unmarked p
  unmarked-begun_transform zero progress p = unmarked-with_start _ p
  unmarked-begun_transform (suc case) progress p = refl

  pub unmarked-choice :
      (case : ℕ) (a b : SymOp) (progress : GoalProgress)
      → unmarked (marked_transform f case a b (marked_with f progress))
      ≡ ask_transform (from_case case f) a b (ask_with f progress)
  unmarked-choice case a b progress =
      unmarked-transform a b (marked_with f progress) (ask_with f progress) (unmarked-with progress) f case

  -- without its starts, the plan of a goal is what the goal asks
  pub unmarked-goal : (g : GoalTree) → unmarked (marked_goal f g) ≡ ask_goal f g
  unfolding marked_goal ask_goal
  unmarked-goal goals.Holds = refl
  unmarked-goal (goals.Fails why) = refl
  unmarked-goal (goals.If g on_yes on_no) =
      unmarked-form g (marked_goal f on_yes) (marked_goal f on_no)
      ∙ ap (λ t. ask_form g t (unmarked (marked_goal f on_no))) (unmarked-goal on_yes)
      ∙ ap (λ t. ask_form g (ask_goal f on_yes) t) (unmarked-goal on_no)
  unmarked-goal (goals.Choose case a b progress) =
      unmarked-begun_transform case progress (marked_transform f case a b (marked_with f progress))
      ∙ unmarked-choice case a b progress
  unmarked-goal (goals.Deliver o progress) = unmarked-with progress o
  unmarked-goal (goals.Same left right) = unmarked-startless Start (ask_goal f (goals.Same left right))

  pub unmarked-plan : (ob : ObName) → unmarked (marked_plan f ob) ≡ plan_of f ob
  unmarked-plan ob = unmarked-goal (start_goal_of f.head ob) ∙ ask_goal_start_of f ob
