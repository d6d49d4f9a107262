-- A goal of a function and an obligation is true at a valuation exactly where its plan ends in `Holds` there.
use Rattle.std.proofs.Common.{◌≡◌, ℕ, ℤ, None, List, [], ◌∷◌, ◌++◌, refl, ap, sym, ◌∙◌, subst}
use Rattle.std.specs.Prelude.{◌↔◌, IsTrue}
use Rattle.fn_rules.specs.declared.function.ObName.{ObName}
use Rattle.fn_rules.specs.declared.function.ObName.TheVariants.{Pair, Triple}
use Rattle.fn_rules.specs.Functions.{Function}
use Rattle.ask_core.specs.Plans.{end_of, value}
use Rattle.ot_questions.specs.declared.place.SymOp.{SymOp}
use Rattle.ot_questions.specs.declared.place.SymOp.TheVariants.{Nop}
use Rattle.ot_questions.specs.Names.{name_count}
use Rattle.ot_questions.proofs.Instances.{none_from_value, value_from_none}
use Rattle.ot_terms.specs.declared.goal.GoalProgress.{GoalProgress}
use Rattle.ot_terms.specs.Forms.{form_holds}
use Rattle.ot_terms.specs.Goals as goals
use Rattle.ot_terms.specs.Goals.{GoalTree}
use Rattle.ot_terms.specs.Standing.{ask_after, ask_with, ask_goal, results_of}
use Rattle.ot_terms.specs.Weights.{transforms_of}
use Rattle.ot_terms.specs.Belonging.{AreOperandsOf, IsProgressOf, HasParts, IsGoalOf}
use Rattle.ot_terms.specs.Truth.{HoldsAfter, HoldsWith, goal_holds}
use Rattle.ot_terms.proofs.Forms.{end_form}
use Rattle.ot_terms.proofs.Comparisons.{compared_over_all}
use Rattle.ot_terms.proofs.Choices.{along, by_test_holds}
use Rattle.ot_terms.proofs.Results.{result_holds}
use Rattle.ot_terms.proofs.PairTruth.{pair_after}
use Rattle.ot_terms.proofs.TripleTruth.{triple_after}

module _ (f : Function) (v : ℕ → ℤ) where
  after_holds :
      (ob : ObName) (os got : List SymOp) → AreOperandsOf ob os
      → HoldsAfter (transforms_of ob) f v ob os got ↔ (end_of (ask_after f ob os got) v ≡ None)
  after_holds (Pair k l) os got made =
      subst (λ x. HoldsAfter 2 f v (Pair k l) x got ↔ (end_of (ask_after f (Pair k l) x got) v ≡ None)) (sym made.2)
      (pair_after v f k l made.0 made.1 (Nop ∷ []) got)
  after_holds (Triple k l m) os got made =
      subst (λ x. HoldsAfter 6 f v (Triple k l m) x got ↔ (end_of (ask_after f (Triple k l m) x got) v ≡ None))
      (sym made.3) (triple_after v f k l m made.0 made.1 made.2 [] got)

  with_holds :
      (ob : ObName) (progress : GoalProgress) (r : SymOp) → IsProgressOf ob progress
      → HoldsWith f v progress r ↔ (end_of (ask_with f progress r) v ≡ None)
  with_holds ob progress r h =
      after_holds progress.ob progress.ops (results_of progress ++ r ∷ [])
      (subst (λ o. AreOperandsOf o progress.ops) (sym h.same) h.made)

  -- a goal with the parts of an obligation is true exactly where its plan ends in `Holds`
  parts_hold : (ob : ObName) (g : GoalTree) → HasParts f ob g → goal_holds f v g ↔ (end_of (ask_goal f g) v ≡ None)
  unfolding ask_goal
  parts_hold ob goals.Holds h = (λ x. refl, λ n. tt)
  parts_hold ob (goals.Fails why) h = (λ x. absurd x, λ n. absurd (cc))
  parts_hold ob (goals.If g on_yes on_no) h =
      along _ _ _ (end_form g (ask_goal f on_yes) (ask_goal f on_no) v)
      (by_test_holds (form_holds v g) _ _ _ _ (parts_hold ob on_yes h.1) (parts_hold ob on_no h.2))
  parts_hold ob (goals.Choose case a b progress) h =
      result_holds v a b f case (HoldsWith f v progress) (ask_with f progress)
      (λ r. with_holds ob progress r h.progress)
  parts_hold ob (goals.Deliver o progress) h = with_holds ob progress o h.0
  parts_hold ob (goals.Same left right) h =
      let compared = compared_over_all v f (name_count ob) left right h.0 h.1 in
      (compared.1, compared.0)

pub goal_holds_ends :
    (f : Function) (ob : ObName) (g : GoalTree) (v : ℕ → ℤ) → IsGoalOf f ob g
    → goal_holds f v g ↔ (end_of (ask_goal f g) v ≡ None)
goal_holds_ends f ob g v h = parts_hold f v ob g h.parts

pub goal_holds_value :
    (f : Function) (ob : ObName) (g : GoalTree) (v : ℕ → ℤ) → IsGoalOf f ob g
    → goal_holds f v g ↔ IsTrue (value (ask_goal f g) v)
goal_holds_value f ob g v h =
    let ends = goal_holds_ends f ob g v h in (
      λ x. value_from_none (end_of (ask_goal f g) v) (ends.0 x),
      λ t. ends.1 (none_from_value (end_of (ask_goal f g) v) t),
    )

-- goals that stand for one plan
pub goal_holds_alike :
    (f : Function) (ob : ObName) (g h : GoalTree) (v : ℕ → ℤ) → IsGoalOf f ob g → IsGoalOf f ob h
    → ask_goal f g ≡ ask_goal f h
    → goal_holds f v g ↔ goal_holds f v h
goal_holds_alike f ob g h v hg hh e =
    let first = goal_holds_ends f ob g v hg in
    let second = goal_holds_ends f ob h v hh in
    let one_end : end_of (ask_goal f g) v ≡ end_of (ask_goal f h) v = ap (λ p. end_of p v) e in
    (λ x. second.1 (sym one_end ∙ first.0 x), λ y. first.1 (one_end ∙ second.0 y))
