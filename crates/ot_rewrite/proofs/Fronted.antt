-- What a rule gives: the next front, or that none fits.
use Rattle.std.proofs.Common.{◌≡◌, Option, Some, None, option_map, Result, IfOk, Bor, sym, subst}
use Rattle.std.proofs.lemmas.Result.{IfOk-weaker}
use Rattle.fn_rules.specs.Functions.{Function}
use Rattle.ot_terms.specs.declared.goal.Goal.{Goal}
use Rattle.ot_terms.specs.Goals.{GoalTree, goal_tree}
use Rattle.ot_rewrite.specs.declared.front.Front.{Front}
use Rattle.ot_rewrite.specs.Steps.{front_tree}
use Rattle.ot_rewrite.specs.Table.{rewritten}

abbrev pub Given : Function → GoalTree → Option Front → Type 0
Given f old o = option_map front_tree o ≡ rewritten f old

pub next_given :
    (f : Function) (old : GoalTree) (o : Option Front) (next got : Front) → Given f old o → o ≡ Some next → got ≡ next
    → rewritten f old ≡ Some (front_tree got)
next_given f old o next got h e same =
    subst (λ t. rewritten f old ≡ Some (front_tree t)) (sym same) (sym (subst (Given f old) e h))

pub none_given : (f : Function) (old : GoalTree) (o : Option Front) → Given f old o → o ≡ None → rewritten f old ≡ None
none_given f old o h e = sym (subst (Given f old) e h)

-- what is known of a front is known of the goal that it becomes in the arena
pub placed_keeps :
    {E : Type 0} (P : GoalTree → Type 0) (old : GoalTree) (r : Result (Bor Goal) E) → P old
    → IfOk r (λ g. goal_tree g.now ≡ old) → IfOk r (λ g. P (goal_tree g.now))
placed_keeps P old r h is =
    IfOk-weaker r (λ g. goal_tree g.now ≡ old) (λ g. P (goal_tree g.now)) (λ g same. subst P (sym same) h) is
