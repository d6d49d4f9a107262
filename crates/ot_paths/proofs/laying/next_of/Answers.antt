use Rattle.std.proofs.Common.{◌≡◌, ◌∙◌, sym, subst}
use Rattle.std.proofs.lemmas.Bool.{true≢false}
use Rattle.std.proofs.lemmas.Result.{IfOk-weaker}
use Rattle.fn_rules.specs.Rules.{function_of}
use Rattle.ot_terms.specs.Goals.{goal_tree}
use Rattle.ot_rewrite.specs.Reaching.{IsStep}
use Rattle.ot_rewrite.specs.Steps.{front_tree}
use Rattle.ot_paths.proofs.laying.next_of.Goals as goal

pub returns-in-Some : goal.returns-in-Some
returns-in-Some c =
    let f = function_of c.args.rules.now in
    let step = rw c.in-Some.is at c.in_ok-next.ensures in
    IfOk-weaker c.goal.result (λ g. goal_tree g ≡ front_tree c.in-Some.next)
    (λ g. IsStep f (front_tree c.args.front) (goal_tree g))
    (λ g same. subst (IsStep f (front_tree c.args.front)) (sym same) step) c.goal.ensures

-- a rule fits
pub returns-in-None : goal.returns-in-None
returns-in-None c =
    let stays = rw c.in-None.is at c.in_ok-next.ensures in
    absurd (true≢false (sym stays ∙ c.requires.open))
