use Rattle.std.proofs.Common.{◌≡◌, ◌<◌, List, drop, sym, subst}
use Rattle.std.proofs.lemmas.Result.{IfOk-weaker}
use Rattle.fn_rules.specs.Rules.{function_of}
use Rattle.ask_core.specs.Plans.{Fails}
use Rattle.ot_prove.specs.declared.outcome.Answer.{Answer}
use Rattle.ot_prove.specs.Outcomes.{AreAnswersTo, answered_by}
use Rattle.ot_questions.specs.Obligation.{plan_of}
use Rattle.ot_least.specs.Shortest.{HasCells}
use Rattle.ot_least.proofs.Endings.{fewer_behind, way_behind}
use Rattle.ot_least.proofs.ending.shorter_ending.Goals as goal

pub ending_at-requires-clause-way : goal.ending_at-requires-clause-way
ending_at-requires-clause-way c =
    let f = function_of c.args.rules.now in
    subst (λ (l : List Answer). AreAnswersTo (plan_of f c.args.ob) l (Fails c.args.why)) (sym c.remove.ensures.items)
    (way_behind f c.args.ob c.args.why c.args.bound c.args.answers.items c.requires.way)

-- the failing end has fewer cells than the bound
pub returns-clause-fewer : goal.returns-clause-fewer
returns-clause-fewer c =
    let f = function_of c.args.rules.now in
    let ob = c.args.ob in
    let rest : c.remove.new.self.items ≡ drop 1 c.args.answers.items = c.remove.ensures.items in
    IfOk-weaker c.ending_at.result (λ e. HasCells ob (answered_by c.remove.new.self.items) e.cells)
    (λ e. e.cells < c.args.bound)
    (λ e has.
    fewer_behind f ob c.args.why c.args.bound
    (λ l more values. c.failing_ends_below_a_bound_are_shorter.ensures.shorter f ob c.args.why l more c.args.bound
    values c.rules_are_valid.ensures) c.args.answers.items c.requires.way c.requires.possible e.cells
    (subst (λ (l : List Answer). HasCells ob (answered_by l) e.cells) rest has))
    c.ending_at.ensures.cells
