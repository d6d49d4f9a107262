use Rattle.std.proofs.Common.{arith}
use Rattle.std.proofs.lemmas.Result.{IfOk-weaker}
use Rattle.fn_rules.specs.Rules.{function_of}
use Rattle.ot_terms.specs.Goals.{goal_tree}
use Rattle.start_laws.specs.Settled.{OpensStart}
use Rattle.ot_starts.proofs.SettledGoals.{opens_on}
use Rattle.ot_starts.proofs.table.+laid_on.Goals as goal

pub laid_on-requires : goal.laid_on-requires
laid_on-requires t c = (
  omega arith,
  (
    (c.requires.goal.0, c.in_ok-next.ensures.opens.belongs c.requires.goal.0 c.requires.goal.1),
    (c.laid_at.ensures.starts, c.laid_at.ensures.ends),
  ),
)

pub returns-clause-opens : goal.returns-clause-opens
returns-clause-opens t c =
    let f = function_of c.args.rules.now in
    let old = goal_tree c.args.goal.now in
    let next = goal_tree c.in_ok-next.next.now in
    IfOk-weaker c.laid_on.result (λ r. OpensStart f next (goal_tree r.now)) (λ r. OpensStart f old (goal_tree r.now))
    (λ r. opens_on f old next (goal_tree r.now) c.in_ok-next.ensures.opens) c.laid_on.ensures.opens

pub returns-clause-starts : goal.returns-clause-starts
returns-clause-starts t c = c.laid_on.ensures.starts

pub returns-clause-ends : goal.returns-clause-ends
returns-clause-ends t c = c.laid_on.ensures.ends
