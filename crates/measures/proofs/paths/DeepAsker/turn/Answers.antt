use Rattle.std.proofs.Common.{◌<◌, ◌≤◌, arith}
use Rattle.ask_core.specs.declared.asker.TheConstants.{MAX_QUESTIONS}
use Rattle.measures.specs.Deep.{deep_plan-zero, deep_plan-above}
use Rattle.measures.proofs.paths.DeepAsker.turn.Goals as goal

pub returns-then-node-eq0-clause-begins : goal.returns-then-node-eq0-clause-begins
returns-then-node-eq0-clause-begins c = rw (c.if-node-eq0.true) deep_plan-zero

pub returns-else-node-eq0-clause-begins : goal.returns-else-node-eq0-clause-begins
returns-else-node-eq0-clause-begins c =
    let own : c.args.node ≤ MAX_QUESTIONS = c.requires in
    let above : 0 < c.args.node = omega (arith, c.if-node-eq0.false) in
    (omega (arith, own), omega arith, deep_plan-above c.args.node above)
