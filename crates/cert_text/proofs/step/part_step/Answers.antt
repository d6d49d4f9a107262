use Rattle.cert_text.proofs.StepLemmas.{cycle_steps, tree_steps}
use Rattle.cert_text.proofs.step.part_step.Goals as goal

pub returns-in-Tree-Line : goal.returns-in-Tree-Line
returns-in-Tree-Line c =
    tree_steps c.args.tp1.now c.args.tp2.now c.args.stage c.in-Tree-Line.level c.in-Tree-Line.came
    c.in-Tree-Line.branches c.args.begun c.in-Tree-Line.field-0-1 c.args.byte c.tree_step.result c.in-Tree-Line.is-0
    c.in-Tree-Line.is-1 c.requires.sound (c.tree_step.ensures c.args.tp1.now c.args.tp2.now)

pub returns-in-Tree-Cycle : goal.returns-in-Tree-Cycle
returns-in-Tree-Cycle c =
    cycle_steps c.args.tp1.now c.args.tp2.now c.args.stage c.in-Tree-Cycle.level c.in-Tree-Cycle.came
    c.in-Tree-Cycle.branches c.args.begun c.in-Tree-Cycle.cycle c.args.byte c.cycle_step.result c.in-Tree-Cycle.is-0
    c.in-Tree-Cycle.is-1 (c.cycle_step.ensures c.args.tp1.now c.args.tp2.now)
