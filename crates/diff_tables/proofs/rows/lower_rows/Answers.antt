use Rattle.std.proofs.Common.{arith, subst, List, [], Option}
use Rattle.std.proofs.lemmas.List.{get_or_default}
use Rattle.diff_tables.specs.declared.hop.Hop.{Hop}
use Rattle.diff_tables.specs.Steps.{IsLowered}
use Rattle.diff_tables.proofs.RowSteps.{AreLowered-more}
use Rattle.diff_tables.proofs.rows.lower_rows.Goals as goal

pub loop-y-preserved : goal.loop-y-preserved
loop-y-preserved c =
    AreLowered-more c.args.ways.now c.args.from c.args.rows.now c.loop-y.rows c.loop-y.y c.lower.new.self
    c.loop-y.invariant c.loop-y-test.true
    (subst (λ (row : List (Option Hop)). IsLowered c.args.ways.now c.args.from row c.lower.new.self)
    (get_or_default c.loop-y.rows c.loop-y.y c.index-rows-y.result [] (omega (arith, c.loop-y.invariant.len)))
    c.lower.ensures)
