use Rattle.diff_tables.specs.Steps.{way_of}
use Rattle.diff_tables.proofs.RowSteps.{DoneBelow}
use Rattle.diff_tables.proofs.table.begin_ways.Given as goal

abbrev pub invariant-loop-x : goal.invariant-loop-x
invariant-loop-x l = DoneBelow (λ x old. way_of l.number l.lit x old) l.initial.ways l.ways l.x
