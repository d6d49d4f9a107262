-- The lines behind those of a counterexample: both ways of it, where they differ, and the same as a case.
use Rattle.std.specs.Prelude.{ℕ, List, [], ◌++◌, Option, Some, None}
use Rattle.ot_model.specs.declared.cell.Cell.{Cell}
use Rattle.ot_model.specs.declared.op.Op.{Op}
use Rattle.fn_rules.specs.declared.function.Level.{Level}
use Rattle.fn_rules.specs.Functions.{Function}
use Rattle.ot_ways.specs.declared.ways.BothWays.{BothWays}
use Rattle.ot_steps.specs.CaseLines.{case_line}
use Rattle.ot_ways.specs.Steps.{shown_ways}
use Rattle.ot_steps.specs.StepTexts.{ways_text}

-- both ways, if they are shown
abbrev pub shown_text : Function → Option BothWays → List ℕ
shown_text f None = []
shown_text f (Some ways) = ways_text f ways

-- both ways step by step, the place at which they differ, and the case
abbrev pub explained_text : Function → Level → List Cell → List Op → List ℕ
explained_text f level d ops = shown_text f (shown_ways f level d ops) ++ case_line level d ops
