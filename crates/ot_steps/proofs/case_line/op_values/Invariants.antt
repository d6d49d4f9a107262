use Rattle.std.proofs.Common.{◌≡◌, map, take}
use Rattle.serde_json.specs.View.{view}
use Rattle.ot_steps.specs.CaseLines.{op_data}
use Rattle.ot_steps.proofs.case_line.op_values.Given as goal

-- the operations so far were made values
abbrev pub invariant-loop-op : goal.invariant-loop-op
invariant-loop-op l = map view l.values.items ≡ map op_data (take l.op-index l.ops)
