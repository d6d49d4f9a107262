use Rattle.std.proofs.Common.{◌≡◌, ◌++◌, drop}
use Rattle.std.specs.List.{flat_map}
use Rattle.fn_rules.specs.Rules.{function_of}
use Rattle.ot_trace.specs.HubTexts.{crossing_lines, form_after}
use Rattle.ot_trace.proofs.hub.write_crossings.Given as goal

-- the lines of the pairs that are left are still to be written, and they carry the operation on
abbrev pub invariant-loop-crossing : goal.invariant-loop-crossing
invariant-loop-crossing l = record {
  text : l.out.items ++ flat_map (crossing_lines (function_of l.rules)) (drop l.crossing-index l.crossings)
      ≡ l.initial.out.items ++ flat_map (crossing_lines (function_of l.rules)) l.crossings;
  form : form_after (function_of l.rules) l.form (drop l.crossing-index l.crossings)
      ≡ form_after (function_of l.rules) l.fn.op l.crossings;
}
