use Rattle.std.proofs.Common.{◌≡◌, ◌++◌, drop}
use Rattle.std.specs.List.{flat_map}
use Rattle.fn_rules.specs.Rules.{function_of}
use Rattle.ot_trace.specs.Texts.{step_line}
use Rattle.ot_trace.proofs.lines.write_steps.Given as goal

-- the lines of the transformations that are left are still to be written
abbrev pub invariant-loop-step : goal.invariant-loop-step
invariant-loop-step l =
    l.out.items ++ flat_map (step_line (function_of l.rules)) (drop l.step-index l.steps)
    ≡ l.initial.out.items ++ flat_map (step_line (function_of l.rules)) l.steps
