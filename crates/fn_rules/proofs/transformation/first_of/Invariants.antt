use Rattle.std.proofs.Common.{◌≡◌, map, drop}
use Rattle.fn_rules.specs.Functions.{case_of}
use Rattle.fn_rules.specs.Transformation.{first_result}
use Rattle.fn_rules.proofs.transformation.first_of.Given as goal

abbrev pub invariant-loop-case : goal.invariant-loop-case
invariant-loop-case l =
    first_result (map case_of (drop l.case-index l.cases)) l.a l.b ≡ first_result (map case_of l.cases) l.a l.b
