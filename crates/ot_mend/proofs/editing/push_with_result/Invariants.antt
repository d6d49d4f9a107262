use Rattle.std.proofs.Common.{◌≡◌, ◌++◌, map, take}
use Rattle.fn_rules.specs.Functions.{case_of}
use Rattle.fn_rules.specs.Shipped.{when}
use Rattle.ot_mend.proofs.editing.push_with_result.Given as goal

abbrev pub invariant-loop-case : goal.invariant-loop-case
invariant-loop-case l =
    map case_of l.out.items
    ≡ map case_of l.initial.out.items ++ map (λ c. when c.guard l.to) (map case_of (take l.case-index l.cases))
