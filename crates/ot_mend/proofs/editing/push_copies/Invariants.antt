use Rattle.std.proofs.Common.{◌≡◌, ◌++◌, map, take}
use Rattle.fn_rules.specs.Functions.{case_of}
use Rattle.ot_mend.proofs.editing.push_copies.Given as goal

abbrev pub invariant-loop-case : goal.invariant-loop-case
invariant-loop-case l =
    map case_of l.out.items ≡ map case_of l.initial.out.items ++ map case_of (take l.case-index l.cases)
