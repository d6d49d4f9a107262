use Rattle.std.proofs.Common.{◌≡◌, ◌++◌, drop}
use Rattle.std.specs.List.{flat_map}
use Rattle.ot_trace.specs.SessionTexts.{further_number}
use Rattle.ot_trace.proofs.session.write_numbers.Given as goal

-- the numbers that are left are still to be written
abbrev pub invariant-loop-number : goal.invariant-loop-number
invariant-loop-number l =
    l.out.items ++ flat_map further_number (drop l.number-index l.numbers)
    ≡ l.initial.out.items ++ flat_map further_number l.numbers
