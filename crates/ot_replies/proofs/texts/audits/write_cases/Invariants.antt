use Rattle.std.proofs.Common.{◌≡◌, ◌++◌, drop}
use Rattle.ot_replies.specs.AuditTexts.{case_lines}
use Rattle.ot_replies.proofs.texts.audits.write_cases.Given as goal

-- the lines of the cases that are left are still to be written
abbrev pub invariant-loop-number : goal.invariant-loop-number
invariant-loop-number l =
    l.out.items ++ case_lines l.first l.second l.number (drop l.number l.cases)
    ≡ l.initial.out.items ++ case_lines l.first l.second 0 l.cases
