use Rattle.std.proofs.Common.{◌≡◌, length}
use Rattle.fn_rules.specs.Rules.{function_of}
use Rattle.ot_audit.specs.Audits.{AreCases}
use Rattle.ot_audit.proofs.auditing.audit_cases.Given as goal

-- the cases so far
abbrev pub invariant-loop-number : goal.invariant-loop-number
invariant-loop-number l =
    (length l.cases ≡ l.number) × AreCases (function_of l.rules) l.first l.second l.budget 0 l.cases
