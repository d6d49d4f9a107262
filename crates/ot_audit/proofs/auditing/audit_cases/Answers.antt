-- One more case is found.
use Rattle.std.proofs.Common.{◌≡◌, ◌+◌, Option, List, [], ◌∷◌, length, length-append, sym, subst, arith}
use Rattle.ot_model.specs.declared.op.Op.{Op}
use Rattle.fn_rules.specs.Rules.{function_of}
use Rattle.ot_audit.specs.Audits.{AreCases}
use Rattle.ot_audit.proofs.CasesSoFar.{one_case_more}
use Rattle.ot_audit.proofs.auditing.audit_cases.Goals as goal

-- one answer more, about the next case
pub loop-number-preserved : goal.loop-number-preserved
loop-number-preserved c =
    let f = function_of c.args.rules.now in
    let xs = c.loop-number.cases in
    let x = c.in_ok-found.found in
    let before = c.loop-number.invariant in
    let count = before.0 in
    let longer = length-append xs (x ∷ []) in
    subst
    (λ (l : List (Option (Op × Op))).
    (length l ≡ c.loop-number.number + 1) × AreCases f c.args.first c.args.second c.args.budget 0 l)
    (sym c.in_ok-push.ensures.ok) (
      omega (arith, count, longer),
      one_case_more f c.args.first c.args.second c.args.budget c.loop-number.number xs x count before.1
          c.in_ok-found.ensures.ok,
    )
