-- A certificate has one judgement, and a feed of bytes in memory does not fail.
use Rattle.std.proofs.Common.{◌≡◌, ◌≤◌, ◌⊎◌, Result, Ok, Err, subst, arith}
use Rattle.fn_rules.specs.declared.function.Level.{Level}
use Rattle.fn_rules.specs.declared.function.Level.TheVariants.{Tp2}
use Rattle.refusals.specs.declared.refusal.JudgeError.{JudgeError}
use Rattle.ot_judge.specs.Refusals.{IsWant}
use Rattle.ot_commands.proofs.Drilling.{level_is, never_refused}
use Rattle.ot_commands.proofs.drill.accepted.Goals as goal

pub returns-in-Ok : goal.returns-in-Ok
returns-in-Ok c =
    level_is c.in-Ok.level
    (subst (λ (r : Result Level JudgeError). IsWant r ⊎ (r ≡ Ok Tp2)) c.in-Ok.is
    (c.check_all.ensures.only c.args.certificate.now (Ok Tp2) c.new.ensures.left c.requires.certificate))

pub unreachable-requires : goal.unreachable-requires
unreachable-requires c =
    let rose : 1 ≤ 0 = c.in-Err-Failed.ensures.failed c.in-Err-Failed.field-0-is in
    omega arith

pub unreachable-requires-in-Err-Refused : goal.unreachable-requires-in-Err-Refused
unreachable-requires-in-Err-Refused c =
    never_refused _ _
    (subst (λ (e : JudgeError). IsWant (Err e) ⊎ (◌≡◌ {A = Result Level JudgeError} (Err e) (Ok Tp2)))
    c.in-Err-Refused.field-0-is (subst (λ (r : Result Level JudgeError). IsWant r ⊎ (r ≡ Ok Tp2)) c.in-Err-Refused.is
    (c.check_all.ensures.only c.args.certificate.now (Ok Tp2) c.new.ensures.left c.requires.certificate)))
