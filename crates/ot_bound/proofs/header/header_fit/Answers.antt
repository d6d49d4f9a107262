use Rattle.std.proofs.Common.{subst}
use Rattle.std.proofs.lemmas.Result.{IfOk-weaker}
use Rattle.fn_rules.specs.declared.function.Level.TheVariants.{Tp1, Tp2}
use Rattle.ot_bound.specs.declared.header.HeaderFit.{HeaderFit}
use Rattle.ot_bound.specs.Headers.{FitsLevel, FitsLowHeader}
use Rattle.ot_bound.proofs.HeaderFits.{by_second_level}
use Rattle.ot_bound.proofs.header.header_fit.Goals as goal

pub returns-in-Other : goal.returns-in-Other
returns-in-Other c =
    let bytes = c.args.front.now in
    IfOk-weaker c.level_fit-in-Other.result (FitsLevel Tp2 bytes) (FitsLowHeader bytes)
    (by_second_level bytes (subst (λ (f : HeaderFit). FitsLevel Tp1 bytes f) c.in-Other.is c.in_ok-fit.ensures))
    c.level_fit-in-Other.ensures
