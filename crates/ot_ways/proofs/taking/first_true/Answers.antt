use Rattle.std.proofs.Common.{◌<◌, length, arith}
use Rattle.fn_rules.specs.Functions.{case_of}
use Rattle.fn_rules.specs.Conditions.{both_have_chars}
use Rattle.fn_rules.proofs.LimitsKept.{IsReadyFor-valid, is_valid_case-at}
use Rattle.ot_ways.proofs.taking.first_true.Goals as goal

pub holds-requires-clause-chars : goal.holds-requires-clause-chars
holds-requires-clause-chars c =
    let below : c.loop-number.number < length c.args.cases.now = omega arith in
    IsReadyFor-valid (case_of c.index-cases-number.result) c.args.a.now c.args.b.now
    (rw c.index-cases-number.is
    (is_valid_case-at (both_have_chars c.args.a.now c.args.b.now) c.args.cases.now c.loop-number.number
    c.index-cases-number.result c.requires.valid below))
