use Rattle.std.proofs.Common.{List, arith, map, sum, refl, ap, ◌∙◌}
use Rattle.std.proofs.lemmas.List.{take_all}
use Rattle.ot_model.specs.declared.op.Kind.{Kind}
use Rattle.ot_model.specs.declared.op.TheConstants.{KINDS}
use Rattle.fn_rules.specs.Rules.{function_of}
use Rattle.ot_drill.specs.Workload.{cases_with}
use Rattle.ot_drill.proofs.Sums.{sum_more}
use Rattle.ot_drill.proofs.count.count_cases.Goals as goal

pub loop-first-preserved : goal.loop-first-preserved
loop-first-preserved c = record {
  count = sum_more (cases_with (function_of c.args.rules.now)) KINDS c.loop-first.first-index c.loop-first.count
      c.cases_with-more.result _ c.loop-first-test.true c.loop-first.invariant.count c.cases_with-more.ensures.count;
  few = omega arith;
}

pub loop-first-init : goal.loop-first-init
loop-first-init c = record { count = refl; few = omega arith }

pub returns : goal.returns
returns c =
    c.loop-first.invariant.count
    ∙ ap (λ (kinds : List Kind). sum (map (cases_with (function_of c.args.rules.now)) kinds))
    (take_all c.loop-first.first-index KINDS c.loop-first-test.false)
