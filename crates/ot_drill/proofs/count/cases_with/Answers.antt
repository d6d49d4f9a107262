use Rattle.std.proofs.Common.{List, arith, map, sum, ap, ◌∙◌}
use Rattle.std.proofs.lemmas.List.{take_all}
use Rattle.ot_model.specs.declared.op.Kind.{Kind}
use Rattle.ot_model.specs.declared.op.TheConstants.{KINDS}
use Rattle.fn_rules.specs.Rules.{function_of}
use Rattle.ot_drill.specs.Workload.{cases_for}
use Rattle.ot_drill.proofs.Sums.{sum_more}
use Rattle.ot_drill.proofs.count.cases_with.Goals as goal

pub loop-second-preserved : goal.loop-second-preserved
loop-second-preserved c = record {
  count = sum_more (cases_for (function_of c.args.rules.now) c.args.first) KINDS
      c.loop-second.second-index c.loop-second.count
      c.cases_for-more.result _ c.loop-second-test.true c.loop-second.invariant.count c.cases_for-more.ensures.count;
  few = omega arith;
}

pub returns-clause-count : goal.returns-clause-count
returns-clause-count c =
    c.loop-second.invariant.count
    ∙ ap (λ (kinds : List Kind). sum (map (cases_for (function_of c.args.rules.now) c.args.first) kinds))
    (take_all c.loop-second.second-index KINDS c.loop-second-test.false)

pub returns-clause-few : goal.returns-clause-few
returns-clause-few c = omega arith
