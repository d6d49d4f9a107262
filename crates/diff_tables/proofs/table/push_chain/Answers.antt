use Rattle.std.proofs.Common.{arith, length, get_or, None}
use Rattle.diff_tables.proofs.RowSteps.{numbers_along-here, numbers_along-end, numbers_along-more, numbers_along-none}
use Rattle.diff_tables.proofs.RowSteps.{HasPut-ended, HasPut-more}
use Rattle.diff_tables.proofs.table.push_chain.Goals as goal

pub push_reserved-requires : goal.push_reserved-requires
push_reserved-requires c = omega (arith, c.loop-step.invariant.1, c.loop-step-test.true)

pub returns-then-name-to-clause-ok : goal.returns-then-name-to-clause-ok
returns-then-name-to-clause-ok c =
    rw c.reserve.ensures.items at
    (HasPut-ended _ _ _ _ c.loop-step.invariant.0
    (numbers_along-here (λ x. get_or c.args.row.now x None) (length c.args.row.now) c.loop-step._step c.loop-step.name
    c.args.to (omega arith) c.if-name-to.true))

pub returns-in_default-clause-ok : goal.returns-in_default-clause-ok
returns-in_default-clause-ok c =
    rw c.reserve.ensures.items at
    (HasPut-ended _ _ _ _ c.loop-step.invariant.0
    (numbers_along-end (λ x. get_or c.args.row.now x None) (length c.args.row.now) c.loop-step._step c.loop-step.name
    c.args.to (omega arith) (cc)))

pub loop-step-preserved : goal.loop-step-preserved
loop-step-preserved c = (
  rw c.push_reserved.ensures.items
      (HasPut-more _ _ _ _ _ _ c.loop-step.invariant.0
      (numbers_along-more (λ x. get_or c.args.row.now x None)
      (length c.args.row.now) c.loop-step._step c.loop-step.name c.args.to c.in-Some.hop c.loop-step-test.true
      c.if-name-to.false (cc))),
  omega (
    arith,
    c.loop-step.invariant.1,
    c.loop-step-test.true,
    c.push_reserved.ensures.len,
    c.push_reserved.ensures.capacity,
  ),
)

pub returns-clause-ok : goal.returns-clause-ok
returns-clause-ok c =
    rw c.reserve.ensures.items at
    (HasPut-ended _ _ _ _ c.loop-step.invariant.0
    (numbers_along-none (λ x. get_or c.args.row.now x None) (length c.args.row.now) c.loop-step._step c.loop-step.name
    c.args.to (omega arith)))
