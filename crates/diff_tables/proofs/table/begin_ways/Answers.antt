use Rattle.std.proofs.Common.{arith, subst, sym, get_or, None, Option}
use Rattle.diff_tables.specs.declared.hop.Hop.{Hop}
use Rattle.diff_tables.specs.Steps.{way_of, IsModest}
use Rattle.diff_tables.proofs.RowSteps.{DoneBelow-more, IsModest-way_of}
use Rattle.diff_tables.proofs.table.begin_ways.Goals as goal

pub way-requires-clause-modest : goal.way-requires-clause-modest
way-requires-clause-modest c =
    subst (λ (o : Option Hop). IsModest 1000000 o) (sym (c.loop-x.invariant.left c.loop-x.x (omega arith)))
    (c.requires.modest c.loop-x.x c.loop-x-test.true)

pub loop-x-preserved : goal.loop-x-preserved
loop-x-preserved c =
    DoneBelow-more (λ x old. way_of c.args.number c.args.lit x old) c.args.ways.now c.loop-x.ways c.loop-x.x
    c.way.result c.loop-x.invariant c.loop-x-test.true c.way.ensures

pub returns-clause-ways : goal.returns-clause-ways
returns-clause-ways c = λ x below. c.loop-x.invariant.done x (omega arith)

pub returns-clause-modest : goal.returns-clause-modest
returns-clause-modest c = λ x below.
    subst (λ (o : Option Hop). IsModest 2000000 o) (sym (returns-clause-ways c x below))
    (IsModest-way_of c.args.number c.args.lit x (get_or c.args.ways.now x None) c.requires.small
    (c.requires.modest x below))
