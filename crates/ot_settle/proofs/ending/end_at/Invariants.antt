use Rattle.diff_graph.specs.Literals.{AreMet}
use Rattle.diff_tables.specs.Solutions.{valuation_of}
use Rattle.ot_prove.specs.Outcomes.{answered_by, AreAnswersTo}
use Rattle.ot_settle.proofs.ending.end_at.Given as goal

abbrev pub invariant-loop-question : goal.invariant-loop-question
invariant-loop-question g l = record {
  own : g.A.Asker.is_own l.asker l.node;
  way : AreAnswersTo (g.A.Asker.root l.fn.asker) l.answers.items (g.A.Asker.plan l.asker l.node);
  met : AreMet (valuation_of l.values) (answered_by l.answers.items);
}
