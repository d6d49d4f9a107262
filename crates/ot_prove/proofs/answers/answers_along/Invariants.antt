use Rattle.std.proofs.Common.{◌≡◌, take, drop}
use Rattle.ask_core.specs.Plans.{Plan}
use Rattle.ot_prove.specs.Outcomes.{answered_by, AreAnswersTo}
use Rattle.ot_prove.specs.Searching.{IsAsBefore, LeadsTo}
use Rattle.ot_prove.proofs.answers.answers_along.Given as goal

abbrev pub invariant-loop-literal : goal.invariant-loop-literal
invariant-loop-literal g l = record {
  own : g.A.Asker.is_own l.asker l.node;
  said : answered_by l.answers.items ≡ take l.literal-index l.literals;
  way : AreAnswersTo (g.A.Asker.root l.fn.asker) l.answers.items (g.A.Asker.plan l.asker l.node);
  left : (end : Plan g.row.A-Why.Denot) → LeadsTo (g.A.Asker.root l.fn.asker) l.literals end
      → LeadsTo (g.A.Asker.plan l.asker l.node) (drop l.literal-index l.literals) end;
  kept : IsAsBefore (g.A.Asker.is_own l.fn.asker) (g.A.Asker.is_own l.asker)
      (g.A.Asker.plan l.fn.asker) (g.A.Asker.plan l.asker)
      (g.A.Asker.root l.fn.asker) (g.A.Asker.root l.asker) (g.A.Asker.name_count l.fn.asker)
      (g.A.Asker.name_count l.asker);
}
