use Rattle.std.proofs.Common.{[], drop}
use Rattle.fn_rules.specs.Rules.{function_of}
use Rattle.ot_questions.specs.Obligation.{plan_below}
use Rattle.ot_sections.specs.Feeding.{fed}
use Rattle.ot_sections.specs.Sections.{IsLineWith}
use Rattle.ot_sections.specs.Stands.{IsBetween, StandLeads, reader_place_of, stand}
use Rattle.ot_sections.proofs.Leaving.{GoesOn}
use Rattle.section_lists.proofs.section.judge_each.Given as goal

-- the obligations that were not judged are still to come
abbrev pub invariant-loop-ob : goal.invariant-loop-ob
invariant-loop-ob g l = record {
  between : IsBetween l.reader;
  lines : IsLineWith (drop l.ob-index l.names) (reader_place_of l.reader);
  leads :
      StandLeads g.F.Feed (plan_below (function_of l.rules) l.below) (stand (fed l.fn.reader l.fn.feed) [])
      (stand (fed l.reader l.feed) []);
  leaves : GoesOn g.F.Feed (fed l.fn.reader l.fn.feed) (fed l.reader l.feed);
}
