-- One obligation after another.
use Rattle.std.proofs.Common.{◌+◌, [], Ok, arith, drop}
use Rattle.std.proofs.lemmas.Result.{err_from_is_err_and}
use Rattle.fn_rules.specs.Obligations.{is_obligation}
use Rattle.fn_rules.specs.Rules.{function_of}
use Rattle.ot_questions.specs.Obligation.{plan_below}
use Rattle.ot_sections.specs.Feeding.{fed}
use Rattle.ot_sections.specs.Stands.{reader_place_of, stand}
use Rattle.ot_sections.proofs.Leading.{leads_on, leads_same, refused_through}
use Rattle.ot_sections.proofs.Leaving.{goes_on_by, leaves_on, not_yet}
use Rattle.section_lists.proofs.Listed.{all_at, line_at}
use Rattle.section_lists.proofs.section.judge_each.Goals as goal

pub loop-ob-init : goal.loop-ob-init
loop-ob-init g c = record {
  between = c.requires.between;
  lines = c.requires.lines;
  leads =
      leads_same g.F.Feed (plan_below (function_of c.args.rules.now) c.args.below)
      (stand (fed c.args.reader.now c.args.feed.now) []);
  leaves = not_yet g.F.Feed (fed c.args.reader.now c.args.feed.now);
}

pub judge_section-requires-clause-bounded : goal.judge_section-requires-clause-bounded
judge_section-requires-clause-bounded g c = c.requires.bounded

pub judge_section-requires-clause-listed : goal.judge_section-requires-clause-listed
judge_section-requires-clause-listed g c =
    all_at (is_obligation (function_of c.args.rules.now).head) c.args.names.now c.loop-ob.ob-index _
    c.requires.listed c.loop-ob-test.true

pub judge_section-requires-clause-between : goal.judge_section-requires-clause-between
judge_section-requires-clause-between g c = c.loop-ob.invariant.between

pub judge_section-requires-clause-room : goal.judge_section-requires-clause-room
judge_section-requires-clause-room g c = omega (arith, c.requires.room, c.loop-ob.invariant.leaves.room)

pub judge_section-requires-clause-line : goal.judge_section-requires-clause-line
judge_section-requires-clause-line g c = (
  drop (c.loop-ob.ob-index + 1) c.args.names.now,
  line_at c.args.names.now c.loop-ob.ob-index _ (reader_place_of c.loop-ob.reader) c.loop-ob-test.true
      c.loop-ob.invariant.lines,
)

-- one section more was judged
pub loop-ob-preserved : goal.loop-ob-preserved
loop-ob-preserved g c =
    record {
      between = c.in_ok-judge_section.ensures.behind.0;
      lines =
          c.in_ok-judge_section.ensures.behind.1 (drop (c.loop-ob.ob-index + 1) c.args.names.now)
          (line_at c.args.names.now c.loop-ob.ob-index _ (reader_place_of c.loop-ob.reader) c.loop-ob-test.true
          c.loop-ob.invariant.lines);
      leads =
          leads_on g.F.Feed (plan_below (function_of c.args.rules.now) c.args.below)
          (stand (fed c.args.reader.now c.args.feed.now) [])
          (stand (fed c.loop-ob.reader c.loop-ob.feed) []) (stand (fed c.judge_section.new.reader
          c.judge_section.new.feed) []) c.loop-ob.invariant.leads c.in_ok-judge_section.ensures.leads;
      leaves =
          leaves_on g.F.Feed (fed c.args.reader.now c.args.feed.now) (fed c.loop-ob.reader c.loop-ob.feed)
          (fed c.judge_section.new.reader c.judge_section.new.feed) (Ok tt) c.loop-ob.invariant.leaves
          (goes_on_by g.F.Feed (fed c.loop-ob.reader c.loop-ob.feed) (fed c.judge_section.new.reader
          c.judge_section.new.feed) _ (rw c.in_ok-judge_section.was at c.judge_section.ensures.leaves));
    }

pub returns-in_err-judge_section-clause-refused : goal.returns-in_err-judge_section-clause-refused
returns-in_err-judge_section-clause-refused g c =
    let p = err_from_is_err_and c.from_residual.result c.from_residual.ensures.1 in
    rw (p.1, p.2)
    (refused_through g.F.Feed (plan_below (function_of c.args.rules.now) c.args.below) (stand (fed c.args.reader.now
    c.args.feed.now) []) (stand (fed c.loop-ob.reader c.loop-ob.feed) []) c.judge_section.new.feed
    c.in_err-judge_section.field-0.0 c.loop-ob.invariant.leads c.in_err-judge_section.ensures.refused)

pub returns-in_err-judge_section-clause-leaves : goal.returns-in_err-judge_section-clause-leaves
returns-in_err-judge_section-clause-leaves g c =
    let p = err_from_is_err_and c.from_residual.result c.from_residual.ensures.1 in
    rw (p.1, p.2)
    (leaves_on g.F.Feed (fed c.args.reader.now c.args.feed.now) (fed c.loop-ob.reader c.loop-ob.feed)
    (fed c.judge_section.new.reader c.judge_section.new.feed)
    _ c.loop-ob.invariant.leaves (rw c.in_err-judge_section.was at c.judge_section.ensures.leaves))

pub returns-clause-leads : goal.returns-clause-leads
returns-clause-leads g c = c.loop-ob.invariant.leads

pub returns-clause-leaves : goal.returns-clause-leaves
returns-clause-leaves g c = c.loop-ob.invariant.leaves
