use Rattle.std.proofs.Common.{◌≡◌, sym, ◌∙◌, subst}
use Rattle.diff_tables.specs.Solutions.{valuation_of}
use Rattle.ask_core.specs.Plans.{Plan, Fails}
use Rattle.ot_prove.specs.Outcomes.{AreAnswersTo}
use Rattle.ot_prove.proofs.Ways.{side_has, way_on}
use Rattle.ot_settle.proofs.Walks.{met_on}
use Rattle.ot_settle.proofs.ending.end_at.Goals as goal

-- one question more is answered as the values say
pub loop-question-preserved : goal.loop-question-preserved
loop-question-preserved g c =
    let A = g.A.Asker in
    let now = c.turn.new.self in
    let n = c.loop-question.node in
    let known = c.loop-question.invariant in
    let begins = rw c.in-Ask.is at c.in_ok-lit.ensures.begins in
    let said = c.is_met-said.result in
    let kept : A.plan now n ≡ A.plan c.loop-question.asker n = c.turn.ensures.same.plans n known.own in
    let pushed = c.in_ok-push-in-Ask.ensures.items in
    let side = c.side_of-node.ensures in
    record {
      own = rw side (side_has (A.is_own now) said c.in-Ask.yes c.in-Ask.no begins.0 begins.1);
      way =
          rw (pushed, side)
          (way_on (A.plan now) n c.in-Ask.yes c.in-Ask.no c.in-Ask.lit begins.2 (A.root c.args.asker.now)
          c.loop-question.answers.items said
          (subst (λ (p : Plan g.row.A-Why.Denot).
          AreAnswersTo (A.root c.args.asker.now) c.loop-question.answers.items p) (sym kept) known.way));
      met =
          rw pushed
          (met_on (valuation_of c.args.values.now) c.loop-question.answers.items c.in-Ask.lit said
          (c.valuations_answer_questions.ensures (valuation_of c.args.values.now))
          (sym c.is_met-said.ensures) known.met);
    }

pub returns-in-Fails : goal.returns-in-Fails
returns-in-Fails g c =
    let A = g.A.Asker in
    let n = c.loop-question.node in
    let known = c.loop-question.invariant in
    let begins = rw c.in-Fails.is at c.in_ok-lit.ensures.begins in
    let ends : A.plan c.loop-question.asker n ≡ Fails c.in-Fails.why = sym (c.turn.ensures.same.plans n known.own)
    ∙ begins in (
      subst (λ (p : Plan g.row.A-Why.Denot). AreAnswersTo (A.root c.args.asker.now) c.loop-question.answers.items p)
          ends known.way,
      (valuation_of c.args.values.now, c.requires, known.met),
    )
