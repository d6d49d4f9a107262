use Rattle.std.proofs.Common.{refl}
use Rattle.ask_core.specs.declared.tree.Tok.TheVariants as token
use Rattle.ask_core.specs.Paths.{after_question, branches_at}
use Rattle.cert_check.proofs.Feeding.{IsUnderWay-taken, IsUnderWay-refused}
use Rattle.cert_check.proofs.Places.{answers_after, cycle_taken, own_after, own_behind, question_taken}
use Rattle.cert_check.proofs.checker.Checker.skip.Goals as goal
use Rattle.cert_check.proofs.checker.Checker.skip.Goals.{in-Ok, in-Err}

-- the checker is under way behind the question and the cycle, or as before where memory was wanting
pub invariant_of-self : goal.invariant_of-self
invariant_of-self g c =
    let places = c.self.inside.path in
    let asker = c.self.inside.asker in
    let q = c.args.question in
    let view = c.self.view_is in
    let asked = rw (← view) at c.requires.asked in
    let plan = g.A.Asker.plan asker in
    let between = after_question q.lit q.yes q.no places in
    let answers = answers_after places q.lit q.yes q.no asked.some in
    let picks = c.requires.cycle.0 in
    let cycle = rw (← view) at c.requires.cycle.2 in
    let own = own_after (g.A.Asker.is_own asker) places between q.lit q.yes q.no refl asked.own_yes
    asked.own_no c.self.invariant.own in
    let opened =
    IsUnderWay-taken places token.Ask c.self.invariant between own refl c.trees_are_judged_token_by_token.ensures tt
    (question_taken plan places between q.lit q.yes q.no asked.some asked.asks refl) in
    elim c.match-ask_no.branch [
      | in-Ok w ↦
          IsUnderWay-taken between (token.Cycle picks) opened c.ask_no.new.self
          (own_behind (g.A.Asker.is_own asker) between c.ask_no.new.self (w.in-Ok.ensures.ok q.yes) own) refl
          c.trees_are_judged_token_by_token.ensures c.requires.cycle.1
          (cycle_taken plan between c.ask_no.new.self picks answers.1 (w.in-Ok.ensures.ok q.yes) (rw answers.0 cycle))
      | in-Err w ↦
          IsUnderWay-refused places token.Ask c.self.invariant c.ask_no.new.self
          (rw w.in-Err.ensures.err c.self.invariant.own) refl (rw w.in-Err.ensures.err refl)
    ]

-- the question's token is taken, and then that of the cycle
pub returns-clause-taken : goal.returns-clause-taken
returns-clause-taken g c =
    λ done picks among.
    let places = c.self.inside.path in
    let q = c.args.question in
    let view = c.self.view_is in
    let asked = rw (← view) at c.requires.asked in
    let plan = g.A.Asker.plan c.self.inside.asker in
    let between = after_question q.lit q.yes q.no places in
    let answers = answers_after places q.lit q.yes q.no asked.some in
    let cycle = rw (← view) at among in
    elim c.match-ask_no.branch [
      | in-Ok w ↦
          rw (← view) (
            branches_at plan between,
            question_taken plan places between q.lit q.yes q.no asked.some asked.asks refl,
            cycle_taken plan between c.ask_no.new.self picks answers.1 (w.in-Ok.ensures.ok q.yes) (rw answers.0 cycle),
          )
      | in-Err w ↦ absurd (cc)
    ]
