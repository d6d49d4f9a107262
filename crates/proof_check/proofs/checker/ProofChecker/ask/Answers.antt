use Rattle.proof_check.proofs.Taking.{question_here, under_way, under_way_asked, under_way_still}
use Rattle.proof_check.proofs.checker.ProofChecker.ask.Goals as goal
use Rattle.proof_check.proofs.checker.ProofChecker.ask.Goals.{in-Ok, in-Err}

pub invariant_of-self : goal.invariant_of-self
invariant_of-self g c =
    let view = c.self.view_is in
    let fresh = rw (← view) at c.requires.fresh in
    let here = rw (← view) at c.requires.asked in
    let starts = g.A.Starter.starts c.self.inside.asker in
    let way = under_way c.self.inside.refusal _ _ _ (λ e some. cc) c.self.invariant in
    elim c.match-ask.branch [
      | in-Ok w ↦
          under_way_still c.self.inside.refusal _ _ _
          (rw w.in-Ok.ensures.ok (under_way_asked (g.A.Asker.is_own c.self.inside.asker) starts c.args.question
          c.self.inside.places here way))
      | in-Err w ↦ under_way_still c.self.inside.refusal _ _ _ (rw w.in-Err.ensures.err way)
    ]

pub returns-clause-taken : goal.returns-clause-taken
returns-clause-taken g c done =
    let view = c.self.view_is in
    let here = rw (← view) at c.requires.asked in
    let asker = c.self.inside.asker in
    elim c.match-ask.branch [
      | in-Ok w ↦
          rw (← view, w.in-Ok.ensures.ok)
          (question_here (g.A.Asker.is_own asker) (g.A.Starter.starts asker) c.args.question c.self.inside.places here)
      | in-Err w ↦ absurd (cc)
    ]
