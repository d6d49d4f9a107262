use Rattle.proof_check.proofs.Taking.{skipped_here, under_way, under_way_skipped, under_way_still}
use Rattle.proof_check.proofs.checker.ProofChecker.skip.Goals as goal
use Rattle.proof_check.proofs.checker.ProofChecker.skip.Goals.{in-Ok, in-Err}

pub invariant_of-self : goal.invariant_of-self
invariant_of-self g c =
    let view = c.self.view_is in
    let fresh = rw (← view) at c.requires.fresh in
    let here = rw (← view) at c.requires.asked in
    let cycle = rw (← view) at c.requires.cycle in
    let starts = g.A.Starter.starts c.self.inside.asker in
    let way = under_way c.self.inside.refusal _ _ _ (λ e some. cc) c.self.invariant in
    elim c.match-ask_no.branch [
      | in-Ok w ↦
          under_way_still c.self.inside.refusal _ _ _
          (rw (w.in-Ok.ensures.ok c.args.question.yes)
          (under_way_skipped (g.A.Asker.is_own c.self.inside.asker) starts c.args.question c.self.inside.places here
          cycle.0 cycle.2 way cycle.1))
      | in-Err w ↦ under_way_still c.self.inside.refusal _ _ _ (rw w.in-Err.ensures.err way)
    ]

pub returns-clause-taken : goal.returns-clause-taken
returns-clause-taken g c done picks among =
    let view = c.self.view_is in
    let here = rw (← view) at c.requires.asked in
    let cycle = rw (← view) at among in
    let asker = c.self.inside.asker in
    elim c.match-ask_no.branch [
      | in-Ok w ↦
          rw (← view, w.in-Ok.ensures.ok c.args.question.yes)
          (skipped_here (g.A.Asker.is_own asker) (g.A.Starter.starts asker) c.args.question
          c.self.inside.places here picks cycle)
      | in-Err w ↦ absurd (cc)
    ]
