use Rattle.proof_check.proofs.Taking.{cycle_here, under_way, under_way_closed, under_way_still}
use Rattle.proof_check.proofs.checker.ProofChecker.close.Goals as goal
use Rattle.proof_check.proofs.checker.ProofChecker.close.Goals.{in-Ok, in-Ok-2, in-Err}

pub invariant_of-self : goal.invariant_of-self
invariant_of-self g c =
    let view = c.self.view_is in
    let fresh = rw (← view) at c.requires.fresh in
    let opened = rw (← view) at c.requires.open in
    let settled = rw (← view) at c.requires.settled in
    let cycle = rw (← view) at c.requires.cycle in
    let asker = c.self.inside.asker in
    let way = under_way c.self.inside.refusal _ _ _ (λ e some. cc) c.self.invariant in
    let after =
    under_way_closed (g.A.Asker.is_own asker) (g.A.Starter.starts asker) c.self.inside.places settled opened
    cycle.0 cycle.2 way cycle.1 in
    elim c.match-close.branch [
      | in-Ok w ↦ under_way_still c.self.inside.refusal _ _ _ (rw w.in-Ok.ensures.ok after)
      | in-Ok-2 w ↦ under_way_still c.self.inside.refusal _ _ _ (rw w.in-Ok-2.ensures.ok after)
      | in-Err w ↦ under_way_still c.self.inside.refusal _ _ _ (rw w.in-Err.ensures.err way)
    ]

pub returns-clause-taken : goal.returns-clause-taken
returns-clause-taken g c p picks some is =
    let view = c.self.view_is in
    let opened = rw (← view) at c.requires.open in
    let settled = rw (← view) at c.requires.settled in
    let among = rw (← view) at is in
    let asker = c.self.inside.asker in
    let taken = cycle_here (g.A.Asker.is_own asker) (g.A.Starter.starts asker) c.self.inside.places
    settled opened picks among in
    elim c.match-close.branch [
      | in-Ok w ↦ rw (← view, w.in-Ok.ensures.ok) taken
      | in-Ok-2 w ↦ rw (← view, w.in-Ok-2.ensures.ok) taken
      | in-Err w ↦ absurd (cc)
    ]
