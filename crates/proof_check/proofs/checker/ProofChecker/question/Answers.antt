use Rattle.proof_check.proofs.Keeping.{standing_kept}
use Rattle.proof_check.proofs.Taking.{IsProofUnderWay-kept, under_way, under_way_still}
use Rattle.proof_check.proofs.checker.ProofChecker.question.Goals as goal

pub question_at-requires : goal.question_at-requires
question_at-requires g c =
    let fresh = rw (← c.self.view_is) at c.requires in
    let way = under_way c.self.inside.refusal _ _ _ (λ e some. cc) c.self.invariant in way.own

pub invariant_of-self : goal.invariant_of-self
invariant_of-self g c =
    let fresh = rw (← c.self.view_is) at c.requires in
    let way = under_way c.self.inside.refusal _ _ _ (λ e some. cc) c.self.invariant in
    under_way_still c.self.inside.refusal _ _ _
    (IsProofUnderWay-kept c.question_at.ensures.same c.self.inside.places way.own way)

pub returns-clause-same : goal.returns-clause-same
returns-clause-same g c =
    let fresh = rw (← c.self.view_is) at c.requires in
    let way = under_way c.self.inside.refusal _ _ _ (λ e some. cc) c.self.invariant in
    rw (← c.self.view_is) (standing_kept c.question_at.ensures.same c.self.inside.places way.own)
