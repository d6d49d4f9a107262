use Rattle.ot_causal.proofs.Closed.{AreMade-closed, IsDistinct-closed}
use Rattle.ot_causal.proofs.Counts.{length-below}
use Rattle.ot_causal.proofs.list_laws.members_were_made.Goals as goal

pub returns-clause-made : goal.returns-clause-made
returns-clause-made c = AreMade-closed

pub returns-clause-few : goal.returns-clause-few
returns-clause-few c =
    λ past l closed. length-below past.count l (IsDistinct-closed past l closed) (AreMade-closed past l closed).at
