use Rattle.std.proofs.Common.{sym}
use Rattle.proof_check.proofs.Keeping.{own_kept, own_closed}
use Rattle.proof_check.proofs.Taking.{end_taken_over}
use Rattle.proof_check.proofs.token.take_end.Goals as goal

pub returns-in_ok-close-in-Holds-clause-ok : goal.returns-in_ok-close-in-Holds-clause-ok
returns-in_ok-close-in-Holds-clause-ok g c =
    rw c.in_ok-close-in-Holds.ensures.ok
    (end_taken_over c.follow.ensures.same c.args.places.now c.requires.own c.in-Some.node
    (sym (rw c.in-Some.is at c.node.ensures.value))
    (rw c.in-Holds.is at c.in_ok-follow.ensures.begins))

pub returns-in_ok-close-in-Holds-clause-own : goal.returns-in_ok-close-in-Holds-clause-own
returns-in_ok-close-in-Holds-clause-own g c =
    rw c.in_ok-close-in-Holds.ensures.ok
    (own_closed _ c.args.places.now (own_kept c.follow.ensures.same c.args.places.now c.requires.own))
