use Rattle.std.proofs.Common.{◌∙◌}
use Rattle.std.proofs.lemmas.Result.{on_ok_weaker}
use Rattle.proof_search.specs.Scouts.{MayRenewLevel}
use Rattle.proof_search.proofs.Owning.{own_none, own_places, search_kept}
use Rattle.proof_search.proofs.Scouting.{asked_kept, own_may_renew}
use Rattle.proof_search.proofs.turns.is_left.Goals as goal

-- a lemma serves there
pub returns-then-branch-clause-own : goal.returns-then-branch-clause-own
returns-then-branch-clause-own g c =
    let is_own = g.A.Asker.is_own c.is_shown.new.asker in
    let own = search_kept c.is_shown.ensures.same c.args.search.now c.requires.own in
    own_none is_own c.is_shown.new.search
    (own_places is_own c.args.search.now c.is_shown.new.search own c.in_ok-is_shown.ensures.places)

pub returns-then-branch-clause-same : goal.returns-then-branch-clause-same
returns-then-branch-clause-same g c = c.is_shown.ensures.same

-- or a scout may be sent
pub send-requires : goal.send-requires
send-requires g c = (c.is_shown.ensures.same.own c.args.node).0 c.requires.node

pub returns-clause-own : goal.returns-clause-own
returns-clause-own g c =
    let is_own = g.A.Asker.is_own c.is_shown.new.asker in
    let own =
    own_places is_own c.args.search.now c.is_shown.new.search
    (search_kept c.is_shown.ensures.same c.args.search.now c.requires.own) c.in_ok-is_shown.ensures.places in
    on_ok_weaker c.send.result (own_may_renew is_own c.is_shown.new.search c.send.new.search own) c.send.ensures

pub returns-clause-asked : goal.returns-clause-asked
returns-clause-asked g c =
    on_ok_weaker c.send.result
    (λ (changed : MayRenewLevel c.is_shown.new.search c.send.new.search).
    asked_kept c.is_shown.new.search c.send.new.search changed ∙ c.in_ok-is_shown.ensures.places.asked) c.send.ensures

pub returns-clause-same : goal.returns-clause-same
returns-clause-same g c = c.is_shown.ensures.same
