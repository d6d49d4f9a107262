use Rattle.std.proofs.Common.{◌≡◌, ◌+◌, ◌<◌, ℕ, List, subst, get_or}
use Rattle.fn_rules.specs.Rules.{function_of}
use Rattle.ot_hub.specs.declared.client.Client.{Client}
use Rattle.ot_hub.specs.declared.limits.TheConstants.{MAX_EDITS}
use Rattle.ot_hub.specs.Clients.{client_at}
use Rattle.ot_hub.specs.Steps.{client_step}
use Rattle.ot_hub.specs.Usable.{CanBeCarried}
use Rattle.ot_hub.proofs.Acting.{client_at-read}
use Rattle.ot_hub.proofs.Stepping.{HasStepped-at}
use Rattle.ot_hub.proofs.client.take_at.Goals as goal

pub returns : goal.returns
returns c =
    let clients : List Client = c.args.clients.now in
    let place : ℕ = c.args.place in
    let one : Client = c.index-clients-place.result in
    let same : client_at clients place ≡ get_or clients place one =
    client_at-read clients place one c.requires.place c.index-clients-place.is in
    rw same (HasStepped-at clients place one c.take.new.self
    (client_step (function_of c.args.rules.now) (place + 1) c.args.entry.now (get_or clients place one))
    c.take.result c.take.ensures)

pub take-requires-clause-usable : goal.take-requires-clause-usable
take-requires-clause-usable c =
    subst (λ (one : Client). CanBeCarried (function_of c.args.rules.now) c.args.entry.now.op one.pending)
    (client_at-read c.args.clients.now c.args.place c.index-clients-place.result c.requires.place
    c.index-clients-place.is) c.requires.client.usable

pub take-requires-clause-few : goal.take-requires-clause-few
take-requires-clause-few c =
    subst (λ (one : Client). one.received < MAX_EDITS)
    (client_at-read c.args.clients.now c.args.place c.index-clients-place.result c.requires.place
    c.index-clients-place.is) c.requires.client.few
