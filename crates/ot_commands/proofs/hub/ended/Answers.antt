use Rattle.std.proofs.Common.{◌≡◌, ◌≢◌, ℕ, List, Option, None, length, map, sym, ap, ◌∙◌, subst, arith}
use Rattle.ot_model.specs.declared.cell.Cell.{Cell}
use Rattle.ot_hub.specs.Views.{hub_view_of}
use Rattle.ot_replies.specs.declared.reply.ClientEnd.{ClientEnd}
use Rattle.ot_replies.specs.Texts.{differ_status}
use Rattle.ot_commands.specs.Hub.{IsFirstApart, client_end}
use Rattle.ot_commands.proofs.HubEnding.{none_apart}
use Rattle.ot_commands.proofs.hub.ended.Goals as goal

none_is_zero : (found : Option ℕ) → found ≡ None → differ_status found ≢ 1
none_is_zero found none is =
    let zero : differ_status found ≡ 0 = ap (λ (o : Option ℕ). differ_status o) none in
    absurd (omega (arith, sym zero ∙ is))

-- under TP1, where characters may be the same, no client differs from the server, so the reply is not 1
pub returns-clause-steady : goal.returns-clause-steady
returns-clause-steady c f =
    let hub = hub_view_of c.args.hub.now in
    let found = c.first_apart-differ.result in
    let logged = c.logged-logged.result in
    none_is_zero found
    (none_apart hub (length hub.server.log) hub.server.doc found (c.clients_follow_the_log.ensures f.tp1
    f.chars).one_document (subst (λ (n : ℕ). IsFirstApart n hub.server.doc 1 (map client_end hub.clients) found)
    c.logged-logged.ensures (subst (λ (d : List Cell). IsFirstApart logged d 1 (map client_end hub.clients) found)
    (c.in_ok-doc.ensures ∙ c.server.ensures) (subst (λ (l : List ClientEnd). IsFirstApart logged c.in_ok-doc.doc 1 l
    found) (c.as_slice.ensures ∙ c.in_ok-ends.ensures) c.first_apart-differ.ensures))))
