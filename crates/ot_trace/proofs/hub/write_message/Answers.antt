use Rattle.std.proofs.Common.{◌++◌, List, ℕ, Option, sym, ap, ◌∙◌}
use Rattle.std.proofs.lemmas.Result.{IfOk-equal}
use Rattle.ot_hub.specs.declared.placed.PlacedOp.{PlacedOp}
use Rattle.ot_trace.specs.Columns.{columns}
use Rattle.ot_trace.specs.HubTexts.{from_client, message_line, server_event}
use Rattle.ot_trace.proofs.hub.write_message.Goals as goal

pub returns-in-None : goal.returns-in-None
returns-in-None c =
    IfOk-equal c.write_server_line.result _ _ _ c.write_server_line.ensures
    (ap (λ (m : Option PlacedOp). c.args.out.now.items ++ message_line c.args.number c.args.client m)
    (sym c.in-None.is))

pub returns-in_ok-text-in-Some : goal.returns-in_ok-text-in-Some
returns-in_ok-text-in-Some c =
    let out : List ℕ = c.args.out.now.items in
    IfOk-equal c.write_server_line-in-Some.result _ _ _ c.write_server_line-in-Some.ensures
    (ap (λ (t : List ℕ). out ++ columns (server_event c.args.number) t (from_client c.args.client))
    (c.deref.ensures.value ∙ c.in_ok-text-in-Some.ensures)
    ∙ ap (λ (m : Option PlacedOp). out ++ message_line c.args.number c.args.client m) (sym c.in-Some.is))
