use Rattle.std.proofs.Common.{◌++◌, List, ℕ, Option, sym, ap, ◌∙◌}
use Rattle.std.proofs.lemmas.Result.{IfOk-equal}
use Rattle.ot_hub.specs.declared.placed.Entry.{Entry}
use Rattle.ot_trace.specs.Columns.{columns}
use Rattle.ot_trace.specs.HubTexts.{client_event, entry_line}
use Rattle.ot_steps.specs.StepTexts.{short_op}
use Rattle.ot_trace.proofs.hub.write_entry.Goals as goal

pub returns-in_ok-whose-in-Some : goal.returns-in_ok-whose-in-Some
returns-in_ok-whose-in-Some c =
    let out : List ℕ = c.args.out.now.items in
    let name : List ℕ = client_event c.args.number c.args.client in
    IfOk-equal c.write_client_line.result _ _ _ c.write_client_line.ensures
    (ap (λ (t : List ℕ). out ++ columns name t c.deref-in-Some.result.now) (c.deref.ensures.value
    ∙ c.in_ok-text-in-Some.ensures)
    ∙ ap (λ (t : List ℕ). out ++ columns name (short_op c.in-Some.entry.op) t) (c.deref-in-Some.ensures.value
    ∙ c.in_ok-whose-in-Some.ensures)
    ∙ ap (λ (e : Option Entry). out ++ entry_line c.args.number c.args.client e) (sym c.in-Some.is))
