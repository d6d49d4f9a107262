use Rattle.std.proofs.Common.{◌++◌, [], List, ℕ, refl, sym, ap, ◌∙◌}
use Rattle.std.proofs.lemmas.List.{append-nil}
use Rattle.ot_model.specs.declared.cell.Cell.{Cell}
use Rattle.ot_hub.specs.Views.{hub_view_of, client_of}
use Rattle.ot_trace.specs.HubTexts.{edit_text}
use Rattle.ot_trace.proofs.hub.edit.Goals as goal

-- it was refused, and nothing is told
pub returns-in_ok-not_edited-in-Err : goal.returns-in_ok-not_edited-in-Err
returns-in_ok-not_edited-in-Err c = (
  [],
  (c.in-Err.why, hub_view_of c.edit.new.self, c.in-Err.ensures.edited, c.in_ok-not_edited-in-Err.ensures, refl),
  sym (append-nil c.args.out.now.items),
)

-- it was made, and this is told of it
pub returns-in_ok-write_edit-in-Ok : goal.returns-in_ok-write_edit-in-Ok
returns-in_ok-write_edit-in-Ok c =
    let line : List Cell → List ℕ = λ d. edit_text c.args.number c.args.client c.args.op d in (
      line (client_of (hub_view_of c.edit.new.self) c.args.client).doc,
      (c.in-Ok.ensures.edited, refl),
      c.in_ok-write_edit-in-Ok.ensures ∙ ap (λ (d : List Cell). c.args.out.now.items ++ line d) c.client.ensures,
    )
