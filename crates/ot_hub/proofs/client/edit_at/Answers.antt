use Rattle.std.proofs.Common.{◌<◌, ◌∙◌, length, sym, ap, subst}
use Rattle.std.specs.Prelude.{slice_set}
use Rattle.std.proofs.lemmas.List.{set-get_or}
use Rattle.std.proofs.lemmas.Result.{on_err_weaker, on_ok_weaker}
use Rattle.ot_model.specs.Effect.{IsEnabled}
use Rattle.fn_rules.specs.Rules.{function_of}
use Rattle.ot_hub.specs.declared.client.Client.{Client}
use Rattle.ot_hub.specs.declared.limits.TheConstants.{MAX_EDITS}
use Rattle.ot_hub.specs.Steps.{edited}
use Rattle.ot_hub.proofs.Acting.{client_at-read}
use Rattle.ot_hub.proofs.client.edit_at.Goals as goal

pub edit-requires-clause-enabled : goal.edit-requires-clause-enabled
edit-requires-clause-enabled c =
    subst (λ (one : Client). IsEnabled c.args.op (length one.doc))
    (client_at-read c.args.clients.now c.args.place c.index-clients-place.result c.requires.place
    c.index-clients-place.is) c.requires.client.enabled

pub edit-requires-clause-few : goal.edit-requires-clause-few
edit-requires-clause-few c =
    subst (λ (one : Client). one.edits < MAX_EDITS)
    (client_at-read c.args.clients.now c.args.place c.index-clients-place.result c.requires.place
    c.index-clients-place.is) c.requires.client.few

pub returns-clause-ok : goal.returns-clause-ok
returns-clause-ok c =
    let mode = (function_of c.args.rules.now).head.mode in
    let same = client_at-read c.args.clients.now c.args.place c.index-clients-place.result c.requires.place
    c.index-clients-place.is in
    on_ok_weaker c.edit.result
    (λ is. ap (λ (one : Client). slice_set c.args.clients.now c.args.place one)
    (is ∙ ap (λ (one : Client). edited mode c.args.op one) (sym same))) c.edit.ensures.ok

pub returns-clause-err : goal.returns-clause-err
returns-clause-err c =
    on_err_weaker c.edit.result
    (λ is. ap (λ (one : Client). slice_set c.args.clients.now c.args.place one) is
    ∙ set-get_or c.args.clients.now c.args.place c.index-clients-place.result) c.edit.ensures.err
