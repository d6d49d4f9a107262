use Rattle.std.proofs.Common.{◌++◌, ◌∷◌, [], ap, ◌∙◌, arith}
use Rattle.ot_hub.specs.Views.{hub_view_of}
use Rattle.ot_commands.proofs.HubEnding.{next_end}
use Rattle.ot_commands.proofs.hub.ends_of.Goals as goal

pub loop-place-preserved : goal.loop-place-preserved
loop-place-preserved c =
    let place = c.loop-place.place in
    let end = c.in_ok-end_at.field-0 in
    c.in_ok-push.ensures.ok
    ∙ ap (λ l. l ++ end ∷ []) c.loop-place.invariant
    ∙ next_end (hub_view_of c.args.hub.now).clients place end
    (omega (arith, c.loop-place-test.true, c.requires)) c.in_ok-end_at.ensures
