use Rattle.std.proofs.Common.{◌≡◌, [], All, true, false, refl, sym, subst}
use Rattle.std.proofs.lemmas.List.{append-nil}
use Rattle.fn_rules.specs.Functions.{Function}
use Rattle.ot_hub.specs.Crossings.{CanBothMove}
use Rattle.ot_hub.specs.Views.{hub_view_of}
use Rattle.ot_hub.specs.declared.answer.Move.TheVariants as moves
use Rattle.ot_trace.proofs.hub.up.Goals as goal

-- there is no such client, and nothing is told
pub returns-then-not-has_client : goal.returns-then-not-has_client
returns-then-not-has_client c = (
  [],
  (
    moves.NoSite,
    hub_view_of c.args.hub.now,
    (λ there. let wrong : false ≡ true = c.if-not-has_client.ensures.1 there in cc, refl),
    λ is. cc,
    refl,
  ),
  sym (append-nil c.args.out.now.items),
)

-- the hub and the trace have one function
pub write_crossings-requires : goal.write_crossings-requires
write_crossings-requires c =
    subst (λ (f : Function). All (CanBothMove f) c.as_slice.result.now) c.requires.function
    (rw c.as_slice.ensures c.in_ok-crossings.ensures.usable)
