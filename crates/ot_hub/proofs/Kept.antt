-- What the server and the clients keep can be carried.
use Rattle.std.proofs.Common.{◌≡◌, ℕ, ◌≤◌, List, length, Some, sym, ap, ◌∙◌, subst, arith}
use Rattle.std.specs.Prelude.{slice_get, unwrap_or}
use Rattle.std.specs.List.{All}
use Rattle.std.proofs.lemmas.Option.{slice_get_within, unwrap_or-slice_get}
use Rattle.std.proofs.lemmas.List.Elements.{All-get_or}
use Rattle.ot_model.specs.declared.op.Op.{Op}
use Rattle.fn_rules.specs.Functions.{Function}
use Rattle.ot_hub.specs.declared.placed.PlacedOp.{PlacedOp}
use Rattle.ot_hub.specs.declared.server.Server.{Server}
use Rattle.ot_hub.specs.declared.limits.TheConstants.{MAX_EDITS}
use Rattle.ot_hub.specs.Usable.{IsUsable, AreUsable, CanBeCarried, farthest_carried, most_hub_cells, reach}
use Rattle.ot_hub.specs.Kept.{IsServerKept}
use Rattle.ot_hub.proofs.Near.{Wider, IsUsable-wider, AreUsable-wider}

-- what holds of each holds of the one at a place
pub All-at : {X : Type 0} (P : X → Type 0) (xs : List X) (i : ℕ) (x : X) → All P xs → slice_get xs i ≡ Some x → P x
All-at P xs i x all is =
    subst P (sym (unwrap_or-slice_get xs i x) ∙ ap (λ found. unwrap_or found x) is)
    (All-get_or P xs i x (slice_get_within xs i x is) all)

-- an operation and a list that are near enough
pub CanBeCarried-near : Wider → (f : Function) (m : ℕ) (o : Op) (list : List PlacedOp) → length list ≤ MAX_EDITS
    → m ≤ farthest_carried (length list)
    → IsUsable f m o → AreUsable f m list → CanBeCarried f o list
CanBeCarried-near wider f m o list few near usable all = record {
  few = few;
  op = IsUsable-wider wider f m (farthest_carried (length list)) o near usable;
  list = AreUsable-wider wider f m (farthest_carried (length list)) list near all;
}

-- a message over what the server keeps for its client
pub CanBeCarried-ahead : Wider → (f : Function) (server : Server) → IsServerKept f server
    → (i : ℕ) (list : List PlacedOp)
    → slice_get server.ahead i ≡ Some list → (o : Op) → IsUsable f most_hub_cells o → CanBeCarried f o list
CanBeCarried-ahead wider f server kept i list is o usable =
    CanBeCarried-near wider f (reach (length server.log)) o list (omega (arith, short, kept.few)) (omega
    (arith, short, kept.few)) (IsUsable-wider wider f most_hub_cells (reach (length server.log)) o (omega arith) usable)
    (All-at (λ one. AreUsable f (reach (length server.log)) one) server.ahead i list kept.ahead is)
  where
    short : length list ≤ length server.log
    short = All-at (λ one. length one ≤ length server.log) server.ahead i list kept.short is
