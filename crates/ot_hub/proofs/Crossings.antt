-- The pairs that cross, one after the other.
use Rattle.std.proofs.Common.{◌≡◌, ℕ, ◌+◌, ◌<◌, true, List, [], ◌∷◌, length, drop, get_or, Some, None, refl}
use Rattle.std.specs.Prelude.{nat_le}
use Rattle.ot_model.specs.declared.op.Op.{Op}
use Rattle.fn_rules.specs.Functions.{Function}
use Rattle.ot_hub.specs.declared.carry.Crossed.{Crossed}
use Rattle.ot_hub.specs.declared.placed.PlacedOp.{PlacedOp}
use Rattle.ot_hub.specs.Carry.{crossed, from_place}
use Rattle.ot_hub.specs.Crossings.{crossings}
use Rattle.ot_hub.proofs.Carrying.{no_one, rest-kept}

module _ (f : Function) (list : List PlacedOp) (place i : ℕ) (inside : i < length list) where
  abbrev here : PlacedOp
  here = get_or list i no_one

  abbrev rest : ℕ → List PlacedOp
  rest n = from_place place (drop n list)

  -- one that the operation is carried over
  pub crossings-next : (o : Op) (both : Crossed) → nat_le place here.place ≡ true → crossed f o here.op ≡ Some both
      → crossings f o (rest i) ≡ record { own = o; other = here.op } ∷ crossings f both.own (rest (i + 1))
  crossings-next o both kept is = rw (rest-kept f list place i inside kept, is) refl

  -- one that it can't be carried over
  pub crossings-stuck : (o : Op) → nat_le place here.place ≡ true → crossed f o here.op ≡ None
      → crossings f o (rest i) ≡ record { own = o; other = here.op } ∷ []
  crossings-stuck o kept is = rw (rest-kept f list place i inside kept, is) refl
