-- What may become of an insertion and of a deletion where operations are kept: nop, or the same within the document.
use Rattle.std.proofs.Common.{◌≡◌, ℕ, ◌<◌, ◌≤◌, ℤ, pos, negsuc, ◌⊎◌, Some, refl, inl, inr, arith}
use Rattle.std.proofs.lemmas.Int.{ints}
use Rattle.ot_model.specs.declared.op.Op.{Op}
use Rattle.ot_model.specs.declared.op.Op.TheVariants.{Ins, Del, Upd, Nop}
use Rattle.ot_model.specs.declared.op.Kind.TheVariants as kinds
use Rattle.ot_model.specs.Effect.{IsEnabled}
use Rattle.fn_rules.specs.Conditions.{IsFormOf}

-- nop, or an insertion of this character and site at a place up to the end of so many cells
abbrev pub IsInsertionWithin : ℕ → ℕ → ℕ → Op → Type 0
IsInsertionWithin c s n o = (o ≡ Nop) ⊎ ((q : ℕ) × (q ≤ n) × (o ≡ Ins (pos q) c s))

-- nop, or a deletion of this site at one of so many cells
abbrev pub IsDeletionWithin : ℕ → ℕ → Op → Type 0
IsDeletionWithin s n o = (o ≡ Nop) ⊎ ((q : ℕ) × (q < n) × (o ≡ Del (pos q) s))

pub insertion_within :
    (p : ℤ) (c s n : ℕ) (o : Op) → IsFormOf (Ins p c s) o → IsEnabled o n → IsInsertionWithin c s n o
insertion_within p c s n o (inl gone) enabled = inl gone
insertion_within p c s n (Ins (pos q) e u) (inr moved) enabled =
    let site : Some u ≡ Some s = moved.site in
    let char : Some e ≡ Some c = moved.char in
    let same_site : u ≡ s = cc in
    let same_char : e ≡ c = cc in
    inr (q, omega (arith, ints, enabled.1), rw (same_site, same_char) refl)
insertion_within p c s n (Ins (negsuc q) e u) (inr moved) enabled = absurd (omega (arith, ints, enabled.0))
insertion_within p c s n (Del q u) (inr moved) enabled =
    absurd (let kind : Some kinds.Del ≡ Some kinds.Ins = moved.kind in cc)
insertion_within p c s n (Upd q e u) (inr moved) enabled =
    absurd (let kind : Some kinds.Upd ≡ Some kinds.Ins = moved.kind in cc)
insertion_within p c s n Nop (inr moved) enabled = inl refl

pub deletion_within : (p : ℤ) (s n : ℕ) (o : Op) → IsFormOf (Del p s) o → IsEnabled o n → IsDeletionWithin s n o
deletion_within p s n o (inl gone) enabled = inl gone
deletion_within p s n (Del (pos q) u) (inr moved) enabled =
    let site : Some u ≡ Some s = moved.site in
    let same_site : u ≡ s = cc in
    inr (q, omega (arith, ints, enabled.1), rw same_site refl)
deletion_within p s n (Del (negsuc q) u) (inr moved) enabled = absurd (omega (arith, ints, enabled.0))
deletion_within p s n (Ins q e u) (inr moved) enabled =
    absurd (let kind : Some kinds.Ins ≡ Some kinds.Del = moved.kind in cc)
deletion_within p s n (Upd q e u) (inr moved) enabled =
    absurd (let kind : Some kinds.Upd ≡ Some kinds.Del = moved.kind in cc)
deletion_within p s n Nop (inr moved) enabled = inl refl
