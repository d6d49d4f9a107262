-- The effect of operations, computed on small documents.
use Rattle.std.specs.Prelude.{◌≡◌, pos, negsuc, [], ◌∷◌, Some, None, refl}
use Rattle.std.proofs.Common.{arith}
use Rattle.std.proofs.lemmas.Int.{ints}
use Rattle.ot_model.specs.declared.cell.Cell.{Cell}
use Rattle.ot_model.specs.declared.op.Mode.TheVariants.{Plain, Tomb}
use Rattle.ot_model.specs.declared.op.Op.TheVariants.{Ins, Del, Upd, Nop}
use Rattle.ot_model.specs.declared.op.Kind.TheVariants as kinds
use Rattle.ot_model.specs.Cells.{live_cell, dead_cell}
use Rattle.ot_model.specs.Operations.{kind_of}
use Rattle.ot_model.specs.Effect.{IsEnabled, document_after}

-- live cells with x, y and z, and a tombstone with y
abbrev x : Cell
x = live_cell 120

abbrev y : Cell
y = live_cell 121

abbrev z : Cell
z = live_cell 122

abbrev dead_y : Cell
dead_y = dead_cell y

insert_in_the_middle : document_after Plain (Ins (pos 1) 122 7) (x ∷ y ∷ []) ≡ x ∷ z ∷ y ∷ []
insert_in_the_middle = refl

insert_at_the_front : document_after Tomb (Ins (pos 0) 122 7) (x ∷ y ∷ []) ≡ z ∷ x ∷ y ∷ []
insert_at_the_front = refl

insert_at_the_end : document_after Plain (Ins (pos 2) 122 7) (x ∷ y ∷ []) ≡ x ∷ y ∷ z ∷ []
insert_at_the_end = refl

insert_into_nothing : document_after Tomb (Ins (pos 0) 122 7) [] ≡ z ∷ []
insert_into_nothing = refl

insert_behind_a_tombstone : document_after Tomb (Ins (pos 1) 122 7) (dead_y ∷ x ∷ []) ≡ dead_y ∷ z ∷ x ∷ []
insert_behind_a_tombstone = refl

plain_delete_at_the_front : document_after Plain (Del (pos 0) 7) (x ∷ y ∷ z ∷ []) ≡ y ∷ z ∷ []
plain_delete_at_the_front = refl

plain_delete_at_the_end : document_after Plain (Del (pos 2) 7) (x ∷ y ∷ z ∷ []) ≡ x ∷ y ∷ []
plain_delete_at_the_end = refl

plain_delete_of_a_tombstone : document_after Plain (Del (pos 0) 7) (dead_y ∷ x ∷ []) ≡ x ∷ []
plain_delete_of_a_tombstone = refl

tomb_delete_in_the_middle : document_after Tomb (Del (pos 1) 7) (x ∷ y ∷ z ∷ []) ≡ x ∷ dead_y ∷ z ∷ []
tomb_delete_in_the_middle = refl

tomb_delete_of_a_tombstone : document_after Tomb (Del (pos 1) 7) (x ∷ dead_y ∷ []) ≡ x ∷ dead_y ∷ []
tomb_delete_of_a_tombstone = refl

plain_update_keeps_the_others : document_after Plain (Upd (pos 1) 122 7) (x ∷ y ∷ x ∷ []) ≡ x ∷ z ∷ x ∷ []
plain_update_keeps_the_others = refl

update_of_a_tombstone : document_after Tomb (Upd (pos 0) 122 7) (dead_y ∷ x ∷ []) ≡ dead_cell z ∷ x ∷ []
update_of_a_tombstone = refl

nop_changes_nothing : document_after Plain Nop (x ∷ dead_y ∷ []) ≡ x ∷ dead_y ∷ []
nop_changes_nothing = refl

insert_is_enabled_at_the_end : IsEnabled (Ins (pos 2) 122 7) 2
insert_is_enabled_at_the_end = (omega (arith, ints), omega (arith, ints))

insert_is_refused_behind_the_end : ¬ (IsEnabled (Ins (pos 3) 122 7) 2)
insert_is_refused_behind_the_end h = omega (arith, ints)

delete_is_refused_at_the_end : ¬ (IsEnabled (Del (pos 2) 7) 2)
delete_is_refused_at_the_end h = omega (arith, ints)

delete_is_refused_in_nothing : ¬ (IsEnabled (Del (pos 0) 7) 0)
delete_is_refused_in_nothing h = omega (arith, ints)

update_is_refused_at_the_end : ¬ (IsEnabled (Upd (pos 2) 122 7) 2)
update_is_refused_at_the_end h = omega (arith, ints)

insert_is_refused_before_the_front : ¬ (IsEnabled (Ins (negsuc 0) 122 7) 2)
insert_is_refused_before_the_front h = omega (arith, ints)

nop_is_enabled_on_nothing : IsEnabled Nop 0
nop_is_enabled_on_nothing = tt

only_nop_has_no_kind : (kind_of Nop ≡ None) × (kind_of (Del (pos 0) 7) ≡ Some kinds.Del)
only_nop_has_no_kind = (refl, refl)
