-- Rows of operations: where they are enabled, their parts, and what they leave of a document. The calls on operations
-- give exactly these definitions; more rows are examples of their crate.
use Rattle.std.specs.Prelude.{◌≡◌, ℤ, pos, negsuc, true, false, [], ◌∷◌, map, Some, None, refl}
use Rattle.ot_model.specs.declared.cell.Cell.{Cell}
use Rattle.ot_model.specs.declared.op.Mode.TheVariants.{Plain, Tomb}
use Rattle.ot_model.specs.declared.op.Op.{Op}
use Rattle.ot_model.specs.declared.op.Op.TheVariants.{Ins, Del, Upd, Nop}
use Rattle.ot_model.specs.declared.op.Kind.TheVariants as kinds
use Rattle.ot_model.specs.declared.op.TheConstants.{KINDS}
use Rattle.ot_model.specs.Cells.{live_cell, dead_cell}
use Rattle.ot_model.specs.Kinds.{kind_rank, has_char}
use Rattle.ot_model.specs.Operations.{kind_of, at_of, site_of, char_of, placed}
use Rattle.ot_model.specs.Effect.{is_enabled, document_after}

abbrev ins : ℤ → Op
ins at = Ins at 122 7

abbrev del : ℤ → Op
del at = Del at 7

abbrev upd : ℤ → Op
upd at = Upd at 122 7

insertions_are_enabled_up_to_the_end :
    (is_enabled (ins (negsuc 0)) 2 ≡ false) × (is_enabled (ins (pos 0)) 2 ≡ true) × (is_enabled (ins (pos 2)) 2 ≡ true)
    × (is_enabled (ins (pos 3)) 2 ≡ false) × (is_enabled (ins (pos 0)) 0 ≡ true)
insertions_are_enabled_up_to_the_end = (refl, refl, refl, refl, refl)

deletions_are_enabled_at_cells :
    (is_enabled (del (negsuc 0)) 2 ≡ false) × (is_enabled (del (pos 0)) 2 ≡ true) × (is_enabled (del (pos 1)) 2 ≡ true)
    × (is_enabled (del (pos 2)) 2 ≡ false) × (is_enabled (del (pos 0)) 0 ≡ false)
deletions_are_enabled_at_cells = (refl, refl, refl, refl, refl)

updates_are_enabled_at_cells :
    (is_enabled (upd (negsuc 0)) 2 ≡ false) × (is_enabled (upd (pos 1)) 2 ≡ true) × (is_enabled (upd (pos 2)) 2 ≡ false)
    × (is_enabled Nop 0 ≡ true)
updates_are_enabled_at_cells = (refl, refl, refl, refl)

operations_have_the_parts_of_their_kind :
    (map kind_of (ins (pos 3) ∷ del (pos 3) ∷ upd (pos 3) ∷ Nop ∷ [])
    ≡ Some kinds.Ins ∷ Some kinds.Del ∷ Some kinds.Upd ∷ None ∷ [])
    × (map at_of (ins (pos 3) ∷ del (pos 3) ∷ upd (pos 3) ∷ Nop ∷ []) ≡ pos 3 ∷ pos 3 ∷ pos 3 ∷ pos 0 ∷ [])
    × (map site_of (ins (pos 3) ∷ del (pos 3) ∷ upd (pos 3) ∷ Nop ∷ []) ≡ Some 7 ∷ Some 7 ∷ Some 7 ∷ None ∷ [])
    × (map char_of (ins (pos 3) ∷ del (pos 3) ∷ upd (pos 3) ∷ Nop ∷ []) ≡ Some 122 ∷ None ∷ Some 122 ∷ None ∷ [])
operations_have_the_parts_of_their_kind = (refl, refl, refl, refl)

operations_are_placed_elsewhere :
    map (λ o. placed o (pos 5)) (ins (pos 3) ∷ del (pos 3) ∷ upd (pos 3) ∷ Nop ∷ [])
    ≡ ins (pos 5) ∷ del (pos 5) ∷ upd (pos 5) ∷ Nop ∷ []
operations_are_placed_elsewhere = refl

kinds_are_listed_in_their_order : (map kind_rank KINDS ≡ 0 ∷ 1 ∷ 2 ∷ [])
    × (map has_char KINDS ≡ true ∷ false ∷ true ∷ [])
kinds_are_listed_in_their_order = (refl, refl)

abbrev a : Cell
a = live_cell 97

abbrev b : Cell
b = live_cell 98

abbrev c : Cell
c = live_cell 99

abbrev z : Cell
z = live_cell 122

insertions_and_tombstones :
    (document_after Tomb (ins (pos 0)) (dead_cell a ∷ b ∷ []) ≡ z ∷ dead_cell a ∷ b ∷ [])
    × (document_after Tomb (ins (pos 2)) (a ∷ b ∷ []) ≡ a ∷ b ∷ z ∷ [])
insertions_and_tombstones = (refl, refl)

a_deletion_takes_out_the_cell_in_the_middle : document_after Plain (del (pos 1)) (a ∷ b ∷ c ∷ []) ≡ a ∷ c ∷ []
a_deletion_takes_out_the_cell_in_the_middle = refl

updates_keep_the_flag :
    (document_after Tomb (upd (pos 1)) (a ∷ b ∷ c ∷ []) ≡ a ∷ z ∷ c ∷ [])
    × (document_after Plain (upd (pos 1)) (a ∷ dead_cell b ∷ c ∷ []) ≡ a ∷ dead_cell z ∷ c ∷ [])
    × (document_after Tomb (upd (pos 1)) (a ∷ dead_cell b ∷ c ∷ []) ≡ a ∷ dead_cell z ∷ c ∷ [])
updates_keep_the_flag = (refl, refl, refl)
