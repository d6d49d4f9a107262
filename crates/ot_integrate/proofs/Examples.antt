-- Integrating in an order, computed on small cases.
use Rattle.std.specs.Prelude.{◌≡◌, pos, List, [], ◌∷◌, refl}
use Rattle.ot_model.specs.declared.cell.Cell.{Cell}
use Rattle.ot_model.specs.declared.op.Op.{Op}
use Rattle.ot_model.specs.declared.op.Op.TheVariants.{Ins, Del, Nop}
use Rattle.ot_model.specs.Cells.{live_cell, dead_cell}
use Rattle.fn_rules.specs.Shipped.{ttf, sites}
use Rattle.fn_rules.specs.Orders.{Document, StuckAt, integrated}

abbrev a : Cell
a = live_cell 97

abbrev b : Cell
b = live_cell 98

abbrev x : Cell
x = live_cell 120

abbrev y : Cell
y = live_cell 121

-- two insertions at one position, and a deletion of the first cell
abbrev ops : List Op
ops = Ins (pos 1) 120 1 ∷ Ins (pos 1) 121 2 ∷ Del (pos 0) 3 ∷ []

no_operation : integrated sites (a ∷ b ∷ []) [] [] ≡ Document (a ∷ b ∷ [])
no_operation = refl

smaller_site_first : integrated sites (a ∷ b ∷ []) ops (0 ∷ 1 ∷ []) ≡ Document (a ∷ x ∷ y ∷ b ∷ [])
smaller_site_first = refl

larger_site_first : integrated sites (a ∷ b ∷ []) ops (1 ∷ 0 ∷ []) ≡ Document (a ∷ x ∷ y ∷ b ∷ [])
larger_site_first = refl

deletion_first : integrated sites (a ∷ b ∷ []) ops (2 ∷ 1 ∷ 0 ∷ []) ≡ Document (x ∷ y ∷ b ∷ [])
deletion_first = refl

deletion_last : integrated sites (a ∷ b ∷ []) ops (0 ∷ 1 ∷ 2 ∷ []) ≡ Document (x ∷ y ∷ b ∷ [])
deletion_last = refl

tombstone_stays : integrated ttf (a ∷ b ∷ []) ops (2 ∷ 0 ∷ 1 ∷ []) ≡ Document (dead_cell a ∷ x ∷ y ∷ b ∷ [])
tombstone_stays = refl

one_cell_deleted_twice : integrated sites (a ∷ b ∷ []) (Del (pos 0) 1 ∷ Del (pos 0) 2 ∷ [])
    (1 ∷ 0 ∷ []) ≡ Document (b ∷ [])
one_cell_deleted_twice = refl

-- a deletion at no cell is executed by no order
stuck_at_the_first_place : integrated sites [] (Del (pos 0) 1 ∷ []) (0 ∷ []) ≡ StuckAt 0
stuck_at_the_first_place = refl

nop_is_executed : integrated sites (a ∷ []) (Nop ∷ Ins (pos 1) 120 1 ∷ []) (0 ∷ 1 ∷ []) ≡ Document (a ∷ x ∷ [])
nop_is_executed = refl
