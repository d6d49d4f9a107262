-- Rows of functions: what they are for, what they allow, their limits, their obligations, and operations that are
-- integrated in an order. The calls on functions give exactly these definitions; more rows are examples of their crate.
use Rattle.std.specs.Prelude.{◌≡◌, ℕ, zero, suc, ℤ, pos, negsuc, Bool, true, false, List, [], ◌∷◌, Some, refl}
use Rattle.ot_model.specs.declared.cell.Cell.{Cell}
use Rattle.ot_model.specs.declared.op.Mode.TheVariants.{Plain}
use Rattle.ot_model.specs.declared.op.Op.{Op}
use Rattle.ot_model.specs.declared.op.Op.TheVariants.{Ins, Del, Nop}
use Rattle.ot_model.specs.declared.op.Kind.TheVariants as kinds
use Rattle.ot_model.specs.Cells.{live_cell}
use Rattle.fn_rules.specs.declared.guard.Sort.{Sort}
use Rattle.fn_rules.specs.declared.guard.Sort.TheVariants.{Pos, Site, Char}
use Rattle.fn_rules.specs.declared.guard.Side.TheVariants.{Second}
use Rattle.fn_rules.specs.declared.guard.Cmp.TheVariants.{Eq}
use Rattle.fn_rules.specs.declared.function.Head.{Head}
use Rattle.fn_rules.specs.declared.function.Level.TheVariants.{Tp1, Tp2}
use Rattle.fn_rules.specs.declared.function.ObName.TheVariants.{Pair, Triple}
use Rattle.fn_rules.specs.declared.function.Res.TheVariants as results
use Rattle.fn_rules.specs.Formulas.{Formula, Always, Compare, And, Not}
use Rattle.fn_rules.specs.Functions.{Function}
use Rattle.fn_rules.specs.Building.{PairCases, function_from, is_buildable}
use Rattle.fn_rules.specs.Conditions.{is_integrable}
use Rattle.fn_rules.specs.Transformation.{is_allowed, transform_of}
use Rattle.fn_rules.specs.Validity.{is_valid_case}
use Rattle.fn_rules.specs.Obligations.{obligations_of}
use Rattle.fn_rules.specs.Orders.{Document, StuckAt, integrated, through}
use Rattle.fn_rules.specs.Shipped.{when, p1_plus, ties, sites, moved_down, moved_down_or_gone, with_deletions}

-- a chain of so many `true` and one more
abbrev chain : ℕ → Formula
chain zero = Always
chain (suc n) = And (chain n) Always

-- so many `not` around a guard
abbrev nots : ℕ → Formula → Formula
nots zero g = g
nots (suc n) g = Not (nots n g)

-- a case with a guard, whose offset is this
abbrev fits : Formula → ℤ → Bool
fits guard k = is_valid_case true (when guard (p1_plus k))

sixteen_atoms_fit : (fits (chain 15) (pos 0) ≡ true) × (fits (chain 16) (pos 0) ≡ false)
sixteen_atoms_fit = (refl, refl)

thirty_two_open_constructs_fit :
    (fits (nots 32 (chain 0)) (pos 0) ≡ true) × (fits (nots 33 (chain 0)) (pos 0) ≡ false)
    × (fits (nots 31 (chain 1)) (pos 0) ≡ true) × (fits (nots 32 (chain 1)) (pos 0) ≡ false)
thirty_two_open_constructs_fit = (refl, refl, refl, refl)

offsets_fit_up_to_99 :
    (fits Always (pos 99) ≡ true) × (fits Always (pos 100) ≡ false) × (fits Always (negsuc 98) ≡ true)
    × (fits Always (negsuc 99) ≡ false)
offsets_fit_up_to_99 = (refl, refl, refl, refl)

abbrev fits_atom : Sort → ℤ → Bool
fits_atom sort k =
    is_valid_case true (when (Compare (record { sort = sort; left = Second; cmp = Eq; k = k })) results.Nop)

atoms_fit_what_they_compare :
    (fits_atom Pos (pos 99) ≡ true) × (fits_atom Pos (pos 100) ≡ false) × (fits_atom Site (pos 0) ≡ true)
    × (fits_atom Site (pos 1) ≡ false) × (fits_atom Char (pos 0) ≡ true) × (fits_atom Char (pos 1) ≡ false)
atoms_fit_what_they_compare = (refl, refl, refl, refl, refl, refl)

-- insertions on plain text that differ in their characters
abbrev insertions : Head
insertions = record { mode = Plain; ins = true; del = false; upd = false; sites_differ = false; chars_differ = true }

abbrev both_blocks : List PairCases
both_blocks = with_deletions moved_down moved_down_or_gone

a_function_has_the_blocks_of_its_kinds :
    (is_buildable sites.head both_blocks ≡ true) × (is_buildable insertions both_blocks ≡ false)
    × (is_buildable sites.head [] ≡ false)
a_function_has_the_blocks_of_its_kinds = (refl, refl, refl)

abbrev x_at : ℕ → ℕ → Op
x_at at site = Ins (pos at) 120 site

abbrev y_at : ℕ → ℕ → Op
y_at at site = Ins (pos at) 121 site

abbrev z_at : ℕ → ℕ → Op
z_at at site = Ins (pos at) 122 site

abbrev differing : Function
differing = function_from insertions []

operations_are_allowed_by_what_differs :
    (is_allowed differing (x_at 0 1) (x_at 0 2) ≡ false) × (is_allowed differing (x_at 0 1) (y_at 0 1) ≡ true)
    × (is_allowed differing (x_at 0 1) (Del (pos 0) 1) ≡ true) × (is_allowed differing Nop (x_at 0 1) ≡ true)
operations_are_allowed_by_what_differs = (refl, refl, refl, refl)

an_operation_is_integrable_where_it_is_declared_and_enabled :
    (is_integrable ties 2 (x_at 2 1) ≡ true) × (is_integrable ties 2 (x_at 3 1) ≡ false)
    × (is_integrable ties 2 (Del (pos 0) 1) ≡ false) × (is_integrable ties 2 Nop ≡ true)
an_operation_is_integrable_where_it_is_declared_and_enabled = (refl, refl, refl, refl)

-- insertions and updates
abbrev without_deletions : Head
without_deletions =
    record { mode = Plain; ins = true; del = false; upd = true; sites_differ = true; chars_differ = false }

obligations_without_deletions :
    obligations_of without_deletions Tp2
    ≡ Pair kinds.Ins kinds.Ins ∷ Pair kinds.Ins kinds.Upd ∷ Pair kinds.Upd kinds.Upd
    ∷ Triple kinds.Ins kinds.Ins kinds.Ins ∷ Triple kinds.Ins kinds.Upd kinds.Ins ∷ Triple kinds.Upd kinds.Upd kinds.Ins
    ∷ Triple kinds.Ins kinds.Ins kinds.Upd ∷ Triple kinds.Ins kinds.Upd kinds.Upd
    ∷ Triple kinds.Upd kinds.Upd kinds.Upd ∷ []
obligations_without_deletions = refl

pairs_without_deletions : obligations_of without_deletions Tp1
    ≡ Pair kinds.Ins kinds.Ins ∷ Pair kinds.Ins kinds.Upd ∷ Pair kinds.Upd kinds.Upd ∷ []
pairs_without_deletions = refl

obligations_without_updates :
    obligations_of sites.head Tp2
    ≡ Pair kinds.Ins kinds.Ins ∷ Pair kinds.Ins kinds.Del ∷ Pair kinds.Del kinds.Del
    ∷ Triple kinds.Ins kinds.Ins kinds.Ins ∷ Triple kinds.Ins kinds.Del kinds.Ins ∷ Triple kinds.Del kinds.Del kinds.Ins
    ∷ Triple kinds.Ins kinds.Ins kinds.Del ∷ Triple kinds.Ins kinds.Del kinds.Del
    ∷ Triple kinds.Del kinds.Del kinds.Del ∷ []
obligations_without_updates = refl

pairs_of_insertions : obligations_of insertions Tp1 ≡ Pair kinds.Ins kinds.Ins ∷ []
pairs_of_insertions = refl

abbrev a : Cell
a = live_cell 97

abbrev b : Cell
b = live_cell 98

abbrev ops : List Op
ops = x_at 0 1 ∷ y_at 1 2 ∷ z_at 1 3 ∷ []

an_order_ends_with_a_document :
    (integrated ties (a ∷ b ∷ []) ops [] ≡ Document (a ∷ b ∷ []))
    × (integrated ties (a ∷ b ∷ []) ops (0 ∷ 1 ∷ []) ≡ Document (live_cell 120 ∷ a ∷ live_cell 121 ∷ b ∷ []))
    × (integrated ties (a ∷ b ∷ []) ops (1 ∷ 0 ∷ []) ≡ Document (live_cell 120 ∷ a ∷ live_cell 121 ∷ b ∷ []))
    × (integrated ties (a ∷ b ∷ []) ops (2 ∷ 0 ∷ []) ≡ Document (live_cell 120 ∷ a ∷ live_cell 122 ∷ b ∷ []))
    × (integrated ties (a ∷ b ∷ []) ops (0 ∷ 7 ∷ []) ≡ Document (live_cell 120 ∷ a ∷ b ∷ []))
an_order_ends_with_a_document = (refl, refl, refl, refl, refl)

or_it_is_stuck :
    (integrated ties (a ∷ b ∷ []) ops (0 ∷ 1 ∷ 2 ∷ []) ≡ StuckAt 2)
    × (integrated ties (a ∷ b ∷ []) ops (2 ∷ 1 ∷ 0 ∷ []) ≡ StuckAt 1)
or_it_is_stuck = (refl, refl)

-- the operations with which `sites` lacks the second property, and the two sides, as `prove` prints them
abbrev c_at : ℕ → Op
c_at at = Ins (pos at) 99 3

abbrev a_at : ℕ → Op
a_at at = Ins (pos at) 97 1

abbrev gone : Op
gone = Del (pos 0) 2

each_behind_the_other : (transform_of sites gone (a_at 1) ≡ Some gone)
    × (transform_of sites (a_at 1) gone ≡ Some (a_at 0))
each_behind_the_other = (refl, refl)

both_sides_of_a_counterexample :
    (through sites (c_at 0) (a_at 1 ∷ gone ∷ []) ≡ Some (c_at 0))
    × (through sites (c_at 0) (gone ∷ a_at 0 ∷ []) ≡ Some (c_at 1))
both_sides_of_a_counterexample = (refl, refl)
