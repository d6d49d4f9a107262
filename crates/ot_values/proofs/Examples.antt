-- The definitions on worked rows.
use Rattle.std.proofs.Common.{◌≡◌, pos, negsuc, true, false, [], ◌∷◌, refl}
use Rattle.diff_graph.specs.declared.lit.Lit.{Lit}
use Rattle.diff_tables.specs.Solutions.{valuation_of}
use Rattle.ot_model.specs.declared.op.Kind.TheVariants as kinds
use Rattle.ot_model.specs.declared.op.Op.TheVariants as ops
use Rattle.ot_model.specs.Cells.{live_cell}
use Rattle.fn_rules.specs.declared.function.ObName.TheVariants.{Pair}
use Rattle.ot_questions.specs.Sorts.{speaks_of}
use Rattle.ot_values.specs.Values.{ops_at, live_cells}

-- a deletion at 1 and an update at 0
deletion_and_update :
    ops_at (valuation_of (pos 0 ∷ pos 2 ∷ pos 0 ∷ pos 1 ∷ pos 1 ∷ pos 97 ∷ pos 0 ∷ pos 2 ∷ pos 98 ∷ []))
    (Pair kinds.Del kinds.Upd)
    ≡ ops.Del (pos 1) 1 ∷ ops.Upd (pos 0) 98 2 ∷ []
deletion_and_update = refl

two_live : live_cells 2 ≡ live_cell 121 ∷ live_cell 121 ∷ []
two_live = refl

-- `p < q` speaks of the two positions, and not of the length
abbrev less : Lit
less = record { x = 3; y = 6; k = negsuc 0 }

of_a_position : speaks_of (less ∷ []) 6 ≡ true
of_a_position = refl

not_of_the_length : speaks_of (less ∷ []) 1 ≡ false
not_of_the_length = refl
