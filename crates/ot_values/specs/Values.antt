-- The values of answers: the floors, and the operations and the document that are read off values above them.
use Rattle.std.specs.Prelude.{◌≡◌, ◌<◌, ◌≤ℤ◌, length, ℕ, ℤ, pos, List, [], ◌∷◌, replicate}
use Rattle.diff_graph.specs.declared.lit.Lit.{Lit}
use Rattle.diff_graph.specs.Literals.{AreMet}
use Rattle.diff_tables.specs.Solutions.{valuation_of}
use Rattle.ot_model.specs.declared.cell.Cell.{Cell}
use Rattle.ot_model.specs.declared.op.Op.{Op}
use Rattle.ot_model.specs.Cells.{live_cell}
use Rattle.fn_rules.specs.declared.function.ObName.{ObName}
use Rattle.fn_rules.specs.declared.function.ObName.TheVariants.{Pair, Triple}
use Rattle.ot_questions.specs.declared.name.Who.{Who}
use Rattle.ot_questions.specs.declared.name.Who.TheVariants.{A, B, C}
use Rattle.ot_questions.specs.Names.{zero_name, position_name, site_name, char_name}
use Rattle.ot_questions.specs.Places.{sym_op}
use Rattle.ot_questions.specs.Meaning.{op_at}
use Rattle.ot_questions.specs.Sorts.{HasNoNegativePosition}

-- the floor of each name: zero, the length and the index; then of each operation its position, its site
-- and its character, from `a` on
abbrev pub floors_of : ObName → List ℤ
floors_of (Pair k l) = pos 0 ∷ pos 0 ∷ pos 0 ∷ pos 0 ∷ pos 1 ∷ pos 97 ∷ pos 0 ∷ pos 2 ∷ pos 98 ∷ []
floors_of (Triple k l m) =
    pos 0 ∷ pos 0 ∷ pos 0 ∷ pos 0 ∷ pos 1 ∷ pos 97 ∷ pos 0 ∷ pos 2 ∷ pos 98 ∷ pos 0 ∷ pos 3 ∷ pos 99 ∷ []

-- some integers, with 0 for name 0, meet the answers, and are not negative at the positions that these are about
abbrev pub IsPossibleAtPositions : List Lit → Type 0
IsPossibleAtPositions w = (v : ℕ → ℤ) × (v zero_name ≡ pos 0) × AreMet v w × HasNoNegativePosition w v

-- the names of an operation have values, which can be a position, a site, and a character of `a` to `e`
pub record IsSmallAt (values : List ℤ) (who : Who) : Type 0 where
  pub within : char_name who < length values
  pub at : pos 0 ≤ℤ valuation_of values (position_name who)
  pub site : pos 0 ≤ℤ valuation_of values (site_name who)
  pub ch_low : pos 97 ≤ℤ valuation_of values (char_name who)
  pub ch_high : valuation_of values (char_name who) ≤ℤ pos 101

-- how far from 0 a position can be that is a value of 32 bits
abbrev pub farthest : ℕ
farthest = 4294967296

-- the operations that the names stand for
abbrev pub ops_at : (ℕ → ℤ) → ObName → List Op
ops_at v (Pair k l) = op_at v (sym_op k A) ∷ op_at v (sym_op l B) ∷ []
ops_at v (Triple k l m) = op_at v (sym_op k A) ∷ op_at v (sym_op l B) ∷ op_at v (sym_op m C) ∷ []

-- so many live cells `y`
abbrev pub live_cells : ℕ → List Cell
live_cells n = replicate n (live_cell 121)
