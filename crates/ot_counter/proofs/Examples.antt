-- The definitions on worked rows.
use Rattle.std.proofs.Common.{◌≡◌, ℕ, ℤ, pos, true, false, Some, None, [], ◌∷◌, refl}
use Rattle.ot_model.specs.declared.op.Kind.TheVariants as kinds
use Rattle.ot_model.specs.declared.op.Mode.TheVariants.{Plain}
use Rattle.ot_model.specs.declared.op.Op.TheVariants as ops
use Rattle.ot_model.specs.Cells.{live_cell, dead_cell}
use Rattle.fn_rules.specs.declared.function.ObName.{ObName}
use Rattle.fn_rules.specs.declared.function.ObName.TheVariants.{Pair}
use Rattle.fn_rules.specs.declared.function.Res.TheVariants as results
use Rattle.fn_rules.specs.declared.guard.Side.TheVariants.{First}
use Rattle.fn_rules.specs.Formulas.{Always}
use Rattle.fn_rules.specs.Functions.{Function}
use Rattle.diff_tables.specs.Solutions.{valuation_of}
use Rattle.ot_questions.specs.declared.why.Why.TheVariants.{Cells, OutOfRange}
use Rattle.ot_counter.specs.declared.counter.WayResult.TheVariants as ways
use Rattle.ot_values.specs.Values.{ops_at}
use Rattle.ot_counter.specs.Documents.{document_at}
use Rattle.ot_counter.specs.Ways.{left_at, right_at}

-- updates and deletions that stay as and where they are, in plain text
abbrev staying : Function
staying = record {
  head = record { mode = Plain; ins = false; del = true; upd = true; sites_differ = false; chars_differ = false };
  cases = λ k l. record { guard = Always; res = results.Keep First (pos 0) } ∷ [];
}

-- two updates of the one cell of a document
abbrev last : ℕ → ℤ
last = valuation_of (pos 0 ∷ pos 1 ∷ pos 0 ∷ pos 0 ∷ pos 1 ∷ pos 99 ∷ pos 0 ∷ pos 2 ∷ pos 98 ∷ [])

abbrev two_updates : ObName
two_updates = Pair kinds.Upd kinds.Upd

last_ops : ops_at last two_updates ≡ ops.Upd (pos 0) 99 1 ∷ ops.Upd (pos 0) 98 2 ∷ []
last_ops = refl

last_doc : document_at last (Cells (Some (pos 0)) None) ≡ live_cell 120 ∷ []
last_doc = refl

last_left : left_at staying last (live_cell 120 ∷ []) two_updates ≡ ways.Doc (live_cell 98 ∷ [])
last_left = refl

last_right : right_at staying last (live_cell 120 ∷ []) two_updates ≡ ways.Doc (live_cell 99 ∷ [])
last_right = refl

-- two deletions of it: the second finds no cell
twice_left : left_at staying last (document_at last OutOfRange) (Pair kinds.Del kinds.Del) ≡ ways.OutOfRange
twice_left = refl

-- three cells, of which the one at the index is read and the one behind it is to be dead
abbrev three : ℕ → ℤ
three = valuation_of (pos 0 ∷ pos 3 ∷ pos 1 ∷ [])

read_and_dead : document_at three (Cells (Some (pos 0)) (Some (pos 1)))
    ≡ live_cell 121 ∷ live_cell 120 ∷ dead_cell (live_cell 121) ∷ []
read_and_dead = refl
