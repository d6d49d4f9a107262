-- The text of documents, computed on small ones.
use Rattle.std.specs.Prelude.{◌≡◌, ℕ, [], ◌∷◌, Ok, Err, codes, refl}
use Rattle.ot_model.specs.declared.cell.Cell.{Cell}
use Rattle.ot_model.specs.Cells.{live_cell, dead_cell}
use Rattle.case_json.specs.declared.fault.CaseFault.TheVariants.{Field, Limit}
use Rattle.case_json.specs.declared.fault.Name.TheVariants.{Doc, Cells}
use Rattle.case_json.specs.DocText.{doc_text, cells_within}

abbrev dead : ℕ → Cell
dead ch = dead_cell (live_cell ch)

plain_text : doc_text (live_cell 97 ∷ dead 98 ∷ []) ≡ codes "a~b"
plain_text = refl

escaped_text : doc_text (live_cell 126 ∷ dead 92 ∷ live_cell 10 ∷ dead 13 ∷ []) ≡ codes "\\~~\\\\\\n~\\r"
escaped_text = refl

reads_cells : cells_within 9 (codes "a~b") ≡ Ok (live_cell 97 ∷ dead 98 ∷ [])
unfolding cells_within
reads_cells = refl

reads_escapes : cells_within 9 (codes "~\\~\\n") ≡ Ok (dead 126 ∷ live_cell 10 ∷ [])
unfolding cells_within
reads_escapes = refl

reads_a_newline_as_itself : cells_within 9 (10 ∷ 126 ∷ 13 ∷ []) ≡ Ok (live_cell 10 ∷ dead 13 ∷ [])
unfolding cells_within
reads_a_newline_as_itself = refl

refuses_other_escapes : cells_within 9 (codes "a\\q") ≡ Err (Field Doc)
unfolding cells_within
refuses_other_escapes = refl

refuses_a_tilde_at_the_end : cells_within 9 (codes "a~") ≡ Err (Field Doc)
unfolding cells_within
refuses_a_tilde_at_the_end = refl

refuses_two_tildes : cells_within 9 (codes "~~a") ≡ Err (Field Doc)
unfolding cells_within
refuses_two_tildes = refl

limits_cells : cells_within 2 (codes "abc~") ≡ Err (Limit Cells)
unfolding cells_within
limits_cells = refl

-- the cell too many is met when it has been read whole
limits_no_broken_cell : cells_within 2 (codes "ab~") ≡ Err (Field Doc)
unfolding cells_within
limits_no_broken_cell = refl

allows_as_many : cells_within 2 (codes "ab") ≡ Ok (live_cell 97 ∷ live_cell 98 ∷ [])
unfolding cells_within
allows_as_many = refl
