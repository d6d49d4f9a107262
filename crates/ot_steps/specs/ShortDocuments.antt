-- A document in a line, shortened: many equal cells in a row are written as one and their count, `y*49`, and of a long
-- document only what is around one place. This text is never read. Texts are bytes.
use Rattle.std.specs.Prelude.{ℕ, zero, suc, ◌+◌, ◌-◌, min, Bool, nat_le, nat_lt, ◌||◌, if◌then◌else◌}
use Rattle.std.specs.Prelude.{List, [], ◌∷◌, ◌++◌, length, slice_range, codes, encode_utf8_all}
use Rattle.std.specs.Fmt.{decimal}
use Rattle.ot_model.specs.declared.cell.Cell.{Cell}
use Rattle.case_json.specs.DocText.{cell_text}
use Rattle.ot_steps.specs.declared.runs.Run.{Run}
use Rattle.ot_steps.specs.declared.runs.TheConstants.{LONG, AROUND}
use Rattle.ot_ways.specs.Differences.{is_same_cell}

-- the runs of equal cells, of which the first began with `n` cells like `c`
abbrev pub runs_from : Cell → ℕ → List Cell → List Run
runs_from c n [] = record { cell = c; count = n } ∷ []
runs_from c n (e ∷ es) =
    if is_same_cell c e then runs_from c (n + 1) es else record { cell = c; count = n } ∷ runs_from e 1 es

-- the runs of equal cells of a document
abbrev pub runs_of : List Cell → List Run
runs_of [] = []
runs_of (c ∷ cs) = runs_from c 1 cs

-- a run that is written by its count
abbrev pub is_long : Run → Bool
is_long run = nat_le LONG run.count

-- the text of a cell
abbrev pub one_cell_text : Cell → List ℕ
one_cell_text c = encode_utf8_all (cell_text c)

-- the text of so many equal cells
abbrev pub cells_text : ℕ → Cell → List ℕ
cells_text zero c = []
cells_text (suc n) c = one_cell_text c ++ cells_text n c

-- a run: its cells, or one of them and how many there are
abbrev pub run_text : Run → List ℕ
run_text run =
    if is_long run then one_cell_text run.cell ++ codes "*" ++ decimal run.count else cells_text run.count run.cell

-- a space, where one of two neighbours is a count
abbrev pub gap_text : Bool → Bool → List ℕ
gap_text before here = if before || here then codes " " else []

-- runs after another one, which was written by its count or not
abbrev pub further_runs_text : Bool → List Run → List ℕ
further_runs_text before [] = []
further_runs_text before (run ∷ runs) =
    gap_text before (is_long run) ++ run_text run ++ further_runs_text (is_long run) runs

-- runs, with a space between two of which one is written by its count
abbrev pub runs_text : List Run → List ℕ
runs_text [] = []
runs_text (run ∷ runs) = run_text run ++ further_runs_text (is_long run) runs

-- the number of the run that has the cell at a place; that of none, where the document has no such cell
abbrev pub run_at : ℕ → List Run → ℕ
run_at place [] = 0
run_at place (run ∷ runs) = if nat_lt place run.count then 0 else suc (run_at (place - run.count) runs)

-- the first run that is shown, around the one of this number, and the number after the last one
abbrev pub first_shown : ℕ → ℕ
first_shown number = number - AROUND

abbrev pub after_shown : ℕ → ℕ → ℕ
after_shown number count = min (number + AROUND + 1) count

-- what stands for runs that are left out
abbrev pub left_out_text : Bool → List ℕ
left_out_text any = if any then codes "..." else []

-- the runs around the one of this number, in brackets
abbrev pub runs_around : ℕ → List Run → List ℕ
runs_around number runs =
    codes "[" ++ left_out_text (nat_lt 0 (first_shown number))
    ++ runs_text (slice_range runs (first_shown number) (after_shown number (length runs)))
    ++ left_out_text (nat_lt (after_shown number (length runs)) (length runs)) ++ codes "]"

-- a document in brackets, shortened around a place
abbrev pub short_document : ℕ → List Cell → List ℕ
short_document place d = runs_around (run_at place (runs_of d)) (runs_of d)
