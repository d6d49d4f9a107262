-- The text of a document: its cells in order, each as its character behind a `~` if it is dead.
-- Texts are lists of characters here.
use Rattle.std.specs.Prelude.{ℕ, Bool, zero, suc, nat_eq, true, false, if◌then◌else◌, List, [], ◌∷◌, Option, Some}
use Rattle.std.specs.Prelude.{None, Result, Ok, Err}
use Rattle.std.specs.Prelude.{is_some}
use Rattle.std.specs.List.{flat_map}
use Rattle.std.specs.Option.{option_map}
use Rattle.ot_model.specs.declared.cell.Cell.{Cell}
use Rattle.case_json.specs.declared.fault.CaseFault.{CaseFault}
use Rattle.case_json.specs.declared.fault.CaseFault.TheVariants.{Field, Limit}
use Rattle.case_json.specs.declared.fault.Name.TheVariants.{Doc, Cells}

abbrev pub newline : ℕ
newline = 10

abbrev pub carriage_return : ℕ
carriage_return = 13

abbrev pub backslash : ℕ
backslash = 92

abbrev pub tilde : ℕ
tilde = 126

-- the letters that stand for a newline and a carriage return behind a backslash
abbrev pub letter_n : ℕ
letter_n = 110

abbrev pub letter_r : ℕ
letter_r = 114

-- how a character is written
abbrev pub char_text : ℕ → List ℕ
char_text ch =
    if nat_eq ch backslash then backslash ∷ backslash ∷ []
    else (if nat_eq ch tilde then backslash ∷ tilde ∷ []
    else (if nat_eq ch newline then backslash ∷ letter_n ∷ []
    else (if nat_eq ch carriage_return then backslash ∷ letter_r ∷ []
    else ch ∷ [])))

-- how a cell is written
abbrev pub cell_text : Cell → List ℕ
cell_text cell = if cell.live then char_text cell.ch else tilde ∷ char_text cell.ch

-- how a document is written
abbrev pub doc_text : List Cell → List ℕ
doc_text doc = flat_map cell_text doc

-- the character that a character behind a backslash stands for; most stand for none
abbrev pub meant_by : ℕ → Option ℕ
meant_by ch =
    if nat_eq ch backslash then Some backslash
    else (if nat_eq ch tilde then Some tilde
    else (if nat_eq ch letter_n then Some newline
    else (if nat_eq ch letter_r then Some carriage_return
    else None)))

-- the character that a text behind a backslash begins with, and the text behind it
abbrev pub escaped_at : List ℕ → Option (ℕ × List ℕ)
escaped_at [] = None
escaped_at (ch ∷ behind) = option_map (λ meant. (meant, behind)) (meant_by ch)

-- the character that a text begins with, which a `~` is not, and the text behind it
abbrev pub char_at : List ℕ → Option (ℕ × List ℕ)
char_at [] = None
char_at (ch ∷ behind) =
    if nat_eq ch backslash then escaped_at behind
    else (if nat_eq ch tilde then None else Some (ch, behind))

-- a cell of the character that a text begins with, and the text behind it
abbrev pub with_flag : Bool → ℕ × List ℕ → Cell × List ℕ
with_flag live first = (record { ch = first.0; live = live }, first.1)

-- the cell that a text begins with, and the text behind it
abbrev pub cell_at : List ℕ → Option (Cell × List ℕ)
cell_at [] = None
cell_at (ch ∷ behind) =
    if nat_eq ch tilde then option_map (with_flag false) (char_at behind)
    else option_map (with_flag true) (char_at (ch ∷ behind))

-- the reading of a text where no further cell is allowed
abbrev pub no_cells : List ℕ → Result (List Cell) CaseFault
no_cells [] = Ok []
no_cells (ch ∷ behind) = if is_some (cell_at (ch ∷ behind)) then Err (Limit Cells) else Err (Field Doc)

-- a cell in front of the cells of a reading
abbrev pub with_first : Cell → Result (List Cell) CaseFault → Result (List Cell) CaseFault
with_first cell (Ok cells) = Ok (cell ∷ cells)
with_first cell (Err fault) = Err fault

-- a first cell, and then the reading of what is behind it
abbrev pub with_cells_behind : Option (Cell × List ℕ) → (List ℕ → Result (List Cell) CaseFault)
    → Result (List Cell) CaseFault
with_cells_behind None reading = Err (Field Doc)
with_cells_behind (Some first) reading = with_first first.0 (reading first.1)

-- the cells of a text, or its first fault, where so many cells are allowed
unfoldable pub cells_within : ℕ → List ℕ → Result (List Cell) CaseFault
cells_within zero text = no_cells text
cells_within (suc room) [] = Ok []
cells_within (suc room) (ch ∷ behind) = with_cells_behind (cell_at (ch ∷ behind)) (cells_within room)
