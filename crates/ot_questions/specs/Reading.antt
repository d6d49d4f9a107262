-- Reading a cell of a document through the operations that made it, and comparing two cells that were
-- read. A finished cell has two sources: one of its character, one of its flag.
use Rattle.std.specs.Prelude.{ℕ, ℤ, pos, negsuc, ◌+ℤ◌, Bool, true, false, if◌then◌else◌, Option, Some, None, List, []}
use Rattle.std.specs.Prelude.{◌∷◌}
use Rattle.std.specs.Ordering.{int_eq}
use Rattle.ot_model.specs.declared.op.Mode.{Mode}
use Rattle.ot_model.specs.declared.op.Mode.TheVariants.{Plain, Tomb}
use Rattle.ask_core.specs.Plans.{Plan, Holds, Fails}
use Rattle.ot_questions.specs.declared.cell.Source.{Source}
use Rattle.ot_questions.specs.declared.cell.Source.TheVariants.{Base, Named}
use Rattle.ot_questions.specs.declared.cell.Flag.{Flag}
use Rattle.ot_questions.specs.declared.cell.Flag.TheVariants.{Live, Dead, From}
use Rattle.ot_questions.specs.declared.cell.Finished.{Finished}
use Rattle.ot_questions.specs.declared.place.SymOp.{SymOp}
use Rattle.ot_questions.specs.declared.place.SymOp.TheVariants.{Ins, Del, Upd, Nop}
use Rattle.ot_questions.specs.declared.why.Why.{Why}
use Rattle.ot_questions.specs.declared.why.Why.TheVariants.{Cells}
use Rattle.ot_questions.specs.Places.{place, index_and}
use Rattle.ot_questions.specs.Questions.{ask_le, ask_lt, ask_eq}

-- the cell of the base document at the index plus an offset
abbrev pub base_cell : ℤ → Finished
base_cell off = record { source = Base off; flag = From off }

-- a character that an insertion put
abbrev pub put_cell : ℕ → Finished
put_cell ch = record { source = Named ch; flag = Live }

-- the tombstone of a cell: it keeps the character
abbrev pub buried_cell : Finished → Finished
buried_cell cell = record { source = cell.source; flag = Dead }

-- the cell with the character of an update: it keeps the flag
abbrev pub replaced_cell : ℕ → Finished → Finished
replaced_cell ch cell = record { source = Named ch; flag = cell.flag }

-- reads the cell at the index plus an offset, of the document that the operations made, the last one
-- first; goes on with the finished cell
unfoldable pub ask_cell : Mode → List SymOp → ℤ → (Finished → Plan Why) → Plan Why
ask_cell mode [] off go = go (base_cell off)
ask_cell mode (Ins at ch site ∷ ops) off go =
    ask_lt (index_and off) at (ask_cell mode ops off go)
    (ask_le (index_and off) at (go (put_cell ch)) (ask_cell mode ops (off +ℤ negsuc 0) go))
ask_cell Plain (Del at site ∷ ops) off go =
    ask_lt (index_and off) at (ask_cell Plain ops off go) (ask_cell Plain ops (off +ℤ pos 1) go)
ask_cell Tomb (Del at site ∷ ops) off go =
    ask_lt (index_and off) at (ask_cell Tomb ops off go)
    (ask_le (index_and off) at (ask_cell Tomb ops off (λ cell. go (buried_cell cell))) (ask_cell Tomb ops off go))
ask_cell mode (Upd at ch site ∷ ops) off go =
    ask_lt (index_and off) at (ask_cell mode ops off go)
    (ask_le (index_and off) at (ask_cell mode ops off (λ cell. go (replaced_cell ch cell))) (ask_cell mode ops off go))
ask_cell mode (Nop ∷ ops) off go = ask_cell mode ops off go

-- the offset of the base cell that the flag comes from, if it does
abbrev pub base_of_flag : Flag → Option ℤ
base_of_flag Live = None
base_of_flag Dead = None
base_of_flag (From off) = Some off

-- the offset of the base cell that the character or the flag comes from, if one of them does
abbrev pub base_read : Source → Flag → Option ℤ
base_read (Base off) flag = Some off
base_read (Named c) flag = base_of_flag flag

-- Of two cells whose characters have names. One is half if its flag comes from a base cell. Beside a live
-- cell that was put, or a half one with the flag of another base cell, the base cell of the half one is to
-- be dead; of two half ones, that of the left one alone.
abbrev pub dead_of_half : Flag → Flag → Option ℤ
dead_of_half Live Live = None
dead_of_half Live Dead = None
dead_of_half Live (From off) = Some off
dead_of_half Dead flag = None
dead_of_half (From off) Live = Some off
dead_of_half (From off) Dead = None
dead_of_half (From off) (From other) = if int_eq off other then None else Some off

-- the offset of the base cell that is to be dead for the two cells to differ, if one is
abbrev pub dead_read : Source → Source → Flag → Flag → Option ℤ
dead_read (Base off) right l m = None
dead_read (Named c) (Base off) l m = None
dead_read (Named c) (Named d) l m = dead_of_half l m

-- the cause where two cells differ: it says which document shows that they do
abbrev pub cells_cause : Finished → Finished → Why
cells_cause x y = Cells (base_read x.source x.flag) (dead_read x.source y.source x.flag y.flag)

-- both were made dead, both are live characters that were put, or both are as one base cell is
abbrev pub is_same_flag : Flag → Flag → Bool
is_same_flag Live Live = true
is_same_flag Live Dead = false
is_same_flag Live (From off) = false
is_same_flag Dead Live = false
is_same_flag Dead Dead = true
is_same_flag Dead (From off) = false
is_same_flag (From off) Live = false
is_same_flag (From off) Dead = false
is_same_flag (From off) (From other) = int_eq off other

-- whether the characters are equal: one base cell's, or those of two names, which are asked for unless
-- they are one name
unfoldable pub ask_same_source : Source → Source → Plan Why → Plan Why
ask_same_source (Base off) (Base there) other = if int_eq off there then Holds else other
ask_same_source (Base off) (Named d) other = other
ask_same_source (Named c) (Base off) other = other
ask_same_source (Named c) (Named d) other = ask_eq (place c (pos 0)) (place d (pos 0)) Holds other

-- whether two finished cells are the same for every base document
unfoldable pub ask_same : Finished → Finished → Plan Why
ask_same x y =
    if is_same_flag x.flag y.flag then ask_same_source x.source y.source (Fails (cells_cause x y))
    else Fails (cells_cause x y)
