-- Operations whose parts are names: the picture of an operation of which nothing is known but its kind.
use Rattle.std.specs.Prelude.{ℕ, ℤ, pos, negsuc, ◌+ℤ◌, if◌then◌else◌, nat_eq, int_le, Option, Some, None}
use Rattle.ot_model.specs.declared.op.Kind.{Kind}
use Rattle.ot_model.specs.declared.op.Kind.TheVariants as kinds
use Rattle.ot_model.specs.declared.op.Mode.{Mode}
use Rattle.ot_model.specs.declared.op.Mode.TheVariants.{Plain, Tomb}
use Rattle.fn_rules.specs.declared.guard.Sort.{Sort}
use Rattle.fn_rules.specs.declared.guard.Sort.TheVariants.{Pos, Site, Char}
use Rattle.fn_rules.specs.declared.function.Res.{Res}
use Rattle.fn_rules.specs.declared.function.Res.TheVariants as results
use Rattle.fn_rules.specs.Formulas.{of_side}
use Rattle.ot_questions.specs.declared.name.Who.{Who}
use Rattle.ot_questions.specs.declared.place.Place.{Place}
use Rattle.ot_questions.specs.declared.place.SymOp.{SymOp}
use Rattle.ot_questions.specs.declared.place.SymOp.TheVariants.{Ins, Del, Upd, Nop}
use Rattle.ot_questions.specs.Names.{zero_name, length_name, index_name, position_name, site_name, char_name}

-- the integer of a name, plus an offset
abbrev pub place : ℕ → ℤ → Place
place x off = record { var = x; off = off }

abbrev pub zero_place : Place
zero_place = place zero_name (pos 0)

-- the length of the document, plus an offset
abbrev pub length_and : ℤ → Place
length_and off = place length_name off

-- the index, plus an offset
abbrev pub index_and : ℤ → Place
index_and off = place index_name off

-- a place, plus an offset
abbrev pub plus : Place → ℤ → Place
plus at off = place at.var (at.off +ℤ off)

-- the integer at a place
abbrev pub integer_at : (ℕ → ℤ) → Place → ℤ
integer_at v at = v at.var +ℤ at.off

-- what is left by the order of two places, of two ends: places of one name are compared at once, and of others `ask`
-- says what is left
abbrev pub by_order : {A : Type 0} → (Place → Place → A → A → A) → Place → Place → A → A → A
by_order ask x y on_yes on_no =
    if nat_eq x.var y.var then (if int_le x.off y.off then on_yes else on_no) else ask x y on_yes on_no

-- an operation of a kind, each part of which is a name of its own
abbrev pub sym_op : Kind → Who → SymOp
sym_op kinds.Ins who = Ins (place (position_name who) (pos 0)) (char_name who) (site_name who)
sym_op kinds.Del who = Del (place (position_name who) (pos 0)) (site_name who)
sym_op kinds.Upd who = Upd (place (position_name who) (pos 0)) (char_name who) (site_name who)

abbrev pub sym_kind : SymOp → Option Kind
sym_kind (Ins at ch site) = Some kinds.Ins
sym_kind (Del at site) = Some kinds.Del
sym_kind (Upd at ch site) = Some kinds.Upd
sym_kind Nop = None

-- the position, which nop has not
abbrev pub sym_at : SymOp → Place
sym_at (Ins at ch site) = at
sym_at (Del at site) = at
sym_at (Upd at ch site) = at
sym_at Nop = zero_place

-- the name of the site
abbrev pub sym_site : SymOp → Option ℕ
sym_site (Ins at ch site) = Some site
sym_site (Del at site) = Some site
sym_site (Upd at ch site) = Some site
sym_site Nop = None

-- the name of the character, which a deletion has not
abbrev pub sym_char : SymOp → Option ℕ
sym_char (Ins at ch site) = Some ch
sym_char (Del at site) = None
sym_char (Upd at ch site) = Some ch
sym_char Nop = None

-- the same operation at another place
abbrev pub sym_placed : SymOp → Place → SymOp
sym_placed (Ins at ch site) to = Ins to ch site
sym_placed (Del at site) to = Del to site
sym_placed (Upd at ch site) to = Upd to ch site
sym_placed Nop to = Nop

-- what a result makes of the first operation
abbrev pub sym_result : Res → SymOp → SymOp → SymOp
sym_result (results.Keep base off) a b = sym_placed a (plus (sym_at (of_side base a b)) off)
sym_result results.Nop a b = Nop

-- the offset of a result
abbrev pub offset_of : Res → ℤ
offset_of (results.Keep base off) = off
offset_of results.Nop = pos 0

-- the place of a name, or zero where there is no name
abbrev pub place_of_name : Option ℕ → Place
place_of_name None = zero_place
place_of_name (Some x) = place x (pos 0)

-- what an atom compares
abbrev pub sym_thing : Sort → SymOp → Place
sym_thing Pos o = sym_at o
sym_thing Site o = place_of_name (sym_site o)
sym_thing Char o = place_of_name (sym_char o)

-- how many cells an operation adds to a document
abbrev pub growth : Mode → SymOp → ℤ
growth mode (Ins at ch site) = pos 1
growth Plain (Del at site) = negsuc 0
growth Tomb (Del at site) = pos 0
growth mode (Upd at ch site) = pos 0
growth mode Nop = pos 0
