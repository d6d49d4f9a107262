-- The definitions on worked examples.
use Rattle.std.specs.Prelude.{◌≡◌, ℕ, pos, List, [], ◌∷◌, ◌++◌, Some, codes, refl, replicate}
use Rattle.std.specs.Fmt.{digits}
use lib.Utf8.{encode}
use Rattle.serde_json.proofs.OnLiterals.{serde_json_on_literals}
use Rattle.ot_model.specs.declared.op.Op.TheVariants.{Ins, Del}
use Rattle.ot_model.specs.declared.cell.Cell.{Cell}
use Rattle.ot_model.specs.Cells.{live_cell, dead_cell}
use Rattle.fn_rules.specs.declared.function.Level.TheVariants.{Tp1, Tp2}
use Rattle.fn_rules.specs.Shipped.{sites, offby}
use Rattle.ot_counter.specs.declared.counter.WayResult.TheVariants.{Doc}
use Rattle.ot_steps.specs.CaseLines.{case_line}
use Rattle.ot_steps.specs.ExplainedTexts.{shown_text}
use Rattle.ot_steps.specs.ShortDocuments.{short_document}
use Rattle.ot_ways.specs.Steps.{shown_ways}
use Rattle.ot_steps.specs.StepTexts.{documents_line, one_end_line}

-- a line
abbrev line : List ℕ → List ℕ
line text = text ++ 10 ∷ []

-- cells `y`
abbrev ys : ℕ → List Cell
ys n = replicate n (live_cell 121)

line_of_a_difference :
    documents_line (Doc (live_cell 121 ∷ live_cell 97 ∷ [])) (Doc (live_cell 121 ∷ []))
    ≡ line (codes "differ at 1: a, nothing")
unfolding encode digits
line_of_a_difference = refl

-- four equal cells are written one by one, five as one and their count
four : short_document 0 (ys 4) ≡ codes "[yyyy]"
unfolding encode digits
four = refl

five : short_document 0 (ys 5) ≡ codes "[y*5]"
unfolding encode digits
five = refl

among_others : short_document 0 (ys 20 ++ live_cell 97 ∷ dead_cell (live_cell 98) ∷ ys 28) ≡ codes "[y*20 a~b y*28]"
unfolding encode digits
among_others = refl

-- TP1: an insertion at the place of a deletion moves too far
a_pair :
    shown_text offby (shown_ways offby Tp1 (ys 1) (Ins (pos 0) 97 1 ∷ Del (pos 0) 2 ∷ []))
    ≡ line (codes "left") ++ line (codes "  op 1                ins 0 a       [ay]")
    ++ line (codes "  op 2 after op 1     del 1         [a]     del ins 1: true : del p1 + 1")
    ++ line (codes "right") ++ line (codes "  op 2                del 0         []")
    ++ line (codes "  op 1 after op 2     ins -1 a      range   ins del 1: true : ins p1 - 1")
unfolding encode digits
a_pair = refl

-- TP2: the third operation has two forms
a_triple :
    shown_text sites (shown_ways sites Tp2 (ys 1) (Ins (pos 1) 97 1 ∷ Del (pos 0) 2 ∷ Ins (pos 0) 99 3 ∷ []))
    ≡ line (codes "left") ++ line (codes "  op 2 after op 1     del 0         del ins 0: p1 < p2 : del p1")
    ++ line (codes "  op 3 after op 1     ins 0 c       ins ins 0: p1 < p2 : ins p1")
    ++ line (codes "  op 3 after both     ins 0 c       ins del 0: p1 <= p2 : ins p1")
    ++ line (codes "right") ++ line (codes "  op 1 after op 2     ins 0 a       ins del 1: true : ins p1 - 1")
    ++ line (codes "  op 3 after op 2     ins 0 c       ins del 0: p1 <= p2 : ins p1")
    ++ line (codes "  op 3 after both     ins 1 c       ins ins 2: true : ins p1 + 1")
    ++ line (codes "differ: ins 0 c, ins 1 c")
unfolding encode digits
a_triple = refl

one_end : one_end_line (Some (ys 1)) ≡ line (codes "on this document both orders end with [y]")
unfolding encode digits
one_end = refl

-- the same as a case
a_case :
    case_line Tp2 (ys 1) (Ins (pos 1) 97 1 ∷ Del (pos 0) 2 ∷ Ins (pos 0) 99 3 ∷ [])
    ≡ line
    (codes
    "case {\"doc\":\"y\",\"ops\":[[\"ins\",1,\"a\",1],[\"del\",0,2],[\"ins\",0,\"c\",3]],\"orders\":[[0,1,2],[1,0,2]]}")
unfolding encode digits serde_json_on_literals
a_case = refl

-- quotes, backslashes and newlines are escaped
escapes :
    case_line Tp1 (live_cell 10 ∷ live_cell 34 ∷ []) (Ins (pos 0) 34 1 ∷ Ins (pos 0) 92 2 ∷ [])
    ≡ line (codes
    "case {\"doc\":\"\\\\n\\\"\",\"ops\":[[\"ins\",0,\"\\\"\",1],[\"ins\",0,\"\\\\\",2]],\"orders\":[[0,1],[1,0]]}")
unfolding encode digits serde_json_on_literals
escapes = refl
