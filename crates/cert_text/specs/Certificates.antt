-- Whole certificates by their spelling: their text, and their parts with their offsets.
use Rattle.std.specs.Prelude.{ℕ, ◌+◌, List, [], ◌∷◌, ◌++◌, length, map}
use Rattle.fn_rules.specs.declared.function.Level.{Level}
use Rattle.fn_rules.specs.declared.function.ObName.{ObName}
use Rattle.ask_core.specs.Trees.{AnswerTree, tokens_of}
use Rattle.cert_text.specs.declared.item.Part.{Part}
use Rattle.cert_text.specs.declared.item.Part.TheVariants as part
use Rattle.cert_text.specs.declared.item.Item.{Item}
use Rattle.cert_text.specs.Spelling.{AreSpellable, header_text, end_text}
use Rattle.cert_text.specs.Writing.{section_text}
use Rattle.cert_text.specs.Places.{PartPlace, part_text, place_after}

-- there is one tree for each obligation, and each can be spelled
abbrev pub HasTrees : List ObName → List AnswerTree → Type 0
HasTrees [] [] = Unit {0}
HasTrees [] (t ∷ trees) = ⊥
HasTrees (name ∷ names) [] = ⊥
HasTrees (name ∷ names) (t ∷ trees) = AreSpellable (tokens_of t) × HasTrees names trees

-- for each obligation its line, its tree, and a newline
abbrev pub sections_text : List ObName → List AnswerTree → List ℕ
sections_text [] trees = []
sections_text (name ∷ names) [] = []
sections_text (name ∷ names) (t ∷ trees) = section_text name (tokens_of t) ++ sections_text names trees

-- what the writers append for a level that has these obligations
abbrev pub certificate_text : List ObName → Level → List AnswerTree → List ℕ
certificate_text names level trees = header_text names level ++ sections_text names trees ++ end_text

-- the parts behind the header, where so many obligations came
abbrev pub section_parts : ℕ → List AnswerTree → List Part
section_parts came [] = part.End ∷ []
section_parts came (t ∷ trees) =
    part.Ob came ∷ (map part.Tok (tokens_of t) ++ part.LineEnd ∷ section_parts (came + 1) trees)

-- the parts of a certificate
abbrev pub certificate_parts : Level → List AnswerTree → List Part
certificate_parts level trees = part.Header level ∷ section_parts 0 trees

-- parts from a place on, each with its offset, where so many bytes stand before the first one
abbrev pub placed_parts : PartPlace → ℕ → List Part → List Item
placed_parts place offset [] = []
placed_parts place offset (p ∷ parts) =
    record { offset = offset; part = p }
    ∷ placed_parts (place_after place p) (offset + length (part_text place p)) parts
