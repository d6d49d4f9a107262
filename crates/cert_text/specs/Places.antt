-- The parts of a certificate, each by its one spelling: which of them may stand where, and what comes behind.
use Rattle.std.specs.Prelude.{◌≡◌, ℕ, ◌+◌, ◌-◌, ◌<◌, List, [], ◌∷◌, length}
use Rattle.fn_rules.specs.declared.function.Level.{Level}
use Rattle.fn_rules.specs.declared.function.Level.TheVariants.{Tp1, Tp2}
use Rattle.fn_rules.specs.declared.function.ObName.{ObName}
use Rattle.ask_core.specs.declared.tree.Tok.{Tok}
use Rattle.ask_core.specs.declared.tree.Tok.TheVariants as token
use Rattle.cert_text.specs.declared.item.Part.{Part}
use Rattle.cert_text.specs.declared.item.Part.TheVariants as part
use Rattle.cert_text.specs.Spelling.{IsSpellable, token_text, header_text, ob_text, end_text}

-- a place in a certificate
pub data PartPlace : Type 0 where
  -- before the header, where the levels have these obligations
  Start : List ObName → List ObName → PartPlace
  -- before a line, where so many obligations came and these ones are still to come
  Line : ℕ → List ObName → PartPlace
  -- in the tree of an obligation, where so many obligations came, this one with them, these ones are still to
  -- come, and so many branches of the tree are open
  Tree : ℕ → List ObName → ℕ → PartPlace
  -- behind the last line
  Finish : PartPlace

-- the obligations of a level
abbrev pub names_of : List ObName → List ObName → Level → List ObName
names_of tp1 tp2 Tp1 = tp1
names_of tp1 tp2 Tp2 = tp2

-- the open branches of a tree behind a token
abbrev pub open_after : ℕ → Tok → ℕ
open_after branches token.Ask = branches + 1
open_after branches token.Holds = branches - 1
open_after branches (token.Cycle picks) = branches - 1

-- the part may stand at the place: the header of a level that has obligations, the line of the next
-- obligation, a token while a branch of the tree is open, a newline when none is, the end when no obligation is
-- left
abbrev pub Stands : PartPlace → Part → Type 0
Stands (Start tp1 tp2) (part.Header level) = 0 < length (names_of tp1 tp2 level)
Stands (Start tp1 tp2) p = ⊥
Stands (Line came []) part.End = Unit {0}
Stands (Line came []) p = ⊥
Stands (Line came (name ∷ names)) (part.Ob number) = number ≡ came
Stands (Line came (name ∷ names)) p = ⊥
Stands (Tree came names branches) (part.Tok t) = (0 < branches) × IsSpellable t
Stands (Tree came names branches) part.LineEnd = branches ≡ 0
Stands (Tree came names branches) p = ⊥
Stands Finish p = ⊥

-- the spelling of a part that stands at the place
abbrev pub part_text : PartPlace → Part → List ℕ
part_text (Start tp1 tp2) (part.Header level) = header_text (names_of tp1 tp2 level) level
part_text (Line came (name ∷ names)) (part.Ob number) = ob_text name
part_text (Line came []) part.End = end_text
part_text (Tree came names branches) (part.Tok t) = token_text t
part_text (Tree came names branches) part.LineEnd = 10 ∷ []
part_text place p = []

-- the place behind such a part
abbrev pub place_after : PartPlace → Part → PartPlace
place_after (Start tp1 tp2) (part.Header level) = Line 0 (names_of tp1 tp2 level)
place_after (Line came (name ∷ names)) (part.Ob number) = Tree (came + 1) names 1
place_after (Line came []) part.End = Finish
place_after (Tree came names branches) (part.Tok t) = Tree came names (open_after branches t)
place_after (Tree came names branches) part.LineEnd = Line came names
place_after place p = place
