-- Tokens of a tree that a reader passes together.
use Rattle.std.specs.Prelude.{◌≡◌, ℕ, ◌+◌, ◌<◌, List, [], ◌∷◌}
use Rattle.ask_core.specs.declared.tree.Tok.{Tok}
use Rattle.cert_text.specs.Places.{PartPlace, Start, Line, Tree, Finish, open_after}
use Rattle.cert_text.specs.Reading.{ReaderState, Reading, Refused}
use Rattle.cert_text.specs.Spelling.{IsSpellable, tokens_text}

-- the open branches of the tree at a place, and none elsewhere
abbrev pub branches_in : PartPlace → ℕ
branches_in (Tree came names branches) = branches
branches_in (Start tp1 tp2) = 0
branches_in (Line came names) = 0
branches_in Finish = 0

-- the same of a reader
abbrev pub open_in : ReaderState → ℕ
open_in (Reading place offset begun) = branches_in place
open_in (Refused refusal) = 0

-- tokens stand one after another where so many branches are open, and so many are open behind the last one
abbrev pub AreOpen : ℕ → List Tok → ℕ → Type 0
AreOpen branches [] behind = behind ≡ branches
AreOpen branches (t ∷ tokens) behind = (0 < branches) × IsSpellable t × AreOpen (open_after branches t) tokens behind

-- a reader stands in a tree, between two parts, and the bytes are tokens that may stand there, behind which so many
-- branches are open
abbrev pub IsPassed : ReaderState → List ℕ → ℕ → Type 0
IsPassed (Reading (Tree came names branches) offset begun) bytes behind =
    (begun ≡ []) × ((tokens : List Tok) × AreOpen branches tokens behind × (tokens_text tokens ≡ bytes))
IsPassed (Reading (Start tp1 tp2) offset begun) bytes behind = ⊥
IsPassed (Reading (Line came names) offset begun) bytes behind = ⊥
IsPassed (Reading Finish offset begun) bytes behind = ⊥
IsPassed (Refused refusal) bytes behind = ⊥

-- the reader behind so many bytes, where so many branches are open
abbrev pub passed : ReaderState → ℕ → ℕ → ReaderState
passed (Reading (Tree came names branches) offset begun) len behind = Reading (Tree came names behind) (offset + len)
    begun
passed (Reading (Start tp1 tp2) offset begun) len behind = Reading (Start tp1 tp2) offset begun
passed (Reading (Line came names) offset begun) len behind = Reading (Line came names) offset begun
passed (Reading Finish offset begun) len behind = Reading Finish offset begun
passed (Refused refusal) len behind = Refused refusal
