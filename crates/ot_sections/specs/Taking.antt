-- Tokens that are taken where they are read.
use Rattle.std.specs.Prelude.{◌≡◌, ℕ, ◌≤◌, List, [], ◌∷◌, Ok, length, take}
use Rattle.ask_core.specs.declared.tree.Tok.{Tok}
use Rattle.ask_core.specs.Trees.{Branch}
use Rattle.cert_check.specs.Steps.{after}
use Rattle.cert_text.specs.Spelling.{AreSpellable, tokens_text}

-- tokens are taken one after another at the open branches, and leave these ones
abbrev pub LeaveOpen : {W : Type 0} → List Tok → List (Branch W) → List (Branch W) → Type 0
LeaveOpen [] old new = new ≡ old
LeaveOpen {W} (t ∷ tokens) old new = (next : List (Branch W)) × (after t old ≡ Ok next) × LeaveOpen tokens next new

-- the bytes are such tokens
abbrev pub AreTaken : {W : Type 0} → List ℕ → List (Branch W) → List (Branch W) → Type 0
AreTaken bytes old new =
    (tokens : List Tok) × AreSpellable tokens × (tokens_text tokens ≡ bytes) × LeaveOpen tokens old new

-- so many bytes at the front are such tokens
abbrev pub AreTakenFront : {W : Type 0} → List (Branch W) → List (Branch W) → List ℕ → ℕ → Type 0
AreTakenFront old new bytes len = (len ≤ length bytes) × AreTaken (take len bytes) old new
