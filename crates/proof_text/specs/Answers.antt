-- What a call answers of the front of some bytes.
use Rattle.std.specs.Prelude.{◌≡◌, ℕ, ◌<◌, ◌≤◌, List, length, drop, Result, Ok, Err}
use Rattle.proof_text.specs.declared.unread.Unread.{Unread}
use Rattle.proof_text.specs.Fronts.{Parsed, Found, Missing}

-- of what is found from a place of the bytes on: how many bytes stand before what comes after this value; or why
-- nothing is
abbrev pub Answers : {A : Type 0} → (List ℕ → Parsed A) → List ℕ → ℕ → A → Result ℕ Unread → Type 0
Answers front bytes at a (Ok next) =
    (at < next) × (next ≤ length bytes) × (front (drop at bytes) ≡ Found a (drop next bytes))
Answers front bytes at a (Err why) = front (drop at bytes) ≡ Missing why
