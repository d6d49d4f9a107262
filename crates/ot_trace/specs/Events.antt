-- The lines of events that are run one after the other, whatever they are events of.
use Rattle.std.specs.Prelude.{◌≡◌, ◌⊎◌, ℕ, ◌+◌, Bool, true, false, List, [], ◌∷◌, ◌++◌}

-- behind the bytes `before` stand the lines of each event that is done, and of the first that is refused, and these are
-- the bytes then; the first event has the number `i`. What an event does and what is told of it are one definition, and
-- so are why it is refused and what is told then.
abbrev pub TracesBy :
    {S E : Type 0} → (S → ℕ → E → S → List ℕ → Type 0) → (S → ℕ → E → List ℕ → Type 0)
    → S → ℕ → List E → List ℕ → List ℕ → Type 0
TracesBy {S = S} IsDone IsRefused s i [] before after = after ≡ before
TracesBy {S = S} IsDone IsRefused s i (event ∷ events) before after =
    ((line : List ℕ) × IsRefused s i event line × (after ≡ before ++ line))
    ⊎ ((new : S) × (line : List ℕ) × IsDone s i event new line
    × TracesBy IsDone IsRefused new (i + 1) events (before ++ line) after)

-- an event went on, or it was refused, and this was told of it
abbrev pub IsTold :
    {S E : Type 0} → (S → ℕ → E → S → List ℕ → Type 0) → (S → ℕ → E → List ℕ → Type 0)
    → S → ℕ → E → S → Bool → List ℕ → List ℕ → Type 0
IsTold IsDone IsRefused s i event new true before after =
    (line : List ℕ) × IsDone s i event new line × (after ≡ before ++ line)
IsTold IsDone IsRefused s i event new false before after =
    (line : List ℕ) × IsRefused s i event line × (after ≡ before ++ line)
