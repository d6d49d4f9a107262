-- What no call on a shelf changes.
use Rattle.std.specs.Prelude.{◌≡◌, ◌≤◌, ◌↔◌, ℕ, List, Option}

-- between two states of a shelf, told by its meanings: each name holds what it held, the same names are on
-- offer, and the count of faults has not fallen
pub record Unchanged {S : Type 0} (holds : S → List ℕ → Option (List ℕ)) (offered : S → List ℕ → Type 0)
    (faults : S → ℕ)
    (old new : S) : Type 0 where
  pub same_files : (n : List ℕ) → holds new n ≡ holds old n
  pub same_offer : (n : List ℕ) → offered old n ↔ offered new n
  pub more_faults : faults old ≤ faults new
