-- What is found at the front of bytes, told by spellings alone.
use Rattle.std.specs.Prelude.{◌≡◌, ◌↔◌, ℕ, ◌<◌, List, ◌++◌, length}
use Rattle.proof_text.specs.declared.unread.Unread.TheVariants.{Misspelt, Cut}
use Rattle.proof_text.specs.Fronts.{Parsed, Found, Missing}

-- the bytes are a proper front of a spelling
abbrev pub EndWithin : {A : Type 0} → (A → List ℕ) → (A → Type 0) → List ℕ → Type 0
EndWithin {A} text Spelled bytes = (a : A) × (more : List ℕ) × Spelled a × (0 < length more) × (text a ≡ bytes ++ more)

-- no spelling begins with the bytes, and they begin with none
abbrev pub BeginNone : {A : Type 0} → (A → List ℕ) → (A → Type 0) → List ℕ → Type 0
BeginNone {A} text Spelled bytes =
    (a : A) (more : List ℕ) → Spelled a → (text a ≡ bytes ++ more → ⊥) × (bytes ≡ text a ++ more → ⊥)

-- a value is found exactly where its spelling is in front, with what stands behind it; the bytes are cut exactly where
-- they end within a spelling; and misspelt exactly where none begins so
pub record FindsExactly {A : Type 0} (front : List ℕ → Parsed A) (text : A → List ℕ) (Spelled : A → Type 0) : Type 0
  where
    pub found : (a : A) (bytes rest : List ℕ) → (front bytes ≡ Found a rest) ↔ (Spelled a × (bytes ≡ text a ++ rest))
    pub cut : (bytes : List ℕ) → (front bytes ≡ Missing Cut) ↔ EndWithin text Spelled bytes
    pub misspelt : (bytes : List ℕ) → (front bytes ≡ Missing Misspelt) ↔ BeginNone text Spelled bytes
    -- and neither changes where more bytes follow
    pub found_longer : (a : A) (bytes rest more : List ℕ) → front bytes ≡ Found a rest
        → front (bytes ++ more) ≡ Found a (rest ++ more)
    pub misspelt_longer : (bytes more : List ℕ) → front bytes ≡ Missing Misspelt
        → front (bytes ++ more) ≡ Missing Misspelt
