-- Parts of a line, one behind another.
use Rattle.std.proofs.Common.{◌≡◌, ◌++◌, ◌∷◌, [], List, ℕ, refl, ap, ◌∙◌}
use Rattle.std.proofs.lemmas.List.{append_assoc}

pub parts_joined : (out word at ch site : List ℕ)
    → out ++ word ++ (32 ∷ [] ++ at ++ 32 ∷ []) ++ ch ++ (32 ∷ [] ++ site)
    ≡ out ++ (word ++ 32 ∷ [] ++ at ++ 32 ∷ [] ++ ch ++ 32 ∷ [] ++ site)
parts_joined out word at ch site = simp (append_assoc) refl

-- a line of a number and a word that was told
pub line_joined : (front number word told : List ℕ) → told ≡ word
    → front ++ (number ++ 32 ∷ (told ++ 10 ∷ [])) ≡ front ++ number ++ 32 ∷ [] ++ word ++ 10 ∷ []
line_joined front number word told is =
    ap (λ (l : List ℕ). front ++ (number ++ 32 ∷ (l ++ 10 ∷ []))) is ∙ simp (append_assoc) refl
