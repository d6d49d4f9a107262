-- Parts of texts, one after another.
use Rattle.std.proofs.Common.{◌≡◌, ℕ, zero, suc, ◌+◌, List, [], ◌∷◌, ◌++◌, append-nil, append_assoc, refl, ap, ◌∙◌, sym}
use Rattle.std.proofs.Common.{arith}
use Rattle.ot_model.specs.declared.cell.Cell.{Cell}
use Rattle.ot_steps.specs.ShortDocuments.{cells_text, one_cell_text}

-- one more of some equal cells
pub cells_text-more : (n : ℕ) (c : Cell) → cells_text (n + 1) c ≡ cells_text n c ++ one_cell_text c
cells_text-more zero c = append-nil (one_cell_text c)
cells_text-more (suc n) c =
    let later : suc n + 1 ≡ suc (n + 1) = omega arith in
    rw later (ap (λ (text : List ℕ). one_cell_text c ++ text) (cells_text-more n c)
    ∙ sym (append_assoc (one_cell_text c) (cells_text n c) (one_cell_text c)))

-- what two calls appended, and what three and more did
pub appended2 : (o p q a b : List ℕ) → p ≡ o ++ a → q ≡ p ++ b → q ≡ o ++ (a ++ b)
appended2 o p q a b first second = second ∙ ap (λ (l : List ℕ). l ++ b) first ∙ append_assoc o a b

pub appended3 : (o p q r a b c : List ℕ) → p ≡ o ++ a → q ≡ p ++ b → r ≡ q ++ c → r ≡ o ++ (a ++ b ++ c)
appended3 o p q r a b c first second third = appended2 o q r (a ++ b) c (appended2 o p q a b first second) third

pub appended4 :
    (o p q r s a b c d : List ℕ) → p ≡ o ++ a → q ≡ p ++ b → r ≡ q ++ c → s ≡ r ++ d → s ≡ o ++ (a ++ b ++ c ++ d)
appended4 o p q r s a b c d first second third fourth =
    appended2 o r s (a ++ b ++ c) d (appended3 o p q r a b c first second third) fourth

pub appended5 :
    (o p q r s t a b c d e : List ℕ) → p ≡ o ++ a → q ≡ p ++ b → r ≡ q ++ c → s ≡ r ++ d → t ≡ s ++ e
    → t ≡ o ++ (a ++ b ++ c ++ d ++ e)
appended5 o p q r s t a b c d e first second third fourth fifth =
    appended2 o s t (a ++ b ++ c ++ d) e (appended4 o p q r s a b c d first second third fourth) fifth

pub appended6 :
    (o p q r s t u a b c d e f : List ℕ) → p ≡ o ++ a → q ≡ p ++ b → r ≡ q ++ c → s ≡ r ++ d → t ≡ s ++ e → u ≡ t ++ f
    → u ≡ o ++ (a ++ b ++ c ++ d ++ e ++ f)
appended6 o p q r s t u a b c d e f first second third fourth fifth sixth =
    appended2 o t u (a ++ b ++ c ++ d ++ e) f (appended5 o p q r s t a b c d e first second third fourth fifth) sixth

-- the parts of an operation with a character
pub parts_joined : (out word at ch : List ℕ)
    → out ++ word ++ (32 ∷ [] ++ at ++ 32 ∷ []) ++ ch ≡ out ++ (word ++ 32 ∷ [] ++ at ++ 32 ∷ [] ++ ch)
parts_joined out word at ch = simp (append_assoc) refl
