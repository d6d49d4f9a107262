-- Texts that are written piece by piece.
use Rattle.std.proofs.Common.{ℕ, List, [], ◌++◌, sym, ap, ◌∙◌, append_assoc, append-nil}
use Rattle.proof_writer.specs.Texts.{ExtendsText}

-- nothing is written
pub ExtendsText-refl : (text : List ℕ) → ExtendsText text text
ExtendsText-refl text = ([], sym (append-nil text))

-- one piece after another
pub ExtendsText-trans : (first then last : List ℕ) → ExtendsText first then → ExtendsText
    then last → ExtendsText first last
ExtendsText-trans first then last one two = (
  one.0 ++ two.0,
  two.1 ∙ ap (λ (text : List ℕ). text ++ two.0) one.1 ∙ append_assoc first one.0 two.0,
)
