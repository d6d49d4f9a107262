-- The obligations of a list, one after another.
use Rattle.std.specs.List.{list_all}
use Rattle.std.proofs.Common.{◌≡◌, Bool, true, List, ◌∷◌, subst}
use Rattle.std.proofs.lemmas.Bool.{and_parts}
use Rattle.fn_rules.specs.declared.function.ObName.{ObName}

-- where all pass a test, the first does, and so do all others
pub all_split :
    (p : ObName → Bool) (names : List ObName) (name : ObName) (others : List ObName) → names ≡ name ∷ others
    → list_all p names ≡ true → (p name ≡ true) × (list_all p others ≡ true)
all_split p names name others are all =
    and_parts (p name) (list_all p others) (subst (λ (n : List ObName). list_all p n ≡ true) are all)
