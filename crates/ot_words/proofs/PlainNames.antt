-- Two file names that do not begin with `-` are taken, whatever they are.
use Rattle.std.proofs.Common.{◌≡◌, ◌==◌, ◌&&◌, ℕ, List, [], ◌∷◌, Some, Bool, true, false, refl}
use Rattle.std.specs.Prelude.{nat_eq}
use Rattle.std.specs.Cmp.Lexicographic.{pointwise}
use Rattle.clap.proofs.OnLiterals.{clap_on_literals}
use Rattle.clap_words.specs.Found.{found_by}
use Rattle.ot_words.specs.Words.{names_by}

abbrev pub begins_with_dash : List ℕ → Bool
begins_with_dash [] = false
begins_with_dash (b ∷ bs) = b == 45

-- behind a first byte that is no dash, a word is not `--`
no_dashes : (bs : List ℕ) → (false && pointwise nat_eq bs (45 ∷ [])) ≡ false
no_dashes bs = go (pointwise nat_eq bs (45 ∷ []))
  where
    go : (test : Bool) → (false && test) ≡ false
    go true = refl
    go false = refl

plain_names :
    (name f c : List ℕ) → begins_with_dash f ≡ false → begins_with_dash c ≡ false
    → names_by name (f ∷ c ∷ []) ≡ Some (f, c)
unfolding clap_on_literals names_by found_by
plain_names name [] [] e h = refl
plain_names name [] (d ∷ ds) e h = let dash : (d == 45) ≡ false = h in simp (dash, no_dashes ds) refl
plain_names name (b ∷ bs) [] e h = let dash : (b == 45) ≡ false = e in simp (dash, no_dashes bs) refl
plain_names name (b ∷ bs) (d ∷ ds) e h =
    let first : (b == 45) ≡ false = e in let second : (d == 45) ≡ false = h in simp (first, second, no_dashes bs) refl
