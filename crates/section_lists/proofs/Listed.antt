-- The obligations of a list, one after another.
use Rattle.std.specs.List.{list_all}
use Rattle.std.specs.Prelude.{◌&&◌}
use Rattle.std.proofs.Common.{◌≡◌, ℕ, zero, suc, ◌+◌, ◌<◌, Bool, true, false, List, [], ◌∷◌, length, drop, get_or}
use Rattle.std.proofs.Common.{add-one, arith, refl, subst}
use Rattle.std.proofs.Math.Seq.{drop-cons}
use Rattle.fn_rules.specs.declared.function.ObName.{ObName}
use Rattle.cert_text.specs.Places.{PartPlace}
use Rattle.ot_sections.specs.Sections.{IsLineWith}

both_true : (a b : Bool) → (a && b) ≡ true → (a ≡ true) × (b ≡ true)
both_true true b both = (refl, both)
both_true false b both = absurd (cc)

-- where all pass a test, each does
pub all_at :
    (p : ObName → Bool) (names : List ObName) (i : ℕ) (d : ObName) → list_all p names ≡ true → i < length names
    → p (get_or names i d) ≡ true
all_at p [] i d all within = absurd (omega arith)
all_at p (name ∷ names) zero d all within = (both_true (p name) (list_all p names) all).0
all_at p (name ∷ names) (suc i) d all within =
    all_at p names i d (both_true (p name) (list_all p names) all).1 (omega arith)

cons_at : (names : List ObName) (i : ℕ) (d : ObName) → i < length names
    → drop i names ≡ get_or names i d ∷ drop (i + 1) names
cons_at names i d within = rw (add-one, drop-cons names i d)

pub line_at :
    (names : List ObName) (i : ℕ) (d : ObName) (place : PartPlace) → i < length names → IsLineWith (drop i names) place
    → IsLineWith (get_or names i d ∷ drop (i + 1) names) place
line_at names i d place within line = subst (λ (n : List ObName). IsLineWith n place) (cons_at names i d within) line
