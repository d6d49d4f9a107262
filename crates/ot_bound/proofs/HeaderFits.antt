-- How the first lines begin with some bytes, level by level.
use Rattle.std.proofs.Common.{◌≡◌, ℕ, ◌<◌, ◌≤◌, List, [], ◌∷◌, length, refl, arith}
use Rattle.fn_rules.specs.declared.function.Level.{Level}
use Rattle.fn_rules.specs.declared.function.Level.TheVariants.{Tp1, Tp2}
use Rattle.ot_sections.specs.declared.premise.TheConstants.{MAX_BOUND}
use Rattle.ot_bound.specs.declared.header.HeaderFit.{HeaderFit}
use Rattle.ot_bound.specs.declared.header.HeaderFit.TheVariants.{Whole, Front, Other}
use Rattle.ot_bound.specs.Headers.{BeginsOtherwise, FitsLevel, FitsLowHeader}

pub none_left : (xs : List ℕ) → length xs < 1 → xs ≡ []
none_left [] few = refl
none_left (x ∷ xs) few = absurd (omega arith)

-- where no line of the first level begins with the bytes, those of the second decide
pub by_second_level : (bytes : List ℕ) → FitsLevel Tp1 bytes Other → (fit : HeaderFit) → FitsLevel Tp2 bytes fit
    → FitsLowHeader bytes fit
by_second_level bytes none (Whole level bound) fits = fits
by_second_level bytes none Front fits = fits
by_second_level bytes none Other fits = at
  where
    at : (level : Level) (bound : ℕ) → bound ≤ MAX_BOUND → BeginsOtherwise bytes level bound
    at Tp1 = none
    at Tp2 = fits
