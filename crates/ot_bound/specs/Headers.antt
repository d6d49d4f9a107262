-- How the first lines of low certificates begin with some bytes.
use Rattle.std.specs.Prelude.{◌≡◌, ℕ, ◌<◌, ◌≤◌, List, ◌++◌, length}
use Rattle.fn_rules.specs.declared.function.Level.{Level}
use Rattle.ot_sections.specs.declared.premise.TheConstants.{MAX_BOUND}
use Rattle.ot_bound.specs.declared.header.HeaderFit.{HeaderFit}
use Rattle.ot_bound.specs.declared.header.HeaderFit.TheVariants.{Whole, Front, Other}
use Rattle.ot_bound.specs.Lows.{low_header_text}

-- the line is the bytes, or has more behind them
abbrev pub IsHeader : List ℕ → Level → ℕ → Type 0
IsHeader bytes level bound = (bound ≤ MAX_BOUND) × (low_header_text level bound ≡ bytes)

abbrev pub IsLonger : List ℕ → Level → ℕ → Type 0
IsLonger bytes level bound = (more : List ℕ) × (0 < length more) × (low_header_text level bound ≡ bytes ++ more)

abbrev pub BeginsOtherwise : List ℕ → Level → ℕ → Type 0
BeginsOtherwise bytes level bound = (more : List ℕ) → low_header_text level bound ≡ bytes ++ more → ⊥

-- the bytes are a proper front of a line
abbrev pub IsFrontOfHeader : List ℕ → Type 0
IsFrontOfHeader bytes = (level : Level) × (bound : ℕ) × (bound ≤ MAX_BOUND) × IsLonger bytes level bound

-- how the line of a level and a bound begins with the bytes
abbrev pub FitsBound : Level → ℕ → List ℕ → HeaderFit → Type 0
FitsBound level bound bytes (Whole l b) = (l ≡ level) × (b ≡ bound) × (low_header_text level bound ≡ bytes)
FitsBound level bound bytes Front = IsLonger bytes level bound
FitsBound level bound bytes Other = BeginsOtherwise bytes level bound

-- how the lines of a level begin with them
abbrev pub FitsLevel : Level → List ℕ → HeaderFit → Type 0
FitsLevel level bytes (Whole l b) = IsHeader bytes l b
FitsLevel level bytes Front = IsFrontOfHeader bytes
FitsLevel level bytes Other = (bound : ℕ) → bound ≤ MAX_BOUND → BeginsOtherwise bytes level bound

-- how all of them do
abbrev pub FitsLowHeader : List ℕ → HeaderFit → Type 0
FitsLowHeader bytes (Whole level bound) = IsHeader bytes level bound
FitsLowHeader bytes Front = IsFrontOfHeader bytes
FitsLowHeader bytes Other = (level : Level) (bound : ℕ) → bound ≤ MAX_BOUND → BeginsOtherwise bytes level bound
