-- Literals over integers with names, and what they mean at a valuation.
use Rattle.std.specs.Prelude.{◌≡◌, ℕ, ℤ, pos, negsuc, ◌+ℤ◌, ◌-ℤ◌, ◌≤ℤ◌, Bool, true, false, List, int_le}
use Rattle.std.specs.List.{AllByRecursion}
use Rattle.diff_graph.specs.declared.lit.Lit.{Lit}

-- the literal `x <= y + k` is true at the valuation
abbrev pub Meets : (ℕ → ℤ) → Lit → Type 0
Meets v l = v l.x ≤ℤ (v l.y +ℤ l.k)

-- the same as a test
abbrev pub is_met : (ℕ → ℤ) → Lit → Bool
is_met v l = int_le (v l.x) (v l.y +ℤ l.k)

-- each literal of the list is true at the valuation
abbrev pub AreMet : (ℕ → ℤ) → List Lit → Type 0
AreMet v ls = AllByRecursion (λ l. Meets v l) ls

-- some integers, with 0 for name 0, meet the literals
abbrev pub IsPossible : List Lit → Type 0
IsPossible ls = (v : ℕ → ℤ) × (v 0 ≡ pos 0) × AreMet v ls

-- the literal that is true exactly where `x <= y + k` is false: `y <= x - k - 1`
abbrev pub negated : Lit → Lit
negated l = record { x = l.y; y = l.x; k = negsuc 0 -ℤ l.k }

-- the literal that an answer stands for
abbrev pub answered_of : Lit → Bool → Lit
answered_of l true = l
answered_of l false = negated l
