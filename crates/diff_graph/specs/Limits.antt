-- The names and offsets that literals may have.
use Rattle.std.specs.Prelude.{ℕ, ◌<◌, ℤ, pos, negsuc, ◌+ℤ◌, ◌-ℤ◌, ◌≤ℤ◌, List}
use Rattle.std.specs.List.{AllByRecursion}
use Rattle.diff_graph.specs.declared.lit.Lit.{Lit}
use Rattle.diff_graph.specs.declared.lit.TheConstants.{MAX_LITERAL_OFFSET}

-- both names are below the number of names
abbrev pub IsNamed : ℕ → Lit → Type 0
IsNamed n l = (l.x < n) × (l.y < n)

abbrev pub AreNamed : ℕ → List Lit → Type 0
AreNamed n ls = AllByRecursion (λ l. IsNamed n l) ls

-- an offset of a literal that is asked, or of the negation of one
abbrev pub IsSmallOffset : ℤ → Type 0
IsSmallOffset k = ((negsuc 0 -ℤ MAX_LITERAL_OFFSET) ≤ℤ k) × (k ≤ℤ (MAX_LITERAL_OFFSET +ℤ pos 1))

abbrev pub IsSmall : Lit → Type 0
IsSmall l = IsSmallOffset l.k

abbrev pub AreSmall : List Lit → Type 0
AreSmall ls = AllByRecursion (λ l. IsSmall l) ls
