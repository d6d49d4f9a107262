-- Tables of distances: for each ordered pair of names the least offset that follows from a list of
-- literals, with the first literal of a chain that shows it.
use Rattle.std.specs.Prelude.{◌≡◌, ◌≢◌, ◌↔◌, ◌⊎◌, ℕ, zero, suc, ◌+◌, ◌<◌, ◌≤◌, ℤ, pos, ◌+ℤ◌, ◌-ℤ◌, ◌≤ℤ◌, List}
use Rattle.std.specs.Prelude.{[], ◌∷◌, map, slice_index_or, length, Option, Some, None, Ok}
use Rattle.diff_graph.specs.declared.lit.Lit.{Lit}
use Rattle.diff_graph.specs.Limits.{AreNamed}
use Rattle.diff_tables.specs.declared.hop.Hop.{Hop}
use Rattle.diff_graph.specs.Literals.{Meets, AreMet}
use Rattle.diff_graph.specs.Cycles.{cycle_verdict}

-- a literal with the number that it was added under
pub record Numbered : Type 0 where
  pub number : ℕ
  pub lit : Lit

-- the literals without their numbers
abbrev pub literals_of : List Numbered → List Lit
literals_of ps = map (λ p. p.lit) ps

-- a literal stands in the list under the number
abbrev pub IsAmong : List Numbered → ℕ → Lit → Type 0
IsAmong [] number l = ⊥
IsAmong (p ∷ ps) number l = ((p.number ≡ number) × (p.lit ≡ l)) ⊎ IsAmong ps number l

-- the table that rows keep: the row of y has what is kept for each name x and y
abbrev pub kept_of : List (List (Option Hop)) → ℕ → ℕ → Option Hop
kept_of rows x y = slice_index_or (slice_index_or rows y []) x None

-- an offset is kept, and it is at most k
abbrev pub IsAtMost : Option Hop → ℤ → Type 0
IsAtMost None k = ⊥
IsAtMost (Some h) k = h.k ≤ℤ k

-- `x <= y + k` follows from the list: each valuation that meets the list meets it
abbrev pub Follows : List Lit → ℕ → ℕ → ℤ → Type 0
Follows ls x y k = (v : ℕ → ℤ) → AreMet v ls → v x ≤ℤ (v y +ℤ k)

-- the hops lead from x to y, by as many literals of the list as is said, whose offsets sum to k
abbrev pub Leads : (ℕ → ℕ → Option Hop) → List Numbered → ℕ → ℕ → ℕ → ℤ → Type 0
Leads t ps zero x y k = (x ≡ y) × (k ≡ pos 0)
Leads t ps (suc count) x y k =
    (x ≢ y) × ((h : Hop) × (t x y ≡ Some h) × (h.k ≡ k)
    × ((l : Lit) × IsAmong ps h.number l × (l.x ≡ x) × (l.y ≡ h.second)
    × Leads t ps count h.second y (k -ℤ l.k)))

-- the table of n names keeps what follows from the list
pub record StandsFor (n : ℕ) (t : ℕ → ℕ → Option Hop) (ps : List Numbered) : Type 0 where
  pub named : AreNamed n (literals_of ps)
  pub possible : (v : ℕ → ℤ) × AreMet v (literals_of ps)
  pub tight : (x y : ℕ) → x < n → y < n → (k : ℤ) → IsAtMost (t x y) k ↔ Follows (literals_of ps) x y k
  pub own : (x : ℕ) → x < n → (h : Hop) × (t x x ≡ Some h) × (h.k ≡ pos 0)
  pub inside : (x y : ℕ) (h : Hop) → t x y ≡ Some h → (x < n) × (y < n)
  pub chains : (x y : ℕ) (h : Hop) → t x y ≡ Some h → (count : ℕ) × Leads t ps count x y h.k

-- the literal can be added: some integers meet it and the list
abbrev pub IsPossibleWith : List Lit → Lit → Type 0
IsPossibleWith ls l = (v : ℕ → ℤ) × (AreMet v ls × Meets v l)

-- the literals stand in the list under these numbers
abbrev pub AreAmong : List Numbered → List ℕ → List Lit → Type 0
AreAmong ps [] [] = Unit {0}
AreAmong ps [] (l ∷ ls) = ⊥
AreAmong ps (number ∷ numbers) [] = ⊥
AreAmong ps (number ∷ numbers) (l ∷ ls) = IsAmong ps number l × AreAmong ps numbers ls

-- the numbers, at most n of them, name a negative cycle of literals of the list
pub record IsCycleOf (n : ℕ) (ps : List Numbered) (numbers : List ℕ) : Type 0 where
  pub literals : List Lit
  pub named : AreAmong ps numbers literals
  pub negative : cycle_verdict literals ≡ Ok tt
  pub few : length numbers ≤ n

-- the literals of a list under their places, the first place being given
abbrev pub numbered_from : ℕ → List Lit → List Numbered
numbered_from place [] = []
numbered_from place (l ∷ ls) = record { number = place; lit = l } ∷ numbered_from (place + 1) ls
