-- What it is to solve a list of literals: values that meet it, or a negative cycle.
use Rattle.std.specs.List.{AllByRecursion}
use Rattle.std.specs.Prelude.{◌≡◌, ℕ, ◌≤◌, ℤ, pos, Bool, true, false, List, length, slice_index_or, Ok, [], ◌∷◌, ◌+◌}
use Rattle.std.specs.Prelude.{neg_ℤ, ◌-ℤ◌, Some, None, Option, ◌<◌, ◌≤ℤ◌, ◌⊎◌}
use Rattle.diff_graph.specs.declared.lit.Lit.{Lit}
use Rattle.diff_graph.specs.declared.lit.TheConstants.{MAX_LITERAL_OFFSET}
use Rattle.diff_tables.specs.declared.hop.Hop.{Hop}
use Rattle.diff_tables.specs.declared.solved.Solved.{Solved}
use Rattle.diff_tables.specs.declared.solved.Solved.TheVariants.{Values, Cycle}
use Rattle.diff_graph.specs.Literals.{AreMet}
use Rattle.diff_graph.specs.Cycles.{pick_verdict}

-- values as a valuation, which is 0 at every other name
abbrev pub valuation_of : List ℤ → ℕ → ℤ
valuation_of values x = slice_index_or values x (pos 0)

-- a value for each of n names, 0 for name 0, at which the literals are true
abbrev pub AreSolution : ℕ → List Lit → List ℤ → Type 0
AreSolution n ls values = (length values ≡ n) × (valuation_of values 0 ≡ pos 0) × AreMet (valuation_of values) ls

-- such values, or a negative cycle of at most n picks
abbrev pub Solves : ℕ → List Lit → Solved → Type 0
Solves n ls (Values values) = AreSolution n ls values
Solves n ls (Cycle picks) = (pick_verdict ls picks ≡ Ok tt) × (length picks ≤ n)

abbrev pub is_cycle : Solved → Bool
is_cycle (Values values) = false
is_cycle (Cycle picks) = true

-- no integers meet the literals
abbrev pub IsUnsatisfiable : List Lit → Type 0
IsUnsatisfiable ls = ¬ ((v : ℕ → ℤ) × AreMet v ls)

-- the graph of the literals has a negative cycle
abbrev pub HasNegativeCycle : List Lit → Type 0
HasNegativeCycle ls = (picks : List ℕ) × (pick_verdict ls picks ≡ Ok tt)

-- each value is at least its floor
abbrev pub MeetsFloors : List ℤ → (ℕ → ℤ) → Type 0
MeetsFloors floors v = (x : ℕ) → x < length floors → valuation_of floors x ≤ℤ v x

-- some integers, with 0 for name 0, meet the literals and the floors
abbrev pub IsPossibleAbove : List ℤ → List Lit → Type 0
IsPossibleAbove floors ls = (v : ℕ → ℤ) × (v 0 ≡ pos 0) × AreMet v ls × MeetsFloors floors v

-- values, one for each floor, that meet the literals and the floors, with 0 at name 0, and are no
-- higher at any name than any integers that do so
pub record AreLeast (ls : List Lit) (floors : List ℤ) (values : List ℤ) : Type 0 where
  pub len : length values ≡ length floors
  pub zero_first : valuation_of values 0 ≡ pos 0
  pub met : AreMet (valuation_of values) ls
  pub above : MeetsFloors floors (valuation_of values)
  pub least : (v : ℕ → ℤ) → v 0 ≡ pos 0 → AreMet v ls → MeetsFloors floors v → (x : ℕ) → x < length floors
      → valuation_of values x ≤ℤ v x

-- each floor is as far from 0 as the offset of a literal that is asked
abbrev pub IsFloor : ℤ → Type 0
IsFloor f = (neg_ℤ MAX_LITERAL_OFFSET ≤ℤ f) × (f ≤ℤ MAX_LITERAL_OFFSET)

abbrev pub AreFloors : List ℤ → Type 0
AreFloors floors = AllByRecursion IsFloor floors

-- the floors as literals `0 <= x - floor`, from a name on
abbrev pub floors_from : ℕ → List ℤ → List Lit
floors_from x [] = []
floors_from x (f ∷ fs) = record { x = 0; y = x; k = pos 0 -ℤ f } ∷ floors_from (x + 1) fs

-- what the table gives as the least value of a name, by what it keeps from name 0 to it
abbrev pub least_of : Option Hop → ℤ
least_of None = pos 0
least_of (Some h) = pos 0 -ℤ h.k

-- the values that a table gives, of which none is lower at any name, with 0 at name 0
pub record AreLeastMeeting (n : ℕ) (ls : List Lit) (values : List ℤ) : Type 0 where
  pub len : length values ≡ n
  pub zero_first : valuation_of values 0 ≡ pos 0
  pub met : AreMet (valuation_of values) ls
  pub least : (v : ℕ → ℤ) → v 0 ≡ pos 0 → AreMet v ls → (x : ℕ) → x < n → valuation_of values x ≤ℤ v x

-- the literal stands in the list
abbrev pub HasLiteral : List Lit → Lit → Type 0
HasLiteral [] l = ⊥
HasLiteral (m ∷ ms) l = (m ≡ l) ⊎ HasLiteral ms l

-- each name has a literal that bounds it from name 0
abbrev pub IsBoundedBelow : ℕ → List Lit → Type 0
IsBoundedBelow n ls = (x : ℕ) → x < n → (k : ℤ) × HasLiteral ls (record { x = 0; y = x; k = k })
