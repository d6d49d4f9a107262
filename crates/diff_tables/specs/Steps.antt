-- One step of a closed table: what it keeps once a literal is added to it.
use Rattle.std.specs.Prelude.{take, ◌≡◌, ◌<◌, length, slice_index_or, ℕ, zero, suc, ◌≤◌, ◌==◌, ℤ, pos, neg_ℤ, ◌+ℤ◌}
use Rattle.std.specs.Prelude.{◌-ℤ◌, ◌≤ℤ◌, Bool, true, false, int_lt, int_le, List, [], ◌∷◌, ◌++◌, Option, Some, None}
use Rattle.std.specs.Prelude.{if◌then◌else◌}
use Rattle.std.specs.Option.{option_map_or}
use Rattle.diff_graph.specs.declared.lit.Lit.{Lit}
use Rattle.diff_tables.specs.declared.hop.Hop.{Hop}
use Rattle.diff_tables.specs.Tables.{kept_of}

-- the way from x along a chain to the literal's first name, and along the literal
abbrev pub way_of : ℕ → Lit → ℕ → Option Hop → Option Hop
way_of number l x None = None
way_of number l x (Some front) =
    Some (record {
      k = front.k +ℤ l.k;
      number = if x == l.x then number else front.number;
      second = if x == l.x then l.y else front.second;
    })

-- that way, gone on along a chain
abbrev pub joined : Option Hop → Option Hop → Option Hop
joined None rest = None
joined (Some way) None = None
joined (Some way) (Some rest) = Some (record way { k = way.k +ℤ rest.k })

-- what is kept of two: the new one only where it is strictly lower
abbrev pub lower_of : Option Hop → Option Hop → Option Hop
lower_of old None = old
lower_of None (Some new) = Some new
lower_of (Some old) (Some new) = if int_lt new.k old.k then Some new else Some old

-- the table once the literal is added under the number
abbrev pub added : (ℕ → ℕ → Option Hop) → ℕ → Lit → ℕ → ℕ → Option Hop
added t number l x y = lower_of (t x y) (joined (way_of number l x (t x l.x)) (t l.y y))

-- the literal closes no negative cycle: what is kept from its second name to its first leaves room
abbrev pub leaves_room : Option Hop → ℤ → Bool
leaves_room None k = true
leaves_room (Some back) k = int_le (pos 0) (back.k +ℤ k)

-- the offset that is kept already is no higher, so that the literal changes nothing
abbrev pub keeps : Option Hop → ℤ → Bool
keeps None k = false
keeps (Some hop) k = int_le hop.k k

-- an offset, if one is kept, lies within this distance of 0, so that sums of a few do not overflow
abbrev pub IsModest : ℕ → Option Hop → Type 0
IsModest size None = Unit {0}
IsModest size (Some h) = (neg_ℤ (pos size) ≤ℤ h.k) × (h.k ≤ℤ pos size)

-- what a new table keeps in the row of a name: the name itself
abbrev pub own_only : ℕ → ℕ → Option Hop
own_only own x = if x == own then Some (record { k = pos 0; number = 0; second = own }) else None

-- the row of a name in a table of n names to which nothing was added
abbrev pub IsNewRow : ℕ → ℕ → List (Option Hop) → Type 0
IsNewRow n own row = (length row ≡ n) × ((x : ℕ) → x < n → slice_index_or row x None ≡ own_only own x)

-- the rows of the first names of such a table
abbrev pub AreNewRows : ℕ → ℕ → List (List (Option Hop)) → Type 0
AreNewRows n count rows = (length rows ≡ count) × ((y : ℕ) → y < count → IsNewRow n y (slice_index_or rows y []))

-- each row is as long as there are rows
abbrev pub IsSquare : List (List (Option Hop)) → Type 0
IsSquare rows = (y : ℕ) → y < length rows → length (slice_index_or rows y []) ≡ length rows

-- no offset is further than 1,000,000 from 0
abbrev pub AreModest : List (List (Option Hop)) → Type 0
AreModest rows = (x y : ℕ) → IsModest 1000000 (kept_of rows x y)

-- a row is lowered by ways to a name, each gone on by what the row keeps from there
pub record IsLowered (ways : List (Option Hop)) (from : ℕ) (old new : List (Option Hop)) : Type 0 where
  pub len : length new ≡ length old
  pub at :
      (x : ℕ) → x < length old
      → slice_index_or new x None
      ≡ lower_of (slice_index_or old x None) (joined (slice_index_or ways x None) (slice_index_or old from None))

-- below a place each row is lowered, and from there on it is as it was
pub record AreLowered (ways : List (Option Hop)) (from : ℕ) (old new : List (List (Option Hop))) (place : ℕ) : Type 0
  where
    pub len : length new ≡ length old
    pub done : (y : ℕ) → y < place → IsLowered ways from (slice_index_or old y []) (slice_index_or new y [])
    pub left : (y : ℕ) → place ≤ y → slice_index_or new y [] ≡ slice_index_or old y []

-- the numbers of the literals on the chain from one name to another, where it has no more than is said
abbrev pub numbers_along : (ℕ → Option Hop) → ℕ → ℕ → ℕ → List ℕ
numbers_along hop_from zero x y = []
numbers_along hop_from (suc most) x y =
    if x == y then []
    else option_map_or (λ h. h.number ∷ numbers_along hop_from most h.second y) (hop_from x) []

-- some of the numbers, from the first on, were put at the end of a list
abbrev pub AppendsFirst : List ℕ → List ℕ → List ℕ → Type 0
AppendsFirst before numbers after = (n : ℕ) × (after ≡ before ++ take n numbers)

-- the least of 0 and the offsets to the first names
abbrev pub lower_by : ℤ → Option Hop → ℤ
lower_by low None = low
lower_by low (Some h) = if int_lt h.k low then h.k else low

abbrev pub low_of : (ℕ → Option Hop) → ℕ → ℤ
low_of row zero = pos 0
low_of row (suc n) = lower_by (low_of row n) (row n)

-- what the table gives as the value of a name: the negation of the least of 0 and the offsets to it
abbrev pub value_in : ℕ → (ℕ → ℕ → Option Hop) → ℕ → ℤ
value_in n t x = pos 0 -ℤ low_of (λ j. t j x) n

-- the literals before the one that was refused, or all
abbrev pub before_stop : Option ℕ → List Lit → List Lit
before_stop None ls = ls
before_stop (Some place) ls = take place ls
