-- What a table of distances in arrays keeps, and what is read from it.
use Rattle.std.specs.Prelude.{◌≡◌, ℕ, ◌<◌, ◌≤◌, ℤ, ◌+ℤ◌, ◌≤ℤ◌, Bool, List, length, slice_index_or, Option, Some, None}
use Rattle.std.specs.Prelude.{int_lt, if◌then◌else◌}
use Rattle.diff_graph.specs.declared.lit.Lit.{Lit}
use Rattle.diff_tables.specs.declared.hop.Hop.{Hop}
use Rattle.diff_tables.specs.Tables.{Numbered, literals_of, kept_of, StandsFor, Follows}
use Rattle.diff_graph.specs.Limits.{AreSmall}
use Rattle.diff_tables.specs.Steps.{leaves_room, IsSquare}

-- the rows of a table: the row of y has what is kept for each name x and y
abbrev pub Rows : Type 0
Rows = List (List (Option Hop))

-- rows for n names, at most 16, which stand for some list of numbered literals with small offsets
pub record AreBounds (n : ℕ) (rows : Rows) : Type 0 where
  pub few : n ≤ 16
  pub len : length rows ≡ n
  pub square : IsSquare rows
  pub list : List Numbered
  pub stands : StandsFor n (kept_of rows) list
  pub small : AreSmall (literals_of list)

-- the literal leaves room for what the table keeps from its second name to its first
abbrev pub has_room : (ℕ → ℕ → Option Hop) → Lit → Bool
has_room t l = leaves_room (t l.y l.x) l.k

-- a way that is gone on by a rest is no lower than what is kept
abbrev pub IsNoLower : Option Hop → Option Hop → Option Hop → Type 0
IsNoLower None rest kept = Unit {0}
IsNoLower (Some way) None kept = Unit {0}
IsNoLower (Some way) (Some rest) None = ⊥
IsNoLower (Some way) (Some rest) (Some kept) = kept.k ≤ℤ (way.k +ℤ rest.k)

-- where the way of the first name goes on no lower than what its row keeps, none does
abbrev pub IsLed : List (Option Hop) → ℕ → ℕ → List (Option Hop) → Type 0
IsLed ways first from row =
    IsNoLower (slice_index_or ways first None) (slice_index_or row from None) (slice_index_or row first None)
    → (x : ℕ) → x < length row → IsNoLower (slice_index_or ways x None) (slice_index_or row from None)
    (slice_index_or row x None)

-- the way, where it is lower than what is kept
abbrev pub lower_way : Option Hop → Option Hop → Option Hop
lower_way kept None = None
lower_way None (Some way) = Some way
lower_way (Some kept) (Some way) = if int_lt way.k kept.k then Some way else None

-- the least offset for which `x <= y + k` follows from the list, or none where none follows
abbrev pub IsTightest : List Lit → ℕ → ℕ → Option ℤ → Type 0
IsTightest ls x y None = (k : ℤ) → ¬ Follows ls x y k
IsTightest ls x y (Some k) = Follows ls x y k × ((j : ℤ) → Follows ls x y j → k ≤ℤ j)
