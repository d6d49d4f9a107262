-- What is known of the open places of a search, the first place first: a negative cycle of its answers, or
-- else a table that stands for them.
use Rattle.std.specs.Prelude.{◌≡◌, ℕ, ◌-◌, neg_ℤ, ◌≤ℤ◌, Bool, true, false, List, [], ◌∷◌, ◌++◌, length}
use Rattle.std.specs.Prelude.{slice_index_or, slice_set, Option, Some, None}
use Rattle.diff_graph.specs.declared.lit.Lit.{Lit}
use Rattle.diff_graph.specs.declared.lit.TheConstants.{MAX_LITERAL_OFFSET}
use Rattle.diff_tables.specs.declared.hop.Hop.{Hop}
use Rattle.diff_graph.specs.Literals.{answered_of}
use Rattle.diff_tables.specs.Steps.{numbers_along}
use Rattle.diff_tables.specs.Tables.{Numbered, StandsFor, IsCycleOf, kept_of, numbered_from}
use Rattle.diff_bounds.specs.Kept.{Rows, has_room}
use Rattle.ask_core.specs.Trees.{IsCycleAmong, with_answer}
use Rattle.ask_core.specs.declared.asker.TheConstants.{MAX_NAMES}
use Rattle.search_places.specs.declared.split.Room.{Room}
use Rattle.search_places.specs.declared.split.Room.TheVariants.{Both, OnlyYes, OnlyNo}

-- the table stands for the answers, each under its place
abbrev pub IsTableOf : List Lit → Rows → Type 0
IsTableOf w rows = StandsFor MAX_NAMES (kept_of rows) (numbered_from 0 w)

-- the table stands for some list
abbrev pub StandsForSome : ℕ → Rows → Type 0
StandsForSome n rows = (ps : List Numbered) × StandsFor n (kept_of rows) ps

-- the offset is one that may be asked
abbrev pub IsAsked : Lit → Type 0
IsAsked l = (neg_ℤ MAX_LITERAL_OFFSET ≤ℤ l.k) × (l.k ≤ℤ MAX_LITERAL_OFFSET)

-- for the answers of each place, a cycle among them or, where there is none, the next of the tables
abbrev pub AreJudged : List (List Lit) → List (Option (List ℕ)) → List Rows → Type 0
AreJudged [] cycles tables = Unit {0}
AreJudged (w ∷ ws) [] tables = ⊥
AreJudged (w ∷ ws) (Some picks ∷ cycles) tables = IsCycleAmong w picks × AreJudged ws cycles tables
AreJudged (w ∷ ws) (None ∷ cycles) [] = ⊥
AreJudged (w ∷ ws) (None ∷ cycles) (rows ∷ tables) = IsTableOf w rows × AreJudged ws cycles tables

-- the table of the first place, which is the last one
abbrev pub last_rows : List Rows → Rows
last_rows tables = slice_index_or tables (length tables - 1) []

-- with the literal under the number, the picks are a negative cycle of each list that the table stands for
abbrev pub ClosesCycle : (ℕ → ℕ → Option Hop) → ℕ → Lit → List ℕ → Type 0
ClosesCycle t number l picks =
    (ps : List Numbered) → StandsFor MAX_NAMES t ps
    → IsCycleOf MAX_NAMES (ps ++ record { number = number; lit = l } ∷ []) picks

-- a table stands for so many answers, and the new one for these with one more
abbrev pub AddsAnswer : ℕ → Lit → Bool → Rows → Rows → Type 0
AddsAnswer number l said before after =
    (w : List Lit) → length w ≡ number → IsTableOf w before → IsTableOf (with_answer w l said) after

-- the numbers of the cycle that the literal closes under a number, by the table
abbrev pub cycle_along : Rows → ℕ → Lit → List ℕ
cycle_along rows number l = number ∷ numbers_along (λ x. kept_of rows x l.x) MAX_NAMES l.y l.x

-- the table has room for both sides, or it stands for the answers with the side that is named and has no room for the
-- other one; where that is yes, it closes the cycle along the table
abbrev pub HasRoomForSides : Rows → ℕ → Lit → Room → Type 0
HasRoomForSides rows number l Both =
    (has_room (kept_of rows) (answered_of l true) ≡ true) × (has_room (kept_of rows) (answered_of l false) ≡ true)
HasRoomForSides rows number l OnlyYes =
    AddsAnswer number l true rows rows × (has_room (kept_of rows) (answered_of l false) ≡ false)
HasRoomForSides rows number l OnlyNo =
    AddsAnswer number l false rows rows
    × ClosesCycle (kept_of rows) number (answered_of l true) (cycle_along rows number l)

-- what is known of the two sides, that of yes first, and then of other places
abbrev pub cycles_of : Room → List ℕ → List (Option (List ℕ)) → List (Option (List ℕ))
cycles_of Both numbers cycles = None ∷ None ∷ cycles
cycles_of OnlyYes numbers cycles = None ∷ Some numbers ∷ cycles
cycles_of OnlyNo numbers cycles = Some numbers ∷ None ∷ cycles

-- the last table is now that for no, and the one for yes stands behind it
abbrev pub HasSplit : ℕ → Lit → List Rows → List Rows → Type 0
HasSplit number l before after =
    (of_yes of_no : Rows) × AddsAnswer number l true (last_rows before) of_yes
    × AddsAnswer number l false (last_rows before) of_no
    × (after ≡ slice_set before (length before - 1) of_no ++ of_yes ∷ [])

-- each side that there is room for has a table: two where both have room, and else the last one as it was
abbrev pub HasSides : ℕ → Lit → List Rows → List Rows → Room → Type 0
HasSides number l before after Both = HasSplit number l before after
HasSides number l before after OnlyYes =
    (after ≡ before) × HasRoomForSides (last_rows before) number l OnlyYes
HasSides number l before after OnlyNo =
    (after ≡ before) × HasRoomForSides (last_rows before) number l OnlyNo

-- where a place with so many answers has the first table, both its sides are judged after the question
abbrev pub JudgesSides :
    Lit → ℕ → List (Option (List ℕ)) → List Rows → List (Option (List ℕ)) → List Rows → Type 0
JudgesSides l number cycles tables new_cycles new_tables =
    (w : List Lit) (ws : List (List Lit)) → length w ≡ number → AreJudged (w ∷ ws) (None ∷ cycles) tables
    → AreJudged (with_answer w l true ∷ with_answer w l false ∷ ws) new_cycles new_tables
