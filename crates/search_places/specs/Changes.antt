-- How the open places of a search and what is known of them change.
use Rattle.std.specs.Prelude.{◌≡◌, ℕ, Bool, true, false, List, ◌∷◌, length, drop, reverse, Option, Some, None}
use Rattle.diff_graph.specs.declared.lit.Lit.{Lit}
use Rattle.ask_core.specs.declared.tree.Tok.TheVariants as token
use Rattle.ask_core.specs.Paths.{OpenPlace, after_question, first_answers}
use Rattle.cert_text.specs.TreeTexts.{Written, with_token}
use Rattle.search_places.specs.declared.search.PlanSearch.{PlanSearch}
use Rattle.search_places.specs.declared.split.Room.{Room}
use Rattle.search_places.specs.declared.split.Room.TheVariants.{Both, OnlyYes, OnlyNo}
use Rattle.search_places.specs.Sides.{JudgesSides, cycles_of}

-- what is known of the open places of a search, the first one first
abbrev pub known_by : Bool → List (Option (List ℕ)) → List (Option (List ℕ))
known_by true cycles = None ∷ cycles
known_by false cycles = cycles

abbrev pub known_of : {N : Type 0} → PlanSearch N → List (Option (List ℕ))
known_of s = known_by s.possible s.cycles

-- behind a question the side for yes is next, or it is closed with a cycle; what is known of the others waits
abbrev pub GoesOnAfterQuestion :
    {N : Type 0} → Room → List ℕ → List (OpenPlace N) → List (Option (List ℕ)) → Written
    → List (OpenPlace N) → List (Option (List ℕ)) → Written → Type 0
GoesOnAfterQuestion Both numbers places cycles tree new_places new_cycles new_tree =
    (new_places ≡ places) × (new_cycles ≡ None ∷ cycles) × (new_tree ≡ tree)
GoesOnAfterQuestion OnlyYes numbers places cycles tree new_places new_cycles new_tree =
    (new_places ≡ places) × (new_cycles ≡ Some numbers ∷ cycles) × (new_tree ≡ tree)
GoesOnAfterQuestion OnlyNo numbers places cycles tree new_places new_cycles new_tree =
    (new_places ≡ drop 1 places) × (new_cycles ≡ cycles) × (new_tree ≡ with_token tree (token.Cycle numbers))

-- the literal is asked at the first place, and its sides are judged, of which some have room
abbrev pub HasAsked : {N : Type 0} → Room → Lit → N → N → PlanSearch N → PlanSearch N → Type 0
HasAsked room l on_yes on_no before after =
    (numbers : List ℕ)
    × JudgesSides l (length (first_answers before.path)) before.cycles (reverse before.tables.items)
    (cycles_of room numbers before.cycles) (reverse after.tables.items)
    × GoesOnAfterQuestion room numbers (after_question l on_yes on_no before.path) before.cycles
    (with_token before.tree token.Ask) after.path after.cycles after.tree

-- the first place had a cycle and is closed with it, or some integers meet its answers
abbrev pub HasClosed : {N : Type 0} → PlanSearch N → PlanSearch N → Bool → Type 0
HasClosed before after true =
    (picks : List ℕ) × (known_of before ≡ Some picks ∷ known_of after) × (after.path ≡ drop 1 before.path)
    × (after.tables.items ≡ before.tables.items) × (after.tree ≡ with_token before.tree (token.Cycle picks))
    × (after.asked ≡ before.asked)
HasClosed before after false =
    (after.possible ≡ true) × (known_of before ≡ known_of after) × (after.path ≡ before.path)
    × (after.tables.items ≡ before.tables.items) × (after.tree ≡ before.tree) × (after.asked ≡ before.asked)
