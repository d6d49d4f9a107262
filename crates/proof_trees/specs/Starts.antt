-- Plans that say at which of their places a start is. Where a start is, lemmas may be shown and cited.
use Rattle.std.specs.Prelude.{◌≡◌, ℕ, ℤ, List, Option, Some, None}
use Rattle.diff_graph.specs.declared.lit.Lit.{Lit}
use Rattle.diff_graph.specs.Literals.{AreMet}
use Rattle.ask_core.specs.Plans.{Plan, value}
use Rattle.ask_core.specs.Plans as plain

-- a plan, with the start at each of its places, if one is there
pub data MarkedPlan (S W : Type 0) : Type 0 where
  Ask : Option S → Lit → MarkedPlan S W → MarkedPlan S W → MarkedPlan S W
  Holds : Option S → MarkedPlan S W
  Fails : Option S → W → MarkedPlan S W

-- the plan without its starts
abbrev pub unmarked : {S W : Type 0} → MarkedPlan S W → Plan W
unmarked (Ask start l on_yes on_no) = plain.Ask l (unmarked on_yes) (unmarked on_no)
unmarked (Holds start) = plain.Holds
unmarked (Fails start why) = plain.Fails why

-- the start at the first place, if one is there
abbrev pub start_of : {S W : Type 0} → MarkedPlan S W → Option S
start_of (Ask start l on_yes on_no) = start
start_of (Holds start) = start
start_of (Fails start why) = start

-- the plan is the one that its start stands for
abbrev pub StartStandsFor : {S W : Type 0} → (S → Plan W) → Option S → Plan W → Type 0
StartStandsFor meaning None p = Unit {0}
StartStandsFor meaning (Some s) p = p ≡ meaning s

-- so is the plan at each of the places
abbrev pub IsMarkedBy : {S W : Type 0} → (S → Plan W) → MarkedPlan S W → Type 0
IsMarkedBy meaning (Ask start l on_yes on_no) =
    StartStandsFor meaning start (plain.Ask l (unmarked on_yes) (unmarked on_no))
    × IsMarkedBy meaning on_yes × IsMarkedBy meaning on_no
IsMarkedBy meaning (Holds start) = StartStandsFor meaning start plain.Holds
IsMarkedBy meaning (Fails start why) = StartStandsFor meaning start (plain.Fails why)

-- a comparison says of the start of a lemma and a start where it is cited under which conditions the lemma
-- serves there, or that they do not compare
abbrev pub Comparison : Type 0 → Type 0
Comparison S = S → S → Option (List Lit)

-- the conditions between two places, where a start is at both and the starts compare
abbrev pub conditions_between : {S : Type 0} → Comparison S → Option S → Option S → Option (List Lit)
conditions_between compare None here = None
conditions_between compare (Some s) None = None
conditions_between compare (Some s) (Some here) = compare s here

-- a valuation that meets the conditions gives both starts one value
abbrev pub IsLawful : {S W : Type 0} → Comparison S → (S → Plan W) → Type 0
IsLawful {S = S} compare meaning =
    (s here : S) (es : List Lit) (v : ℕ → ℤ) → compare s here ≡ Some es → AreMet v es
    → value (meaning s) v ≡ value (meaning here) v
