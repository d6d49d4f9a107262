-- The open places of a plan that is being answered: the place of the open path, and the parts for no
-- that still wait, the innermost one first.
use Rattle.std.specs.Prelude.{ℕ, ◌<◌, List, [], ◌∷◌, ◌++◌, Option, Some, None, ⊤, map, reverse, take, true, false}
use Rattle.std.specs.List.{AllByRecursion}
use Rattle.diff_graph.specs.declared.lit.Lit.{Lit}
use Rattle.ask_core.specs.declared.path.Waiting.{Waiting}
use Rattle.ask_core.specs.Plans.{Plan, Holds}
use Rattle.ask_core.specs.Trees.{Branch, with_answer}

-- a node, and the answers that lead to it
pub record OpenPlace (N : Type 0) : Type 0 where
  pub node : N
  pub answers : List Lit

-- the branch that a place is, given what its node stands for
abbrev pub branch_at : {N W : Type 0} → (N → Plan W) → OpenPlace N → Branch W
branch_at plan p = record { plan = plan p.node; answers = p.answers }

abbrev pub branches_at : {N W : Type 0} → (N → Plan W) → List (OpenPlace N) → List (Branch W)
branches_at plan places = map (branch_at plan) places

-- the answers of the first place
abbrev pub first_answers : {N : Type 0} → List (OpenPlace N) → List Lit
first_answers [] = []
first_answers (p ∷ places) = p.answers

-- the plan at the first place. Where none is open nothing is left to show
abbrev pub first_plan : {N W : Type 0} → (N → Plan W) → List (OpenPlace N) → Plan W
first_plan plan [] = Holds
first_plan plan (p ∷ places) = plan p.node

-- the nodes of the places are the asker's own
abbrev pub AreOwn : {N : Type 0} → (N → Type 0) → List (OpenPlace N) → Type 0
AreOwn is_own places = AllByRecursion (λ p. is_own p.node) places

-- the places after the literal was asked at the first one
abbrev pub after_question : {N : Type 0} → Lit → N → N → List (OpenPlace N) → List (OpenPlace N)
after_question l on_yes on_no [] = []
after_question l on_yes on_no (p ∷ places) =
    record { node = on_yes; answers = with_answer p.answers l true }
    ∷ record { node = on_no; answers = with_answer p.answers l false }
    ∷ places

-- the place of a part that waits, of which the first answers are those of the open path
abbrev pub waiting_place : {N : Type 0} → List Lit → Waiting N → OpenPlace N
waiting_place w x = record { node = x.node; answers = take x.depth w ++ x.answer ∷ [] }

-- the places of a path, the parts that wait being listed with the innermost one last
abbrev pub places_of : {N : Type 0} → Option N → List Lit → List (Waiting N) → List (OpenPlace N)
places_of None w waiting = []
places_of (Some n) w waiting =
    record { node = n; answers = w } ∷ map (waiting_place w) (reverse waiting)

-- each part that waits shares fewer answers than the limit and than the one before it
abbrev pub IsNested : {N : Type 0} → ℕ → List (Waiting N) → Type 0
IsNested limit [] = ⊤
IsNested limit (x ∷ waiting) = (x.depth < limit) × IsNested x.depth waiting
