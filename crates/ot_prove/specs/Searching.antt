-- How far a search of a plan has come: the open branches, the tokens written and the questions asked.
use Rattle.std.specs.Prelude.{◌≡◌, ◌⊎◌, ℕ, true, false, ◌+◌, ◌<◌, ◌≤◌, List, [], ◌∷◌, ◌++◌, length, map}
use Rattle.std.specs.Prelude.{reverse, Option, Some, None, MatchOption}
use Rattle.std.specs.List.{AllByRecursion}
use Rattle.diff_graph.specs.declared.lit.Lit.{Lit}
use Rattle.diff_graph.specs.Literals.{answered_of}
use Rattle.ask_core.specs.declared.asker.TheConstants.{MAX_QUESTIONS}
use Rattle.ask_core.specs.declared.tree.Tok.{Tok}
use Rattle.ask_core.specs.Plans.{Plan, Ask, Holds, Fails}
use Rattle.ask_core.specs.Askers.{SamePlans, longest_path}
use Rattle.ask_core.specs.Trees.{AnswerTree, Fits, tokens_of, Branch}
use Rattle.ask_core.specs.Questions.{Questions, QuestionList, no_questions}
use Rattle.ask_core.specs.Paths.{OpenPlace, AreOwn, branches_at, first_answers}
use Rattle.ot_prove.specs.Outcomes.{asked_along, Decides}
use Rattle.ot_prove.specs.declared.outcome.Outcome.{Outcome}
use Rattle.ot_prove.specs.declared.outcome.Outcome.TheVariants as outcome
use Rattle.search_places.specs.declared.search.PlanSearch.{PlanSearch}
use Rattle.search_places.specs.Changes.{known_of}
use Rattle.ot_prove.specs.declared.passing.Passing.{Passing}
use Rattle.ot_prove.specs.declared.search.Stepped.{Stepped}
use Rattle.ot_prove.specs.declared.search.Stepped.TheVariants as step
use Rattle.diff_bounds.specs.Kept.{Rows}
use Rattle.search_places.specs.Sides.{AreJudged}

-- how many questions and ends a plan has
abbrev pub plan_weight : {W : Type 0} → Plan W → ℕ
plan_weight (Ask l on_yes on_no) = 1 + (plan_weight on_yes + plan_weight on_no)
plan_weight Holds = 1
plan_weight (Fails why) = 1

abbrev pub weight_of : {W : Type 0} → List (Branch W) → ℕ
weight_of [] = 0
weight_of (b ∷ branches) = plan_weight b.plan + weight_of branches

-- the questions of one plan and then those of others
abbrev pub joined_questions : {W : Type 0} → Questions W → Questions W → Questions W
joined_questions y n = record { asked = y.asked ++ n.asked; failing = n.failing }

-- `q` is the question lists of the branches one after another, up to the first failing end
abbrev pub Listed : {W : Type 0} → List (Branch W) → Questions W → Type 0
Listed [] q = q ≡ no_questions
Listed {W = W} (b ∷ branches) q =
    (y : Questions W) × QuestionList b.plan b.answers y
    × MatchOption y.failing ((n : Questions W) × Listed branches n × (q ≡ joined_questions y n)) (λ _. q ≡ y)

-- the tokens are, in order, one fitting tree for each branch, and nothing else; `asked` are the answers in
-- front of their questions
abbrev pub Answered : {W : Type 0} → List Tok → List (List Lit) → List (Branch W) → Type 0
Answered tokens asked [] = (tokens ≡ []) × (asked ≡ [])
Answered tokens asked (b ∷ branches) =
    (t : AnswerTree) × (rest : List Tok) × (later : List (List Lit)) × Fits t b.plan b.answers
    × (tokens ≡ tokens_of t ++ rest) × (asked ≡ asked_along t b.plan b.answers ++ later)
    × Answered rest later branches

-- the plan, still to be answered
abbrev pub whole : {W : Type 0} → Plan W → List (Branch W)
whole p = record { plan = p; answers = [] } ∷ []

-- what answers the open branches answers the plan, behind the tokens and the questions so far, and the
-- plan's questions are those so far and then those of the open branches
pub record HasCome {W : Type 0} (root : Plan W) (tokens : List Tok) (asked : List (List Lit))
    (open_ones : List (Branch W)) : Type 0 where
  pub trees :
      (rest : List Tok) (later : List (List Lit)) → Answered rest later open_ones
      → Answered (tokens ++ rest) (asked ++ later) (whole root)
  pub lists :
      (q : Questions W) → QuestionList root [] q
      → (later : Questions W) × Listed open_ones later
      × (q ≡ joined_questions (record { asked = asked; failing = later.failing }) later)

-- the answers of each place
abbrev pub answers_at : {N : Type 0} → List (OpenPlace N) → List (List Lit)
answers_at places = map (λ p. p.answers) places

-- the literals stand for answers that lead from a plan to another
abbrev pub LeadsTo : {W : Type 0} → Plan W → List Lit → Plan W → Type 0
LeadsTo p [] end = p ≡ end
LeadsTo (Ask l on_yes on_no) (m ∷ w) end =
    ((m ≡ answered_of l true) × LeadsTo on_yes w end) ⊎ ((m ≡ answered_of l false) × LeadsTo on_no w end)
LeadsTo Holds (m ∷ w) end = ⊥
LeadsTo (Fails why) (m ∷ w) end = ⊥

-- its answers lead to the plan of each branch
abbrev pub AreReached : {W : Type 0} → Plan W → List (Branch W) → Type 0
AreReached root branches = AllByRecursion (λ b. LeadsTo root b.answers b.plan) branches

-- the branch's answers and the questions of its plan keep the limit of a path
abbrev pub IsShortBranch : {W : Type 0} → Branch W → Type 0
IsShortBranch b = length b.answers + longest_path b.plan ≤ MAX_QUESTIONS

abbrev pub AreShortBranches : {W : Type 0} → List (Branch W) → Type 0
AreShortBranches branches = AllByRecursion IsShortBranch branches

-- a search of the asker's plan under way: its open places, what is known of each, the tree so far and how
-- many questions it has
pub record IsSearching {N W : Type 0} (is_own : N → Type 0) (plan : N → Plan W) (root : Plan W) (budget : ℕ)
    (places : List (OpenPlace N)) (cycles : List (Option (List ℕ))) (tables : List Rows) (tree : List Tok) (asked : ℕ) :
    Type 0 where
  pub own : AreOwn is_own places
  pub short : AreShortBranches (branches_at plan places)
  pub reached : AreReached root (branches_at plan places)
  pub judged : AreJudged (answers_at places) cycles tables
  pub so_far : List (List Lit)
  pub come : HasCome root tree so_far (branches_at plan places)
  pub count : asked ≡ length so_far
  pub within : asked ≤ budget

-- the same of a search, whose last table is that of the first place that some integers meet
abbrev pub IsSearchUnderWay : {N W : Type 0} → (N → Type 0) → (N → Plan W) → Plan W → ℕ → PlanSearch N → Type 0
IsSearchUnderWay is_own plan root budget s =
    IsSearching is_own plan root budget s.path (known_of s) (reverse s.tables.items) s.tree.tokens s.asked

-- the outcome is that of every question list that the plan may have
abbrev pub AgreesWithLists : {W : Type 0} → Plan W → ℕ → Outcome W → Type 0
AgreesWithLists {W = W} p budget o = (q : Questions W) → QuestionList p [] q → Decides p budget q o

-- some answers lead to a failing end, and each question list of the plan ends there and is within the budget
pub record FailsFirst {W : Type 0} (root : Plan W) (budget : ℕ) (answers : List Lit) (why : W) : Type 0 where
  pub leads : LeadsTo root answers (Fails why)
  pub lists :
      (q : Questions W) → QuestionList root [] q
      → (length q.asked ≤ budget) × (q.failing ≡ Some (record { answers = answers; why = why }))

-- a step leaves a search under way; or the budget is spent, or the first place is the first failing end
abbrev pub IsUnderWayOr : {N W : Type 0} → (N → Type 0) → (N → Plan W) → Plan W → ℕ → PlanSearch N → Stepped W → Type 0
IsUnderWayOr is_own plan root budget s step.GoesOn = IsSearchUnderWay is_own plan root budget s
IsUnderWayOr is_own plan root budget s step.Spent = AgreesWithLists root budget outcome.Spent
IsUnderWayOr is_own plan root budget s (step.Fails why) =
    (0 < length s.path) × FailsFirst root budget (first_answers s.path) why

-- the search has ended so: no place is open, or the budget is spent, or the first place is the first failing end
abbrev pub HasEnded : {N W : Type 0} → Plan W → ℕ → PlanSearch N → Stepped W → Type 0
HasEnded root budget s step.GoesOn = AgreesWithLists root budget (outcome.Yes s.tree s.asked)
HasEnded root budget s step.Spent = AgreesWithLists root budget outcome.Spent
HasEnded root budget s (step.Fails why) = (0 < length s.path) × FailsFirst root budget (first_answers s.path) why

-- where it leaves a search, the branches that are open weigh less than before
abbrev pub WeighsLess : {W : Type 0} → List (Branch W) → List (Branch W) → Stepped W → Type 0
WeighsLess before after step.GoesOn = weight_of after < weight_of before
WeighsLess before after step.Spent = Unit {0}
WeighsLess before after (step.Fails why) = Unit {0}

-- questions at hand were passed: the search goes on from its old places to new ones that weigh no more, and nothing was
-- written in front of the tree
pub record HasPassed {N W : Type 0} (is_own : N → Type 0) (plan : N → Plan W) (root : Plan W) (budget : ℕ)
    (tables : List Rows) (old new : Passing N) : Type 0 where
  pub opened : 0 < length new.path
  pub searching :
      (cycles : List (Option (List ℕ)))
      → IsSearching is_own plan root budget old.path (None ∷ cycles) (reverse tables) old.tree.tokens old.asked
      → IsSearching is_own plan root budget new.path (None ∷ cycles) (reverse tables) new.tree.tokens new.asked
  pub falls : weight_of (branches_at plan new.path) ≤ weight_of (branches_at plan old.path)
  pub front : new.tree.front ≡ old.tree.front

-- an asker is as it was
pub record IsAsBefore {N W : Type 0} (was_own is_own : N → Type 0) (was_plan plan : N → Plan W) (was_root root : Plan W)
    (was_count count : ℕ) : Type 0 where
  pub same : SamePlans was_own is_own was_plan plan
  pub root_kept : root ≡ was_root
  pub count_kept : count ≡ was_count
