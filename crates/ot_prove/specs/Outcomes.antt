-- What the prover answers of a plan, by the question list of the plan.
use Rattle.std.specs.Prelude.{◌≡◌, ℕ, ℤ, ◌<◌, ◌≤◌, true, false, List, [], ◌∷◌, ◌++◌, length, map, Some, None}
use Rattle.std.specs.Prelude.{MatchOption}
use Rattle.std.specs.List.{AllByRecursion}
use Rattle.diff_graph.specs.declared.lit.Lit.{Lit}
use Rattle.diff_graph.specs.Literals.{answered_of, AreMet, IsPossible}
use Rattle.ask_core.specs.declared.tree.Tok.{Tok}
use Rattle.ask_core.specs.Plans.{Plan, Ask, Holds, Fails, after_answer, end_of, value}
use Rattle.ask_core.specs.Trees.{AnswerTree, Question, End, Impossible, Fits, tokens_of, with_answer}
use Rattle.ask_core.specs.Questions.{Questions, FailingEnd, QuestionList}
use Rattle.ot_prove.specs.declared.outcome.Answer.{Answer}
use Rattle.ot_prove.specs.declared.outcome.Outcome.{Outcome}
use Rattle.ot_prove.specs.declared.outcome.Outcome.TheVariants.{Yes, No, Spent}

-- the literals that the answers stand for
abbrev pub answered_by : List Answer → List Lit
answered_by answers = map (λ a. answered_of a.lit a.yes) answers

-- the plan asks the literal
abbrev pub Asks : {W : Type 0} → Plan W → Lit → Type 0
Asks (Ask l on_yes on_no) m = m ≡ l
Asks Holds m = ⊥
Asks (Fails why) m = ⊥

-- the answers lead from a plan to another: each is to the literal that is asked there
abbrev pub AreAnswersTo : {W : Type 0} → Plan W → List Answer → Plan W → Type 0
AreAnswersTo p [] end = p ≡ end
AreAnswersTo p (a ∷ answers) end = Asks p a.lit × AreAnswersTo (after_answer p a.yes) answers end

-- the answers in front of each question of a tree that answers the plan after `w`, in preorder
abbrev pub asked_along : {W : Type 0} → AnswerTree → Plan W → List Lit → List (List Lit)
asked_along (Question t u) (Ask l on_yes on_no) w =
    w ∷ (asked_along t on_yes (with_answer w l true) ++ asked_along u on_no (with_answer w l false))
asked_along (Question t u) Holds w = []
asked_along (Question t u) (Fails why) w = []
asked_along End p w = []
asked_along (Impossible picks) p w = []

-- the tokens are those of a tree that fits the plan, and these are the answers in front of its questions
pub record IsProofOfPlan {W : Type 0} (p : Plan W) (tokens : List Tok) (asked : List (List Lit)) : Type 0 where
  pub tree : AnswerTree
  pub fits : Fits tree p []
  pub spelled : tokens ≡ tokens_of tree
  pub questions : asked ≡ asked_along tree p []

-- the outcome is that of the question list `q` of the plan: the list is longer than the budget, or has a
-- failing end, to which the answers lead, or else is that of a tree which fits the plan
abbrev pub Decides : {W : Type 0} → Plan W → ℕ → Questions W → Outcome W → Type 0
Decides p budget q (Yes tree asked) =
    (length q.asked ≤ budget) × (q.failing ≡ None) × (asked ≡ length q.asked) × IsProofOfPlan p tree.tokens q.asked
Decides p budget q (No answers why) =
    (length q.asked ≤ budget) × (q.failing ≡ Some (record { answers = answered_by answers.items; why = why }))
    × AreAnswersTo p answers.items (Fails why)
Decides p budget q Spent = budget < length q.asked

-- some integers meet each list of answers of the questions, and those of the failing end
abbrev pub AreAllPossible : {W : Type 0} → Questions W → Type 0
AreAllPossible q = AllByRecursion IsPossible q.asked × MatchOption q.failing (Unit {0}) (λ e. IsPossible e.answers)

-- the plan holds at every valuation
abbrev pub HoldsEverywhere : {W : Type 0} → Plan W → Type 0
HoldsEverywhere p = (v : ℕ → ℤ) → value p v ≡ true

-- some integers meet the answers, and each valuation that meets them ends in the cause
abbrev pub FailsAt : {W : Type 0} → Plan W → FailingEnd W → Type 0
FailsAt p e = IsPossible e.answers × ((v : ℕ → ℤ) → AreMet v e.answers → end_of p v ≡ Some e.why)

-- the outcome is that of the plan's question list after no answers, at each of whose questions some integers meet
-- the answers
pub record IsDecided {W : Type 0} (p : Plan W) (budget : ℕ) (o : Outcome W) : Type 0 where
  pub questions : Questions W
  pub listed : QuestionList p [] questions
  pub possible : AreAllPossible questions
  pub decided : Decides p budget questions o

-- a tree that is found stands behind these bytes
abbrev pub StandsBehind : {W : Type 0} → List ℕ → Outcome W → Type 0
StandsBehind front (Yes tree asked) = tree.front ≡ front
StandsBehind front (No answers why) = Unit {0}
StandsBehind front Spent = Unit {0}
