-- The questions of a plan: the lists of answers at which it asks and which some integers meet.
use Rattle.std.specs.Prelude.{◌≡◌, true, false, List, [], ◌∷◌, ◌++◌, Option, Some, None, MatchOption, ◌⊎◌}
use Rattle.diff_graph.specs.declared.lit.Lit.{Lit}
use Rattle.diff_graph.specs.Literals.{IsPossible}
use Rattle.ask_core.specs.Plans.{Plan, Ask, Holds, Fails}
use Rattle.ask_core.specs.Trees.{with_answer}

-- a list of answers with which the plan fails, and the cause
pub record FailingEnd (W : Type 0) : Type 0 where
  pub answers : List Lit
  pub why : W

-- the answers at which something is asked, in order, and the failing end that was met last, if any
pub record Questions (W : Type 0) : Type 0 where
  pub asked : List (List Lit)
  pub failing : Option (FailingEnd W)

-- nothing is asked and nothing fails
abbrev pub no_questions : {W : Type 0} → Questions W
no_questions = record { asked = []; failing = None }

-- nothing is asked, and the plan fails
abbrev pub failing_at : {W : Type 0} → List Lit → W → Questions W
failing_at w why = record { asked = []; failing = Some (record { answers = w; why = why }) }

-- a question after the answers `w`, whose part for yes has a failing end: the part for no is left out
abbrev pub asked_with_yes : {W : Type 0} → List Lit → Questions W → Questions W
asked_with_yes w y = record { asked = w ∷ y.asked; failing = y.failing }

-- a question after the answers `w`, then its part for yes, then its part for no
abbrev pub asked_with_both : {W : Type 0} → List Lit → Questions W → Questions W → Questions W
asked_with_both w y n = record { asked = w ∷ y.asked ++ n.asked; failing = n.failing }

-- the questions of a question, its part for yes given, and its part for no as a fact of a list
abbrev pub JoinsParts :
    {W : Type 0} → List Lit → Questions W → (Questions W → Type 0) → Questions W → Type 0
JoinsParts {W = W} w y IsNoPart q =
    MatchOption y.failing ((n : Questions W) × IsNoPart n × (q ≡ asked_with_both w y n)) (λ _. q ≡ asked_with_yes w y)

-- `q` is the question list of the plan after the answers `w`: depth first, yes before no, up to the
-- first failing end. Where no integers meet `w` there are no questions and nothing fails. Whether some
-- do is a fact that no definition computes, so this is a relation.
abbrev pub QuestionList : {W : Type 0} → Plan W → List Lit → Questions W → Type 0
QuestionList {W = W} (Ask l on_yes on_no) w q =
    (¬ IsPossible w × (q ≡ no_questions))
    ⊎ (IsPossible w × ((y : Questions W) × QuestionList on_yes (with_answer w l true) y
    × JoinsParts w y (QuestionList on_no (with_answer w l false)) q))
QuestionList Holds w q = q ≡ no_questions
QuestionList (Fails why) w q =
    (¬ IsPossible w × (q ≡ no_questions)) ⊎ (IsPossible w × (q ≡ failing_at w why))
