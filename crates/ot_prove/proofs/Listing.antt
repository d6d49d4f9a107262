-- The question lists of open branches, step by step.
use Rattle.std.proofs.Common.{◌≡◌, true, false, List, [], ◌∷◌, ◌++◌, Option, Some, None, MatchOption, inl, inr, refl}
use Rattle.std.proofs.Common.{append_assoc, ap, ◌∙◌, subst, sym}
use Rattle.diff_graph.specs.declared.lit.Lit.{Lit}
use Rattle.diff_graph.specs.Literals.{IsPossible}
use Rattle.ask_core.specs.Plans.{Plan, Ask, Holds, Fails}
use Rattle.ask_core.specs.Trees.{Branch, with_answer}
use Rattle.ask_core.specs.Questions.{Questions, FailingEnd, QuestionList, no_questions, failing_at, asked_with_yes}
use Rattle.ask_core.specs.Questions.{asked_with_both}
use Rattle.ot_prove.specs.Searching.{joined_questions, Listed}

module _ {W : Type 0} where
  -- one question, and nothing else
  abbrev pub one_question : List Lit → Questions W
  one_question w = record { asked = w ∷ []; failing = None }

  -- the list is that of the branches behind the questions so far
  abbrev pub ListedBehind : List (List Lit) → List (Branch W) → Questions W → Type 0
  ListedBehind asked branches q =
      (later : Questions W) × Listed branches later
      × (q ≡ record { asked = asked ++ later.asked; failing = later.failing })

  -- where no integers meet the answers there are no questions
  no_questions-impossible :
      (p : Plan W) (w : List Lit) (q : Questions W) → ¬ IsPossible w → QuestionList p w q → q ≡ no_questions
  no_questions-impossible (Ask l on_yes on_no) w q never (inl none) = none.1
  no_questions-impossible (Ask l on_yes on_no) w q never (inr some) = absurd (never some.0)
  no_questions-impossible Holds w q never list = list
  no_questions-impossible (Fails why) w q never (inl none) = none.1
  no_questions-impossible (Fails why) w q never (inr some) = absurd (never some.0)

  -- a branch without questions may be left out
  Listed-none :
      (b : Branch W) (branches : List (Branch W)) (q : Questions W)
      → ((y : Questions W) → QuestionList b.plan b.answers y → y ≡ no_questions)
      → Listed (b ∷ branches) q → Listed branches q
  Listed-none b branches q none (y, list, after) =
      let found =
      subst (λ (x : Questions W). MatchOption x.failing
      ((n : Questions W) × Listed branches n × (q ≡ joined_questions x n)) (λ _. q ≡ x)) (none y list) after in
      subst (λ (x : Questions W). Listed branches x) (sym found.2) found.1

  pub Listed-impossible :
      (b : Branch W) (branches : List (Branch W)) (q : Questions W) → ¬ IsPossible b.answers
      → Listed (b ∷ branches) q → Listed branches q
  Listed-impossible b branches q never =
      Listed-none b branches q (λ y list. no_questions-impossible b.plan b.answers y never list)

  pub Listed-holds :
      (b : Branch W) (branches : List (Branch W)) (q : Questions W) → b.plan ≡ Holds
      → Listed (b ∷ branches) q → Listed branches q
  Listed-holds b branches q holds =
      Listed-none b branches q (λ y list. subst (λ (p : Plan W). QuestionList p b.answers y) holds list)

  -- a possible place at which the plan fails ends the list
  fails_there :
      (w : List Lit) (why : W) (branches : List (Branch W)) (q y : Questions W) → IsPossible w
      → QuestionList (Fails why) w y
      → MatchOption y.failing ((n : Questions W) × Listed branches n × (q ≡ joined_questions y n)) (λ _. q ≡ y)
      → q ≡ failing_at w why
  fails_there w why branches q y possible (inl none) after = absurd (none.0 possible)
  fails_there w why branches q y possible (inr some) after =
      subst (λ (x : Questions W). MatchOption x.failing
      ((n : Questions W) × Listed branches n × (q ≡ joined_questions x n)) (λ _. q ≡ x)) some.1 after

  pub Listed-fails :
      (b : Branch W) (branches : List (Branch W)) (q : Questions W) (why : W)
      → b.plan ≡ Fails why → IsPossible b.answers
      → Listed (b ∷ branches) q → q ≡ failing_at b.answers why
  Listed-fails b branches q why fails possible (y, list, after) =
      fails_there b.answers why branches q y possible
      (subst (λ (p : Plan W). QuestionList p b.answers y) fails list) after

  -- the two parts of a question, one after the other
  abbrev pub parts_of : Lit → Plan W → Plan W → List Lit → List (Branch W) → List (Branch W)
  parts_of l on_yes on_no w branches =
      record { plan = on_yes; answers = with_answer w l true }
      ∷ record { plan = on_no; answers = with_answer w l false }
      ∷ branches

  -- by the failing ends of the part for yes, and of the part for no
  listed_no :
      (b : Branch W) (branches : List (Branch W)) (w : List Lit) (y n q : Questions W) (failing : Option (FailingEnd W))
      → n.failing ≡ failing → QuestionList b.plan b.answers n
      → MatchOption failing ((m : Questions W) × Listed branches m × (q ≡ joined_questions (asked_with_both w y n) m))
      (λ _. q ≡ asked_with_both w y n)
      → (m : Questions W) × Listed (b ∷ branches) m
      × (q ≡ record { asked = w ∷ (y.asked ++ m.asked); failing = m.failing })
  listed_no b branches w y n q None ends list (m, listed, is) = (
    joined_questions n m,
    (
      n,
      list,
      subst (λ (x : Option (FailingEnd W)). MatchOption x
          ((k : Questions W) × Listed branches k × (joined_questions n m ≡ joined_questions n k))
          (λ _. joined_questions n m ≡ n)) (sym ends) (m, listed, refl),
    ),
    is ∙ ap (λ (x : List (List Lit)). record { asked = w ∷ x; failing = m.failing })
        (append_assoc y.asked n.asked m.asked),
  )
  listed_no b branches w y n q (Some end) ends list is = (
    n,
    (
      n,
      list,
      subst (λ (x : Option (FailingEnd W)). MatchOption x
          ((k : Questions W) × Listed branches k × (n ≡ joined_questions n k)) (λ _. n ≡ n)) (sym ends) refl,
    ),
    is,
  )

  -- by the failing end of the part for yes, behind which the part for no is left out
  listed_yes :
      (l : Lit) (on_yes on_no : Plan W) (w : List Lit) (branches : List (Branch W)) (y z q : Questions W)
      (failing : Option (FailingEnd W))
      → y.failing ≡ failing → QuestionList on_yes (with_answer w l true) y
      → MatchOption failing
      ((n : Questions W) × QuestionList on_no (with_answer w l false) n × (z ≡ asked_with_both w y n))
      (λ _. z ≡ asked_with_yes w y)
      → MatchOption z.failing ((n : Questions W) × Listed branches n × (q ≡ joined_questions z n)) (λ _. q ≡ z)
      → ListedBehind (w ∷ []) (parts_of l on_yes on_no w branches) q
  listed_yes l on_yes on_no w branches y z q None ends list (n, of_no, is) after =
      let found =
      listed_no (record { plan = on_no; answers = with_answer w l false }) branches w y n q n.failing refl of_no
      (subst (λ (x : Questions W). MatchOption x.failing
      ((m : Questions W) × Listed branches m × (q ≡ joined_questions x m)) (λ _. q ≡ x)) is after) in (
        joined_questions y found.0,
        (
          y,
          list,
          subst (λ (x : Option (FailingEnd W)).
              MatchOption x
              ((k : Questions W) × Listed (record { plan = on_no; answers = with_answer w l false } ∷ branches) k
              × (joined_questions y found.0 ≡ joined_questions y k))
              (λ _. joined_questions y found.0 ≡ y))
              (sym ends) (found.0, found.1, refl),
        ),
        found.2,
      )
  listed_yes l on_yes on_no w branches y z q (Some end) ends list is after =
      let same : z.failing ≡ Some end = ap (λ (x : Questions W). x.failing) is ∙ ends in
      let q_is =
      subst (λ (x : Option (FailingEnd W)).
      MatchOption x ((n : Questions W) × Listed branches n × (q ≡ joined_questions z n)) (λ _. q ≡ z))
      same after in (
        y,
        (
          y,
          list,
          subst (λ (x : Option (FailingEnd W)).
              MatchOption x
              ((k : Questions W) × Listed (record { plan = on_no; answers = with_answer w l false } ∷ branches) k
              × (y ≡ joined_questions y k))
              (λ _. y ≡ y))
              (sym ends) refl,
        ),
        q_is ∙ is,
      )

  asks_there :
      (l : Lit) (on_yes on_no : Plan W) (w : List Lit) (branches : List (Branch W)) (z q : Questions W) → IsPossible w
      → QuestionList (Ask l on_yes on_no) w z
      → MatchOption z.failing ((n : Questions W) × Listed branches n × (q ≡ joined_questions z n)) (λ _. q ≡ z)
      → ListedBehind (w ∷ []) (parts_of l on_yes on_no w branches) q
  asks_there l on_yes on_no w branches z q possible (inl none) after = absurd (none.0 possible)
  asks_there l on_yes on_no w branches z q possible (inr (some, (y, list, parts))) after =
      listed_yes l on_yes on_no w branches y z q y.failing refl list parts after

  -- a possible place that asks is listed first, and then its parts
  pub Listed-question :
      (b : Branch W) (branches : List (Branch W)) (q : Questions W) (l : Lit) (on_yes on_no : Plan W)
      → b.plan ≡ Ask l on_yes on_no → IsPossible b.answers → Listed (b ∷ branches) q
      → ListedBehind (b.answers ∷ []) (parts_of l on_yes on_no b.answers branches) q
  Listed-question b branches q l on_yes on_no asks possible (z, list, after) =
      asks_there l on_yes on_no b.answers branches z q possible
      (subst (λ (p : Plan W). QuestionList p b.answers z) asks list) after
