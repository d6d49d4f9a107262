-- The outcomes of a small plan over two names: it asks whether name 0 is at most name 1, holds at no, and
-- at yes asks whether name 1 is below name 0, or where it is lax at most name 0. Yes there fails.
use Rattle.std.proofs.Common.{◌≡◌, ℕ, true, false, [], ◌∷◌, refl, None, lit≤, lit<, arith}
use Rattle.ask_core.specs.declared.tree.Tok.TheVariants as token
use Rattle.ask_core.specs.Plans.{Fails}
use Rattle.ask_core.specs.Trees.{Question, End, Impossible}
use Rattle.ask_core.specs.Questions.{Questions}
use Rattle.ask_core.specs.TwoNames.{at_most, is_under, two_name_plan}
use Rattle.ot_prove.specs.declared.outcome.Outcome.TheVariants.{Yes, Spent}
use Rattle.ot_prove.specs.Outcomes.{answered_by, AreAnswersTo, Decides, asked_along}
use Rattle.ot_prove.specs.Searching.{plan_weight}

-- what `ask_core` shows to be the question list of the strict plan
abbrev strict_list : Questions ℕ
strict_list = record { asked = [] ∷ (at_most ∷ []) ∷ []; failing = None }

-- the answers in front of the questions of its tree
asked_along-strict :
    asked_along (Question (Question (Impossible (0 ∷ 1 ∷ [])) End) End) (two_name_plan true) []
    ≡ [] ∷ (at_most ∷ []) ∷ []
asked_along-strict = refl

-- two questions are enough
Decides-strict :
    Decides (two_name_plan true) 2 strict_list
    (Yes (record {
      front = [];
      tokens = token.Ask ∷ token.Ask ∷ token.Cycle (0 ∷ 1 ∷ []) ∷ token.Holds ∷ token.Holds ∷ [];
    }) 2)
Decides-strict = (
  lit≤ tt,
  refl,
  refl,
  record {
    tree = Question (Question (Impossible (0 ∷ 1 ∷ [])) End) End;
    fits = (((lit≤ tt, lit≤ tt, refl), tt), tt);
    spelled = refl;
    questions = refl;
  },
)

-- one is not
Decides-spent : Decides (two_name_plan true) 1 strict_list Spent
Decides-spent = lit< tt

-- two are not spent
Decides-not_spent : Decides (two_name_plan true) 2 strict_list Spent → ⊥
Decides-not_spent spent = omega arith

-- a tree with a question less is another one
Decides-shorter : Decides (two_name_plan true) 2 strict_list (Yes (record { front = []; tokens = token.Holds ∷ [] }) 0)
    → ⊥
Decides-shorter wrong = let e : ◌≡◌ {A = ℕ} 0 2 = wrong.2 in omega arith

-- the lax plan fails after yes twice
AreAnswersTo-lax :
    AreAnswersTo (two_name_plan false)
    (record { lit = at_most; yes = true } ∷ record { lit = is_under false; yes = true } ∷ [])
    (Fails 7)
AreAnswersTo-lax = (refl, (refl, refl))

-- no to 'name 1 is below name 0' is that name 0 is at most name 1
answered_by-no_to_below :
    answered_by (record { lit = at_most; yes = true } ∷ record { lit = is_under true; yes = false } ∷ [])
    ≡ at_most ∷ at_most ∷ []
answered_by-no_to_below = refl

-- the plan has two questions and three ends
plan_weight-lax : plan_weight (two_name_plan false) ≡ 5
plan_weight-lax = refl
