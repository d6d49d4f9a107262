-- A plan with a fitting tree holds at every valuation that meets the answers.
use Rattle.std.proofs.Common.{◌≡◌, ◌↔◌, ℕ, ℤ, Bool, true, false, List, [], ◌∷◌, ◌++◌, arith, inl, inr, refl, Ok}
use Rattle.std.proofs.lemmas.Bool.{cases_Bool}
use Rattle.std.proofs.lemmas.Int.{ints}
use Rattle.diff_graph.specs.declared.lit.Lit.{Lit}
use Rattle.diff_graph.specs.Literals.{Meets, AreMet, is_met, answered_of}
use Rattle.diff_graph.specs.Cycles.{pick_verdict}
use Rattle.ask_core.specs.declared.tree.Tok.{Tok}
use Rattle.ask_core.specs.Plans.{Plan, Ask, Holds, Fails, value}
use Rattle.ask_core.specs.Trees.{AnswerTree, Question, End, Impossible, Fits, Branch, Completes, HoldsAt, with_answer}

-- a valuation meets a list with one literal more exactly where it meets both
AreMet-push : (v : ℕ → ℤ) (w : List Lit) (l : Lit) → AreMet v (w ++ l ∷ []) ↔ (AreMet v w × Meets v l)
AreMet-push v [] l = (λ met. (tt, met.0), λ both. (both.1, tt))
AreMet-push v (x ∷ w) l =
    let later = AreMet-push v w l in (
      λ met. ((met.0, (later.0 met.1).0), (later.0 met.1).1),
      λ both. (both.0.0, later.1 (both.0.1, both.1)),
    )

-- a literal is met exactly where its test passes, and negated exactly where it fails
Meets-answered : (v : ℕ → ℤ) (l : Lit) (yes_said : Bool) → Meets v (answered_of l yes_said) ↔ (is_met v l ≡ yes_said)
Meets-answered v l true = (λ met. grind (arith, ints), λ passed. grind (arith, ints))
Meets-answered v l false = (λ met. grind (arith, ints), λ failed. grind (arith, ints))

-- a valuation meets the answers with one more exactly where it meets them and answers so
pub AreMet-answered :
    (v : ℕ → ℤ) (w : List Lit) (l : Lit) (yes_said : Bool)
    → AreMet v (with_answer w l yes_said) ↔ (AreMet v w × (is_met v l ≡ yes_said))
AreMet-answered v w l yes_said =
    let both = AreMet-push v w (answered_of l yes_said) in
    let last = Meets-answered v l yes_said in (
      λ met. ((both.0 met).0, last.0 (both.0 met).1),
      λ parts. both.1 (parts.0, last.1 parts.1),
    )

-- a question holds where both its parts do: the valuation leads to one of them, and meets its answer
pub HoldsAt-question :
    {W : Type 0} (v : ℕ → ℤ) (l : Lit) (on_yes on_no : Plan W) (w : List Lit)
    → HoldsAt v (record { plan = on_yes; answers = with_answer w l true })
    → HoldsAt v (record { plan = on_no; answers = with_answer w l false })
    → HoldsAt v (record { plan = Ask l on_yes on_no; answers = w })
HoldsAt-question v l on_yes on_no w at_yes at_no met =
    elim (cases_Bool (is_met v l)) [
      | inl passed ↦ rw passed (at_yes ((AreMet-answered v w l true).1 (met, passed)))
      | inr failed ↦ rw failed (at_no ((AreMet-answered v w l false).1 (met, failed)))
    ]

module _ (never_met : (v : ℕ → ℤ) (w : List Lit) (picks : List ℕ) → pick_verdict w picks ≡ Ok tt
    → ¬ AreMet v w) {W : Type 0} where
  -- a fitting tree shows, part by part, that its plan holds: a negative cycle among the answers leaves
  -- nothing to hold
  pub fitting_tree_holds :
      (t : AnswerTree) (p : Plan W) (w : List Lit) (v : ℕ → ℤ) → AreMet v w → Fits t p w → value p v ≡ true
  fitting_tree_holds (Question t u) (Ask l on_yes on_no) w v met fits =
      HoldsAt-question v l on_yes on_no w
      (λ met_yes. fitting_tree_holds t on_yes (with_answer w l true) v met_yes fits.0)
      (λ met_no. fitting_tree_holds u on_no (with_answer w l false) v met_no fits.1)
      met
  fitting_tree_holds (Question t u) Holds w v met fits = absurd fits
  fitting_tree_holds (Question t u) (Fails why) w v met fits = absurd fits
  fitting_tree_holds End (Ask l on_yes on_no) w v met fits = absurd fits
  fitting_tree_holds End Holds w v met fits = refl
  fitting_tree_holds End (Fails why) w v met fits = absurd fits
  fitting_tree_holds (Impossible picks) p w v met fits = absurd (never_met v w picks fits.2 met)

  -- tokens that complete one branch are those of a fitting tree
  pub completed_branch_holds :
      (tokens : List Tok) (b : Branch W) (v : ℕ → ℤ) → AreMet v b.answers
      → Completes tokens (b ∷ []) → value b.plan v ≡ true
  completed_branch_holds tokens b v met (t, rest, fits, same, done) = fitting_tree_holds t b.plan b.answers v met fits
