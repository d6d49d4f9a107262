-- Tokens complete the open branches exactly where the first may stand and the others complete what it leaves.
use Rattle.std.proofs.Common.{◌≡◌, ℕ, List, [], ◌∷◌, ◌++◌, true, false, refl, ap, subst, append_assoc}
use Rattle.diff_graph.specs.declared.lit.Lit.{Lit}
use Rattle.ask_core.specs.declared.tree.Tok.{Tok}
use Rattle.ask_core.specs.declared.tree.Tok.TheVariants as token
use Rattle.ask_core.specs.Plans.{Plan, Ask, Holds, Fails}
use Rattle.ask_core.specs.Trees.{AnswerTree, Question, End, Impossible, Fits, Branch, Completes, CompletesBehind}
use Rattle.ask_core.specs.Trees.{CompletesParts, IsCycleAmong, tokens_of, with_answer}

-- a branch of a plan and answers
abbrev at : {W : Type 0} → Plan W → List Lit → Branch W
at p w = record { plan = p; answers = w }

module _ {W : Type 0} where
  -- `?` and more tokens complete a question exactly where the others complete its two parts
  question_parts :
      (l : Lit) (on_yes on_no : Plan W) (w : List Lit) (branches : List (Branch W)) (tokens : List Tok)
      → Completes (token.Ask ∷ tokens) (at (Ask l on_yes on_no) w ∷ branches)
      → Completes tokens (at on_yes (with_answer w l true) ∷ at on_no (with_answer w l false) ∷ branches)
  question_parts l on_yes on_no w branches tokens (Question t u, rest, fits, same, later) =
      let e : token.Ask ∷ tokens ≡ token.Ask ∷ ((tokens_of t ++ tokens_of u) ++ rest) = same in
      (t, tokens_of u ++ rest, fits.0, rw (← append_assoc) (cc), (u, rest, fits.1, refl, later))
  question_parts l on_yes on_no w branches tokens (End, rest, fits, same, later) = absurd fits
  question_parts l on_yes on_no w branches tokens (Impossible picks, rest, fits, same, later) = absurd (cc)

  question_joined :
      (l : Lit) (on_yes on_no : Plan W) (w : List Lit) (branches : List (Branch W)) (tokens : List Tok)
      → Completes tokens (at on_yes (with_answer w l true) ∷ at on_no (with_answer w l false) ∷ branches)
      → Completes (token.Ask ∷ tokens) (at (Ask l on_yes on_no) w ∷ branches)
  question_joined l on_yes on_no w branches tokens (t, middle, fits_yes, same, (u, rest, fits_no, same_rest, later)) =
      let e : tokens ≡ tokens_of t ++ (tokens_of u ++ rest) = cc in
      let f : tokens ≡ (tokens_of t ++ tokens_of u) ++ rest = rw append_assoc e in
      (Question t u, rest, (fits_yes, fits_no), ap (λ (x : List Tok). token.Ask ∷ x) f, later)

  -- `?` begins no tree that fits an end
  question_at_an_end :
      (p : Plan W) (w : List Lit) (branches : List (Branch W)) (tokens : List Tok)
      → ((t u : AnswerTree) → Fits (Question t u) p w → ⊥)
      → Completes (token.Ask ∷ tokens) (at p w ∷ branches) → ⊥
  question_at_an_end p w branches tokens none (Question t u, rest, fits, same, later) = none t u fits
  question_at_an_end p w branches tokens none (End, rest, fits, same, later) = cc
  question_at_an_end p w branches tokens none (Impossible picks, rest, fits, same, later) = cc

  question_taken :
      (p : Plan W) (w : List Lit) (branches : List (Branch W)) (tokens : List Tok)
      → Completes (token.Ask ∷ tokens) (at p w ∷ branches) → CompletesParts tokens p w branches
  question_taken (Ask l on_yes on_no) w branches tokens whole = question_parts l on_yes on_no w branches tokens whole
  question_taken Holds w branches tokens whole = question_at_an_end Holds w branches tokens (λ t u fits. fits) whole
  question_taken (Fails why) w branches tokens whole =
      question_at_an_end (Fails why) w branches tokens (λ t u fits. fits) whole

  question_begun :
      (p : Plan W) (w : List Lit) (branches : List (Branch W)) (tokens : List Tok)
      → CompletesParts tokens p w branches → Completes (token.Ask ∷ tokens) (at p w ∷ branches)
  question_begun (Ask l on_yes on_no) w branches tokens parts = question_joined l on_yes on_no w branches tokens parts
  question_begun Holds w branches tokens parts = absurd parts
  question_begun (Fails why) w branches tokens parts = absurd parts

  -- `.` is a whole tree
  end_taken :
      (p : Plan W) (w : List Lit) (branches : List (Branch W)) (tokens : List Tok)
      → Completes (token.Holds ∷ tokens) (at p w ∷ branches) → Fits End p w × Completes tokens branches
  end_taken p w branches tokens (Question t u, rest, fits, same, later) = absurd (cc)
  end_taken p w branches tokens (End, rest, fits, same, later) =
      let e : rest ≡ tokens = cc in (fits, subst (λ (x : List Tok). Completes x branches) e later)
  end_taken p w branches tokens (Impossible picks, rest, fits, same, later) = absurd (cc)

  -- so is a cycle
  cycle_taken :
      (picks : List ℕ) (p : Plan W) (w : List Lit) (branches : List (Branch W)) (tokens : List Tok)
      → Completes (token.Cycle picks ∷ tokens) (at p w ∷ branches) → IsCycleAmong w picks × Completes tokens branches
  cycle_taken picks p w branches tokens (Question t u, rest, fits, same, later) = absurd (cc)
  cycle_taken picks p w branches tokens (End, rest, fits, same, later) = absurd (cc)
  cycle_taken picks p w branches tokens (Impossible others, rest, fits, same, later) =
      let e : rest ≡ tokens = cc in
      let f : others ≡ picks = cc in
      (subst (λ (x : List ℕ). IsCycleAmong w x) f fits, subst (λ (x : List Tok). Completes x branches) e later)

  pub Completes-taken :
      (tok : Tok) (tokens : List Tok) (branches : List (Branch W))
      → Completes (tok ∷ tokens) branches → CompletesBehind tok tokens branches
  Completes-taken tok tokens [] whole = cc
  Completes-taken token.Ask tokens (b ∷ branches) whole = question_taken b.plan b.answers branches tokens whole
  Completes-taken token.Holds tokens (b ∷ branches) whole = end_taken b.plan b.answers branches tokens whole
  Completes-taken (token.Cycle picks) tokens (b ∷ branches) whole =
      cycle_taken picks b.plan b.answers branches tokens whole

  pub Completes-begun :
      (tok : Tok) (tokens : List Tok) (branches : List (Branch W))
      → CompletesBehind tok tokens branches → Completes (tok ∷ tokens) branches
  Completes-begun tok tokens [] behind = absurd behind
  Completes-begun token.Ask tokens (b ∷ branches) behind = question_begun b.plan b.answers branches tokens behind
  Completes-begun token.Holds tokens (b ∷ branches) behind = (End, tokens, behind.0, refl, behind.1)
  Completes-begun (token.Cycle picks) tokens (b ∷ branches) behind =
      (Impossible picks, tokens, behind.0, refl, behind.1)
