-- Trees that answer open branches, token by token.
use Rattle.std.proofs.Common.{◌≡◌, ℕ, true, false, List, ◌∷◌, ◌++◌, refl, append_assoc, ap, ◌∙◌, subst, sym}
use Rattle.diff_graph.specs.declared.lit.Lit.{Lit}
use Rattle.ask_core.specs.declared.tree.Tok.{Tok}
use Rattle.ask_core.specs.declared.tree.Tok.TheVariants as token
use Rattle.ask_core.specs.Plans.{Plan, Ask, Holds}
use Rattle.ask_core.specs.Trees.{Question, End, Impossible, Fits, tokens_of, Branch, IsCycleAmong, with_answer}
use Rattle.ot_prove.specs.Outcomes.{asked_along}
use Rattle.ot_prove.specs.Searching.{Answered}
use Rattle.ot_prove.proofs.Listing.{parts_of}

module _ {W : Type 0} where
  -- trees for both parts of a question are one tree for it
  pub Answered-question :
      (b : Branch W) (branches : List (Branch W)) (l : Lit) (on_yes on_no : Plan W) (tokens : List Tok)
      (asked : List (List Lit))
      → b.plan ≡ Ask l on_yes on_no → Answered tokens asked (parts_of l on_yes on_no b.answers branches)
      → Answered (token.Ask ∷ tokens) (b.answers ∷ asked) (b ∷ branches)
  Answered-question b branches l on_yes on_no tokens asked asks
      (t, rest, later, fits, spelled, questions, (u, rest', later', fits', spelled', questions', answered)) = (
        Question t u,
        rest',
        later',
        subst (λ (p : Plan W). Fits (Question t u) p b.answers) (sym asks) (fits, fits'),
        ap (λ (x : List Tok). token.Ask ∷ x)
            (spelled ∙ ap (λ (x : List Tok). tokens_of t ++ x) spelled'
            ∙ sym (append_assoc (tokens_of t) (tokens_of u) rest')),
        subst (λ (p : Plan W). b.answers ∷ asked ≡ asked_along (Question t u) p b.answers ++ later') (sym asks)
            (ap (λ (x : List (List Lit)). b.answers ∷ x)
            (questions
            ∙ ap (λ (x : List (List Lit)). asked_along t on_yes (with_answer b.answers l true) ++ x) questions'
            ∙ sym (append_assoc (asked_along t on_yes (with_answer b.answers l true))
            (asked_along u on_no (with_answer b.answers l false)) later'))),
        answered,
      )

  -- `.` answers a branch whose plan holds
  pub Answered-holds :
      (b : Branch W) (branches : List (Branch W)) (tokens : List Tok) (asked : List (List Lit))
      → b.plan ≡ Holds → Answered tokens asked branches → Answered (token.Holds ∷ tokens) asked (b ∷ branches)
  Answered-holds b branches tokens asked holds answered =
      (End, tokens, asked, subst (λ (p : Plan W). Fits End p b.answers) (sym holds) tt, refl, refl, answered)

  -- a cycle among its answers answers any branch
  pub Answered-cycle :
      (b : Branch W) (branches : List (Branch W)) (picks : List ℕ) (tokens : List Tok) (asked : List (List Lit))
      → IsCycleAmong b.answers picks → Answered tokens asked branches
      → Answered (token.Cycle picks ∷ tokens) asked (b ∷ branches)
  Answered-cycle b branches picks tokens asked cycle answered =
      (Impossible picks, tokens, asked, cycle, refl, refl, answered)
