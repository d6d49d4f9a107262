-- Trees that answer a plan: each question with a tree for yes and a tree for no, down to ends at which
-- the plan holds, or at which no integers meet the answers.
use Rattle.std.specs.Prelude.{◌≡◌, ℕ, ℤ, ◌≤◌, Bool, List, [], ◌∷◌, ◌++◌, length, true, false, Ok}
use Rattle.diff_graph.specs.declared.lit.Lit.{Lit}
use Rattle.diff_graph.specs.Literals.{answered_of, AreMet}
use Rattle.diff_graph.specs.Cycles.{pick_verdict}
use Rattle.ask_core.specs.declared.picks.TheConstants.{MAX_PICKS}
use Rattle.ask_core.specs.declared.tree.Tok.{Tok}
use Rattle.ask_core.specs.declared.tree.Tok.TheVariants as token
use Rattle.ask_core.specs.Plans.{Plan, Ask, Holds, Fails, value}

-- a tree of answers
pub data AnswerTree : Type 0 where
  Question : AnswerTree → AnswerTree → AnswerTree
  End : AnswerTree
  Impossible : List ℕ → AnswerTree

-- the tokens of a tree in preorder
abbrev pub tokens_of : AnswerTree → List Tok
tokens_of (Question on_yes on_no) = token.Ask ∷ (tokens_of on_yes ++ tokens_of on_no)
tokens_of End = token.Holds ∷ []
tokens_of (Impossible picks) = token.Cycle picks ∷ []

-- the answers after one more, the literal `l` answered by yes or no
abbrev pub with_answer : List Lit → Lit → Bool → List Lit
with_answer w l yes_said = w ++ answered_of l yes_said ∷ []

-- 1 to 12 picks that name a negative cycle among the answers
abbrev pub IsCycleAmong : List Lit → List ℕ → Type 0
IsCycleAmong w picks = (1 ≤ length picks) × (length picks ≤ MAX_PICKS) × (pick_verdict w picks ≡ Ok tt)

-- the tree answers the plan after the answers: it asks where the plan asks, ends where the plan holds,
-- and names a negative cycle anywhere else
abbrev pub Fits : {W : Type 0} → AnswerTree → Plan W → List Lit → Type 0
Fits (Question t u) (Ask l on_yes on_no) w =
    Fits t on_yes (with_answer w l true) × Fits u on_no (with_answer w l false)
Fits (Question t u) Holds w = ⊥
Fits (Question t u) (Fails why) w = ⊥
Fits End (Ask l on_yes on_no) w = ⊥
Fits End Holds w = Unit {0}
Fits End (Fails why) w = ⊥
Fits (Impossible picks) p w = IsCycleAmong w picks

-- a place that is still to be answered: the plan that is left there, and the answers that lead there
pub record Branch (W : Type 0) : Type 0 where
  pub plan : Plan W
  pub answers : List Lit

-- the tokens are, in order, one fitting tree for each branch, and nothing else
abbrev pub Completes : {W : Type 0} → List Tok → List (Branch W) → Type 0
Completes tokens [] = tokens ≡ []
Completes tokens (b ∷ branches) =
    (t : AnswerTree) × (rest : List Tok) × Fits t b.plan b.answers × (tokens ≡ tokens_of t ++ rest)
    × Completes rest branches

-- the tokens complete the two parts of a question and the other branches. No other plan is asked
abbrev pub CompletesParts : {W : Type 0} → List Tok → Plan W → List Lit → List (Branch W) → Type 0
CompletesParts tokens (Ask l on_yes on_no) w branches =
    Completes tokens
    (record { plan = on_yes; answers = with_answer w l true }
    ∷ record { plan = on_no; answers = with_answer w l false }
    ∷ branches)
CompletesParts tokens Holds w branches = ⊥
CompletesParts tokens (Fails why) w branches = ⊥

-- the token may stand at the first branch, and the tokens behind it complete what it leaves open
abbrev pub CompletesBehind : {W : Type 0} → Tok → List Tok → List (Branch W) → Type 0
CompletesBehind tok tokens [] = ⊥
CompletesBehind token.Ask tokens (b ∷ branches) = CompletesParts tokens b.plan b.answers branches
CompletesBehind token.Holds tokens (b ∷ branches) = Fits End b.plan b.answers × Completes tokens branches
CompletesBehind (token.Cycle picks) tokens (b ∷ branches) = IsCycleAmong b.answers picks × Completes tokens branches

-- where the valuation meets the answers of the branch, it leads through its plan to `Holds`
abbrev pub HoldsAt : {W : Type 0} → (ℕ → ℤ) → Branch W → Type 0
HoldsAt v b = AreMet v b.answers → value b.plan v ≡ true
