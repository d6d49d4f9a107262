-- The tokens of proof trees, and what is still wanted of them.
use Rattle.std.specs.Prelude.{◌≡◌, ℕ, ◌≤◌, ⊤, List, [], ◌∷◌, ◌++◌, length, false}
use Rattle.diff_graph.specs.declared.lit.Lit.{Lit}
use Rattle.ask_core.specs.declared.picks.TheConstants.{MAX_PICKS}
use Rattle.ask_core.specs.Trees.{IsCycleAmong, with_answer}
use Rattle.proof_trees.specs.declared.limits.TheConstants.{MAX_LITERALS}
use Rattle.proof_trees.specs.declared.token.ProofTok.{ProofTok}
use Rattle.proof_trees.specs.declared.token.ProofTok.TheVariants as token
use Rattle.proof_trees.specs.Starts.{MarkedPlan, Comparison}
use Rattle.proof_trees.specs.Proofs.{ProofTree, Question, End, Impossible, Lemma, Citation, Learned, with_lemma}
use Rattle.proof_trees.specs.Proofs.{learned, Shows}

-- a token for each cycle
abbrev pub cycle_tokens : List (List ℕ) → List ProofTok
cycle_tokens [] = []
cycle_tokens (c ∷ cycles) = token.Cycle c ∷ cycle_tokens cycles

-- the tokens of a tree in preorder
abbrev pub proof_tokens_of : ProofTree → List ProofTok
proof_tokens_of (Question t u) = token.Ask ∷ (proof_tokens_of t ++ proof_tokens_of u)
proof_tokens_of End = token.Holds ∷ []
proof_tokens_of (Impossible picks) = token.Cycle picks ∷ []
proof_tokens_of (Lemma ls t u) = token.Lemma ls ∷ (proof_tokens_of t ++ proof_tokens_of u)
proof_tokens_of (Citation number cycles) = token.Cite number ∷ cycle_tokens cycles

-- what is wanted at a place: a tree that shows the plan after the literals; or a cycle of the literals; or no token,
-- but the lemma is known from here on
pub data Wanted (S W : Type 0) : Type 0 where
  Tree : MarkedPlan S W → List Lit → Wanted S W
  Cycle : List Lit → Wanted S W
  Learn : MarkedPlan S W → List Lit → Wanted S W

-- a cycle for each literal, which follows from the list then
abbrev pub wanted_cycles : {S W : Type 0} → List Lit → List Lit → List (Wanted S W)
wanted_cycles w [] = []
wanted_cycles w (l ∷ ls) = Cycle (with_answer w l false) ∷ wanted_cycles w ls

-- the tokens are, in order, what is wanted, and nothing else, given the lemmas that are known
abbrev pub CompletesWanted : {S W : Type 0} → Comparison S → List ProofTok → List (Wanted S W)
    → List (Learned S W) → Type 0
CompletesWanted compare tokens [] known = tokens ≡ []
CompletesWanted compare tokens (Tree p w ∷ wanted) known =
    (t : ProofTree) × (rest : List ProofTok) × Shows compare t p w known × (tokens ≡ proof_tokens_of t ++ rest)
    × CompletesWanted compare rest wanted (learned t p known)
CompletesWanted compare tokens (Cycle w ∷ wanted) known =
    (picks : List ℕ) × (rest : List ProofTok) × IsCycleAmong w picks × (tokens ≡ token.Cycle picks ∷ rest)
    × CompletesWanted compare rest wanted known
CompletesWanted compare tokens (Learn p ls ∷ wanted) known =
    CompletesWanted compare tokens wanted (with_lemma known p ls)

-- a token has no more numbers and literals than it may have. Their types see to it
abbrev pub HasFew : ProofTok → Type 0
HasFew token.Ask = ⊤
HasFew token.Holds = ⊤
HasFew (token.Cycle picks) = length picks ≤ MAX_PICKS
HasFew (token.Lemma ls) = length ls ≤ MAX_LITERALS
HasFew (token.Cite number) = ⊤
