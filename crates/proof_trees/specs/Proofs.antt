-- Proof trees: trees that answer a plan, and may show lemmas at its starts and cite them at later ones.
use Rattle.std.specs.Prelude.{ℕ, ◌<◌, ◌≤◌, List, [], ◌∷◌, ◌++◌, length, true, false, Option, Some, None, slice_get}
use Rattle.diff_graph.specs.declared.lit.Lit.{Lit}
use Rattle.ask_core.specs.Trees.{AnswerTree, IsCycleAmong, with_answer}
use Rattle.ask_core.specs.Trees as answer
use Rattle.proof_trees.specs.declared.limits.TheConstants.{MAX_LEMMAS, MAX_LITERALS}
use Rattle.proof_trees.specs.Starts.{MarkedPlan, Ask, Holds, Fails, start_of, Comparison, conditions_between}

-- a proof tree. The first tree of a lemma shows it, and the second one goes on where it was shown. A citation
-- has the number of a lemma, and a cycle for each literal and each condition
pub data ProofTree : Type 0 where
  Question : ProofTree → ProofTree → ProofTree
  End : ProofTree
  Impossible : List ℕ → ProofTree
  Lemma : List Lit → ProofTree → ProofTree → ProofTree
  Citation : ℕ → List (List ℕ) → ProofTree

-- a tree of a certificate as a proof tree
abbrev pub proof_of : AnswerTree → ProofTree
proof_of (answer.Question t u) = Question (proof_of t) (proof_of u)
proof_of answer.End = End
proof_of (answer.Impossible picks) = Impossible picks

-- the tree has no lemmas and no citations
abbrev pub HasNoLemmas : ProofTree → Type 0
HasNoLemmas (Question t u) = HasNoLemmas t × HasNoLemmas u
HasNoLemmas End = Unit {0}
HasNoLemmas (Impossible picks) = Unit {0}
HasNoLemmas (Lemma ls t u) = ⊥
HasNoLemmas (Citation number cycles) = ⊥

-- a lemma: each valuation that meets the literals leads through the plan, which begins at a start, to `Holds`
pub record Learned (S W : Type 0) : Type 0 where
  pub plan : MarkedPlan S W
  pub literals : List Lit

-- the lemmas with one more
abbrev pub with_lemma : {S W : Type 0} → List (Learned S W) → MarkedPlan S W → List Lit → List (Learned S W)
with_lemma known p ls = known ++ record { plan = p; literals = ls } ∷ []

-- the lemmas that are known after a tree, in the order in which their own trees end
abbrev pub learned : {S W : Type 0} → ProofTree → MarkedPlan S W → List (Learned S W) → List (Learned S W)
learned (Question t u) (Ask start l on_yes on_no) known = learned u on_no (learned t on_yes known)
learned (Question t u) (Holds start) known = known
learned (Question t u) (Fails start why) known = known
learned End p known = known
learned (Impossible picks) p known = known
learned (Lemma ls t u) p known = learned u p (with_lemma (learned t p known) p ls)
learned (Citation number cycles) p known = known

-- a lemma of these literals may be begun: a start is here, the literals are few, and so are the known lemmas
abbrev pub MayLearn : {S W : Type 0} → Option S → List Lit → List (Learned S W) → Type 0
MayLearn None ls known = ⊥
MayLearn (Some s) ls known = (length ls ≤ MAX_LITERALS) × (length known < MAX_LEMMAS)

-- each literal follows from the list: with its negation after it the list has the literal's cycle
abbrev pub EachFollows : List Lit → List Lit → List (List ℕ) → Type 0
EachFollows w [] [] = Unit {0}
EachFollows w [] (c ∷ cycles) = ⊥
EachFollows w (l ∷ ls) [] = ⊥
EachFollows w (l ∷ ls) (c ∷ cycles) = IsCycleAmong (with_answer w l false) c × EachFollows w ls cycles

-- the starts compare, and the literals of the lemma and the conditions follow
abbrev pub FollowsUnder : Option (List Lit) → List Lit → List Lit → List (List ℕ) → Type 0
FollowsUnder None ls w cycles = ⊥
FollowsUnder (Some es) ls w cycles = EachFollows w (ls ++ es) cycles

-- the lemma serves where the start is, if both are there
abbrev pub Serves : {S W : Type 0} → Comparison S → Option (Learned S W) → Option S → List Lit → List (List ℕ) → Type 0
Serves compare None here w cycles = ⊥
Serves compare (Some lemma) here w cycles =
    FollowsUnder (conditions_between compare (start_of lemma.plan) here) lemma.literals w cycles

-- the tree shows the plan after the list of literals: it asks where the plan asks, ends where the plan holds,
-- names a negative cycle of the list anywhere, and where a start is shows a lemma or cites one that is known
abbrev pub Shows : {S W : Type 0} → Comparison S → ProofTree → MarkedPlan S W → List Lit → List (Learned S W) → Type 0
Shows compare (Question t u) (Ask start l on_yes on_no) w known =
    Shows compare t on_yes (with_answer w l true) known
    × Shows compare u on_no (with_answer w l false) (learned t on_yes known)
Shows compare (Question t u) (Holds start) w known = ⊥
Shows compare (Question t u) (Fails start why) w known = ⊥
Shows compare End (Ask start l on_yes on_no) w known = ⊥
Shows compare End (Holds start) w known = Unit {0}
Shows compare End (Fails start why) w known = ⊥
Shows compare (Impossible picks) p w known = IsCycleAmong w picks
Shows compare (Lemma ls t u) p w known =
    MayLearn (start_of p) ls known × Shows compare t p ls known
    × Shows compare u p w (with_lemma (learned t p known) p ls)
Shows compare (Citation number cycles) p w known = Serves compare (slice_get known number) (start_of p) w cycles
