-- Proof trees without lemmas and citations are the trees of certificates.
use Rattle.std.proofs.Common.{◌≡◌, ◌↔◌, List, refl, ap, ◌∙◌, true, false}
use Rattle.diff_graph.specs.declared.lit.Lit.{Lit}
use Rattle.ask_core.specs.Trees.{AnswerTree, Fits, with_answer}
use Rattle.ask_core.specs.Trees as answer
use Rattle.proof_trees.specs.Starts.{MarkedPlan, Ask, Holds, Fails, unmarked, Comparison}
use Rattle.proof_trees.specs.Proofs.{ProofTree, Question, End, Impossible, Lemma, Citation, Learned, proof_of}
use Rattle.proof_trees.specs.Proofs.{HasNoLemmas, learned, Shows}

module _ {S W : Type 0} where
  -- such a tree teaches no lemma
  pub learned-proof_of : (t : AnswerTree) (p : MarkedPlan S W) (known : List (Learned S W))
      → learned (proof_of t) p known ≡ known
  learned-proof_of (answer.Question t u) (Ask start l on_yes on_no) known =
      ap (λ (k : List (Learned S W)). learned (proof_of u) on_no k) (learned-proof_of t on_yes known)
      ∙ learned-proof_of u on_no known
  learned-proof_of (answer.Question t u) (Holds start) known = refl
  learned-proof_of (answer.Question t u) (Fails start why) known = refl
  learned-proof_of answer.End p known = refl
  learned-proof_of (answer.Impossible picks) p known = refl

  -- it shows what it fits
  pub Shows-proof_of :
      (compare : Comparison S) (t : AnswerTree) (p : MarkedPlan S W) (w : List Lit) (known : List (Learned S W))
      → (Shows compare (proof_of t) p w known ↔ Fits t (unmarked p) w)
  Shows-proof_of compare (answer.Question t u) (Ask start l on_yes on_no) w known =
      let at_yes = Shows-proof_of compare t on_yes (with_answer w l true) known in
      let at_no = Shows-proof_of compare u on_no (with_answer w l false) (learned (proof_of t) on_yes known) in (
        λ shows. (at_yes.0 shows.0, at_no.0 shows.1),
        λ fits. (at_yes.1 fits.0, at_no.1 fits.1),
      )
  Shows-proof_of compare (answer.Question t u) (Holds start) w known = (λ none. none, λ none. none)
  Shows-proof_of compare (answer.Question t u) (Fails start why) w known = (λ none. none, λ none. none)
  Shows-proof_of compare answer.End (Ask start l on_yes on_no) w known = (λ none. none, λ none. none)
  Shows-proof_of compare answer.End (Holds start) w known = (λ held. held, λ held. held)
  Shows-proof_of compare answer.End (Fails start why) w known = (λ none. none, λ none. none)
  Shows-proof_of compare (answer.Impossible picks) p w known = (λ is. is, λ is. is)

-- each tree without lemmas and citations is one
pub tree_without_lemmas : (t : ProofTree) → HasNoLemmas t → (u : AnswerTree) × (t ≡ proof_of u)
tree_without_lemmas (Question t u) has =
    let at_yes = tree_without_lemmas t has.0 in
    let at_no = tree_without_lemmas u has.1 in
    (answer.Question at_yes.0 at_no.0, rw (at_yes.1, at_no.1) refl)
tree_without_lemmas End has = (answer.End, refl)
tree_without_lemmas (Impossible picks) has = (answer.Impossible picks, refl)
tree_without_lemmas (Lemma ls t u) has = absurd has
tree_without_lemmas (Citation number cycles) has = absurd has

pub HasNoLemmas-proof_of : (t : AnswerTree) → HasNoLemmas (proof_of t)
HasNoLemmas-proof_of (answer.Question t u) = (HasNoLemmas-proof_of t, HasNoLemmas-proof_of u)
HasNoLemmas-proof_of answer.End = tt
HasNoLemmas-proof_of (answer.Impossible picks) = tt
