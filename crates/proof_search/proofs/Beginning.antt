-- The nodes of a search that begins, and the plan of an asker that was asked.
use Rattle.std.proofs.Common.{◌≡◌, List, [], Option, Some, sym, subst, ap, ◌∙◌}
use Rattle.std.specs.Prelude.{IfSome}
use Rattle.std.specs.List.{All}
use Rattle.std.proofs.lemmas.List.Elements.{All-nil}
use Rattle.ask_core.specs.Plans.{Plan}
use Rattle.proof_trees.specs.Starts.{MarkedPlan, unmarked}
use Rattle.proof_trees.specs.Starters.{Starts, KeepsStarts, IsWhole}
use Rattle.proof_search.specs.declared.under_way.LemmaLevel.{LemmaLevel}
use Rattle.proof_search.specs.declared.lemmas.Lemma.{Lemma}
use Rattle.proof_search.specs.declared.under_way.WaitingPart.{WaitingPart}
use Rattle.proof_search.specs.declared.under_way.Search.{Search}
use Rattle.proof_search.specs.Owning.{AreOwnLemmas, IsOwnSearch}

-- a search that has nothing but an open place
pub own_begun :
    {N : Type 0} (is_own : N → Type 0) (s : Search N) (n : N) → s.at ≡ Some n
    → s.levels.items ≡ [] → s.waiting.items ≡ []
    → s.lemmas ≡ [] → is_own n → IsOwnSearch is_own s
own_begun {N = N} is_own s n at levels waiting lemmas one = record {
  at = subst (λ (o : Option N). IfSome o is_own) (sym at) one;
  waiting = subst (λ (parts : List (WaitingPart N)). All (λ w. is_own w.node) parts) (sym waiting)
      (All-nil (λ w. is_own w.node));
  levels =
      subst (λ (held : List (LemmaLevel N)). All (λ l. is_own l.node) held) (sym levels) (All-nil (λ l. is_own l.node));
  lemmas = subst (λ (held : List (Lemma N)). AreOwnLemmas is_own held) (sym lemmas) (All-nil (λ l. is_own l.node));
}

-- the plan with the starts is kept, and so is the one without them
pub root_kept :
    {N S W : Type 0} {was_own is_own : N → Type 0} {old new : Starts N S W} (p q : Plan W)
    → IsWhole p old → IsWhole q new
    → KeepsStarts was_own is_own old new → q ≡ p
root_kept {S = S} {W = W} p q one two keeps =
    two.same ∙ ap (λ (m : MarkedPlan S W). unmarked m) keeps.root ∙ sym one.same
