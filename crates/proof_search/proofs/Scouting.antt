-- The nodes of a search in which scouts are sent and come back stay the asker's own.
use Rattle.std.proofs.Common.{◌≡◌, ◌∙◌, List, Option, Some, sym, subst, ⊎_elim}
use Rattle.std.specs.Prelude.{IfSome}
use Rattle.std.specs.List.{All}
use Rattle.std.proofs.lemmas.List.Elements.{All-push}
use Rattle.proof_search.specs.declared.under_way.LemmaLevel.{LemmaLevel}
use Rattle.proof_search.specs.declared.lemmas.Lemma.{Lemma}
use Rattle.proof_search.specs.declared.under_way.Search.{Search}
use Rattle.proof_search.specs.Owning.{AreOwnLemmas, IsOwnSearch, KeepsPlaces, closed_search}
use Rattle.proof_search.specs.Scouts.{RenewsLevel, MayRenewLevel, IsAtLevel, GoesBack, MayGoBack}
use Rattle.proof_search.proofs.Owning.{nodes_kept, own_places, own_closed, popped_is_own}

module _ {N : Type 0} (is_own : N → Type 0) (old new : Search N) (own : IsOwnSearch is_own old) where
  own_renewed : RenewsLevel old new → IsOwnSearch is_own new
  own_renewed renewed =
      let popped = popped_is_own is_own old.levels.items renewed.around renewed.level own.levels renewed.was in
      record {
        at =
            ⊎_elim (λ (e : new.at ≡ old.at). subst (λ (o : Option N). IfSome o is_own) (sym e) own.at)
            (λ (e : new.at ≡ Some renewed.level.node). subst (λ (o : Option N). IfSome o is_own) (sym e) popped.0)
            renewed.at;
        waiting = nodes_kept (λ w. w.node) is_own old.waiting.items new.waiting.items renewed.waiting own.waiting;
        levels =
            subst (λ (held : List (LemmaLevel N)). All (λ l. is_own l.node) held) (sym renewed.levels.items)
            (All-push (λ l. is_own l.node) renewed.around renewed.levels.item popped.1
            (subst is_own (sym renewed.levels.at_node) popped.0));
        lemmas = subst (λ (held : List (Lemma N)). AreOwnLemmas is_own held) (sym renewed.lemmas) own.lemmas;
      }

  -- a search whose innermost level may be begun anew has no other nodes
  pub own_may_renew : MayRenewLevel old new → IsOwnSearch is_own new
  own_may_renew changed = ⊎_elim (own_places is_own old new own) own_renewed changed

  -- nor one that goes back to the start of a level
  pub own_back : GoesBack old new → IsOwnSearch is_own new
  own_back back = record {
    at =
        ⊎_elim (λ (e : new.at ≡ old.at). subst (λ (o : Option N). IfSome o is_own) (sym e) own.at)
        (λ (place : IsAtLevel old.levels.items new.at).
        subst (λ (o : Option N). IfSome o is_own) (sym place.node) (own.levels place.number place.other place.within))
        back.at;
    waiting = nodes_kept (λ w. w.node) is_own old.waiting.items new.waiting.items back.waiting own.waiting;
    levels = nodes_kept (λ l. l.node) is_own old.levels.items new.levels.items back.levels own.levels;
    lemmas = subst (λ (held : List (Lemma N)). AreOwnLemmas is_own held) (sym back.lemmas) own.lemmas;
  }

-- no question is asked by a level that is begun anew
pub asked_kept : {N : Type 0} (old new : Search N) → MayRenewLevel old new → new.asked ≡ old.asked
asked_kept old new changed =
    ⊎_elim (λ (kept : KeepsPlaces old new). kept.asked) (λ (renewed : RenewsLevel old new). renewed.asked) changed

-- where the open place is closed first, the nodes that are left are own
pub own_gone_back :
    {N : Type 0} (is_own : N → Type 0) (old new : Search N) → IsOwnSearch is_own old → MayGoBack (closed_search old) new
    → IsOwnSearch is_own new
own_gone_back is_own old new own gone =
    own_back is_own gone.before new (own_closed is_own old gone.before own gone.places) gone.back

pub asked_back : {N : Type 0} (old new : Search N) → MayGoBack (closed_search old) new → new.asked ≡ old.asked
asked_back old new gone = gone.back.asked ∙ gone.places.asked
