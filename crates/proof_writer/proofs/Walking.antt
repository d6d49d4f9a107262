-- Which nodes a walk has after a change.
use Rattle.std.proofs.Common.{◌≡◌, ◌⊎◌, ℕ, inl, inr, refl, List, [], ◌∷◌, ◌++◌, Option, Some, sym, ap, subst, ◌∙◌}
use Rattle.std.specs.Prelude.{slice_index_or}
use Rattle.ask_core.specs.Plans.{Plan}
use Rattle.proof_search.specs.declared.lemmas.Lemma.{Lemma}
use Rattle.proof_search.specs.Owning.{AreOwnLemmas}
use Rattle.proof_trees.specs.Starts.{unmarked}
use Rattle.proof_trees.specs.Starters.{Starts, KeepsStarts, IsWhole}
use Rattle.proof_writer.specs.declared.place.TreePlace.{TreePlace}
use Rattle.proof_writer.specs.declared.place.WriterTask.{WriterTask}
use Rattle.proof_writer.specs.declared.place.WriterTask.TheVariants.{Part, Cycle, Learn}
use Rattle.proof_writer.specs.declared.walk.PlanWalk.{PlanWalk}
use Rattle.proof_writer.specs.Nodes.{IsPresent, Waits, HasNode, AreOwnNodes, HasNoOthers, HasOneMore, AddsOnlyParts}

module _ {N : Type 0} (n : N) where
  -- a node that waits among one more waits there, or is that of what came
  waits_before :
      (parts : List (WriterTask N)) (one : WriterTask N) → Waits n (parts ++ one ∷ [])
      → Waits n parts ⊎ Waits n (one ∷ [])
  waits_before [] one waits = inr waits
  waits_before (Part p ∷ parts) one (inl is) = inl (inl is)
  waits_before (Part p ∷ parts) one (inr waits) =
      elim (waits_before parts one waits) as (λ x. (Waits n (Part p ∷ parts)) ⊎ (Waits n (one ∷ []))) [
        | inl here ↦ inl (inr here)
        | inr last ↦ inr last
      ]
  waits_before (Cycle count ∷ parts) one waits = waits_before parts one waits
  waits_before (Learn place ∷ parts) one waits = waits_before parts one waits

  -- a node that waits still waits among more
  waits_among : (parts more : List (WriterTask N)) → Waits n parts → Waits n (parts ++ more)
  waits_among [] more waits = absurd waits
  waits_among (Part p ∷ parts) more (inl is) = inl is
  waits_among (Part p ∷ parts) more (inr waits) = inr (waits_among parts more waits)
  waits_among (Cycle count ∷ parts) more waits = waits_among parts more waits
  waits_among (Learn place ∷ parts) more waits = waits_among parts more waits

  waits_last : (parts : List (WriterTask N)) (p : TreePlace N) → p.node ≡ n → Waits n (parts ++ Part p ∷ [])
  waits_last [] p is = inl is
  waits_last (Part q ∷ parts) p is = inr (waits_last parts p is)
  waits_last (Cycle count ∷ parts) p is = waits_last parts p is
  waits_last (Learn place ∷ parts) p is = waits_last parts p is

  -- after a place, a cycle or a lemma was pushed
  pub waits_part :
      (old new : List (WriterTask N)) (p : TreePlace N) → new ≡ old ++ Part p ∷ [] → Waits n new
      → (p.node ≡ n) ⊎ Waits n old
  waits_part old new p is waits =
      elim (waits_before old (Part p) (subst (λ (parts : List (WriterTask N)). Waits n parts) is waits))
      as (λ x. (p.node ≡ n) ⊎ Waits n old) [
        | inl before ↦ inr before
        | inr last ↦ elim last as (λ x. (p.node ≡ n) ⊎ Waits n old) [ inl here ↦ inl here | inr none ↦ absurd none ]
      ]

  pub waits_cycle :
      (old new : List (WriterTask N)) (count : ℕ) → new ≡ old ++ Cycle count ∷ [] → Waits n new → Waits n old
  waits_cycle old new count is waits =
      elim (waits_before old (Cycle count) (subst (λ (parts : List (WriterTask N)). Waits n parts) is waits))
      as (λ x. Waits n old) [ inl before ↦ before | inr none ↦ absurd none ]

  pub waits_learn :
      (old new : List (WriterTask N)) (place : ℕ) → new ≡ old ++ Learn place ∷ [] → Waits n new → Waits n old
  waits_learn old new place is waits =
      elim (waits_before old (Learn place) (subst (λ (parts : List (WriterTask N)). Waits n parts) is waits))
      as (λ x. Waits n old) [ inl before ↦ before | inr none ↦ absurd none ]

-- what is pushed on the same parts
pub pushed_on :
    {N : Type 0} (old between parts : List (WriterTask N)) (one : WriterTask N) → between ≡ old
    → parts ≡ between ++ one ∷ []
    → parts ≡ old ++ one ∷ []
pushed_on old between parts one same pushed = pushed ∙ ap (λ (items : List (WriterTask _)). items ++ one ∷ []) same

module _ {N : Type 0} (old : PlanWalk N) where
  -- what waited last is gone
  pub others_popped :
      (parts : List (WriterTask N)) (one : WriterTask N) → old.waiting.items ≡ parts ++ one ∷ [] → (n : N)
      → IsPresent n old.present ⊎ Waits n parts → HasNode n old
  others_popped parts one popped n (inl here) = inl here
  others_popped parts one popped n (inr waits) =
      inr (subst (λ (items : List (WriterTask N)). Waits n items) (sym popped) (waits_among n parts (one ∷ []) waits))

  -- the place that waited last is the present one
  pub others_taken :
      (parts : List (WriterTask N)) (p : TreePlace N) → old.waiting.items ≡ parts ++ Part p ∷ [] → (n : N)
      → (p.node ≡ n) ⊎ Waits n parts → HasNode n old
  others_taken parts p popped n (inl here) =
      inr (subst (λ (items : List (WriterTask N)). Waits n items) (sym popped) (waits_last n parts p here))
  others_taken parts p popped n (inr waits) =
      inr (subst (λ (items : List (WriterTask N)). Waits n items) (sym popped)
      (waits_among n parts (Part p ∷ []) waits))

  -- the present place is closed
  pub others_closed :
      (parts : List (WriterTask N)) → parts ≡ old.waiting.items → (n : N) → ⊥ ⊎ Waits n parts → HasNode n old
  others_closed parts same n (inl none) = absurd none
  others_closed parts same n (inr waits) = inr (subst (λ (items : List (WriterTask N)). Waits n items) same waits)

  -- one part of a question is present
  module _ (on_yes on_no node : N) (parts : List (WriterTask N)) where
    pub parts_of_no :
        node ≡ on_no → parts ≡ old.waiting.items → (n : N) → (node ≡ n) ⊎ Waits n parts
        → (on_yes ≡ n) ⊎ ((on_no ≡ n) ⊎ HasNode n old)
    parts_of_no is same n (inl here) = inr (inl (sym is ∙ here))
    parts_of_no is same n (inr waits) =
        inr (inr (inr (subst (λ (items : List (WriterTask N)). Waits n items) same waits)))

    pub parts_of_yes :
        (count : ℕ) → node ≡ on_yes → parts ≡ old.waiting.items ++ Cycle count ∷ [] → (n : N)
        → (node ≡ n) ⊎ Waits n parts → (on_yes ≡ n) ⊎ ((on_no ≡ n) ⊎ HasNode n old)
    parts_of_yes count is pushed n (inl here) = inl (sym is ∙ here)
    parts_of_yes count is pushed n (inr waits) =
        inr (inr (inr (waits_cycle n old.waiting.items parts count pushed waits)))

    pub parts_of_both :
        (p : TreePlace N) → node ≡ on_yes → p.node ≡ on_no → parts ≡ old.waiting.items ++ Part p ∷ [] → (n : N)
        → (node ≡ n) ⊎ Waits n parts → (on_yes ≡ n) ⊎ ((on_no ≡ n) ⊎ HasNode n old)
    parts_of_both p is is_no pushed n (inl here) = inl (sym is ∙ here)
    parts_of_both p is is_no pushed n (inr waits) =
        elim (waits_part n old.waiting.items parts p pushed waits)
        as (λ x. (on_yes ≡ n) ⊎ ((on_no ≡ n) ⊎ HasNode n old)) [
          | inl here ↦ inr (inl (sym is_no ∙ here))
          | inr before ↦ inr (inr (inr before))
        ]

  -- a lemma is begun at a place, which waits
  pub begun_at :
      (at : TreePlace N) (between parts : List (WriterTask N)) (lemma : ℕ) → between ≡ old.waiting.items ++ Part at ∷ []
      → parts ≡ between ++ Learn lemma ∷ [] → (n : N) → (at.node ≡ n) ⊎ Waits n parts → (at.node ≡ n) ⊎ HasNode n old
  begun_at at between parts lemma first last n (inl here) = inl here
  begun_at at between parts lemma first last n (inr waits) =
      elim (waits_part n old.waiting.items between at first (waits_learn n between parts lemma last waits))
      as (λ x. (at.node ≡ n) ⊎ HasNode n old) [
        | inl here ↦ inl here
        | inr before ↦ inr (inr before)
      ]

module _ {N : Type 0} (old new : PlanWalk N) where
  -- nothing changed
  pub others_kept :
      new.present ≡ old.present → new.waiting.items ≡ old.waiting.items → (n : N) → HasNode n new → HasNode n old
  others_kept present waiting n (inl here) = inl (subst (λ (p : Option (TreePlace N)). IsPresent n p) present here)
  others_kept present waiting n (inr waits) = inr (subst (λ (parts : List (WriterTask N)). Waits n parts) waiting waits)

  module _ (is_own : N → Type 0) (own : AreOwnNodes is_own old) where
    pub own_others : HasNoOthers old new → AreOwnNodes is_own new
    own_others others = λ n has. own n (others n has)

    pub own_one_more : (one : N) → is_own one → HasOneMore one old new → AreOwnNodes is_own new
    own_one_more one own_one more = λ n has.
        elim (more n has) as (λ x. is_own n) [ inl is ↦ subst is_own is own_one | inr before ↦ own n before ]

    pub own_parts :
        (on_yes on_no : N) → is_own on_yes → is_own on_no → AddsOnlyParts on_yes on_no old new → AreOwnNodes is_own new
    own_parts on_yes on_no own_yes own_no parts = λ n has.
        elim (parts n has) as (λ x. is_own n) [
          | inl is ↦ subst is_own is own_yes
          | inr rest ↦
              elim rest as (λ x. is_own n) [ inl is ↦ subst is_own is own_no | inr before ↦ own n before ]
        ]

-- the calls of an asker keep its nodes
pub nodes_kept :
    {N S W : Type 0} {was_own is_own : N → Type 0} {old new : Starts N S W} → KeepsStarts was_own is_own old new
    → (w : PlanWalk N) → AreOwnNodes was_own w → AreOwnNodes is_own w
nodes_kept keeps w own = λ n has. (keeps.own n).0 (own n has)

-- the present place's node is one of the asker's own
pub present_own :
    {N : Type 0} (is_own : N → Type 0) (w : PlanWalk N) (p : TreePlace N) → w.present ≡ Some p → AreOwnNodes is_own w
    → is_own p.node
present_own is_own w p present own =
    own p.node (inl (subst (λ (o : Option (TreePlace _)). IsPresent p.node o) (sym present) refl))

-- an asker's own plan is told by the one with its starts
pub root_kept :
    {N S W : Type 0} (old new : Starts N S W) (was now : Plan W) → IsWhole was old → IsWhole now new
    → new.root ≡ old.root → now ≡ was
root_kept old new was now whole_was whole_now same =
    whole_now.same ∙ ap unmarked same ∙ sym whole_was.same

-- and the nodes of lemmas
pub lemmas_kept :
    {N S W : Type 0} {was_own is_own : N → Type 0} {old new : Starts N S W} → KeepsStarts was_own is_own old new
    → (lemmas : List (Lemma N)) → AreOwnLemmas was_own lemmas → AreOwnLemmas is_own lemmas
lemmas_kept keeps lemmas own = λ k d below. (keeps.own (slice_index_or lemmas k d).node).0 (own k d below)
