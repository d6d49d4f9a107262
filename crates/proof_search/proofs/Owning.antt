-- The nodes of a search stay the asker's own.
use Rattle.std.proofs.Common.{◌≡◌, ◌<◌, ℕ, List, [], ◌∷◌, ◌++◌, Option, Some, None, length, get_or, Vec, refl, ap, sym}
use Rattle.std.proofs.Common.{subst, ◌∙◌, ⊎_elim, inl, inr, arith}
use Rattle.std.specs.Prelude.{IfSome}
use Rattle.std.proofs.Math.ListN.{set, length-set}
use Rattle.std.proofs.lemmas.Bool.{cases_eq}
use Rattle.std.proofs.lemmas.List.{get_or-set_same, get_or-set_other, get_or_default, with_items_is}
use Rattle.std.specs.Vec.{with_items}
use Rattle.std.specs.List.{All}
use Rattle.std.proofs.lemmas.List.Elements.{All-weaker, All-push, All-pop}
use Rattle.proof_trees.specs.Starters.{Starts, KeepsStarts}
use Rattle.proof_search.proofs.Keeping.{KeepsStarts-refl, KeepsStarts-trans}
use Rattle.proof_search.specs.declared.under_way.LemmaLevel.{LemmaLevel}
use Rattle.proof_search.specs.declared.lemmas.Lemma.{Lemma}
use Rattle.proof_search.specs.declared.under_way.WaitingPart.{WaitingPart}
use Rattle.proof_search.specs.declared.under_way.Search.{Search}
use Rattle.proof_search.specs.Owning.{AreOwnLemmas, IsOwnSearch, KeepsNodes, KeepsPlaces, BeginsLevel, AddsItem}
use Rattle.proof_search.specs.Owning.{AddsLemma, MayAddItem, HasAskedInSearch, TakesPart, OpensPart, closed_search}

IfSome-weaker : {N : Type 0} (P Q : N → Type 0) → ((n : N) → P n → Q n) → (o : Option N) → IfSome o P → IfSome o Q
IfSome-weaker P Q weaker None own = tt
IfSome-weaker P Q weaker (Some n) own = weaker n own

-- what holds of the nodes of some items holds of the nodes of those that are kept
pub nodes_kept :
    {X N : Type 0} (node_of : X → N) (P : N → Type 0) (old new : List X) → KeepsNodes node_of old new
    → All (λ x. P (node_of x)) old → All (λ x. P (node_of x)) new
nodes_kept node_of P old new keeps all = λ k d below.
    let within : k < length old = omega (arith, keeps.fewer, below) in
    subst P (sym (keeps.nodes k d below)) (all k d within)

-- nothing changes of itself
pub nodes_same : {X N : Type 0} {node_of : X → N} (xs : List X) → KeepsNodes node_of xs xs
nodes_same xs = record { fewer = omega arith; nodes = λ k d below. refl }

-- what is kept twice is kept
pub nodes_kept_twice :
    {X N : Type 0} {node_of : X → N} {first then last : List X} → KeepsNodes node_of first then
    → KeepsNodes node_of then last
    → KeepsNodes node_of first last
nodes_kept_twice {then = then} one two =
    record {
      fewer = omega (arith, one.fewer, two.fewer);
      nodes = λ k d below.
          let within : k < length then = omega (arith, two.fewer, below) in two.nodes k d below ∙ one.nodes k d within;
    }

-- an item may stand where one with its node stood
pub node_set :
    {X N : Type 0} {node_of : X → N} (xs : List X) (place : ℕ) (item d : X) → place < length xs
    → node_of item ≡ node_of (get_or xs place d) → KeepsNodes node_of xs (set xs place item)
node_set {X = X} {node_of = node_of} xs place item d within same = record {
  fewer = omega (arith, length-set {A = X});
  nodes = λ k e below.
      elim (cases_eq k place) [
        | inl here ↦
            rw here
            (ap node_of (get_or-set_same xs place item e within) ∙ same
            ∙ ap node_of (get_or_default xs place d e within))
        | inr other ↦ ap node_of (get_or-set_other xs place k item e other)
      ];
}

-- as many items may be put in a vector
pub items_kept :
    {X Z N : Type 0} {node_of : X → N} (old : Vec X Z) (new : List X) → length new ≡ length old.items
    → KeepsNodes node_of old.items new → KeepsNodes node_of old.items (with_items old new).items
items_kept {X = X} {node_of = node_of} old new len kept =
    subst (λ (xs : List X). KeepsNodes node_of old.items xs) (sym (with_items_is old new (len ∙ sym old.ok.0))) kept

pub places_same : {N : Type 0} (s : Search N) → KeepsPlaces s s
places_same s = record {
  at = refl;
  levels = nodes_same s.levels.items;
  waiting = nodes_same s.waiting.items;
  lemmas = refl;
  asked = refl;
}

pub places_kept :
    {N : Type 0} {first then last : Search N} → KeepsPlaces first then → KeepsPlaces then last → KeepsPlaces first last
places_kept one two = record {
  at = two.at ∙ one.at;
  levels = nodes_kept_twice one.levels two.levels;
  waiting = nodes_kept_twice one.waiting two.waiting;
  lemmas = two.lemmas ∙ one.lemmas;
  asked = two.asked ∙ one.asked;
}

-- and of those to which one with such a node may be added
item_added :
    {X N : Type 0} (node_of : X → N) (P : N → Type 0) (n : N) → P n → (old new : List X) → MayAddItem node_of n old new
    → All (λ x. P (node_of x)) old → All (λ x. P (node_of x)) new
item_added {X = X} node_of P n one old new added all =
    ⊎_elim (λ (e : new ≡ old). subst (λ (xs : List X). All (λ x. P (node_of x)) xs) (sym e) all)
    (λ (a : AddsItem node_of n old new).
    subst (λ (xs : List X). All (λ x. P (node_of x)) xs) (sym a.items)
    (All-push (λ x. P (node_of x)) old a.item all (subst P (sym a.at_node) one)))
    added

module _ {N S W : Type 0} {was_own is_own : N → Type 0} {old new : Starts N S W}
    (keeps : KeepsStarts was_own is_own old new) where
  still_own : (n : N) → was_own n → is_own n
  still_own n own = (keeps.own n).0 own

  -- the calls of an asker keep its nodes
  pub lemmas_kept : (lemmas : List (Lemma N)) → AreOwnLemmas was_own lemmas → AreOwnLemmas is_own lemmas
  lemmas_kept lemmas own = All-weaker (λ l. was_own l.node) (λ l. is_own l.node) (λ l. still_own l.node) lemmas own

  pub search_kept : (s : Search N) → IsOwnSearch was_own s → IsOwnSearch is_own s
  search_kept s own = record {
    at = IfSome-weaker was_own is_own still_own s.at own.at;
    waiting = All-weaker (λ w. was_own w.node) (λ w. is_own w.node) (λ w. still_own w.node) s.waiting.items own.waiting;
    levels = All-weaker (λ l. was_own l.node) (λ l. is_own l.node) (λ l. still_own l.node) s.levels.items own.levels;
    lemmas = lemmas_kept s.lemmas own.lemmas;
  }

module _ {N : Type 0} (is_own : N → Type 0) (old new : Search N) (own : IsOwnSearch is_own old) where
  -- a search in which a level of such a node may be begun has no other nodes
  pub own_level : (n : N) → is_own n → BeginsLevel n old new → IsOwnSearch is_own new
  own_level n one begun = record {
    at = subst (λ (o : Option N). IfSome o is_own) (sym begun.at) own.at;
    waiting = subst (λ (parts : List (WaitingPart N)). All (λ w. is_own w.node) parts) (sym begun.waiting) own.waiting;
    levels =
        item_added (λ l. l.node) is_own n one old.levels.items new.levels.items begun.levels own.levels;
    lemmas = subst (λ (held : List (Lemma N)). AreOwnLemmas is_own held) (sym begun.lemmas) own.lemmas;
  }

  -- nor one that has a lemma more of such a node
  pub own_lemma : (n : N) → is_own n → AddsLemma n old new → IsOwnSearch is_own new
  own_lemma n one added = record {
    at =
        ⊎_elim (λ (e : new.at ≡ old.at). subst (λ (o : Option N). IfSome o is_own) (sym e) own.at)
        (λ (e : new.at ≡ Some n). subst (λ (o : Option N). IfSome o is_own) (sym e) one) added.at;
    waiting = subst (λ (parts : List (WaitingPart N)). All (λ w. is_own w.node) parts) (sym added.waiting) own.waiting;
    levels = subst (λ (held : List (LemmaLevel N)). All (λ l. is_own l.node) held) (sym added.levels) own.levels;
    lemmas = item_added (λ l. l.node) is_own n one old.lemmas new.lemmas added.lemma own.lemmas;
  }

  -- nor one that has asked a question with two such parts
  pub own_asked : (on_yes on_no : N) → is_own on_yes → is_own on_no
      → HasAskedInSearch on_yes on_no old new → IsOwnSearch is_own new
  own_asked on_yes on_no own_yes own_no asked = record {
    at =
        ⊎_elim (λ (e : new.at ≡ Some on_yes). subst (λ (o : Option N). IfSome o is_own) (sym e) own_yes)
        (λ (e : new.at ≡ Some on_no). subst (λ (o : Option N). IfSome o is_own) (sym e) own_no) asked.at;
    waiting =
        item_added (λ w. w.node) is_own on_no own_no old.waiting.items new.waiting.items asked.waiting own.waiting;
    levels = subst (λ (held : List (LemmaLevel N)). All (λ l. is_own l.node) held) (sym asked.levels) own.levels;
    lemmas = subst (λ (held : List (Lemma N)). AreOwnLemmas is_own held) (sym asked.lemmas) own.lemmas;
  }

  own_taken : TakesPart old new → IfSome new.at is_own × All (λ w. is_own w.node) new.waiting.items
  own_taken taken =
      let both =
      All-pop (λ w. is_own w.node) old.waiting.items new.waiting.items (Some taken.part) taken.parts own.waiting in (
        ⊎_elim
            (λ (e : new.at ≡ Some taken.part.node). subst (λ (o : Option N). IfSome o is_own) (sym e) both.1)
            (λ (e : new.at ≡ old.at). subst (λ (o : Option N). IfSome o is_own) (sym e) own.at) taken.at,
        both.0,
      )

  -- nor one that has opened a part that waited
  pub own_opened : OpensPart old new → IsOwnSearch is_own new
  own_opened opens =
      let parts : IfSome new.at is_own × All (λ w. is_own w.node) new.waiting.items =
      ⊎_elim
      (λ (e : (old.waiting.items ≡ []) × (new.waiting.items ≡ old.waiting.items) × (new.at ≡ old.at)). (
        subst (λ (o : Option N). IfSome o is_own) (sym e.2) own.at,
        subst (λ (parts : List (WaitingPart N)). All (λ w. is_own w.node) parts) (sym e.1) own.waiting,
      ))
      own_taken opens.taken in
      record {
        at = parts.0;
        waiting = parts.1;
        levels = subst (λ (held : List (LemmaLevel N)). All (λ l. is_own l.node) held) (sym opens.levels) own.levels;
        lemmas = subst (λ (held : List (Lemma N)). AreOwnLemmas is_own held) (sym opens.lemmas) own.lemmas;
      }

  -- nor one whose levels and waiting parts are those of before, from the outermost one on
  pub own_places : KeepsPlaces old new → IsOwnSearch is_own new
  own_places keeps = record {
    at = subst (λ (o : Option N). IfSome o is_own) (sym keeps.at) own.at;
    waiting = nodes_kept (λ w. w.node) is_own old.waiting.items new.waiting.items keeps.waiting own.waiting;
    levels = nodes_kept (λ l. l.node) is_own old.levels.items new.levels.items keeps.levels own.levels;
    lemmas = subst (λ (lemmas : List (Lemma N)). AreOwnLemmas is_own lemmas) (sym keeps.lemmas) own.lemmas;
  }

  -- nor one that has closed its open place, but for what became of the levels around it
  pub own_closed : KeepsPlaces (closed_search old) new → IsOwnSearch is_own new
  own_closed keeps = record {
    at = subst (λ (o : Option N). IfSome o is_own) (sym keeps.at) tt;
    waiting = nodes_kept (λ w. w.node) is_own old.waiting.items new.waiting.items keeps.waiting own.waiting;
    levels = nodes_kept (λ l. l.node) is_own old.levels.items new.levels.items keeps.levels own.levels;
    lemmas = subst (λ (lemmas : List (Lemma N)). AreOwnLemmas is_own lemmas) (sym keeps.lemmas) own.lemmas;
  }

-- where the innermost level is closed, its node is own, and so are those of the levels around it and of the lemmas
-- with its own one
module _ {N : Type 0} (is_own : N → Type 0) (old new : List (LemmaLevel N)) (level : LemmaLevel N)
    (all : All (λ l. is_own l.node) old)
    (popped : old ≡ new ++ level ∷ []) where
  pub popped_is_own : is_own level.node × All (λ l. is_own l.node) new
  popped_is_own =
      let both = All-pop (λ l. is_own l.node) old new (Some level) popped all in (both.1, both.0)

-- where no place is open, one node fewer is to be own
pub own_none : {N : Type 0} (is_own : N → Type 0) (s : Search N) → IsOwnSearch is_own s
    → IsOwnSearch is_own (closed_search s)
own_none is_own s own = record { at = tt; waiting = own.waiting; levels = own.levels; lemmas = own.lemmas }

pub ruleset keeping = (
  KeepsStarts-refl,
  KeepsStarts-trans,
  search_kept,
  own_level,
  own_asked,
  own_opened,
  own_places,
  own_closed,
  own_none,
)
