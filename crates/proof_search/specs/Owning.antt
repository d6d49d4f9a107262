-- Which nodes lemmas and searches have, and that these are an asker's own.
use Rattle.std.specs.Prelude.{◌≡◌, ◌⊎◌, ℕ, ◌+◌, ◌<◌, ◌≤◌, List, [], ◌∷◌, ◌++◌, Some, None, IfSome, slice_get}
use Rattle.std.specs.Prelude.{slice_index_or, length}
use Rattle.std.specs.List.{All}
use Rattle.proof_search.specs.declared.lemmas.Lemma.{Lemma}
use Rattle.proof_search.specs.declared.under_way.WaitingPart.{WaitingPart}
use Rattle.proof_search.specs.declared.under_way.Search.{Search}
use Rattle.proof_trees.specs.Starts.{start_of, conditions_between}
use Rattle.proof_trees.specs.Starters.{Starts}
use Rattle.proof_search.specs.declared.blame.Mended.{Mended}
use Rattle.proof_search.specs.declared.blame.Mended.TheVariants as mended
use Rattle.proof_search.specs.declared.service.ServingLemma.{ServingLemma}

-- the nodes of the lemmas are the asker's own
abbrev pub AreOwnLemmas : {N : Type 0} → (N → Type 0) → List (Lemma N) → Type 0
AreOwnLemmas is_own lemmas = All (λ l. is_own l.node) lemmas

-- the lemma stands in the list, and its start compares with that of the node under the conditions
abbrev pub ServesNode : {N S W : Type 0} → Starts N S W → List (Lemma N) → N → ServingLemma → Type 0
ServesNode {N = N} starts lemmas here s =
    (l : Lemma N) × (slice_get lemmas s.place ≡ Some l)
    × (conditions_between starts.compare (start_of (starts.marked l.node)) (start_of (starts.marked here))
    ≡ Some s.conditions)

-- each node that a search has is the asker's own
pub record IsOwnSearch {N : Type 0} (is_own : N → Type 0) (s : Search N) : Type 0 where
  pub at : IfSome s.at is_own
  pub waiting : All (λ w. is_own w.node) s.waiting.items
  pub levels : All (λ l. is_own l.node) s.levels.items
  pub lemmas : AreOwnLemmas is_own s.lemmas

-- there are no more items than before, and each has the node of the one that stood at its place
pub record KeepsNodes {X N : Type 0} (node_of : X → N) (old new : List X) : Type 0 where
  pub fewer : length new ≤ length old
  pub nodes : (k : ℕ) (d : X) → k < length new → node_of (slice_index_or new k d) ≡ node_of (slice_index_or old k d)

-- the levels and the parts that wait are those of before, from the outermost one on
pub record KeepsPlaces {N : Type 0} (old new : Search N) : Type 0 where
  pub at : new.at ≡ old.at
  pub levels : KeepsNodes (λ l. l.node) old.levels.items new.levels.items
  pub waiting : KeepsNodes (λ w. w.node) old.waiting.items new.waiting.items
  pub lemmas : new.lemmas ≡ old.lemmas
  pub asked : new.asked ≡ old.asked

-- the open place is closed
abbrev pub closed_search : {N : Type 0} → Search N → Search N
closed_search s = record s { at = None }

-- an item with the node stands at the end now
pub record AddsItem {X N : Type 0} (node_of : X → N) (n : N) (old new : List X) : Type 0 where
  pub item : X
  pub at_node : node_of item ≡ n
  pub items : new ≡ old ++ item ∷ []

-- the items are those of before, or one with the node stands at the end now
abbrev pub MayAddItem : {X N : Type 0} → (X → N) → N → List X → List X → Type 0
MayAddItem node_of n old new = (new ≡ old) ⊎ AddsItem node_of n old new

-- a level of the node is begun, or none is
pub record BeginsLevel {N : Type 0} (n : N) (old new : Search N) : Type 0 where
  pub levels : MayAddItem (λ l. l.node) n old.levels.items new.levels.items
  pub waiting : new.waiting.items ≡ old.waiting.items
  pub at : new.at ≡ old.at
  pub lemmas : new.lemmas ≡ old.lemmas
  pub asked : new.asked ≡ old.asked

-- one of two parts is open now, and if another one waits, it is that for no
pub record HasAskedInSearch {N : Type 0} (on_yes on_no : N) (old new : Search N) : Type 0 where
  pub at : (new.at ≡ Some on_yes) ⊎ (new.at ≡ Some on_no)
  pub waiting : MayAddItem (λ w. w.node) on_no old.waiting.items new.waiting.items
  pub levels : new.levels.items ≡ old.levels.items
  pub lemmas : new.lemmas ≡ old.lemmas
  pub asked : new.asked ≡ old.asked + 1

-- a lemma of the node may be known now, and what is open is as before or its start
pub record AddsLemma {N : Type 0} (n : N) (old new : Search N) : Type 0 where
  pub lemma : MayAddItem (λ l. l.node) n old.lemmas new.lemmas
  pub at : (new.at ≡ old.at) ⊎ (new.at ≡ Some n)
  pub waiting : new.waiting.items ≡ old.waiting.items
  pub levels : new.levels.items ≡ old.levels.items
  pub asked : new.asked ≡ old.asked

-- the innermost part that waits is taken, and is open now, or what was open before is so
pub record TakesPart {N : Type 0} (old new : Search N) : Type 0 where
  pub part : WaitingPart N
  pub parts : old.waiting.items ≡ new.waiting.items ++ part ∷ []
  pub at : (new.at ≡ Some part.node) ⊎ (new.at ≡ old.at)

-- a part is taken, or none waits; the rest stays
pub record OpensPart {N : Type 0} (old new : Search N) : Type 0 where
  pub taken : ((old.waiting.items ≡ []) × (new.waiting.items ≡ old.waiting.items) × (new.at ≡ old.at))
      ⊎ TakesPart old new
  pub levels : new.levels.items ≡ old.levels.items
  pub lemmas : new.lemmas ≡ old.lemmas
  pub asked : new.asked ≡ old.asked

-- a level that no integers lead to is one of so many
abbrev pub IsMendedWithin : ℕ → Mended → Type 0
IsMendedWithin count mended.All = Unit {0}
IsMendedWithin count (mended.Unreachable number) = number < count
IsMendedWithin count mended.Unexplained = Unit {0}
