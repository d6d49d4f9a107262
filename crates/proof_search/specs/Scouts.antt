-- How scouts change a search.
use Rattle.std.specs.Prelude.{◌≡◌, ◌⊎◌, ℕ, ◌<◌, List, [], ◌∷◌, ◌++◌, Option, Some, length, slice_index_or}
use Rattle.proof_search.specs.declared.under_way.LemmaLevel.{LemmaLevel}
use Rattle.proof_search.specs.declared.under_way.Search.{Search}
use Rattle.proof_search.specs.Owning.{AddsItem, KeepsNodes, KeepsPlaces}

-- a level of the node of one is begun, and its start is open
pub record BeginsAnew {N : Type 0} (level : LemmaLevel N) (old new : Search N) : Type 0 where
  pub levels : AddsItem (λ l. l.node) level.node old.levels.items new.levels.items
  pub at : new.at ≡ Some level.node
  pub waiting : KeepsNodes (λ w. w.node) old.waiting.items new.waiting.items
  pub lemmas : new.lemmas ≡ old.lemmas
  pub asked : new.asked ≡ old.asked

-- one of the same node stands in the place of the innermost level, and what is open is as before or its start
pub record RenewsLevel {N : Type 0} (old new : Search N) : Type 0 where
  pub level : LemmaLevel N
  pub around : List (LemmaLevel N)
  pub was : old.levels.items ≡ around ++ level ∷ []
  pub levels : AddsItem (λ l. l.node) level.node around new.levels.items
  pub at : (new.at ≡ old.at) ⊎ (new.at ≡ Some level.node)
  pub waiting : KeepsNodes (λ w. w.node) old.waiting.items new.waiting.items
  pub lemmas : new.lemmas ≡ old.lemmas
  pub asked : new.asked ≡ old.asked

-- so, or there is no level
abbrev pub MayRenewLevel : {N : Type 0} → Search N → Search N → Type 0
MayRenewLevel old new = KeepsPlaces old new ⊎ RenewsLevel old new

-- the node is that of a level
pub record IsAtLevel {N : Type 0} (levels : List (LemmaLevel N)) (at : Option N) : Type 0 where
  pub number : ℕ
  pub other : LemmaLevel N
  pub within : number < length levels
  pub node : at ≡ Some (slice_index_or levels number other).node

-- the levels and the parts that wait are those of before, from the outermost one on,
-- and what is open is as before or the start of a level
pub record GoesBack {N : Type 0} (old new : Search N) : Type 0 where
  pub at : (new.at ≡ old.at) ⊎ IsAtLevel old.levels.items new.at
  pub levels : KeepsNodes (λ l. l.node) old.levels.items new.levels.items
  pub waiting : KeepsNodes (λ w. w.node) old.waiting.items new.waiting.items
  pub lemmas : new.lemmas ≡ old.lemmas
  pub asked : new.asked ≡ old.asked

-- the search that keeps the places of the one goes back to the other
pub record MayGoBack {N : Type 0} (old new : Search N) : Type 0 where
  pub before : Search N
  pub places : KeepsPlaces old before
  pub back : GoesBack before new
