-- What the calls of an asker keep of the open places, and which nodes the changes of places have.
use Rattle.std.proofs.Common.{◌≡◌, ℕ, List, [], ◌∷◌, ◌++◌, map, drop, Some, zero, suc, refl, subst}
use Rattle.std.specs.Prelude.{slice_get}
use Rattle.std.specs.List.{AllByRecursion}
use Rattle.diff_graph.specs.declared.lit.Lit.{Lit}
use Rattle.proof_trees.specs.Starters.{Starts, KeepsStarts}
use Rattle.open_places.specs.declared.places.Known.{Known}
use Rattle.open_places.specs.Places.{WantedAt, Tree, Cycle, Learn, OpenProof, IsOwnPlace, AreOwnPlaces, first_node}
use Rattle.open_places.specs.Places.{first_list, settled_at, asked, closed, begun, cited, cycles_at}
use Rattle.proof_check.specs.Standings.{wanted_of, learned_of, standing_of}

module _ {N : Type 0} (is_own : N → Type 0) where
  abbrev AreOwnKnown : List (Known N) → Type 0
  AreOwnKnown known = AllByRecursion (λ k. is_own k.node) known

  abbrev AreOwnWanted : List (WantedAt N) → Type 0
  AreOwnWanted wanted = AllByRecursion (λ x. IsOwnPlace is_own x) wanted

  -- the nodes of a place and of a lemma
  pub first_is_own : (wanted : List (WantedAt N)) (n : N) → AreOwnWanted wanted → first_node wanted ≡ Some n → is_own n
  first_is_own [] n own first = absurd (cc)
  first_is_own (Tree m w ∷ wanted) n own first = let same : m ≡ n = cc in subst is_own same own.0
  first_is_own (Cycle w ∷ wanted) n own first = absurd (cc)
  first_is_own (Learn m ls ∷ wanted) n own first = absurd (cc)

  pub lemma_is_own :
      (known : List (Known N)) (number : ℕ) (k : Known N) → AreOwnKnown known → slice_get known number ≡ Some k
      → is_own k.node
  lemma_is_own [] number k own found = absurd (cc)
  lemma_is_own (x ∷ known) zero k own found =
      let same : x ≡ k = cc in subst (λ (y : Known N). is_own y.node) same own.0
  lemma_is_own (x ∷ known) (suc number) k own found = lemma_is_own known number k own.1 found

  own_rest : (wanted : List (WantedAt N)) → AreOwnWanted wanted → AreOwnWanted (drop 1 wanted)
  own_rest [] own = tt
  own_rest (x ∷ wanted) own = own.1

  own_with : (known : List (Known N)) (k : Known N) → AreOwnKnown known → is_own k.node → AreOwnKnown (known ++ k ∷ [])
  own_with [] k own one = (one, tt)
  own_with (x ∷ known) k own one = (own.0, own_with known k own.1 one)

  own_settled :
      (known : List (Known N)) (wanted : List (WantedAt N)) → AreOwnKnown known → AreOwnWanted wanted
      → AreOwnPlaces is_own (settled_at known wanted)
  own_settled known [] ok own = (ok, tt)
  own_settled known (Tree n w ∷ wanted) ok own = (ok, own)
  own_settled known (Cycle w ∷ wanted) ok own = (ok, own)
  own_settled known (Learn n ls ∷ wanted) ok own =
      own_settled (known ++ record { node = n; literals = ls } ∷ []) wanted
      (own_with known (record { node = n; literals = ls }) ok own.0) own.1

  own_cycles :
      (w ls : List Lit) (rest : List (WantedAt N)) → AreOwnWanted rest → AreOwnWanted (cycles_at w ls ++ rest)
  own_cycles w [] rest own = own
  own_cycles w (l ∷ ls) rest own = (tt, own_cycles w ls rest own)

  module _ (p : OpenProof N) (own : AreOwnPlaces is_own p) where
    pub own_closed : AreOwnPlaces is_own (closed p)
    own_closed = own_settled p.known (drop 1 p.wanted) own.0 (own_rest p.wanted own.1)

    pub own_asked : (l : Lit) (on_yes on_no : N) → is_own on_yes → is_own on_no
        → AreOwnPlaces is_own (asked l on_yes on_no p)
    own_asked l on_yes on_no own_yes own_no = (own.0, (own_yes, (own_no, own_rest p.wanted own.1)))

    pub own_begun : (n : N) (ls : List Lit) → is_own n → AreOwnPlaces is_own (begun n ls p)
    own_begun n ls one = (own.0, (one, (one, (one, own_rest p.wanted own.1))))

    pub own_cited : (ls : List Lit) → AreOwnPlaces is_own (cited ls p)
    own_cited ls =
        own_settled p.known (cycles_at (first_list p.wanted) ls ++ drop 1 p.wanted) own.0
        (own_cycles (first_list p.wanted) ls (drop 1 p.wanted) (own_rest p.wanted own.1))

module _ {N S W : Type 0} {was_own is_own : N → Type 0} {old new : Starts N S W}
    (keeps : KeepsStarts was_own is_own old new) where
  known_stand :
      (known : List (Known N)) → AllByRecursion (λ k. was_own k.node) known
      → map (learned_of new.marked) known ≡ map (learned_of old.marked) known
  known_stand [] own = refl
  known_stand (k ∷ known) own = rw (keeps.plans k.node own.0, known_stand known own.1) refl

  wanted_stand :
      (wanted : List (WantedAt N)) → AllByRecursion (λ x. IsOwnPlace was_own x) wanted
      → map (wanted_of new.marked) wanted ≡ map (wanted_of old.marked) wanted
  wanted_stand [] own = refl
  wanted_stand (Tree n w ∷ wanted) own = rw (keeps.plans n own.0, wanted_stand wanted own.1) refl
  wanted_stand (Cycle w ∷ wanted) own = rw (wanted_stand wanted own.1) refl
  wanted_stand (Learn n ls ∷ wanted) own = rw (keeps.plans n own.0, wanted_stand wanted own.1) refl

  -- own places keep their standing
  pub standing_kept : (p : OpenProof N) → AreOwnPlaces was_own p → standing_of new.marked p ≡ standing_of old.marked p
  standing_kept p own = rw (known_stand p.known own.0, wanted_stand p.wanted own.1) refl

  known_kept :
      (known : List (Known N)) → AllByRecursion (λ k. was_own k.node) known → AllByRecursion (λ k. is_own k.node) known
  known_kept [] own = tt
  known_kept (k ∷ known) own = ((keeps.own k.node).0 own.0, known_kept known own.1)

  place_kept : (x : WantedAt N) → IsOwnPlace was_own x → IsOwnPlace is_own x
  place_kept (Tree n w) own = (keeps.own n).0 own
  place_kept (Cycle w) own = own
  place_kept (Learn n ls) own = (keeps.own n).0 own

  wanted_kept :
      (wanted : List (WantedAt N)) → AllByRecursion (λ x. IsOwnPlace was_own x) wanted
      → AllByRecursion (λ x. IsOwnPlace is_own x) wanted
  wanted_kept [] own = tt
  wanted_kept (x ∷ wanted) own = (place_kept x own.0, wanted_kept wanted own.1)

  -- and stay own
  pub own_kept : (p : OpenProof N) → AreOwnPlaces was_own p → AreOwnPlaces is_own p
  own_kept p own = (known_kept p.known own.0, wanted_kept p.wanted own.1)

-- nothing changes of itself
pub KeepsStarts-refl : {N S W : Type 0} (is_own : N → Type 0) (starts : Starts N S W)
    → KeepsStarts is_own is_own starts starts
KeepsStarts-refl is_own starts = record {
  own = λ n. (λ own. own, λ own. own);
  plans = λ n own. refl;
  root = refl;
  compare = refl;
  meaning = refl;
}
