-- Why a citation is refused at open places.
use Rattle.std.proofs.Common.{◌≡◌, ℕ, ◌<◌, List, length, map, drop, Option, Some, None, Err, true, false, refl, sym}
use Rattle.std.proofs.Common.{◌∙◌, subst}
use Rattle.std.specs.Prelude.{slice_get}
use Rattle.std.specs.Option.{is_some, option_map}
use Rattle.std.proofs.lemmas.Option.{slice_get-map}
use Rattle.diff_graph.specs.declared.lit.Lit.{Lit}
use Rattle.proof_trees.specs.declared.token.ProofTok.TheVariants as token
use Rattle.proof_trees.specs.Starts.{start_of, Comparison, conditions_between}
use Rattle.proof_trees.specs.Starters.{Starts, KeepsStarts}
use Rattle.proof_trees.specs.Proofs.{Learned}
use Rattle.proof_trees.specs.Tokens.{Wanted}
use Rattle.open_places.specs.declared.places.Known.{Known}
use Rattle.open_places.specs.Places.{OpenProof, AreOwnPlaces, AreSettledPlaces, first_node, first_list}
use Rattle.proof_check.specs.declared.verdict.ProofError.TheVariants as error
use Rattle.proof_check.specs.Standings.{wanted_of, learned_of}
use Rattle.proof_check.specs.Steps.{Standing, after_citation}
use Rattle.proof_check.specs.Judging.{IsRefusedBy, standing_over}
use Rattle.proof_check.proofs.Keeping.{first_is_own, lemma_is_own, standing_kept}
use Rattle.proof_check.proofs.Standings.{after_first_tree, after_first_cycle}
use Rattle.proof_check.proofs.Taking.{lemma_found}

pub none_of : {X : Type 0} (o : Option X) → ((x : X) → o ≡ Some x → ⊥) → o ≡ None
none_of None none = refl
none_of (Some x) none = absurd (none x refl)

none_found : {X Y : Type 0} (f : X → Y) (o : Option X) → option_map f o ≡ None → o ≡ None
none_found f None none = refl
none_found f (Some x) none = absurd (cc)

module _ {S W : Type 0} (compare : Comparison S) (start : Option S) (found : Option (Learned S W))
    (known : List (Learned S W))
    (w : List Lit) (wanted : List (Wanted S W)) where
  no_start : start ≡ None → after_citation compare start found known w wanted ≡ Err error.NoStart
  no_start none = rw none refl

  unknown_lemma : (s : S) → start ≡ Some s → found ≡ None
      → after_citation compare start found known w wanted ≡ Err error.UnknownLemma
  unknown_lemma s some none = rw (some, none) refl

  other_start :
      (s : S) (l : Learned S W) → start ≡ Some s → found ≡ Some l
      → conditions_between compare (start_of l.plan) start ≡ None
      → after_citation compare start found known w wanted ≡ Err error.OtherStart
  other_start s l some is none =
      let other : conditions_between compare (start_of l.plan) (Some s) ≡ None = rw some at none in
      rw (some, is, other) refl

start_there : {S : Type 0} (start : Option S) → is_some start ≡ true → (s : S) × (start ≡ Some s)
start_there None there = absurd (cc)
start_there (Some s) there = (s, refl)

no_start_there : {S : Type 0} (start : Option S) → is_some start ≡ false → start ≡ None
no_start_there None there = refl
no_start_there (Some s) there = absurd (cc)

module _ {N S W : Type 0} (starts : Starts N S W) (p : OpenProof N) (number : ℕ) where
  abbrev known_there : List (Learned S W)
  known_there = map (learned_of starts.marked) p.known

  abbrev wanted_behind : List (Wanted S W)
  wanted_behind = drop 1 (map (wanted_of starts.marked) p.wanted)

  -- no tree is wanted there
  pub refused_at_cycle :
      AreSettledPlaces p.wanted → 0 < length p.wanted → ((n : N) → first_node p.wanted ≡ Some n → ⊥)
      → IsRefusedBy starts.compare error.NoStart (token.Cite number) (standing_over starts p)
  refused_at_cycle settled some none =
      after_first_cycle starts.marked starts.compare p.known p.wanted (token.Cite number) settled some
      (none_of (first_node p.wanted) none)

  module _ (n : N) (first : first_node p.wanted ≡ Some n) where
    -- no start is there
    pub refused_without_start :
        is_some (start_of (starts.marked n)) ≡ false
        → IsRefusedBy starts.compare error.NoStart (token.Cite number) (standing_over starts p)
    refused_without_start begins =
        after_first_tree starts.marked starts.compare p.known p.wanted (token.Cite number) n first
        ∙ no_start starts.compare (start_of (starts.marked n)) (slice_get known_there number) known_there
        (first_list p.wanted) wanted_behind (no_start_there (start_of (starts.marked n)) begins)

    -- the lemma is not known
    pub refused_unknown :
        is_some (start_of (starts.marked n)) ≡ true → option_map (λ k. k.node) (slice_get p.known number) ≡ None
        → IsRefusedBy starts.compare error.UnknownLemma (token.Cite number) (standing_over starts p)
    refused_unknown begins none =
        let here = start_there (start_of (starts.marked n)) begins in
        let unknown = none_found (λ (k : Known N). k.node) (slice_get p.known number) none in
        after_first_tree starts.marked starts.compare p.known p.wanted (token.Cite number) n first
        ∙ unknown_lemma starts.compare (start_of (starts.marked n)) (slice_get known_there number)
        known_there (first_list p.wanted)
        wanted_behind here.0 here.1 (rw unknown at (slice_get-map (learned_of starts.marked) p.known number))

    -- its start does not compare with the one here
    pub refused_other :
        (lemma : N) → is_some (start_of (starts.marked n)) ≡ true
        → option_map (λ k. k.node) (slice_get p.known number) ≡ Some lemma
        → conditions_between starts.compare (start_of (starts.marked lemma)) (start_of (starts.marked n)) ≡ None
        → IsRefusedBy starts.compare error.OtherStart (token.Cite number) (standing_over starts p)
    refused_other lemma begins found none =
        let here = start_there (start_of (starts.marked n)) begins in
        let k = lemma_found p.known number lemma found in
        let other : conditions_between starts.compare (start_of (starts.marked k.0.node))
        (start_of (starts.marked n)) ≡ None =
        subst (λ (m : N). conditions_between starts.compare (start_of (starts.marked m)) (start_of (starts.marked n))
        ≡ None) (sym k.2) none in
        after_first_tree starts.marked starts.compare p.known p.wanted (token.Cite number) n first
        ∙ other_start starts.compare (start_of (starts.marked n)) (slice_get known_there number) known_there
        (first_list p.wanted) wanted_behind here.0 (learned_of starts.marked k.0) here.1
        (rw k.1 at (slice_get-map (learned_of starts.marked) p.known number)) other

-- the same where the starts compare after a call
pub refused_other_since :
    {N S W : Type 0} {was_own is_own : N → Type 0} {old new : Starts N S W} → KeepsStarts was_own is_own old new
    → (p : OpenProof N) → AreOwnPlaces was_own p → (number : ℕ) (n : N) → first_node p.wanted ≡ Some n → (lemma : N)
    → is_some (start_of (old.marked n)) ≡ true → option_map (λ k. k.node) (slice_get p.known number) ≡ Some lemma
    → conditions_between new.compare (start_of (new.marked lemma)) (start_of (new.marked n)) ≡ None
    → IsRefusedBy old.compare error.OtherStart (token.Cite number) (standing_over old p)
refused_other_since {S = S} {W = W} {was_own = was_own} {old = old} {new = new} keeps p own number n first
    lemma begins found none =
    let begun : is_some (start_of (new.marked n)) ≡ true =
    rw (keeps.plans n (first_is_own was_own p.wanted n own.1 first)) begins in
    let refused = refused_other new p number n first lemma begun found none in
    let at_old : IsRefusedBy new.compare error.OtherStart (token.Cite number) (standing_over old p) =
    subst (λ (s : Standing S W). IsRefusedBy new.compare error.OtherStart (token.Cite number) s)
    (standing_kept keeps p own) refused in
    subst (λ (c : Comparison S). IsRefusedBy c error.OtherStart (token.Cite number) (standing_over old p)) keeps.compare
    at_old

-- the lemma's node is one of the asker's own
pub cited_is_own :
    {N : Type 0} (is_own : N → Type 0) (p : OpenProof N) → AreOwnPlaces is_own p → (number : ℕ) (lemma : N)
    → option_map (λ k. k.node) (slice_get p.known number) ≡ Some lemma → is_own lemma
cited_is_own is_own p own number lemma found =
    let k = lemma_found p.known number lemma found in
    subst is_own k.2 (lemma_is_own is_own p.known number k.0 own.0 k.1)

pub cited_is_known :
    {N : Type 0} (p : OpenProof N) (number : ℕ) (lemma : N)
    → option_map (λ k. k.node) (slice_get p.known number) ≡ Some lemma
    → number < length p.known
cited_is_known p number lemma found = (lemma_found p.known number lemma found).4
