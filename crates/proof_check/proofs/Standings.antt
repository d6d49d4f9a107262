-- The changes of open places are those of the tokens, for nodes with their plans.
use Rattle.std.proofs.Common.{◌≡◌, ℕ, ◌<◌, List, [], ◌∷◌, ◌++◌, length, map, drop, Option, Some, None, Ok, true, false}
use Rattle.std.proofs.Common.{arith, refl, sym, ◌∙◌, ap, subst, nat_lt}
use Rattle.std.specs.Prelude.{slice_get}
use Rattle.std.proofs.lemmas.List.{map-append, length-map}
use Rattle.std.proofs.lemmas.Option.{slice_get-map}
use Rattle.std.proofs.lemmas.Bool.Decides.{nat_tests}
use Rattle.diff_graph.specs.declared.lit.Lit.{Lit}
use Rattle.diff_graph.specs.Cycles.{pick_verdict}
use Rattle.ask_core.specs.Trees.{with_answer}
use Rattle.proof_trees.specs.declared.limits.TheConstants.{MAX_LEMMAS}
use Rattle.proof_trees.specs.declared.token.ProofTok.{ProofTok}
use Rattle.proof_trees.specs.declared.token.ProofTok.TheVariants as token
use Rattle.proof_trees.specs.Starts.{MarkedPlan, Ask, Holds, start_of, Comparison, conditions_between}
use Rattle.proof_trees.specs.Proofs.{Learned}
use Rattle.proof_trees.specs.Tokens.{Wanted, wanted_cycles}
use Rattle.proof_trees.specs.Tokens as plan
use Rattle.open_places.specs.declared.places.Known.{Known}
use Rattle.open_places.specs.Places.{WantedAt, Tree, Cycle, Learn, OpenProof, AreSettledPlaces, first_node, first_list}
use Rattle.open_places.specs.Places.{asked, closed, begun, cited, cycles_at, settled_at}
use Rattle.proof_check.specs.Standings.{wanted_of, learned_of, standing_of}
use Rattle.proof_check.specs.Steps.{settled, IsTaken, after_proof_token, after_at_cycle, after_at_tree}

module _ {N S W : Type 0} (marked : N → MarkedPlan S W) where
  abbrev open_at : List (Known N) → List (WantedAt N) → OpenProof N
  open_at known wanted = record { known = known; wanted = wanted }

  -- lemmas that are learned at once are the same
  standing_of-settled :
      (known : List (Known N)) (wanted : List (WantedAt N))
      → settled (map (learned_of marked) known) (map (wanted_of marked) wanted)
      ≡ standing_of marked (settled_at known wanted)
  standing_of-settled known [] = refl
  standing_of-settled known (Tree n w ∷ wanted) = refl
  standing_of-settled known (Cycle w ∷ wanted) = refl
  standing_of-settled known (Learn n ls ∷ wanted) =
      let one : Known N = record { node = n; literals = ls } in
      subst
      (λ (x : List (Learned S W)).
      settled x (map (wanted_of marked) wanted) ≡ standing_of marked (settled_at (known ++ one ∷ []) wanted))
      (map-append (learned_of marked) known (one ∷ []))
      (standing_of-settled (known ++ one ∷ []) wanted)

  -- so are the cycles that are wanted
  wanted_cycles-same :
      (w ls : List Lit) (rest : List (WantedAt N))
      → map (wanted_of marked) (cycles_at w ls ++ rest) ≡ wanted_cycles w ls ++ map (wanted_of marked) rest
  wanted_cycles-same w [] rest = refl
  wanted_cycles-same w (l ∷ ls) rest =
      ap (λ (x : List (Wanted S W)). plan.Cycle (with_answer w l false) ∷ x) (wanted_cycles-same w ls rest)

  module _ (compare : Comparison S) (known : List (Known N)) where
    pub question_taken :
        (wanted : List (WantedAt N)) (n on_yes on_no : N) (l : Lit) (start : Option S) → first_node wanted ≡ Some n
        → marked n ≡ Ask start l (marked on_yes) (marked on_no)
        → IsTaken compare token.Ask (standing_of marked (open_at known wanted))
        (standing_of marked (asked l on_yes on_no (open_at known wanted)))
    question_taken [] n on_yes on_no l start first begins = absurd (cc)
    question_taken (Tree m w ∷ wanted) n on_yes on_no l start first begins =
        let same : m ≡ n = cc in rw (same, begins) refl
    question_taken (Cycle w ∷ wanted) n on_yes on_no l start first begins = absurd (cc)
    question_taken (Learn m ls ∷ wanted) n on_yes on_no l start first begins = absurd (cc)

    pub end_taken :
        (wanted : List (WantedAt N)) (n : N) (start : Option S) → first_node wanted ≡ Some n → marked n ≡ Holds start
        → IsTaken compare token.Holds (standing_of marked (open_at known wanted))
        (standing_of marked (closed (open_at known wanted)))
    end_taken [] n start first begins = absurd (cc)
    end_taken (Tree m w ∷ wanted) n start first begins =
        let same : m ≡ n = cc in rw (same, begins) (ap Ok (standing_of-settled known wanted))
    end_taken (Cycle w ∷ wanted) n start first begins = absurd (cc)
    end_taken (Learn m ls ∷ wanted) n start first begins = absurd (cc)

    pub cycle_taken :
        (wanted : List (WantedAt N)) (picks : List ℕ) → AreSettledPlaces wanted → 0 < length wanted
        → pick_verdict (first_list wanted) picks ≡ Ok tt
        → IsTaken compare (token.Cycle picks) (standing_of marked (open_at known wanted))
        (standing_of marked (closed (open_at known wanted)))
    cycle_taken [] picks settled some is = absurd (omega arith)
    cycle_taken (Tree m w ∷ wanted) picks settled some is = rw is (ap Ok (standing_of-settled known wanted))
    cycle_taken (Cycle w ∷ wanted) picks settled some is = rw is (ap Ok (standing_of-settled known wanted))
    cycle_taken (Learn m ls ∷ wanted) picks settled some is = absurd settled

    -- a lemma's token is taken at a place with a start, where few lemmas are known
    pub lemma_taken :
        (wanted : List (WantedAt N)) (n : N) (s : S) (ls : List Lit) → first_node wanted ≡ Some n
        → start_of (marked n) ≡ Some s → length known < MAX_LEMMAS
        → IsTaken compare (token.Lemma ls) (standing_of marked (open_at known wanted))
        (standing_of marked (begun n ls (open_at known wanted)))
    lemma_taken [] n s ls first begins few = absurd (cc)
    lemma_taken (Tree m w ∷ wanted) n s ls first begins few =
        let same : m ≡ n = cc in
        let count : length (map (learned_of marked) known) ≡ length known = length-map known (learned_of marked) in
        let fewer : nat_lt (length (map (learned_of marked) known)) MAX_LEMMAS ≡ true =
        rw count (grind (arith, nat_tests, few)) in
        rw (same, begins, fewer) refl
    lemma_taken (Cycle w ∷ wanted) n s ls first begins few = absurd (cc)
    lemma_taken (Learn m ls ∷ wanted) n s others first begins few = absurd (cc)

    -- a citation's token is taken where the lemma is known and its start compares with the one here
    pub citation_taken :
        (wanted : List (WantedAt N)) (n : N) (s : S) (number : ℕ) (k : Known N) (es : List Lit)
        → first_node wanted ≡ Some n
        → start_of (marked n) ≡ Some s → slice_get known number ≡ Some k
        → conditions_between compare (start_of (marked k.node)) (start_of (marked n)) ≡ Some es
        → IsTaken compare (token.Cite number) (standing_of marked (open_at known wanted))
        (standing_of marked (cited (k.literals ++ es) (open_at known wanted)))
    citation_taken [] n s number k es first begins found compared = absurd (cc)
    citation_taken (Tree m w ∷ wanted) n s number k es first begins found compared =
        let same : m ≡ n = cc in
        let there = rw found at (slice_get-map (learned_of marked) known number) in
        let conditions : conditions_between compare (start_of (marked k.node)) (Some s) ≡ Some es =
        rw begins at compared in
        rw (same, begins, there, conditions)
        (ap Ok
        (ap (λ (x : List (Wanted S W)). settled (map (learned_of marked) known) x)
        (sym (wanted_cycles-same w (k.literals ++ es) wanted))
        ∙ standing_of-settled known (cycles_at w (k.literals ++ es) ++ wanted)))
    citation_taken (Cycle w ∷ wanted) n s number k es first begins found compared = absurd (cc)
    citation_taken (Learn m ls ∷ wanted) n s number k es first begins found compared = absurd (cc)

    -- any token at the first place, where a tree is wanted there
    pub after_first_tree :
        (wanted : List (WantedAt N)) (tok : ProofTok) (n : N) → first_node wanted ≡ Some n
        → after_proof_token compare tok (map (learned_of marked) known) (map (wanted_of marked) wanted)
        ≡ after_at_tree compare tok (map (learned_of marked) known) (marked n) (first_list wanted)
        (drop 1 (map (wanted_of marked) wanted))
    after_first_tree [] tok n first = absurd (cc)
    after_first_tree (Tree m w ∷ wanted) tok n first = let same : m ≡ n = cc in rw same refl
    after_first_tree (Cycle w ∷ wanted) tok n first = absurd (cc)
    after_first_tree (Learn m ls ∷ wanted) tok n first = absurd (cc)

    -- and where a cycle is wanted
    pub after_first_cycle :
        (wanted : List (WantedAt N)) (tok : ProofTok) → AreSettledPlaces wanted → 0 < length wanted
        → first_node wanted ≡ None
        → after_proof_token compare tok (map (learned_of marked) known) (map (wanted_of marked) wanted)
        ≡ after_at_cycle tok (map (learned_of marked) known) (first_list wanted)
        (drop 1 (map (wanted_of marked) wanted))
    after_first_cycle [] tok settled some none = absurd (omega arith)
    after_first_cycle (Tree m w ∷ wanted) tok settled some none = absurd (cc)
    after_first_cycle (Cycle w ∷ wanted) tok settled some none = refl
    after_first_cycle (Learn m ls ∷ wanted) tok settled some none = absurd settled
