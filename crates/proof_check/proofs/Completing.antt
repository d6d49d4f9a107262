-- What completes what is wanted after a token, by what the token leaves of it.
use Rattle.std.proofs.Common.{◌≡◌, ◌↔◌, ℕ, ◌≤◌, ◌<◌, List, [], ◌∷◌, ◌++◌, length, true, Result, Ok, Err, Option, Some}
use Rattle.std.proofs.Common.{None, inl, inr, arith, refl, subst, sym, ap, ◌∙◌, append_assoc, nat_lt}
use Rattle.std.specs.Prelude.{slice_get}
use Rattle.std.proofs.lemmas.Bool.{cases_Bool}
use Rattle.std.proofs.lemmas.Bool.Decides.{nat_tests}
use Rattle.diff_graph.specs.declared.lit.Lit.{Lit}
use Rattle.diff_graph.specs.declared.lit.PickError.{PickError}
use Rattle.diff_graph.specs.Cycles.{pick_verdict}
use Rattle.ask_core.specs.declared.picks.TheConstants.{MAX_PICKS}
use Rattle.ask_core.specs.Trees.{IsCycleAmong}
use Rattle.proof_trees.specs.declared.limits.TheConstants.{MAX_LEMMAS, MAX_LITERALS}
use Rattle.proof_trees.specs.declared.token.ProofTok.{ProofTok}
use Rattle.proof_trees.specs.declared.token.ProofTok.TheVariants as token
use Rattle.proof_trees.specs.Starts.{MarkedPlan, Ask, Holds, Fails, start_of, Comparison, conditions_between}
use Rattle.proof_trees.specs.Proofs.{ProofTree, Question, End, Impossible, Lemma, Citation, Learned, with_lemma}
use Rattle.proof_trees.specs.Proofs.{learned, MayLearn, EachFollows, FollowsUnder, Serves, Shows}
use Rattle.proof_trees.specs.Tokens.{proof_tokens_of, cycle_tokens, Wanted, Tree, Cycle, Learn, wanted_cycles}
use Rattle.proof_trees.specs.Tokens.{CompletesWanted, HasFew}
use Rattle.proof_check.specs.declared.verdict.ProofError.{ProofError}
use Rattle.proof_check.specs.Steps.{Standing, settled, after_proof_question, after_end, after_cycle, after_lemma}
use Rattle.proof_check.specs.Steps.{after_comparison, after_citation, after_at_tree, after_at_cycle, after_proof_token}

-- no numbers are no cycle
cycle_has_picks : (w : List Lit) (picks : List ℕ) → pick_verdict w picks ≡ Ok tt → 1 ≤ length picks
cycle_has_picks w [] ok = absurd (cc)
cycle_has_picks w (n ∷ picks) ok = omega arith

-- where no start is, none compares
no_start_no_conditions : {S : Type 0} (compare : Comparison S) (s : Option S) → conditions_between compare s None ≡ None
no_start_no_conditions compare None = refl
no_start_no_conditions compare (Some s) = refl

module _ {S W : Type 0} (compare : Comparison S) where
  -- the tokens complete what a token left, if it was taken
  abbrev pub IsCompleted : List ProofTok → Result (Standing S W) ProofError → Type 0
  IsCompleted tokens (Ok next) = CompletesWanted compare tokens next.wanted next.known
  IsCompleted tokens (Err why) = ⊥

  -- lemmas that are learned at once take no token
  CompletesWanted-settled :
      (tokens : List ProofTok) (known : List (Learned S W)) (wanted : List (Wanted S W))
      → (CompletesWanted compare tokens wanted known ↔ IsCompleted tokens (Ok (settled known wanted)))
  CompletesWanted-settled tokens known [] = (λ rest. rest, λ rest. rest)
  CompletesWanted-settled tokens known (Tree p w ∷ wanted) = (λ rest. rest, λ rest. rest)
  CompletesWanted-settled tokens known (Cycle w ∷ wanted) = (λ rest. rest, λ rest. rest)
  CompletesWanted-settled tokens known (Learn p ls ∷ wanted) =
      CompletesWanted-settled tokens (with_lemma known p ls) wanted

  module _ (known : List (Learned S W)) (w : List Lit) (wanted : List (Wanted S W)) (tokens : List ProofTok) where
    -- a cycle
    cycle_taken :
        (picks : List ℕ) (verdict : Result (Unit {0}) PickError) → pick_verdict w picks ≡ verdict → IsCycleAmong w picks
        → CompletesWanted compare tokens wanted known → IsCompleted tokens (after_cycle verdict known wanted)
    cycle_taken picks (Ok done) same is later = (CompletesWanted-settled tokens known wanted).0 later
    cycle_taken picks (Err why) same is later =
        let wrong : ◌≡◌ {A = Result (Unit {0}) PickError} (Ok tt) (Err why) = sym is.2 ∙ same in absurd (cc)

    cycle_begun :
        (picks : List ℕ) (verdict : Result (Unit {0}) PickError) → pick_verdict w picks ≡ verdict
        → length picks ≤ MAX_PICKS → IsCompleted tokens (after_cycle verdict known wanted)
        → IsCycleAmong w picks × CompletesWanted compare tokens wanted known
    cycle_begun picks (Ok done) same few later =
        ((cycle_has_picks w picks same, few, same), (CompletesWanted-settled tokens known wanted).1 later)
    cycle_begun picks (Err why) same few none = absurd none

    -- a lemma at this start
    lemma_taken :
        (start : Option S) (p : MarkedPlan S W) (ls : List Lit) (t u : ProofTree) (rest : List ProofTok)
        → MayLearn start ls known → Shows compare t p ls known
        → Shows compare u p w (with_lemma (learned t p known) p ls)
        → tokens ≡ (proof_tokens_of t ++ proof_tokens_of u) ++ rest
        → CompletesWanted compare rest wanted (learned u p (with_lemma (learned t p known) p ls))
        → IsCompleted tokens (after_lemma start known ls p w wanted)
    lemma_taken None p ls t u rest may first second same later = absurd may
    lemma_taken (Some s) p ls t u rest may first second same later =
        let few : nat_lt (length known) MAX_LEMMAS ≡ true = grind (arith, nat_tests, may.1) in
        rw few (t, proof_tokens_of u ++ rest, first, rw (← append_assoc) same, (u, rest, second, refl, later))

    -- tokens that complete the rest after a lemma's token begin with the lemma's own tree and the tree behind it
    lemma_begun :
        (start : Option S) (p : MarkedPlan S W) (ls : List Lit) → length ls ≤ MAX_LITERALS
        → IsCompleted tokens (after_lemma start known ls p w wanted)
        → (t u : ProofTree) × (rest : List ProofTok) × MayLearn start ls known × Shows compare t p ls known
        × Shows compare u p w (with_lemma (learned t p known) p ls)
        × (tokens ≡ (proof_tokens_of t ++ proof_tokens_of u) ++ rest)
        × CompletesWanted compare rest wanted (learned u p (with_lemma (learned t p known) p ls))
    lemma_begun None p ls short none = absurd none
    lemma_begun (Some s) p ls short begun =
        elim (cases_Bool (nat_lt (length known) MAX_LEMMAS)) [
          | inl few ↦ lemma_parts (grind (arith, nat_tests, few)) (rw few at begun)
          | inr many ↦ absurd (rw many at begun)
        ]
      where
        lemma_parts :
            length known < MAX_LEMMAS
            → CompletesWanted compare tokens (Tree p ls ∷ Learn p ls ∷ Tree p w ∷ wanted) known
            → (t u : ProofTree) × (rest : List ProofTok) × MayLearn (Some s) ls known × Shows compare t p ls known
            × Shows compare u p w (with_lemma (learned t p known) p ls)
            × (tokens ≡ (proof_tokens_of t ++ proof_tokens_of u) ++ rest)
            × CompletesWanted compare rest wanted (learned u p (with_lemma (learned t p known) p ls))
        lemma_parts few (t, middle, first, same, (u, rest, second, same_rest, later)) =
            let e : tokens ≡ proof_tokens_of t ++ (proof_tokens_of u ++ rest) = cc in
            (t, u, rest, (short, few), first, second, rw append_assoc e, later)

    -- a citation whose cycles are there
    cycles_taken :
        (ls : List Lit) (cycles : List (List ℕ)) (rest : List ProofTok) → EachFollows w ls cycles
        → CompletesWanted compare rest wanted known
        → CompletesWanted compare (cycle_tokens cycles ++ rest) (wanted_cycles w ls ++ wanted) known
    cycles_taken [] [] rest follows later = later
    cycles_taken [] (c ∷ cycles) rest follows later = absurd follows
    cycles_taken (l ∷ ls) [] rest follows later = absurd follows
    cycles_taken (l ∷ ls) (c ∷ cycles) rest follows later =
        (c, cycle_tokens cycles ++ rest, follows.0, refl, cycles_taken ls cycles rest follows.1 later)

    comparison_taken :
        (conditions : Option (List Lit)) (ls : List Lit) (cycles : List (List ℕ)) (rest : List ProofTok)
        → FollowsUnder conditions ls w cycles → tokens ≡ cycle_tokens cycles ++ rest
        → CompletesWanted compare rest wanted known
        → IsCompleted tokens (after_comparison conditions known ls w wanted)
    comparison_taken None ls cycles rest follows same later = absurd follows
    comparison_taken (Some es) ls cycles rest follows same later =
        (CompletesWanted-settled tokens known (wanted_cycles w (ls ++ es) ++ wanted)).0
        (subst (λ (x : List ProofTok). CompletesWanted compare x (wanted_cycles w (ls ++ es) ++ wanted) known)
        (sym same) (cycles_taken (ls ++ es) cycles rest follows later))

    -- the cycles of a citation that serves, and tokens for what is wanted behind it, complete what it leaves
    citation_taken :
        (start : Option S) (found : Option (Learned S W)) (cycles : List (List ℕ)) (rest : List ProofTok)
        → Serves compare found start w cycles → tokens ≡ cycle_tokens cycles ++ rest
        → CompletesWanted compare rest wanted known
        → IsCompleted tokens (after_citation compare start found known w wanted)
    citation_taken None None cycles rest serves same later = absurd serves
    citation_taken None (Some lemma) cycles rest serves same later =
        absurd
        (subst (λ (x : Option (List Lit)). FollowsUnder x lemma.literals w cycles)
        (no_start_no_conditions compare (start_of lemma.plan)) serves)
    citation_taken (Some here) None cycles rest serves same later = absurd serves
    citation_taken (Some here) (Some lemma) cycles rest serves same later =
        comparison_taken (conditions_between compare (start_of lemma.plan) (Some here)) lemma.literals
        cycles rest serves same later

  -- what begins with the cycles that are wanted
  cycles_begun :
      (known : List (Learned S W)) (w : List Lit) (wanted : List (Wanted S W)) (ls : List Lit) (tokens : List ProofTok)
      → CompletesWanted compare tokens (wanted_cycles w ls ++ wanted) known
      → (cycles : List (List ℕ)) × (rest : List ProofTok) × EachFollows w ls cycles
      × (tokens ≡ cycle_tokens cycles ++ rest) × CompletesWanted compare rest wanted known
  cycles_begun known w wanted [] tokens later = ([], tokens, tt, refl, later)
  cycles_begun known w wanted (l ∷ ls) tokens (c, middle, is, same, more) =
      let others = cycles_begun known w wanted ls middle more in
      (c ∷ others.0, others.1, (is, others.2), same ∙ ap (λ (x : List ProofTok). token.Cycle c ∷ x) others.3, others.4)

  module _ (known : List (Learned S W)) (w : List Lit) (wanted : List (Wanted S W)) (tokens : List ProofTok) where
    comparison_begun :
        (conditions : Option (List Lit)) (ls : List Lit)
        → IsCompleted tokens (after_comparison conditions known ls w wanted)
        → (cycles : List (List ℕ)) × (rest : List ProofTok) × FollowsUnder conditions ls w cycles
        × (tokens ≡ cycle_tokens cycles ++ rest) × CompletesWanted compare rest wanted known
    comparison_begun None ls none = absurd none
    comparison_begun (Some es) ls begun =
        cycles_begun known w wanted (ls ++ es) tokens
        ((CompletesWanted-settled tokens known (wanted_cycles w (ls ++ es) ++ wanted)).1 begun)

    citation_begun :
        (start : Option S) (found : Option (Learned S W))
        → IsCompleted tokens (after_citation compare start found known w wanted)
        → (cycles : List (List ℕ)) × (rest : List ProofTok) × Serves compare found start w cycles
        × (tokens ≡ cycle_tokens cycles ++ rest) × CompletesWanted compare rest wanted known
    citation_begun None found none = absurd none
    citation_begun (Some here) None none = absurd none
    citation_begun (Some here) (Some lemma) begun =
        comparison_begun (conditions_between compare (start_of lemma.plan) (Some here)) lemma.literals begun

    -- a question
    question_taken :
        (p : MarkedPlan S W) (t u : ProofTree) (rest : List ProofTok) → Shows compare (Question t u) p w known
        → tokens ≡ (proof_tokens_of t ++ proof_tokens_of u) ++ rest
        → CompletesWanted compare rest wanted (learned (Question t u) p known)
        → IsCompleted tokens (after_proof_question known p w wanted)
    question_taken (Ask start l on_yes on_no) t u rest shows same later =
        (t, proof_tokens_of u ++ rest, shows.0, rw (← append_assoc) same, (u, rest, shows.1, refl, later))
    question_taken (Holds start) t u rest shows same later = absurd shows
    question_taken (Fails start why) t u rest shows same later = absurd shows

    question_begun :
        (p : MarkedPlan S W) → IsCompleted tokens (after_proof_question known p w wanted)
        → CompletesWanted compare (token.Ask ∷ tokens) (Tree p w ∷ wanted) known
    question_begun (Ask start l on_yes on_no) (t, middle, at_yes, same, (u, rest, at_no, same_rest, later)) =
        let e : tokens ≡ proof_tokens_of t ++ (proof_tokens_of u ++ rest) = cc in
        let f : tokens ≡ (proof_tokens_of t ++ proof_tokens_of u) ++ rest = rw append_assoc e in
        (Question t u, rest, (at_yes, at_no), ap (λ (x : List ProofTok). token.Ask ∷ x) f, later)
    question_begun (Holds start) none = absurd none
    question_begun (Fails start why) none = absurd none

    -- an end
    end_taken :
        (p : MarkedPlan S W) → Shows compare End p w known → CompletesWanted compare tokens wanted known
        → IsCompleted tokens (after_end known p wanted)
    end_taken (Ask start l on_yes on_no) shows later = absurd shows
    end_taken (Holds start) shows later = (CompletesWanted-settled tokens known wanted).0 later
    end_taken (Fails start why) shows later = absurd shows

    end_begun :
        (p : MarkedPlan S W) → IsCompleted tokens (after_end known p wanted)
        → Shows compare End p w known × CompletesWanted compare tokens wanted known
    end_begun (Ask start l on_yes on_no) none = absurd none
    end_begun (Holds start) later = (tt, (CompletesWanted-settled tokens known wanted).1 later)
    end_begun (Fails start why) none = absurd none

    -- any token where a tree is wanted, by the tree that it begins
    taken_at_tree :
        (tok : ProofTok) (p : MarkedPlan S W) (t : ProofTree) (rest : List ProofTok) → Shows compare t p w known
        → tok ∷ tokens ≡ proof_tokens_of t ++ rest → CompletesWanted compare rest wanted (learned t p known)
        → IsCompleted tokens (after_at_tree compare tok known p w wanted)
    taken_at_tree token.Ask p (Question t u) rest shows same later =
        let e : tokens ≡ (proof_tokens_of t ++ proof_tokens_of u) ++ rest = cc in
        question_taken p t u rest shows e later
    taken_at_tree token.Ask p End rest shows same later = absurd (cc)
    taken_at_tree token.Ask p (Impossible picks) rest shows same later = absurd (cc)
    taken_at_tree token.Ask p (Lemma ls t u) rest shows same later = absurd (cc)
    taken_at_tree token.Ask p (Citation number cycles) rest shows same later = absurd (cc)
    taken_at_tree token.Holds p (Question t u) rest shows same later = absurd (cc)
    taken_at_tree token.Holds p End rest shows same later =
        let e : rest ≡ tokens = cc in
        end_taken p shows (subst (λ (x : List ProofTok). CompletesWanted compare x wanted known) e later)
    taken_at_tree token.Holds p (Impossible picks) rest shows same later = absurd (cc)
    taken_at_tree token.Holds p (Lemma ls t u) rest shows same later = absurd (cc)
    taken_at_tree token.Holds p (Citation number cycles) rest shows same later = absurd (cc)
    taken_at_tree (token.Cycle picks) p (Question t u) rest shows same later = absurd (cc)
    taken_at_tree (token.Cycle picks) p End rest shows same later = absurd (cc)
    taken_at_tree (token.Cycle picks) p (Impossible others) rest shows same later =
        let e : rest ≡ tokens = cc in
        let f : others ≡ picks = cc in
        cycle_taken known w wanted tokens picks (pick_verdict w picks) refl
        (subst (λ (x : List ℕ). IsCycleAmong w x) f shows)
        (subst (λ (x : List ProofTok). CompletesWanted compare x wanted known) e later)
    taken_at_tree (token.Cycle picks) p (Lemma ls t u) rest shows same later = absurd (cc)
    taken_at_tree (token.Cycle picks) p (Citation number cycles) rest shows same later = absurd (cc)
    taken_at_tree (token.Lemma ls) p (Question t u) rest shows same later = absurd (cc)
    taken_at_tree (token.Lemma ls) p End rest shows same later = absurd (cc)
    taken_at_tree (token.Lemma ls) p (Impossible picks) rest shows same later = absurd (cc)
    taken_at_tree (token.Lemma ls) p (Lemma others t u) rest shows same later =
        let e : tokens ≡ (proof_tokens_of t ++ proof_tokens_of u) ++ rest = cc in
        let f : others ≡ ls = cc in
        let both =
        subst
        (λ (x : List Lit). Shows compare (Lemma x t u) p w known
        × CompletesWanted compare rest wanted (learned (Lemma x t u) p known)) f (shows, later) in
        lemma_taken known w wanted tokens (start_of p) p ls t u rest both.0.0 both.0.1 both.0.2 e both.1
    taken_at_tree (token.Lemma ls) p (Citation number cycles) rest shows same later = absurd (cc)
    taken_at_tree (token.Cite number) p (Question t u) rest shows same later = absurd (cc)
    taken_at_tree (token.Cite number) p End rest shows same later = absurd (cc)
    taken_at_tree (token.Cite number) p (Impossible picks) rest shows same later = absurd (cc)
    taken_at_tree (token.Cite number) p (Lemma ls t u) rest shows same later = absurd (cc)
    taken_at_tree (token.Cite number) p (Citation other cycles) rest shows same later =
        let e : tokens ≡ cycle_tokens cycles ++ rest = cc in
        let f : other ≡ number = cc in
        let serves = subst (λ (x : ℕ). Serves compare (slice_get known x) (start_of p) w cycles) f shows in
        citation_taken known w wanted tokens (start_of p) (slice_get known number) cycles rest serves e later

    -- any token where a tree is wanted begins a tree that shows the plan, if tokens complete what it leaves
    begun_at_tree :
        (tok : ProofTok) (p : MarkedPlan S W) → HasFew tok
        → IsCompleted tokens (after_at_tree compare tok known p w wanted)
        → CompletesWanted compare (tok ∷ tokens) (Tree p w ∷ wanted) known
    begun_at_tree token.Ask p few begun = question_begun p begun
    begun_at_tree token.Holds p few begun =
        let held = end_begun p begun in (End, tokens, held.0, refl, held.1)
    begun_at_tree (token.Cycle picks) p few begun =
        let closed = cycle_begun known w wanted tokens picks (pick_verdict w picks) refl few begun in
        (Impossible picks, tokens, closed.0, refl, closed.1)
    begun_at_tree (token.Lemma ls) p few begun =
        let x = lemma_begun known w wanted tokens (start_of p) p ls few begun in
        (Lemma ls x.0 x.1, x.2, (x.3, x.4, x.5), ap (λ (y : List ProofTok). token.Lemma ls ∷ y) x.6, x.7)
    begun_at_tree (token.Cite number) p few begun =
        let x = citation_begun (start_of p) (slice_get known number) begun in
        (Citation number x.0, x.1, x.2, ap (λ (y : List ProofTok). token.Cite number ∷ y) x.3, x.4)

    -- any token where a cycle is wanted
    taken_at_cycle :
        (tok : ProofTok) → CompletesWanted compare (tok ∷ tokens) (Cycle w ∷ wanted) known
        → IsCompleted tokens (after_at_cycle tok known w wanted)
    taken_at_cycle token.Ask (picks, rest, is, same, later) = absurd (cc)
    taken_at_cycle token.Holds (picks, rest, is, same, later) = absurd (cc)
    taken_at_cycle (token.Cycle picks) (others, rest, is, same, later) =
        let e : rest ≡ tokens = cc in
        let f : others ≡ picks = cc in
        cycle_taken known w wanted tokens picks (pick_verdict w picks) refl
        (subst (λ (x : List ℕ). IsCycleAmong w x) f is)
        (subst (λ (x : List ProofTok). CompletesWanted compare x wanted known) e later)
    taken_at_cycle (token.Lemma ls) (picks, rest, is, same, later) = absurd (cc)
    taken_at_cycle (token.Cite number) (picks, rest, is, same, later) = absurd (cc)

    begun_at_cycle :
        (tok : ProofTok) → HasFew tok → IsCompleted tokens (after_at_cycle tok known w wanted)
        → CompletesWanted compare (tok ∷ tokens) (Cycle w ∷ wanted) known
    begun_at_cycle token.Ask few none = absurd none
    begun_at_cycle token.Holds few none = absurd none
    begun_at_cycle (token.Cycle picks) few begun =
        let closed = cycle_begun known w wanted tokens picks (pick_verdict w picks) refl few begun in
        (picks, tokens, closed.0, refl, closed.1)
    begun_at_cycle (token.Lemma ls) few none = absurd none
    begun_at_cycle (token.Cite number) few none = absurd none

  CompletesWanted-taken :
      (tok : ProofTok) (tokens : List ProofTok) (known : List (Learned S W)) (wanted : List (Wanted S W))
      → CompletesWanted compare (tok ∷ tokens) wanted known
      → IsCompleted tokens (after_proof_token compare tok known wanted)
  CompletesWanted-taken tok tokens known [] whole = absurd (cc)
  CompletesWanted-taken tok tokens known (Tree p w ∷ wanted) (t, rest, shows, same, later) =
      taken_at_tree known w wanted tokens tok p t rest shows same later
  CompletesWanted-taken tok tokens known (Cycle w ∷ wanted) whole = taken_at_cycle known w wanted tokens tok whole
  CompletesWanted-taken tok tokens known (Learn p ls ∷ wanted) whole =
      CompletesWanted-taken tok tokens (with_lemma known p ls) wanted whole

  CompletesWanted-begun :
      (tok : ProofTok) (tokens : List ProofTok) (known : List (Learned S W)) (wanted : List (Wanted S W)) → HasFew tok
      → IsCompleted tokens (after_proof_token compare tok known wanted)
      → CompletesWanted compare (tok ∷ tokens) wanted known
  CompletesWanted-begun tok tokens known [] few none = absurd none
  CompletesWanted-begun tok tokens known (Tree p w ∷ wanted) few begun =
      begun_at_tree known w wanted tokens tok p few begun
  CompletesWanted-begun tok tokens known (Cycle w ∷ wanted) few begun =
      begun_at_cycle known w wanted tokens tok few begun
  CompletesWanted-begun tok tokens known (Learn p ls ∷ wanted) few begun =
      CompletesWanted-begun tok tokens (with_lemma known p ls) wanted few begun

  -- a token that is taken leaves what the others complete
  pub CompletesWanted-step :
      (tok : ProofTok) (tokens : List ProofTok) (known : List (Learned S W)) (wanted : List (Wanted S W))
      (next : Standing S W) → HasFew tok → after_proof_token compare tok known wanted ≡ Ok next
      → (CompletesWanted compare (tok ∷ tokens) wanted known ↔ CompletesWanted compare tokens next.wanted next.known)
  CompletesWanted-step tok tokens known wanted next few taken = (
    λ whole.
        subst (λ (x : Result (Standing S W) ProofError). IsCompleted tokens x) taken
        (CompletesWanted-taken tok tokens known wanted whole),
    λ rest.
        CompletesWanted-begun tok tokens known wanted few
        (subst (λ (x : Result (Standing S W) ProofError). IsCompleted tokens x) (sym taken) rest),
  )

  -- a token that is refused begins nothing that completes them
  pub CompletesWanted-refused :
      (tok : ProofTok) (tokens : List ProofTok) (known : List (Learned S W))
      (wanted : List (Wanted S W)) (why : ProofError)
      → after_proof_token compare tok known wanted ≡ Err why → CompletesWanted compare (tok ∷ tokens) wanted known → ⊥
  CompletesWanted-refused tok tokens known wanted why refused whole =
      subst (λ (x : Result (Standing S W) ProofError). IsCompleted tokens x) refused
      (CompletesWanted-taken tok tokens known wanted whole)
