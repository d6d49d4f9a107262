-- What a token makes of open places whose asker was called on the way.
use Rattle.std.proofs.Common.{◌≡◌, ◌⊎◌, inl, inr, ℕ, ℤ, zero, suc, ◌<◌, ◌≤◌, List, [], ◌∷◌, ◌++◌, length, map, Option}
use Rattle.std.proofs.Common.{Some, None, Result, Ok, Err, Bool, true, false, refl, sym, ap, ◌∙◌, subst, arith, IsTrue}
use Rattle.std.proofs.Common.{◌↔◌}
use Rattle.std.specs.Prelude.{slice_get, OnOk, IfErr}
use Rattle.std.specs.Option.{option_map}
use Rattle.diff_graph.specs.declared.lit.Lit.{Lit}
use Rattle.diff_graph.specs.declared.lit.PickError.{PickError}
use Rattle.diff_graph.specs.Cycles.{pick_verdict}
use Rattle.ask_core.specs.declared.picks.TheConstants.{MAX_PICKS}
use Rattle.ask_core.specs.Plans.{Plan, value}
use Rattle.cert_check.specs.declared.question.Question.{Question}
use Rattle.cert_check.specs.Steps.{end_of_cycle}
use Rattle.proof_trees.specs.declared.token.ProofTok.{ProofTok}
use Rattle.proof_trees.specs.declared.token.ProofTok.TheVariants as token
use Rattle.proof_trees.specs.Starts.{MarkedPlan, Ask, Holds, start_of, unmarked, Comparison, conditions_between}
use Rattle.proof_trees.specs.Starts.{IsMarkedBy, IsLawful}
use Rattle.proof_trees.specs.Proofs.{ProofTree, Shows}
use Rattle.proof_trees.specs.Starters.{Starts, KeepsStarts, IsWhole}
use Rattle.proof_trees.specs.Tokens.{CompletesWanted, HasFew}
use Rattle.proof_trees.specs.Truth.{HoldsUnder}
use Rattle.open_places.specs.declared.places.Known.{Known}
use Rattle.proof_check.specs.declared.verdict.ProofError.{ProofError}
use Rattle.proof_check.specs.declared.verdict.ProofError.TheVariants as error
use Rattle.open_places.specs.Places.{WantedAt, Tree, Cycle, Learn, OpenProof, AreOwnPlaces, AreSettledPlaces}
use Rattle.open_places.specs.Places.{first_node, first_list, asked, closed, cited, literals_at}
use Rattle.proof_check.specs.Standings.{wanted_of, learned_of}
use Rattle.proof_check.specs.Questions.{IsAskedHere, SkipsTo}
use Rattle.proof_check.specs.Steps.{Standing, after_proof_token, IsTaken}
use Rattle.proof_check.specs.Judging.{IsProofUnderWay, IsUnderWayUnless, standing_over, AreCompleted, IsProofCauseOf}
use Rattle.proof_check.specs.Judging.{IsRefusedBy, IsWantOfMemory}
use Rattle.proof_check.proofs.Completing.{CompletesWanted-step, CompletesWanted-refused}
use Rattle.proof_check.proofs.Keeping.{KeepsStarts-refl, standing_kept, own_asked, own_closed, own_kept}
use Rattle.proof_check.proofs.Standings.{question_taken, end_taken, cycle_taken, citation_taken}

-- a lemma that is found, and its literals
pub lemma_found :
    {N : Type 0} (known : List (Known N)) (number : ℕ) (n : N)
    → option_map (λ k. k.node) (slice_get known number) ≡ Some n
    → (k : Known N) × (slice_get known number ≡ Some k) × (k.node ≡ n) × (k.literals ≡ literals_at known number)
    × (number < length known)
lemma_found [] number n found = absurd (cc)
lemma_found (k ∷ known) zero n found = let same : k.node ≡ n = cc in (k, refl, same, refl, omega arith)
lemma_found (k ∷ known) (suc number) n found =
    let later = lemma_found known number n found in (later.0, later.1, later.2, later.3, omega (arith, later.4))

-- starts that compare are there
compared_start :
    {S : Type 0} (compare : Comparison S) (there here : Option S) (es : List Lit)
    → conditions_between compare there here ≡ Some es
    → (s : S) × (here ≡ Some s)
compared_start compare None here es compared = absurd (cc)
compared_start compare (Some s) None es compared = absurd (cc)
compared_start compare (Some s) (Some other) es compared = (other, refl)

module _ {N S W : Type 0} {was_own is_own : N → Type 0} {old new : Starts N S W}
    (keeps : KeepsStarts was_own is_own old new) (p : OpenProof N) (own : AreOwnPlaces was_own p) where
  -- what is taken with the plans after the call was taken with those before it
  since_before :
      (tok : ProofTok) (next : Standing S W) → IsTaken new.compare tok (standing_over new p) next
      → IsTaken old.compare tok (standing_over old p) next
  since_before tok next taken =
      let at_old : IsTaken new.compare tok (standing_over old p) next =
      subst (λ (s : Standing S W). IsTaken new.compare tok s next) (standing_kept keeps p own) taken in
      subst (λ (c : Comparison S). IsTaken c tok (standing_over old p) next) keeps.compare at_old

  pub question_taken_over :
      (n on_yes on_no : N) (l : Lit) → first_node p.wanted ≡ Some n
      → new.marked n ≡ Ask (start_of (new.marked n)) l (new.marked on_yes) (new.marked on_no)
      → IsTaken old.compare token.Ask (standing_over old p) (standing_over new (asked l on_yes on_no p))
  question_taken_over n on_yes on_no l first begins =
      since_before token.Ask (standing_over new (asked l on_yes on_no p))
      (question_taken new.marked new.compare p.known p.wanted n on_yes on_no l (start_of (new.marked n)) first begins)

  pub end_taken_over :
      (n : N) → first_node p.wanted ≡ Some n → new.marked n ≡ Holds (start_of (new.marked n))
      → IsTaken old.compare token.Holds (standing_over old p) (standing_over new (closed p))
  end_taken_over n first begins =
      since_before token.Holds (standing_over new (closed p))
      (end_taken new.marked new.compare p.known p.wanted n (start_of (new.marked n)) first begins)

  -- a citation's token is taken where the starts compare after the call
  pub citation_taken_over :
      (n lemma : N) (number : ℕ) (es : List Lit) → first_node p.wanted ≡ Some n
      → option_map (λ k. k.node) (slice_get p.known number) ≡ Some lemma
      → conditions_between new.compare (start_of (new.marked lemma)) (start_of (new.marked n)) ≡ Some es
      → IsTaken old.compare (token.Cite number) (standing_over old p)
      (standing_over new (cited (literals_at p.known number ++ es) p))
  citation_taken_over n lemma number es first found compared =
      let k = lemma_found p.known number lemma found in
      let here = compared_start new.compare (start_of (new.marked lemma)) (start_of (new.marked n)) es compared in
      let same : conditions_between new.compare (start_of (new.marked k.0.node)) (start_of (new.marked n)) ≡ Some es =
      subst (λ (m : N). conditions_between new.compare (start_of (new.marked m)) (start_of (new.marked n))
      ≡ Some es) (sym k.2) compared in
      since_before (token.Cite number) (standing_over new (cited (literals_at p.known number ++ es) p))
      (subst (λ (ls : List Lit). IsTaken new.compare (token.Cite number) (standing_over new p)
      (standing_over new (cited (ls ++ es) p))) k.3
      (citation_taken new.marked new.compare p.known p.wanted n here.0 number k.0 es first here.1 k.1 same))

  -- a token that is taken keeps that the asker's plan follows from what is wanted
  pub IsProofUnderWay-taken :
      (tok : ProofTok) (next : OpenProof N) → IsProofUnderWay was_own old p → AreOwnPlaces is_own next → HasFew tok
      → IsTaken old.compare tok (standing_over old p) (standing_over new next) → IsProofUnderWay is_own new next
  IsProofUnderWay-taken tok next way own_next few taken = record {
    own = own_next;
    follows = λ tokens rest.
        subst (λ (q : MarkedPlan S W). HoldsUnder [] (unmarked q)) (sym keeps.root)
        (way.follows (tok ∷ tokens)
        ((CompletesWanted-step old.compare tok tokens (standing_over old p).known (standing_over old p).wanted
        (standing_over new next) few taken).1
        (subst (λ (c : Comparison S). AreCompleted c tokens (standing_over new next)) keeps.compare rest)));
  }

  -- a call of the asker alone keeps it too
  pub IsProofUnderWay-kept : IsProofUnderWay was_own old p → IsProofUnderWay is_own new p
  IsProofUnderWay-kept way = record {
    own = own_kept keeps p own;
    follows = λ tokens rest.
        subst (λ (q : MarkedPlan S W). HoldsUnder [] (unmarked q)) (sym keeps.root)
        (way.follows tokens
        (subst (λ (s : Standing S W). AreCompleted old.compare tokens s) (standing_kept keeps p own)
        (subst (λ (c : Comparison S). AreCompleted c tokens (standing_over new p)) keeps.compare rest)));
  }

-- tokens of an asker that is not called between them
module _ {N S W : Type 0} (is_own : N → Type 0) (starts : Starts N S W) where
  -- a cycle at a place that takes a token
  module _ (p : OpenProof N) (settled : AreSettledPlaces p.wanted) (some : 0 < length p.wanted) (picks : List ℕ)
      (is : pick_verdict (first_list p.wanted) picks ≡ Ok tt) where
    pub cycle_here : IsTaken starts.compare (token.Cycle picks) (standing_over starts p)
        (standing_over starts (closed p))
    cycle_here = cycle_taken starts.marked starts.compare p.known p.wanted picks settled some is

    pub under_way_closed : IsProofUnderWay is_own starts p → length picks ≤ MAX_PICKS
        → IsProofUnderWay is_own starts (closed p)
    under_way_closed way few =
        IsProofUnderWay-taken (KeepsStarts-refl is_own starts) p way.own (token.Cycle picks) (closed p) way
        (own_closed is_own p way.own) few cycle_here

  -- a question at the first place, and a cycle behind it
  module _ (q : Question N) (p : OpenProof N) (here : IsAskedHere is_own starts.marked q p) where
    abbrev after_it : OpenProof N
    after_it = asked q.lit q.yes q.no p

    pub question_here : IsTaken starts.compare token.Ask (standing_over starts p) (standing_over starts after_it)
    question_here =
        question_taken starts.marked starts.compare p.known p.wanted here.node q.yes q.no q.lit
        (start_of (starts.marked here.node)) here.first here.asks

    pub under_way_asked : IsProofUnderWay is_own starts p → IsProofUnderWay is_own starts after_it
    under_way_asked way =
        IsProofUnderWay-taken (KeepsStarts-refl is_own starts) p way.own token.Ask after_it way
        (own_asked is_own p way.own q.lit q.yes q.no here.own_yes here.own_no) tt question_here

    module _ (picks : List ℕ) (is : pick_verdict (first_list p.wanted ++ q.lit ∷ []) picks ≡ Ok tt) where
      pub skipped_here : SkipsTo starts.compare picks (standing_over starts p) (standing_over starts (closed after_it))
      skipped_here = (standing_over starts after_it, question_here, cycle_here after_it tt (omega arith) picks is)

      pub under_way_skipped :
          IsProofUnderWay is_own starts p → length picks ≤ MAX_PICKS → IsProofUnderWay is_own starts (closed after_it)
      under_way_skipped way few = under_way_closed after_it tt (omega arith) picks is (under_way_asked way) few

-- a token after which nothing is wanted is followed by no tokens
pub step_done :
    {N S W : Type 0} (compare : Comparison S) (tok : ProofTok) (old : Standing S W)
    (starts : Starts N S W) (next : OpenProof N)
    → next.wanted ≡ [] → HasFew tok → IsTaken compare tok old (standing_over starts next) → (tokens : List ProofTok)
    → AreCompleted compare (tok ∷ tokens) old ↔ (tokens ≡ [])
step_done compare tok old starts next closed few taken tokens =
    subst
    (λ (w : List (WantedAt _)). AreCompleted compare (tok ∷ tokens) old
    ↔ CompletesWanted compare tokens (map (wanted_of starts.marked) w) (map (learned_of starts.marked) next.known))
    closed
    (CompletesWanted-step compare tok tokens old.known old.wanted (standing_over starts next) few taken)

-- a token that is refused, not for want of memory, begins nothing
pub none_begun :
    {S W : Type 0} (compare : Comparison S) (e : ProofError) (tok : ProofTok) (at : Standing S W)
    → IsProofCauseOf compare e tok at
    → (IsWantOfMemory e → ⊥) → (tokens : List ProofTok) → AreCompleted compare (tok ∷ tokens) at → ⊥
none_begun compare e tok at (inl want) other tokens whole = other want
none_begun compare e tok at (inr refused) other tokens whole =
    CompletesWanted-refused compare tok tokens at.known at.wanted e refused whole

-- what holds of an asker's starts holds of its plan
pub root_kept :
    {N S W : Type 0} (old new : Starts N S W) (was root : Plan W) → IsWhole was old
    → IsWhole root new → new.root ≡ old.root
    → root ≡ was
root_kept old new was root before after same = after.same ∙ ap unmarked same ∙ sym before.same

pub plan_holds :
    {N S W : Type 0} (is_own : N → Type 0) (starts : Starts N S W) (root : Plan W) (p : OpenProof N)
    → IsProofUnderWay is_own starts p
    → p.wanted ≡ [] → IsWhole root starts → (v : ℕ → ℤ) → value root v ≡ true
plan_holds is_own starts root p way closed whole v =
    let done : AreCompleted starts.compare [] (standing_over starts p) =
    subst
    (λ (w : List (WantedAt _)). CompletesWanted starts.compare [] (map (wanted_of starts.marked) w)
    (map (learned_of starts.marked) p.known)) (sym closed) refl in
    ap (λ (q : Plan _). value q v) whole.same ∙ way.follows [] done v tt

-- nothing is open
pub none_open :
    {N : Type 0} (test : Bool) (wanted : List (WantedAt N)) → test ≡ false
    → (IsTrue test ↔ (0 < length wanted)) → wanted ≡ []
none_open test [] closed opened = refl
none_open test (x ∷ wanted) closed opened =
    let one : 0 < length (x ∷ wanted) = omega arith in let e : test ≡ true = opened.1 one in absurd (cc)

-- the law of trees that show a plan
abbrev pub ShowsPlans : Type 0 → Type 0 → Type 0
ShowsPlans S W =
    (compare : Comparison S) (meaning : S → Plan W) (t : ProofTree) (p : MarkedPlan S W)
    → IsLawful compare meaning → IsMarkedBy meaning p → Shows compare t p [] [] → HoldsUnder [] (unmarked p)

-- a judge begins with one place, at which a tree of the asker's own plan is wanted
pub IsProofUnderWay-begun :
    {N S W : Type 0} (is_own : N → Type 0) (starts : Starts N S W) (root : Plan W) (first : N) (p : OpenProof N)
    → ShowsPlans S W → IsWhole root starts → is_own first × (starts.marked first ≡ starts.root)
    → p ≡ record { known = []; wanted = Tree first [] ∷ [] } → IsProofUnderWay is_own starts p
IsProofUnderWay-begun is_own starts root first p law whole begins begun =
    subst (λ (x : OpenProof _). IsProofUnderWay is_own starts x) (sym begun)
    (record {
      own = (tt, (begins.0, tt));
      follows = λ tokens rest.
          law starts.compare starts.meaning rest.0 starts.root whole.lawful whole.marked
          (subst (λ (q : MarkedPlan _ _). Shows starts.compare rest.0 q [] []) begins.1 rest.2);
    })

-- a judge that has not refused
pub under_way :
    {N S W : Type 0} (refusal : Option ProofError) (is_own : N → Type 0) (starts : Starts N S W) (p : OpenProof N)
    → ((e : ProofError) → refusal ≡ Some e → ⊥) → IsUnderWayUnless refusal is_own starts p
    → IsProofUnderWay is_own starts p
under_way None is_own starts p none way = way
under_way (Some e) is_own starts p none way = absurd (none e refl)

pub under_way_still :
    {N S W : Type 0} (refusal : Option ProofError) (is_own : N → Type 0) (starts : Starts N S W) (p : OpenProof N)
    → IsProofUnderWay is_own starts p → IsUnderWayUnless refusal is_own starts p
under_way_still None is_own starts p way = way
under_way_still (Some e) is_own starts p way = tt

-- a token that is taken leaves what the others complete
pub step_more :
    {S W : Type 0} (compare : Comparison S) (tok : ProofTok) (old new : Standing S W) → HasFew tok
    → IsTaken compare tok old new
    → (tokens : List ProofTok) → AreCompleted compare (tok ∷ tokens) old ↔ AreCompleted compare tokens new
step_more compare tok old new few taken tokens =
    CompletesWanted-step compare tok tokens old.known old.wanted new few taken

-- a refusal that leaves the places leaves their standing
pub refusal_stands :
    {N S W : Type 0} (old new : Starts N S W) (p q : OpenProof N) → q ≡ p → standing_over new p ≡ standing_over old p
    → standing_over new q ≡ standing_over old p
refusal_stands old new p q kept same =
    subst (λ (x : OpenProof _). standing_over new x ≡ standing_over old p) (sym kept) same

-- a cycle that is none, at a place that takes a token
pub cycle_refused :
    {N S W : Type 0} (starts : Starts N S W) (p : OpenProof N) (picks : List ℕ) (why : PickError)
    → AreSettledPlaces p.wanted
    → 0 < length p.wanted → pick_verdict (first_list p.wanted) picks ≡ Err why
    → IsRefusedBy starts.compare (error.Tree (end_of_cycle why)) (token.Cycle picks) (standing_over starts p)
cycle_refused starts p picks why settled some refused = by_first p.wanted settled some refused
  where
    by_first :
        (wanted : List (WantedAt _)) → AreSettledPlaces wanted → 0 < length wanted
        → pick_verdict (first_list wanted) picks ≡ Err why
        → after_proof_token starts.compare (token.Cycle picks) (map (learned_of starts.marked) p.known)
        (map (wanted_of starts.marked) wanted)
        ≡ Err (error.Tree (end_of_cycle why))
    by_first [] settled some is = absurd (omega arith)
    by_first (Tree n w ∷ wanted) settled some is = rw is refl
    by_first (Cycle w ∷ wanted) settled some is = rw is refl
    by_first (Learn n ls ∷ wanted) settled some is = absurd settled

-- the refusal of a cycle, as that of a token
pub cycle_cause :
    {N S W : Type 0} (starts : Starts N S W) (p : OpenProof N) (picks : List ℕ) (e : ProofError)
    → AreSettledPlaces p.wanted
    → 0 < length p.wanted
    → IsWantOfMemory e ⊎ ((why : PickError) × (pick_verdict (first_list p.wanted) picks ≡ Err why)
    × (e ≡ error.Tree (end_of_cycle why)))
    → IsProofCauseOf starts.compare e (token.Cycle picks) (standing_over starts p)
cycle_cause starts p picks e settled some (inl want) = inl want
cycle_cause starts p picks e settled some (inr (why, refused, same)) =
    inr
    (subst (λ (x : ProofError). IsRefusedBy starts.compare x (token.Cycle picks) (standing_over starts p)) (sym same)
    (cycle_refused starts p picks why settled some refused))

-- what became of a cycle, in terms of its token
module _ {N S W : Type 0} (is_own : N → Type 0) (starts : Starts N S W) (p q : OpenProof N) (picks : List ℕ) where
  pub cycle_ok :
      (r : Result (Unit {0}) ProofError) → AreSettledPlaces p.wanted → 0 < length p.wanted → OnOk r (q ≡ closed p)
      → OnOk r (pick_verdict (first_list p.wanted) picks ≡ Ok tt)
      → OnOk r (IsTaken starts.compare (token.Cycle picks) (standing_over starts p) (standing_over starts q))
  cycle_ok (Ok done) settled some same is =
      subst (λ (x : OpenProof N). IsTaken starts.compare (token.Cycle picks) (standing_over starts p) (standing_over
      starts x)) (sym same) (cycle_taken starts.marked starts.compare p.known p.wanted picks settled some is)
  cycle_ok (Err e) settled some same is = tt

  pub cycle_own : (r : Result (Unit {0}) ProofError) → AreOwnPlaces is_own p → OnOk r (q ≡ closed p)
      → OnOk r (AreOwnPlaces is_own q)
  cycle_own (Ok done) own same = subst (λ (x : OpenProof N). AreOwnPlaces is_own x) (sym same) (own_closed is_own p own)
  cycle_own (Err e) own same = tt

  pub cycle_why :
      (r : Result (Unit {0}) ProofError) → AreSettledPlaces p.wanted → 0 < length p.wanted
      → IfErr r
      (λ e. IsWantOfMemory e ⊎ ((why : PickError) × (pick_verdict (first_list p.wanted) picks ≡ Err why)
      × (e ≡ error.Tree (end_of_cycle why))))
      → IfErr r (λ e. IsProofCauseOf starts.compare e (token.Cycle picks) (standing_over starts p))
  cycle_why (Ok done) settled some why = tt
  cycle_why (Err e) settled some why = cycle_cause starts p picks e settled some why
