-- Bytes that are a proof are accepted.
use Rattle.std.proofs.Common.{◌≡◌, ℕ, ◌<◌, List, [], ◌∷◌, ◌++◌, length, Result, Ok, Err, Option, Some, None, Bool, true}
use Rattle.std.proofs.Common.{false, arith, refl, sym, ap, ◌∙◌, subst, append_assoc, length-append, nat_lt}
use Rattle.std.specs.Prelude.{if◌then◌else◌, slice_get}
use Rattle.std.proofs.lemmas.List.{append-nil}
use Rattle.diff_graph.specs.declared.lit.Lit.{Lit}
use Rattle.diff_graph.specs.declared.lit.PickError.{PickError}
use Rattle.diff_graph.specs.Cycles.{pick_verdict}
use Rattle.fn_rules.specs.declared.function.Level.{Level}
use Rattle.fn_rules.specs.declared.function.ObName.{ObName}
use Rattle.cert_text.specs.Spelling.{ob_text, end_text}
use Rattle.proof_trees.specs.declared.limits.TheConstants.{MAX_LEMMAS}
use Rattle.proof_trees.specs.declared.token.ProofTok.{ProofTok}
use Rattle.proof_trees.specs.declared.token.ProofTok.TheVariants as token
use Rattle.proof_trees.specs.Starts.{MarkedPlan, Ask, Holds, Fails, start_of, conditions_between, Comparison}
use Rattle.proof_trees.specs.Proofs.{ProofTree, Question, End, Impossible, Lemma, Citation, Learned, with_lemma, Shows}
use Rattle.proof_trees.specs.Tokens.{Wanted, Tree, Cycle, Learn, CompletesWanted, proof_tokens_of, wanted_cycles}
use Rattle.proof_check.specs.declared.verdict.ProofError.{ProofError}
use Rattle.proof_check.specs.Steps.{Standing, settled, after_proof_token, after_at_tree, after_at_cycle, after_citation}
use Rattle.proof_check.specs.Steps.{after_comparison, after_cycle, after_end, after_lemma, after_proof_question}
use Rattle.proof_check.specs.Steps.{IsTaken}
use Rattle.proof_text.specs.Exact.{FindsExactly}
use Rattle.proof_text.specs.Fronts.{Parsed, Found}
use Rattle.proof_text.specs.Lines.{header_front, ob_front, line_end_front, end_front}
use Rattle.proof_text.specs.Spelling.{IsSpellableInProof, proof_header_text, newline_text, proof_token_text}
use Rattle.proof_text.specs.Tokens.{token_front}
use Rattle.proof_sections.specs.declared.refusal.ConfirmError.{ConfirmError}
use Rattle.proof_sections.specs.Judgement.{after_part, and_then_judged, end_judged, line_judged, nothing_after}
use Rattle.proof_sections.specs.Judgement.{opened_tree, proof_judged, section_judged, sections_judged, tree_judged}
use Rattle.proof_sections.specs.Spelled.{AreShown, AreSpellableInProof, IsProof, proof_sections_text, proof_tokens_text}
use Rattle.proof_sections.proofs.Holding.{AreTakenOneByOne, few_of}
use Rattle.proof_sections.proofs.Trees.{AreFound, tree_judged-done, tree_judged-on}

-- a token that is refused begins no tokens that complete what is wanted
abbrev pub RefusedBeginNothing : (S W : Type 0) → Type 0
RefusedBeginNothing S W =
    (compare : Comparison S) (tok : ProofTok) (tokens : List ProofTok) (known : List (Learned S W))
    (wanted : List (Wanted S W))
    (why : ProofError) → after_proof_token compare tok known wanted ≡ Err why
    → CompletesWanted compare (tok ∷ tokens) wanted known → ⊥

-- the lines of a proof are found where they stand
pub record LinesAreFound : Type 0 where
  pub headers : FindsExactly header_front proof_header_text (λ level. Unit {0})
  pub obs : (name : ObName) → FindsExactly (ob_front name) (λ x. ob_text name) (λ x. Unit {0})
  pub line_ends : FindsExactly line_end_front (λ x. newline_text) (λ x. Unit {0})
  pub ends : FindsExactly end_front (λ x. end_text) (λ x. Unit {0})

-- a tree has a token
proof_tokens_of-some : (t : ProofTree) → 0 < length (proof_tokens_of t)
proof_tokens_of-some (Question t u) = omega arith
proof_tokens_of-some End = omega arith
proof_tokens_of-some (Impossible picks) = omega arith
proof_tokens_of-some (Lemma ls t u) = omega arith
proof_tokens_of-some (Citation number cycles) = omega arith

module _ {S W : Type 0} where
  -- what is wanted first, if anything is, takes a token
  abbrev TakesToken : List (Wanted S W) → Type 0
  TakesToken [] = Unit {0}
  TakesToken (Tree p w ∷ wanted) = Unit {0}
  TakesToken (Cycle w ∷ wanted) = Unit {0}
  TakesToken (Learn p ls ∷ wanted) = ⊥

  -- so it is after a token that is taken
  abbrev TakesNext : Result (Standing S W) ProofError → Type 0
  TakesNext (Ok next) = TakesToken next.wanted
  TakesNext (Err why) = Unit {0}

  settled-takes : (known : List (Learned S W)) (wanted : List (Wanted S W)) → TakesToken (settled known wanted).wanted
  settled-takes known [] = tt
  settled-takes known (Tree p w ∷ wanted) = tt
  settled-takes known (Cycle w ∷ wanted) = tt
  settled-takes known (Learn p ls ∷ wanted) = settled-takes (with_lemma known p ls) wanted

  question-takes :
      (known : List (Learned S W)) (p : MarkedPlan S W) (w : List Lit) (wanted : List (Wanted S W))
      → TakesNext (after_proof_question known p w wanted)
  question-takes known (Ask start l on_yes on_no) w wanted = tt
  question-takes known (Holds start) w wanted = tt
  question-takes known (Fails start why) w wanted = tt

  end-takes :
      (known : List (Learned S W)) (p : MarkedPlan S W) (wanted : List (Wanted S W))
      → TakesNext (after_end known p wanted)
  end-takes known (Ask start l on_yes on_no) wanted = tt
  end-takes known (Holds start) wanted = settled-takes known wanted
  end-takes known (Fails start why) wanted = tt

  cycle-takes :
      (verdict : Result (Unit {0}) PickError) (known : List (Learned S W)) (wanted : List (Wanted S W))
      → TakesNext (after_cycle verdict known wanted)
  cycle-takes (Ok done) known wanted = settled-takes known wanted
  cycle-takes (Err why) known wanted = tt

  either-takes : (few : Bool) (next : Standing S W) (why : ProofError) → TakesToken next.wanted
      → TakesNext (if few then Ok next else Err why)
  either-takes true next why takes = takes
  either-takes false next why takes = tt

  lemma-takes :
      (start : Option S) (known : List (Learned S W)) (ls : List Lit) (p : MarkedPlan S W) (w : List Lit)
      (wanted : List (Wanted S W))
      → TakesNext (after_lemma start known ls p w wanted)
  lemma-takes None known ls p w wanted = tt
  lemma-takes (Some s) known ls p w wanted = either-takes (nat_lt (length known) MAX_LEMMAS) _ _ tt

  comparison-takes :
      (conditions : Option (List Lit)) (known : List (Learned S W)) (ls w : List Lit) (wanted : List (Wanted S W))
      → TakesNext (after_comparison conditions known ls w wanted)
  comparison-takes None known ls w wanted = tt
  comparison-takes (Some es) known ls w wanted = settled-takes known (wanted_cycles w (ls ++ es) ++ wanted)

  module _ (compare : Comparison S) where
    citation-takes :
        (start : Option S) (found : Option (Learned S W)) (known : List (Learned S W)) (w : List Lit)
        (wanted : List (Wanted S W))
        → TakesNext (after_citation compare start found known w wanted)
    citation-takes None found known w wanted = tt
    citation-takes (Some here) None known w wanted = tt
    citation-takes (Some here) (Some lemma) known w wanted =
        comparison-takes (conditions_between compare (start_of lemma.plan) (Some here)) known lemma.literals w wanted

    at_tree-takes :
        (tok : ProofTok) (known : List (Learned S W)) (p : MarkedPlan S W) (w : List Lit) (wanted : List (Wanted S W))
        → TakesNext (after_at_tree compare tok known p w wanted)
    at_tree-takes token.Ask known p w wanted = question-takes known p w wanted
    at_tree-takes token.Holds known p w wanted = end-takes known p wanted
    at_tree-takes (token.Cycle picks) known p w wanted = cycle-takes (pick_verdict w picks) known wanted
    at_tree-takes (token.Lemma ls) known p w wanted = lemma-takes (start_of p) known ls p w wanted
    at_tree-takes (token.Cite number) known p w wanted =
        citation-takes (start_of p) (slice_get known number) known w wanted

    at_cycle-takes :
        (tok : ProofTok) (known : List (Learned S W)) (w : List Lit) (wanted : List (Wanted S W))
        → TakesNext (after_at_cycle tok known w wanted)
    at_cycle-takes token.Ask known w wanted = tt
    at_cycle-takes token.Holds known w wanted = tt
    at_cycle-takes (token.Cycle picks) known w wanted = cycle-takes (pick_verdict w picks) known wanted
    at_cycle-takes (token.Lemma ls) known w wanted = tt
    at_cycle-takes (token.Cite number) known w wanted = tt

    after-takes : (tok : ProofTok) (known : List (Learned S W)) (wanted : List (Wanted S W))
        → TakesNext (after_proof_token compare tok known wanted)
    after-takes tok known [] = tt
    after-takes tok known (Tree p w ∷ wanted) = at_tree-takes tok known p w wanted
    after-takes tok known (Cycle w ∷ wanted) = at_cycle-takes tok known w wanted
    after-takes tok known (Learn p ls ∷ wanted) = after-takes tok (with_lemma known p ls) wanted

    -- no tokens complete nothing that takes one
    not_none :
        (wanted : List (Wanted S W)) (known : List (Learned S W)) → TakesToken wanted → 0 < length wanted
        → CompletesWanted compare [] wanted known → ⊥
    not_none [] known takes some completes = omega arith
    not_none (Tree p w ∷ wanted) known takes some (t, rest, shows, same, later) =
        omega (
          arith,
          proof_tokens_of-some t,
          ap (λ (x : List ProofTok). length x) same,
          length-append (proof_tokens_of t) rest,
        )
    not_none (Cycle w ∷ wanted) known takes some (picks, rest, is, same, later) = cc
    not_none (Learn p ls ∷ wanted) known takes some completes = takes

module _ {S W : Type 0} (exact : AreFound) (one_by_one : AreTakenOneByOne S W) (refused : RefusedBeginNothing S W)
    (compare : Comparison S) (total : ℕ) where
  module _ (tok : ProofTok) (tokens : List ProofTok) (at : Standing S W) (rest : List ℕ)
      (spelled : IsSpellableInProof tok)
      (completes : CompletesWanted compare (tok ∷ tokens) at.wanted at.known)
      (later : (next : Standing S W) → TakesToken next.wanted → 0 < length next.wanted
      → CompletesWanted compare tokens next.wanted next.known
      → tree_judged compare total next (proof_tokens_text tokens ++ rest) ≡ Ok rest) where
    first_found : token_front (proof_tokens_text (tok ∷ tokens) ++ rest) ≡ Found tok (proof_tokens_text tokens ++ rest)
    first_found =
        (exact.found tok (proof_tokens_text (tok ∷ tokens) ++ rest) (proof_tokens_text tokens ++ rest)).1
        (spelled, append_assoc (proof_token_text tok) (proof_tokens_text tokens) rest)

    -- after the first token nothing is wanted any more, or the other tokens are judged
    by_wanted :
        (next : Standing S W) (w : List (Wanted S W)) → next.wanted ≡ w → IsTaken compare tok at next
        → tree_judged compare total at (proof_tokens_text (tok ∷ tokens) ++ rest) ≡ Ok rest
    by_wanted next [] none taken =
        let left : CompletesWanted compare tokens next.wanted next.known =
        (one_by_one compare tok tokens at.known at.wanted next (few_of tok spelled) taken).0 completes in
        let no_more : tokens ≡ [] =
        subst (λ (x : List (Wanted S W)). CompletesWanted compare tokens x next.known) none left in
        tree_judged-done compare total exact at next (proof_tokens_text (tok ∷ tokens) ++ rest)
        (proof_tokens_text tokens ++ rest) tok first_found taken none
        ∙ ap (λ (x : List ProofTok). Ok (proof_tokens_text x ++ rest)) no_more
    by_wanted next (x ∷ w) more taken =
        let some : 0 < length next.wanted = omega (arith, ap (λ (y : List (Wanted S W)). length y) more) in
        tree_judged-on compare total exact at next (proof_tokens_text (tok ∷ tokens) ++ rest)
        (proof_tokens_text tokens ++ rest) tok first_found taken some
        ∙ later next (subst (λ (y : Result (Standing S W) ProofError). TakesNext y) taken
        (after-takes compare tok at.known at.wanted)) some
        ((one_by_one compare tok tokens at.known at.wanted next (few_of tok spelled) taken).0 completes)

    by_taken :
        (taken : Result (Standing S W) ProofError) → after_proof_token compare tok at.known at.wanted ≡ taken
        → tree_judged compare total at (proof_tokens_text (tok ∷ tokens) ++ rest) ≡ Ok rest
    by_taken (Ok next) is = by_wanted next next.wanted refl is
    by_taken (Err why) is = absurd (refused compare tok tokens at.known at.wanted why is completes)

  -- tokens that complete what is wanted, where something is, are judged to the end
  tokens_accepted :
      (tokens : List ProofTok) (at : Standing S W) (rest : List ℕ) → AreSpellableInProof tokens → TakesToken at.wanted
      → 0 < length at.wanted → CompletesWanted compare tokens at.wanted at.known
      → tree_judged compare total at (proof_tokens_text tokens ++ rest) ≡ Ok rest
  tokens_accepted [] at rest spelled takes some completes =
      absurd (not_none compare at.wanted at.known takes some completes)
  tokens_accepted (tok ∷ tokens) at rest spelled takes some completes =
      by_taken tok tokens at rest spelled.0 completes (λ next. tokens_accepted tokens next rest spelled.1)
      (after_proof_token compare tok at.known at.wanted) refl

  -- so is a tree that shows its plan
  tree_accepted :
      (t : ProofTree) (p : MarkedPlan S W) (rest : List ℕ) → Shows compare t p [] []
      → AreSpellableInProof (proof_tokens_of t)
      → tree_judged compare total (opened_tree p) (proof_tokens_text (proof_tokens_of t) ++ rest) ≡ Ok rest
  tree_accepted t p rest shows spelled =
      tokens_accepted (proof_tokens_of t) (opened_tree p) rest spelled tt (omega arith)
      (t, [], shows, sym (append-nil (proof_tokens_of t)), refl)

  line_accepted :
      (front : List ℕ → Parsed (Unit {0})) (text rest : List ℕ) → FindsExactly front (λ x. text) (λ x. Unit {0})
      → line_judged total front (text ++ rest) ≡ Ok rest
  line_accepted front text rest found =
      ap (λ (x : Parsed (Unit {0})). after_part total (text ++ rest) x (λ line more. Ok more))
      ((found.found tt (text ++ rest) rest).1 (tt, refl))

  module _ (lines : LinesAreFound) where
    -- a section whose tree shows its plan is accepted
    section_accepted :
        (t : ProofTree) (p : MarkedPlan S W) (name : ObName) (rest : List ℕ) → Shows compare t p [] []
        → AreSpellableInProof (proof_tokens_of t)
        → section_judged compare p name total
        (ob_text name ++ (proof_tokens_text (proof_tokens_of t) ++ (newline_text ++ rest))) ≡ Ok rest
    unfolding section_judged
    section_accepted t p name rest shows spelled =
        ap
        (λ (x : Result (List ℕ) ConfirmError).
        and_then_judged x (λ more. and_then_judged (tree_judged compare total (opened_tree p) more)
        (line_judged total line_end_front)))
        (line_accepted (ob_front name) (ob_text name)
        (proof_tokens_text (proof_tokens_of t) ++ (newline_text ++ rest)) (lines.obs name))
        ∙ ap (λ (x : Result (List ℕ) ConfirmError). and_then_judged x (line_judged total line_end_front))
        (tree_accepted t p (newline_text ++ rest) shows spelled)
        ∙ line_accepted line_end_front newline_text rest lines.line_ends

    regroup : (a b c d rest : List ℕ) → (a ++ (b ++ (c ++ d))) ++ rest ≡ a ++ (b ++ (c ++ (d ++ rest)))
    regroup a b c d rest = simp append_assoc

    -- sections whose trees show their plans are accepted
    sections_accepted :
        (plan : ObName → MarkedPlan S W) (names : List ObName) (trees : List ProofTree) (rest : List ℕ)
        → AreShown compare plan names trees
        → sections_judged compare plan names total (proof_sections_text names trees ++ rest) ≡ Ok rest
    unfolding sections_judged
    sections_accepted plan [] [] rest shown = refl
    sections_accepted plan [] (t ∷ trees) rest shown = absurd shown
    sections_accepted plan (name ∷ names) [] rest shown = absurd shown
    sections_accepted plan (name ∷ names) (t ∷ trees) rest shown =
        ap (λ (x : List ℕ). and_then_judged (section_judged compare (plan name) name total x)
        (sections_judged compare plan names total))
        (regroup (ob_text name) (proof_tokens_text (proof_tokens_of t)) newline_text
        (proof_sections_text names trees) rest)
        ∙ ap (λ (x : Result (List ℕ) ConfirmError). and_then_judged x (sections_judged compare plan names total))
        (section_accepted t (plan name) name (proof_sections_text names trees ++ rest) shown.0 shown.1)
        ∙ sections_accepted plan names trees rest shown.2

    end_accepted : end_judged total end_text ≡ Ok tt
    unfolding end_judged
    end_accepted =
        ap (λ (x : List ℕ). and_then_judged (line_judged total end_front x) (nothing_after total))
        (sym (append-nil end_text))
        ∙ ap (λ (x : Result (List ℕ) ConfirmError). and_then_judged x (nothing_after total))
        (line_accepted end_front end_text [] lines.ends)

-- bytes that are a proof are accepted
pub proof_accepted :
    {S W : Type 0} → AreFound → AreTakenOneByOne S W → RefusedBeginNothing S W → LinesAreFound
    → (compare : Comparison S)
    (plan : ObName → MarkedPlan S W) (names : Level → List ObName) (bytes : List ℕ) (level : Level)
    → IsProof compare plan names bytes level → proof_judged compare plan names bytes ≡ Ok level
unfolding proof_judged
proof_accepted exact one_by_one refused lines compare plan names bytes level (trees, shown, text) =
    ap
    (λ (x : Parsed Level).
    after_part (length bytes) bytes x
    (λ l rest.
    and_then_judged (sections_judged compare plan (names l) (length bytes) rest)
    (λ behind. and_then_judged (end_judged (length bytes) behind) (λ done. Ok l))))
    ((lines.headers.found level bytes (proof_sections_text (names level) trees ++ end_text)).1 (tt, text))
    ∙ ap
    (λ (x : Result (List ℕ) ConfirmError).
    and_then_judged x (λ behind. and_then_judged (end_judged (length bytes) behind) (λ done. Ok level)))
    (sections_accepted exact one_by_one refused compare (length bytes) lines plan (names level) trees end_text shown)
    ∙ ap (λ (x : Result (Unit {0}) ConfirmError). and_then_judged x (λ done. Ok level))
    (end_accepted exact one_by_one refused compare (length bytes) lines)
