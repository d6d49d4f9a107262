-- Bytes that are accepted are made of tokens that complete the plans, so the plans hold.
use Rattle.std.proofs.Common.{◌≡◌, ◌↔◌, ℕ, zero, suc, ◌-◌, List, [], ◌∷◌, length, Result, Ok, Err, refl, sym, subst}
use Rattle.std.specs.List.{AllByRecursion}
use Rattle.fn_rules.specs.declared.function.Level.{Level}
use Rattle.fn_rules.specs.declared.function.ObName.{ObName}
use Rattle.ask_core.specs.Plans.{Plan}
use Rattle.proof_trees.specs.declared.token.ProofTok.{ProofTok}
use Rattle.proof_trees.specs.declared.token.ProofTok.TheVariants as token
use Rattle.proof_trees.specs.Starts.{MarkedPlan, unmarked, Comparison, IsMarkedBy, IsLawful}
use Rattle.proof_trees.specs.Proofs.{Learned}
use Rattle.proof_trees.specs.Tokens.{Wanted, Tree, CompletesWanted, HasFew}
use Rattle.proof_trees.specs.Truth.{HoldsUnder}
use Rattle.proof_check.specs.declared.verdict.ProofError.{ProofError}
use Rattle.proof_check.specs.Judging.{AreCompleted}
use Rattle.proof_check.specs.Steps.{Standing, after_proof_token}
use Rattle.proof_text.specs.Fronts.{Parsed, Found, Missing}
use Rattle.proof_text.specs.Lines.{header_front, ob_front, line_end_front}
use Rattle.proof_text.specs.Spelling.{IsSpellableInProof}
use Rattle.proof_text.specs.Tokens.{token_front}
use Rattle.proof_sections.specs.declared.refusal.ConfirmError.{ConfirmError}
use Rattle.proof_sections.specs.Judgement.{after_part, after_token, and_then_judged, end_judged, ended_or, line_judged}
use Rattle.proof_sections.specs.Judgement.{opened_tree, proof_judged, section_judged, sections_judged, tree_by}
use Rattle.proof_sections.specs.Judgement.{tree_judged}
use Rattle.proof_sections.proofs.Trees.{AreFound}

-- a token with a spelling has few numbers and literals
pub few_of : (tok : ProofTok) → IsSpellableInProof tok → HasFew tok
few_of token.Ask spelled = tt
few_of token.Holds spelled = tt
few_of (token.Cycle picks) spelled = spelled.1
few_of (token.Lemma ls) spelled = spelled.0
few_of (token.Cite number) spelled = tt

-- tokens complete what is wanted exactly where the first is taken and the others complete what it leaves
abbrev pub AreTakenOneByOne : (S W : Type 0) → Type 0
AreTakenOneByOne S W =
    (compare : Comparison S) (tok : ProofTok) (tokens : List ProofTok) (known : List (Learned S W)) (wanted : List
    (Wanted S W)) (next : Standing S W) → HasFew tok → after_proof_token compare tok known wanted ≡ Ok next
    → (CompletesWanted compare (tok ∷ tokens) wanted known ↔ CompletesWanted compare tokens next.wanted next.known)

-- tokens that complete a plan show that it holds
abbrev pub CompletedHold : (S W : Type 0) → Type 0
CompletedHold S W =
    (compare : Comparison S) (meaning : S → Plan W) (tokens : List ProofTok) (p : MarkedPlan S W)
    → IsLawful compare meaning → IsMarkedBy meaning p → CompletesWanted compare tokens (Tree p [] ∷ []) []
    → HoldsUnder [] (unmarked p)

module _ {S W : Type 0} (exact : AreFound) (one_by_one : AreTakenOneByOne S W)
    (compare : Comparison S) (total : ℕ) where
  -- some tokens complete what is wanted
  abbrev IsCompleted : Standing S W → Type 0
  IsCompleted at = (tokens : List ProofTok) × AreCompleted compare tokens at

  module _ (at : Standing S W) (tok : ProofTok) (left more rest : List ℕ) (found : token_front left ≡ Found tok more)
      (later : Standing S W → Result (List ℕ) ConfirmError)
      (go_on : (next : Standing S W) → later next ≡ Ok rest → IsCompleted next) where
    few_found : HasFew tok
    few_found = few_of tok ((exact.found tok left more).0 found).0

    by_wanted :
        (next : Standing S W) (w : List (Wanted S W)) → next.wanted ≡ w
        → after_proof_token compare tok at.known at.wanted ≡ Ok next
        → ended_or w more (later next) ≡ Ok rest → IsCompleted at
    by_wanted next [] none taken ok =
        let done : AreCompleted compare [] next =
        subst (λ (x : List (Wanted S W)). CompletesWanted compare [] x next.known) (sym none) refl in
        (tok ∷ [], (one_by_one compare tok [] at.known at.wanted next few_found taken).1 done)
    by_wanted next (x ∷ w) some taken ok =
        let rest_of = go_on next ok in
        (tok ∷ rest_of.0, (one_by_one compare tok rest_of.0 at.known at.wanted next few_found taken).1 rest_of.1)

    by_taken :
        (taken : Result (Standing S W) ProofError) → after_proof_token compare tok at.known at.wanted ≡ taken
        → after_token (total - length left) more later taken ≡ Ok rest → IsCompleted at
    by_taken (Ok next) is ok = by_wanted next next.wanted refl is ok
    by_taken (Err e) is ok = absurd (cc)

  module _ (at : Standing S W) (left rest : List ℕ) (most : ℕ)
      (go_on : (next : Standing S W) (more : List ℕ) → tree_by most compare total next more ≡ Ok rest
      → IsCompleted next) where
    -- by what is found at the front: a token, or none
    by_front :
        (front : Parsed ProofTok) → token_front left ≡ front
        → after_part total left front
        (λ tok more.
        after_token (total - length left) more (λ next. tree_by most compare total next more)
        (after_proof_token compare tok at.known at.wanted))
        ≡ Ok rest
        → IsCompleted at
    by_front (Found tok more) is ok =
        by_taken at tok left more rest is (λ next. tree_by most compare total next more) (λ next. go_on next more)
        (after_proof_token compare tok at.known at.wanted) refl ok
    by_front (Missing unread) is ok = absurd (cc)

  -- a tree that is accepted is made of tokens that complete what is wanted
  tree_by-completed :
      (most : ℕ) (at : Standing S W) (left rest : List ℕ)
      → tree_by most compare total at left ≡ Ok rest → IsCompleted at
  unfolding tree_by
  tree_by-completed zero at left rest ok = absurd (cc)
  tree_by-completed (suc most) at left rest ok =
      by_front at left rest most (λ next more. tree_by-completed most next more rest) (token_front left) refl ok

  pub tree_judged-completed :
      (at : Standing S W) (left rest : List ℕ) → tree_judged compare total at left ≡ Ok rest → IsCompleted at
  unfolding tree_judged
  tree_judged-completed at left rest ok = tree_by-completed (length left) at left rest ok

  module _ (holds : CompletedHold S W) (meaning : S → Plan W) (lawful : IsLawful compare meaning) where
    -- what was accepted, in two steps
    first_of :
        {A B : Type 0} (one : Result A ConfirmError) (next : A → Result B ConfirmError) (b : B)
        → and_then_judged one next ≡ Ok b
        → (a : A) × (one ≡ Ok a) × (next a ≡ Ok b)
    first_of (Ok a) next b ok = (a, refl, ok)
    first_of (Err e) next b ok = absurd (cc)

    found_of :
        {A B : Type 0} (left : List ℕ) (front : Parsed A) (next : A → List ℕ → Result B ConfirmError) (b : B)
        → after_part total left front next ≡ Ok b
        → (a : A) × (rest : List ℕ) × (front ≡ Found a rest) × (next a rest ≡ Ok b)
    found_of left (Found a rest) next b ok = (a, rest, refl, ok)
    found_of left (Missing unread) next b ok = absurd (cc)

    -- the plan of a section that is accepted holds
    section_holds :
        (p : MarkedPlan S W) (name : ObName) (left rest : List ℕ) → IsMarkedBy meaning p
        → section_judged compare p name total left ≡ Ok rest → HoldsUnder [] (unmarked p)
    unfolding section_judged
    section_holds p name left rest marked ok =
        let line =
        first_of (line_judged total (ob_front name) left)
        (λ more. and_then_judged (tree_judged compare total (opened_tree p) more) (line_judged total line_end_front))
        rest ok in
        let tree = first_of (tree_judged compare total (opened_tree p) line.0)
        (line_judged total line_end_front) rest line.2 in
        let tokens = tree_judged-completed (opened_tree p) line.0 tree.0 tree.1 in
        holds compare meaning tokens.0 p lawful marked tokens.1

    pub sections_hold :
        (plan : ObName → MarkedPlan S W) (names : List ObName) (left rest : List ℕ)
        → AllByRecursion (λ name. IsMarkedBy meaning (plan name)) names
        → sections_judged compare plan names total left ≡ Ok rest
        → AllByRecursion (λ name. HoldsUnder [] (unmarked (plan name))) names
    unfolding sections_judged
    sections_hold plan [] left rest marked ok = tt
    sections_hold plan (name ∷ names) left rest marked ok =
        let one = first_of (section_judged compare (plan name) name total left)
        (sections_judged compare plan names total) rest ok in
        (section_holds (plan name) name left one.0 marked.0 one.1, sections_hold plan names one.0 rest marked.1 one.2)

-- where a proof is accepted, the plans of its level hold
pub proof_holds :
    {S W : Type 0} → AreFound → AreTakenOneByOne S W → CompletedHold S W → (compare : Comparison S) (meaning : S
    → Plan W) (plan : ObName → MarkedPlan S W) (names : Level → List ObName) (bytes : List ℕ) (level : Level)
    → IsLawful compare meaning → AllByRecursion (λ name. IsMarkedBy meaning (plan name)) (names level)
    → proof_judged compare plan names bytes ≡ Ok level
    → AllByRecursion (λ name. HoldsUnder [] (unmarked (plan name))) (names level)
unfolding proof_judged
proof_holds exact one_by_one holds compare meaning plan names bytes level lawful marked ok =
    let header = found_of exact one_by_one compare (length bytes) holds meaning lawful bytes
    (header_front bytes) _ level ok in
    let sections =
    first_of exact one_by_one compare (length bytes) holds meaning lawful
    (sections_judged compare plan (names header.0) (length bytes) header.1) _ level header.3 in
    let end =
    first_of exact one_by_one compare (length bytes) holds meaning lawful
    (end_judged (length bytes) sections.0) _ level sections.2 in
    let same : header.0 ≡ level = cc in
    sections_hold exact one_by_one compare (length bytes) holds meaning lawful plan (names level)
    header.1 sections.0 marked
    (subst (λ (l : Level). sections_judged compare plan (names l) (length bytes) header.1
    ≡ Ok sections.0) same sections.1)
