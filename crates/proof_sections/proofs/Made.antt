-- Bytes that are accepted are a proof.
use Rattle.std.proofs.Common.{◌≡◌, ℕ, zero, suc, ◌-◌, List, [], ◌∷◌, ◌++◌, length, Result, Ok, Err, refl, sym, ap, ◌∙◌}
use Rattle.std.proofs.Common.{subst, append_assoc}
use Rattle.std.proofs.lemmas.List.{append-nil}
use Rattle.fn_rules.specs.declared.function.Level.{Level}
use Rattle.fn_rules.specs.declared.function.ObName.{ObName}
use Rattle.cert_text.specs.Spelling.{ob_text, end_text}
use Rattle.proof_trees.specs.declared.token.ProofTok.{ProofTok}
use Rattle.proof_trees.specs.Starts.{MarkedPlan, Comparison}
use Rattle.proof_trees.specs.Proofs.{ProofTree, Shows}
use Rattle.proof_trees.specs.Tokens.{Wanted, CompletesWanted, proof_tokens_of}
use Rattle.proof_check.specs.declared.verdict.ProofError.{ProofError}
use Rattle.proof_check.specs.Judging.{AreCompleted}
use Rattle.proof_check.specs.Steps.{Standing, after_proof_token}
use Rattle.proof_text.specs.Exact.{FindsExactly}
use Rattle.proof_text.specs.Fronts.{Parsed, Found, Missing}
use Rattle.proof_text.specs.Lines.{header_front, ob_front, line_end_front, end_front}
use Rattle.proof_text.specs.Spelling.{IsSpellableInProof, proof_header_text, newline_text, proof_token_text}
use Rattle.proof_text.specs.Tokens.{token_front}
use Rattle.proof_sections.specs.declared.refusal.ConfirmError.{ConfirmError}
use Rattle.proof_sections.specs.Judgement.{after_part, after_token, and_then_judged, end_judged, ended_or, line_judged}
use Rattle.proof_sections.specs.Judgement.{nothing_after, opened_tree, proof_judged, section_judged, sections_judged}
use Rattle.proof_sections.specs.Judgement.{tree_by, tree_judged}
use Rattle.proof_sections.specs.Spelled.{AreShown, AreSpellableInProof, IsProof, proof_sections_text, proof_tokens_text}
use Rattle.proof_sections.proofs.Accepting.{LinesAreFound}
use Rattle.proof_sections.proofs.Holding.{AreTakenOneByOne, few_of}
use Rattle.proof_sections.proofs.Trees.{AreFound}

-- what was accepted, in two steps
first_of :
    {A B : Type 0} (one : Result A ConfirmError) (next : A → Result B ConfirmError) (b : B)
    → and_then_judged one next ≡ Ok b
    → (a : A) × (one ≡ Ok a) × (next a ≡ Ok b)
first_of (Ok a) next b ok = (a, refl, ok)
first_of (Err e) next b ok = absurd (cc)

found_of :
    {A B : Type 0} (total : ℕ) (left : List ℕ) (front : Parsed A) (next : A → List ℕ → Result B ConfirmError) (b : B)
    → after_part total left front next ≡ Ok b
    → (a : A) × (rest : List ℕ) × (front ≡ Found a rest) × (next a rest ≡ Ok b)
found_of total left (Found a rest) next b ok = (a, rest, refl, ok)
found_of total left (Missing unread) next b ok = absurd (cc)

module _ {S W : Type 0} (exact : AreFound) (one_by_one : AreTakenOneByOne S W)
    (compare : Comparison S) (total : ℕ) where
  -- some tokens complete what is wanted, and their text is what is left, up to the rest
  abbrev IsMadeUpTo : List ℕ → Standing S W → List ℕ → Type 0
  IsMadeUpTo rest at left =
      (tokens : List ProofTok) × AreSpellableInProof tokens × (left ≡ proof_tokens_text tokens ++ rest)
      × AreCompleted compare tokens at

  module _ (at : Standing S W) (tok : ProofTok) (left more rest : List ℕ) (found : token_front left ≡ Found tok more)
      (later : Standing S W → Result (List ℕ) ConfirmError)
      (go_on : (next : Standing S W) → later next ≡ Ok rest → IsMadeUpTo rest next more) where
    spelled : IsSpellableInProof tok × (left ≡ proof_token_text tok ++ more)
    spelled = (exact.found tok left more).0 found

    -- after the token nothing is wanted any more, or what is left is made of further tokens
    by_wanted :
        (next : Standing S W) (w : List (Wanted S W)) → next.wanted ≡ w
        → after_proof_token compare tok at.known at.wanted ≡ Ok next
        → ended_or w more (later next) ≡ Ok rest → IsMadeUpTo rest at left
    by_wanted next [] none taken ok =
        let same : more ≡ rest = cc in
        let done : AreCompleted compare [] next =
        subst (λ (x : List (Wanted S W)). CompletesWanted compare [] x next.known) (sym none) refl in (
          tok ∷ [],
          (spelled.0, tt),
          spelled.1 ∙ ap (λ (x : List ℕ). proof_token_text tok ++ x) same
              ∙ ap (λ (x : List ℕ). x ++ rest) (sym (append-nil (proof_token_text tok))),
          (one_by_one compare tok [] at.known at.wanted next (few_of tok spelled.0) taken).1 done,
        )
    by_wanted next (x ∷ w) some taken ok =
        let rest_of = go_on next ok in (
          tok ∷ rest_of.0,
          (spelled.0, rest_of.1),
          spelled.1 ∙ ap (λ (y : List ℕ). proof_token_text tok ++ y) rest_of.2
              ∙ sym (append_assoc (proof_token_text tok) (proof_tokens_text rest_of.0) rest),
          (one_by_one compare tok rest_of.0 at.known at.wanted next (few_of tok spelled.0) taken).1 rest_of.3,
        )

    by_taken :
        (taken : Result (Standing S W) ProofError) → after_proof_token compare tok at.known at.wanted ≡ taken
        → after_token (total - length left) more later taken ≡ Ok rest → IsMadeUpTo rest at left
    by_taken (Ok next) is ok = by_wanted next next.wanted refl is ok
    by_taken (Err e) is ok = absurd (cc)

  module _ (at : Standing S W) (left rest : List ℕ) (most : ℕ)
      (go_on : (next : Standing S W) (more : List ℕ) → tree_by most compare total next more ≡ Ok rest
      → IsMadeUpTo rest next more) where
    -- by what is found at the front: a token, or none
    by_front :
        (front : Parsed ProofTok) → token_front left ≡ front
        → after_part total left front
        (λ tok more.
        after_token (total - length left) more (λ next. tree_by most compare total next more)
        (after_proof_token compare tok at.known at.wanted))
        ≡ Ok rest
        → IsMadeUpTo rest at left
    by_front (Found tok more) is ok =
        by_taken at tok left more rest is (λ next. tree_by most compare total next more) (λ next. go_on next more)
        (after_proof_token compare tok at.known at.wanted) refl ok
    by_front (Missing unread) is ok = absurd (cc)

  tree_by-made :
      (most : ℕ) (at : Standing S W) (left rest : List ℕ) → tree_by most compare total at left ≡ Ok rest
      → IsMadeUpTo rest at left
  unfolding tree_by
  tree_by-made zero at left rest ok = absurd (cc)
  tree_by-made (suc most) at left rest ok =
      by_front at left rest most (λ next more. tree_by-made most next more rest) (token_front left) refl ok

  -- a tree that is accepted shows its plan
  abbrev IsTreeUpTo : List ℕ → MarkedPlan S W → List ℕ → Type 0
  IsTreeUpTo rest p left =
      (t : ProofTree) × Shows compare t p [] [] × AreSpellableInProof (proof_tokens_of t)
      × (left ≡ proof_tokens_text (proof_tokens_of t) ++ rest)

  tree_made :
      (p : MarkedPlan S W) (left rest : List ℕ) → IsMadeUpTo rest (opened_tree p) left → IsTreeUpTo rest p left
  tree_made p left rest (tokens, spellable, text, (t, others, shows, same, none)) =
      let are : tokens ≡ proof_tokens_of t = same ∙ ap (λ (x : List ProofTok). proof_tokens_of t ++ x) none
      ∙ append-nil (proof_tokens_of t) in (
        t,
        shows,
        subst (λ (x : List ProofTok). AreSpellableInProof x) are spellable,
        text ∙ ap (λ (x : List ProofTok). proof_tokens_text x ++ rest) are,
      )

  tree_judged-made :
      (p : MarkedPlan S W) (left rest : List ℕ)
      → tree_judged compare total (opened_tree p) left ≡ Ok rest → IsTreeUpTo rest p left
  unfolding tree_judged
  tree_judged-made p left rest ok = tree_made p left rest (tree_by-made (length left) (opened_tree p) left rest ok)

  -- a line that is accepted stands there
  line_made :
      (front : List ℕ → Parsed (Unit {0})) (text left rest : List ℕ) → FindsExactly front (λ x. text) (λ x. Unit {0})
      → line_judged total front left ≡ Ok rest → left ≡ text ++ rest
  line_made front text left rest found ok =
      let is = found_of total left (front left) (λ line more. Ok more) rest ok in
      let same : is.1 ≡ rest = cc in
      ((found.found tt left is.1).0 is.2).1 ∙ ap (λ (x : List ℕ). text ++ x) same

  module _ (lines : LinesAreFound) where
    -- a section that is accepted is the text of a tree that shows its plan
    section_made :
        (p : MarkedPlan S W) (name : ObName) (left rest : List ℕ) → section_judged compare p name total left ≡ Ok rest
        → (t : ProofTree) × Shows compare t p [] [] × AreSpellableInProof (proof_tokens_of t)
        × (left ≡ ob_text name ++ (proof_tokens_text (proof_tokens_of t) ++ (newline_text ++ rest)))
    unfolding section_judged
    section_made p name left rest ok =
        let line =
        first_of (line_judged total (ob_front name) left)
        (λ more. and_then_judged (tree_judged compare total (opened_tree p) more) (line_judged total line_end_front))
        rest ok in
        let tree = first_of (tree_judged compare total (opened_tree p) line.0)
        (line_judged total line_end_front) rest line.2 in
        let made = tree_judged-made p line.0 tree.0 tree.1 in (
          made.0,
          made.1,
          made.2,
          line_made (ob_front name) (ob_text name) left line.0 (lines.obs name) line.1
              ∙ ap (λ (x : List ℕ). ob_text name ++ x)
              (made.3
              ∙ ap (λ (x : List ℕ). proof_tokens_text (proof_tokens_of made.0) ++ x)
              (line_made line_end_front newline_text tree.0 rest lines.line_ends tree.2)),
        )

    regroup : (a b c d rest : List ℕ) → (a ++ (b ++ (c ++ d))) ++ rest ≡ a ++ (b ++ (c ++ (d ++ rest)))
    regroup a b c d rest = simp append_assoc

    -- sections that are accepted are the texts of trees that show their plans
    sections_made :
        (plan : ObName → MarkedPlan S W) (names : List ObName) (left rest : List ℕ)
        → sections_judged compare plan names total left ≡ Ok rest
        → (trees : List ProofTree) × AreShown compare plan names trees
        × (left ≡ proof_sections_text names trees ++ rest)
    unfolding sections_judged
    sections_made plan [] left rest ok = ([], tt, cc)
    sections_made plan (name ∷ names) left rest ok =
        let one = first_of (section_judged compare (plan name) name total left)
        (sections_judged compare plan names total) rest ok in
        let made = section_made (plan name) name left one.0 one.1 in
        let others = sections_made plan names one.0 rest one.2 in (
          made.0 ∷ others.0,
          (made.1, made.2, others.1),
          made.3
              ∙ ap (λ (x : List ℕ). ob_text name ++ (proof_tokens_text (proof_tokens_of made.0) ++ (newline_text ++ x)))
              others.2
              ∙ sym (regroup (ob_text name) (proof_tokens_text (proof_tokens_of made.0)) newline_text
              (proof_sections_text names others.0) rest),
        )

    nothing_made : (left : List ℕ) → nothing_after total left ≡ Ok tt → left ≡ []
    nothing_made [] ok = refl
    nothing_made (b ∷ left) ok = absurd (cc)

    end_made : (left : List ℕ) → end_judged total left ≡ Ok tt → left ≡ end_text
    unfolding end_judged
    end_made left ok =
        let line = first_of (line_judged total end_front left) (nothing_after total) tt ok in
        line_made end_front end_text left line.0 lines.ends line.1
        ∙ ap (λ (x : List ℕ). end_text ++ x) (nothing_made line.0 line.2) ∙ append-nil end_text

-- the text by its three parts
whole_text :
    (bytes header behind sections left end : List ℕ) → bytes ≡ header ++ behind → behind ≡ sections ++ left → left ≡ end
    → bytes ≡ header ++ (sections ++ end)
whole_text bytes header behind sections left end first then last = cc

-- bytes that are accepted are a proof
pub accepted_made :
    {S W : Type 0} → AreFound → AreTakenOneByOne S W → LinesAreFound → (compare : Comparison S)
    (plan : ObName → MarkedPlan S W) (names : Level → List ObName) (bytes : List ℕ) (level : Level)
    → proof_judged compare plan names bytes ≡ Ok level → IsProof compare plan names bytes level
unfolding proof_judged
accepted_made exact one_by_one lines compare plan names bytes level ok =
    let header = found_of (length bytes) bytes (header_front bytes) _ level ok in
    let sections = first_of (sections_judged compare plan (names header.0) (length bytes) header.1) _ level header.3 in
    let end = first_of (end_judged (length bytes) sections.0) _ level sections.2 in
    let same : header.0 ≡ level = cc in
    let made = sections_made exact one_by_one compare (length bytes) lines plan (names header.0)
    header.1 sections.0 sections.1 in
    let last : sections.0 ≡ end_text = end_made exact one_by_one compare (length bytes) lines sections.0 end.1 in
    let is : IsProof compare plan names bytes header.0 = (
      made.0,
      made.1,
      whole_text bytes (proof_header_text header.0) header.1 (proof_sections_text (names header.0) made.0) sections.0
          end_text ((lines.headers.found header.0 bytes header.1).0 header.2).1 made.2 last,
    ) in
    subst (λ (l : Level). IsProof compare plan names bytes l) same is
