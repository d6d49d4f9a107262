-- Tokens that are taken where they are read.
use Rattle.std.proofs.Common.{◌≡◌, ◌↔◌, ℕ, suc, ◌+◌, ◌-◌, ◌<◌, ◌≤◌, List, [], ◌∷◌, ◌++◌, length, take, drop, Result, Ok}
use Rattle.std.proofs.Common.{arith, refl, sym, ap, subst, length-drop, ◌∙◌}
use Rattle.std.proofs.lemmas.List.{drop-drop, length-map, take-append-drop}
use Rattle.diff_graph.specs.declared.lit.Lit.{Lit}
use Rattle.ask_core.specs.declared.tree.Tok.{Tok}
use Rattle.ask_core.specs.declared.tree.Tok.TheVariants as cert
use Rattle.cert_check.specs.declared.verdict.Progress.{Progress}
use Rattle.cert_check.specs.declared.verdict.Progress.TheVariants.{More, Done}
use Rattle.cert_text.specs.Spelling.{token_text, IsSpellable}
use Rattle.ot_sections.specs.Cycles.{IsCycleFront}
use Rattle.ot_sections.proofs.Numbers.{bytes_from}
use Rattle.proof_trees.specs.declared.token.ProofTok.{ProofTok}
use Rattle.proof_trees.specs.declared.token.ProofTok.TheVariants as token
use Rattle.proof_trees.specs.Proofs.{Learned}
use Rattle.proof_trees.specs.Starts.{Comparison}
use Rattle.proof_trees.specs.Starters.{Starts}
use Rattle.proof_trees.specs.Tokens.{Wanted}
use Rattle.proof_check.specs.Judging.{ProofJudging, standing_at, standing_over}
use Rattle.open_places.specs.Places.{OpenProof}
use Rattle.proof_check.specs.Questions.{SkipsTo}
use Rattle.proof_check.specs.Steps.{Standing, IsTaken, after_proof_token}
use Rattle.proof_text.specs.Fronts.{Found}
use Rattle.proof_text.specs.Spelling.{proof_token, proof_token_text, IsSpellableInProof}
use Rattle.proof_text.specs.Tokens.{token_front}
use Rattle.proof_sections.specs.declared.refusal.ConfirmError.{ConfirmError}
use Rattle.proof_sections.specs.Judgement.{FrontLeadsTo, tree_judged}
use Rattle.proof_sections.proofs.Trees.{AreFound, front_leads, tree_judged-on}

-- tokens of certificates are tokens of proofs, spelled as there
pub record AreAlike : Type 0 where
  pub text : (tok : Tok) → proof_token_text (proof_token tok) ≡ token_text tok
  pub spellable : (tok : Tok) → IsSpellableInProof (proof_token tok) ↔ IsSpellable tok

-- the first of some bytes and those behind it
drop_behind : (b : ℕ) (bytes : List ℕ) (len : ℕ) → drop (len + 1) (b ∷ bytes) ≡ drop len bytes
drop_behind b bytes len = let e : len + 1 ≡ suc len = omega arith in rw e refl

drop_behind_two : (b c : ℕ) (bytes : List ℕ) (len : ℕ) → drop (len + 2) (b ∷ c ∷ bytes) ≡ drop len bytes
drop_behind_two b c bytes len = let e : len + 2 ≡ suc (suc len) = omega arith in rw e refl

-- something is wanted where a token is taken
some_wanted :
    {S W : Type 0} (compare : Comparison S) (tok : ProofTok) (known : List (Learned S W))
    (wanted : List (Wanted S W)) (new : Standing S W)
    → after_proof_token compare tok known wanted ≡ Ok new → 0 < length wanted
some_wanted compare tok known [] new taken = absurd (cc)
some_wanted compare tok known (x ∷ wanted) new taken = omega arith

-- the same places of the same asker stand for the same
pub standing_same :
    {A N S W : Type 0} (starts : A → Starts N S W) (old new : ProofJudging A N)
    → new.places ≡ old.places → new.asker ≡ old.asker
    → standing_at starts new ≡ standing_at starts old
standing_same starts old new places asker = rw (places, asker) refl

module _ (exact : AreFound) where
  question_found : (rest : List ℕ) → token_front (63 ∷ rest) ≡ Found token.Ask rest
  question_found rest = (exact.found token.Ask (63 ∷ rest) rest).1 (tt, refl)

  -- the cycle behind an `x`
  cycle_found :
      AreAlike → (lits : List Lit) (bytes : List ℕ) (len : ℕ) (front : IsCycleFront lits bytes len)
      → token_front (120 ∷ bytes) ≡ Found (token.Cycle front.1.0) (drop len bytes)
  cycle_found alike lits bytes len (within, (picks, fine, text, cycle)) =
      let spelled : 120 ∷ bytes ≡ proof_token_text (token.Cycle picks) ++ drop len bytes =
      ap (λ (l : List ℕ). 120 ∷ l) (sym (take-append-drop len bytes))
      ∙ ap (λ (l : List ℕ). l ++ drop len bytes) (sym (alike.text (cert.Cycle picks) ∙ text)) in
      (exact.found (token.Cycle picks) (120 ∷ bytes) (drop len bytes)).1
      ((alike.spellable (cert.Cycle picks)).1 fine, spelled)

  module _ {N S W : Type 0} (compare : Comparison S) (old : Standing S W)
      (starts : Starts N S W) (q : OpenProof N) where
    -- a question leads behind it
    pub question_leads :
        (rest : List ℕ) → IsTaken compare token.Ask old (standing_over starts q) → 0 < length q.wanted
        → FrontLeadsTo compare (63 ∷ rest) More old (standing_over starts q) 1
    question_leads rest taken some = (
      omega arith,
      omega arith,
      λ total.
          front_leads exact compare total More token.Ask (63 ∷ rest) rest old starts q (question_found rest) taken
          (λ e. some) (λ e. absurd (cc)),
    )

    -- a cycle does, or to the end
    pub cycle_leads :
        AreAlike → (p : Progress) (lits : List Lit) (bytes : List ℕ) (len : ℕ) (front : IsCycleFront lits bytes len)
        → IsTaken compare (token.Cycle front.1.0) old (standing_over starts q)
        → (p ≡ More → 0 < length q.wanted) → (p ≡ Done → q.wanted ≡ [])
        → FrontLeadsTo compare (120 ∷ bytes) p old (standing_over starts q) (len + 1)
    cycle_leads alike p lits bytes len front taken some none = (
      omega arith,
      omega (arith, front.0),
      λ total.
          rw (drop_behind 120 bytes len)
          (front_leads exact compare total p (token.Cycle front.1.0) (120 ∷ bytes) (drop len bytes) old starts q
          (cycle_found alike lits bytes len front) taken some none),
    )

    -- and so does a question with a cycle behind it
    pub skip_leads :
        AreAlike → (lits : List Lit) (bytes : List ℕ) (len : ℕ) (front : IsCycleFront lits bytes len)
        → SkipsTo compare front.1.0 old (standing_over starts q) → 0 < length q.wanted
        → FrontLeadsTo compare (63 ∷ 120 ∷ bytes) More old (standing_over starts q) (len + 2)
    skip_leads alike lits bytes len front (next, asked, closed) some = (
      omega arith,
      omega (arith, front.0),
      λ total.
          rw (drop_behind_two 63 120 bytes len)
          (tree_judged-on compare total exact old next (63 ∷ 120 ∷ bytes) (120 ∷ bytes) token.Ask
          (question_found (120 ∷ bytes)) asked
          (some_wanted compare (token.Cycle front.1.0) next.known next.wanted (standing_over starts q) closed)
          ∙ tree_judged-on compare total exact next (standing_over starts q) (120 ∷ bytes) (drop len bytes)
          (token.Cycle front.1.0) (cycle_found alike lits bytes len front) closed (rw length-map some)),
    )

-- what is judged of the whole leads on where tokens at a place do
module _ {S W : Type 0} (compare : Comparison S) (bytes : List ℕ) (at len : ℕ) (old new : Standing S W)
    (whole : Result (List ℕ) ConfirmError) (within : at ≤ length bytes)
    (so_far : whole ≡ tree_judged compare (length bytes) old (drop at bytes)) where
  pub front_goes_on :
      FrontLeadsTo compare (take (length bytes - at) (drop at bytes)) More old new len
      → (at + len ≤ length bytes) × (whole ≡ tree_judged compare (length bytes) new (drop (at + len) bytes))
  front_goes_on given =
      let front : FrontLeadsTo compare (drop at bytes) More old new len =
      subst (λ (l : List ℕ). FrontLeadsTo compare l More old new len) (bytes_from bytes at) given in (
        omega (arith, within, front.1, length-drop at bytes),
        so_far ∙ front.2 (length bytes)
            ∙ ap (λ (l : List ℕ). tree_judged compare (length bytes) new l) (drop-drop len at bytes),
      )

  pub front_ends :
      FrontLeadsTo compare (take (length bytes - at) (drop at bytes)) Done old new len
      → (at + len ≤ length bytes) × (whole ≡ Ok (drop (at + len) bytes))
  front_ends given =
      let front : FrontLeadsTo compare (drop at bytes) Done old new len =
      subst (λ (l : List ℕ). FrontLeadsTo compare l Done old new len) (bytes_from bytes at) given in (
        omega (arith, within, front.1, length-drop at bytes),
        so_far ∙ front.2 (length bytes) ∙ ap (λ (l : List ℕ). Ok l) (drop-drop len at bytes),
      )
