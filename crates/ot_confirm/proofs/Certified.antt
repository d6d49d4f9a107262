-- A certificate under the header of a proof is a proof.
use Rattle.std.proofs.Common.{◌≡◌, ◌↔◌, ℕ, Bool, true, false, List, [], ◌∷◌, ◌++◌, map, refl, sym, ap, ◌∙◌, subst}
use Rattle.std.proofs.Common.{append_assoc}
use Rattle.std.specs.Prelude.{if◌then◌else◌, codes}
use Rattle.std.specs.List.{list_any}
use Rattle.diff_graph.specs.declared.lit.Lit.{Lit}
use Rattle.fn_rules.specs.declared.function.Level.{Level}
use Rattle.fn_rules.specs.declared.function.Level.TheVariants.{Tp1, Tp2}
use Rattle.fn_rules.specs.declared.function.ObName.{ObName}
use Rattle.fn_rules.specs.Functions.{Function}
use Rattle.fn_rules.specs.Obligations.{obligations_of}
use Rattle.ask_core.specs.declared.tree.Tok.{Tok}
use Rattle.ask_core.specs.Plans.{Plan}
use Rattle.ask_core.specs.Trees.{AnswerTree, Fits}
use Rattle.ask_core.specs.Trees as answer
use Rattle.cert_text.specs.Certificates as cert
use Rattle.cert_text.specs.Spelling.{has_update, ob_text, end_text, level_text}
use Rattle.cert_text.specs.Spelling as cert_spelling
use Rattle.proof_trees.specs.declared.token.ProofTok.{ProofTok}
use Rattle.proof_trees.specs.Starts.{MarkedPlan, Comparison, unmarked}
use Rattle.proof_trees.specs.Proofs.{ProofTree, Learned, Shows, proof_of}
use Rattle.proof_trees.specs.Tokens.{proof_tokens_of}
use Rattle.proof_text.specs.Spelling.{IsSpellableInProof, proof_header_text, newline_text, proof_token}
use Rattle.proof_text.specs.Spelling.{proof_token_text}
use Rattle.ot_questions.specs.declared.why.Why.{Why}
use Rattle.ot_questions.specs.Obligation.{plan_of}
use Rattle.ot_sections.specs.Certificates.{AreAnswers, IsCertificate}
use Rattle.start_laws.specs.Starts.{Start, compare_starts}
use Rattle.start_laws.specs.Marking.{marked_plan}
use Rattle.proof_sections.specs.Spelled.{AreShown, AreSpellableInProof, proof_sections_text, proof_tokens_text}
use Rattle.ot_confirm.specs.Certified.{after_first_line, under_proof_header}
use Rattle.ot_confirm.specs.Proofs.{IsProofOf}

-- the first line of a certificate ends with the first newline
after_header : (second : Bool) (level : Level) (rest : List ℕ)
    → after_first_line ((codes "otcert " ++ (if second then codes "2" else codes "1") ++ 32 ∷ level_text level
    ++ 10 ∷ []) ++ rest) ≡ rest
after_header true Tp1 rest = refl
after_header true Tp2 rest = refl
after_header false Tp1 rest = refl
after_header false Tp2 rest = refl

behind_header :
    (names : List ObName) (level : Level) (rest : List ℕ)
    → after_first_line (cert_spelling.header_text names level ++ rest) ≡ rest
behind_header names level rest = after_header (list_any has_update names) level rest

-- the tokens of a tree of a certificate, as those of a proof
proof_tokens-append : (ts us : List Tok) → map proof_token (ts ++ us) ≡ map proof_token ts ++ map proof_token us
proof_tokens-append [] us = refl
proof_tokens-append (t ∷ ts) us = ap (λ (l : List ProofTok). proof_token t ∷ l) (proof_tokens-append ts us)

tokens_of-proof_of : (t : AnswerTree) → proof_tokens_of (proof_of t) ≡ map proof_token (answer.tokens_of t)
tokens_of-proof_of (answer.Question t u) =
    rw (tokens_of-proof_of t, tokens_of-proof_of u, proof_tokens-append (answer.tokens_of t) (answer.tokens_of u)) refl
tokens_of-proof_of answer.End = refl
tokens_of-proof_of (answer.Impossible picks) = refl

abbrev proofs_of : List AnswerTree → List ProofTree
proofs_of trees = map proof_of trees

module _ (f : Function)
    (same_text : (tok : Tok) → proof_token_text (proof_token tok) ≡ cert_spelling.token_text tok)
    (same_spellable : (tok : Tok) → (IsSpellableInProof (proof_token tok) ↔ cert_spelling.IsSpellable tok)) where
  tokens_alike : (tokens : List Tok) → proof_tokens_text (map proof_token tokens) ≡ cert_spelling.tokens_text tokens
  tokens_alike [] = refl
  tokens_alike (tok ∷ tokens) =
      ap (λ (x : List ℕ). x ++ proof_tokens_text (map proof_token tokens)) (same_text tok)
      ∙ ap (λ (x : List ℕ). cert_spelling.token_text tok ++ x) (tokens_alike tokens)

  spellable_alike : (tokens : List Tok) → cert_spelling.AreSpellable tokens
      → AreSpellableInProof (map proof_token tokens)
  spellable_alike [] are = tt
  spellable_alike (tok ∷ tokens) are = ((same_spellable tok).1 are.0, spellable_alike tokens are.1)

  tree_alike : (t : AnswerTree)
      → proof_tokens_text (proof_tokens_of (proof_of t)) ≡ cert_spelling.tokens_text (answer.tokens_of t)
  tree_alike t = ap (λ (x : List ProofTok). proof_tokens_text x) (tokens_of-proof_of t)
      ∙ tokens_alike (answer.tokens_of t)

  tree_spellable : (t : AnswerTree) → cert_spelling.AreSpellable (answer.tokens_of t)
      → AreSpellableInProof (proof_tokens_of (proof_of t))
  tree_spellable t are =
      subst (λ (x : List ProofTok). AreSpellableInProof x) (sym (tokens_of-proof_of t))
      (spellable_alike (answer.tokens_of t) are)

  module _
      (shows : (compare : Comparison Start) (t : AnswerTree) (p : MarkedPlan Start Why) (w : List Lit)
      (known : List (Learned Start Why))
      → (Shows compare (proof_of t) p w known ↔ Fits t (unmarked p) w))
      (same : (ob : ObName) → unmarked (marked_plan f ob) ≡ plan_of f ob) where
    answers_shown :
        (names : List ObName) (trees : List AnswerTree) → AreAnswers (plan_of f) names trees
        → AreShown compare_starts (marked_plan f) names (proofs_of trees)
    answers_shown [] [] are = tt
    answers_shown [] (t ∷ trees) are = absurd are
    answers_shown (name ∷ names) [] are = absurd are
    answers_shown (name ∷ names) (t ∷ trees) are = (
      (shows compare_starts t (marked_plan f name) [] []).1
          (subst (λ (p : Plan Why). Fits t p []) (sym (same name)) are.0),
      tree_spellable t are.1,
      answers_shown names trees are.2,
    )

    section_alike :
        (ob tree : List ℕ) (rest : List ℕ) → (ob ++ tree ++ 10 ∷ []) ++ rest ≡ ob ++ (tree ++ (newline_text ++ rest))
    section_alike ob tree rest = simp append_assoc

    -- the sections of a certificate have the text of those of the proof
    sections_alike :
        (names : List ObName) (trees : List AnswerTree) → AreAnswers (plan_of f) names trees
        → cert.sections_text names trees ≡ proof_sections_text names (proofs_of trees)
    sections_alike [] [] are = refl
    sections_alike [] (t ∷ trees) are = absurd are
    sections_alike (name ∷ names) [] are = absurd are
    sections_alike (name ∷ names) (t ∷ trees) are =
        section_alike (ob_text name) (cert_spelling.tokens_text (answer.tokens_of t)) (cert.sections_text names trees)
        ∙ ap (λ (x : List ℕ). ob_text name ++ (x ++ (newline_text ++ cert.sections_text names trees)))
        (sym (tree_alike t))
        ∙ ap (λ (x : List ℕ). ob_text name ++ (proof_tokens_text (proof_tokens_of (proof_of t)) ++ (newline_text ++ x)))
        (sections_alike names trees are.2)

    -- bytes that are a certificate are a proof under the other header
    pub certificate_is_proof : (bytes : List ℕ) (level : Level) → IsCertificate bytes f level
        → IsProofOf (under_proof_header level bytes) f level
    certificate_is_proof bytes level (trees, are, text) =
        let names : List ObName = obligations_of f.head level in (
          proofs_of trees,
          answers_shown (obligations_of f.head level) trees are,
          ap (λ (x : List ℕ). proof_header_text level ++ x)
              (ap (λ (x : List ℕ). after_first_line x)
              (text
              ∙ append_assoc (cert_spelling.header_text (obligations_of f.head level) level)
              (cert.sections_text (obligations_of f.head level) trees) end_text)
              ∙ behind_header (obligations_of f.head level) level
              (cert.sections_text (obligations_of f.head level) trees ++ end_text)
              ∙ ap (λ (x : List ℕ). x ++ end_text) (sections_alike (obligations_of f.head level) trees are)),
        )
