-- Proofs by their spelling: a header, for each obligation in order its line, a tree that shows its plan and a newline,
-- and a last line. The plans of the obligations with their starts, and how starts compare, are given.
use Rattle.std.specs.Prelude.{◌≡◌, ℕ, List, [], ◌∷◌, ◌++◌}
use Rattle.std.specs.List.{AllByRecursion, flat_map}
use Rattle.fn_rules.specs.declared.function.Level.{Level}
use Rattle.fn_rules.specs.declared.function.ObName.{ObName}
use Rattle.cert_text.specs.Spelling.{ob_text, end_text}
use Rattle.proof_trees.specs.declared.token.ProofTok.{ProofTok}
use Rattle.proof_trees.specs.Starts.{MarkedPlan, Comparison}
use Rattle.proof_trees.specs.Proofs.{ProofTree, Shows}
use Rattle.proof_trees.specs.Tokens.{proof_tokens_of}
use Rattle.proof_text.specs.Spelling.{IsSpellableInProof, proof_token_text, proof_header_text, newline_text}

-- the tokens of a tree, one after another
abbrev pub proof_tokens_text : List ProofTok → List ℕ
proof_tokens_text tokens = flat_map proof_token_text tokens

-- each token has a spelling
abbrev pub AreSpellableInProof : List ProofTok → Type 0
AreSpellableInProof tokens = AllByRecursion IsSpellableInProof tokens

-- one tree for each obligation: it shows the plan of the obligation under no literals, where no lemmas are known, and
-- it can be spelled
abbrev pub AreShown : {S W : Type 0} → Comparison S → (ObName → MarkedPlan S W) → List ObName → List ProofTree → Type 0
AreShown compare plan [] [] = Unit {0}
AreShown compare plan [] (t ∷ trees) = ⊥
AreShown compare plan (name ∷ names) [] = ⊥
AreShown compare plan (name ∷ names) (t ∷ trees) =
    Shows compare t (plan name) [] [] × AreSpellableInProof (proof_tokens_of t) × AreShown compare plan names trees

-- for each obligation its line, its tree, and a newline
abbrev pub proof_sections_text : List ObName → List ProofTree → List ℕ
proof_sections_text [] trees = []
proof_sections_text (name ∷ names) [] = []
proof_sections_text (name ∷ names) (t ∷ trees) =
    ob_text name ++ (proof_tokens_text (proof_tokens_of t) ++ (newline_text ++ proof_sections_text names trees))

-- the whole text, for a level that has these obligations
abbrev pub proof_text : List ObName → Level → List ProofTree → List ℕ
proof_text names level trees = proof_header_text level ++ (proof_sections_text names trees ++ end_text)

-- the bytes are a proof at the level, which has these obligations
abbrev pub IsProof :
    {S W : Type 0} → Comparison S → (ObName → MarkedPlan S W) → (Level → List ObName) → List ℕ → Level → Type 0
IsProof compare plan names bytes level =
    (trees : List ProofTree)
    × AreShown compare plan (names level) trees
    × (bytes ≡ proof_text (names level) level trees)
