-- Certificates: the one spelling of a tree for each obligation of a level, each fitting its plan.
use Rattle.std.specs.Prelude.{◌≡◌, ℕ, List, [], ◌∷◌}
use Rattle.fn_rules.specs.declared.function.Level.{Level}
use Rattle.fn_rules.specs.declared.function.ObName.{ObName}
use Rattle.fn_rules.specs.Functions.{Function}
use Rattle.fn_rules.specs.Obligations.{obligations_of}
use Rattle.ask_core.specs.Plans.{Plan}
use Rattle.ask_core.specs.Trees.{AnswerTree, tokens_of, Fits}
use Rattle.cert_text.specs.Certificates.{certificate_text}
use Rattle.cert_text.specs.Spelling.{AreSpellable}
use Rattle.ot_questions.specs.Obligation.{plan_of}

-- one tree for each obligation: it fits the plan of the obligation, and it can be spelled
abbrev pub AreAnswers : {W : Type 0} → (ObName → Plan W) → List ObName → List AnswerTree → Type 0
AreAnswers plan [] [] = Unit {0}
AreAnswers plan [] (t ∷ trees) = ⊥
AreAnswers plan (ob ∷ obs) [] = ⊥
AreAnswers plan (ob ∷ obs) (t ∷ trees) =
    Fits t (plan ob) [] × AreSpellable (tokens_of t) × AreAnswers plan obs trees

-- the bytes are a certificate of the function at the level: the header, a tree for each obligation in
-- order, and the end
abbrev pub IsCertificate : List ℕ → Function → Level → Type 0
IsCertificate bytes f level =
    (trees : List AnswerTree)
    × AreAnswers (plan_of f) (obligations_of f.head level) trees
    × (bytes ≡ certificate_text (obligations_of f.head level) level trees)
