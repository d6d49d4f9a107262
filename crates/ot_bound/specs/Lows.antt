-- Low certificates: that a function has a property on all documents of fewer cells than a bound.
use Rattle.std.specs.Prelude.{◌≡◌, ℕ, ◌≤◌, List, [], ◌∷◌, ◌++◌, Some, codes}
use Rattle.std.specs.Fmt.{decimal}
use Rattle.fn_rules.specs.declared.function.Head.{Head}
use Rattle.fn_rules.specs.declared.function.Level.{Level}
use Rattle.fn_rules.specs.declared.function.Level.TheVariants.{Tp1, Tp2}
use Rattle.fn_rules.specs.declared.function.ObName.{ObName}
use Rattle.fn_rules.specs.Functions.{Function}
use Rattle.fn_rules.specs.Obligations.{declared_kinds, pairs_of, triples_of}
use Rattle.fn_rules.specs.Properties.{HasTp1At, HasTp2At}
use Rattle.ask_core.specs.Trees.{AnswerTree}
use Rattle.cert_text.specs.Certificates.{sections_text}
use Rattle.cert_text.specs.Spelling.{level_text, end_text}
use Rattle.ot_questions.specs.Obligation.{plan_below}
use Rattle.ot_sections.specs.declared.premise.TheConstants.{MAX_BOUND}
use Rattle.ot_sections.specs.Certificates.{AreAnswers}

-- the property of a level on the documents of so many cells: at level tp2 the second alone
abbrev pub HasAt : Function → Level → ℕ → Type 0
HasAt f Tp1 n = HasTp1At f n
HasAt f Tp2 n = HasTp2At f n

-- the obligations of the property alone
abbrev pub parts_of : Head → Level → List ObName
parts_of head Tp1 = pairs_of (declared_kinds head)
parts_of head Tp2 = triples_of (declared_kinds head)

-- the first line
abbrev pub low_header_text : Level → ℕ → List ℕ
low_header_text level bound = codes "otlow 1 " ++ level_text level ++ 32 ∷ decimal bound ++ 10 ∷ []

-- the bytes are a low certificate: the first line, for each obligation of the property a tree that fits its plan on the
-- documents of fewer cells, and the last line
abbrev pub IsLow : List ℕ → Function → Level → ℕ → Type 0
IsLow bytes f level bound =
    (bound ≤ MAX_BOUND)
    × ((trees : List AnswerTree)
    × AreAnswers (plan_below f (Some bound)) (parts_of f.head level) trees
    × (bytes ≡ low_header_text level bound ++ sections_text (parts_of f.head level) trees ++ end_text))
