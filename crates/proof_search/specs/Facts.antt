-- What becomes of facts to which a literal is added.
use Rattle.std.specs.Prelude.{◌≡◌, ℕ, List, [], ◌∷◌, ◌++◌}
use Rattle.diff_graph.specs.declared.lit.Lit.{Lit}
use Rattle.diff_tables.specs.Tables.{Numbered, StandsFor, IsPossibleWith, kept_of, literals_of}
use Rattle.diff_graph.specs.Limits.{IsNamed, IsSmall}
use Rattle.diff_bounds.specs.Kept.{Rows}
use Rattle.ask_core.specs.declared.asker.TheConstants.{MAX_NAMES}
use Rattle.proof_search.specs.declared.facts.Added.{Added}
use Rattle.proof_search.specs.declared.facts.Added.TheVariants.{Yes, Excluded, OutOfRange}

-- the literal stands at the end of each list that the facts stand for; or they are as they were, since no integers
-- meet it with them, or since it is out of range
abbrev pub HasAdded : Lit → ℕ → Added → Rows → Rows → Type 0
HasAdded l number Yes old new =
    (ps : List Numbered) → StandsFor MAX_NAMES (kept_of old) ps
    → StandsFor MAX_NAMES (kept_of new) (ps ++ record { number = number; lit = l } ∷ [])
HasAdded l number Excluded old new =
    (new ≡ old)
    × ((ps : List Numbered) → StandsFor MAX_NAMES (kept_of old) ps → ¬ IsPossibleWith (literals_of ps) l)
HasAdded l number OutOfRange old new = (new ≡ old) × ¬ (IsNamed MAX_NAMES l × IsSmall l)
