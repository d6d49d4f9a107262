-- Cycles at the front of some bytes.
use Rattle.std.specs.Prelude.{◌≡◌, ℕ, ◌≤◌, List, ◌∷◌, Ok, length, take}
use Rattle.diff_graph.specs.declared.lit.Lit.{Lit}
use Rattle.diff_graph.specs.Cycles.{pick_verdict}
use Rattle.ask_core.specs.declared.tree.Tok.TheVariants as token
use Rattle.cert_text.specs.Numbers.{IsSpellableCycle}
use Rattle.cert_text.specs.Spelling.{token_text}

-- so many bytes behind an `x` are a cycle that is a negative one of the literals
abbrev pub IsCycleFront : List Lit → List ℕ → ℕ → Type 0
IsCycleFront lits bytes len =
    (len ≤ length bytes)
    × ((picks : List ℕ) × IsSpellableCycle picks × (token_text (token.Cycle picks) ≡ 120 ∷ take len bytes)
    × (pick_verdict lits picks ≡ Ok tt))
