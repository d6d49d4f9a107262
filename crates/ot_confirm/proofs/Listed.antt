-- The obligations of a list, one after another.
use Rattle.std.proofs.Common.{◌≡◌, ℕ, ◌≤◌, Bool, true, false, List, [], ◌∷◌, length, drop, Ok, refl, arith}
use Rattle.std.specs.Prelude.{◌&&◌}
use Rattle.std.specs.List.{list_all}
use Rattle.fn_rules.specs.declared.function.ObName.{ObName}
use Rattle.fn_rules.specs.Functions.{Function}
use Rattle.start_laws.specs.Starts.{compare_starts}
use Rattle.start_laws.specs.Marking.{marked_plan}
use Rattle.proof_sections.specs.Judgement.{Judges, sections_judged}
use Rattle.proof_sections.proofs.Sections.{sections_none}

pub both_true : (a b : Bool) → (a && b) ≡ true → (a ≡ true) × (b ≡ true)
both_true true b both = (refl, both)
both_true false b both = absurd (cc)

-- where all pass a test, the first and the others do
pub all_parts : (p : ObName → Bool) (name : ObName) (names : List ObName) → list_all p (name ∷ names) ≡ true
    → (p name ≡ true) × (list_all p names ≡ true)
all_parts p name names all = both_true (p name) (list_all p names) all

-- no obligations
pub sections_empty :
    (f : Function) (names : List ObName) (bytes : List ℕ) (at : ℕ) → length names ≡ 0 → at ≤ length bytes
    → Judges bytes (sections_judged compare_starts (marked_plan f) names (length bytes) (drop at bytes)) (Ok at)
sections_empty f [] bytes at none within = sections_none compare_starts (marked_plan f) bytes at within
sections_empty f (name ∷ names) bytes at none within = absurd (omega arith)
