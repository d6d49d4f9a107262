-- A cycle of which a front was read.
use Rattle.std.specs.Prelude.{◌≡◌, ℕ, ◌<◌, List, [], ◌∷◌, ◌++◌, length, Option, Some, None}
use Rattle.std.specs.Fmt.{decimal}
use Rattle.ask_core.specs.declared.tree.Tok.TheVariants as token
use Rattle.cert_text.specs.declared.cycle.Cycle.{Cycle}
use Rattle.cert_text.specs.declared.cycle.CycleStep.{CycleStep}
use Rattle.cert_text.specs.declared.cycle.CycleStep.TheVariants as step
use Rattle.cert_text.specs.Numbers.{AreShort, IsSpellableCycle, PICK_LIMIT}
use Rattle.cert_text.specs.Spelling.{token_text}

-- numbers with a comma behind each
abbrev pub numbers_before : List ℕ → List ℕ
numbers_before [] = []
numbers_before (n ∷ ns) = decimal n ++ 44 ∷ numbers_before ns

-- the digits of a number of which some may have come
abbrev pub number_text : Option ℕ → List ℕ
number_text None = []
number_text (Some n) = decimal n

-- what came of a cycle: `x`, whole numbers with a comma behind each, and digits of a further one
abbrev pub cycle_text : List ℕ → Option ℕ → List ℕ
cycle_text picks number = 120 ∷ numbers_before picks ++ number_text number

-- a number that came in part has at most five digits
abbrev pub IsShortNumber : Option ℕ → Type 0
IsShortNumber None = Unit {0}
IsShortNumber (Some n) = n < PICK_LIMIT

-- a front of a cycle that can be spelled, whose length it knows
abbrev pub IsBegunCycle : Cycle → Type 0
IsBegunCycle c =
    (length c.picks < 12) × AreShort c.picks × IsShortNumber c.number × (c.len ≡ length (cycle_text c.picks c.number))

-- no cycle that can be spelled begins with the front and the byte
abbrev pub IsNoFront : List ℕ → Option ℕ → ℕ → Type 0
IsNoFront picks number b =
    (qs more : List ℕ) → IsSpellableCycle qs → token_text (token.Cycle qs) ≡ cycle_text picks number ++ b ∷ more → ⊥

-- what a byte makes of it: more of it, a whole cycle, or the front of none
abbrev pub CycleStepsTo : Cycle → ℕ → CycleStep → Type 0
CycleStepsTo c byte (step.More d) = IsBegunCycle d × (cycle_text d.picks d.number ≡ cycle_text c.picks c.number ++ byte
    ∷ [])
CycleStepsTo c byte (step.Whole picks) =
    IsSpellableCycle picks × (token_text (token.Cycle picks) ≡ cycle_text c.picks c.number ++ byte ∷ [])
CycleStepsTo c byte step.Wrong =
    (picks more : List ℕ) → IsSpellableCycle picks
    → token_text (token.Cycle picks) ≡ cycle_text c.picks c.number ++ byte ∷ more → ⊥
