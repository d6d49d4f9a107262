-- A reader's fields, and what a byte makes of the front of a part.
use Rattle.std.specs.Prelude.{◌≡◌, ℕ, ◌+◌, ◌≤◌, ◌<◌, ◌^◌, List, [], ◌∷◌, ◌++◌, length, drop, Option, Some, None}
use Rattle.fn_rules.specs.declared.function.ObName.{ObName}
use Rattle.cert_text.specs.declared.line.TheConstants.{LINE_ROOM}
use Rattle.cert_text.specs.declared.item.Part.{Part}
use Rattle.cert_text.specs.declared.item.CertError.{CertError}
use Rattle.cert_text.specs.declared.item.CertError.TheVariants as cert
use Rattle.cert_text.specs.declared.stage.Stage.{Stage}
use Rattle.cert_text.specs.declared.stage.Stage.TheVariants as stage
use Rattle.cert_text.specs.declared.step.PartFront.{PartFront}
use Rattle.cert_text.specs.declared.step.PartFront.TheVariants as begun
use Rattle.cert_text.specs.declared.step.PartStep.{PartStep}
use Rattle.cert_text.specs.declared.step.PartStep.TheVariants as step
use Rattle.cert_text.specs.Cycles.{IsBegunCycle, cycle_text}
use Rattle.cert_text.specs.Places.{PartPlace, Start, Line, Tree, Finish, Stands, names_of, part_text, place_after}
use Rattle.cert_text.specs.Reading.{ReaderState, Reading, Refused, IsFrontOfPart}

-- the place of a stage, where the levels have these obligations
abbrev pub place_of : List ObName → List ObName → Stage → PartPlace
place_of tp1 tp2 stage.Header = Start tp1 tp2
place_of tp1 tp2 (stage.Line level came) = Line came (drop came (names_of tp1 tp2 level))
place_of tp1 tp2 (stage.Tree level came branches) = Tree came (drop came (names_of tp1 tp2 level)) branches
place_of tp1 tp2 stage.Over = Finish

-- the open branches
abbrev pub branches_of : Stage → ℕ
branches_of stage.Header = 0
branches_of (stage.Line level came) = 0
branches_of (stage.Tree level came branches) = branches
branches_of stage.Over = 0

-- the bytes that came of a token
abbrev pub begun_text : PartFront → List ℕ
begun_text (begun.Line bytes) = bytes
begun_text (begun.Cycle c) = cycle_text c.picks c.number

-- the bytes are a front of a line that may stand at the place
abbrev pub IsLineSound : PartPlace → List ℕ → Type 0
IsLineSound place bytes = (length bytes < LINE_ROOM) × IsFrontOfPart place bytes

-- what came is a front of a part that may stand at the place: of a line, or of a cycle in a tree
abbrev pub IsSoundFront : PartPlace → PartFront → Type 0
IsSoundFront (Tree came names branches) (begun.Line bytes) = bytes ≡ []
IsSoundFront (Tree came names branches) (begun.Cycle c) = IsBegunCycle c × (0 < branches)
IsSoundFront (Start tp1 tp2) (begun.Line bytes) = IsLineSound (Start tp1 tp2) bytes
IsSoundFront (Start tp1 tp2) (begun.Cycle c) = ⊥
IsSoundFront (Line came names) (begun.Line bytes) = IsLineSound (Line came names) bytes
IsSoundFront (Line came names) (begun.Cycle c) = ⊥
IsSoundFront Finish (begun.Line bytes) = bytes ≡ []
IsSoundFront Finish (begun.Cycle c) = ⊥

-- what came of a cycle knows its length
abbrev pub KnowsLength : PartFront → Type 0
KnowsLength (begun.Line bytes) = Unit {0}
KnowsLength (begun.Cycle c) = c.len ≡ length (cycle_text c.picks c.number)

-- what a byte makes of what came, at a stage: more of a part, a whole part with the stage behind it, or the front
-- of none
abbrev pub PartStepsTo : List ObName → List ObName → Stage → List ℕ → ℕ → PartStep → Type 0
PartStepsTo tp1 tp2 at came byte (step.More b) =
    IsSoundFront (place_of tp1 tp2 at) b × (begun_text b ≡ came ++ byte ∷ [])
PartStepsTo tp1 tp2 at came byte (step.Whole p next) =
    Stands (place_of tp1 tp2 at) p × (part_text (place_of tp1 tp2 at) p ≡ came ++ byte ∷ [])
    × (place_of tp1 tp2 next ≡ place_after (place_of tp1 tp2 at) p) × (branches_of next ≤ branches_of at + 1)
PartStepsTo tp1 tp2 at came byte step.Wrong =
    (p : Part) (more : List ℕ) → Stands (place_of tp1 tp2 at) p
    → part_text (place_of tp1 tp2 at) p ≡ came ++ byte ∷ more → ⊥

-- the same where only this part may stand, with this line as its text
abbrev pub LineStepsTo : List ℕ → List ℕ → Part → Stage → PartStep → Type 0
LineStepsTo line came part next (step.More b) =
    (b ≡ begun.Line came) × (length came < LINE_ROOM) × ((more : List ℕ) × (0 < length more) × (line ≡ came ++ more))
LineStepsTo line came part next (step.Whole p behind) = (p ≡ part) × (behind ≡ next) × (line ≡ came)
LineStepsTo line came part next step.Wrong = (more : List ℕ) → line ≡ came ++ more → ⊥

-- a reader that reads on, or has refused
abbrev pub state_at : Option CertError → PartPlace → ℕ → List ℕ → ReaderState
state_at None place offset bytes = Reading place offset bytes
state_at (Some refusal) place offset bytes = Refused refusal

-- what a reader's fields hold: there are few obligations, fewer branches are open than bytes came before, and
-- what came is sound
pub record IsHeld (tp1 tp2 : List ObName) (at : Stage) (offset : ℕ) (b : PartFront) : Type 0 where
  pub few_tp1 : length tp1 < 2 ^ 32
  pub few_tp2 : length tp2 < 2 ^ 32
  pub branches : branches_of at ≤ offset
  pub sound : IsSoundFront (place_of tp1 tp2 at) b
  pub fed : offset + length (begun_text b) ≤ 2 ^ 63

-- the refusal of a byte with which no part goes on
abbrev pub refusal_of : Stage → ℕ → CertError
refusal_of stage.Over offset = cert.Trailing offset
refusal_of stage.Header offset = cert.BadToken offset
refusal_of (stage.Line level came) offset = cert.BadToken offset
refusal_of (stage.Tree level came branches) offset = cert.BadToken offset
