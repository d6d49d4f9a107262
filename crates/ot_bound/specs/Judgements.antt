-- What the judgement of bytes is: a low certificate of a function at a level and a bound, or a refusal.
use Rattle.std.specs.Prelude.{◌≡◌, ℕ, ◌+◌, ◌≤◌, List, [], ◌++◌, length, Some, Result, Ok, Err, ◌⊎◌}
use Rattle.fn_rules.specs.declared.function.Level.{Level}
use Rattle.fn_rules.specs.Functions.{Function}
use Rattle.cert_text.specs.Places.{Line}
use Rattle.ot_outside.specs.declared.feed.Feed.{Ghosts}
use Rattle.ot_questions.specs.declared.why.Why.{Why}
use Rattle.ot_questions.specs.Obligation.{plan_below}
use Rattle.ot_sections.specs.declared.premise.TheConstants.{MAX_BOUND}
use Rattle.refusals.specs.declared.refusal.Refusal.{Refusal}
use Rattle.refusals.specs.declared.refusal.Refusal.TheVariants as why
use Rattle.refusals.specs.declared.refusal.JudgeError.{JudgeError}
use Rattle.refusals.specs.declared.refusal.JudgeError.TheVariants as judge
use Rattle.ot_sections.specs.Feeding.{Has, Whole, Yields}
use Rattle.ot_sections.specs.Parts.{IsJudged, IsRefused, Point}
use Rattle.ot_bound.specs.Headers.{IsFrontOfHeader}
use Rattle.ot_bound.specs.Lows.{IsLow, low_header_text, parts_of}

-- no first line begins with the bytes, and they begin with none
abbrev pub HasNoHeader : List ℕ → Type 0
HasNoHeader bytes =
    (level : Level) (bound : ℕ) (more : List ℕ) → bound ≤ MAX_BOUND
    → (low_header_text level bound ≡ bytes ++ more → ⊥) × (bytes ≡ low_header_text level bound ++ more → ⊥)

-- the bytes are refused for want of a first line: they begin otherwise, or they end within one
abbrev pub IsNoHeader : List ℕ → ℕ → Refusal → Type 0
IsNoHeader bytes offset why.Token = (offset ≡ 0) × HasNoHeader bytes
IsNoHeader bytes offset why.Truncated = (offset ≡ length bytes) × IsFrontOfHeader bytes
IsNoHeader bytes offset why.Trailing = ⊥
IsNoHeader bytes offset why.NotAQuestion = ⊥
IsNoHeader bytes offset why.NotDone = ⊥
IsNoHeader bytes offset why.GoalFails = ⊥
IsNoHeader bytes offset why.BadPick = ⊥
IsNoHeader bytes offset why.NotACycle = ⊥
IsNoHeader bytes offset why.NotNegative = ⊥

-- the error is such a refusal
abbrev pub HasNoHeaderBy : List ℕ → JudgeError → Type 0
HasNoHeaderBy bytes (judge.Refused offset why) = IsNoHeader bytes offset why
HasNoHeaderBy bytes judge.Failed = ⊥
HasNoHeaderBy bytes judge.NoMemory = ⊥

-- some bytes that a feed might give are refused so, if the error is a refusal
abbrev pub IsNoHeaderBehind : {F : Type 0} → Ghosts F → F → F → JudgeError → Type 0
IsNoHeaderBehind feeds old new e =
    IsRefused e → (all : Whole) → Has feeds new all → (bytes : List ℕ) × Yields feeds old all bytes
    × HasNoHeaderBy bytes e

-- a first line of a level and a bound was read, of so many bytes: a feed that gave it gives fewer bytes
pub record IsHeaderRead {F : Type 0} (feeds : Ghosts F) (old new : F) (level : Level) (bound before : ℕ) : Type 0 where
  pub bounded : bound ≤ MAX_BOUND
  pub counted : before ≡ length (low_header_text level bound)
  pub bytes :
      (all : Whole) (rest : List ℕ) → Yields feeds new all rest
      → Yields feeds old all (low_header_text level bound ++ rest)
  pub fewer : feeds.bound new + before ≤ feeds.bound old

-- behind the first line
abbrev pub behind_header : Function → Level → ℕ → Point Why
behind_header f level bound =
    record { place = Line 0 (parts_of f.head level); offset = length (low_header_text level bound); branches = [] }

-- some bytes that a feed might give behind that line are judged so
abbrev pub IsJudgedRest : {F : Type 0} → Ghosts F → Function → Level → ℕ → F → Whole
    → Result (Unit {0}) JudgeError → Type 0
IsJudgedRest feeds f level bound feed all end =
    (rest : List ℕ) × Yields feeds feed all rest
    × IsJudged (plan_below f (Some bound)) end (behind_header f level bound) rest

-- the bytes begin with the first line of a level and a bound, and what stands behind it is judged so
abbrev pub IsJudgedLow : Function → Result (Unit {0}) JudgeError → List ℕ → Level → ℕ → Type 0
IsJudgedLow f end bytes level bound =
    (bound ≤ MAX_BOUND)
    × ((rest : List ℕ) × (bytes ≡ low_header_text level bound ++ rest)
    × IsJudged (plan_below f (Some bound)) end (behind_header f level bound) rest)

-- the bytes are refused at the offset for the cause: for want of a first line, or behind it
abbrev pub IsLowRefusal : Function → List ℕ → ℕ → Refusal → Type 0
IsLowRefusal f bytes offset why =
    IsNoHeader bytes offset why
    ⊎ ((level : Level) × (bound : ℕ) × IsJudgedLow f (Err (judge.Refused offset why)) bytes level bound)

-- the judgement of the bytes: a low certificate at a level and a bound, or a refusal
abbrev pub IsLowJudgement : Function → List ℕ → Result (Level × ℕ) JudgeError → Type 0
IsLowJudgement f bytes (Ok (level, bound)) = IsLow bytes f level bound
IsLowJudgement f bytes (Err (judge.Refused offset why)) = IsLowRefusal f bytes offset why
IsLowJudgement f bytes (Err judge.Failed) = ⊥
IsLowJudgement f bytes (Err judge.NoMemory) = ⊥

-- the answer is no judgement: the feed failed, or there was no memory
abbrev pub IsNoJudgement : {T : Type 0} → Result T JudgeError → Type 0
IsNoJudgement answer = (answer ≡ Err judge.Failed) ⊎ (answer ≡ Err judge.NoMemory)
