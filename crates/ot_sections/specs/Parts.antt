-- A certificate part by part: which parts fit one after another, and how the bytes behind them stop. The plans
-- of the obligations are given.
use Rattle.std.specs.Prelude.{◌≡◌, ℕ, ◌+◌, List, [], ◌∷◌, ◌++◌, length, Result, Ok, Err, ◌⊎◌}
use Rattle.fn_rules.specs.declared.function.ObName.{ObName}
use Rattle.ask_core.specs.Plans.{Plan}
use Rattle.ask_core.specs.Trees.{Branch}
use Rattle.ask_core.specs.declared.tree.Tok.{Tok}
use Rattle.cert_check.specs.declared.verdict.CheckError.{CheckError}
use Rattle.cert_check.specs.declared.verdict.CheckError.TheVariants as check
use Rattle.cert_check.specs.Steps.{after}
use Rattle.cert_text.specs.declared.item.Part.{Part}
use Rattle.cert_text.specs.declared.item.Part.TheVariants as part
use Rattle.cert_text.specs.declared.item.CertError.{CertError}
use Rattle.cert_text.specs.Places.{PartPlace, Line, Stands, part_text, place_after}
use Rattle.cert_text.specs.Reading.{EndsThere}
use Rattle.refusals.specs.Spelling.{end_of_spelling}
use Rattle.refusals.specs.declared.refusal.Refusal.TheVariants as why
use Rattle.refusals.specs.declared.refusal.JudgeError.{JudgeError}
use Rattle.refusals.specs.declared.refusal.JudgeError.TheVariants as judge

-- a point of a certificate: the place behind the parts before it, how many bytes they have, and the open branches
pub record Point (W : Type 0) : Type 0 where
  pub place : PartPlace
  pub offset : ℕ
  pub branches : List (Branch W)

-- what an obligation's line opens: one branch, the plan of the obligation after no answers
abbrev pub opened_at : {W : Type 0} → (ObName → Plan W) → PartPlace → List (Branch W)
opened_at plan (Line came (name ∷ names)) = record { plan = plan name; answers = [] } ∷ []
opened_at plan place = []

-- the branches that are open behind a part, or why a token is refused
abbrev pub branches_behind :
    {W : Type 0} → (ObName → Plan W) → Point W → Part → Result (List (Branch W)) CheckError
branches_behind plan point (part.Ob number) = Ok (opened_at plan point.place)
branches_behind plan point (part.Tok t) = after t point.branches
branches_behind plan point (part.Header level) = Ok point.branches
branches_behind plan point part.LineEnd = Ok point.branches
branches_behind plan point part.End = Ok point.branches

-- the point behind a part that leaves these branches open
abbrev pub point_behind : {W : Type 0} → Point W → Part → List (Branch W) → Point W
point_behind point p branches =
    record {
      place = place_after point.place p;
      offset = point.offset + length (part_text point.place p);
      branches = branches;
    }

-- the refusal of a token at an offset
abbrev pub end_of_token : ℕ → CheckError → JudgeError
end_of_token offset check.NotAQuestion = judge.Refused offset why.NotAQuestion
end_of_token offset check.NotDone = judge.Refused offset why.NotDone
end_of_token offset check.GoalFails = judge.Refused offset why.GoalFails
end_of_token offset check.BadPick = judge.Refused offset why.BadPick
end_of_token offset check.NotACycle = judge.Refused offset why.NotACycle
end_of_token offset check.NotNegative = judge.Refused offset why.NotNegative
end_of_token offset check.NoMemory = judge.NoMemory

-- the bytes behind the point are refused by their spelling
abbrev pub IsMisspelt : {W : Type 0} → JudgeError → Point W → List ℕ → Type 0
IsMisspelt end point bytes =
    (e : CertError) × EndsThere point.place point.offset bytes (Err e) × (end ≡ end_of_spelling e)

-- the bytes behind the point begin with a token that may stand there by its spelling, and which is refused at the
-- open branches
abbrev pub IsRefusedToken : {W : Type 0} → JudgeError → Point W → List ℕ → Type 0
IsRefusedToken end point bytes =
    (t : Tok) × (rest : List ℕ) × (e : CheckError)
    × Stands point.place (part.Tok t) × (bytes ≡ part_text point.place (part.Tok t) ++ rest)
    × (after t point.branches ≡ Err e) × (end ≡ end_of_token point.offset e)

-- no further part fits behind the point: the last one came and no bytes are left, or the bytes that are left are
-- refused
abbrev pub StopsThere : {W : Type 0} → Result (Unit {0}) JudgeError → Point W → List ℕ → Type 0
StopsThere (Ok whole) point bytes = EndsThere point.place point.offset bytes (Ok tt)
StopsThere (Err end) point bytes = IsMisspelt end point bytes ⊎ IsRefusedToken end point bytes

-- the parts fit one after another from the point on and make up a front of the bytes, and behind them they stop so
abbrev pub FitThen :
    {W : Type 0} → (ObName → Plan W) → Result (Unit {0}) JudgeError → Point W → List ℕ → List Part → Type 0
FitThen plan end point bytes [] = StopsThere end point bytes
FitThen plan end point bytes (p ∷ parts) =
    Stands point.place p
    × ((rest : List ℕ) × (branches : List (Branch _))
    × (bytes ≡ part_text point.place p ++ rest) × (branches_behind plan point p ≡ Ok branches)
    × FitThen plan end (point_behind point p branches) rest parts)

-- some parts do
abbrev pub IsJudged : {W : Type 0} → (ObName → Plan W) → Result (Unit {0}) JudgeError → Point W → List ℕ → Type 0
IsJudged plan end point bytes = (parts : List Part) × FitThen plan end point bytes parts

-- the error is a refusal
abbrev pub IsRefused : JudgeError → Type 0
IsRefused (judge.Refused offset why) = Unit {0}
IsRefused judge.Failed = ⊥
IsRefused judge.NoMemory = ⊥

-- they stop by themselves, and not for want of a feed or of memory
abbrev pub IsAnswer : Result (Unit {0}) JudgeError → Type 0
IsAnswer (Ok whole) = Unit {0}
IsAnswer (Err e) = IsRefused e
