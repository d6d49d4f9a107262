-- What the judgement of bytes is: a certificate of a function at a level, or a refusal.
use Rattle.std.specs.Prelude.{◌≡◌, ℕ, List, [], ◌∷◌, Result, Ok, Err, ◌⊎◌}
use Rattle.fn_rules.specs.declared.function.Level.{Level}
use Rattle.fn_rules.specs.declared.function.Level.TheVariants.{Tp1, Tp2}
use Rattle.fn_rules.specs.Functions.{Function}
use Rattle.fn_rules.specs.Obligations.{obligations_of}
use Rattle.cert_text.specs.declared.item.Part.{Part}
use Rattle.cert_text.specs.declared.item.Part.TheVariants.{Header}
use Rattle.cert_text.specs.Places.{PartPlace, Start, Line, Tree, Finish}
use Rattle.ot_questions.specs.declared.why.Why.{Why}
use Rattle.ot_questions.specs.Obligation.{plan_of}
use Rattle.refusals.specs.declared.refusal.Refusal.{Refusal}
use Rattle.refusals.specs.declared.refusal.JudgeError.{JudgeError}
use Rattle.refusals.specs.declared.refusal.JudgeError.TheVariants as judge
use Rattle.ot_sections.specs.Certificates.{IsCertificate}
use Rattle.ot_sections.specs.Parts.{Point, FitThen, IsJudged}

-- the place before the header
abbrev pub IsStart : PartPlace → Type 0
IsStart (Start tp1 tp2) = Unit {0}
IsStart (Line came names) = ⊥
IsStart (Tree came names branches) = ⊥
IsStart Finish = ⊥

-- before the header
abbrev pub start_point_of : Function → Point Why
start_point_of f =
    record { place = Start (obligations_of f.head Tp1) (obligations_of f.head Tp2); offset = 0; branches = [] }

-- the bytes are refused at the offset for the cause: the parts before it fit, and what stands there does not
abbrev pub IsRefusal : Function → List ℕ → ℕ → Refusal → Type 0
IsRefusal f bytes offset why = IsJudged (plan_of f) (Err (judge.Refused offset why)) (start_point_of f) bytes

-- the bytes are made of parts that fit, the header of the level first, and nothing is left behind the last one
abbrev pub IsWholeCertificate : Function → Level → List ℕ → Type 0
IsWholeCertificate f level bytes =
    (parts : List Part) × FitThen (plan_of f) (Ok tt) (start_point_of f) bytes (Header level ∷ parts)

-- the judgement of the bytes: a certificate at a level, or a refusal
abbrev pub IsJudgement : Function → List ℕ → Result Level JudgeError → Type 0
IsJudgement f bytes (Ok level) = IsCertificate bytes f level
IsJudgement f bytes (Err (judge.Refused offset why)) = IsRefusal f bytes offset why
IsJudgement f bytes (Err judge.Failed) = ⊥
IsJudgement f bytes (Err judge.NoMemory) = ⊥

-- the answer is no judgement: the feed failed, or there was no memory
abbrev pub IsWant : Result Level JudgeError → Type 0
IsWant answer = (answer ≡ Err judge.Failed) ⊎ (answer ≡ Err judge.NoMemory)
