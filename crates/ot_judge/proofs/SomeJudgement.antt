-- Any bytes have a judgement: they are judged behind their start.
use Rattle.std.proofs.Common.{ℕ, List, [], ◌∷◌, Result, Ok, Err}
use Rattle.fn_rules.specs.declared.function.Level.{Level}
use Rattle.fn_rules.specs.declared.function.ObName.{ObName}
use Rattle.fn_rules.specs.Functions.{Function}
use Rattle.ask_core.specs.Plans.{Plan}
use Rattle.cert_text.specs.declared.item.Part.{Part}
use Rattle.cert_text.specs.declared.item.Part.TheVariants as part
use Rattle.ot_questions.specs.declared.why.Why.{Why}
use Rattle.ot_questions.specs.Obligation.{plan_of}
use Rattle.refusals.specs.declared.refusal.JudgeError.{JudgeError}
use Rattle.refusals.specs.declared.refusal.JudgeError.TheVariants as judge
use Rattle.ot_sections.specs.Certificates.{IsCertificate}
use Rattle.ot_sections.specs.Parts.{FitThen, IsAnswer, IsJudged, Point}
use Rattle.ot_judge.specs.Refusals.{IsJudgement, IsWholeCertificate, start_point_of}

-- any bytes behind a point are judged
abbrev pub AllJudged : Type 0
AllJudged =
    (plan : ObName → Plan Why) (point : Point Why) (bytes : List ℕ)
    → (end : Result (Unit {0}) JudgeError) × IsAnswer end × IsJudged plan end point bytes

-- parts that fit from the header on are a certificate
abbrev pub AreCertificates : Type 0
AreCertificates = (f : Function) (level : Level) (bytes : List ℕ) → IsWholeCertificate f level bytes
    → IsCertificate bytes f level

module _ (are_certificates : AreCertificates) (f : Function) (bytes : List ℕ) where
  abbrev HasJudgement : Type 0
  HasJudgement = (judgement : Result Level JudgeError) × IsJudgement f bytes judgement

  whole_judged : (parts : List Part) → FitThen (plan_of f) (Ok tt) (start_point_of f) bytes parts → HasJudgement
  whole_judged [] fits = absurd (let e = fits.0 in cc)
  whole_judged (part.Header level ∷ parts) fits = (Ok level, are_certificates f level bytes (parts, fits))
  whole_judged (part.Ob number ∷ parts) fits = absurd fits.0
  whole_judged (part.Tok t ∷ parts) fits = absurd fits.0
  whole_judged (part.LineEnd ∷ parts) fits = absurd fits.0
  whole_judged (part.End ∷ parts) fits = absurd fits.0

  judgement_of :
      (end : Result (Unit {0}) JudgeError) → IsAnswer end
      → IsJudged (plan_of f) end (start_point_of f) bytes → HasJudgement
  judgement_of (Ok done) answer judged = whole_judged judged.0 judged.1
  judgement_of (Err (judge.Refused offset why)) answer judged = (Err (judge.Refused offset why), judged)
  judgement_of (Err judge.Failed) answer judged = absurd answer
  judgement_of (Err judge.NoMemory) answer judged = absurd answer

pub some_judgement :
    AreCertificates → AllJudged → (f : Function) (bytes : List ℕ)
    → (judgement : Result Level JudgeError) × IsJudgement f bytes judgement
some_judgement are_certificates all_judged f bytes =
    let judged = all_judged (plan_of f) (start_point_of f) bytes in
    judgement_of are_certificates f bytes judged.0 judged.1 judged.2
