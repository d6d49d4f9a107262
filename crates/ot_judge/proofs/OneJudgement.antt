-- Bytes have one judgement.
use Rattle.std.proofs.Common.{◌≡◌, ℕ, IsTrue, List, ◌∷◌, Result, Ok, Err, ap}
use Rattle.fn_rules.specs.declared.function.Level.{Level}
use Rattle.fn_rules.specs.declared.function.ObName.{ObName}
use Rattle.fn_rules.specs.Functions.{Function}
use Rattle.fn_rules.specs.Validity.{is_valid}
use Rattle.ask_core.specs.Plans.{Plan}
use Rattle.cert_text.specs.declared.item.Part.{Part}
use Rattle.cert_text.specs.declared.item.Part.TheVariants as part
use Rattle.ot_questions.specs.declared.why.Why.{Why}
use Rattle.ot_questions.specs.Obligation.{plan_of}
use Rattle.refusals.specs.declared.refusal.JudgeError.{JudgeError}
use Rattle.refusals.specs.declared.refusal.JudgeError.TheVariants as judge
use Rattle.ot_sections.specs.Certificates.{IsCertificate}
use Rattle.ot_sections.specs.Parts.{FitThen, IsJudged, Point}
use Rattle.ot_judge.specs.Refusals.{IsJudgement, IsWholeCertificate, start_point_of}

-- the bytes behind a point are made of one list of parts, and stop in one way
abbrev pub IsJudgedOnce : Type 0
IsJudgedOnce =
    (plan : ObName → Plan Why) (point : Point Why) (bytes : List ℕ) (parts others : List Part)
    (one other : Result (Unit {0}) JudgeError)
    → FitThen plan one point bytes parts → FitThen plan other point bytes others → (one ≡ other) × (parts ≡ others)

-- a certificate is made of parts
abbrev pub AreWhole : Type 0
AreWhole = (f : Function) (level : Level) (bytes : List ℕ) → IsTrue (is_valid f) → IsCertificate bytes f level
    → IsWholeCertificate f level bytes

module _ (once : IsJudgedOnce) (are_whole : AreWhole) (f : Function) (bytes : List ℕ) where
  same_level : (l m : Level) (parts others : List Part) → part.Header l ∷ parts ≡ part.Header m ∷ others → l ≡ m
  same_level l m parts others e = cc

  same_refusal : (d e : JudgeError) → ◌≡◌ {A = Result (Unit {0}) JudgeError} (Err d) (Err e)
      → ◌≡◌ {A = Result Level JudgeError} (Err d) (Err e)
  same_refusal d e same = let error : d ≡ e = cc in ap Err error

  not_both :
      (level : Level) (end : JudgeError) → IsTrue (is_valid f) → IsJudgement f bytes (Ok level)
      → IsJudged (plan_of f) (Err end) (start_point_of f) bytes → ⊥
  not_both level end valid certificate refusal =
      let whole = are_whole f level bytes valid certificate in
      let same : ◌≡◌ {A = Result (Unit {0}) JudgeError} (Ok tt) (Err end) =
      (once (plan_of f) (start_point_of f) bytes (part.Header level ∷ whole.0) refusal.0 (Ok tt)
      (Err end) whole.1 refusal.1).0 in
      cc

  one_level : (l m : Level) → IsWholeCertificate f l bytes → IsWholeCertificate f m bytes → l ≡ m
  one_level l m one other =
      same_level l m one.0 other.0
      (once (plan_of f) (start_point_of f) bytes (part.Header l ∷ one.0) (part.Header m ∷ other.0)
      (Ok tt) (Ok tt) one.1 other.1).1

  -- bytes have one judgement by a valid function
  one_judgement_of :
      (one other : Result Level JudgeError) → IsTrue (is_valid f)
      → IsJudgement f bytes one → IsJudgement f bytes other → one ≡ other
  one_judgement_of (Ok l) (Ok m) valid one other =
      ap Ok (one_level l m (are_whole f l bytes valid one) (are_whole f m bytes valid other))
  one_judgement_of (Ok l) (Err (judge.Refused offset why)) valid one other =
      absurd (not_both l (judge.Refused offset why) valid one other)
  one_judgement_of (Ok l) (Err judge.Failed) valid one other = absurd other
  one_judgement_of (Ok l) (Err judge.NoMemory) valid one other = absurd other
  one_judgement_of (Err (judge.Refused offset why)) (Ok m) valid one other =
      absurd (not_both m (judge.Refused offset why) valid other one)
  one_judgement_of (Err judge.Failed) (Ok m) valid one other = absurd one
  one_judgement_of (Err judge.NoMemory) (Ok m) valid one other = absurd one
  one_judgement_of (Err judge.Failed) (Err e) valid one other = absurd one
  one_judgement_of (Err judge.NoMemory) (Err e) valid one other = absurd one
  one_judgement_of (Err (judge.Refused offset why)) (Err judge.Failed) valid one other = absurd other
  one_judgement_of (Err (judge.Refused offset why)) (Err judge.NoMemory) valid one other = absurd other
  one_judgement_of (Err (judge.Refused offset why)) (Err (judge.Refused at cause)) valid one other =
      same_refusal (judge.Refused offset why) (judge.Refused at cause)
      (once (plan_of f) (start_point_of f) bytes one.0 other.0 (Err (judge.Refused offset why))
      (Err (judge.Refused at cause)) one.1 other.1).0

pub one_judgement :
    IsJudgedOnce → AreWhole
    → (f : Function) (bytes : List ℕ) (one other : Result Level JudgeError) → IsTrue (is_valid f)
    → IsJudgement f bytes one → IsJudgement f bytes other → one ≡ other
one_judgement once are_whole f bytes = one_judgement_of once are_whole f bytes
