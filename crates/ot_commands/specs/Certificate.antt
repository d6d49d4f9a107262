-- Which reply a certificate gets of any kind: the judgement of its bytes within the limit, or that it is too long. What
-- its bytes are judged as and the reply to what it shows come with the kind.
use Rattle.std.specs.Prelude.{◌≡◌, ℕ, ◌≤◌, ◌⊎◌, Bool, true, false, List, length, take, Option, Result, Ok, Err, IsTrue}
use Rattle.std.specs.Option.{ForSome}
use Rattle.refusals.specs.declared.refusal.JudgeError.{JudgeError}
use Rattle.refusals.specs.declared.refusal.JudgeError.TheVariants as judge
use Rattle.refusals.specs.declared.refusal.Refusal.{Refusal}
use Rattle.refusals.specs.declared.refusal.Refusal.TheVariants as why
use Rattle.ot_replies.specs.declared.reply.FileKind.TheVariants as files
use Rattle.ot_replies.specs.declared.reply.Reply.{Reply}
use Rattle.ot_replies.specs.declared.reply.Reply.TheVariants.{Refused}
use Rattle.ot_replies.specs.Limits.{limit_of, IsTooLong}

abbrev pub is_truncated : Refusal → Bool
is_truncated why.Truncated = true
is_truncated other = false

-- bytes behind those that were judged could change the judgement: they are accepted, or they end too early
abbrev pub rests_on_the_end : {T : Type 0} → Result T JudgeError → Bool
rests_on_the_end (Ok shown) = true
rests_on_the_end (Err (judge.Refused offset why)) = is_truncated why
rests_on_the_end (Err judge.Failed) = false
rests_on_the_end (Err judge.NoMemory) = false

-- the reply tells the judgement
abbrev pub Tells : {T : Type 0} → (T → Reply) → Result T JudgeError → Reply → Type 0
Tells accepts (Ok shown) r = r ≡ accepts shown
Tells accepts (Err (judge.Refused offset why)) r = r ≡ Refused offset why
Tells accepts (Err judge.Failed) r = ⊥
Tells accepts (Err judge.NoMemory) r = ⊥

-- In what follows `told` is what the certificate's file holds, where the shelf tells it, and `contents` are some bytes
-- that it may hold: those that are told, where they are. `Judges` says what bytes are judged as, and `accepts` is the
-- reply to what an accepted certificate shows.

-- the reply to a judgement of the contents within the limit: the limit, where the file goes on behind it and that could
-- change the judgement, and otherwise the judgement
abbrev pub IsReplyToJudgement : {T : Type 0} → (T → Reply) → Option (List ℕ) → List ℕ → Result T JudgeError → Reply
    → Type 0
IsReplyToJudgement accepts told contents judgement r =
    (IsTrue (rests_on_the_end judgement) × IsTooLong files.Certificate told r)
    ⊎ ((IsTrue (rests_on_the_end judgement) → length contents ≤ limit_of files.Certificate) × Tells accepts judgement r)

-- the reply to contents
abbrev pub IsReplyToContents :
    {T : Type 0} → (List ℕ → Result T JudgeError → Type 0) → (T → Reply) → Option (List ℕ) → List ℕ → Reply → Type 0
IsReplyToContents {T = T} Judges accepts told contents r =
    (judgement : Result T JudgeError)
    × Judges (take (limit_of files.Certificate) contents) judgement
    × IsReplyToJudgement accepts told contents judgement r

-- the reply to a certificate's file
abbrev pub IsReplyToCertificate : {T : Type 0} → (List ℕ → Result T JudgeError → Type 0) → (T → Reply) → Option (List ℕ)
    → Reply → Type 0
IsReplyToCertificate Judges accepts told r =
    (contents : List ℕ) × ForSome told (λ known. contents ≡ known) × IsReplyToContents Judges accepts told contents r
