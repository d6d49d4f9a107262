-- Which reply a proof with lemmas gets: the judgement of its bytes within the limit, or that it is too long.
use Rattle.std.specs.Prelude.{◌≡◌, ℕ, ◌≤◌, ◌⊎◌, Bool, true, false, List, length, take, Option, Result, Ok, Err, IsTrue}
use Rattle.std.specs.Option.{ForSome}
use Rattle.fn_rules.specs.declared.function.Level.{Level}
use Rattle.fn_rules.specs.Functions.{Function}
use Rattle.proof_sections.specs.declared.refusal.ConfirmError.{ConfirmError}
use Rattle.proof_sections.specs.declared.refusal.ConfirmError.TheVariants as confirm
use Rattle.proof_sections.specs.declared.refusal.ProofRefusal.{ProofRefusal}
use Rattle.proof_sections.specs.declared.refusal.ProofRefusal.TheVariants as why
use Rattle.ot_confirm.specs.Judgement.{judgement_of}
use Rattle.ot_replies.specs.declared.reply.FileKind.TheVariants as files
use Rattle.ot_replies.specs.declared.reply.Reply.{Reply}
use Rattle.ot_replies.specs.declared.reply.Reply.TheVariants.{Confirmed, ProofRefused, TooLong}
use Rattle.ot_outside.specs.declared.whole.ReadError.{ReadError}
use Rattle.ot_outside.specs.declared.whole.ReadError.TheVariants as read
use Rattle.ot_replies.specs.Limits.{limit_of, IsTooLong}
use Rattle.ot_commands.specs.Facts.{Facts, FunctionAnd, NothingMore}

abbrev pub ends_early : ProofRefusal → Bool
ends_early why.Truncated = true
ends_early other = false

-- more bytes could change the judgement: the bytes are accepted, or they end too early
abbrev pub rests_on_more : Result Level ConfirmError → Bool
rests_on_more (Ok level) = true
rests_on_more (Err (confirm.Refused offset why)) = ends_early why
rests_on_more (Err confirm.NoMemory) = false

-- the reply tells the judgement
abbrev pub TellsJudgement : Result Level ConfirmError → Reply → Type 0
TellsJudgement (Ok level) r = r ≡ Confirmed level
TellsJudgement (Err (confirm.Refused offset why)) r = r ≡ ProofRefused offset why
TellsJudgement (Err confirm.NoMemory) r = ⊥

-- the reply to what was read of a proof's file, by how reading ended: where the file is longer than its limit, or a
-- read failed, a judgement that more bytes could change is not told
abbrev pub IsReplyBy : Result (Unit {0}) ReadError → Result Level ConfirmError → Reply → Type 0
IsReplyBy (Ok u) judgement r = TellsJudgement judgement r
IsReplyBy (Err read.TooLong) judgement r =
    (IsTrue (rests_on_more judgement) × (r ≡ TooLong files.Proof))
    ⊎ ((rests_on_more judgement ≡ false) × TellsJudgement judgement r)
IsReplyBy (Err read.Failed) judgement r = (rests_on_more judgement ≡ false) × TellsJudgement judgement r
IsReplyBy (Err read.NoMemory) judgement r = ⊥

-- In what follows `told` is what the proof's file holds, where the shelf tells it, and `contents` are some bytes that
-- it may hold: those that are told, where they are.

-- the reply to a judgement of the contents within the limit: the limit, where the file goes on behind it and that could
-- change the judgement, and otherwise the judgement
abbrev pub IsReplyToJudged : Option (List ℕ) → List ℕ → Result Level ConfirmError → Reply → Type 0
IsReplyToJudged told contents judgement r =
    (IsTrue (rests_on_more judgement) × IsTooLong files.Proof told r)
    ⊎ ((IsTrue (rests_on_more judgement) → length contents ≤ limit_of files.Proof) × TellsJudgement judgement r)

-- the reply to a proof's file
abbrev pub IsReplyToConfirmed : Function → Option (List ℕ) → Reply → Type 0
IsReplyToConfirmed f told r =
    (contents : List ℕ) × ForSome told (λ known. contents ≡ known)
    × IsReplyToJudged told contents (judgement_of f (take (limit_of files.Proof) contents)) r

-- the facts of the command
abbrev pub confirm_facts : List ℕ → List ℕ → Facts
confirm_facts function proof = record { opens = FunctionAnd function proof IsReplyToConfirmed; steady = NothingMore }
