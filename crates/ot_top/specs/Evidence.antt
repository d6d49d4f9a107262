-- What shows the properties of a function: a certificate or a proof with lemmas; which command writes it, and which one
-- judges it.
use Rattle.std.specs.Prelude.{◌≡◌, ℕ, List, Option, Some, Ok}
use Rattle.fn_rules.specs.declared.function.Level.{Level}
use Rattle.fn_rules.specs.Functions.{Function}
use Rattle.ot_sections.specs.Certificates.{IsCertificate}
use Rattle.ot_confirm.specs.Judgement.{judgement_of}
use Rattle.ot_replies.specs.declared.reply.FileKind.{FileKind}
use Rattle.ot_replies.specs.declared.reply.FileKind.TheVariants as files
use Rattle.ot_replies.specs.declared.reply.Reply.{Reply}
use Rattle.ot_replies.specs.declared.reply.Reply.TheVariants.{Accepted, Confirmed}
use Rattle.ot_words.specs.Commands.{Asked, Prove, Settle, Check, Confirm}
use Rattle.ot_commands.specs.Replies.{IsReplyTo}

pub data Evidence : Type 0 where
  Certificate : Evidence
  Proof : Evidence

-- `prove` writes a certificate and `settle` a proof, at a level, by so many questions at the most, of a function's file
abbrev pub asks_for : Evidence → Level → ℕ → List ℕ → Asked
asks_for Certificate = Prove
asks_for Proof = Settle

-- the bytes are such evidence that the function has what the level says
abbrev pub IsEvidence : Evidence → List ℕ → Function → Level → Type 0
IsEvidence Certificate bytes f level = IsCertificate bytes f level
IsEvidence Proof bytes f level = judgement_of f bytes ≡ Ok level

-- the file that holds it
abbrev pub file_of : Evidence → FileKind
file_of Certificate = files.Certificate
file_of Proof = files.Proof

-- `check` judges a certificate and `confirm` a proof, of a function's file and of its own
abbrev pub asks_of : Evidence → List ℕ → List ℕ → Asked
asks_of Certificate = Check
asks_of Proof = Confirm

-- the reply that accepts it at a level
abbrev pub accepting : Evidence → Level → Reply
accepting Certificate = Accepted
accepting Proof = Confirmed

-- it is accepted by the command that judges it: wherever a shelf tells these bytes of a function and of the evidence,
-- every reply says the level
abbrev pub IsAcceptedAt : Evidence → List ℕ → List ℕ → Level → Type 0
IsAcceptedAt e bytes evidence level =
    (holds : List ℕ → Option (List ℕ)) (name evidence_name : List ℕ) (r : Reply)
    → holds name ≡ Some bytes → holds evidence_name ≡ Some evidence
    → IsReplyTo holds (asks_of e name evidence_name) r → r ≡ accepting e level
