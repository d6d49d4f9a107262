-- The status and the text of a reply.
use Rattle.std.specs.Prelude.{ℕ, nat_le, if◌then◌else◌, List, [], ◌∷◌, ◌++◌, codes, map, Option, Some, None}
use Rattle.case_json.specs.declared.fault.CaseFault.{CaseFault}
use Rattle.case_json.specs.declared.fault.CaseFault.TheVariants as faults
use Rattle.ot_integrate.specs.Ends.{outcome_of}
use Rattle.ot_replies.specs.declared.reply.FileKind.{FileKind}
use Rattle.ot_replies.specs.declared.reply.FileKind.TheVariants as files
use Rattle.ot_replies.specs.declared.reply.Reply.{Reply}
use Rattle.ot_replies.specs.declared.reply.Reply.TheVariants.{Proved, Broken, Spent, Accepted, Refused, FunctionRefused}
use Rattle.ot_replies.specs.declared.reply.Reply.TheVariants.{CaseRefused, Integrated, Usage, TooLong, EventRefused}
use Rattle.ot_replies.specs.declared.reply.Reply.TheVariants.{StuckAt, Replayed, Served, Audited, Compared, Drilled}
use Rattle.ot_replies.specs.declared.reply.Reply.TheVariants.{Reversed, Unlike, Unbroken, Shortest, Certified}
use Rattle.ot_replies.specs.declared.reply.Reply.TheVariants.{BoundTooLong, AtLeast, Confirmed, ProofRefused, Templated}
use Rattle.ot_replies.specs.declared.reply.Reply.TheVariants.{NoTemplate, Explained, Mended, NotMended, Traced}
use Rattle.ot_replies.specs.AuditTexts.{audit_status, audit_text, same_status, same_text, spent_text}
use Rattle.ot_replies.specs.BoundTexts.{at_least_text, bound_limit_text, shortest_text, unbroken_text}
use Rattle.ot_replies.specs.FaultTexts.{text_fault_text, case_fault_text, proof_refusal_text, refusal_text}
use Rattle.ot_replies.specs.OrderTexts.{orders_text}
use Rattle.ot_replies.specs.CounterTexts.{counter_text}
use Rattle.ot_replies.specs.LevelTexts.{accepted_text, confirmed_text}
use Rattle.ot_replies.specs.DrillTexts.{drill_text}
use Rattle.ot_replies.specs.ExplainTexts.{explanation_status, explanation_text}
use Rattle.ot_replies.specs.HubTexts.{hub_text}
use Rattle.ot_replies.specs.MendTexts.{not_mended_text}
use Rattle.ot_replies.specs.ReversalTexts.{reversal_status, reversal_text, unlike_text}
use Rattle.ot_replies.specs.SessionTexts.{event_fault_text, sites_text, stuck_text}

-- too much of a part is a limit, and every other fault is one of the case
abbrev pub case_status : CaseFault → ℕ
case_status (faults.Limit name) = 9
case_status fault = 4

-- two sites differ, or a client does, or none do
abbrev pub differ_status : {X : Type 0} → Option X → ℕ
differ_status None = 0
differ_status (Some found) = 1

-- the status of a trace, which is that of the reply at its end: such a one is
-- none of a fault of the outside, and none is above 9
abbrev pub traced_status : ℕ → ℕ
traced_status status = if nat_le status 5 then status else (if nat_le status 8 then 8 else 9)

abbrev pub status_of : Reply → ℕ
status_of (Proved bytes) = 0
status_of (Broken counter) = 1
status_of Spent = 8
status_of (Accepted level) = 0
status_of (Integrated ends same) = if same then 0 else 1
status_of (Replayed ends differ) = differ_status differ
status_of (Served end) = differ_status end.differ
status_of (Audited audit) = audit_status audit
status_of (Compared same) = same_status same
status_of (Reversed back) = reversal_status back
status_of Unlike = 1
status_of Unbroken = 0
status_of (Shortest counter cells) = 1
status_of (Certified bytes) = 1
status_of BoundTooLong = 9
status_of (AtLeast level cells) = 0
status_of (Confirmed level) = 0
status_of (ProofRefused offset why) = 2
status_of (Templated bytes) = 0
status_of NoTemplate = 1
status_of (Mended bytes) = 0
status_of (NotMended most) = 1
status_of (Explained explanation) = explanation_status explanation
status_of (Traced bytes status) = traced_status status
status_of (StuckAt i) = 1
status_of (Drilled d) = differ_status d.differ
status_of (EventRefused i fault) = 4
status_of (Refused offset why) = 2
status_of (FunctionRefused subject fault) = 3
status_of (CaseRefused fault) = case_status fault
status_of Usage = 5
status_of (TooLong kind) = 9

abbrev pub limit_word : FileKind → List ℕ
limit_word files.Function = codes "function"
limit_word files.Certificate = codes "certificate"
limit_word files.Proof = codes "proof"
limit_word files.Case = codes "file"

abbrev pub limit_text : FileKind → List ℕ
limit_text kind = codes "limit " ++ limit_word kind ++ 10 ∷ []

-- no function has both properties
abbrev pub no_template_text : List ℕ
no_template_text = codes "none tp2" ++ 10 ∷ []

abbrev pub text_of : Reply → List ℕ
text_of (Proved bytes) = bytes
text_of (Broken counter) = counter_text counter
text_of Spent = spent_text
text_of (Accepted level) = accepted_text level
text_of (Integrated ends same) = orders_text (map outcome_of ends) same
text_of (Replayed ends differ) = sites_text ends differ
text_of (Served end) = hub_text end
text_of (Audited audit) = audit_text audit
text_of (Compared same) = same_text same
text_of (Reversed back) = reversal_text back
text_of Unlike = unlike_text
text_of Unbroken = unbroken_text
text_of (Shortest counter cells) = shortest_text counter cells
text_of (Certified bytes) = bytes
text_of BoundTooLong = bound_limit_text
text_of (AtLeast level cells) = at_least_text level cells
text_of (Confirmed level) = confirmed_text level
text_of (ProofRefused offset why) = proof_refusal_text offset why
text_of (Templated bytes) = bytes
text_of NoTemplate = no_template_text
text_of (Mended bytes) = bytes
text_of (NotMended most) = not_mended_text most
text_of (Explained explanation) = explanation_text explanation
text_of (Traced bytes status) = bytes
text_of (StuckAt i) = stuck_text i
text_of (Drilled d) = drill_text d
text_of (EventRefused i fault) = event_fault_text i fault
text_of (Refused offset why) = refusal_text offset why
text_of (FunctionRefused subject fault) = text_fault_text subject fault
text_of (CaseRefused fault) = case_fault_text fault
text_of Usage = codes "usage: otp COMMAND ARGUMENTS" ++ 10 ∷ []
text_of (TooLong kind) = limit_text kind
