-- Which reply a function gets whose guards are looked at.
use Rattle.std.specs.Prelude.{◌≡◌, ℕ, List}
use Rattle.fn_rules.specs.Functions.{Function}
use Rattle.ot_audit.specs.declared.audits.Audit.{Audit}
use Rattle.ot_audit.specs.Audits.{IsAuditedAs}
use Rattle.ot_replies.specs.declared.reply.Reply.{Reply}
use Rattle.ot_replies.specs.declared.reply.Reply.TheVariants.{Audited}
use Rattle.ot_words.specs.Words.{most_questions}
use Rattle.ot_commands.specs.Facts.{Facts, NothingMore, OneFunction}

-- the reply to the function, with so many questions for each case and each block
abbrev pub IsReplyToAudit : Function → Reply → Type 0
IsReplyToAudit f r = (audit : Audit) × IsAuditedAs f most_questions audit × (r ≡ Audited audit)

-- the facts of the command
abbrev pub audit_facts : List ℕ → Facts
audit_facts function = record { opens = OneFunction function IsReplyToAudit; steady = NothingMore }
