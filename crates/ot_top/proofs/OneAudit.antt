-- What is replied to functions that are audited or compared is told by their files.
use Rattle.std.proofs.Common.{◌≡◌, ℕ, List, Option, Some, sym, ap, ◌∙◌}
use Rattle.fn_rules.specs.Functions.{Function}
use Rattle.ot_audit.specs.declared.audits.Audit.{Audit as Found}
use Rattle.ot_audit.specs.declared.audits.Same.{Same as AnySame}
use Rattle.ot_audit.specs.Audits.{IsAuditedAs, IsComparedAs}
use Rattle.ot_replies.specs.declared.reply.Reply.{Reply}
use Rattle.ot_replies.specs.declared.reply.Reply.TheVariants.{Audited, Compared}
use Rattle.ot_replies.specs.declared.reply.Subject.TheVariants.{First, Second}
use Rattle.ot_words.specs.Commands.{Audit, Same}
use Rattle.ot_words.specs.Words.{most_questions}
use Rattle.ot_commands.specs.Audit.{IsReplyToAudit}
use Rattle.ot_commands.specs.Replies.{IsReplyTo}
use Rattle.ot_commands.specs.Same.{IsReplyToSecond, IsReplyToTwo}
use Rattle.ot_top.proofs.OneFile.{function_once}

-- the reply of `audit` to a told file is one
pub audit_replied_once :
    ((f : Function) (budget : ℕ) (one other : Found) → IsAuditedAs f budget one
    → IsAuditedAs f budget other → one ≡ other)
    → (holds : List ℕ → Option (List ℕ)) (name bytes : List ℕ) (r s : Reply) → holds name ≡ Some bytes
    → IsReplyTo holds (Audit name) r → IsReplyTo holds (Audit name) s → r ≡ s
audit_replied_once one_audit holds name bytes r s told first second =
    function_once (holds name) bytes told First (λ f. IsReplyToAudit f r) (λ f. IsReplyToAudit f s) r s (r ≡ s)
    first second (λ same. same)
    (λ f read one other.
    one.2 ∙ ap (λ (found : Found). Audited found) (one_audit f most_questions one.0 other.0 one.1 other.1)
    ∙ sym other.2)

-- and that of `same` to two told files
pub same_replied_once :
    ((f g : Function) (budget : ℕ) (one other : AnySame) → IsComparedAs f g budget one
    → IsComparedAs f g budget other → one ≡ other)
    → (holds : List ℕ → Option (List ℕ)) (name other_name bytes contents : List ℕ) (r s : Reply)
    → holds name ≡ Some bytes
    → holds other_name ≡ Some contents → IsReplyTo holds (Same name other_name) r
    → IsReplyTo holds (Same name other_name) s → r ≡ s
same_replied_once one_comparison holds name other_name bytes contents r s told other_told first second =
    function_once (holds name) bytes told First (λ f. IsReplyToSecond f (holds other_name) r)
    (λ f. IsReplyToSecond f (holds other_name) s) r s (r ≡ s) first second (λ same. same)
    (λ f read gets others.
    function_once (holds other_name) contents other_told Second (λ g. IsReplyToTwo f g r)
    (λ g. IsReplyToTwo f g s) r s (r ≡ s) gets others
    (λ same. same)
    (λ g read_too one other.
    one.2 ∙ ap (λ (found : AnySame). Compared found) (one_comparison f g most_questions one.0 other.0 one.1 other.1)
    ∙ sym other.2))
