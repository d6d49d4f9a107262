-- What `audit` and `same` show of functions whose files are told.
use Rattle.std.specs.Prelude.{◌≡◌, ℕ, ◌≤◌, List, length, Option, Some}
use Rattle.fn_rules.specs.Functions.{Function}
use Rattle.fn_grammar.specs.Grammar.{IsTextOf}
use Rattle.ot_audit.specs.declared.audits.Audit.{Audit as Found}
use Rattle.ot_audit.specs.declared.audits.Same.{Same as Compared}
use Rattle.ot_audit.specs.Audits.{IsAuditedAs, IsComparedAs}
use Rattle.ot_replies.specs.declared.reply.FileKind.TheVariants as files
use Rattle.ot_replies.specs.AuditTexts.{audit_status, audit_text, same_status, same_text}
use Rattle.ot_replies.specs.Limits.{limit_of}
use Rattle.ot_words.specs.Commands.{Audit, Same}
use Rattle.ot_words.specs.Words.{asked_by, most_questions}

-- the words ask what the guards of a function reach; where its file is told, is within its limit and is the text of a
-- function by the grammar, this was written of each case and of each block, of all operations, and the status says
-- whether each case is taken and each block total
abbrev pub IsAudited : List (List ℕ) → (List ℕ → Option (List ℕ)) → (List ℕ → Type 0) → ℕ → Type 0
IsAudited words holds IsWritten status =
    (name bytes : List ℕ) (f : Function)
    → asked_by words ≡ Some (Audit name) → holds name ≡ Some bytes
    → length bytes ≤ limit_of files.Function → IsTextOf bytes f
    → (found : Found) × IsAuditedAs f most_questions found × (status ≡ audit_status found)
    × IsWritten (audit_text found)

-- the words ask to compare two functions; where both files are told, are within their limit and are texts of functions
-- by the grammar, this was written of all operations: that the heads differ, that the functions agree on each block, or
-- two operations at which they do not, and what each of them gives
abbrev pub IsCompared : List (List ℕ) → (List ℕ → Option (List ℕ)) → (List ℕ → Type 0) → ℕ → Type 0
IsCompared words holds IsWritten status =
    (name other bytes contents : List ℕ) (f g : Function)
    → asked_by words ≡ Some (Same name other) → holds name ≡ Some bytes → holds other ≡ Some contents
    → length bytes ≤ limit_of files.Function → IsTextOf bytes f
    → length contents ≤ limit_of files.Function → IsTextOf contents g
    → (found : Compared) × IsComparedAs f g most_questions found × (status ≡ same_status found)
    × IsWritten (same_text found)
