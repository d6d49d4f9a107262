-- Which reply two functions get that are compared.
use Rattle.std.specs.Prelude.{◌≡◌, ℕ, List, Option}
use Rattle.fn_rules.specs.Functions.{Function}
use Rattle.ot_audit.specs.declared.audits.Same.{Same}
use Rattle.ot_audit.specs.Audits.{IsComparedAs}
use Rattle.ot_replies.specs.declared.reply.Reply.{Reply}
use Rattle.ot_replies.specs.declared.reply.Reply.TheVariants.{Compared}
use Rattle.ot_replies.specs.declared.reply.Subject.TheVariants.{Second}
use Rattle.ot_words.specs.Words.{most_questions}
use Rattle.ot_commands.specs.Facts.{Facts, NothingMore, TwoFunctions}
use Rattle.ot_commands.specs.Load.{IsReplyToFunction}

-- the reply to two functions, with so many questions for each block
abbrev pub IsReplyToTwo : Function → Function → Reply → Type 0
IsReplyToTwo f g r = (same : Same) × IsComparedAs f g most_questions same × (r ≡ Compared same)

-- the reply to the file of the second function
abbrev pub IsReplyToSecond : Function → Option (List ℕ) → Reply → Type 0
IsReplyToSecond f told r = IsReplyToFunction Second told (λ g. IsReplyToTwo f g r) r

-- the facts of the command
abbrev pub same_facts : List ℕ → List ℕ → Facts
same_facts function other = record { opens = TwoFunctions function other IsReplyToTwo; steady = NothingMore }
