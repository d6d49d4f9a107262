-- What the statuses of `trace` show of files that are told.
use Rattle.std.specs.Prelude.{◌≡◌, ℕ, ◌≤◌, List, ◌++◌, length, Option, Some}
use Rattle.fn_rules.specs.Functions.{Function}
use Rattle.fn_grammar.specs.Grammar.{IsTextOf}
use Rattle.ot_replies.specs.declared.reply.FileKind.TheVariants as files
use Rattle.ot_replies.specs.declared.reply.Reply.{Reply}
use Rattle.ot_replies.specs.Limits.{limit_of}
use Rattle.ot_replies.specs.Texts.{status_of, text_of}
use Rattle.ot_words.specs.declared.command.TraceKind.{TraceKind}
use Rattle.ot_words.specs.Commands.{Trace}
use Rattle.ot_words.specs.Words.{asked_by}
use Rattle.ot_commands.specs.Trace.{IsTracedAs, where_lines}

-- the words ask to trace a case, a session or a hub; where both files are told and within their limits,
-- and the first one is the text of a function by the grammar, what happened was written, step by step,
-- behind it the text of the reply of the command that runs the other file, whose status it is, and
-- behind that where the fault is that it tells, if it does: its path, line and column, and a sentence
abbrev pub IsTraced : List (List ℕ) → (List ℕ → Option (List ℕ)) → (List ℕ → Type 0) → ℕ → Type 0
IsTraced words holds IsWritten status =
    (events : TraceKind) (name file bytes contents : List ℕ) (f : Function)
    → asked_by words ≡ Some (Trace events name file) → holds name ≡ Some bytes → holds file ≡ Some contents
    → length bytes ≤ limit_of files.Function → IsTextOf bytes f → length contents ≤ limit_of files.Case
    → (told : List ℕ) × (end : Reply) × IsTracedAs events f contents told end × (status ≡ status_of end)
    × IsWritten (told ++ text_of end ++ where_lines events contents end)
