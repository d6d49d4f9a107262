-- Where the status of a command is never 1, by its facts.
use Rattle.std.specs.Prelude.{ℕ, List, Option, IfSome}
use Rattle.ot_replies.specs.declared.reply.Reply.{Reply}
use Rattle.ot_words.specs.Commands.{Asked}
use Rattle.ot_words.specs.Words.{asked_by}
use Rattle.ot_commands.specs.Replies.{facts_of}

-- what is said of the status of a command besides its reply, where `holds` says what each name holds
abbrev pub IsSteadyReply : (List ℕ → Option (List ℕ)) → Asked → Reply → Type 0
IsSteadyReply holds asked r = (facts_of asked).steady holds r

-- the same of words
abbrev pub AreSteady : List (List ℕ) → (List ℕ → Option (List ℕ)) → Reply → Type 0
AreSteady words holds r = IfSome (asked_by words) (λ asked. IsSteadyReply holds asked r)
