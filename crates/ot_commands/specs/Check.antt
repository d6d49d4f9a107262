-- Which reply a certificate of a function gets, by what its level says.
use Rattle.std.specs.Prelude.{ℕ, List, Option}
use Rattle.fn_rules.specs.Functions.{Function}
use Rattle.ot_judge.specs.Refusals.{IsJudgement}
use Rattle.ot_replies.specs.declared.reply.Reply.{Reply}
use Rattle.ot_replies.specs.declared.reply.Reply.TheVariants.{Accepted}
use Rattle.ot_commands.specs.Certificate.{IsReplyToCertificate}
use Rattle.ot_commands.specs.Facts.{Facts, FunctionAnd, NothingMore}

-- the reply to a function's certificate, of what is told of its file
abbrev pub IsReplyToChecked : Function → Option (List ℕ) → Reply → Type 0
IsReplyToChecked f told r = IsReplyToCertificate (IsJudgement f) Accepted told r

-- the facts of the command
abbrev pub check_facts : List ℕ → List ℕ → Facts
check_facts function certificate = record {
  opens = FunctionAnd function certificate IsReplyToChecked;
  steady = NothingMore;
}
