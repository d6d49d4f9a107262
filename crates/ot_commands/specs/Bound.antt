-- Which reply a certificate gets that no document of fewer cells than its bound breaks a property.
use Rattle.std.specs.Prelude.{ℕ, List, Option}
use Rattle.fn_rules.specs.declared.function.Level.{Level}
use Rattle.fn_rules.specs.Functions.{Function}
use Rattle.ot_bound.specs.Judgements.{IsLowJudgement}
use Rattle.ot_replies.specs.declared.reply.Reply.{Reply}
use Rattle.ot_replies.specs.declared.reply.Reply.TheVariants.{AtLeast}
use Rattle.ot_commands.specs.Certificate.{IsReplyToCertificate}
use Rattle.ot_commands.specs.Facts.{Facts, FunctionAnd, NothingMore}

-- the reply that says the level and the bound
abbrev pub at_least : Level × ℕ → Reply
at_least shown = AtLeast shown.0 shown.1

-- the reply to such a certificate of a function, of what is told of its file
abbrev pub IsReplyToBound : Function → Option (List ℕ) → Reply → Type 0
IsReplyToBound f told r = IsReplyToCertificate (IsLowJudgement f) at_least told r

-- the facts of the command
abbrev pub bound_facts : List ℕ → List ℕ → Facts
bound_facts function certificate = record {
  opens = FunctionAnd function certificate IsReplyToBound;
  steady = NothingMore;
}
