-- Which reply a function gets that is to be settled: a proof with lemmas, a counterexample, or that nothing is said.
use Rattle.std.specs.Prelude.{◌≡◌, ℕ, List}
use Rattle.fn_rules.specs.declared.function.Level.{Level}
use Rattle.fn_rules.specs.Functions.{Function}
use Rattle.ot_settle.specs.declared.settled.Settled.{Settled}
use Rattle.ot_settle.specs.declared.settled.Settled.TheVariants as outcomes
use Rattle.ot_settle.specs.Outcomes.{IsSettled}
use Rattle.ot_replies.specs.declared.reply.Reply.{Reply}
use Rattle.ot_replies.specs.declared.reply.Reply.TheVariants.{Proved, Spent}
use Rattle.ot_commands.specs.Facts.{Facts, NothingMore, OneFunction}
use Rattle.ot_commands.specs.Prove.{TellsCounter}

-- the reply tells what settling came to: the bytes of the proof, or the counterexample of a failing end
abbrev pub TellsSettled : Function → Settled → Reply → Type 0
TellsSettled f (outcomes.Yes bytes) r = r ≡ Proved bytes.items
TellsSettled f (outcomes.No ob answers why) r = TellsCounter f ob answers.items why r
TellsSettled f (outcomes.Spent cause) r = r ≡ Spent

-- the reply to a function at a level that is to be settled; how many questions are allowed says nothing of it
abbrev pub IsReplyToSettle : Function → Level → Reply → Type 0
IsReplyToSettle f level r = (settled : Settled) × IsSettled f level settled × TellsSettled f settled r

-- the facts of the command
abbrev pub settle_facts : Level → ℕ → List ℕ → Facts
settle_facts level budget function = record {
  opens = OneFunction function (λ f r. IsReplyToSettle f level r);
  steady = NothingMore;
}
