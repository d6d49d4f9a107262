-- Settling comes to something, and the reply tells it.
use Rattle.std.proofs.lemmas.Result.{IfOk-weaker}
use Rattle.fn_rules.specs.Rules.{function_of}
use Rattle.ot_commands.specs.Explain.{ExplainsSettled, IsReplyToUnproved}
use Rattle.ot_commands.proofs.explain.settled.Goals as goal

-- the reply explains what `settle` came to
pub returns : goal.returns
returns c =
    let f = function_of c.args.rules.now in
    let came = c.in_ok-settlement in
    let found = came.settlement in
    IfOk-weaker c.explain_settled.result (ExplainsSettled f c.args.level found.asked found.written found.settled)
    (IsReplyToUnproved f c.args.level)
    (λ r explains. (
      found.settled,
      found.asked,
      found.over,
      found.written,
      came.ensures.settled,
      (came.ensures.asked, came.ensures.again),
      came.ensures.spent,
      explains,
    )) c.explain_settled.ensures
