use Rattle.std.specs.Prelude.{ℕ}
use Rattle.std.proofs.lemmas.Result.{IfOk-weaker}
use Rattle.ot_settle.specs.Outcomes.{HasCause}
use Rattle.ot_settle.proofs.settling.settle_all.Goals as goal

pub returns-in-Shown-clause-spent : goal.returns-in-Shown-clause-spent
returns-in-Shown-clause-spent c =
    IfOk-weaker c.shown.result (λ r. (budget : ℕ) → HasCause budget r.asked r.over r.written r.settled) _
    (λ r of_any. of_any c.args.budget) c.shown.ensures.spent

pub returns-in-Fails-clause-spent : goal.returns-in-Fails-clause-spent
returns-in-Fails-clause-spent c =
    IfOk-weaker c.refuted.result (λ r. (budget : ℕ) → HasCause budget r.asked r.over r.written r.settled) _
    (λ r of_any. of_any c.args.budget) c.refuted.ensures.spent
