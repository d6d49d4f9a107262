use Rattle.std.proofs.Common.{subst}
use Rattle.plan_proofs.specs.Searching.{MaySpend}
use Rattle.ot_settle.proofs.settling.cause_after.Goals as goal

pub returns-in-NoWay : goal.returns-in-NoWay
returns-in-NoWay c = λ same.
    let none_over = subst (MaySpend c.args.budget c.args.asked c.args.over c.args.written) c.in-NoWay.is c.requires in
    rw none_over (c.cause_of.ensures c.args.budget.asked c.args.asked)
