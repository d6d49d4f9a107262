use Rattle.ot_audit.proofs.Everywhere.{head_once, agree_everywhere}
use Rattle.ot_audit.proofs.laws.functions_that_are_same_agree_everywhere.Goals as goal

pub returns-clause-head : goal.returns-clause-head
returns-clause-head c = head_once

pub returns-clause-agree : goal.returns-clause-agree
returns-clause-agree c = agree_everywhere c.every_kind_is_listed.ensures.pair
