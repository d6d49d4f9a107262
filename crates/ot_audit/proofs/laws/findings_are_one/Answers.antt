use Rattle.ot_audit.proofs.One.{reached_once, agreed_once, audited_once, compared_once}
use Rattle.ot_audit.proofs.Seeking.{sought_once}
use Rattle.ot_audit.proofs.laws.findings_are_one.Goals as goal

pub returns-clause-sought : goal.returns-clause-sought
returns-clause-sought c = sought_once c.plans_have_one_question_list.ensures.one

pub returns-clause-reached : goal.returns-clause-reached
returns-clause-reached c = reached_once c.plans_have_one_question_list.ensures.one

pub returns-clause-agreed : goal.returns-clause-agreed
returns-clause-agreed c = agreed_once c.plans_have_one_question_list.ensures.one

pub returns-clause-audited : goal.returns-clause-audited
returns-clause-audited c = audited_once c.plans_have_one_question_list.ensures.one

pub returns-clause-compared : goal.returns-clause-compared
returns-clause-compared c = compared_once c.plans_have_one_question_list.ensures.one
