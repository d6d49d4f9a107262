use Rattle.start_laws.proofs.Begins.{begun_is_some, starts_at_front}
use Rattle.start_laws.proofs.RuleMarks.{rule_opens, rule_keeps_starts}
use Rattle.start_laws.proofs.marks.rules_keep_starts.Goals as goal

pub returns-clause-kept : goal.returns-clause-kept
returns-clause-kept c = λ f ob g h valid of e none.
    rule_keeps_starts f ob (λ g h of e. c.rules_keep_what_is_asked.ensures.asked f ob g h valid of e)
    (λ g h of e. c.rules_keep_what_is_asked.ensures.belongs f ob g h valid of e) g h of e none

pub returns-clause-opened : goal.returns-clause-opened
returns-clause-opened c = λ f ob g h valid of e.
    rule_opens f ob (λ g h of e. c.rules_keep_what_is_asked.ensures.asked f ob g h valid of e)
    (λ g h of e. c.rules_keep_what_is_asked.ensures.belongs f ob g h valid of e) g h of e

pub returns-clause-front : goal.returns-clause-front
returns-clause-front c = starts_at_front

pub returns-clause-begun : goal.returns-clause-begun
returns-clause-begun c = begun_is_some
