use Rattle.start_laws.proofs.Unmarked.{unmarked-goal, unmarked-plan}
use Rattle.start_laws.proofs.StartsKept.{starts_kept, plan_starts_kept}
use Rattle.start_laws.proofs.marks.marked_plans_are_plans.Goals as goal

pub returns-clause-goals : goal.returns-clause-goals
returns-clause-goals c = unmarked-goal

pub returns-clause-obligations : goal.returns-clause-obligations
returns-clause-obligations c = unmarked-plan

pub returns-clause-starts : goal.returns-clause-starts
returns-clause-starts c = starts_kept

pub returns-clause-whole : goal.returns-clause-whole
returns-clause-whole c = plan_starts_kept
