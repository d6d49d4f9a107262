use Rattle.std.proofs.Common.{◌≤◌, ◌-◌, length}
use Rattle.std.specs.List.{AllByRecursion}
use Rattle.ot_session.specs.Sites.{IsFresh}
use Rattle.ot_session.proofs.steps.fresh_sites.Given as goal

abbrev pub invariant-loop-alloc : goal.invariant-loop-alloc
invariant-loop-alloc l =
    record { count : length l.list.items ≤ l.sites; fresh : AllByRecursion (IsFresh l.doc) l.list.items }

abbrev pub decreases-loop-alloc : goal.decreases-loop-alloc
decreases-loop-alloc l = l.sites - length l.list.items
