use Rattle.std.proofs.Common.{◌≡◌, ◌<◌, ◌≤◌, ◌-◌, ℕ, length, Some, None, reverse}
use Rattle.fn_rules.specs.Rules.{function_of}
use Rattle.ot_causal.specs.Past.{IsNext}
use Rattle.ot_causal.specs.Counting.{counted}
use Rattle.ot_session.specs.declared.limits.TheConstants.{MAX_FORMS}
use Rattle.ot_session.specs.Past.{past_of}
use Rattle.ot_session.specs.Sites.{view_site, CanTake}
use Rattle.ot_session.specs.Taking.{standing, NoneIsDue, IsTurn, IsCourse}
use Rattle.ot_session.proofs.taking.integrate_all.Given as goal

-- what was integrated so far, and whose turn it is
abbrev pub invariant-loop-next : goal.invariant-loop-next
invariant-loop-next l = record {
  course : IsCourse (function_of l.rules) (past_of l.made) l.number (standing l.fn.site l.fn.total) l.done
      (standing l.site l.total);
  can : ∥ CanTake (function_of l.rules) (past_of l.made) l.site ∥₁;
  some : length (counted (past_of l.made) (reverse l.site.seen.items)) ≤ l.total;
  within : l.total ≤ MAX_FORMS;
  more : l.fn.total ≤ l.total;
  turn : (o : ℕ) → l.next ≡ Some o
      → IsTurn (past_of l.made) l.number l.done (view_site l.site) o
      × IsNext (past_of l.made) (reverse l.site.seen.items) o;
  over : l.next ≡ None → (0 < length l.done) × NoneIsDue (past_of l.made) (view_site l.site);
}

abbrev pub decreases-loop-next : goal.decreases-loop-next
decreases-loop-next l = length l.made - length (reverse l.site.seen.items)
