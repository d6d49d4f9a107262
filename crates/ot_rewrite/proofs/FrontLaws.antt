-- The rules stop exactly where a question or an end stands at the front.
use Rattle.std.proofs.Common.{◌≡◌, ◌↔◌, Bool, true, false, not, if◌then◌else◌, nat_eq, int_le, Some, None, refl}
use Rattle.fn_rules.specs.Functions.{Function}
use Rattle.ot_terms.specs.Forms.{FormTree, True, Le, Lt, Eq, And, Or, Not}
use Rattle.ot_terms.specs.Goals.{GoalTree, Holds, Fails, If, Choose, Deliver, Same}
use Rattle.ot_rewrite.specs.Table.{rewrite_if, rewritten}
use Rattle.ot_rewrite.specs.Fronts.{is_question, is_at_front}
use Rattle.ot_rewrite.proofs.SameRules.{same_goes_on}

-- there is a next goal, so that the test is false
goes_on : (next : GoalTree) → (Some next ≡ None) ↔ (false ≡ true)
goes_on next = ((λ e. absurd (cc)), (λ e. absurd (cc)))

by_names : (b : Bool) (next : GoalTree) → ((if b then Some next else None) ≡ None) ↔ (not b ≡ true)
by_names true next = goes_on next
by_names false next = ((λ e. refl), (λ e. refl))

pub if_stops : (g : FormTree) (on_yes on_no : GoalTree) → (rewrite_if g on_yes on_no ≡ None) ↔ (is_question g ≡ true)
if_stops True on_yes on_no = goes_on _
if_stops (Le x y) on_yes on_no = by_names (nat_eq x.var y.var) (if int_le x.off y.off then on_yes else on_no)
if_stops (Lt x y) on_yes on_no = goes_on _
if_stops (Eq x y) on_yes on_no = goes_on _
if_stops (And g h) on_yes on_no = goes_on _
if_stops (Or g h) on_yes on_no = goes_on _
if_stops (Not g) on_yes on_no = goes_on _

pub goal_stops : (f : Function) (g : GoalTree) → (rewritten f g ≡ None) ↔ (is_at_front g ≡ true)
unfolding rewritten
goal_stops f Holds = ((λ e. refl), (λ e. refl))
goal_stops f (Fails why) = ((λ e. refl), (λ e. refl))
goal_stops f (If g on_yes on_no) = if_stops g on_yes on_no
goal_stops f (Choose case a b plan) = goes_on _
goal_stops f (Deliver r plan) = goes_on _
goal_stops f (Same left right) = ((λ e. absurd (same_goes_on left right e)), (λ e. absurd (cc)))
