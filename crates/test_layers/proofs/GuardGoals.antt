-- A goal that holds where a short guard of two deletions is true, and fails where it is not.
use Rattle.std.proofs.Common.{◌≡◌, ◌+◌, ◌≤◌, max, sym, ap, subst, ◌∙◌, arith}
use Rattle.fn_rules.specs.declared.function.ObName.{ObName}
use Rattle.fn_rules.specs.Functions.{Function}
use Rattle.ask_core.specs.declared.asker.TheConstants.{MAX_QUESTIONS}
use Rattle.ask_core.specs.Askers.{longest_path}
use Rattle.ot_questions.specs.declared.why.Why.{Why}
use Rattle.ot_questions.specs.Names.{name_count}
use Rattle.ot_terms.specs.Belonging.{HasPlaces}
use Rattle.ot_terms.specs.Forms.{FormTree}
use Rattle.ot_terms.specs.Goals.{GoalTree, Holds, Fails, If}
use Rattle.ot_terms.specs.Standing.{ask_goal}
use Rattle.ot_rewrite.specs.Splits.{comparisons_left}
use Rattle.ot_paths.specs.Nodes.{IsNode}

-- a condition in front of two nodes is a node
abbrev pub ConditionsAreNodes : Type 0
ConditionsAreNodes =
    (f : Function) (ob : ObName) (g : FormTree) (y n : GoalTree) → HasPlaces (name_count ob) g
    → IsNode f ob y → IsNode f ob n
    → comparisons_left g + max (longest_path (ask_goal f y)) (longest_path (ask_goal f n)) ≤ MAX_QUESTIONS
    → IsNode f ob (If g y n)

short_enough :
    (f : Function) (g : FormTree) (why : Why) → comparisons_left g ≤ 99
    → comparisons_left g + max (longest_path (ask_goal f Holds)) (longest_path (ask_goal f (Fails why))) ≤ MAX_QUESTIONS
unfolding ask_goal
short_enough f g why short = omega (arith, short)

-- a short guard in front of the two ends
pub guard_goal :
    ConditionsAreNodes → (f : Function) (ob : ObName) (g : FormTree) (why : Why) (y n goal : GoalTree)
    → y ≡ Holds → n ≡ Fails why
    → goal ≡ If g y n → IsNode f ob Holds × IsNode f ob (Fails why) → HasPlaces (name_count ob) g
    → comparisons_left g ≤ 99
    → IsNode f ob goal
guard_goal are_nodes f ob g why y n goal on_yes on_no is ends places short =
    let whole : goal ≡ If g Holds (Fails why) = is ∙ ap (λ (t : GoalTree). If g t n) on_yes
    ∙ ap (λ (t : GoalTree). If g Holds t) on_no in
    subst (λ (t : GoalTree). IsNode f ob t) (sym whole)
    (are_nodes f ob g Holds (Fails why) places ends.0 ends.1 (short_enough f g why short))
