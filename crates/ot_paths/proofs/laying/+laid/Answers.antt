use Rattle.std.proofs.Common.{◌≡◌, rules, refl, ap, sym, subst, ◌∙◌, []}
use Rattle.std.specs.List.{All}
use Rattle.std.proofs.lemmas.Result.{IfOk-weaker}
use Rattle.std.proofs.lemmas.List.Elements.{All-nil, All-same}
use Rattle.fn_rules.specs.Rules.{function_of}
use Rattle.ot_terms.specs.Forms.{FormTree}
use Rattle.ot_terms.specs.Goals.{GoalTree, goal_tree, Deliver, If}
use Rattle.ot_paths.specs.Sharing.{IsKeptGoal}
use Rattle.ot_paths.proofs.LaidGoals.{alike_same, at_front, behind_step, form_low, laid_behind, laid_by_form}
use Rattle.ot_paths.proofs.LaidGoals.{laid_known, leads_same, at_rule, below_front, below_rule, no_behind, yes_behind}
use Rattle.ot_paths.proofs.LaidTrials.{trial_leads}
use Rattle.ot_paths.proofs.laying.+laid.Goals as goal

-- a question is one of two goals by the form of its order
asked_is : (old y n : GoalTree) (g : FormTree) {h : FormTree} → old ≡ If h y n → g ≡ h → old ≡ If g y n
asked_is old y n g is same = is ∙ ap (λ k. If k y n) (sym same)

-- what stands at the front is of the obligation, and is laid out
pub laid-form_laid-requires : goal.laid-form_laid-requires
laid-form_laid-requires t c =
    let front = at_front _ _ _ _ c.requires.goal.1 (asked_is _ _ _ _ (ap goal_tree c.in-Ask.is) c.form-form.ensures) in
    (search (rules, front.0), (front.1, c.requires.known))

pub laid-form_laid-requires-in-If : goal.laid-form_laid-requires-in-If
laid-form_laid-requires-in-If t c =
    let front = at_front _ _ _ _ c.requires.goal.1 (ap goal_tree c.in-If.is) in
    (search (rules, front.0), (front.1, c.requires.known))

pub laid-cases_laid-requires : goal.laid-cases_laid-requires
laid-cases_laid-requires t c =
    let front = at_front _ _ _ _ c.requires.goal.1 (ap goal_tree c.in-Choose.is) in
    (search (rules, front.0), (front.1, c.requires.known))

pub laid-rest_laid-requires : goal.laid-rest_laid-requires
laid-rest_laid-requires t c =
    let front = at_front _ _ _ _ c.requires.goal.1 (ap goal_tree c.in-Deliver.is) in
    (search (rules, front.0), (front.1, c.requires.known))

pub laid-returns-in-Ask-clause-alike : goal.laid-returns-in-Ask-clause-alike
laid-returns-in-Ask-clause-alike t c =
    rw (asked_is _ _ _ _ (ap goal_tree c.in-Ask.is) c.form-form.ensures) c.form_laid.ensures.alike

pub laid-returns-in-If-clause-alike : goal.laid-returns-in-If-clause-alike
laid-returns-in-If-clause-alike t c = rw (ap goal_tree c.in-If.is) c.form_laid-in-If.ensures.alike

pub laid-returns-in-Choose-clause-alike : goal.laid-returns-in-Choose-clause-alike
laid-returns-in-Choose-clause-alike t c = rw (ap goal_tree c.in-Choose.is) c.cases_laid.ensures.alike

pub laid-returns-in-Deliver-clause-alike : goal.laid-returns-in-Deliver-clause-alike
laid-returns-in-Deliver-clause-alike t c = rw (ap goal_tree c.in-Deliver.is) c.rest_laid.ensures.alike

-- two goals by a form, which are lighter and of the obligation
pub form_laid-by_form-requires : goal.form_laid-by_form-requires
form_laid-by_form-requires t c = form_low _ _ _ c.requires.goal.1 _ _ _ (leads_same _ _ _ refl)

pub form_laid-by_form-requires-2 : goal.form_laid-by_form-requires-2
form_laid-by_form-requires-2 t c = form_low _ _ _ c.requires.goal.1 _ _ _ (leads_same _ _ _ refl)

pub form_laid-laid-requires : goal.form_laid-laid-requires
form_laid-laid-requires t c =
    let no = below_front _ _ _ (no_behind _ _ _ c.requires.goal.1 _ _ _ (leads_same _ _ _ refl)) in
    (search (rules, no.0), (no.1, c.requires.known))

pub form_laid-laid-requires-2 : goal.form_laid-laid-requires-2
form_laid-laid-requires-2 t c =
    let yes = below_front _ _ _ (yes_behind _ _ _ c.requires.goal.1 _ _ _ (leads_same _ _ _ refl)) in
    (search (rules, yes.0), (yes.1, c.in_ok-on_no.ensures.known))

pub form_laid-returns-then-are_ends-clause-alike : goal.form_laid-returns-then-are_ends-clause-alike
form_laid-returns-then-are_ends-clause-alike t c =
    laid_by_form _ _ _ c.requires.goal.1 _ _ _ (leads_same _ _ _ refl) _ _ c.by_form.result (alike_same _ _ _ refl)
    (alike_same _ _ _ refl) c.by_form.ensures

pub form_laid-returns-clause-alike : goal.form_laid-returns-clause-alike
form_laid-returns-clause-alike t c =
    laid_by_form _ _ _ c.requires.goal.1 _ _ _ (leads_same _ _ _ refl) _ _ c.by_form-2.result
    c.in_ok-on_yes.ensures.alike c.in_ok-on_no.ensures.alike c.by_form-2.ensures

-- the goal after one rule is lighter, and of the obligation
pub next_laid-laid-requires : goal.next_laid-laid-requires
next_laid-laid-requires t c =
    let next = below_rule _ _ _ (behind_step _ _ _ _ c.requires.goal.1 c.in_ok-next.ensures) in
    (search (rules, next.0), (next.1, c.requires.known))

pub next_laid-returns-clause-alike : goal.next_laid-returns-clause-alike
next_laid-returns-clause-alike t c = laid_behind _ _ _ c.laid.result c.in_ok-next.ensures c.laid.ensures.alike

-- a case is tried: the goals behind it are lighter, and of the obligation
pub cases_laid-laid-requires : goal.cases_laid-laid-requires
cases_laid-laid-requires t c =
    let tried = rw c.in-Some.is at c.trial.ensures in
    let leads = trial_leads _ _ _ _ _ _ c.rules_are_valid.ensures c.requires.goal.1 tried in
    let no = below_front _ _ _ (no_behind _ _ _ c.requires.goal.1 _ _ _ leads) in
    (search (rules, no.0), (no.1, c.requires.known))

pub cases_laid-laid-requires-2 : goal.cases_laid-laid-requires-2
cases_laid-laid-requires-2 t c =
    let tried = rw c.in-Some.is at c.trial.ensures in
    let leads = trial_leads _ _ _ _ _ _ c.rules_are_valid.ensures c.requires.goal.1 tried in
    let yes = below_front _ _ _ (yes_behind _ _ _ c.requires.goal.1 _ _ _ leads) in
    (search (rules, yes.0), (yes.1, c.in_ok-on_no.ensures.known))

pub cases_laid-by_guard-requires-clause-a_near : goal.cases_laid-by_guard-requires-clause-a_near
cases_laid-by_guard-requires-clause-a_near t c =
    let tried = rw c.in-Some.is at c.trial.ensures in tried.a_near

pub cases_laid-by_guard-requires-clause-b_near : goal.cases_laid-by_guard-requires-clause-b_near
cases_laid-by_guard-requires-clause-b_near t c =
    let tried = rw c.in-Some.is at c.trial.ensures in tried.b_near

pub cases_laid-by_guard-requires-clause-atoms_near : goal.cases_laid-by_guard-requires-clause-atoms_near
cases_laid-by_guard-requires-clause-atoms_near t c =
    let tried = rw c.in-Some.is at c.trial.ensures in tried.atoms_near

pub cases_laid-returns-clause-alike : goal.cases_laid-returns-clause-alike
cases_laid-returns-clause-alike t c =
    let tried = rw c.in-Some.is at c.trial.ensures in
    laid_by_form _ _ _ c.requires.goal.1 _ _ _ (trial_leads _ _ _ _ _ _ c.rules_are_valid.ensures c.requires.goal.1
    tried) _ _ c.by_guard.result c.in_ok-on_yes.ensures.alike c.in_ok-on_no.ensures.alike c.by_guard.ensures

-- what is left behind the same result is known
pub rest_laid-returns-in-Some-clause-alike : goal.rest_laid-returns-in-Some-clause-alike
rest_laid-returns-in-Some-clause-alike t c =
    let f = function_of c.args.rules.now in
    c.in-Some.ensures f (subst (λ items. All (IsKeptGoal f) items) (sym c.deref.ensures.value) c.requires.known)

-- nothing is known behind it
pub behind_laid-next_laid-requires : goal.behind_laid-next_laid-requires
behind_laid-next_laid-requires t c =
    let f = function_of c.args.rules.now in
    let kept = IsKeptGoal f in
    let falls = at_rule f (Deliver c.args.op c.args.progress.now) in (
      search (rules, falls),
      (c.requires, (refl, All-same kept c.new-inner.result.items [] c.new-inner.ensures.items (All-nil kept))),
    )

pub rest_laid-returns-clause-alike : goal.rest_laid-returns-clause-alike
rest_laid-returns-clause-alike t c =
    laid_known _ _ c.in_ok-built.built.now c.learnt.result c.in_ok-built.ensures c.learnt.ensures.same

-- and is known from now on
pub rest_laid-returns-clause-known : goal.rest_laid-returns-clause-known
rest_laid-returns-clause-known t c =
    IfOk-weaker c.learnt.result _ _
    (λ r told. told (function_of c.args.rules.now) c.requires.known c.in_ok-built.ensures) c.learnt.ensures.known
