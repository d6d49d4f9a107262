use Rattle.std.proofs.Common.{◌≡◌, ◌+◌, ◌*◌, ◌<◌, ◌||◌, ℕ, Some, false, rules, refl, ap, sym, subst, ◌∙◌, List, arith}
use Rattle.std.specs.List.{All}
use Rattle.std.proofs.lemmas.Result.{IfOk-weaker}
use Rattle.fn_rules.specs.Formulas.{formula_of}
use Rattle.fn_rules.specs.Functions.{Function}
use Rattle.fn_rules.specs.Rules.{function_of}
use Rattle.ot_terms.specs.Belonging.{IsGoalOf}
use Rattle.ot_terms.specs.Cells.{cell_tree}
use Rattle.ot_terms.specs.Forms.{form_tree}
use Rattle.ot_terms.specs.declared.goal.Goal.{Goal}
use Rattle.ot_terms.specs.Goals.{GoalTree, goal_tree, laid_form, Choose, Deliver, If, Same}
use Rattle.ot_terms.specs.Placing.{guard_form}
use Rattle.ot_terms.specs.Weights.{goal_weight}
use Rattle.ot_rewrite.specs.Steps.{front_tree, trial_tree}
use Rattle.ot_paths.proofs.LaidForms.{low_offsets_of, part_of_yes, part_of_no}
use Rattle.start_laws.specs.Settled.{is_settled, StandsMarked}
use Rattle.ot_starts.specs.declared.kept.Kept.{Kept}
use Rattle.ot_starts.specs.Kept.{IsKeptEnd}
use Rattle.ot_starts.proofs.LaidMarks.{yes_falls, no_falls, if_laid}
use Rattle.ot_starts.proofs.SettledGoals.{settled_on}
use Rattle.ot_starts.proofs.Trials.{not_begun_there, open_there}
use Rattle.ot_starts.proofs.laying.+laid.Goals as goal

-- the measures: of a call that stands deeper, at the same goal or what stands at
-- its front, and of a goal that weighs less
deeper : (f : Function) (level above : ℕ) (old front : GoalTree) → old ≡ front → level < above
    → level + 4 * goal_weight f front < above + 4 * goal_weight f old
deeper f level above old front same is =
    let weighs : goal_weight f old ≡ goal_weight f front = ap (goal_weight f) same in omega arith

lighter : (level above less weight : ℕ) → level < above + 4 → less < weight → level + 4 * less < above + 4 * weight
lighter level above less weight is falls = omega arith

-- what stands at the front is of the obligation, and is laid out
pub laid-form_laid-requires : goal.laid-form_laid-requires
laid-form_laid-requires t c =
    let f = function_of c.args.rules.now in
    let same = sym c.of.ensures ∙ ap front_tree c.in-If.is in
    let front = If (form_tree c.in-If.form) (goal_tree c.in-If.yes.now) (goal_tree c.in-If.no.now) in
    let falls = deeper f 3 4 (goal_tree c.args.goal.now) front same (omega arith) in (
      search (rules, falls),
      ((c.requires.goal.0, subst (IsGoalOf f c.requires.goal.0) same c.requires.goal.1), c.requires.kept),
    )

pub laid-cases_laid-requires : goal.laid-cases_laid-requires
laid-cases_laid-requires t c =
    let f = function_of c.args.rules.now in
    let same = sym c.of.ensures ∙ ap front_tree c.in-Choose.is in
    let front = Choose c.in-Choose.case c.in-Choose.ops.now.a c.in-Choose.ops.now.b c.in-Choose.progress.now in
    let falls = deeper f 3 4 (goal_tree c.args.goal.now) front same (omega arith) in (
      search (rules, falls),
      (
        (c.requires.goal.0, subst (IsGoalOf f c.requires.goal.0) same c.requires.goal.1),
        (
          not_begun_there c.is_begun.result (goal_tree c.args.goal.now) front same c.is_begun.ensures
              c.if-is_begun.false c.rules_keep_starts.ensures.begun,
          c.requires.kept,
        ),
      ),
    )

pub laid-end_laid-requires : goal.laid-end_laid-requires
laid-end_laid-requires t c =
    let f = function_of c.args.rules.now in
    let old = goal_tree c.args.goal.now in (
      search (rules, deeper f 3 4 old old refl (omega arith)),
      (
        c.requires.goal,
        (
          open_there c.is_begun.result old (Deliver c.in-Deliver.op c.in-Deliver.progress.now)
              (sym c.of.ensures ∙ ap front_tree c.in-Deliver.is) refl c.is_begun.ensures c.if-is_begun.false
              c.rules_keep_starts.ensures.begun,
          c.requires.kept,
        ),
      ),
    )

pub laid-next_laid-requires : goal.laid-next_laid-requires
laid-next_laid-requires t c =
    let f = function_of c.args.rules.now in
    let old = goal_tree c.args.goal.now in (
      search (rules, deeper f 2 4 old old refl (omega arith)),
      (
        c.requires.goal,
        (
          open_there c.is_begun.result old (Same (cell_tree c.in-Same.left) (cell_tree c.in-Same.right))
              (sym c.of.ensures ∙ ap front_tree c.in-Same.is) refl c.is_begun.ensures c.if-is_begun.false
              c.rules_keep_starts.ensures.begun,
          c.requires.kept,
        ),
      ),
    )

pub laid-returns-in-If-clause-stands : goal.laid-returns-in-If-clause-stands
laid-returns-in-If-clause-stands t c =
    rw (sym c.of.ensures ∙ ap front_tree c.in-If.is) c.form_laid.ensures.stands

pub laid-returns-in-Choose-clause-stands : goal.laid-returns-in-Choose-clause-stands
laid-returns-in-Choose-clause-stands t c =
    rw (sym c.of.ensures ∙ ap front_tree c.in-Choose.is) c.cases_laid.ensures.stands

-- the goal after one rule is lighter, and of the obligation
pub behind_laid-laid-requires : goal.behind_laid-laid-requires
behind_laid-laid-requires t c =
    let f = function_of c.args.rules.now in
    let falls = lighter 4 1 (goal_weight f (goal_tree c.in_ok-next.next.now))
    (goal_weight f (goal_tree c.args.goal.now)) (omega arith) c.in_ok-next.ensures.lighter in (
      search (rules, falls),
      ((c.requires.goal.0, c.in_ok-next.ensures.alike.belongs c.requires.goal.0 c.requires.goal.1), c.requires.kept),
    )

pub behind_laid-returns-clause-stands : goal.behind_laid-returns-clause-stands
behind_laid-returns-clause-stands t c =
    let f = function_of c.args.rules.now in
    let next = goal_tree c.in_ok-next.next.now in
    IfOk-weaker c.laid.result (λ r. StandsMarked f next (goal_tree r.now))
    (λ r. StandsMarked f (goal_tree c.args.goal.now) (goal_tree r.now))
    (λ r. settled_on f (goal_tree c.args.goal.now) next (goal_tree r.now) c.in_ok-next.ensures.alike)
    c.laid.ensures.stands

-- the goal in the arena is the same
pub next_laid-behind_laid-requires : goal.next_laid-behind_laid-requires
next_laid-behind_laid-requires t c =
    let f = function_of c.args.rules.now in
    let same = ap goal_tree (sym c.in_ok-at.ensures) in (
      search (rules, deeper f 1 2 (goal_tree c.args.goal.now) (goal_tree c.in_ok-at.at.now) same (omega arith)),
      (
        (c.requires.goal.0, subst (IsGoalOf f c.requires.goal.0) same c.requires.goal.1),
        (subst (λ (g : GoalTree). is_settled g ≡ false) same c.requires.open, c.requires.kept),
      ),
    )

pub next_laid-returns-clause-stands : goal.next_laid-returns-clause-stands
next_laid-returns-clause-stands t c = rw (sym c.in_ok-at.ensures) c.behind_laid.ensures.stands

pub end_built-behind_laid-requires : goal.end_built-behind_laid-requires
end_built-behind_laid-requires t c =
    let f = function_of c.args.rules.now in
    let same = ap goal_tree (sym c.in_ok-at.ensures) in (
      search (rules, deeper f 1 2 (goal_tree c.args.goal.now) (goal_tree c.in_ok-at.at.now) same (omega arith)),
      (
        (c.requires.goal.0, subst (IsGoalOf f c.requires.goal.0) same c.requires.goal.1),
        (subst (λ (g : GoalTree). is_settled g ≡ false) same c.requires.open, c.requires.kept),
      ),
    )

-- what is built stands for the goal, and is kept from now on
pub end_built-returns-clause-stands : goal.end_built-returns-clause-stands
end_built-returns-clause-stands t c =
    let Stands = λ (g : Goal). StandsMarked (function_of c.args.rules.now) (goal_tree c.args.goal.now) (goal_tree g) in
    IfOk-weaker c.learnt.result (λ r. r.now ≡ c.in_ok-built.built.now) (λ r. Stands r.now)
    (λ r same. subst Stands (sym same)
    (subst (λ (g : Goal). StandsMarked (function_of c.args.rules.now) (goal_tree g) (goal_tree c.in_ok-built.built.now))
    c.in_ok-at.ensures c.in_ok-built.ensures.stands)) c.learnt.ensures.same

pub end_built-returns-clause-kept : goal.end_built-returns-clause-kept
end_built-returns-clause-kept t c =
    c.learnt.ensures.end (function_of c.args.rules.now) c.behind_laid.ensures.kept c.in_ok-built.ensures.stands

-- what is kept of the same goal stands for it
pub end_laid-returns-in-Some-clause-stands : goal.end_laid-returns-in-Some-clause-stands
end_laid-returns-in-Some-clause-stands t c =
    c.in-Some.ensures.end (function_of c.args.rules.now) c.requires.kept

-- two goals by a form, or by the guard of a case, which are lighter and of the obligation
pub form_laid-laid-requires : goal.form_laid-laid-requires
form_laid-laid-requires t c =
    let f = function_of c.args.rules.now in
    let g = form_tree c.args.form.now in
    let yes = goal_tree c.args.yes.now in
    let no = goal_tree c.args.no.now in
    let falls = lighter 4 3 (goal_weight f no) (goal_weight f (If g yes no)) (omega arith) (no_falls f g yes no) in (
      search (rules, falls),
      ((c.requires.goal.0, part_of_no f c.requires.goal.0 g yes no c.requires.goal.1), c.requires.kept),
    )

pub form_laid-laid-requires-2 : goal.form_laid-laid-requires-2
form_laid-laid-requires-2 t c =
    let f = function_of c.args.rules.now in
    let g = form_tree c.args.form.now in
    let yes = goal_tree c.args.yes.now in
    let no = goal_tree c.args.no.now in
    let falls = lighter 4 3 (goal_weight f yes) (goal_weight f (If g yes no)) (omega arith) (yes_falls f g yes no) in (
      search (rules, falls),
      ((c.requires.goal.0, part_of_yes f c.requires.goal.0 g yes no c.requires.goal.1), c.laid.ensures.kept),
    )

pub form_laid-by_form-requires : goal.form_laid-by_form-requires
form_laid-by_form-requires t c =
    low_offsets_of (function_of c.args.rules.now) c.requires.goal.0 (form_tree c.args.form.now)
    (goal_tree c.args.yes.now) (goal_tree c.args.no.now) c.requires.goal.1

pub form_laid-returns-clause-stands : goal.form_laid-returns-clause-stands
form_laid-returns-clause-stands t c =
    let f = function_of c.args.rules.now in
    let g = form_tree c.args.form.now in
    let yes = goal_tree c.args.yes.now in
    let no = goal_tree c.args.no.now in
    let on_yes = goal_tree c.in_ok-on_yes.on_yes.now in
    let on_no = goal_tree c.in_ok-on_no.on_no.now in
    IfOk-weaker c.by_form.result (λ r. goal_tree r.now ≡ laid_form g on_yes on_no)
    (λ r. StandsMarked f (If g yes no) (goal_tree r.now))
    (λ r. if_laid f g yes no on_yes on_no (goal_tree r.now) c.in_ok-on_yes.ensures.stands c.in_ok-on_no.ensures.stands)
    c.by_form.ensures

pub tried_laid-laid-requires : goal.tried_laid-laid-requires
tried_laid-laid-requires t c =
    let f = function_of c.args.rules.now in
    let g = guard_form (formula_of c.args.tried.now.guard.now) c.args.ops.now.a c.args.ops.now.b in
    let yes = goal_tree c.args.tried.now.yes in
    let no = goal_tree c.args.tried.now.no in
    let falls = lighter 4 3 (goal_weight f no) (goal_weight f (If g yes no)) (omega arith) (no_falls f g yes no) in (
      search (rules, falls),
      ((c.requires.goal.0, part_of_no f c.requires.goal.0 g yes no c.requires.goal.1), c.requires.kept),
    )

pub tried_laid-laid-requires-2 : goal.tried_laid-laid-requires-2
tried_laid-laid-requires-2 t c =
    let f = function_of c.args.rules.now in
    let g = guard_form (formula_of c.args.tried.now.guard.now) c.args.ops.now.a c.args.ops.now.b in
    let yes = goal_tree c.args.tried.now.yes in
    let no = goal_tree c.args.tried.now.no in
    let falls = lighter 4 3 (goal_weight f yes) (goal_weight f (If g yes no)) (omega arith) (yes_falls f g yes no) in (
      search (rules, falls),
      ((c.requires.goal.0, part_of_yes f c.requires.goal.0 g yes no c.requires.goal.1), c.laid.ensures.kept),
    )

pub tried_laid-returns-clause-stands : goal.tried_laid-returns-clause-stands
tried_laid-returns-clause-stands t c =
    let f = function_of c.args.rules.now in
    let g = guard_form (formula_of c.args.tried.now.guard.now) c.args.ops.now.a c.args.ops.now.b in
    let yes = goal_tree c.args.tried.now.yes in
    let no = goal_tree c.args.tried.now.no in
    let on_yes = goal_tree c.in_ok-on_yes.on_yes.now in
    let on_no = goal_tree c.in_ok-on_no.on_no.now in
    IfOk-weaker c.by_guard.result (λ r. goal_tree r.now ≡ laid_form g on_yes on_no)
    (λ r. StandsMarked f (If g yes no) (goal_tree r.now))
    (λ r. if_laid f g yes no on_yes on_no (goal_tree r.now) c.in_ok-on_yes.ensures.stands c.in_ok-on_no.ensures.stands)
    c.by_guard.ensures

-- a case is tried, which is lighter, or none is
pub cases_laid-tried_laid-requires : goal.cases_laid-tried_laid-requires
cases_laid-tried_laid-requires t c =
    let f = function_of c.args.rules.now in
    let a = c.args.ops.now.a in
    let b = c.args.ops.now.b in
    let tried = c.in-Some.ensures in
    let falls = lighter 3 3 (goal_weight f (trial_tree a b (Some c.in-Some.tried)))
    (goal_weight f (Choose c.args.case a b c.args.plan.now))
    (omega arith) tried.lighter in (
      search (rules, falls),
      (
        (c.requires.goal.0, tried.stands.belongs c.requires.goal.0 c.requires.goal.1),
        (tried.a_near, (tried.b_near, (tried.atoms_near, c.requires.kept))),
      ),
    )

pub cases_laid-returns-in-Some-clause-stands : goal.cases_laid-returns-in-Some-clause-stands
cases_laid-returns-in-Some-clause-stands t c =
    let f = function_of c.args.rules.now in
    let old = Choose c.args.case c.args.ops.now.a c.args.ops.now.b c.args.plan.now in
    let next = trial_tree c.args.ops.now.a c.args.ops.now.b (Some c.in-Some.tried) in
    IfOk-weaker c.tried_laid.result (λ r. StandsMarked f next (goal_tree r.now))
    (λ r. StandsMarked f old (goal_tree r.now))
    (λ r. settled_on f old next (goal_tree r.now) c.in-Some.ensures.stands) c.tried_laid.ensures.stands

pub cases_laid-next_laid-requires : goal.cases_laid-next_laid-requires
cases_laid-next_laid-requires t c =
    let f = function_of c.args.rules.now in
    let old = Choose c.args.case c.args.ops.now.a c.args.ops.now.b c.args.plan.now in (
      search (rules, deeper f 2 3 old old refl (omega arith)),
      (c.requires.goal, (ap (λ begun. begun || false) c.requires.later, c.requires.kept)),
    )
