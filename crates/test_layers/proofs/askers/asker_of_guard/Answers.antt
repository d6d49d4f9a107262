use Rattle.std.proofs.Common.{◌≤◌, sym, subst, arith}
use Rattle.std.proofs.lemmas.Int.{ints}
use Rattle.ot_model.specs.declared.op.Kind.TheVariants.{Del}
use Rattle.fn_rules.specs.declared.function.ObName.TheVariants.{Pair}
use Rattle.fn_rules.specs.Rules.{function_of}
use Rattle.ot_questions.specs.declared.name.Who.TheVariants.{A, B}
use Rattle.ot_questions.specs.declared.place.SymOp.{SymOp}
use Rattle.ot_questions.specs.declared.why.Why.TheVariants.{Undefined}
use Rattle.ot_questions.specs.Nears.{IsNearOp}
use Rattle.ot_questions.specs.Places.{sym_op}
use Rattle.ot_terms.specs.Belonging.{HasNames}
use Rattle.ot_terms.specs.Forms.{FormTree, form_tree}
use Rattle.ot_rewrite.specs.Splits.{comparisons_left}
use Rattle.test_layers.proofs.GuardGoals.{guard_goal}
use Rattle.test_layers.proofs.askers.asker_of_guard.Goals as goal

-- the goal that is made of the guard is a node of the obligation
pub over-requires : goal.over-requires
over-requires c =
    let f = function_of c.args.rules.now in
    let ob = Pair Del Del in
    let first_names : HasNames 9 (sym_op Del A) = (omega arith, omega arith) in
    let second_names : HasNames 9 (sym_op Del B) = (omega arith, omega arith) in
    let first_near : IsNearOp 99 (sym_op Del A) = record { low = omega (arith, ints); high = omega (arith, ints) } in
    let second_near : IsNearOp 99 (sym_op Del B) = record { low = omega (arith, ints); high = omega (arith, ints) } in
    let places =
    c.in_ok-form.ensures.places 9 (omega arith)
    (subst (λ (o : SymOp). HasNames 9 o) (sym c.named-a.ensures.value) first_names)
    (subst (λ (o : SymOp). HasNames 9 o) (sym c.named-b.ensures.value) second_names)
    (subst (λ (o : SymOp). IsNearOp 99 o) (sym c.named-a.ensures.value) first_near)
    (subst (λ (o : SymOp). IsNearOp 99 o) (sym c.named-b.ensures.value) second_near) in
    let short : comparisons_left (form_tree c.in_ok-form.form.now) ≤ 99 =
    subst (λ (t : FormTree). comparisons_left t ≤ 99) (sym c.in_ok-form.ensures.tree) (omega arith) in
    guard_goal c.conditions_are_nodes.ensures.conditions f ob _ Undefined _ _ _
    c.in_ok-on_yes.ensures c.in_ok-on_no.ensures
    c.in_ok-goal.ensures (c.conditions_are_nodes.ensures.ends f ob Undefined c.requires) places short
