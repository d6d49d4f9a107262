use Rattle.std.proofs.Common.{◌+◌, ◌*◌, ℕ, arith, refl, sym, get_or, ◌∙◌}
use Rattle.std.specs.Prelude.{pos}
use Rattle.std.proofs.lemmas.List.Elements.{All-get_or}
use Rattle.ot_model.specs.declared.op.Op.{Op}
use Rattle.ot_model.specs.declared.op.Op.TheVariants.{Ins}
use Rattle.fn_rules.specs.Functions.{Function}
use Rattle.fn_rules.specs.Conditions.{IsWithin}
use Rattle.fn_rules.specs.Rules.{function_of}
use Rattle.ot_integrate.specs.Conditions.{most_cells, IsExecuted}
use Rattle.ot_integrate.proofs.Forms.{through-next}
use Rattle.ot_integrate.proofs.order.form_behind.Goals as goal

-- what the loop's item is where there is none
abbrev no_op : Op
no_op = Ins (pos 0) 0 0

pub loop-other-init : goal.loop-other-init
loop-other-init c = record { form = refl; declared = c.requires.declared; near = c.requires.near }

-- the form so far and the next operation are declared and near
pub transform-requires : goal.transform-requires
transform-requires c =
    let i : ℕ = c.loop-other.other-index in
    let e : Op = get_or c.args.executed.now i no_op in
    let other : IsExecuted (function_of c.args.rules.now) e =
    All-get_or (IsExecuted (function_of c.args.rules.now)) c.args.executed.now i no_op
    c.loop-other-test.true c.requires.executed in
    record {
      a_declared = c.loop-other.invariant.declared;
      b_declared = other.declared;
      a_in_range = c.enabled_operations_are_near.ensures.wider (most_cells + 99 * i) 1099511627776 c.loop-other.form
          (omega arith) c.loop-other.invariant.near;
      b_in_range = c.enabled_operations_are_near.ensures.wider most_cells 1099511627776 e (omega arith) other.near;
    }

-- one operation more: what it makes of the form so far
pub loop-other-preserved : goal.loop-other-preserved
loop-other-preserved c =
    let f : Function = function_of c.args.rules.now in
    let i : ℕ = c.loop-other.other-index in
    let e : Op = get_or c.args.executed.now i no_op in
    let o : Op = c.loop-other.form in
    let p : Op = c.in_ok-form.form in
    let other : IsExecuted f e = All-get_or (IsExecuted f) c.args.executed.now i no_op
    c.loop-other-test.true c.requires.executed in
    let near : IsWithin (most_cells + 99 * i + 99) p =
    c.transform_stays_near.ensures f o e p (most_cells + 99 * i) c.rules_are_valid.ensures
    c.loop-other.invariant.near (c.enabled_operations_are_near.ensures.wider most_cells (most_cells + 99 * i) e
    (omega arith) other.near) (sym c.in_ok-form.ensures) in
    record {
      form = c.loop-other.invariant.form
          ∙ through-next f o p c.args.executed.now i no_op c.loop-other-test.true (sym c.in_ok-form.ensures);
      declared =
          (c.functions_keep_forms.ensures f).declared o e p (sym c.in_ok-form.ensures) c.loop-other.invariant.declared;
      near = c.enabled_operations_are_near.ensures.wider (most_cells + 99 * i + 99)
          (most_cells + 99 * (i + 1)) p (omega arith) near;
    }
