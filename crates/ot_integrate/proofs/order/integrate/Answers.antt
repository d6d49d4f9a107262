use Rattle.std.proofs.Common.{◌≡◌, ◌++◌, ◌∷◌, [], ℕ, true, List, length, get_or, Some, None, Err, arith, refl, sym, ap}
use Rattle.std.proofs.Common.{◌∙◌, length-append}
use Rattle.std.proofs.lemmas.Bool.{false_from_ne_true}
use Rattle.std.proofs.lemmas.List.Elements.{All-nil, All-push}
use Rattle.ot_model.specs.declared.op.Op.{Op}
use Rattle.ot_model.specs.Effect.{is_enabled}
use Rattle.fn_rules.specs.declared.function.Head.{Head}
use Rattle.fn_rules.specs.Functions.{Function}
use Rattle.fn_rules.specs.Rules.{function_of}
use Rattle.fn_rules.specs.Conditions.{IsIntegrable}
use Rattle.fn_rules.specs.Orders.{Document, StuckAt, through, operation_at, integrated}
use Rattle.ot_integrate.specs.Conditions.{most_cells, IsExecuted}
use Rattle.ot_integrate.proofs.OneOutcome.{EndsAsListed-from_law}
use Rattle.ot_integrate.proofs.Outcomes.{operation_at-fact}
use Rattle.ot_integrate.proofs.Outcomes.{outcome-without_form, outcome-refused, outcome-executed, outcome-end}
use Rattle.ot_integrate.proofs.order.integrate.Goals as goal

pub loop-place-init : goal.loop-place-init
loop-place-init c = record {
  outcome = rw (c.in_ok-current.ensures, c.new-executed.ensures.items) refl;
  executed = rw c.new-executed.ensures.items (All-nil (IsExecuted (function_of c.args.rules.now)));
  mode = ap (λ (head : Head). head.mode) c.head-mode.ensures.head;
  count = rw c.new-executed.ensures.items (omega arith);
  cells = rw c.in_ok-current.ensures c.requires.cells;
}

-- the next operation is declared and near, and few were executed
pub form_behind-requires : goal.form_behind-requires
form_behind-requires c =
    let f : Function = function_of c.args.rules.now in
    let n : ℕ = length c.args.doc.now in
    let o : Op = operation_at c.args.ops.now (get_or c.args.order.now c.loop-place.place 0) in
    let integrable : IsIntegrable f n o =
    operation_at-fact (IsIntegrable f n) c.args.ops.now
    (get_or c.args.order.now c.loop-place.place 0) c.requires.integrable
    (record { declared = refl; enabled = tt }) in
    record {
      declared = rw c.named.ensures integrable.declared;
      near = rw c.named.ensures (c.enabled_operations_are_near.ensures.wider n most_cells o (omega arith)
          (c.enabled_operations_are_near.ensures.enabled n o integrable.enabled));
      executed = rw c.deref.ensures.value c.loop-place.invariant.executed;
      few = rw c.deref.ensures.value (omega arith);
    }

-- there is no form: the order is stuck here
pub returns-in_default : goal.returns-in_default
returns-in_default c =
    let f : Function = function_of c.args.rules.now in
    let ops : List Op = c.args.ops.now in
    let order : List ℕ = c.args.order.now in
    let place : ℕ = c.loop-place.place in
    let executed : List Op = c.loop-place.executed.items in
    let none : through f (operation_at ops (get_or order place 0)) executed ≡ None =
    rw (← c.named.ensures, ← c.deref.ensures.value) (sym c.in_default.ensures.form) in
    let is : StuckAt place ≡ integrated f c.args.doc.now ops order =
    sym (c.loop-place.invariant.outcome
    ∙ outcome-without_form f c.loop-place.current executed ops order place c.loop-place-test.true none) in
    record {
      outcome = is;
      one_document = EndsAsListed-from_law c.both_properties_give_one_outcome.ensures f c.args.doc.now ops
          order (StuckAt place) is;
    }

-- the form is not enabled: the order is stuck here
pub returns-in-Err-NotEnabled : goal.returns-in-Err-NotEnabled
returns-in-Err-NotEnabled c =
    let f : Function = function_of c.args.rules.now in
    let ops : List Op = c.args.ops.now in
    let order : List ℕ = c.args.order.now in
    let place : ℕ = c.loop-place.place in
    let executed : List Op = c.loop-place.executed.items in
    let p : Op = c.in-Some.form in
    let form : through f (operation_at ops (get_or order place 0)) executed ≡ Some p =
    rw (← c.named.ensures, ← c.deref.ensures.value) (sym c.in-Some.ensures.form) in
    let n : ℕ = length c.loop-place.current in
    let refused = false_from_ne_true (is_enabled p n)
    (λ is. c.in-Err-NotEnabled.ensures.not_enabled.0 (ap Err c.in-Err-NotEnabled.field-0-is)
    ((c.tests_decide_their_facts.ensures.enabled n p).0 is)) in
    let is : StuckAt place ≡ integrated f c.args.doc.now ops order =
    sym (c.loop-place.invariant.outcome
    ∙ outcome-refused f c.loop-place.current executed ops order place c.loop-place-test.true p form refused) in
    record {
      outcome = is;
      one_document = EndsAsListed-from_law c.both_properties_give_one_outcome.ensures f c.args.doc.now ops
          order (StuckAt place) is;
    }

-- one operation more was executed
pub loop-place-preserved : goal.loop-place-preserved
loop-place-preserved c =
    let f : Function = function_of c.args.rules.now in
    let ops : List Op = c.args.ops.now in
    let order : List ℕ = c.args.order.now in
    let place : ℕ = c.loop-place.place in
    let executed : List Op = c.loop-place.executed.items in
    let n : ℕ = length c.loop-place.current in
    let p : Op = c.in-Some.form in
    let form : through f (operation_at ops (get_or order place 0)) executed ≡ Some p =
    rw (← c.named.ensures, ← c.deref.ensures.value) (sym c.in-Some.ensures.form) in
    let enabled : is_enabled p n ≡ true =
    (c.tests_decide_their_facts.ensures.enabled n p).1 c.in-Ok.ensures.was_enabled in
    let pushed : c.push.new.self.items ≡ executed ++ p ∷ [] = c.in_ok-push-in-Ok.ensures.items in
    let one_more : IsExecuted f p = record {
      declared = c.in-Some.ensures.declared;
      near = c.enabled_operations_are_near.ensures.wider n most_cells p (omega arith)
          (c.enabled_operations_are_near.ensures.enabled n p c.in-Ok.ensures.was_enabled);
    } in
    record {
      outcome = c.loop-place.invariant.outcome
          ∙ rw (c.in-Ok.ensures.ok, pushed, c.loop-place.invariant.mode)
          (outcome-executed f c.loop-place.current executed ops order place c.loop-place-test.true p form enabled);
      executed = rw pushed (All-push (IsExecuted f) executed p c.loop-place.invariant.executed one_more);
      mode = c.loop-place.invariant.mode;
      count = rw (pushed, length-append) (omega arith);
      cells = rw c.in-Ok.ensures.ok
          (omega (arith, c.documents_grow_by_one_cell_at_most.ensures c.head-mode.result.mode p c.loop-place.current));
    }

-- all were executed: the outcome is the document
pub returns : goal.returns
returns c =
    let f : Function = function_of c.args.rules.now in
    let current = c.loop-place.current in
    let is : Document current ≡ integrated f c.args.doc.now c.args.ops.now c.args.order.now =
    sym (c.loop-place.invariant.outcome
    ∙ outcome-end f current c.loop-place.executed.items c.args.ops.now c.args.order.now c.loop-place.place
    c.loop-place-test.false) in
    record {
      outcome = is;
      one_document = EndsAsListed-from_law c.both_properties_give_one_outcome.ensures f c.args.doc.now c.args.ops.now
          c.args.order.now (Document current) is;
    }
