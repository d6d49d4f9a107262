use Rattle.std.proofs.Common.{◌≡◌, ◌+◌, ◌++◌, ◌∷◌, [], ℕ, List, Option, length, drop, get_or, arith, refl}
use Rattle.std.proofs.Common.{sym, ap, ◌∙◌, subst, append_assoc, length-append}
use Rattle.std.specs.Prelude.{IfSome}
use Rattle.std.specs.List.{flat_map}
use Rattle.std.proofs.lemmas.List.{append-nil}
use Rattle.std.proofs.lemmas.List.Elements.{All-push}
use Rattle.ot_model.specs.declared.cell.Cell.{Cell}
use Rattle.ot_model.specs.declared.op.Op.{Op}
use Rattle.ot_model.specs.Operations.{kind_of}
use Rattle.fn_rules.specs.Conditions.{IsIntegrable}
use Rattle.fn_rules.specs.Functions.{Function, IsForKind}
use Rattle.fn_rules.specs.Orders.{operation_at, through}
use Rattle.fn_rules.specs.Rules.{function_of}
use Rattle.ot_integrate.specs.Conditions.{most_cells, IsExecuted}
use Rattle.ot_integrate.proofs.Outcomes.{operation_at-fact}
use Rattle.ot_trace.specs.Orders.{OpTrace, HasEnded, end_of, op_trace, traces_from}
use Rattle.ot_trace.specs.Texts.{op_lines}
use Rattle.ot_trace.proofs.Ends.{WasExecuted, was_executed, traces-next, traces-last}
use Rattle.ot_trace.proofs.order.write_ops.Goals.{In_ok-form}
use Rattle.ot_trace.proofs.order.write_ops.Goals as goal

-- the number of the next operation
abbrev number_of : In_ok-form → ℕ
number_of c = get_or c.args.order.now c.loop-number.number-index 0

-- what becomes of it
abbrev trace_of : In_ok-form → OpTrace
trace_of c = op_trace (function_of c.args.rules.now) c.loop-number.current c.args.ops.now
    c.loop-number.executed.items (number_of c)

text_is : (c : In_ok-form)
    → c.next.new.out.items ≡ c.loop-number.out.items ++ op_lines (function_of c.args.rules.now) (trace_of c)
text_is c = rw (← c.deref.ensures.value) c.in_ok-form.ensures.text

ended_is :
    (c : In_ok-form)
    → HasEnded (end_of (function_of c.args.rules.now) c.loop-number.current
    (through (function_of c.args.rules.now) (operation_at c.args.ops.now (number_of c)) c.loop-number.executed.items))
    c.loop-number.current c.in_ok-form.field-0 c.next.new.doc
ended_is c = rw (← c.deref.ensures.value) c.in_ok-form.ensures.ended

-- the next operation is near
pub next-requires-clause-near : goal.next-requires-clause-near
next-requires-clause-near c =
    let f : Function = function_of c.args.rules.now in
    let n : ℕ = length c.args.doc.now in
    let o : Op = operation_at c.args.ops.now (get_or c.args.order.now c.loop-number.number-index 0) in
    let integrable : IsIntegrable f n o =
    operation_at-fact (IsIntegrable f n) c.args.ops.now
    (get_or c.args.order.now c.loop-number.number-index 0) c.requires.integrable
    (record { declared = refl; enabled = tt }) in
    c.enabled_operations_are_near.ensures.wider n most_cells o (omega arith)
    (c.enabled_operations_are_near.ensures.enabled n o integrable.enabled)

-- it was not executed: nothing follows
pub returns-in-None : goal.returns-in-None
returns-in-None c =
    let at : In_ok-form = (goal.at.returns-in-None c).In_ok-form in
    let f : Function = function_of c.args.rules.now in
    let out : List ℕ = c.loop-number.out.items in
    let none = subst (λ (done : Option Op). HasEnded (end_of f c.loop-number.current
    (through f (operation_at c.args.ops.now (number_of at)) c.loop-number.executed.items)) c.loop-number.current done
    c.next.new.doc) c.in-None.is (ended_is at) in
    text_is at
    ∙ sym (ap (λ (line : List ℕ). out ++ line) (append-nil (op_lines f (trace_of at))))
    ∙ sym (ap (λ (ts : List OpTrace). out ++ flat_map (op_lines f) ts)
    (traces-last f c.loop-number.current c.args.ops.now c.loop-number.executed.items c.args.order.now
    c.loop-number.number-index c.loop-number-test.true c.next.new.doc none))
    ∙ c.loop-number.invariant.text

-- it was executed: the others follow
pub loop-number-preserved : goal.loop-number-preserved
loop-number-preserved c =
    let at : In_ok-form = (goal.at.loop-number-preserved c).In_ok-form in
    let f : Function = function_of c.args.rules.now in
    let ops : List Op = c.args.ops.now in
    let order : List ℕ = c.args.order.now in
    let i : ℕ = c.loop-number.number-index in
    let out : List ℕ = c.loop-number.out.items in
    let current : List Cell = c.loop-number.current in
    let executed : List Op = c.loop-number.executed.items in
    let new : List Cell = c.next.new.doc in
    let p : Op = c.in-Some.form in
    let form : Option Op = through f (operation_at ops (number_of at)) executed in
    let was : WasExecuted f current form p new =
    was_executed f current form p new
    (subst (λ (done : Option Op). HasEnded (end_of f current form) current done new) c.in-Some.is (ended_is at)) in
    let pushed : c.push.new.self.items ≡ executed ++ p ∷ [] = c.in_ok-push-in-Some.ensures.items in
    let rest : List ℕ = flat_map (op_lines f) (traces_from f new ops (executed ++ p ∷ []) (drop (i + 1) order)) in
    let n : ℕ = length current in
    let one_more : IsExecuted f p = record {
      declared = subst (λ (done : Option Op). IfSome done (λ q. IsForKind f.head (kind_of q))) c.in-Some.is
          c.in_ok-form.ensures.declared;
      near = c.enabled_operations_are_near.ensures.wider n most_cells p
          (omega (arith, c.loop-number.invariant.cells, c.loop-number-test.true, c.requires.places))
          (c.enabled_operations_are_near.ensures.enabled n p
          ((c.tests_decide_their_facts.ensures.enabled n p).0 was.enabled));
    } in
    record {
      text = rw pushed
          (ap (λ (all : List ℕ). all ++ rest) (text_is at)
          ∙ append_assoc out (op_lines f (trace_of at)) rest
          ∙ sym (ap (λ (ts : List OpTrace). out ++ flat_map (op_lines f) ts)
          (traces-next f current ops executed order i c.loop-number-test.true p new was.end))
          ∙ c.loop-number.invariant.text);
      executed = rw pushed (All-push (IsExecuted f) executed p c.loop-number.invariant.executed one_more);
      count = rw (pushed, length-append) (omega (arith, c.loop-number.invariant.count));
      cells = rw was.document (omega (
        arith,
        c.documents_grow_by_one_cell_at_most.ensures f.head.mode p current,
        c.loop-number.invariant.cells,
      ));
    }
