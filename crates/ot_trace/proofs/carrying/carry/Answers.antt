use Rattle.std.proofs.Common.{◌≡◌, ◌+◌, ◌*◌, ◌∷◌, ◌++◌, [], ℕ, List, Some, drop, arith, refl, sym, get_or, ◌∙◌, ap}
use Rattle.std.proofs.Common.{append_assoc}
use Rattle.std.specs.Prelude.{pos}
use Rattle.std.proofs.lemmas.List.Elements.{All-get_or}
use Rattle.ot_model.specs.declared.op.Op.{Op}
use Rattle.ot_model.specs.declared.op.Op.TheVariants.{Ins}
use Rattle.fn_rules.specs.Functions.{Function}
use Rattle.fn_rules.specs.Conditions.{IsWithin}
use Rattle.fn_rules.specs.Rules.{function_of}
use Rattle.ot_integrate.specs.Conditions.{most_cells, IsExecuted}
use Rattle.fn_rules.specs.Transformation.{transform_of}
use Rattle.ot_ways.specs.declared.one_step.Step.{Step}
use Rattle.ot_ways.specs.Steps.{step_of}
use Rattle.ot_trace.specs.Steps.{steps_over}
use Rattle.ot_trace.proofs.StepsOver.{steps-next, through-next}
use Rattle.ot_trace.proofs.carrying.carry.Goals as goal

-- what the loop's item is where there is none
abbrev no_op : Op
no_op = Ins (pos 0) 0 0

pub loop-other-init : goal.loop-other-init
loop-other-init c = record {
  told = rw c.new-steps.ensures refl;
  form = refl;
  declared = c.requires.declared;
  near = c.requires.near;
}

-- the form so far and the next operation are declared and near
pub step-one-requires : goal.step-one-requires
step-one-requires c =
    let i : ℕ = c.loop-other.other-index in
    let e : Op = get_or c.args.executed.now i no_op in
    let other : IsExecuted (function_of c.args.rules.now) e =
    All-get_or (IsExecuted (function_of c.args.rules.now)) c.args.executed.now i no_op
    c.loop-other-test.true c.requires.executed in
    record {
      a_declared = c.loop-other.invariant.declared;
      b_declared = other.declared;
      a_in_range = c.enabled_operations_are_near.ensures.wider (most_cells + 99 * i) 1099511627776 c.loop-other.form
          (omega arith) c.loop-other.invariant.near;
      b_in_range = c.enabled_operations_are_near.ensures.wider most_cells 1099511627776 e (omega arith) other.near;
    }

-- one operation more: what it makes of the form so far
pub loop-other-preserved : goal.loop-other-preserved
loop-other-preserved c =
    let f : Function = function_of c.args.rules.now in
    let executed : List Op = c.args.executed.now in
    let i : ℕ = c.loop-other.other-index in
    let e : Op = get_or executed i no_op in
    let o : Op = c.loop-other.form in
    let p : Op = c.in-Some.next in
    let steps : List Step = c.loop-other.steps in
    let rest : List Step = steps_over f p (drop (i + 1) executed) in
    let inside = c.loop-other-test.true in
    let one : c.step-one.result ≡ step_of f o e = c.step-one.ensures in
    let is : transform_of f o e ≡ Some p = sym (ap (λ (s : Step). s.result) one) ∙ c.in-Some.is in
    let other : IsExecuted f e = All-get_or (IsExecuted f) executed i no_op inside c.requires.executed in
    let near : IsWithin (most_cells + 99 * i + 99) p =
    c.transform_stays_near.ensures f o e p (most_cells + 99 * i) c.rules_are_valid.ensures
    c.loop-other.invariant.near (c.enabled_operations_are_near.ensures.wider most_cells (most_cells + 99 * i) e
    (omega arith) other.near) is in
    let pushed : c.push.new.self ≡ steps ++ step_of f o e ∷ [] =
    c.in_ok-push.ensures.ok ∙ ap (λ (s : Step). steps ++ s ∷ []) one in
    record {
      told = c.loop-other.invariant.told
          ∙ ap (λ (l : List Step). steps ++ l) (steps-next f o executed i no_op inside p is)
          ∙ sym (ap (λ (all : List Step). all ++ rest) pushed ∙ append_assoc steps (step_of f o e ∷ []) rest);
      form = c.loop-other.invariant.form ∙ through-next f o executed i no_op inside p is;
      declared = (c.functions_keep_forms.ensures f).declared o e p is c.loop-other.invariant.declared;
      near = c.enabled_operations_are_near.ensures.wider (most_cells + 99 * i + 99)
          (most_cells + 99 * (i + 1)) p (omega arith) near;
    }
