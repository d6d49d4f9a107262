use Rattle.std.proofs.Common.{◌≡◌, ℕ, ◌+◌, ◌-◌, ◌<◌, List, length, take, drop, get_or, Option, sym, ap, ◌∙◌}
use Rattle.std.specs.Option.{option_or}
use Rattle.std.proofs.lemmas.List.{drop_all, drop_more, take_rest}
use Rattle.ot_model.specs.declared.op.Op.{Op}
use Rattle.fn_rules.specs.Functions.{Function}
use Rattle.fn_rules.specs.Rules.{function_of}
use Rattle.case_json.specs.declared.fault.CaseFault.{CaseFault}
use Rattle.case_json.specs.Tests.{first_fault, pair_fault, pairs_fault}
use Rattle.case_json.proofs.Tested.{behind, here}
use Rattle.case_json.proofs.first_fault.fault_of_pairs.Goals as goal

-- the next operation is tested with those behind it
at_member :
    (f : Function) (i : ℕ) (ops : List Op) (d : Op) (whole found : Option CaseFault) → i < length ops
    → whole ≡ pairs_fault f i (drop i ops)
    → found ≡ first_fault (pair_fault f i (get_or ops i d)) (i + 1) (take (length ops - (i + 1)) (drop (i + 1) ops))
    → whole ≡ option_or found (pairs_fault f (i + 1) (drop (i + 1) ops))
at_member f i ops d whole found inside so_far is =
    so_far ∙ ap (λ (l : List Op). pairs_fault f i l) (drop_more ops i d inside)
    ∙ ap (λ (fault : Option CaseFault). option_or fault (pairs_fault f (i + 1) (drop (i + 1) ops)))
    (sym (is ∙ ap (λ (l : List Op). first_fault (pair_fault f i (get_or ops i d)) (i + 1) l) (take_rest ops (i + 1))))

pub returns-then-is_some : goal.returns-then-is_some
returns-then-is_some c =
    let f = function_of c.args.rules.now in
    let fault = c.fault_behind-fault.result in
    sym (at_member f c.loop-i.i c.args.ops.now _ (pairs_fault f 0 c.args.ops.now) fault c.loop-i-test.true
    c.loop-i.invariant c.fault_behind-fault.ensures ∙ here fault _ (sym c.is_some.ensures ∙ c.if-is_some.true))

pub loop-i-preserved : goal.loop-i-preserved
loop-i-preserved c =
    let f = function_of c.args.rules.now in
    let fault = c.fault_behind-fault.result in
    at_member f c.loop-i.i c.args.ops.now _ (pairs_fault f 0 c.args.ops.now) fault c.loop-i-test.true c.loop-i.invariant
    c.fault_behind-fault.ensures ∙ behind fault _ (sym c.is_some.ensures ∙ c.if-is_some.false)

pub returns : goal.returns
returns c =
    let f = function_of c.args.rules.now in
    sym (c.loop-i.invariant
    ∙ ap (λ (l : List Op). pairs_fault f c.loop-i.i l) (drop_all c.loop-i.i c.args.ops.now c.loop-i-test.false))
