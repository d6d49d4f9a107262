use Rattle.std.proofs.Common.{◌++◌, List, ℕ, ap, ◌∙◌, append_assoc}
use Rattle.fn_rules.specs.Functions.{Function}
use Rattle.fn_rules.specs.Rules.{function_of}
use Rattle.ot_hub.specs.declared.crossing.Crossing.{Crossing}
use Rattle.ot_ways.specs.declared.one_step.Step.{Step}
use Rattle.ot_trace.specs.HubTexts.{back_line}
use Rattle.ot_ways.specs.Steps.{step_of}
use Rattle.ot_trace.specs.Texts.{step_line}
use Rattle.ot_trace.proofs.hub.write_crossing.Goals as goal

-- the one way, and then the other one
pub returns-clause-text : goal.returns-clause-text
returns-clause-text c =
    let f : Function = function_of c.args.rules.now in
    let x : Crossing = c.args.crossing.now in
    let out : List ℕ = c.args.out.now.items in
    let back : List ℕ = back_line f c.step-back.result in
    c.in_ok-write_back.ensures
    ∙ ap (λ (l : List ℕ). l ++ back) c.in_ok-write_step.ensures
    ∙ append_assoc out (step_line f c.step-there.result) back
    ∙ ap (λ (s : Step). out ++ (step_line f s ++ back)) c.step-there.ensures
    ∙ ap (λ (s : Step). out ++ (step_line f (step_of f x.own x.other) ++ back_line f s)) c.step-back.ensures
