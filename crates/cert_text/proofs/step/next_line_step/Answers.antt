use Rattle.std.proofs.Common.{List, ℕ, drop, ◌+◌, refl, subst}
use Rattle.std.proofs.lemmas.List.{drop_all}
use Rattle.cert_text.specs.declared.item.Part.TheVariants as part
use Rattle.cert_text.specs.declared.stage.Stage.TheVariants as stage
use Rattle.cert_text.specs.Stages.{LineStepsTo}
use Rattle.cert_text.proofs.StepLemmas.{end_steps, names_from, ob_steps}
use Rattle.cert_text.proofs.step.next_line_step.Goals as goal

pub returns-in-Some : goal.returns-in-Some
returns-in-Some c =
    λ tp1 tp2 are.
    let there = c.in-Some.ensures.lookup.3 in
    ob_steps tp1 tp2 c.args.level c.args.came c.args.names.now (drop (c.args.came + 1) c.args.names.now)
    c.in-Some.name.now c.args.begun c.push.new.self c.args.byte c.line_step.result are
    (names_from c.args.names.now c.args.came c.in-Some.name.now there.0 (there.1 c.in-Some.name.now))
    refl c.push.ensures (subst
    (λ (line : List ℕ). LineStepsTo line c.push.new.self (part.Ob c.args.came)
    (stage.Tree c.args.level (c.args.came + 1) 1) c.line_step.result) c.ob_line-line.ensures c.line_step.ensures)

pub returns-in-None : goal.returns-in-None
returns-in-None c =
    λ tp1 tp2 are.
    end_steps tp1 tp2 c.args.level c.args.came c.args.names.now c.args.begun c.push.new.self c.args.byte
    c.line_step-in-None.result are (drop_all c.args.came c.args.names.now c.in-None.ensures.lookup.3) c.push.ensures
    (subst (λ (line : List ℕ). LineStepsTo line c.push.new.self part.End stage.Over c.line_step-in-None.result)
    c.end_line-line.ensures c.line_step-in-None.ensures)
