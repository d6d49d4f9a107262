use Rattle.std.proofs.Common.{◌++◌, List, ℕ, codes, ap, ◌∙◌}
use Rattle.std.proofs.lemmas.Result.{IfOk-equal}
use Rattle.ot_trace.specs.Columns.{columns}
use Rattle.ot_steps.specs.StepTexts.{result_text}
use Rattle.ot_trace.proofs.hub.write_back.Goals as goal

pub returns : goal.returns
returns c =
    let out : List ℕ = c.args.out.now.items in
    let words : List ℕ = codes "    which becomes" in
    IfOk-equal c.write_columns.result _ _ _ c.write_columns.ensures
    (ap (λ (t : List ℕ). out ++ columns words t c.deref-2.result.now) (c.deref.ensures.value ∙ c.in_ok-form.ensures)
    ∙ ap (λ (t : List ℕ). out ++ columns words (result_text c.args.step.now.result) t)
    (c.deref-2.ensures.value ∙ c.in_ok-case.ensures))
