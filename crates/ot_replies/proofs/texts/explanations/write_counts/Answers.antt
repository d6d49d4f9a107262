-- The line is what was formatted, bracketed another way.
use Rattle.std.proofs.Common.{List, ℕ, ◌++◌, ap, refl, ◌∙◌}
use Rattle.std.proofs.lemmas.Result.{IfOk-equal}
use Rattle.std.proofs.lemmas.List.{append_assoc}
use Rattle.ot_replies.proofs.texts.explanations.write_counts.Goals as goal

pub returns : goal.returns
returns c =
    IfOk-equal c.append_text.result _ _ _ c.append_text.ensures
    (ap (λ (l : List ℕ). c.args.out.now.items ++ l) (c.in_ok-format.ensures.ok ∙ simp (append_assoc) refl))
