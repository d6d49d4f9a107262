use Rattle.std.proofs.Common.{List, ℕ, ◌++◌, codes, ap, sym, refl, ◌∙◌}
use Rattle.std.proofs.lemmas.Result.{IfOk-equal}
use Rattle.std.specs.Prelude.{Option}
use Rattle.std.specs.Fmt.{decimal}
use Rattle.ot_replies.specs.SessionTexts.{last_line}
use Rattle.ot_replies.proofs.Lines.{line_joined}
use Rattle.ot_replies.proofs.texts.sessions.write_last.Goals as goal

pub returns-in_ok-format-in-Some : goal.returns-in_ok-format-in-Some
returns-in_ok-format-in-Some c =
    let out = c.args.out.now.items in
    IfOk-equal c.append_text.result _ _ _ c.append_text.ensures
    (ap (λ (l : List ℕ). out ++ l)
    (c.in_ok-format-in-Some.ensures.ok
    ∙ line_joined (codes "differ ") (decimal c.in-Some.one) (decimal c.in-Some.other) _ refl
    ∙ ap (λ (pair : Option (ℕ × ℕ)). last_line pair) (sym c.in-Some.is)))
