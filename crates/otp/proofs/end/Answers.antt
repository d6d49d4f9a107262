use Rattle.std.proofs.Common.{List, map, drop, ap, subst, ◌∙◌, inr, String, Global}
use Rattle.std.specs.Prelude.{string_bytes}
use Rattle.std.specs.Process.{exit_status}
use Rattle.otp.specs.Ended.{Ended}
use Rattle.otp.proofs.end.Goals as goal

pub returns-clause-words : goal.returns-clause-words
returns-clause-words g c =
    let named = c.after_name.ensures ∙ ap (λ (l : List (String Global)). drop 1 l) c.as_slice.ensures.value in
    rw c.in-Ok.is
    (inr (
      c.in-Ok-words_of.words.items,
      c.in-Ok-words_of.ensures,
      subst (λ (l : List (String Global)). Ended (map string_bytes l) (exit_status c.end_with_run.result))
          named c.end_with_run.ensures,
    ))
