use Rattle.std.proofs.Common.{◌≡◌, ◌++◌, ◌∙◌, ap, []}
use Rattle.std.specs.Prelude.{encode_utf8}
use Rattle.std.proofs.lemmas.Str.{chars_past_char, chars-nil}
use Rattle.std.proofs.lemmas.List.{nil_from_length}
use Rattle.std.specs.Str.{chars}
use Rattle.case_json.proofs.misfits.split_char.Goals as goal

pub returns-in-Some-clause-some : goal.returns-in-Some-clause-some
returns-in-Some-clause-some c =
    let begins : c.args.text.now ≡ encode_utf8 c.in-Some.ch ++ c.as_str.result.now =
    rw (← c.chars-rest.ensures.rest, c.as_str.ensures) c.in-Some.ensures.steps.0 in
    chars_past_char c.args.text.now c.as_str.result.now c.in-Some.ch c.utf8.text begins

pub returns-in-None-clause-none : goal.returns-in-None-clause-none
returns-in-None-clause-none c =
    let empty : c.args.text.now ≡ [] = nil_from_length c.args.text.now
    (rw (← c.chars-rest.ensures.rest) c.in-None.ensures.steps.0.0) in
    ap chars empty ∙ chars-nil
