-- Each argument adds its rule.
use Rattle.std.proofs.Common.{codes}
use Rattle.clap.specs.Words.{with_rule}
use Rattle.ot_words.specs.Words.{bare_app, required_rule}
use Rattle.ot_words.proofs.Apps.{with_argument, with_last_argument}
use Rattle.ot_words.proofs.words.two_files.Goals as goal

pub returns : goal.returns
returns c =
    let bare = bare_app c.args.name.now in
    let first = required_rule (codes "first") in
    let begun =
    with_argument _ _ _ bare first c.in_ok-with_first.ensures c.required_argument.ensures.local c.bare_app.ensures
    c.required_argument.ensures.rule in
    with_last_argument c.arg-2.result _ _ (with_rule bare first) (required_rule (codes "second")) c.arg-2.ensures
    c.required_argument-2.ensures.local begun c.required_argument-2.ensures.rule
