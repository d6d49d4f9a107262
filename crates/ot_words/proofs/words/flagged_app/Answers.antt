-- Each argument adds its rule.
use Rattle.std.proofs.Common.{codes}
use Rattle.clap.specs.Words.{with_rule}
use Rattle.ot_words.specs.Words.{bare_app, flag_rule, required_rule}
use Rattle.ot_words.proofs.Apps.{with_argument, with_last_argument}
use Rattle.ot_words.proofs.words.flagged_app.Goals as goal

pub returns : goal.returns
returns c =
    let bare = bare_app c.args.name.now in
    let flag = flag_rule c.args.flag.now in
    let flagged =
    with_argument _ _ _ bare flag c.in_ok-with_flag.ensures c.flag_option.ensures.local c.bare_app.ensures
    c.flag_option.ensures.rule in
    with_last_argument c.arg-2.result _ _ (with_rule bare flag) (required_rule (codes "function")) c.arg-2.ensures
    c.required_argument.ensures.local flagged c.required_argument.ensures.rule
