-- Each argument adds its rule.
use Rattle.std.proofs.Common.{codes}
use Rattle.clap.specs.Words.{with_rule}
use Rattle.ot_words.specs.Words.{bare_app, flag_rule}
use Rattle.ot_words.proofs.Apps.{with_argument, with_last_argument}
use Rattle.ot_words.proofs.words.trace_options.Goals as goal

pub returns : goal.returns
returns c =
    let bare = bare_app (codes "trace") in
    let session = flag_rule (codes "session") in
    let begun =
    with_argument _ _ _ bare session c.in_ok-with_session.ensures c.flag_option.ensures.local c.bare_app.ensures
    c.flag_option.ensures.rule in
    with_last_argument c.arg-2.result _ _ (with_rule bare session) (flag_rule (codes "hub")) c.arg-2.ensures
    c.flag_option-2.ensures.local begun c.flag_option-2.ensures.rule
