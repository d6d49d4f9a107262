-- Each argument adds its rule.
use Rattle.std.proofs.Common.{codes}
use Rattle.clap.specs.Words.{with_rule}
use Rattle.ot_words.specs.Words.{bare_app, budget_rule, edits_rule, flag_rule, most_members}
use Rattle.ot_words.proofs.Apps.{with_argument, with_last_argument}
use Rattle.ot_words.proofs.words.mend_options.Goals as goal

pub returns : goal.returns
returns c =
    let bare = bare_app (codes "mend") in
    let level = flag_rule (codes "tp1") in
    let begun =
    with_argument _ _ _ bare level c.in_ok-with_level.ensures c.flag_option.ensures.local c.bare_app.ensures
    c.flag_option.ensures.rule in
    let further =
    with_argument _ _ _ (with_rule bare level) edits_rule c.in_ok-with_edits.ensures c.edits_option.ensures.local begun
    c.edits_option.ensures.rule in
    with_last_argument c.arg-3.result _ _ (with_rule (with_rule bare level) edits_rule)
    (budget_rule most_members (codes "1000000"))
    c.arg-3.ensures c.budget_option.ensures.local further c.budget_option.ensures.rule
