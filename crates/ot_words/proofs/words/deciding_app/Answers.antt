-- Each argument adds its rule.
use Rattle.std.proofs.Common.{codes}
use Rattle.clap.specs.Words.{with_rule}
use Rattle.ot_words.specs.Words.{bare_app, budget_rule, flag_rule, required_rule}
use Rattle.ot_words.proofs.Apps.{with_argument, with_last_argument}
use Rattle.ot_words.proofs.words.deciding_app.Goals as goal

-- the command has its flag, its budget and its function, in this order
pub returns : goal.returns
returns c =
    let bare = bare_app c.args.name.now in
    let flag = flag_rule (codes "tp1") in
    let budget = budget_rule c.args.most c.args.otherwise.now in
    let level =
    with_argument _ _ _ bare flag c.in_ok-with_level.ensures c.flag_option.ensures.local c.bare_app.ensures
    c.flag_option.ensures.rule in
    let options =
    with_argument _ _ _ (with_rule bare flag) budget c.in_ok-with_options.ensures c.budget_option.ensures.local level
    c.budget_option.ensures.rule in
    with_last_argument c.arg-3.result _ _ (with_rule (with_rule bare flag) budget) (required_rule (codes "function"))
    c.arg-3.ensures c.required_argument.ensures.local options c.required_argument.ensures.rule
