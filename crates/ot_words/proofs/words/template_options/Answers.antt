-- Each argument adds its rule.
use Rattle.std.proofs.Common.{codes}
use Rattle.clap.specs.Words.{with_rule}
use Rattle.ot_words.specs.Words.{bare_app, flag_rule}
use Rattle.ot_words.proofs.Apps.{with_argument, with_last_argument}
use Rattle.ot_words.proofs.words.template_options.Goals as goal

pub returns : goal.returns
returns c =
    let bare = bare_app (codes "template") in
    let level = flag_rule (codes "tp1") in
    let sites = flag_rule (codes "sites-differ") in
    let begun =
    with_argument _ _ _ bare level c.in_ok-with_level.ensures c.flag_option.ensures.local c.bare_app.ensures
    c.flag_option.ensures.rule in
    let further =
    with_argument _ _ _ (with_rule bare level) sites c.in_ok-with_sites.ensures c.flag_option-2.ensures.local begun
    c.flag_option-2.ensures.rule in
    with_last_argument c.arg-3.result _ _ (with_rule (with_rule bare level) sites) (flag_rule (codes "chars-differ"))
    c.arg-3.ensures c.flag_option-3.ensures.local further c.flag_option-3.ensures.rule
