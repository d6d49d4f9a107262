-- Each argument adds its rule.
use Rattle.std.proofs.Common.{codes}
use Rattle.clap.specs.Words.{new_rule, with_rule}
use Rattle.ot_words.specs.Words.{required_rule, template_options}
use Rattle.ot_words.proofs.Apps.{with_argument, with_last_argument}
use Rattle.ot_words.proofs.words.template_app.Goals as goal

pub returns : goal.returns
returns c =
    let mode = required_rule (codes "mode") in
    let first = required_rule (codes "first") in
    let second = new_rule (codes "second") in
    let begun =
    with_argument _ _ _ template_options mode c.in_ok-with_mode.ensures c.required_argument.ensures.local
    c.in_ok-template_options.ensures c.required_argument.ensures.rule in
    let with_first =
    with_argument _ _ _ (with_rule template_options mode) first c.in_ok-with_kind.ensures
    c.required_argument-2.ensures.local begun c.required_argument-2.ensures.rule in
    let with_second =
    with_argument _ _ _ (with_rule (with_rule template_options mode) first) second c.in_ok-with_second.ensures
    c.new.ensures.optional.1 with_first c.new.ensures.rule in
    with_last_argument c.arg-4.result _ _ (with_rule (with_rule (with_rule template_options mode) first) second)
    (new_rule (codes "third")) c.arg-4.ensures c.new-2.ensures.optional.1 with_second c.new-2.ensures.rule
