-- Each argument adds its rule.
use Rattle.std.proofs.Common.{codes}
use Rattle.clap.specs.Words.{with_rule}
use Rattle.ot_words.specs.Words.{required_rule, trace_options}
use Rattle.ot_words.proofs.Apps.{with_argument, with_last_argument}
use Rattle.ot_words.proofs.words.trace_app.Goals as goal

pub returns : goal.returns
returns c =
    let first = required_rule (codes "first") in
    let begun =
    with_argument _ _ _ trace_options first c.in_ok-with_first.ensures c.required_argument.ensures.local
    c.in_ok-trace_options.ensures c.required_argument.ensures.rule in
    with_last_argument c.arg-2.result _ _ (with_rule trace_options first) (required_rule (codes "second"))
    c.arg-2.ensures c.required_argument-2.ensures.local begun c.required_argument-2.ensures.rule
