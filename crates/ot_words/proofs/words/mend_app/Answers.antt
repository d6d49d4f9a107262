-- The argument adds its rule.
use Rattle.std.proofs.Common.{codes}
use Rattle.ot_words.specs.Words.{mend_options, required_rule}
use Rattle.ot_words.proofs.Apps.{with_last_argument}
use Rattle.ot_words.proofs.words.mend_app.Goals as goal

pub returns : goal.returns
returns c =
    with_last_argument c.arg.result _ _ mend_options (required_rule (codes "function")) c.arg.ensures
    c.required_argument.ensures.local c.in_ok-mend_options.ensures c.required_argument.ensures.rule
