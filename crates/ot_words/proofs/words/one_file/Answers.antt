-- The argument adds its rule.
use Rattle.std.proofs.Common.{codes}
use Rattle.ot_words.specs.Words.{bare_app, required_rule}
use Rattle.ot_words.proofs.Apps.{with_last_argument}
use Rattle.ot_words.proofs.words.one_file.Goals as goal

pub returns : goal.returns
returns c =
    with_last_argument c.arg.result _ _ (bare_app c.args.name.now) (required_rule (codes "function")) c.arg.ensures
    c.required_argument.ensures.local c.bare_app.ensures c.required_argument.ensures.rule
