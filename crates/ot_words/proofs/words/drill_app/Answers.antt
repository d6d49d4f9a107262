-- The argument adds its rule.
use Rattle.std.proofs.Common.{codes}
use Rattle.ot_words.specs.Words.{bare_app, number_rule}
use Rattle.ot_words.proofs.Apps.{with_last_argument}
use Rattle.ot_words.proofs.words.drill_app.Goals as goal

pub returns : goal.returns
returns c =
    with_last_argument c.arg.result _ _ (bare_app (codes "drill")) number_rule c.arg.ensures
    c.number_argument.ensures.local c.bare_app.ensures c.number_argument.ensures.rule
