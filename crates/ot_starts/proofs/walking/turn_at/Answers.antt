use Rattle.std.proofs.Common.{ap, ◌∙◌, None}
use Rattle.fn_rules.specs.Rules.{function_of}
use Rattle.ot_rewrite.specs.Steps.{front_tree}
use Rattle.start_laws.specs.Marking.{marked_goal, with_start}
use Rattle.ot_starts.proofs.Turns.{holds_begin, fails_begin}
use Rattle.ot_starts.proofs.walking.turn_at.Goals as goal

pub returns-in-Holds : goal.returns-in-Holds
returns-in-Holds c = λ ob p node e.
    let f = function_of c.args.rules.now in
    holds_begin f p (e ∙ ap (λ t. with_start None (marked_goal f (front_tree t))) c.in-Holds.is)

pub returns-in-Fails : goal.returns-in-Fails
returns-in-Fails c = λ ob p node e.
    let f = function_of c.args.rules.now in
    fails_begin f c.in-Fails.why p (e ∙ ap (λ t. with_start None (marked_goal f (front_tree t))) c.in-Fails.is)
