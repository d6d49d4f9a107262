use Rattle.std.proofs.Common.{sym, ap, ◌∙◌}
use Rattle.fn_rules.specs.Rules.{function_of}
use Rattle.proof_trees.specs.Starts.{Ask, start_of}
use Rattle.ot_terms.specs.Forms.{form_tree}
use Rattle.ot_terms.specs.Goals.{goal_tree}
use Rattle.start_laws.specs.Marking.{marked_goal}
use Rattle.ot_paths.proofs.LaidForms.{part_of_yes, part_of_no}
use Rattle.ot_starts.proofs.Turns.{places_near, question_begins}
use Rattle.ot_starts.proofs.walking.asked.Goals as goal

-- both goals are of the obligation, and the places of the question are near
pub settled-requires : goal.settled-requires
settled-requires c = (
  c.requires.goal.0,
  part_of_yes (function_of c.args.rules.now) c.requires.goal.0 (form_tree c.args.form) (goal_tree c.args.yes.now)
      (goal_tree c.args.no.now) c.requires.goal.1,
)

pub settled-requires-2 : goal.settled-requires-2
settled-requires-2 c = (
  c.requires.goal.0,
  part_of_no (function_of c.args.rules.now) c.requires.goal.0 (form_tree c.args.form) (goal_tree c.args.yes.now)
      (goal_tree c.args.no.now) c.requires.goal.1,
)

pub literal-requires-clause-x_near : goal.literal-requires-clause-x_near
literal-requires-clause-x_near c =
    (places_near (function_of c.args.rules.now) c.requires.goal.0 (form_tree c.args.form) c.in-Some.x c.in-Some.y
    (goal_tree c.args.yes.now) (goal_tree c.args.no.now) c.in-Some.ensures.0 c.requires.goal.1).0

pub literal-requires-clause-y_near : goal.literal-requires-clause-y_near
literal-requires-clause-y_near c =
    (places_near (function_of c.args.rules.now) c.requires.goal.0 (form_tree c.args.form) c.in-Some.x c.in-Some.y
    (goal_tree c.args.yes.now) (goal_tree c.args.no.now) c.in-Some.ensures.0 c.requires.goal.1).1

-- the turn asks the question's literal, and goes on with both settled goals
pub returns : goal.returns
returns c = λ ob p node e.
    let f = function_of c.args.rules.now in
    let begins = question_begins f ob c.in-Some.x c.in-Some.y (goal_tree c.args.yes.now) (goal_tree c.args.no.now)
    (goal_tree c.in_ok-on_yes.on_yes.now) (goal_tree c.in_ok-on_no.on_no.now)
    c.in_ok-on_yes.ensures.alike c.in_ok-on_yes.ensures.settled c.in_ok-on_no.ensures.alike
    c.in_ok-on_no.ensures.settled p
    (form_tree c.args.form) c.in-Some.ensures.0 c.requires.question node e in (
      begins.0,
      begins.1,
      begins.2 ∙ ap
          (λ l. Ask (start_of p) l (marked_goal f (goal_tree c.in_ok-on_yes.on_yes.now))
          (marked_goal f (goal_tree c.in_ok-on_no.on_no.now))) (sym c.literal.ensures),
    )
