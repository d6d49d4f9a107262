use Rattle.std.proofs.Common.{[]}
use Rattle.proof_trees.proofs.Soundness.{shown_plan_holds}
use Rattle.proof_trees.proofs.showing.shown_plans_hold.Goals as goal

pub returns-clause-whole : goal.returns-clause-whole
returns-clause-whole g c compare meaning t p lawful marked shows =
    (shown_plan_holds c.negative_cycles_are_never_met.ensures c.valuations_answer_questions.ensures compare meaning
    lawful t p [] [] marked tt shows).1

pub returns-clause-from_a_place : goal.returns-clause-from_a_place
returns-clause-from_a_place g c compare meaning t p w known lawful marked are_true shows =
    (shown_plan_holds c.negative_cycles_are_never_met.ensures c.valuations_answer_questions.ensures compare meaning
    lawful t p w known marked are_true shows).1

pub returns-clause-lemmas : goal.returns-clause-lemmas
returns-clause-lemmas g c compare meaning t p w known lawful marked are_true shows =
    (shown_plan_holds c.negative_cycles_are_never_met.ensures c.valuations_answer_questions.ensures compare meaning
    lawful t p w known marked are_true shows).0
