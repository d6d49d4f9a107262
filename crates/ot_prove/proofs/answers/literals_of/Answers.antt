use Rattle.std.proofs.Common.{pos, false, List, [], ◌∷◌, ◌++◌, take, get_or, sym, ap, ◌∙◌}
use Rattle.std.proofs.lemmas.List.{map_push, take_more}
use Rattle.diff_graph.specs.declared.lit.Lit.{Lit}
use Rattle.diff_graph.specs.Literals.{answered_of}
use Rattle.ot_prove.specs.declared.outcome.Answer.{Answer}
use Rattle.ot_prove.specs.Outcomes.{answered_by}
use Rattle.ot_prove.proofs.answers.literals_of.Goals as goal

pub loop-answer-preserved : goal.loop-answer-preserved
loop-answer-preserved c =
    let none : Answer = record { lit = record { x = 0; y = 0; k = pos 0 }; yes = false } in
    let at = c.loop-answer.answer-index in
    let answers = c.args.answers.now in
    c.in_ok-push.ensures.items
    ∙ ap (λ (x : List Lit). x ++ c.answered.result ∷ []) c.loop-answer.invariant
    ∙ ap (λ (x : Lit). answered_by (take at answers) ++ x ∷ []) c.answered.ensures
    ∙ sym
    (ap answered_by (take_more answers at none c.loop-answer-test.true)
    ∙ map_push (λ (a : Answer). answered_of a.lit a.yes) (take at answers) (get_or answers at none))
