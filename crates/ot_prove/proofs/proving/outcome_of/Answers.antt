use Rattle.std.proofs.Common.{sym, subst, List}
use Rattle.diff_graph.specs.declared.lit.Lit.{Lit}
use Rattle.ask_core.specs.Plans.{Fails}
use Rattle.ot_prove.specs.Searching.{LeadsTo}
use Rattle.ot_prove.proofs.Steps.{IsAsBefore-refl}
use Rattle.ot_prove.proofs.proving.outcome_of.Goals as goal

pub returns-in-GoesOn-clause-agrees : goal.returns-in-GoesOn-clause-agrees
returns-in-GoesOn-clause-agrees g c budget ended = rw c.in-GoesOn.is at ended

pub returns-in-Spent-clause-agrees : goal.returns-in-Spent-clause-agrees
returns-in-Spent-clause-agrees g c budget ended = rw c.in-Spent.is at ended

-- the answers lead to the failing end
pub answers-requires : goal.answers-requires
answers-requires g c = (rw c.in-Fails.is at c.requires.1).0

pub answers_along-requires : goal.answers_along-requires
answers_along-requires g c = (
  Fails c.in-Fails.why,
  subst (λ (w : List Lit). LeadsTo (g.A.Asker.root c.args.asker.now) w (Fails c.in-Fails.why)) (sym c.answers.ensures)
      (rw c.in-Fails.is at c.requires.1).1.leads,
)

pub returns-in_ok-answers-in-Fails-clause-agrees : goal.returns-in_ok-answers-in-Fails-clause-agrees
returns-in_ok-answers-in-Fails-clause-agrees g c budget ended q list =
    let fails = (rw c.in-Fails.is at ended).1 in
    let lists = fails.lists q list in (
      lists.0,
      rw (c.in_ok-answers-in-Fails.ensures.literals, c.answers.ensures) lists.1,
      c.in_ok-answers-in-Fails.ensures.way (Fails c.in-Fails.why)
          (subst (λ (w : List Lit). LeadsTo (g.A.Asker.root c.args.asker.now) w (Fails c.in-Fails.why))
          (sym c.answers.ensures) fails.leads),
    )

-- the asker is as it was
pub returns-in-GoesOn-clause-kept : goal.returns-in-GoesOn-clause-kept
returns-in-GoesOn-clause-kept g c =
    let A = g.A.Asker in
    let was = c.args.asker.now in
    IsAsBefore-refl (A.is_own was) (A.plan was) (A.root was) (A.name_count was)

pub returns-in-Spent-clause-kept : goal.returns-in-Spent-clause-kept
returns-in-Spent-clause-kept g c =
    let A = g.A.Asker in
    let was = c.args.asker.now in
    IsAsBefore-refl (A.is_own was) (A.plan was) (A.root was) (A.name_count was)

pub returns-in_err-answers-in-Fails-clause-kept : goal.returns-in_err-answers-in-Fails-clause-kept
returns-in_err-answers-in-Fails-clause-kept g c = c.answers_along.ensures.kept

pub returns-in_ok-answers-in-Fails-clause-kept : goal.returns-in_ok-answers-in-Fails-clause-kept
returns-in_ok-answers-in-Fails-clause-kept g c = c.answers_along.ensures.kept
