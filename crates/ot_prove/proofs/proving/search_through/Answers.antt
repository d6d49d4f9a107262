use Rattle.std.proofs.Common.{refl, ◌∙◌, arith}
use Rattle.ot_prove.proofs.Steps.{IsAsBefore-refl, IsAsBefore-trans, AgreesWithLists-done, HasEnded-stopped}
use Rattle.ot_prove.proofs.proving.search_through.Goals as goal

pub places-init : goal.places-init
places-init g c =
    let A = g.A.Asker in
    let was = c.args.asker.now in
    record {
      kept = IsAsBefore-refl (A.is_own was) (A.plan was) (A.root was) (A.name_count was);
      front = refl;
      searching = c.requires.searching;
    }

pub step-requires-clause-names : goal.step-requires-clause-names
step-requires-clause-names g c = omega (arith, c.places.invariant.kept.count_kept, c.requires.names)

pub step-requires-clause-searching : goal.step-requires-clause-searching
step-requires-clause-searching g c = c.places.invariant.searching

pub places-preserved : goal.places-preserved
places-preserved g c = record {
  kept = IsAsBefore-trans c.places.invariant.kept c.step.ensures.kept;
  front = c.in_ok-ended.ensures.front ∙ c.places.invariant.front;
  searching = rw c.in-GoesOn.is at c.in_ok-ended.ensures.step;
}

pub places-smaller : goal.places-smaller
places-smaller g c = rw c.in-GoesOn.is at c.in_ok-ended.ensures.falls

-- no place is open
pub returns-clause-ended : goal.returns-clause-ended
returns-clause-ended g c =
    let A = g.A.Asker in
    let now = c.places.asker in
    let search = c.places.search in
    AgreesWithLists-done (A.is_own now) (A.plan now) (A.root now) c.args.budget search.path _ _ search.tree search.asked
    c.is_open.result c.places-test.false c.is_open.ensures c.places.invariant.searching

pub returns-clause-front : goal.returns-clause-front
returns-clause-front g c = c.places.invariant.front

pub returns-clause-kept : goal.returns-clause-kept
returns-clause-kept g c = c.places.invariant.kept

pub returns-in_err-ended-clause-kept : goal.returns-in_err-ended-clause-kept
returns-in_err-ended-clause-kept g c = IsAsBefore-trans c.places.invariant.kept c.step.ensures.kept

-- a step ended the search
pub returns-in_default-clause-ended : goal.returns-in_default-clause-ended
returns-in_default-clause-ended g c =
    let A = g.A.Asker in
    let now = c.step.new.asker in
    HasEnded-stopped (A.is_own now) (A.plan now) (A.root now) c.args.budget c.step.new.search _ c.in_default.not-GoesOn
    c.in_ok-ended.ensures.step

pub returns-in_default-clause-front : goal.returns-in_default-clause-front
returns-in_default-clause-front g c = c.in_ok-ended.ensures.front ∙ c.places.invariant.front

pub returns-in_default-clause-kept : goal.returns-in_default-clause-kept
returns-in_default-clause-kept g c = IsAsBefore-trans c.places.invariant.kept c.step.ensures.kept
