use Rattle.std.proofs.lemmas.Result.{on_ok_weaker}
use Rattle.proof_search.specs.Owning.{AddsLemma, OpensPart}
use Rattle.proof_search.proofs.Keeping.{KeepsStarts-refl}
use Rattle.proof_search.proofs.Owning.{own_lemma, own_opened, popped_is_own, search_kept}
use Rattle.proof_search.proofs.turns.close.Goals as goal

-- a part waits within the level
pub returns-then-len-waiting_before-clause-asked : goal.returns-then-len-waiting_before-clause-asked
returns-then-len-waiting_before-clause-asked g c =
    on_ok_weaker c.go_on.result
    (λ (opens : OpensPart c.args.search.now c.go_on.new.search). opens.asked) c.go_on.ensures.opens

pub returns-then-len-waiting_before-clause-own : goal.returns-then-len-waiting_before-clause-own
returns-then-len-waiting_before-clause-own g c =
    on_ok_weaker c.go_on.result
    (own_opened (g.A.Asker.is_own c.args.asker.now) c.args.search.now c.go_on.new.search c.requires)
    c.go_on.ensures.opens

pub returns-then-len-waiting_before-clause-same : goal.returns-then-len-waiting_before-clause-same
returns-then-len-waiting_before-clause-same g c =
    KeepsStarts-refl (g.A.Asker.is_own c.args.asker.now) (g.A.Starter.starts c.args.asker.now)

pub returns-in-None-clause-same : goal.returns-in-None-clause-same
returns-in-None-clause-same g c =
    KeepsStarts-refl (g.A.Asker.is_own c.args.asker.now) (g.A.Starter.starts c.args.asker.now)

-- none waits, and the level has shown its lemma
pub number-requires : goal.number-requires
number-requires g c =
    (popped_is_own (g.A.Asker.is_own c.args.asker.now) c.args.search.now.levels.items c.pop.new.self.items
    c.in-Some.level c.requires.levels c.in-Some.ensures.items).0

pub returns-in_err-number-in-Some-clause-same : goal.returns-in_err-number-in-Some-clause-same
returns-in_err-number-in-Some-clause-same g c = c.number.ensures.same

pub returns-in_ok-number-in-Some-clause-asked : goal.returns-in_ok-number-in-Some-clause-asked
returns-in_ok-number-in-Some-clause-asked g c =
    on_ok_weaker c.end_level.result (λ (added : AddsLemma c.in-Some.level.node _ c.end_level.new.search). added.asked)
    c.end_level.ensures.adds

pub returns-in_ok-number-in-Some-clause-same : goal.returns-in_ok-number-in-Some-clause-same
returns-in_ok-number-in-Some-clause-same g c = c.number.ensures.same

pub returns-in_ok-number-in-Some-clause-own : goal.returns-in_ok-number-in-Some-clause-own
returns-in_ok-number-in-Some-clause-own g c =
    let own = c.requires in
    let popped =
    popped_is_own (g.A.Asker.is_own c.args.asker.now) c.args.search.now.levels.items c.pop.new.self.items
    c.in-Some.level own.levels c.in-Some.ensures.items in
    let before = record c.args.search.now { levels = c.pop.new.self } in
    on_ok_weaker c.end_level.result
    (own_lemma (g.A.Asker.is_own c.number.new.self) before c.end_level.new.search
    (search_kept c.number.ensures.same before
    (record { at = own.at; waiting = own.waiting; levels = popped.1; lemmas = own.lemmas }))
    c.in-Some.level.node ((c.number.ensures.same.own c.in-Some.level.node).0 popped.0))
    c.end_level.ensures.adds
