use Rattle.std.proofs.Common.{ℕ, List, Option, reverse, subst, arith}
use Rattle.ot_prove.specs.Searching.{IsSearching}
use Rattle.search_places.specs.Changes.{known_of}
use Rattle.ot_prove.proofs.Steps.{IsAsBefore-refl, IsSearching-cycle, first_is_judged, weight_of-close}
use Rattle.ot_prove.proofs.search.step.Goals as goal

pub close_impossible-requires-clause-known : goal.close_impossible-requires-clause-known
close_impossible-requires-clause-known g c =
    let A = g.A.Asker in
    let was = c.args.asker.now in
    let s = c.args.search.now in
    first_is_judged (A.is_own was) (A.plan was) (A.root was) c.args.budget s.path (known_of s) (reverse s.tables.items)
    s.tree.tokens s.asked c.requires.opened c.requires.searching

-- a first place that no integers meet is closed by its cycle
pub returns-then-branch-clause-step : goal.returns-then-branch-clause-step
returns-then-branch-clause-step g c =
    let A = g.A.Asker in
    let was = c.args.asker.now in
    let s = c.args.search.now in
    let after = c.close_impossible.new.self in
    let closed = rw c.if-branch.true at c.in_ok-close_impossible.ensures in
    rw (closed.2, closed.3, closed.4, closed.5)
    (IsSearching-cycle (A.is_own was) (A.plan was) (A.root was) c.args.budget s.path closed.0 (known_of after)
    (reverse s.tables.items) s.tree.tokens s.asked c.requires.opened c.negative_cycles_are_never_met.ensures
    (subst (λ (x : List (Option (List ℕ))).
    IsSearching (A.is_own was) (A.plan was) (A.root was) c.args.budget s.path x (reverse s.tables.items) s.tree.tokens
    s.asked) closed.1 c.requires.searching))

pub returns-then-branch-clause-falls : goal.returns-then-branch-clause-falls
returns-then-branch-clause-falls g c =
    let closed = rw c.if-branch.true at c.in_ok-close_impossible.ensures in
    rw closed.2 (weight_of-close (g.A.Asker.plan c.args.asker.now) c.args.search.now.path c.requires.opened)

-- the asker is as it was
pub returns-in_err-close_impossible-clause-kept : goal.returns-in_err-close_impossible-clause-kept
returns-in_err-close_impossible-clause-kept g c =
    let A = g.A.Asker in
    let was = c.args.asker.now in
    IsAsBefore-refl (A.is_own was) (A.plan was) (A.root was) (A.name_count was)

pub returns-then-branch-clause-kept : goal.returns-then-branch-clause-kept
returns-then-branch-clause-kept g c =
    let A = g.A.Asker in
    let was = c.args.asker.now in
    IsAsBefore-refl (A.is_own was) (A.plan was) (A.root was) (A.name_count was)

pub returns-in_err-turn-clause-kept : goal.returns-in_err-turn-clause-kept
returns-in_err-turn-clause-kept g c =
    let turned = c.turn_at.ensures in
    record { same = turned.same; root_kept = turned.root_kept; count_kept = turned.count_kept }

pub take_turn-requires-clause-names : goal.take_turn-requires-clause-names
take_turn-requires-clause-names g c = omega (arith, c.turn_at.ensures.count_kept, c.requires.names)

pub returns-clause-step : goal.returns-clause-step
returns-clause-step g c = c.take_turn.ensures.step

pub returns-clause-falls : goal.returns-clause-falls
returns-clause-falls g c =
    let open_still = rw c.if-branch.false at c.in_ok-close_impossible.ensures in
    rw (c.turn_at.ensures.branches, open_still.2) at c.take_turn.ensures.falls

pub returns-clause-front : goal.returns-clause-front
returns-clause-front g c =
    let open_still = rw c.if-branch.false at c.in_ok-close_impossible.ensures in
    rw open_still.4 at c.take_turn.ensures.front

pub returns-clause-kept : goal.returns-clause-kept
returns-clause-kept g c =
    let turned = c.turn_at.ensures in
    record { same = turned.same; root_kept = turned.root_kept; count_kept = turned.count_kept }
