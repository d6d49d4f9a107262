use Rattle.std.proofs.Common.{◌≡◌, ◌∙◌, ◌≤◌, length, take, drop, ◌+◌, ◌-◌, arith, refl}
use Rattle.std.specs.Prelude.{OnErr, Result, Ok, Err}
use Rattle.open_places.specs.declared.places.WaitingPlace.TheVariants as waiting
use Rattle.open_places.proofs.PlaceLemmas.{closed_last, closed_places, learned_places, lemma_inside, longer_path}
use Rattle.open_places.proofs.PlaceLemmas.{outer_path, shorter_path, popped}
use Rattle.open_places.proofs.places.Places.close.Goals as goal

pub invariant_of-self-in-Some-Place : goal.invariant_of-self-in-Some-Place
invariant_of-self-in-Some-Place g c =
    let same =
    popped c.self.inside.waiting.items c.pop.new.self.items
    (waiting.Place c.in-Some-Place.at c.in-Some-Place.depth c.in-Some-Place.answer) _ c.self.inside.waiting.ok.0
    (rw (c.in-Some-Place.field-0-is, c.deref.ensures.value) at c.in-Some-Place.ensures) c.pop.ensures.rest in
    longer_path c.self.inside.base (take c.in-Some-Place.depth c.self.inside.list.items) c.push_reserved.new.self.items
    c.in-Some-Place.answer c.pop.new.self.items
    (shorter_path c.self.inside.base c.self.inside.list.items c.self.inside.waiting.items c.pop.new.self.items
    c.in-Some-Place.at c.in-Some-Place.depth c.in-Some-Place.answer c.self.invariant same)
    (rw (c.truncate.ensures.items, c.reserve.ensures.items) at c.push_reserved.ensures.items)

pub returns-in_ok-reserve-in-Some-Place-clause-ok : goal.returns-in_ok-reserve-in-Some-Place-clause-ok
returns-in_ok-reserve-in-Some-Place-clause-ok g c =
    let same =
    popped c.self.inside.waiting.items c.pop.new.self.items
    (waiting.Place c.in-Some-Place.at c.in-Some-Place.depth c.in-Some-Place.answer) _ c.self.inside.waiting.ok.0
    (rw (c.in-Some-Place.field-0-is, c.deref.ensures.value) at c.in-Some-Place.ensures) c.pop.ensures.rest in
    closed_places c.self.inside.known.items c.self.inside.current c.self.inside.base c.self.inside.list.items
    c.push_reserved.new.self.items c.self.inside.waiting.items c.pop.new.self.items c.in-Some-Place.at
    c.in-Some-Place.depth c.in-Some-Place.answer c.args.self.now c.self.view_is c.requires c.self.invariant same
    (rw (c.truncate.ensures.items, c.reserve.ensures.items) at c.push_reserved.ensures.items)

-- a lemma whose tree has ended is known, and the place where it was begun is next
pub returns-in_ok-push-in-Some-Lemma-clause-ok : goal.returns-in_ok-push-in-Some-Lemma-clause-ok
returns-in_ok-push-in-Some-Lemma-clause-ok g c =
    let base = c.self.inside.base in
    let count = c.in-Some-Lemma.count in
    let list = c.self.inside.list.items in
    let few : (base + count) - base ≡ count = omega arith in
    let taken : c.from_vec.result ≡ take count (drop base list) =
    c.from_vec.ensures ∙ c.in_ok-literals-in-Some-Lemma.ensures.items
    ∙ rw (few, c.deref-in-Some-Lemma.ensures.value) refl in
    let same =
    popped c.self.inside.waiting.items c.pop-in-Some-Lemma.new.self.items
    (waiting.Lemma c.in-Some-Lemma.node c.in-Some-Lemma.base count) _ c.self.inside.waiting.ok.0
    (rw (c.in-Some-Lemma.field-0-is, c.deref.ensures.value) at c.in-Some-Lemma.ensures)
    c.pop-in-Some-Lemma.ensures.rest in
    learned_places c.self.inside.known.items c.push.new.self.items c.self.inside.current base
    list c.truncate-in-Some-Lemma.new.self.items c.self.inside.waiting.items c.pop-in-Some-Lemma.new.self.items
    c.in-Some-Lemma.node c.in-Some-Lemma.base count c.args.self.now c.self.view_is c.requires
    c.self.invariant same c.truncate-in-Some-Lemma.ensures.items
    (rw (← taken) c.in_ok-push-in-Some-Lemma.ensures.items)

pub invariant_of-self : goal.invariant_of-self
invariant_of-self g c = c.self.invariant

-- nothing waits
pub returns-in-None-clause-ok : goal.returns-in-None-clause-ok
returns-in-None-clause-ok g c =
    closed_last c.self.inside.known.items c.self.inside.current c.self.inside.base c.self.inside.list.items
    c.self.inside.waiting.items c.args.self.now c.self.view_is (rw c.deref.ensures.value at c.in-None.ensures)

pub invariant_of-self-in_err-reserve-in-Some-Place : goal.invariant_of-self-in_err-reserve-in-Some-Place
invariant_of-self-in_err-reserve-in-Some-Place g c = rw c.reserve.ensures.items c.self.invariant

-- what was refused memory is as it was
on_err : {X E : Type 0} {P : Type 0} (result : Result X E) → P → OnErr result P
on_err (Ok x) p = tt
on_err (Err e) p = p

pub returns-in_err-reserve-in-Some-Place-clause-err : goal.returns-in_err-reserve-in-Some-Place-clause-err
returns-in_err-reserve-in-Some-Place-clause-err g c = rw c.reserve.ensures.items (on_err _ c.self.view_is)

pub returns-in_err-literals-in-Some-Lemma-clause-err : goal.returns-in_err-literals-in-Some-Lemma-clause-err
returns-in_err-literals-in-Some-Lemma-clause-err g c = on_err _ refl

pub invariant_of-self-in_err-push-in-Some-Lemma : goal.invariant_of-self-in_err-push-in-Some-Lemma
invariant_of-self-in_err-push-in-Some-Lemma g c = c.self.invariant

pub returns-in_err-push-in-Some-Lemma-clause-err : goal.returns-in_err-push-in-Some-Lemma-clause-err
returns-in_err-push-in-Some-Lemma-clause-err g c =
    rw c.in_err-push-in-Some-Lemma.ensures.items (on_err _ c.self.view_is)

-- the lemma's literals are in the list
pub overflow_add-self-inside : goal.overflow_add-self-inside
overflow_add-self-inside g c =
    let inside : c.self.inside.base + c.in-Some-Lemma.count ≤ length c.deref-in-Some-Lemma.result.now =
    rw c.deref-in-Some-Lemma.ensures.value
    (lemma_inside c.self.inside.base c.self.inside.list.items c.self.inside.waiting.items _ c.in-Some-Lemma.node
    c.in-Some-Lemma.base c.in-Some-Lemma.count c.self.invariant
    (rw (c.in-Some-Lemma.field-0-is, c.deref.ensures.value) at c.in-Some-Lemma.ensures)) in
    omega arith

pub slice_bounds-from_slice-end : goal.slice_bounds-from_slice-end
slice_bounds-from_slice-end g c =
    let inside : c.self.inside.base + c.in-Some-Lemma.count ≤ length c.deref-in-Some-Lemma.result.now =
    rw c.deref-in-Some-Lemma.ensures.value
    (lemma_inside c.self.inside.base c.self.inside.list.items c.self.inside.waiting.items _ c.in-Some-Lemma.node
    c.in-Some-Lemma.base c.in-Some-Lemma.count c.self.invariant
    (rw (c.in-Some-Lemma.field-0-is, c.deref.ensures.value) at c.in-Some-Lemma.ensures)) in
    omega arith

-- the place where the lemma was begun has the list that it had then
pub invariant_of-self-in-Some-Lemma : goal.invariant_of-self-in-Some-Lemma
invariant_of-self-in-Some-Lemma g c =
    let same =
    popped c.self.inside.waiting.items c.pop-in-Some-Lemma.new.self.items
    (waiting.Lemma c.in-Some-Lemma.node c.in-Some-Lemma.base c.in-Some-Lemma.count) _ c.self.inside.waiting.ok.0
    (rw (c.in-Some-Lemma.field-0-is, c.deref.ensures.value) at c.in-Some-Lemma.ensures)
    c.pop-in-Some-Lemma.ensures.rest in
    rw c.truncate-in-Some-Lemma.ensures.items
    (outer_path c.self.inside.base c.self.inside.list.items c.self.inside.waiting.items
    c.pop-in-Some-Lemma.new.self.items
    c.in-Some-Lemma.node c.in-Some-Lemma.base c.in-Some-Lemma.count c.self.invariant same)
