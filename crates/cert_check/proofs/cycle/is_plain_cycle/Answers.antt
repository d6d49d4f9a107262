use Rattle.std.proofs.Common.{rules, ◌≡◌, ◌+◌, List, ℕ, [], ◌∷◌, length, drop, get_or, Ok, arith, refl, sym, ap, subst}
use Rattle.std.proofs.Common.{FitsSigned, to_z, w32, w64}
use Rattle.std.proofs.lemmas.Int.{ints}
use Rattle.std.proofs.lemmas.List.{drop_more, drop_all}
use Rattle.std.proofs.lemmas.Option.{slice_get_read}
use Rattle.diff_graph.specs.Cycles.{pick_verdict}
use Rattle.cert_check.specs.Walks.{Closes}
use Rattle.cert_check.proofs.Cycles.{closes_all, closes_before, closes_there}
use Rattle.cert_check.proofs.cycle.is_plain_cycle.Goals as goal

-- the first literal begins the walk
pub loop-pick-init : goal.loop-pick-init
loop-pick-init c =
    let there = c.in-Some-get.ensures.lookup.3 in
    let picks_are : c.args.picks.now ≡ c.in-Some.first.now ∷ c.in-Some.rest.now = c.in-Some.ensures.cases.0 in
    let fits : FitsSigned w32 c.in-Some-get.lit.now.k = search rules in (
      λ rest.
          subst (λ (l : List ℕ). pick_verdict c.args.lits.now l ≡ Ok tt) (sym picks_are)
          (closes_all c.args.lits.now c.in-Some.first.now c.in-Some.rest.now c.in-Some-get.lit.now _
          (slice_get_read c.args.lits.now (length c.args.lits.now) c.in-Some.first.now c.in-Some-get.lit.now refl
          there.0 (there.1 c.in-Some-get.lit.now)) (omega (arith, ints)) rest),
      omega (arith, ints),
      omega (arith, ints),
      omega (arith, ap length picks_are, c.requires.few),
    )

pub overflow_add-sum : goal.overflow_add-sum
overflow_add-sum c =
    let fits : FitsSigned w32 c.in-Some-get-2.lit.now.k = search rules in
    omega (
      arith,
      ints,
      c.loop-pick.invariant.1,
      c.loop-pick.invariant.2,
      c.loop-pick.invariant.3,
      c.loop-pick-test.true,
    )

-- one literal more goes on with the walk
pub loop-pick-preserved : goal.loop-pick-preserved
loop-pick-preserved c =
    let there = c.in-Some-get-2.ensures.lookup.3 in
    let pick = get_or c.in-Some.rest.now c.loop-pick.pick-index 0 in
    let fits : FitsSigned w32 c.in-Some-get-2.lit.now.k = search rules in
    let more = drop_more c.in-Some.rest.now c.loop-pick.pick-index 0 c.loop-pick-test.true in (
      λ rest.
          c.loop-pick.invariant.0
          (subst (λ (l : List ℕ). Closes c.args.lits.now c.loop-pick.name c.in-Some-get.lit.now.x
          (to_z w64 c.loop-pick.sum-bits) l) (sym more)
          (closes_before c.args.lits.now c.loop-pick.name c.in-Some-get.lit.now.x pick (to_z w64 c.loop-pick.sum-bits) _
          (drop (c.loop-pick.pick-index + 1) c.in-Some.rest.now) c.in-Some-get-2.lit.now
          (slice_get_read c.args.lits.now (length c.args.lits.now) pick c.in-Some-get-2.lit.now refl there.0
          (there.1 c.in-Some-get-2.lit.now))
          c.if-x-name.false (omega (
            arith,
            ints,
            c.loop-pick.invariant.1,
            c.loop-pick.invariant.2,
            c.loop-pick.invariant.3,
            c.loop-pick-test.true,
          )) rest)),
      omega (arith, ints, c.loop-pick.invariant.1),
      omega (arith, ints, c.loop-pick.invariant.2),
      c.loop-pick.invariant.3,
    )

pub returns-then-name-start : goal.returns-then-name-start
returns-then-name-start c =
    λ low.
    let none : drop c.loop-pick.pick-index c.in-Some.rest.now ≡ [] =
    drop_all c.loop-pick.pick-index c.in-Some.rest.now (omega (arith, c.loop-pick-test.false)) in
    c.loop-pick.invariant.0
    (subst (λ (l : List ℕ). Closes c.args.lits.now c.loop-pick.name c.in-Some-get.lit.now.x
    (to_z w64 c.loop-pick.sum-bits) l) (sym none)
    (closes_there c.args.lits.now c.loop-pick.name c.in-Some-get.lit.now.x (to_z w64 c.loop-pick.sum-bits)
    c.if-name-start.true (grind (arith, ints, low))))
