-- The results of an obligation are few, and at small offsets.
use Rattle.std.proofs.Common.{◌≡◌, ◌⊎◌, ℕ, ◌≤◌, Option, Some, None, List, [], ◌∷◌, ◌++◌, length, take, subst, sym, inl}
use Rattle.std.proofs.Common.{inr, arith, lit≤}
use Rattle.std.specs.Prelude.{MatchOption, nat_eq, if◌then◌else◌, Bool, true, false}
use Rattle.std.specs.List.{AllByRecursion}
use Rattle.std.proofs.lemmas.List.{length-append, length-take}
use Rattle.fn_rules.specs.declared.function.ObName.{ObName}
use Rattle.fn_rules.specs.declared.function.ObName.TheVariants.{Pair, Triple}
use Rattle.ot_questions.specs.declared.place.SymOp.{SymOp}
use Rattle.ot_questions.specs.declared.place.SymOp.TheVariants.{Nop}
use Rattle.ot_questions.specs.Names.{name_count}
use Rattle.ot_questions.specs.Nears.{IsNearOp}
use Rattle.ot_questions.specs.Places.{sym_at}
use Rattle.ot_questions.proofs.Listed.{each_appended}
use Rattle.ot_questions.proofs.Nears.{IsNear-more, IsNear-zero}
use Rattle.ot_terms.specs.declared.goal.GoalProgress.{GoalProgress}
use Rattle.ot_terms.specs.Standing.{results_of}
use Rattle.ot_terms.specs.Weights.{transforms_of}
use Rattle.ot_terms.specs.Belonging.{IsMoved, IsNextResult, AreResults, IsProgressOf, next_operands, reach_of}
use Rattle.start_laws.specs.Begun.{IsBegunProgress}

by_test : (t : Bool) (m n : ℕ) → m ≤ 1000 → n ≤ 1000 → (if t then m else n) ≤ 1000
by_test true m n h g = h
by_test false m n h g = g

reach_small : (ob : ObName) (n : ℕ) → reach_of ob n ≤ 1000
reach_small (Pair k l) n = lit≤ tt
reach_small (Triple k l m) n = by_test (nat_eq n 2) 198 _ (lit≤ tt) (by_test (nat_eq n 5) 198 99 (lit≤ tt) (lit≤ tt))

moved_near :
    (count reach : ℕ) (next : Option (SymOp × SymOp)) (r : SymOp) → reach ≤ 1000
    → MatchOption next ⊥ (λ pair. (r ≡ Nop) ⊎ IsMoved count reach pair.0 r) → IsNearOp 1000 r
moved_near count reach None r few h = absurd h
moved_near count reach (Some pair) r few (inl none) = subst (IsNearOp 1000) (sym none) (IsNear-zero 1000)
moved_near count reach (Some pair) r few (inr moved) = IsNear-more reach 1000 (sym_at r).off few moved.near

next_near : (ob : ObName) (os got : List SymOp) (r : SymOp) → IsNextResult ob os got r → IsNearOp 1000 r
next_near ob os got r h =
    moved_near (name_count ob) (reach_of ob (length got)) (next_operands ob os got) r (reach_small ob (length got)) h

each_near : (ob : ObName) (os before got : List SymOp) → AreResults ob os before got
    → AllByRecursion (IsNearOp 1000) got
each_near ob os before [] h = tt
each_near ob os before (r ∷ got) h = (next_near ob os before r h.0, each_near ob os (before ++ r ∷ []) got h.1)

few_transforms : (ob : ObName) → transforms_of ob ≤ 6
few_transforms (Pair k l) = lit≤ tt
few_transforms (Triple k l m) = lit≤ tt

taken_few : {X : Type 0} (n : ℕ) (xs : List X) → length (take n xs) ≤ n
taken_few n xs = omega (arith, length-take n xs)

-- the results of a progress are few, and at small offsets
pub progress_begun : (ob : ObName) (progress : GoalProgress) → IsProgressOf ob progress → IsBegunProgress progress None
progress_begun ob progress h =
    let few = taken_few progress.count progress.got in
    let awaited = h.awaited in
    let most = few_transforms ob in
    record {
      room = h.room;
      few = omega arith;
      count = omega arith;
      near = each_near progress.ob progress.ops [] (results_of progress)
          (subst (λ o. AreResults o progress.ops [] (results_of progress)) (sym h.same) h.results);
    }

-- so are they with one more result
pub result_begun :
    (ob : ObName) (progress : GoalProgress) (r : SymOp) → IsProgressOf ob progress
    → IsNextResult ob progress.ops (results_of progress) r
    → IsBegunProgress progress (Some r)
result_begun ob progress r h next =
    let before = progress_begun ob progress h in
    let few = taken_few progress.count progress.got in
    let awaited = h.awaited in
    let most = few_transforms ob in
    record {
      room = h.room;
      few = omega (arith, length-append (results_of progress) (r ∷ []));
      count = before.count;
      near = each_appended (IsNearOp 1000) (results_of progress) (r ∷ []) before.near
          (next_near ob progress.ops (results_of progress) r next, tt);
    }
