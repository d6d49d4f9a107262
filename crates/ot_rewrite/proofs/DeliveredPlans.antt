-- What is asked behind one more result.
use Rattle.std.proofs.Common.{◌≡◌, ℕ, zero, suc, ◌<◌, Option, Some, None, List, [], ◌∷◌, ◌++◌, length, take, slice_set}
use Rattle.std.proofs.Common.{refl, ap, ◌∙◌, arith}
use Rattle.ot_model.specs.declared.op.Kind.{Kind}
use Rattle.fn_rules.specs.declared.function.ObName.{ObName}
use Rattle.fn_rules.specs.declared.function.ObName.TheVariants.{Pair, Triple}
use Rattle.fn_rules.specs.Functions.{Function}
use Rattle.ask_core.specs.Plans.{Plan}
use Rattle.ot_questions.specs.declared.place.SymOp.{SymOp}
use Rattle.ot_questions.specs.declared.why.Why.{Why}
use Rattle.ot_questions.specs.Questions.{ask_transform}
use Rattle.ot_questions.specs.Obligation.{ask_converge, ask_behind, ask_commute}
use Rattle.ot_terms.specs.declared.goal.GoalProgress.{GoalProgress}
use Rattle.ot_terms.specs.Goals.{Deliver}
use Rattle.ot_terms.specs.Standing.{ask_goal, ask_after, ask_pair_after, ask_second_way_after, ask_triple_after}
use Rattle.ot_terms.specs.Standing.{results_of}
use Rattle.ot_terms.specs.Belonging.{AreOperandsOf, next_operands}
use Rattle.ot_rewrite.specs.Ends.{end_goal}
use Rattle.ot_rewrite.specs.Table.{with_result, go_on, rewrite_deliver}
use Rattle.ot_rewrite.proofs.DeliveredEnds.{one_form_asks, both_ways_ask}

taken_set : {X : Type 0} (xs : List X) (n : ℕ) (x : X) → n < length xs
    → take (suc n) (slice_set xs n x) ≡ take n xs ++ x ∷ []
taken_set [] n x h = absurd (omega arith)
taken_set (y ∷ ys) zero x h = refl
taken_set (y ∷ ys) (suc n) x h = ap (λ t. y ∷ t) (taken_set ys n x (omega arith))

-- one more result stands behind those that are there
pub results_of-with_result :
    (progress : GoalProgress) (r : SymOp) → progress.count < length progress.got
    → results_of (with_result progress r) ≡ results_of progress ++ r ∷ []
results_of-with_result progress r h = taken_set progress.got progress.count r h

-- a triple has three operations
fewer_made : (k l m : Kind) (os : List SymOp) → length os < 3 → AreOperandsOf (Triple k l m) os → ⊥
fewer_made k l m os h made = let three : length os ≡ 3 = ap length made.3 in omega arith

module _ (f : Function) where
  -- what is left after these results, by the next transformation, if there is one
  abbrev ask_on : ObName → List SymOp → List SymOp → Option (SymOp × SymOp) → Plan Why
  ask_on ob os got (Some pair) = ask_transform f pair.0 pair.1 (λ r. ask_after f ob os (got ++ r ∷ []))
  ask_on ob os got None = ask_goal f (end_goal f.head.mode ob os got)

  go_on_asks :
      (progress : GoalProgress) (next : Option (SymOp × SymOp))
      → ask_goal f (go_on f progress next) ≡ ask_on progress.ob progress.ops (results_of progress) next
  unfolding ask_goal
  go_on_asks progress (Some pair) = refl
  go_on_asks progress None = refl

  -- the next transformation, or the end, asks what is left after the results
  next_asks :
      (ob : ObName) (os got : List SymOp) → AreOperandsOf ob os
      → ask_on ob os got (next_operands ob os got) ≡ ask_after f ob os got
  unfolding ask_goal ask_after ask_pair_after ask_triple_after ask_second_way_after ask_converge ask_commute ask_behind
  next_asks (Pair k l) [] got made = refl
  next_asks (Pair k l) (a ∷ []) got made = refl
  next_asks (Pair k l) (a ∷ b ∷ os) [] made = refl
  next_asks (Pair k l) (a ∷ b ∷ os) (x ∷ []) made = refl
  next_asks (Pair k l) (a ∷ b ∷ os) (x ∷ y ∷ got) made = both_ways_ask f a x b y
  next_asks (Triple k l m) [] got made = absurd (fewer_made k l m [] (omega arith) made)
  next_asks (Triple k l m) (a ∷ []) got made = absurd (fewer_made k l m (a ∷ []) (omega arith) made)
  next_asks (Triple k l m) (a ∷ b ∷ []) got made = absurd (fewer_made k l m (a ∷ b ∷ []) (omega arith) made)
  next_asks (Triple k l m) (a ∷ b ∷ c ∷ os) [] made = refl
  next_asks (Triple k l m) (a ∷ b ∷ c ∷ os) (x ∷ []) made = refl
  next_asks (Triple k l m) (a ∷ b ∷ c ∷ os) (x ∷ y ∷ []) made = refl
  next_asks (Triple k l m) (a ∷ b ∷ c ∷ os) (x ∷ y ∷ left ∷ []) made = refl
  next_asks (Triple k l m) (a ∷ b ∷ c ∷ os) (x ∷ y ∷ left ∷ u ∷ []) made = refl
  next_asks (Triple k l m) (a ∷ b ∷ c ∷ os) (x ∷ y ∷ left ∷ u ∷ v ∷ []) made = refl
  next_asks (Triple k l m) (a ∷ b ∷ c ∷ os) (x ∷ y ∷ left ∷ u ∷ v ∷ right ∷ got) made = one_form_asks f left right

  pub deliver_asks :
      (r : SymOp) (progress : GoalProgress) → AreOperandsOf progress.ob progress.ops
      → progress.count < length progress.got
      → ask_goal f (rewrite_deliver f r progress) ≡ ask_goal f (Deliver r progress)
  unfolding ask_goal
  deliver_asks r progress made h =
      go_on_asks (with_result progress r) (next_operands progress.ob progress.ops (results_of (with_result progress r)))
      ∙ (next_asks progress.ob progress.ops (results_of (with_result progress r)) made
      ∙ ap (ask_after f progress.ob progress.ops) (results_of-with_result progress r h))
