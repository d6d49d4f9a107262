-- A start is at the front of a settled goal exactly where a transformation begins.
use Rattle.std.proofs.Common.{◌≡◌, ℕ, zero, suc, ◌+◌, ◌-◌, ◌<◌, ◌≤◌, Bool, true, false, not, nat_eq, nat_lt}
use Rattle.std.proofs.Common.{if◌then◌else◌, IsTrue, Option, Some, None, List, [], ◌∷◌, ◌++◌, length, refl, sym, subst}
use Rattle.std.proofs.Common.{arith}
use Rattle.std.specs.Option.{is_some}
use Rattle.std.proofs.lemmas.Bool.Decides.{nat_tests}
use Rattle.std.proofs.lemmas.List.{length-append, length-take-le}
use Rattle.fn_rules.specs.declared.function.ObName.{ObName}
use Rattle.fn_rules.specs.declared.function.ObName.TheVariants.{Pair, Triple}
use Rattle.fn_rules.specs.Functions.{Function}
use Rattle.proof_trees.specs.Starts as trees
use Rattle.proof_trees.specs.Starts.{Ask, start_of}
use Rattle.proof_trees.specs.Startless.{startless}
use Rattle.ask_core.specs.Plans as plain
use Rattle.ask_core.specs.Plans.{Plan}
use Rattle.ot_questions.specs.declared.place.Place.{Place}
use Rattle.ot_questions.specs.declared.place.SymOp.{SymOp}
use Rattle.ot_questions.specs.declared.place.SymOp.TheVariants.{Nop}
use Rattle.ot_questions.specs.declared.why.Why.{Why}
use Rattle.ot_questions.specs.Places.{by_order}
use Rattle.ot_terms.specs.declared.goal.GoalProgress.{GoalProgress}
use Rattle.ot_terms.specs.Belonging.{IsGoalOf, HasParts, IsProgressOf, AreOperandsOf, next_operands}
use Rattle.ot_terms.specs.Forms as forms
use Rattle.ot_terms.specs.Goals.{GoalTree, Holds, Fails, If, Choose, Deliver, Same}
use Rattle.ot_terms.specs.Standing.{ask_after, results_of}
use Rattle.ot_terms.specs.Weights.{transforms_of}
use Rattle.start_laws.specs.Begun.{start_after}
use Rattle.start_laws.specs.Starts.{Start}
use Rattle.start_laws.specs.Marking.{Marked, with_start, marked_places, marked_form, marked_transform, marked_next}
use Rattle.start_laws.specs.Marking.{marked_after, marked_goal}
use Rattle.start_laws.specs.Settled.{is_begun, front_start, is_settled}

start_of-with_start : (start : Option Start) (p : Marked) → start_of (with_start start p) ≡ start
start_of-with_start start (Ask other l on_yes on_no) = refl
start_of-with_start start (trees.Holds other) = refl
start_of-with_start start (trees.Fails other why) = refl

none_of : (p : Plan Why) → start_of (startless {S = Start} p) ≡ None
none_of (plain.Ask l on_yes on_no) = refl
none_of plain.Holds = refl
none_of (plain.Fails why) = refl

-- another transformation follows while there are fewer results than transformations
next_there :
    (ob : ObName) (os got : List SymOp) → AreOperandsOf ob os → length got < transforms_of ob
    → is_some (next_operands ob os got) ≡ true
next_there (Pair k l) os got made h =
    subst (λ t. is_some (next_operands (Pair k l) t got) ≡ true) (sym made.2) (of_two got h)
  where
    of_two : (got : List SymOp) → length got < 2
        → is_some (next_operands (Pair k l) (made.0 ∷ made.1 ∷ Nop ∷ []) got) ≡ true
    of_two [] h = refl
    of_two (x ∷ []) h = refl
    of_two (x ∷ y ∷ got) h = absurd (omega arith)
next_there (Triple k l m) os got made h =
    subst (λ t. is_some (next_operands (Triple k l m) t got) ≡ true) (sym made.3) (of_three got h)
  where
    of_three :
        (got : List SymOp) → length got < 6
        → is_some (next_operands (Triple k l m) (made.0 ∷ made.1 ∷ made.2 ∷ []) got) ≡ true
    of_three [] h = refl
    of_three (x ∷ []) h = refl
    of_three (x ∷ y ∷ []) h = refl
    of_three (x ∷ y ∷ z ∷ []) h = refl
    of_three (x ∷ y ∷ z ∷ u ∷ []) h = refl
    of_three (x ∷ y ∷ z ∷ u ∷ v ∷ []) h = refl
    of_three (x ∷ y ∷ z ∷ u ∷ v ∷ w ∷ got) h = absurd (omega arith)

count_with : (progress : GoalProgress) (r : SymOp) → progress.count ≤ length progress.got
    → length (results_of progress ++ r ∷ []) ≡ 1 + progress.count
count_with progress r h =
    let there : length (results_of progress) ≡ progress.count = length-take-le progress.count progress.got h in
    let more : length (results_of progress ++ r ∷ []) ≡ length (results_of progress) + 1 =
    length-append (results_of progress) (r ∷ []) in
    omega arith

room_for : (ob : ObName) (progress : GoalProgress) → IsProgressOf ob progress → progress.count ≤ length progress.got
room_for (Pair k l) progress h = let room : length progress.got ≡ 6 = h.room in
    let awaited : progress.count < 2 = h.awaited in omega arith
room_for (Triple k l m) progress h = let room : length progress.got ≡ 6 = h.room in
    let awaited : progress.count < 6 = h.awaited in omega arith

-- a transformation begins at the front exactly where a start is there
pub begun_is_some : (g : GoalTree) → is_begun g ≡ is_some (front_start g)
begun_is_some Holds = refl
begun_is_some (Fails why) = refl
begun_is_some (If g on_yes on_no) = refl
begun_is_some (Choose zero a b progress) = refl
begun_is_some (Choose (suc case) a b progress) = refl
begun_is_some (Deliver o progress) = by_test (nat_lt (1 + progress.count) (transforms_of progress.ob))
  where
    by_test : (b : Bool) → b ≡ is_some (if b then Some (start_after progress (Some o)) else None)
    by_test true = refl
    by_test false = refl
begun_is_some (Same left right) = refl

module _ (f : Function) where
  start_of-next :
      (s : Start) (next : Option (SymOp × SymOp)) (go : SymOp → Marked) → is_some next ≡ true
      → start_of (marked_next f s next go) ≡ Some s
  unfolding marked_next
  start_of-next s None go e = absurd (cc)
  start_of-next s (Some next) go e = start_of-with_start (Some s) (marked_transform f 0 next.0 next.1 go)

  -- where a transformation follows, it begins here
  start_of-after :
      (most : ℕ) (s : Start) (b : Bool) → nat_lt 0 most ≡ b
      → (0 < most → is_some (next_operands s.ob s.ops s.got) ≡ true)
      → start_of (marked_after most f s.ob s.ops s.got) ≡ (if b then Some s else None)
  unfolding marked_after
  start_of-after zero s true e h = absurd (cc)
  start_of-after zero s false e h = none_of (ask_after f s.ob s.ops s.got)
  start_of-after (suc most) s true e h =
      start_of-next s (next_operands s.ob s.ops s.got)
      (λ r. marked_after most f s.ob s.ops (s.got ++ r ∷ [])) (h (omega arith))
  start_of-after (suc most) s false e h = absurd (grind (arith, nat_tests))

  same_test : (m n : ℕ) → nat_lt 0 (n - (1 + m)) ≡ nat_lt (1 + m) n
  same_test m n = grind (arith, nat_tests)

  -- where a result is delivered, the plan has the start at the goal's front, if one is there
  start_of-result :
      (ob : ObName) (o : SymOp) (progress : GoalProgress) → HasParts f ob (Deliver o progress)
      → start_of (marked_goal f (Deliver o progress)) ≡ front_start (Deliver o progress)
  unfolding marked_goal
  start_of-result ob o progress h =
      let left = transforms_of progress.ob - (1 + progress.count) in
      let made : AreOperandsOf progress.ob progress.ops =
      subst (λ t. AreOperandsOf t progress.ops) (sym h.0.same) h.0.made in
      let count : length (results_of progress ++ o ∷ []) ≡ 1 + progress.count =
      count_with progress o (room_for ob progress h.0) in
      start_of-after left (start_after progress (Some o)) (nat_lt (1 + progress.count) (transforms_of progress.ob))
      (same_test progress.count (transforms_of progress.ob))
      (λ (some : 0 < left). next_there progress.ob progress.ops (results_of progress ++ o ∷ []) made (omega arith))

  start_of-question :
      (x y : Place) (p q : Marked) (b : Bool) → nat_eq x.var y.var ≡ b → not b ≡ true
      → start_of (by_order marked_places x y p q) ≡ None
  start_of-question x y p q true e asked = absurd (cc)
  start_of-question x y p q false e asked = rw e refl

  -- the plan of a settled goal has the start at the goal's front, if one is there
  pub starts_at_front :
      (ob : ObName) (g : GoalTree) → IsGoalOf f ob g → IsTrue (is_settled g)
      → start_of (marked_goal f g) ≡ front_start g
  unfolding marked_goal marked_form
  starts_at_front ob Holds h settled = refl
  starts_at_front ob (Fails why) h settled = refl
  starts_at_front ob (If (forms.Le x y) on_yes on_no) h settled =
      start_of-question x y (marked_goal f on_yes) (marked_goal f on_no) (nat_eq x.var y.var) refl settled
  starts_at_front ob (If forms.True on_yes on_no) h settled = absurd (cc)
  starts_at_front ob (If (forms.Lt x y) on_yes on_no) h settled = absurd (cc)
  starts_at_front ob (If (forms.Eq x y) on_yes on_no) h settled = absurd (cc)
  starts_at_front ob (If (forms.And a b) on_yes on_no) h settled = absurd (cc)
  starts_at_front ob (If (forms.Or a b) on_yes on_no) h settled = absurd (cc)
  starts_at_front ob (If (forms.Not a) on_yes on_no) h settled = absurd (cc)
  starts_at_front ob (Choose zero a b progress) h settled = start_of-with_start (Some (start_after progress None)) _
  starts_at_front ob (Choose (suc case) a b progress) h settled = absurd (cc)
  starts_at_front ob (Deliver o progress) h settled = start_of-result ob o progress h.parts
  starts_at_front ob (Same left right) h settled = absurd (cc)
