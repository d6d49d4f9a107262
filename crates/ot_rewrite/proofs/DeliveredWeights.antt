-- Delivering a result makes a goal lighter.
use Rattle.std.proofs.Common.{◌≡◌, ℕ, suc, ◌+◌, ◌-◌, ◌*◌, ◌<◌, ◌≤◌, ℤ, ◌+ℤ◌, Bool, true, false, if◌then◌else◌, Option}
use Rattle.std.proofs.Common.{Some, None, List, [], ◌∷◌, ◌++◌, length, map, refl, ap, arith}
use Rattle.std.specs.List.{sum}
use Rattle.std.proofs.lemmas.List.{length-append, length-take-le}
use Rattle.std.specs.Ordering.{int_eq}
use Rattle.ot_model.specs.declared.op.Kind.{Kind}
use Rattle.ot_model.specs.declared.op.Kind.TheVariants as kinds
use Rattle.ot_model.specs.Kinds.{kind_pairs}
use Rattle.ot_model.specs.declared.op.Mode.{Mode}
use Rattle.ot_model.specs.declared.op.Mode.TheVariants.{Plain, Tomb}
use Rattle.fn_rules.specs.declared.function.ObName.{ObName}
use Rattle.fn_rules.specs.declared.function.ObName.TheVariants.{Pair, Triple}
use Rattle.fn_rules.specs.Functions.{Function}
use Rattle.ot_questions.specs.declared.place.Place.{Place}
use Rattle.ot_questions.specs.declared.place.SymOp.{SymOp}
use Rattle.ot_questions.specs.declared.place.SymOp.TheVariants.{Ins, Del, Upd, Nop}
use Rattle.ot_questions.specs.declared.why.Why.TheVariants.{Lengths}
use Rattle.ot_questions.specs.Places.{sym_kind, sym_at, growth}
use Rattle.ot_terms.specs.declared.goal.GoalProgress.{GoalProgress}
use Rattle.ot_terms.specs.Documents.{DocTree}
use Rattle.ot_terms.specs.Goals.{GoalTree, Fails, Deliver}
use Rattle.ot_terms.specs.Changes.{changed, doc_of}
use Rattle.ot_terms.specs.Starting.{enabled_form}
use Rattle.ot_terms.specs.Standing.{results_of}
use Rattle.ot_terms.specs.Weights.{form_weight, cases_weight, doc_weight, transforms_of, function_weight}
use Rattle.ot_terms.specs.Weights.{cases_of_kinds, goal_weight}
use Rattle.ot_terms.specs.Belonging.{next_operands}
use Rattle.ot_rewrite.specs.Ends.{same_documents, same_lengths, both_ways, one_place, end_goal}
use Rattle.ot_rewrite.specs.Table.{with_result, go_on, rewrite_deliver}
use Rattle.ot_rewrite.proofs.DeliveredPlans.{results_of-with_result}

-- the block of two kinds is no heavier than all blocks together
one_of_all : (w : Kind → Kind → ℕ) (k l : Kind) → w k l ≤ sum (map (λ pair. w pair.0 pair.1) kind_pairs)
one_of_all w kinds.Ins kinds.Ins = omega arith
one_of_all w kinds.Ins kinds.Del = omega arith
one_of_all w kinds.Ins kinds.Upd = omega arith
one_of_all w kinds.Del kinds.Ins = omega arith
one_of_all w kinds.Del kinds.Del = omega arith
one_of_all w kinds.Del kinds.Upd = omega arith
one_of_all w kinds.Upd kinds.Ins = omega arith
one_of_all w kinds.Upd kinds.Del = omega arith
one_of_all w kinds.Upd kinds.Upd = omega arith

block_weight : (f : Function) (k l : Option Kind) → cases_weight (cases_of_kinds f k l) ≤ function_weight f
block_weight f None l = omega arith
block_weight f (Some k) None = omega arith
block_weight f (Some k) (Some l) = one_of_all (λ x y. cases_weight (f.cases x y)) k l

-- an obligation is behind its last result once there are as many as it has transformations
next_within :
    (ob : ObName) (os got : List SymOp) (pair : SymOp × SymOp) → next_operands ob os got ≡ Some pair
    → length got < transforms_of ob
next_within (Pair k l) [] got pair e = absurd (cc)
next_within (Pair k l) (a ∷ []) got pair e = absurd (cc)
next_within (Pair k l) (a ∷ b ∷ os) [] pair e = omega arith
next_within (Pair k l) (a ∷ b ∷ os) (x ∷ []) pair e = omega arith
next_within (Pair k l) (a ∷ b ∷ os) (x ∷ y ∷ got) pair e = absurd (cc)
next_within (Triple k l m) [] got pair e = absurd (cc)
next_within (Triple k l m) (a ∷ []) got pair e = absurd (cc)
next_within (Triple k l m) (a ∷ b ∷ []) got pair e = absurd (cc)
next_within (Triple k l m) (a ∷ b ∷ c ∷ os) [] pair e = omega arith
next_within (Triple k l m) (a ∷ b ∷ c ∷ os) (x ∷ []) pair e = omega arith
next_within (Triple k l m) (a ∷ b ∷ c ∷ os) (x ∷ y ∷ []) pair e = omega arith
next_within (Triple k l m) (a ∷ b ∷ c ∷ os) (x ∷ y ∷ z ∷ []) pair e = omega arith
next_within (Triple k l m) (a ∷ b ∷ c ∷ os) (x ∷ y ∷ z ∷ u ∷ []) pair e = omega arith
next_within (Triple k l m) (a ∷ b ∷ c ∷ os) (x ∷ y ∷ z ∷ u ∷ v ∷ []) pair e = omega arith
next_within (Triple k l m) (a ∷ b ∷ c ∷ os) (x ∷ y ∷ z ∷ u ∷ v ∷ w ∷ got) pair e = absurd (cc)

pub count_with_result :
    (progress : GoalProgress) (r : SymOp) → progress.count < length progress.got
    → length (results_of (with_result progress r)) ≡ suc progress.count
count_with_result progress r h =
    let there : length (results_of progress) ≡ progress.count =
    length-take-le progress.count progress.got (omega arith) in
    let more : length (results_of progress ++ r ∷ []) ≡ length (results_of progress) + 1 =
    length-append (results_of progress) (r ∷ []) in
    let all : length (results_of (with_result progress r)) ≡ length (results_of progress ++ r ∷ []) =
    ap length (results_of-with_result progress r h) in
    omega arith

pub awaits_next :
    (progress : GoalProgress) (r : SymOp) (pair : SymOp × SymOp) → progress.count < length progress.got
    → next_operands progress.ob progress.ops (results_of (with_result progress r)) ≡ Some pair
    → suc progress.count < transforms_of progress.ob
awaits_next progress r pair h e =
    let within = next_within progress.ob progress.ops (results_of (with_result progress r)) pair e in
    let count : length (results_of (with_result progress r)) ≡ suc progress.count = count_with_result progress r h in
    omega arith

-- the weight of the ends
changed_weight : (mode : Mode) (o : SymOp) (d : DocTree) → doc_weight (changed mode o d) ≤ 9 + 2 * doc_weight d
changed_weight mode (Ins at ch site) d = omega arith
changed_weight Plain (Del at site) d = omega arith
changed_weight Tomb (Del at site) d = omega arith
changed_weight mode (Upd at ch site) d = omega arith
changed_weight mode Nop d = omega arith

twice_changed_weight : (mode : Mode) (a b : SymOp) → doc_weight (doc_of mode (b ∷ a ∷ [])) ≤ 31
twice_changed_weight mode a b =
    let first : doc_weight (doc_of mode (a ∷ [])) ≤ 11 = changed_weight mode a (doc_of mode []) in
    let second : doc_weight (doc_of mode (b ∷ a ∷ [])) ≤ 9 + 2 * doc_weight (doc_of mode (a ∷ [])) =
    changed_weight mode b (doc_of mode (a ∷ [])) in
    omega arith

enabled_weight : (o : SymOp) (off : ℤ) → form_weight (enabled_form o off) ≤ 4
enabled_weight (Ins at ch site) off = omega arith
enabled_weight (Del at site) off = omega arith
enabled_weight (Upd at ch site) off = omega arith
enabled_weight Nop off = omega arith

module _ (f : Function) where
  if_weight : (t : Bool) (g : GoalTree) → goal_weight f g ≤ 128 → goal_weight f (if t then g else Fails Lengths) ≤ 128
  if_weight true g h = h
  if_weight false g h = omega arith

  documents_weight :
      (mode : Mode) (a b c d : SymOp) (off : ℤ)
      → goal_weight f (same_documents (doc_of mode (b ∷ a ∷ [])) (doc_of mode (d ∷ c ∷ [])) off) ≤ 128
  documents_weight mode a b c d off =
      let left : doc_weight (doc_of mode (b ∷ a ∷ [])) ≤ 31 = twice_changed_weight mode a b in
      let right : doc_weight (doc_of mode (d ∷ c ∷ [])) ≤ 31 = twice_changed_weight mode c d in
      omega arith

  lengths_weight :
      (mode : Mode) (a b_after_a b a_after_b : SymOp) → goal_weight f (same_lengths mode a b_after_a b a_after_b) ≤ 128
  lengths_weight mode a b_after_a b a_after_b =
      let left = growth mode a +ℤ growth mode b_after_a in
      if_weight (int_eq left (growth mode b +ℤ growth mode a_after_b))
      (same_documents (doc_of mode (b_after_a ∷ a ∷ [])) (doc_of mode (a_after_b ∷ b ∷ [])) left)
      (documents_weight mode a b_after_a b a_after_b left)

  both_ways_weight :
      (mode : Mode) (a b_after_a b a_after_b : SymOp) → goal_weight f (both_ways mode a b_after_a b a_after_b) ≤ 200
  both_ways_weight mode a b_after_a b a_after_b =
      let first : form_weight (enabled_form b_after_a (growth mode a)) ≤ 4 = enabled_weight b_after_a (growth mode a) in
      let second : form_weight (enabled_form a_after_b (growth mode b)) ≤ 4 =
      enabled_weight a_after_b (growth mode b) in
      let last : goal_weight f (same_lengths mode a b_after_a b a_after_b) ≤ 128 =
      lengths_weight mode a b_after_a b a_after_b in
      omega arith

  one_place_weight : (k l : Option Kind) (at there : Place) → goal_weight f (one_place k l at there) ≤ 200
  one_place_weight None None at there = omega arith
  one_place_weight None (Some l) at there = omega arith
  one_place_weight (Some k) None at there = omega arith
  one_place_weight (Some k) (Some l) at there = omega arith

  -- the goal at the end of an obligation weighs at most 200
  end_goal_weight : (mode : Mode) (ob : ObName) (os got : List SymOp) → goal_weight f (end_goal mode ob os got) ≤ 200
  end_goal_weight mode (Pair k l) [] got = omega arith
  end_goal_weight mode (Pair k l) (a ∷ []) got = omega arith
  end_goal_weight mode (Pair k l) (a ∷ b ∷ os) [] = omega arith
  end_goal_weight mode (Pair k l) (a ∷ b ∷ os) (x ∷ []) = omega arith
  end_goal_weight mode (Pair k l) (a ∷ b ∷ os) (x ∷ y ∷ got) = both_ways_weight mode a x b y
  end_goal_weight mode (Triple k l m) os [] = omega arith
  end_goal_weight mode (Triple k l m) os (x ∷ []) = omega arith
  end_goal_weight mode (Triple k l m) os (x ∷ y ∷ []) = omega arith
  end_goal_weight mode (Triple k l m) os (x ∷ y ∷ z ∷ []) = omega arith
  end_goal_weight mode (Triple k l m) os (x ∷ y ∷ z ∷ u ∷ []) = omega arith
  end_goal_weight mode (Triple k l m) os (x ∷ y ∷ z ∷ u ∷ v ∷ []) = omega arith
  end_goal_weight mode (Triple k l m) os (x ∷ y ∷ left ∷ u ∷ v ∷ right ∷ got) =
      one_place_weight (sym_kind left) (sym_kind right) (sym_at left) (sym_at right)

  -- one transformation fewer is left
  rest_falls :
      (all count block whole : ℕ) → suc count < all → block ≤ whole
      → 2 + block + ((all - (1 + suc count)) * (3 + whole) + 200) < 1 + ((all - (1 + count)) * (3 + whole) + 200)
  rest_falls all count block whole h le =
      let left = all - (1 + suc count) in
      let one_more : all - (1 + count) ≡ suc left = omega arith in
      let more : suc left * (3 + whole) ≡ left * (3 + whole) + (3 + whole) = grind arith in
      rw one_more (rw more (omega arith))

  end_falls : (weight rest : ℕ) → weight ≤ 200 → weight < 1 + (rest + 200)
  end_falls weight rest h = omega arith

  -- what comes after a result is lighter than its delivery
  go_on_falls :
      (r : SymOp) (progress : GoalProgress) (next : Option (SymOp × SymOp)) → progress.count < length progress.got
      → next_operands progress.ob progress.ops (results_of (with_result progress r)) ≡ next
      → goal_weight f (go_on f (with_result progress r) next) < goal_weight f (Deliver r progress)
  go_on_falls r progress (Some pair) h e =
      rest_falls (transforms_of progress.ob) progress.count
      (cases_weight (cases_of_kinds f (sym_kind pair.0) (sym_kind pair.1)))
      (function_weight f) (awaits_next progress r pair h e) (block_weight f (sym_kind pair.0) (sym_kind pair.1))
  go_on_falls r progress None h e =
      end_falls (goal_weight f (end_goal f.head.mode progress.ob progress.ops (results_of (with_result progress r))))
      ((transforms_of progress.ob - (1 + progress.count)) * (3 + function_weight f))
      (end_goal_weight f.head.mode progress.ob progress.ops (results_of (with_result progress r)))

  pub deliver_falls :
      (r : SymOp) (progress : GoalProgress) → progress.count < length progress.got
      → goal_weight f (rewrite_deliver f r progress) < goal_weight f (Deliver r progress)
  deliver_falls r progress h =
      go_on_falls r progress (next_operands progress.ob progress.ops (results_of (with_result progress r))) h refl
