-- The goals behind a result have parts of the obligation.
use Rattle.std.proofs.Common.{◌≡◌, ℕ, ◌+◌, ◌<◌, ◌≤◌, ℤ, pos, ◌+ℤ◌, Bool, true, false, if◌then◌else◌, IsTrue, Option}
use Rattle.std.proofs.Common.{Some, None, List, [], ◌∷◌, ◌++◌, length, refl, sym, ◌∙◌, subst, arith}
use Rattle.std.proofs.lemmas.Int.{ints}
use Rattle.std.proofs.lemmas.List.{append-nil, append_assoc, length-set}
use Rattle.std.specs.Ordering.{int_eq}
use Rattle.ot_model.specs.declared.op.Kind.{Kind}
use Rattle.ot_model.specs.declared.op.Mode.{Mode}
use Rattle.ot_model.specs.declared.op.Mode.TheVariants.{Plain, Tomb}
use Rattle.fn_rules.specs.declared.function.ObName.{ObName}
use Rattle.fn_rules.specs.declared.function.ObName.TheVariants.{Pair, Triple}
use Rattle.fn_rules.specs.Functions.{Function}
use Rattle.fn_rules.specs.Obligations.{is_obligation}
use Rattle.ot_questions.specs.declared.place.Place.{Place}
use Rattle.ot_questions.specs.declared.place.SymOp.{SymOp}
use Rattle.ot_questions.specs.declared.place.SymOp.TheVariants.{Ins, Del, Upd, Nop}
use Rattle.ot_questions.specs.declared.why.Why.TheVariants.{Lengths}
use Rattle.ot_questions.specs.Names.{name_count}
use Rattle.ot_questions.specs.Nears.{IsNear}
use Rattle.ot_questions.specs.Places.{zero_place, length_and, index_and, sym_kind, sym_at, growth}
use Rattle.ot_questions.proofs.Nears.{IsNear-zero, IsNear-plus}
use Rattle.ot_terms.specs.declared.goal.GoalProgress.{GoalProgress}
use Rattle.ot_terms.specs.Documents as documents
use Rattle.ot_terms.specs.Documents.{DocTree}
use Rattle.ot_terms.specs.Goals.{GoalTree, Fails, Deliver}
use Rattle.ot_terms.specs.Changes.{changed, doc_of}
use Rattle.ot_terms.specs.Starting.{enabled_form}
use Rattle.ot_terms.specs.Standing.{changes_of, results_of}
use Rattle.ot_terms.specs.Belonging.{IsPlace, IsLowerable, HasPlaces, HasNames, IsDocOf, IsIndexOf, AreOperandsOf}
use Rattle.ot_terms.specs.Belonging.{AreResults, IsNextResult, IsProgressOf, HasParts, next_operands}
use Rattle.ot_rewrite.specs.Ends.{same_documents, both_ways, one_place, end_goal}
use Rattle.ot_rewrite.specs.Table.{with_result, go_on, rewrite_deliver}
use Rattle.ot_rewrite.proofs.Rewritings.{IsRewriting}
use Rattle.ot_rewrite.proofs.Operands.{IsOperand, AreOperands, operand_reach, IsOperand-more, pair_results}
use Rattle.ot_rewrite.proofs.Operands.{triple_results, made_pair, made_triple, next_are_operands}
use Rattle.ot_rewrite.proofs.ChosenCases.{name_of_place, some_names, operand_reach_low}
use Rattle.ot_rewrite.proofs.DeliveredPlans.{results_of-with_result, deliver_asks}
use Rattle.ot_rewrite.proofs.DeliveredWeights.{awaits_next, deliver_falls}

IsNear-growth : (mode : Mode) (o : SymOp) → IsNear 1 (growth mode o)
IsNear-growth mode (Ins at ch site) = record { low = omega (arith, ints); high = omega (arith, ints) }
IsNear-growth Plain (Del at site) = record { low = omega (arith, ints); high = omega (arith, ints) }
IsNear-growth Tomb (Del at site) = record { low = omega (arith, ints); high = omega (arith, ints) }
IsNear-growth mode (Upd at ch site) = record { low = omega (arith, ints); high = omega (arith, ints) }
IsNear-growth mode Nop = record { low = omega (arith, ints); high = omega (arith, ints) }

-- the changes of a document are no more than the operations that made it
changes_within :
    (mode : Mode) (o : SymOp) (d : DocTree) → length (changes_of (changed mode o d)) ≤ 1 + length (changes_of d)
changes_within mode (Ins at ch site) d = omega arith
changes_within Plain (Del at site) d = omega arith
changes_within Tomb (Del at site) d = omega arith
changes_within mode (Upd at ch site) d = omega arith
changes_within mode Nop d = omega arith

two_changes : (mode : Mode) (a b : SymOp) → length (changes_of (doc_of mode (b ∷ a ∷ []))) ≤ 2
two_changes mode a b =
    let first : length (changes_of (doc_of mode (a ∷ []))) ≤ 1 = changes_within mode a (doc_of mode []) in
    let second : length (changes_of (doc_of mode (b ∷ a ∷ []))) ≤ 1 + length (changes_of (doc_of mode (a ∷ []))) =
    changes_within mode b (doc_of mode (a ∷ [])) in
    omega arith

IsIndexOf-first : (d : DocTree) → length (changes_of d) ≤ 2 → IsIndexOf d (index_and (pos 0))
IsIndexOf-first d h = record {
  name = refl;
  low = record { low = omega (arith, ints); high = omega (arith, ints) };
  high = record { low = omega (arith, ints); high = omega (arith, ints) };
}

IsDocOf-changed :
    (mode : Mode) (count : ℕ) (o : SymOp) (d : DocTree) → IsLowerable count (sym_at o)
    → HasNames count o → IsDocOf mode count d
    → IsDocOf mode count (changed mode o d)
IsDocOf-changed mode count (Ins at ch site) d low names h = (low, names.1, h)
IsDocOf-changed Plain count (Del at site) d low names h = (low, refl, h)
IsDocOf-changed Tomb count (Del at site) d low names h = (low, refl, h)
IsDocOf-changed mode count (Upd at ch site) d low names h = (low, names.1, h)
IsDocOf-changed mode count Nop d low names h = h

module _ (f : Function) (ob : ObName) where
  name_below : (x : ℕ) → x ≤ 2 → x < name_count ob
  name_below x h = let some : 2 < name_count ob = some_names ob in omega arith

  place_of_name : (x n : ℕ) (off : ℤ) → x ≤ 2 → n ≤ 200 → IsNear n off
      → IsPlace (name_count ob) (record { var = x; off = off })
  place_of_name x n off h le near =
      record { name = name_below x h; near = record { low = omega (arith, ints); high = omega (arith, ints) } }

  lowerable_length : (off : ℤ) → IsNear 2 off → IsLowerable (name_count ob) (length_and off)
  lowerable_length off near =
      record { name = name_below 1 (omega arith); low = omega (arith, ints); high = omega (arith, ints) }

  place_of_operand : (n : ℕ) (o : SymOp) → n ≤ 200 → IsOperand f ob n o → IsPlace (name_count ob) (sym_at o)
  place_of_operand n o le h = record {
    name = name_of_place (name_count ob) o (name_below 0 (omega arith)) h.names;
    near = record {
      low = let near : IsNear n (sym_at o).off = h.near in omega (arith, ints, near.low);
      high = let near : IsNear n (sym_at o).off = h.near in omega (arith, ints, near.high);
    };
  }

  lowerable_operand : (o : SymOp) → IsOperand f ob 99 o → IsLowerable (name_count ob) (sym_at o)
  lowerable_operand o h = record {
    name = name_of_place (name_count ob) o (name_below 0 (omega arith)) h.names;
    low = let near : IsNear 99 (sym_at o).off = h.near in omega (arith, ints, near.low);
    high = let near : IsNear 99 (sym_at o).off = h.near in omega (arith, ints, near.high);
  }

  -- the test that an operation is enabled has places below the count
  enabled_places :
      (o : SymOp) (off : ℤ) → IsNear 1 off → IsPlace (name_count ob) (sym_at o)
      → HasPlaces (name_count ob) (enabled_form o off)
  enabled_places o off near at =
      by_kind o at (place_of_name 0 0 (pos 0) (omega arith) (omega arith) (IsNear-zero 0))
      (place_of_name 1 1 off (omega arith) (omega arith) near)
      (lowerable_length off (record { low = omega (arith, ints); high = omega (arith, ints) }))
    where
      by_kind :
          (o : SymOp) → IsPlace (name_count ob) (sym_at o) → IsPlace (name_count ob) zero_place
          → IsPlace (name_count ob) (length_and off) → IsLowerable (name_count ob) (length_and off)
          → HasPlaces (name_count ob) (enabled_form o off)
      by_kind (Ins at ch site) h zero end last = ((zero, h), (h, end))
      by_kind (Del at site) h zero end last = ((zero, h), (h, last))
      by_kind (Upd at ch site) h zero end last = ((zero, h), (h, last))
      by_kind Nop h zero end last = tt

  twice_changed :
      (mode : Mode) (a b : SymOp) → IsOperand f ob 99 a → IsOperand f ob 99 b
      → IsDocOf mode (name_count ob) (doc_of mode (b ∷ a ∷ []))
  twice_changed mode a b ha hb =
      IsDocOf-changed mode (name_count ob) b (doc_of mode (a ∷ [])) (lowerable_operand b hb) hb.names
      (IsDocOf-changed mode (name_count ob) a documents.Base (lowerable_operand a ha) ha.names tt)

  parts_of_if : (t : Bool) (g : GoalTree) → HasParts f ob g → HasParts f ob (if t then g else Fails Lengths)
  parts_of_if true g h = h
  parts_of_if false g h = tt

  -- two operations, each with a form behind the other
  module _ (a b_after_a b a_after_b : SymOp) (ha : IsOperand f ob 99 a) (hx : IsOperand f ob 99 b_after_a)
      (hb : IsOperand f ob 99 b) (hy : IsOperand f ob 99 a_after_b) where
    -- the comparison of the two documents has parts of the obligation
    parts_of_documents :
        (off : ℤ) → IsNear 2 off
        → HasParts f ob
        (same_documents (doc_of f.head.mode (b_after_a ∷ a ∷ [])) (doc_of f.head.mode (a_after_b ∷ b ∷ [])) off)
    parts_of_documents off near =
        let mode = f.head.mode in
        let zero = place_of_name 0 0 (pos 0) (omega arith) (omega arith) (IsNear-zero 0) in
        let index = place_of_name 2 0 (pos 0) (omega arith) (omega arith) (IsNear-zero 0) in (
          (zero, index),
          (
            (index, lowerable_length off near),
            (
              (
                twice_changed mode a b_after_a ha hx,
                IsIndexOf-first (doc_of mode (b_after_a ∷ a ∷ [])) (two_changes mode a b_after_a),
              ),
              (
                twice_changed mode b a_after_b hb hy,
                IsIndexOf-first (doc_of mode (a_after_b ∷ b ∷ [])) (two_changes mode b a_after_b),
              ),
            ),
            tt,
          ),
          tt,
        )

    -- so has the goal at the end of a pair, both ways
    parts_of_both_ways : HasParts f ob (both_ways f.head.mode a b_after_a b a_after_b)
    parts_of_both_ways =
        let mode = f.head.mode in
        let left = growth mode a +ℤ growth mode b_after_a in (
          enabled_places b_after_a (growth mode a) (IsNear-growth mode a)
              (place_of_operand 99 b_after_a (omega arith) hx),
          (
            enabled_places a_after_b (growth mode b) (IsNear-growth mode b)
                (place_of_operand 99 a_after_b (omega arith) hy),
            parts_of_if (int_eq left (growth mode b +ℤ growth mode a_after_b))
                (same_documents (doc_of mode (b_after_a ∷ a ∷ [])) (doc_of mode (a_after_b ∷ b ∷ [])) left)
                (parts_of_documents left
                (IsNear-plus 1 1 (growth mode a) (growth mode b_after_a) (IsNear-growth mode a)
                (IsNear-growth mode b_after_a))),
            tt,
          ),
          tt,
        )

  parts_of_one_place :
      (k l : Option Kind) (at there : Place) → IsPlace (name_count ob) at → IsPlace (name_count ob) there
      → HasParts f ob (one_place k l at there)
  parts_of_one_place None None at there h g = tt
  parts_of_one_place None (Some l) at there h g = tt
  parts_of_one_place (Some k) None at there h g = tt
  parts_of_one_place (Some k) (Some l) at there h g = ((h, g), tt, tt)

module _ (f : Function) where
  end_of_two :
      (k l : Kind) (a b : SymOp) (os got : List SymOp) → AreOperands f (Pair k l) 0 (a, b)
      → AreResults (Pair k l) (a ∷ b ∷ os) [] got
      → HasParts f (Pair k l) (end_goal f.head.mode (Pair k l) (a ∷ b ∷ os) got)
  end_of_two k l a b os [] both h = tt
  end_of_two k l a b os (x ∷ []) both h = tt
  end_of_two k l a b os (x ∷ y ∷ got) both h =
      let ob = Pair k l in
      let results = pair_results f k l a b os both.0 both.1 x y got h in
      parts_of_both_ways f ob a x b y (IsOperand-more f ob 0 99 a (omega arith) both.0) results.0
      (IsOperand-more f ob 0 99 b (omega arith) both.1) results.1

  -- the goal at the end of a triple has parts of the triple
  end_of_three :
      (k l m : Kind) (a b c : SymOp) (os got : List SymOp)
      → IsOperand f (Triple k l m) 0 a × IsOperand f (Triple k l m) 0 b × IsOperand f (Triple k l m) 0 c
      → AreResults (Triple k l m) (a ∷ b ∷ c ∷ os) [] got
      → HasParts f (Triple k l m) (end_goal f.head.mode (Triple k l m) (a ∷ b ∷ c ∷ os) got)
  end_of_three k l m a b c os [] three h = tt
  end_of_three k l m a b c os (x ∷ []) three h = tt
  end_of_three k l m a b c os (x ∷ y ∷ []) three h = tt
  end_of_three k l m a b c os (x ∷ y ∷ z ∷ []) three h = tt
  end_of_three k l m a b c os (x ∷ y ∷ z ∷ u ∷ []) three h = tt
  end_of_three k l m a b c os (x ∷ y ∷ z ∷ u ∷ v ∷ []) three h = tt
  end_of_three k l m a b c os (x ∷ y ∷ left ∷ u ∷ v ∷ right ∷ got) three h =
      let ob = Triple k l m in
      let forms = triple_results f k l m a b c os three.0 three.1 three.2 x y left u v right got h in
      parts_of_one_place f ob (sym_kind left) (sym_kind right) (sym_at left) (sym_at right)
      (place_of_operand f ob 198 left (omega arith) forms.0) (place_of_operand f ob 198 right (omega arith) forms.1)

  end_has_parts :
      (ob : ObName) (os got : List SymOp) → IsTrue (is_obligation f.head ob) → AreOperandsOf ob os
      → AreResults ob os [] got
      → HasParts f ob (end_goal f.head.mode ob os got)
  end_has_parts (Pair k l) os got d made h =
      subst (λ t. AreResults (Pair k l) t [] got → HasParts f (Pair k l) (end_goal f.head.mode (Pair k l) t got))
      (sym made.2) (end_of_two k l made.0 made.1 (Nop ∷ []) got (made_pair f k l made.0 made.1 d made.3 made.4)) h
  end_has_parts (Triple k l m) os got d made h =
      subst (λ t. AreResults (Triple k l m) t [] got
      → HasParts f (Triple k l m) (end_goal f.head.mode (Triple k l m) t got)) (sym made.3)
      (end_of_three k l m made.0 made.1 made.2 [] got (made_triple f k l m made.0 made.1 made.2 d made.4 made.5 made.6))
      h

-- one more result behind those that are there
AreResults-more :
    (ob : ObName) (os before got : List SymOp) (r : SymOp) → AreResults ob os before got
    → IsNextResult ob os (before ++ got) r
    → AreResults ob os before (got ++ r ∷ [])
AreResults-more ob os before [] r h next = (subst (λ t. IsNextResult ob os t r) (append-nil before) next, tt)
AreResults-more ob os before (x ∷ got) r h next = (
  h.0,
  AreResults-more ob os (before ++ x ∷ []) got r h.1
      (subst (λ t. IsNextResult ob os t r) (sym (append_assoc before (x ∷ []) got)) next),
)

within_room : (ob : ObName) (progress : GoalProgress) → IsProgressOf ob progress → progress.count < length progress.got
within_room (Pair k l) progress h = let room : length progress.got ≡ 6 = h.room in
    let awaited : progress.count < 2 = h.awaited in omega arith
within_room (Triple k l m) progress h = let room : length progress.got ≡ 6 = h.room in
    let awaited : progress.count < 6 = h.awaited in omega arith

-- a result of the obligation that the progress is of
module _ (f : Function) (r : SymOp) (progress : GoalProgress) (d : IsTrue (is_obligation f.head progress.ob)) where
  results_more :
      IsProgressOf progress.ob progress → IsNextResult progress.ob progress.ops (results_of progress) r
      → AreResults progress.ob progress.ops [] (results_of (with_result progress r))
  results_more h next =
      subst (λ t. AreResults progress.ob progress.ops [] t)
      (sym (results_of-with_result progress r (within_room progress.ob progress h)))
      (AreResults-more progress.ob progress.ops [] (results_of progress) r h.results next)

  -- what comes after a result, the next transformation or the end, has parts of the obligation
  go_on_has_parts :
      (next : Option (SymOp × SymOp))
      → next_operands progress.ob progress.ops (results_of (with_result progress r)) ≡ next
      → HasParts f progress.ob (Deliver r progress) → HasParts f progress.ob (go_on f (with_result progress r) next)
  go_on_has_parts None e h =
      end_has_parts f progress.ob progress.ops (results_of (with_result progress r)) d h.0.made (results_more h.0 h.1)
  go_on_has_parts (Some pair) e h =
      let got = results_of (with_result progress r) in
      let results = results_more h.0 h.1 in
      let both = next_are_operands f progress.ob progress.ops got pair.0 pair.1 d h.0.made results e in
      let reach = operand_reach progress.ob (length got) in
      let near = operand_reach_low progress.ob (length got) in
      record {
        progress = record {
          same = refl;
          made = h.0.made;
          results = results;
          awaited = awaits_next progress r pair (within_room progress.ob progress h.0) e;
          room = length-set progress.got progress.count r ∙ h.0.room;
        };
        next = e;
        a_declared = both.0.declared;
        b_declared = both.1.declared;
        a_near = (IsOperand-more f progress.ob reach 99 pair.0 near both.0).near;
        b_near = (IsOperand-more f progress.ob reach 99 pair.1 near both.1).near;
        cases = omega arith;
      }

  own_rule : HasParts f progress.ob (Deliver r progress)
      → IsRewriting f progress.ob (Deliver r progress) (rewrite_deliver f r progress)
  own_rule h = record {
    asked = deliver_asks f r progress h.0.made (within_room progress.ob progress h.0);
    parts = go_on_has_parts (next_operands progress.ob progress.ops (results_of (with_result progress r))) refl;
    lighter = deliver_falls f r progress (within_room progress.ob progress h.0);
  }

pub deliver_rule :
    (f : Function) (ob : ObName) (r : SymOp) (progress : GoalProgress) → IsTrue (is_obligation f.head ob)
    → HasParts f ob (Deliver r progress)
    → IsRewriting f ob (Deliver r progress) (rewrite_deliver f r progress)
deliver_rule f ob r progress d h =
    subst
    (λ o. IsTrue (is_obligation f.head o) → HasParts f o (Deliver r progress)
    → IsRewriting f o (Deliver r progress) (rewrite_deliver f r progress)) h.0.same (own_rule f r progress) d h
