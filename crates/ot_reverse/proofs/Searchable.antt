-- The goals may be searched: they keep the limits, and no position is negative that answers to a failing end speak of.
use Rattle.std.proofs.Common.{◌≡◌, ℕ, ℤ, pos, negsuc, ◌+ℤ◌, ◌≤ℤ◌, int_le, true, Option, Some, List, [], ◌∷◌, sym, ◌∙◌}
use Rattle.std.proofs.Common.{arith, lit<, lit≤}
use Rattle.std.specs.List.{AllByRecursion}
use Rattle.std.proofs.lemmas.Int.{ints}
use Rattle.diff_graph.specs.declared.lit.Lit.{Lit}
use Rattle.diff_graph.specs.Literals.{AreMet}
use Rattle.ot_model.specs.declared.op.Kind.{Kind}
use Rattle.ot_model.specs.declared.op.Kind.TheVariants as kinds
use Rattle.fn_rules.specs.Functions.{Function, cases_of, is_declared_pair}
use Rattle.ask_core.specs.Leading.{LeadTo}
use Rattle.ask_core.specs.Plans as plans
use Rattle.ask_core.specs.Plans.{end_of}
use Rattle.ot_questions.specs.declared.name.Who.{Who}
use Rattle.ot_questions.specs.declared.name.Who.TheVariants.{A, B}
use Rattle.ot_questions.specs.declared.why.Why.{Why}
use Rattle.ot_questions.specs.Asked.{IsKept}
use Rattle.ot_questions.specs.Names.{length_name, position_name, zero_name}
use Rattle.ot_questions.specs.Nears.{IsNearCase}
use Rattle.ot_questions.specs.Places.{length_and, place, plus, sym_op, zero_place}
use Rattle.ot_questions.specs.Questions.{ask_lt, ask_le, ask_eq}
use Rattle.ot_questions.specs.Sorts.{HasNoNegativePosition}
use Rattle.ot_terms.specs.Forms.{Le, Lt}
use Rattle.ot_terms.specs.Goals.{GoalTree}
use Rattle.ot_terms.specs.Standing.{ask_form, ask_goal}
use Rattle.ot_terms.specs.Starting.{if_all_enabled, if_allowed, if_enabled, if_length}
use Rattle.ot_audit.specs.Searchable.{IsSearchable}
use Rattle.ot_audit.proofs.Ends.{EndsAtMost, le_true, some_passed}
use Rattle.ot_audit.proofs.Names.{GoalOf, IsSmallPlace, OfName, asks_goal, name_serves, parts_small, small_name}
use Rattle.ot_audit.proofs.Names.{small_zero, spoken}
use Rattle.ot_audit.proofs.Searchable.{EndsThere, FineKept, LikeKept, NotNegative}
use Rattle.ot_reverse.specs.Goals.{reversal_goal, unless_taken_back}
use Rattle.ot_reverse.proofs.Named.{OpServesTwice, first_twice, op_serves_twice, posed_of, second_twice, taken_back_of}

module _ (at_most : EndsAtMost) (f : Function) (v : ℕ → ℤ) (z : v zero_name ≡ pos 0) where
  abbrev ended : GoalTree → Option Why
  ended goal = end_of (ask_goal f goal) v

  low_of : (x : ℕ) → int_le (v 0 +ℤ pos 0) (v x +ℤ pos 0) ≡ true → pos 0 ≤ℤ v x
  low_of x test =
      let high = le_true (v 0 +ℤ pos 0) (v x +ℤ pos 0) test in
      let zero : v 0 ≡ pos 0 = z in
      omega (arith, ints)

  length_passed : (next : GoalTree) (why : Why) → ended (if_length next) ≡ Some why
      → (pos 0 ≤ℤ v length_name) × (ended next ≡ Some why)
  unfolding ask_goal ask_form ask_le ask_lt ask_eq
  length_passed next why failed =
      let both =
      some_passed (int_le (v 0 +ℤ pos 0) (v 1 +ℤ pos 0)) (ended next) why
      (sym (at_most v zero_place (length_and (pos 0)) (ask_goal f next) plans.Holds) ∙ failed) in
      (low_of 1 both.0, both.1)

  -- the position is the first question of whether an operation is enabled
  first_passed :
      (who : Who) (last : plans.Plan Why) (why : Why)
      → end_of (ask_form (Le zero_place (place (position_name who) (pos 0))) last plans.Holds) v ≡ Some why
      → (pos 0 ≤ℤ v (position_name who)) × (end_of last v ≡ Some why)
  unfolding ask_form ask_le ask_lt ask_eq
  first_passed who last why failed =
      let both =
      some_passed (int_le (v 0 +ℤ pos 0) (v (position_name who) +ℤ pos 0)) (end_of last v) why
      (sym (at_most v zero_place (place (position_name who) (pos 0)) last plans.Holds) ∙ failed) in
      (low_of (position_name who) both.0, both.1)

  end_passed :
      (who : Who) (next : GoalTree) (why : Why)
      → end_of (ask_form (Le (place (position_name who) (pos 0)) (length_and (pos 0))) (ask_goal f next) plans.Holds) v
      ≡ Some why
      → ended next ≡ Some why
  unfolding ask_form ask_le ask_lt ask_eq
  end_passed who next why failed =
      let at = place (position_name who) (pos 0) in
      (some_passed (int_le (v (position_name who) +ℤ pos 0) (v 1 +ℤ pos 0)) (ended next) why
      (sym (at_most v at (length_and (pos 0)) (ask_goal f next) plans.Holds) ∙ failed)).1

  cell_passed :
      (who : Who) (next : GoalTree) (why : Why)
      → end_of (ask_form (Lt (place (position_name who) (pos 0)) (length_and (pos 0))) (ask_goal f next) plans.Holds) v
      ≡ Some why
      → ended next ≡ Some why
  unfolding ask_form ask_lt ask_le ask_eq
  cell_passed who next why failed =
      let at = place (position_name who) (pos 0) in
      (some_passed (int_le (v (position_name who) +ℤ pos 0) (v 1 +ℤ (pos 0 +ℤ negsuc 0))) (ended next) why
      (sym (at_most v at (plus (length_and (pos 0)) (negsuc 0)) (ask_goal f next) plans.Holds) ∙ failed)).1

  -- where a goal fails behind the test that an operation is enabled, its position is not negative
  enabled_passed :
      (k : Kind) (who : Who) (next : GoalTree) (why : Why) → ended (if_enabled (sym_op k who) next) ≡ Some why
      → (pos 0 ≤ℤ v (position_name who)) × (ended next ≡ Some why)
  unfolding ask_goal ask_form ask_le ask_lt ask_eq
  enabled_passed kinds.Ins who next why failed =
      let first = first_passed who (ask_form (Le (place (position_name who) (pos 0)) (length_and (pos 0)))
      (ask_goal f next) plans.Holds) why failed in
      (first.0, end_passed who next why first.1)
  enabled_passed kinds.Del who next why failed =
      let first = first_passed who (ask_form (Lt (place (position_name who) (pos 0)) (length_and (pos 0)))
      (ask_goal f next) plans.Holds) why failed in
      (first.0, cell_passed who next why first.1)
  enabled_passed kinds.Upd who next why failed =
      let first = first_passed who (ask_form (Lt (place (position_name who) (pos 0)) (length_and (pos 0)))
      (ask_goal f next) plans.Holds) why failed in
      (first.0, cell_passed who next why first.1)

  positions_passed :
      (k l : Kind) (next : GoalTree) (why : Why)
      → ended (if_length (if_all_enabled (sym_op k A ∷ sym_op l B ∷ []) next)) ≡ Some why
      → (pos 0 ≤ℤ v length_name) × (pos 0 ≤ℤ v (position_name A)) × (pos 0 ≤ℤ v (position_name B))
  positions_passed k l next why failed =
      let length = length_passed (if_enabled (sym_op k A) (if_enabled (sym_op l B) next)) why failed in
      let first = enabled_passed k A (if_enabled (sym_op l B) next) why length.1 in
      let second = enabled_passed l B next why first.1 in
      (length.0, first.0, second.0)

module _ (f e : Function) (k l : Kind) (near : AllByRecursion IsNearCase (cases_of f k l))
    (other_near : AllByRecursion IsNearCase (cases_of e k l)) where
  -- what holds of all names of positions, and of all names of sites and characters, holds of the goal's places
  named_goal :
      (P : ℕ → Type 0) → P 0 → P 1 → OpServesTwice (OfName P) (sym_op k A) → OpServesTwice (OfName P) (sym_op l B)
      → GoalOf (OfName P) (reversal_goal f e k l)
  named_goal P zero length ha hb =
      posed_of (OfName P) (name_serves P 0 zero) length f.head k l
      (unless_taken_back (cases_of f k l) (cases_of e k l) (sym_op k A) (sym_op l B)) ha hb
      (taken_back_of (OfName P) (name_serves P 0 zero) length (sym_op k A) (sym_op l B) ha hb (cases_of f k l)
      (cases_of e k l) near other_near)

  small_goal : GoalOf IsSmallPlace (reversal_goal f e k l)
  small_goal =
      posed_of IsSmallPlace small_zero (small_name 1 (lit< tt)).0 f.head k l
      (unless_taken_back (cases_of f k l) (cases_of e k l) (sym_op k A) (sym_op l B)) (first_twice k) (second_twice l)
      (taken_back_of IsSmallPlace small_zero (small_name 1 (lit< tt)).0 (sym_op k A) (sym_op l B) (first_twice k)
      (second_twice l) (cases_of f k l) (cases_of e k l) near other_near)

  module _ (at_most : EndsAtMost) (ends : EndsThere) where
    -- no position is negative that answers to a failing end speak of
    no_negative :
        (why : Why) (w : List Lit) (v : ℕ → ℤ) → LeadTo why (ask_goal f (reversal_goal f e k l)) w
        → v zero_name ≡ pos 0 → AreMet v w
        → HasNoNegativePosition w v
    no_negative why w v lead z met x sort named =
        let last =
        if_allowed f.head (sym_op k A) (sym_op l B)
        (unless_taken_back (cases_of f k l) (cases_of e k l) (sym_op k A) (sym_op l B)) in
        let low = positions_passed at_most f v z k l last why
        (ends v why (ask_goal f (reversal_goal f e k l)) w lead met) in
        let zero : NotNegative v 0 = λ s. omega (arith, ints) in
        let whole =
        named_goal (NotNegative v) zero (λ s. low.0)
        (op_serves_twice (NotNegative v) k A zero (λ s. low.1) (λ s. absurd (cc)) (λ s. absurd (cc)))
        (op_serves_twice (NotNegative v) l B zero (λ s. low.2) (λ s. absurd (cc)) (λ s. absurd (cc))) in
        spoken (NotNegative v) why (ask_goal f (reversal_goal f e k l)) w
        (asks_goal (NotNegative v) f (reversal_goal f e k l) whole) lead x named sort

    pub searchable :
        FineKept → LikeKept → is_declared_pair f.head k l ≡ true → IsKept 9 36875 (ask_goal f (reversal_goal f e k l))
        → IsSearchable f k l (reversal_goal f e k l)
    searchable fine like declared kept = record {
      goal = record { declared = declared; parts = parts_small f k l (reversal_goal f e k l) small_goal };
      fine = fine 9 36875 (ask_goal f (reversal_goal f e k l)) (lit≤ tt) kept;
      like = like 9 36875 (ask_goal f (reversal_goal f e k l)) kept;
      positions = no_negative;
    }
