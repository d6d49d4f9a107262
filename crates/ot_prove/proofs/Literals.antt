-- Literals that a plan which keeps the limits may ask.
use Rattle.std.proofs.Common.{◌≡◌, ◌≢◌, ℕ, ◌<◌, ℤ, neg_ℤ, ◌≤ℤ◌, true, not, nat_eq, nat_lt, int_le, ◌&&◌, IsTrue, arith}
use Rattle.std.proofs.lemmas.Int.{ints}
use Rattle.std.proofs.lemmas.Bool.{and_parts}
use Rattle.std.proofs.lemmas.Bool.Decides.{nat_tests}
use Rattle.diff_graph.specs.declared.lit.Lit.{Lit}
use Rattle.diff_graph.specs.declared.lit.TheConstants.{MAX_LITERAL_OFFSET}
use Rattle.diff_graph.specs.Limits.{IsNamed}
use Rattle.ask_core.specs.Plans.{Plan, Ask}
use Rattle.ask_core.specs.Askers.{is_fine_literal, has_fine_literals}
use Rattle.search_places.specs.Sides.{IsAsked}

-- what the test of a literal tells
pub record IsFineLiteral (count : ℕ) (l : Lit) : Type 0 where
  pub differ : l.x ≢ l.y
  pub named : IsNamed count l
  pub asked : IsAsked l

-- what the test of a literal that may be asked says of it
pub fine_literal : (count : ℕ) (l : Lit) → is_fine_literal count l ≡ true → IsFineLiteral count l
fine_literal count l fine =
    let different = not (nat_eq l.x l.y) in
    let first = different && nat_lt l.x count in
    let second = first && nat_lt l.y count in
    let low = second && int_le (neg_ℤ MAX_LITERAL_OFFSET) l.k in
    let at_high = and_parts low (int_le l.k MAX_LITERAL_OFFSET) fine in
    let at_low = and_parts second (int_le (neg_ℤ MAX_LITERAL_OFFSET) l.k) at_high.0 in
    let at_second = and_parts first (nat_lt l.y count) at_low.0 in
    let at_first = and_parts different (nat_lt l.x count) at_second.0 in
    record {
      differ = apart l.x l.y at_first.0;
      named = (below l.x count at_first.1, below l.y count at_second.1);
      asked = (at_most (neg_ℤ MAX_LITERAL_OFFSET) l.k at_low.1, at_most l.k MAX_LITERAL_OFFSET at_high.1);
    }
  where
    apart : (m n : ℕ) → not (nat_eq m n) ≡ true → m ≢ n
    apart m n passed = grind (arith, nat_tests)

    below : (m n : ℕ) → nat_lt m n ≡ true → m < n
    below m n passed = grind (arith, nat_tests)

    at_most : (i j : ℤ) → int_le i j ≡ true → i ≤ℤ j
    at_most i j passed = grind (arith, ints)

-- a question has a fine literal and two parts with fine literals
pub fine_question :
    {W : Type 0} (count : ℕ) (l : Lit) (on_yes on_no : Plan W) → IsTrue (has_fine_literals count (Ask l on_yes on_no))
    → IsFineLiteral count l × IsTrue (has_fine_literals count on_yes) × IsTrue (has_fine_literals count on_no)
fine_question count l on_yes on_no fine =
    let parts = and_parts (is_fine_literal count l && has_fine_literals count on_yes)
    (has_fine_literals count on_no) fine in
    let first = and_parts (is_fine_literal count l) (has_fine_literals count on_yes) parts.0 in
    (fine_literal count l first.0, first.1, parts.1)
