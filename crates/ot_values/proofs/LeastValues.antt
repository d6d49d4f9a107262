-- The least values above the floors that meet answers: there are some, they have small parts, and at the
-- positions that the answers speak of no integers that meet them are lower.
use Rattle.std.proofs.Common.{◌≡◌, ℕ, ◌<◌, ℤ, pos, ◌≤ℤ◌, true, nat_lt, int_le, List, length, refl, subst, arith}
use Rattle.std.proofs.lemmas.Bool.Decides.{Decides-ltb}
use Rattle.std.proofs.lemmas.Int.{ints}
use Rattle.diff_graph.specs.declared.lit.Lit.{Lit}
use Rattle.diff_graph.specs.Literals.{AreMet}
use Rattle.diff_tables.specs.Solutions.{valuation_of, AreLeast, IsPossibleAbove}
use Rattle.fn_rules.specs.declared.function.ObName.{ObName}
use Rattle.fn_rules.specs.declared.function.ObName.TheVariants.{Pair, Triple}
use Rattle.fn_rules.specs.declared.guard.Sort.TheVariants.{Pos}
use Rattle.ot_questions.specs.declared.name.Who.{Who}
use Rattle.ot_questions.specs.declared.name.Who.TheVariants.{A, B, C}
use Rattle.ot_questions.specs.Names.{position_name, site_name, char_name}
use Rattle.ot_questions.specs.Sorts.{sort_name, AreLike, speaks_of, HasNoNegativePosition}
use Rattle.ot_values.specs.Values.{floors_of, IsPossibleAtPositions, IsSmallAt}
use Rattle.ot_values.proofs.Lowered.{small_char, int_le-true}
use Rattle.ot_values.proofs.Raised.{far_raised, far_zero, far_met, far_position, raised_above}

pub above : (ob : ObName) (w : List Lit) → AreLike w → IsPossibleAtPositions w → IsPossibleAbove (floors_of ob) w
above ob w like (v, z, met, low) = (far_raised w v, far_zero w v z, far_met w v like met, raised_above w v low ob)

pub lowest :
    (ob : ObName) (w : List Lit) (values : List ℤ) (v : ℕ → ℤ) (x : ℕ) → AreLike w
    → AreLeast w (floors_of ob) values → v 0 ≡ pos 0
    → AreMet v w → HasNoNegativePosition w v → x < length (floors_of ob) → sort_name x ≡ Pos → speaks_of w x ≡ true
    → valuation_of values x ≤ℤ v x
lowest ob w values v x like least z met low below e spoken =
    subst (λ t. valuation_of values x ≤ℤ t) (far_position w v x e spoken)
    (least.least (far_raised w v) (far_zero w v z) (far_met w v like met) (raised_above w v low ob) x below)

-- what the floors say of the names of an operation
record FloorsAt (ob : ObName) (who : Who) : Type 0 where
  pub position_below : position_name who < length (floors_of ob)
  pub site_below : site_name who < length (floors_of ob)
  pub at : pos 0 ≤ℤ valuation_of (floors_of ob) (position_name who)
  pub site : pos 0 ≤ℤ valuation_of (floors_of ob) (site_name who)
  pub ch : pos 97 ≤ℤ valuation_of (floors_of ob) (char_name who)

-- the floors of the names of an operation, where the tests of them are passed
floors_by_tests :
    (ob : ObName) (who : Who) → nat_lt (position_name who) (length (floors_of ob)) ≡ true
    → nat_lt (site_name who) (length (floors_of ob)) ≡ true
    → int_le (pos 0) (valuation_of (floors_of ob) (position_name who)) ≡ true
    → int_le (pos 0) (valuation_of (floors_of ob) (site_name who)) ≡ true
    → int_le (pos 97) (valuation_of (floors_of ob) (char_name who)) ≡ true → FloorsAt ob who
floors_by_tests ob who position site at_least_0 site_at_least_0 ch_at_least_a = record {
  position_below = (Decides-ltb (position_name who) (length (floors_of ob))).0 position;
  site_below = (Decides-ltb (site_name who) (length (floors_of ob))).0 site;
  at = int_le-true (pos 0) _ at_least_0;
  site = int_le-true (pos 0) _ site_at_least_0;
  ch = int_le-true (pos 97) _ ch_at_least_a;
}

floors_at : (ob : ObName) (who : Who) → char_name who < length (floors_of ob) → FloorsAt ob who
floors_at (Pair k l) A h = floors_by_tests (Pair k l) A refl refl refl refl refl
floors_at (Pair k l) B h = floors_by_tests (Pair k l) B refl refl refl refl refl
floors_at (Pair k l) C h = absurd (omega arith)
floors_at (Triple k l m) A h = floors_by_tests (Triple k l m) A refl refl refl refl refl
floors_at (Triple k l m) B h = floors_by_tests (Triple k l m) B refl refl refl refl refl
floors_at (Triple k l m) C h = floors_by_tests (Triple k l m) C refl refl refl refl refl

from_both : (x y z : ℤ) → x ≤ℤ y → y ≤ℤ z → x ≤ℤ z
from_both x y z h g = omega (arith, ints)

-- the parts of an operation are small
pub small_parts :
    (ob : ObName) (w : List Lit) (values : List ℤ) (who : Who) → AreLike w → AreLeast w (floors_of ob) values
    → char_name who < length (floors_of ob) → IsSmallAt values who
small_parts ob w values who like least below =
    let floors = floors_at ob who below in
    let len = least.len in
    let v = valuation_of values in
    record {
      within = omega arith;
      at =
          from_both (pos 0) _ (v (position_name who)) floors.at (least.above (position_name who) floors.position_below);
      site = from_both (pos 0) _ (v (site_name who)) floors.site (least.above (site_name who) floors.site_below);
      ch_low = from_both (pos 97) _ (v (char_name who)) floors.ch (least.above (char_name who) below);
      ch_high = small_char ob w values like least who below;
    }
