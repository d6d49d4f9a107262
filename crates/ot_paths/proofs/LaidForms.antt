-- A form that is laid out asks what it asks, and its places are those of the form.
use Rattle.std.proofs.Common.{◌≡◌, ℕ, ◌<◌, ◌≤◌, negsuc, Bool, true, false, if◌then◌else◌, nat_eq, int_le, refl, ap, ◌∙◌}
use Rattle.std.proofs.Common.{arith}
use Rattle.std.proofs.lemmas.Int.{ints}
use Rattle.fn_rules.specs.declared.function.ObName.{ObName}
use Rattle.fn_rules.specs.Functions.{Function}
use Rattle.ot_questions.specs.declared.place.Place.{Place}
use Rattle.ot_questions.specs.Names.{name_count}
use Rattle.ot_questions.specs.Places.{plus}
use Rattle.ot_questions.specs.Questions.{ask_places}
use Rattle.ot_terms.specs.Belonging.{IsPlace, IsLowerable, HasPlaces, HasParts, IsGoalOf}
use Rattle.ot_terms.specs.Forms.{FormTree, True, Le, Lt, Eq, And, Or, Not}
use Rattle.ot_terms.specs.Goals.{GoalTree, If, order_goal, laid_order, laid_form}
use Rattle.ot_terms.specs.Standing.{ask_form, ask_goal}
use Rattle.ot_terms.specs.Weights.{form_weight, goal_weight}
use Rattle.ot_terms.proofs.ByForms.{form_through}
use Rattle.ot_rewrite.specs.Splits.{HasLowOffsets}
use Rattle.ot_paths.specs.Sharing.{StandsAlike}

pub alike_on : (f : Function) (g h i : GoalTree) → StandsAlike f g h → StandsAlike f h i → StandsAlike f g i
alike_on f g h i first next =
    record { asked = next.asked ∙ first.asked; belongs = λ ob is_goal. next.belongs ob (first.belongs ob is_goal) }

pub IsPlace-before : (count : ℕ) (y : Place) → IsLowerable count y → IsPlace count (plus y (negsuc 0))
IsPlace-before count y h =
    record { name = h.name; near = record { low = omega (arith, ints); high = omega (arith, ints) } }

-- the offsets of a form with places may be lowered
low_offsets : (count : ℕ) (g : FormTree) → HasPlaces count g → HasLowOffsets g
low_offsets count True h = tt
low_offsets count (Le x y) h = tt
low_offsets count (Lt x y) h = record { low = omega (arith, ints, h.1.low); high = omega (arith, ints, h.1.high) }
low_offsets count (Eq x y) h = tt
low_offsets count (And g h) both = (low_offsets count g both.0, low_offsets count h both.1)
low_offsets count (Or g h) both = (low_offsets count g both.0, low_offsets count h both.1)
low_offsets count (Not g) h = low_offsets count g h

pub low_offsets_of : (f : Function) (ob : ObName) (g : FormTree) (y n : GoalTree)
    → IsGoalOf f ob (If g y n) → HasLowOffsets g
low_offsets_of f ob g y n h = low_offsets (name_count ob) g h.parts.0

module _ (f : Function) where
  -- a form that is laid out asks what the form asks
  laid_asks : (g : FormTree) (p q : GoalTree) → ask_goal f (laid_form g p q) ≡ ask_form g (ask_goal f p) (ask_goal f q)
  unfolding ask_goal ask_form
  laid_asks = form_through order_goal ask_places (ask_goal f) (λ x y p q differ. rw differ refl)

  -- the parts are of the obligation where those of the goals are
  module _ (ob : ObName) where
    order_parts_by_tests :
        (x y : Place) (p q : GoalTree) (b c : Bool) → IsPlace (name_count ob) x → IsPlace (name_count ob) y
        → HasParts f ob p → HasParts f ob q
        → HasParts f ob (if b then (if c then p else q) else If (Le x y) p q)
    order_parts_by_tests x y p q true true hx hy hp hq = hp
    order_parts_by_tests x y p q true false hx hy hp hq = hq
    order_parts_by_tests x y p q false c hx hy hp hq = ((hx, hy), hp, hq)

    order_parts :
        (x y : Place) (p q : GoalTree) → IsPlace (name_count ob) x → IsPlace (name_count ob) y
        → HasParts f ob p → HasParts f ob q
        → HasParts f ob (laid_order x y p q)
    order_parts x y p q hx hy hp hq =
        order_parts_by_tests x y p q (nat_eq x.var y.var) (int_le x.off y.off) hx hy hp hq

    -- a form that is laid out has parts of the obligation where the form and both goals have
    laid_parts :
        (g : FormTree) (p q : GoalTree) → HasPlaces (name_count ob) g → HasParts f ob p → HasParts f ob q
        → HasParts f ob (laid_form g p q)
    laid_parts True p q h hp hq = hp
    laid_parts (Le x y) p q h hp hq = order_parts x y p q h.0 h.1 hp hq
    laid_parts (Lt x y) p q h hp hq =
        order_parts x (plus y (negsuc 0)) p q h.0 (IsPlace-before (name_count ob) y h.1) hp hq
    laid_parts (Eq x y) p q h hp hq =
        order_parts x y (laid_order y x p q) q h.0 h.1 (order_parts y x p q h.1 h.0 hp hq) hq
    laid_parts (And g h) p q both hp hq = laid_parts g (laid_form h p q) q both.0 (laid_parts h p q both.1 hp hq) hq
    laid_parts (Or g h) p q both hp hq = laid_parts g p (laid_form h p q) both.0 hp (laid_parts h p q both.1 hp hq)
    laid_parts (Not g) p q h hp hq = laid_parts g q p h hq hp

  pub part_of_yes : (ob : ObName) (g : FormTree) (y n : GoalTree) → IsGoalOf f ob (If g y n) → IsGoalOf f ob y
  part_of_yes ob g y n h = record { declared = h.declared; parts = h.parts.1 }

  pub part_of_no : (ob : ObName) (g : FormTree) (y n : GoalTree) → IsGoalOf f ob (If g y n) → IsGoalOf f ob n
  part_of_no ob g y n h = record { declared = h.declared; parts = h.parts.2 }

  -- the two goals may be others that stand for the same
  pub alike_laid :
      (g : FormTree) (y n p q : GoalTree) → StandsAlike f y p → StandsAlike f n q
      → StandsAlike f (If g y n) (laid_form g p q)
  unfolding ask_goal
  alike_laid g y n p q hy hn = record {
    asked = laid_asks g p q
        ∙ (ap (λ t. ask_form g t (ask_goal f q)) hy.asked ∙ ap (λ t. ask_form g (ask_goal f y) t) hn.asked);
    belongs = λ ob h. record {
      declared = h.declared;
      parts = laid_parts ob g p q h.parts.0 (hy.belongs ob (part_of_yes ob g y n h)).parts
          (hn.belongs ob (part_of_no ob g y n h)).parts;
    };
  }

  some_weight : (g : FormTree) → 0 < form_weight g
  some_weight True = omega arith
  some_weight (Le x y) = omega arith
  some_weight (Lt x y) = omega arith
  some_weight (Eq x y) = omega arith
  some_weight (And g h) = omega arith
  some_weight (Or g h) = omega arith
  some_weight (Not g) = omega arith

  pub yes_is_lighter :
      (g : FormTree) (y n old : GoalTree) → goal_weight f (If g y n) ≤ goal_weight f old
      → goal_weight f y < goal_weight f old
  yes_is_lighter g y n old h = let some : 0 < form_weight g = some_weight g in omega arith

  pub no_is_lighter :
      (g : FormTree) (y n old : GoalTree) → goal_weight f (If g y n) ≤ goal_weight f old
      → goal_weight f n < goal_weight f old
  no_is_lighter g y n old h = let some : 0 < form_weight g = some_weight g in omega arith
