-- The definitions on small cases.
use Rattle.std.proofs.Common.{◌≡◌, pos, negsuc, true, false, [], ◌∷◌, Ok, Err, refl}
use Rattle.diff_graph.specs.declared.lit.Lit.{Lit}
use Rattle.diff_graph.specs.declared.lit.PickError.TheVariants.{BadPick, NotACycle, NotNegative}
use Rattle.diff_graph.specs.Literals.{negated, answered_of, is_met}
use Rattle.diff_graph.specs.Cycles.{weight, pick_verdict}

abbrev first_below : Lit
first_below = record { x = 1; y = 2; k = negsuc 0 }

abbrev second_at_most : Lit
second_at_most = record { x = 2; y = 1; k = pos 0 }

negation : negated first_below ≡ record { x = 2; y = 1; k = pos 0 }
negation = refl

answer_of_yes : answered_of first_below true ≡ first_below
answer_of_yes = refl

answer_of_no : answered_of second_at_most false ≡ record { x = 1; y = 2; k = negsuc 0 }
answer_of_no = refl

met : is_met (λ n. pos n) first_below ≡ true
met = refl

not_met : is_met (λ n. pos n) second_at_most ≡ false
not_met = refl

sum_of_two : weight (first_below ∷ second_at_most ∷ []) ≡ negsuc 0
sum_of_two = refl

cycle_of_two : pick_verdict (first_below ∷ second_at_most ∷ []) (0 ∷ 1 ∷ []) ≡ Ok tt
cycle_of_two = refl

sum_of_zero : pick_verdict (record { x = 1; y = 2; k = pos 0 } ∷ second_at_most ∷ []) (0 ∷ 1 ∷ []) ≡ Err NotNegative
sum_of_zero = refl

no_chain : pick_verdict (first_below ∷ second_at_most ∷ []) (0 ∷ 0 ∷ []) ≡ Err NotACycle
no_chain = refl

open_walk : pick_verdict (first_below ∷ second_at_most ∷ []) (0 ∷ []) ≡ Err NotACycle
open_walk = refl

no_picks : pick_verdict (first_below ∷ second_at_most ∷ []) [] ≡ Err NotACycle
no_picks = refl

no_such_place : pick_verdict (first_below ∷ second_at_most ∷ []) (2 ∷ []) ≡ Err BadPick
no_such_place = refl
