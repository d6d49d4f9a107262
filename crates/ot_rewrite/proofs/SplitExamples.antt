-- Forms split at their first questions, computed on small terms.
use Rattle.std.proofs.Common.{◌≡◌, ℕ, ◌<◌, ◌≤◌, arith, pos, negsuc, refl}
use Rattle.std.proofs.lemmas.Int.{ints}
use Rattle.fn_rules.specs.Shipped.{ties}
use Rattle.ot_questions.specs.declared.place.Place.{Place}
use Rattle.ot_questions.specs.declared.why.Why.TheVariants.{Undefined}
use Rattle.ot_questions.specs.Places.{place, plus}
use Rattle.ot_terms.specs.Forms.{FormTree, True, Le, Lt, Eq, And, Or, Not}
use Rattle.ot_terms.specs.Belonging.{IsPlace, HasPlaces}
use Rattle.ot_terms.specs.Goals.{Holds, Fails, If}
use Rattle.ot_rewrite.specs.Splits.{Yes, No, Ask, split_of, comparisons_left, RulesLeadTo, there, by_rule}
use Rattle.ot_rewrite.specs.Table.{rewritten}

-- the positions of two operations, the first one also with an offset
abbrev a : Place
a = place 3 (pos 0)

abbrev b : Place
b = place 6 (pos 0)

abbrev never : FormTree
never = Not True

-- a place is at most the one behind it, and not less than itself
own_name : split_of (Le a (plus a (pos 1))) ≡ Yes
own_name = refl

not_less : split_of (Lt a a) ≡ No
not_less = refl

itself : split_of (Eq a a) ≡ Yes
itself = refl

-- less asks whether it is at most the place before
less : split_of (Lt a b) ≡ Ask a (place 6 (negsuc 0)) True never
less = refl

-- equality asks for one direction first, and then for the other
equal : split_of (Eq a b) ≡ Ask a b (Le b a) never
equal = refl

-- the first part that asks something comes first, also behind a negation
skips_decided : split_of (And (Le a a) (Not (Or (Lt a a) (Le a b)))) ≡ Ask a b (Not True) (Not never)
skips_decided = refl

-- the second form is left behind either answer
both_left : split_of (And (Le a b) (Lt b a)) ≡ Ask a b (And True (Lt b a)) (And never (Lt b a))
both_left = refl

-- behind the yes it asks for the second, behind the no it is false
behind_yes : split_of (And True (Lt b a)) ≡ Ask b (place 3 (negsuc 0)) True never
behind_yes = refl

behind_no : split_of (And never (Lt b a)) ≡ No
behind_no = refl

counted : comparisons_left (And (Eq a b) (Not (Or True (Lt b a)))) ≡ 3
counted = refl

-- the rules for the negation of a comparison of one name with itself lead to the first goal
led : RulesLeadTo ties (If (Not (Lt a a)) Holds (Fails Undefined)) Holds
unfolding rewritten
led = by_rule refl (by_rule refl (by_rule refl there))

-- small places of the names of a pair
pub is_place : (x : ℕ) (n : ℕ) → x < 9 → n ≤ 200 → IsPlace 9 (place x (pos n))
is_place x n name small =
    record { name = name; near = record { low = omega (arith, ints); high = omega (arith, ints) } }

pub less_has_places : HasPlaces 9 (Lt a (place 6 (pos 2)))
less_has_places = (
  is_place 3 0 (omega arith) (omega arith),
  record { name = omega arith; low = omega (arith, ints); high = omega (arith, ints) },
)
