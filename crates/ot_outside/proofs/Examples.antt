-- The definitions on small cases.
use Rattle.std.proofs.Common.{◌≡◌, ℕ, ◌-◌, ◌^◌, ◌≤◌, [], ◌∷◌, refl, arith}
use Rattle.ot_outside.specs.Faults.{Rose, next_count}
use Rattle.ot_outside.specs.Whole.{AppendsFront, IsFront}

first_fault : next_count 0 ≡ 1
first_fault = refl

last_value_stands : next_count (2 ^ 64 - 1) ≡ 2 ^ 64 - 1
last_value_stands = refl

rose_once : Rose 4 5
rose_once = omega arith

did_not_rise : Rose 4 4 → ⊥
did_not_rise h = omega arith

stands_at_the_last_value : Rose (2 ^ 64 - 1) (2 ^ 64 - 1)
stands_at_the_last_value = omega arith

-- a count that rose in a later call rose since an earlier one
Rose-trans : (a b c : ℕ) → a ≤ b → Rose b c → Rose a c
Rose-trans a b c h r = omega arith

two_of_three : IsFront (1 ∷ 2 ∷ []) (1 ∷ 2 ∷ 3 ∷ [])
two_of_three = refl

another_front : IsFront (2 ∷ []) (1 ∷ 2 ∷ 3 ∷ []) → ⊥
another_front h = cc

one_of_two_appended : AppendsFront (9 ∷ []) (1 ∷ 2 ∷ []) (9 ∷ 1 ∷ [])
one_of_two_appended = (1, omega arith, refl)
