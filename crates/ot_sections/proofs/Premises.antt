-- The question whether a document is short keeps the limits of literals.
use Rattle.std.proofs.Common.{◌≡◌, ℕ, ◌≤◌, ℤ, pos, negsuc, ◌-ℤ◌, true, IsTrue, int_le, arith, refl}
use Rattle.std.proofs.lemmas.Int.{ints}
use Rattle.ask_core.specs.Askers.{is_fine_literal}
use Rattle.fn_rules.specs.declared.function.ObName.{ObName}
use Rattle.fn_rules.specs.declared.function.ObName.TheVariants.{Pair, Triple}
use Rattle.ot_questions.specs.Names.{name_count}

low_enough : (bound : ℕ) (k : ℤ) → k ≡ pos bound -ℤ pos 1 → int_le (negsuc 999) k ≡ true
low_enough bound k is = grind (arith, ints)

high_enough : (bound : ℕ) (k : ℤ) → k ≡ pos bound -ℤ pos 1 → bound ≤ 1000 → int_le k (pos 1000) ≡ true
high_enough bound k is few = grind (arith, ints)

pub bound_is_fine :
    (ob : ObName) (bound : ℕ) (k : ℤ) → k ≡ pos bound -ℤ pos 1 → bound ≤ 1000
    → IsTrue (is_fine_literal (name_count ob) (record { x = 1; y = 0; k = k }))
bound_is_fine (Pair a b) bound k is few = rw (low_enough bound k is, high_enough bound k is few) refl
bound_is_fine (Triple a b c) bound k is few = rw (low_enough bound k is, high_enough bound k is few) refl
