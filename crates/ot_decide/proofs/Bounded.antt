-- Plans behind the question whether a document has fewer cells than a bound keep the limits.
use Rattle.std.specs.Prelude.{IsTrue}
use Rattle.std.proofs.Common.{◌≡◌, ℕ, ◌≤◌, ◌<◌, ℤ, pos, negsuc, ◌-ℤ◌, ◌≤ℤ◌, Bool, true, ◌&&◌, int_le, Option, Some}
use Rattle.std.proofs.Common.{None, arith, refl}
use Rattle.std.proofs.lemmas.Bool.{and_parts}
use Rattle.std.proofs.lemmas.Int.{ints}
use Rattle.diff_graph.specs.declared.lit.Lit.{Lit}
use Rattle.fn_rules.specs.declared.function.ObName.{ObName}
use Rattle.fn_rules.specs.declared.function.ObName.TheVariants.{Pair, Triple}
use Rattle.fn_rules.specs.Functions.{Function}
use Rattle.ask_core.specs.declared.asker.TheConstants.{MAX_QUESTIONS}
use Rattle.ask_core.specs.Plans.{Plan, premised}
use Rattle.ask_core.specs.Askers.{IsFine, is_fine_literal, has_fine_literals, longest_path}
use Rattle.ot_questions.specs.Names.{length_name, name_count, zero_name}
use Rattle.ot_questions.specs.Obligation.{plan_of, plan_below}
use Rattle.ot_decide.specs.Below.{IsBound}

both : (a b : Bool) → a ≡ true → b ≡ true → (a && b) ≡ true
both a b p q = cc

test_passes : (i j : ℤ) → i ≤ℤ j → int_le i j ≡ true
test_passes i j h = grind (arith, ints)

offset_passes :
    (bound : ℕ) → bound ≤ 1000
    → (int_le (negsuc 999) (pos bound -ℤ pos 1) && int_le (pos bound -ℤ pos 1) (pos 1000)) ≡ true
offset_passes bound few =
    let low : negsuc 999 ≤ℤ (pos bound -ℤ pos 1) = omega (arith, ints) in
    let high : (pos bound -ℤ pos 1) ≤ℤ pos 1000 = omega (arith, ints) in
    both (int_le (negsuc 999) (pos bound -ℤ pos 1)) (int_le (pos bound -ℤ pos 1) (pos 1000))
    (test_passes (negsuc 999) (pos bound -ℤ pos 1) low) (test_passes (pos bound -ℤ pos 1) (pos 1000) high)

-- the question whether a document has fewer cells than a bound may be asked
pub bound_fine :
    (ob : ObName) (bound : ℕ) → IsBound (Some bound)
    → IsTrue (is_fine_literal (name_count ob) (record { x = length_name; y = zero_name; k = pos bound -ℤ pos 1 }))
bound_fine (Pair k l) bound few = offset_passes bound few
bound_fine (Triple k l m) bound few = offset_passes bound few

-- a plan keeps the limits behind the question of a bound
pub below_fine :
    (f : Function) (below : Option ℕ) (ob : ObName) → IsFine (name_count ob) (plan_of f ob)
    → longest_path (plan_of f ob) ≤ 12309 → IsBound below → IsFine (name_count ob) (plan_below f below ob)
below_fine f None ob fine short few = fine
below_fine f (Some bound) ob fine short few =
    let question = is_fine_literal (name_count ob)
    (record { x = length_name; y = zero_name; k = pos bound -ℤ pos 1 }) in
    let behind = has_fine_literals (name_count ob) (plan_of f ob) in
    record {
      literals = both (question && behind) true (both question behind (bound_fine ob bound few) fine.literals) refl;
      paths = omega (arith, short);
    }

-- where a plan behind a premise keeps the limits, so do the premise and the plan
pub record IsFineBehind {W : Type 0} (count : ℕ) (l : Lit) (p : Plan W) : Type 0 where
  pub premise : IsTrue (is_fine_literal count l)
  pub literals : IsTrue (has_fine_literals count p)
  pub paths : longest_path p < MAX_QUESTIONS

pub fine_behind : {W : Type 0} (count : ℕ) (l : Lit) (p : Plan W) → IsFine count (premised l p) → IsFineBehind count l p
fine_behind count l p fine =
    let first = and_parts (is_fine_literal count l && has_fine_literals count p) true fine.literals in
    let parts = and_parts (is_fine_literal count l) (has_fine_literals count p) first.0 in
    record {
      premise = parts.0;
      literals = parts.1;
      paths = omega (arith, fine.paths);
    }
