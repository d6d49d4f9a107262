-- A plan holds everywhere where it holds at each length, since at a negative length there is nothing to show.
use Rattle.std.proofs.Common.{◌≡◌, ℕ, ◌<◌, ℤ, pos, negsuc, ◌+ℤ◌, ◌-ℤ◌, true, if◌then◌else◌, int_le, is_none, IsTrue}
use Rattle.std.proofs.Common.{Some, None, List, [], ◌∷◌, refl, ap, ◌∙◌, subst, inl, inr, arith}
use Rattle.std.proofs.lemmas.Bool.{cases_Bool}
use Rattle.std.proofs.lemmas.Int.{ints}
use Rattle.fn_rules.specs.declared.function.ObName.{ObName}
use Rattle.fn_rules.specs.declared.function.ObName.TheVariants.{Pair, Triple}
use Rattle.fn_rules.specs.Functions.{Function}
use Rattle.ask_core.specs.Plans.{Plan, Holds, end_of, value}
use Rattle.ot_questions.specs.declared.why.Why.{Why}
use Rattle.ot_questions.specs.Places.{zero_place, length_and}
use Rattle.ot_questions.specs.Questions.{ask_le}
use Rattle.ot_questions.specs.Obligation.{ask_pair, ask_triple, plan_of, plan_below}
use Rattle.ot_questions.specs.Meaning.{HoldsAtLength, AlwaysHolds, ObligationHolds, AllHold, AllHoldAtLength}
use Rattle.ot_questions.proofs.Tests.{Decides-int_le}
use Rattle.ot_questions.proofs.Values.{by_test, end-le}
use Rattle.ot_questions.proofs.Answered.{int_cases, negative_length}
use Rattle.ot_questions.proofs.Instances.{value_from_none}

nothing_to_show :
    (p : Plan Why) (v : ℕ → ℤ) (n : ℕ) → v 0 ≡ pos 0 → v 1 ≡ negsuc n
    → end_of (ask_le zero_place (length_and (pos 0)) p Holds) v ≡ None
nothing_to_show p v n z e =
    end-le zero_place (length_and (pos 0)) p Holds v ∙ ap (λ t. by_test t p Holds v) (negative_length v n z e)

ends_at_negative_length :
    (f : Function) (ob : ObName) (v : ℕ → ℤ) (n : ℕ) → v 0 ≡ pos 0 → v 1 ≡ negsuc n → end_of (plan_of f ob) v ≡ None
unfolding plan_of ask_pair ask_triple
ends_at_negative_length f (Pair k l) v n z e = nothing_to_show _ v n z e
ends_at_negative_length f (Triple k l m) v n z e = nothing_to_show _ v n z e

-- a plan holds at a valuation where it does if the length is a natural number
holds_if_counted :
    (f : Function) (ob : ObName) (v : ℕ → ℤ) → v 0 ≡ pos 0 → ((n : ℕ) → v 1 ≡ pos n → IsTrue (value (plan_of f ob) v))
    → IsTrue (value (plan_of f ob) v)
holds_if_counted f ob v z h =
    elim (int_cases (v 1)) [
      | inl found ↦ h found.0 found.1
      | inr found ↦ value_from_none (end_of (plan_of f ob) v) (ends_at_negative_length f ob v found.0 z found.1)
    ]

holds_everywhere : (f : Function) (ob : ObName) → ((n : ℕ) → HoldsAtLength f ob n) → ObligationHolds f ob
holds_everywhere f ob h v z = holds_if_counted f ob v z (λ n e. h n v z e)

-- plans that hold at each length hold everywhere, and those that hold everywhere do at each length
pub from_each_length : (f : Function) (obs : List ObName) → ((n : ℕ) → AllHoldAtLength f obs n) → AllHold f obs
from_each_length f [] h = tt
from_each_length f (ob ∷ obs) h = (holds_everywhere f ob (λ n. (h n).0), from_each_length f obs (λ n. (h n).1))

pub at_each_length : (f : Function) (obs : List ObName) → AllHold f obs → (n : ℕ) → AllHoldAtLength f obs n
at_each_length f [] h n = tt
at_each_length f (ob ∷ obs) h n = ((λ v z e. h.0 v z), at_each_length f obs h.1 n)

-- a plan that asks first whether the length is below a bound
pub shorter_from_bounded :
    (f : Function) (ob : ObName) (bound : ℕ) → AlwaysHolds (plan_below f (Some bound) ob) → (n : ℕ) → n < bound
    → HoldsAtLength f ob n
shorter_from_bounded f ob bound h n below v z e =
    let met : int_le (v 1) (v 0 +ℤ (pos bound -ℤ pos 1)) ≡ true =
    (Decides-int_le (v 1) (v 0 +ℤ (pos bound -ℤ pos 1))).1 (omega (arith, ints)) in
    subst (λ t. IsTrue (is_none (if t then end_of (plan_of f ob) v else None))) met (h v z)

pub bounded_from_shorter :
    (f : Function) (ob : ObName) (bound : ℕ) → ((n : ℕ) → n < bound → HoldsAtLength f ob n)
    → AlwaysHolds (plan_below f (Some bound) ob)
bounded_from_shorter f ob bound h v z =
    elim (cases_Bool (int_le (v 1) (v 0 +ℤ (pos bound -ℤ pos 1)))) [
      | inl met ↦
          let within = (Decides-int_le (v 1) (v 0 +ℤ (pos bound -ℤ pos 1))).0 met in
          rw met (holds_if_counted f ob v z (λ n e. h n (omega (arith, ints)) v z e))
      | inr other ↦ rw other refl
    ]
