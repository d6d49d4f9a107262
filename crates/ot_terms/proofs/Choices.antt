-- A fact is true exactly where a plan ends in no cause: how this goes through the choices of a plan.
use Rattle.std.proofs.Common.{◌≡◌, Bool, true, false, if◌then◌else◌, Option, Some, None, refl, sym, ◌∙◌}
use Rattle.std.specs.Prelude.{◌↔◌, IsTrue, IsSomeAnd}
use Rattle.std.proofs.lemmas.Bool.{false≢true}
use Rattle.ot_questions.specs.declared.place.SymOp.{SymOp}
use Rattle.ot_questions.specs.declared.why.Why.{Why}
use Rattle.ot_questions.proofs.Values.{goes_on}
use Rattle.ot_terms.specs.Truth.{MatchBool}

-- of an equal end
pub along : (X : Type 0) (s t : Option Why) → s ≡ t → X ↔ (t ≡ None) → X ↔ (s ≡ None)
along X s t e h = (λ x. e ∙ h.0 x, λ n. h.1 (sym e ∙ n))

-- a test that is to be true
pub test_holds : (t : Bool) (why : Why) → IsTrue t ↔ ((if t then None else Some why) ≡ None)
test_holds true why = (λ e. refl, λ n. refl)
test_holds false why = (λ e. absurd (false≢true e), λ n. absurd (cc))

-- a test that is to be true before the rest
pub required : (t : Bool) (X : Type 0) (s : Option Why) (why : Why) → X ↔ (s ≡ None)
    → (IsTrue t × X) ↔ ((if t then s else Some why) ≡ None)
required true X s why h = (λ x. h.0 x.1, λ n. (refl, h.1 n))
required false X s why h = (λ x. absurd (false≢true x.0), λ n. absurd (cc))

-- a test where it is true the rest is to be
pub supposed : (t : Bool) (X : Type 0) (s : Option Why) → X ↔ (s ≡ None)
    → (IsTrue t → X) ↔ ((if t then s else None) ≡ None)
supposed true X s h = (λ x. h.0 (x refl), λ n e. h.1 n)
supposed false X s h = (λ x. refl, λ n e. absurd (false≢true e))

-- one of two goals
pub by_test_holds :
    (t : Bool) (X Y : Type 0) (s u : Option Why) → X ↔ (s ≡ None) → Y ↔ (u ≡ None)
    → MatchBool t X Y ↔ ((if t then s else u) ≡ None)
by_test_holds true X Y s u h k = h
by_test_holds false X Y s u h k = k

-- a result that is to be there, and to go on
pub result_goes_on :
    (o : Option SymOp) (P : SymOp → Type 0) (go : SymOp → Option Why) → ((r : SymOp) → P r ↔ (go r ≡ None))
    → IsSomeAnd o P ↔ (goes_on o go ≡ None)
result_goes_on None P go h = (λ x. absurd x, λ n. absurd (cc))
result_goes_on (Some r) P go h = h r
