-- What the cases of a valid block keep where some of them are left out.
use Rattle.std.proofs.Common.{◌≡◌, ℕ, zero, suc, Bool, false, IsTrue, List, [], ◌∷◌, length, take, drop, map, ◌-◌, refl}
use Rattle.std.proofs.Common.{ap, subst, ◌∙◌, sym, Option, Some, None, IfSome, IfNone}
use Rattle.std.specs.List.{AllByRecursion}
use Rattle.std.proofs.Math.Seq.{take-length}
use Rattle.std.proofs.lemmas.List.{drop-map, length-drop}
use Rattle.fn_rules.specs.declared.function.Case.{Case}
use Rattle.fn_rules.specs.Functions.{GuardedCase, case_of}
use Rattle.fn_rules.specs.Validity.{are_valid_cases}
use Rattle.ot_questions.specs.declared.place.SymOp.{SymOp}
use Rattle.ot_questions.specs.Nears.{IsNearCase}
use Rattle.ot_terms.specs.Goals.{GoalTree}
use Rattle.ot_rewrite.specs.declared.choosing.Trial.{Trial}
use Rattle.ot_rewrite.specs.Steps.{trial_tree, is_tried}
use Rattle.ot_questions.proofs.Nears.{AreNear-block, ≡-IsTrue}

left_of : {X : Type 0} (P : X → Type 0) (xs : List X) (n : ℕ) → AllByRecursion P xs → AllByRecursion P (drop n xs)
left_of P xs zero h = h
left_of P [] (suc n) h = h
left_of P (x ∷ xs) (suc n) h = left_of P xs n h.1

pub cases_left_near :
    (chars : Bool) (cs : List GuardedCase) (n : ℕ) → IsTrue (are_valid_cases chars cs)
    → AllByRecursion IsNearCase (drop n cs)
cases_left_near chars cs n valid =
    left_of IsNearCase cs n (AreNear-block chars cs (≡-IsTrue (are_valid_cases chars cs) valid))

-- a slice up to the end of a list
to_the_end : (xs : List Case) (n : ℕ) → take (length xs - n) (drop n xs) ≡ drop n xs
to_the_end xs n = rw (← length-drop n xs) (take-length (drop n xs))

-- the cases behind the first ones
pub left_cases :
    (xs : List Case) (n : ℕ) (cs : List GuardedCase) → map case_of xs ≡ cs
    → map case_of (take (length xs - n) (drop n xs)) ≡ drop n cs
left_cases xs n cs e = ap (map case_of) (to_the_end xs n) ∙ sym (drop-map case_of n xs) ∙ ap (drop n) e

pub left_near :
    (chars : Bool) (xs : List Case) (n : ℕ) → IsTrue (are_valid_cases chars (map case_of xs))
    → AllByRecursion IsNearCase (map case_of (take (length xs - n) (drop n xs)))
left_near chars xs n valid =
    let same : map case_of (take (length xs - n) (drop n xs)) ≡ drop n (map case_of xs) =
    left_cases xs n (map case_of xs) refl in
    subst (AllByRecursion IsNearCase) (sym same) (cases_left_near chars (map case_of xs) n valid)

-- a case that is tried
pub tried :
    (a b : SymOp) (r : Option Trial) (g : GoalTree) → trial_tree a b r ≡ g → IfSome r (λ t. trial_tree a b (Some t) ≡ g)
tried a b None g e = tt
tried a b (Some t) g e = e

-- where no case is left to be tried the goal fails
pub untried : (a b : SymOp) (r : Option Trial) (g : GoalTree) → trial_tree a b r ≡ g → IfNone r (is_tried g ≡ false)
untried a b None g e = ap is_tried (sym e)
untried a b (Some t) g e = tt
