-- For each length by itself, the goal that an obligation begins with is true exactly where its instance of the property
-- holds.
use Rattle.std.proofs.Common.{◌≡◌, ℕ, ℤ, pos, negsuc, true, [], ◌∷◌, sym, subst, inl, inr}
use Rattle.std.specs.Prelude.{◌↔◌, IsTrue}
use Rattle.fn_rules.specs.declared.function.ObName.{ObName}
use Rattle.fn_rules.specs.declared.function.ObName.TheVariants.{Pair, Triple}
use Rattle.fn_rules.specs.Functions.{Function}
use Rattle.fn_rules.specs.Obligations.{is_obligation}
use Rattle.fn_rules.specs.Validity.{is_valid}
use Rattle.ask_core.specs.Plans.{value}
use Rattle.ot_questions.specs.declared.name.Who.TheVariants.{A, B, C}
use Rattle.ot_questions.specs.declared.place.SymOp.TheVariants.{Nop}
use Rattle.ot_questions.specs.Places.{sym_op}
use Rattle.ot_questions.specs.Meaning.{HoldsAtLength}
use Rattle.ot_questions.proofs.Answered.{int_cases, negative_length}
use Rattle.ot_questions.proofs.PairMeaning.{pair_holds_means, pair_meaning_holds}
use Rattle.ot_questions.proofs.TripleMeaning.{triple_holds_means, triple_meaning_holds}
use Rattle.ot_terms.specs.Goals.{GoalTree}
use Rattle.ot_terms.specs.Starting.{if_allowed, if_all_enabled, if_length, first_choice, start_goal_of}
use Rattle.ot_terms.specs.Truth.{MatchBool, goal_holds, IsTrueEverywhere, IsTrueAtLength, HasInstance}
use Rattle.ot_terms.proofs.Starts.{ask_goal_start_of}
use Rattle.ot_terms.proofs.StartParts.{start_of_belongs}
use Rattle.ot_terms.proofs.GoalTruth.{goal_holds_value}

module _ (f : Function) (ob : ObName) (declared : IsTrue (is_obligation f.head ob)) (n : ℕ) where
  plan_holds : IsTrueAtLength f (start_goal_of f.head ob) n → HoldsAtLength f ob n
  plan_holds h v z e =
      subst (λ p. IsTrue (value p v)) (ask_goal_start_of f ob)
      ((goal_holds_value f ob (start_goal_of f.head ob) v (start_of_belongs f ob declared)).0 (h v z e))

  goal_is_true : HoldsAtLength f ob n → IsTrueAtLength f (start_goal_of f.head ob) n
  goal_is_true h v z e =
      (goal_holds_value f ob (start_goal_of f.head ob) v (start_of_belongs f ob declared)).1
      (subst (λ p. IsTrue (value p v)) (sym (ask_goal_start_of f ob)) (h v z e))

instance_holds : (f : Function) (ob : ObName) (n : ℕ) → HoldsAtLength f ob n → HasInstance f ob n
instance_holds f (Pair k l) n h = pair_holds_means f k l n h
instance_holds f (Triple k l m) n h = triple_holds_means f k l m n h

holds_by_instance : (f : Function) (ob : ObName) (n : ℕ) → is_valid f ≡ true → HasInstance f ob n → HoldsAtLength f ob n
holds_by_instance f (Pair k l) n valid h = pair_meaning_holds f k l n valid h
holds_by_instance f (Triple k l m) n valid h = triple_meaning_holds f k l m n valid h

pub start_of_means :
    (f : Function) (ob : ObName) (n : ℕ) → IsTrue (is_valid f) → IsTrue (is_obligation f.head ob)
    → IsTrueAtLength f (start_goal_of f.head ob) n ↔ HasInstance f ob n
start_of_means f ob n valid declared = (
  λ h. instance_holds f ob n (plan_holds f ob declared n h),
  λ h. goal_is_true f ob declared n (holds_by_instance f ob n valid h),
)

-- at a negative length there is nothing to show
short_of_cells :
    (f : Function) (v : ℕ → ℤ) (n : ℕ) (next : GoalTree) → v 0 ≡ pos 0 → v 1 ≡ negsuc n
    → goal_holds f v (if_length next)
short_of_cells f v n next z e =
    subst (λ t. MatchBool t (goal_holds f v next) (Unit {0})) (sym (negative_length v n z e)) tt

-- at a negative length the first goal holds
no_cells : (f : Function) (ob : ObName) (v : ℕ → ℤ) (n : ℕ) → v 0 ≡ pos 0 → v 1 ≡ negsuc n
    → goal_holds f v (start_goal_of f.head ob)
no_cells f (Pair k l) v n z e =
    let a = sym_op k A in
    let b = sym_op l B in
    short_of_cells f v n (if_all_enabled (a ∷ b ∷ []) (if_allowed f.head a b (first_choice (Pair k l) a b Nop))) z e
no_cells f (Triple k l m) v n z e =
    let a = sym_op k A in
    let b = sym_op l B in
    let c = sym_op m C in
    let last_two = if_allowed f.head b c (first_choice (Triple k l m) a b c) in
    short_of_cells f v n
    (if_all_enabled (a ∷ b ∷ c ∷ []) (if_allowed f.head a b (if_allowed f.head a c last_two))) z e

pub start_of_means_everywhere :
    (f : Function) (ob : ObName) → IsTrue (is_valid f) → IsTrue (is_obligation f.head ob)
    → IsTrueEverywhere f (start_goal_of f.head ob) ↔ ((n : ℕ) → HasInstance f ob n)
start_of_means_everywhere f ob valid declared = (
  λ h n. (start_of_means f ob n valid declared).0 (λ v z e. h v z),
  λ h v z. elim (int_cases (v 1)) [
    | inl found ↦ (start_of_means f ob found.0 valid declared).1 (h found.0) v z found.1
    | inr found ↦ no_cells f ob v found.0 z found.1
  ],
)
