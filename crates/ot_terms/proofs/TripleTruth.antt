-- What is left of a triple after some results is true exactly where what is left to be asked ends in `Holds`.
use Rattle.std.proofs.Common.{◌≡◌, ℕ, zero, suc, ℤ, false, Option, Some, None, List, [], ◌∷◌, refl}
use Rattle.std.specs.Prelude.{◌↔◌, IsTrue}
use Rattle.std.specs.Ordering.{int_eq}
use Rattle.ot_model.specs.declared.op.Kind.{Kind}
use Rattle.fn_rules.specs.declared.function.ObName.TheVariants.{Triple}
use Rattle.fn_rules.specs.Functions.{Function}
use Rattle.ask_core.specs.Plans.{Plan, Holds, Fails, end_of}
use Rattle.ot_questions.specs.declared.place.Place.{Place}
use Rattle.ot_questions.specs.declared.place.SymOp.{SymOp}
use Rattle.ot_questions.specs.declared.why.Why.{Why}
use Rattle.ot_questions.specs.declared.why.Why.TheVariants.{Operations}
use Rattle.ot_questions.specs.Places.{integer_at, sym_kind, sym_at}
use Rattle.ot_questions.specs.Questions.{ask_transform}
use Rattle.ot_questions.specs.Obligation.{ask_behind, ask_commute, ask_one_place, ask_same_form}
use Rattle.ot_questions.proofs.Values.{end-eq}
use Rattle.ot_terms.specs.Standing.{ask_after, ask_triple_after, ask_second_way_after}
use Rattle.ot_terms.specs.Truth.{is_one_place, is_one_form, HoldsAfter}
use Rattle.ot_terms.proofs.Choices.{along, test_holds}
use Rattle.ot_terms.proofs.Results.{result_holds}

module _ (v : ℕ → ℤ) where
  one_place_holds :
      (j k : Option Kind) (x y : Place) → IsTrue (is_one_place v j k x y) ↔ (end_of (ask_one_place j k x y) v ≡ None)
  unfolding ask_one_place
  one_place_holds None None x y = (λ t. refl, λ n. refl)
  one_place_holds None (Some k) x y = test_holds false Operations
  one_place_holds (Some j) None x y = test_holds false Operations
  one_place_holds (Some j) (Some k) x y =
      along _ _ _ (end-eq x y Holds (Fails Operations) v)
      (test_holds (int_eq (integer_at v x) (integer_at v y)) Operations)

  one_form_holds : (left right : SymOp)
      → IsTrue (is_one_form v left right) ↔ (end_of (ask_same_form left right) v ≡ None)
  unfolding ask_same_form
  one_form_holds left right = one_place_holds (sym_kind left) (sym_kind right) (sym_at left) (sym_at right)

  module _ (f : Function) (k l m : Kind) (a b c : SymOp) (os : List SymOp) where
    abbrev After : ℕ → List SymOp → Type 0
    After most got = HoldsAfter most f v (Triple k l m) (a ∷ b ∷ c ∷ os) got

    -- the results are `b` and `c` behind `a`, and the form of `c`, and the same the other way
    module _ (p q left : SymOp) where
      abbrev ask_right : SymOp → SymOp → Plan Why
      ask_right s t = ask_transform f t s (λ right. ask_same_form left right)

      after_six :
          (most : ℕ) (s t right : SymOp) (got : List SymOp)
          → After most (p ∷ q ∷ left ∷ s ∷ t ∷ right ∷ got) ↔ (end_of (ask_same_form left right) v ≡ None)
      after_six zero s t right got = one_form_holds left right
      after_six (suc most) s t right got = one_form_holds left right

      after_five : (most : ℕ) (s t : SymOp)
          → After (suc most) (p ∷ q ∷ left ∷ s ∷ t ∷ []) ↔ (end_of (ask_right s t) v ≡ None)
      after_five most s t =
          result_holds v t s f 0 (λ right. After most (p ∷ q ∷ left ∷ s ∷ t ∷ right ∷ []))
          (λ right. ask_same_form left right)
          (λ right. after_six most s t right [])

      after_four :
          (most : ℕ) (s : SymOp)
          → After (suc (suc most)) (p ∷ q ∷ left ∷ s ∷ [])
          ↔ (end_of (ask_transform f c b (λ t. ask_right s t)) v ≡ None)
      after_four most s =
          result_holds v c b f 0 (λ t. After (suc most) (p ∷ q ∷ left ∷ s ∷ t ∷ []))
          (λ t. ask_right s t) (after_five most s)

      after_three :
          (most : ℕ)
          → After (suc (suc (suc most))) (p ∷ q ∷ left ∷ [])
          ↔ (end_of (ask_transform f a b (λ s. ask_transform f c b (λ t. ask_right s t))) v ≡ None)
      after_three most =
          result_holds v a b f 0 (λ s. After (suc (suc most)) (p ∷ q ∷ left ∷ s ∷ []))
          (λ s. ask_transform f c b (λ t. ask_right s t)) (after_four most)

    abbrev ask_other_way : SymOp → Plan Why
    ask_other_way left = ask_second_way_after f a b c left []

    after_two :
        (most : ℕ) (p q : SymOp)
        → After (suc (suc (suc (suc most)))) (p ∷ q ∷ []) ↔ (end_of (ask_transform f q p ask_other_way) v ≡ None)
    unfolding ask_second_way_after ask_behind
    after_two most p q =
        result_holds v q p f 0 (λ left. After (suc (suc (suc most))) (p ∷ q ∷ left ∷ []))
        ask_other_way (λ left. after_three p q left most)

    after_one :
        (most : ℕ) (p : SymOp)
        → After (suc (suc (suc (suc (suc most))))) (p ∷ [])
        ↔ (end_of (ask_transform f c a (λ q. ask_transform f q p ask_other_way)) v ≡ None)
    after_one most p =
        result_holds v c a f 0 (λ q. After (suc (suc (suc (suc most)))) (p ∷ q ∷ []))
        (λ q. ask_transform f q p ask_other_way) (after_two most p)

    after_none : After 6 [] ↔ (end_of (ask_commute f a b c) v ≡ None)
    unfolding ask_commute ask_behind ask_second_way_after
    after_none =
        result_holds v b a f 0 (λ p. After 5 (p ∷ []))
        (λ p. ask_transform f c a (λ q. ask_transform f q p ask_other_way)) (after_one 0)

    pub triple_after : (got : List SymOp)
        → After 6 got ↔ (end_of (ask_after f (Triple k l m) (a ∷ b ∷ c ∷ os) got) v ≡ None)
    unfolding ask_after ask_triple_after ask_second_way_after ask_behind
    triple_after [] = after_none
    triple_after (p ∷ []) = after_one 1 p
    triple_after (p ∷ q ∷ []) = after_two 2 p q
    triple_after (p ∷ q ∷ left ∷ []) = after_three p q left 3
    triple_after (p ∷ q ∷ left ∷ s ∷ []) = after_four p q left 4 s
    triple_after (p ∷ q ∷ left ∷ s ∷ t ∷ []) = after_five p q left 5 s t
    triple_after (p ∷ q ∷ left ∷ s ∷ t ∷ right ∷ got) = after_six p q left 6 s t right got
