-- What a form asks and leaves, under a reading of its ends.
use Rattle.std.proofs.Common.{◌≡◌, negsuc, Bool, true, false, if◌then◌else◌, nat_eq, int_le, refl, ap, ◌∙◌}
use Rattle.ot_questions.specs.declared.place.Place.{Place}
use Rattle.ot_questions.specs.Places.{plus, by_order}
use Rattle.ot_terms.specs.Forms.{FormTree, True, Le, Lt, Eq, And, Or, Not, by_form}

-- a reading of ends goes through what is asked for two places of different variables, and so through orders and forms
module _ {A B : Type 0} (ask : Place → Place → A → A → A) (asks : Place → Place → B → B → B) (reading : A → B)
    (through : (x y : Place) (p q : A) → nat_eq x.var y.var ≡ false
    → reading (ask x y p q) ≡ asks x y (reading p) (reading q))
  where
    by_tests :
        (x y : Place) (p q : A) (b c : Bool) → nat_eq x.var y.var ≡ b
        → reading (if b then (if c then p else q) else ask x y p q)
        ≡ (if b then (if c then reading p else reading q) else asks x y (reading p) (reading q))
    by_tests x y p q true true e = refl
    by_tests x y p q true false e = refl
    by_tests x y p q false c e = through x y p q e

    pub order_through : (x y : Place) (p q : A)
        → reading (by_order ask x y p q) ≡ by_order asks x y (reading p) (reading q)
    order_through x y p q = by_tests x y p q (nat_eq x.var y.var) (int_le x.off y.off) refl

    -- what a form leaves of ends is read as what it leaves of the ends that are read
    pub form_through : (g : FormTree) (p q : A) → reading (by_form ask g p q) ≡ by_form asks g (reading p) (reading q)
    form_through True p q = refl
    form_through (Le x y) p q = order_through x y p q
    form_through (Lt x y) p q = order_through x (plus y (negsuc 0)) p q
    form_through (Eq x y) p q =
        order_through x y (by_order ask y x p q) q ∙ ap (λ t. by_order asks x y t (reading q)) (order_through y x p q)
    form_through (And g h) p q =
        form_through g (by_form ask h p q) q ∙ ap (λ t. by_form asks g t (reading q)) (form_through h p q)
    form_through (Or g h) p q =
        form_through g p (by_form ask h p q) ∙ ap (λ t. by_form asks g (reading p) t) (form_through h p q)
    form_through (Not g) p q = form_through g q p
