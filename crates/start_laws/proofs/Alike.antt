-- At a valuation the plans after results that agree end alike.
use Rattle.std.proofs.Common.{◌≡◌, ℕ, ℤ, pos, ◌+ℤ◌, Bool, if◌then◌else◌, int_le, int_lt, Option, Some, None, List, []}
use Rattle.std.proofs.Common.{◌∷◌, refl, ap, sym, ◌∙◌, subst}
use Rattle.std.specs.Ordering.{int_eq}
use Rattle.ot_model.specs.declared.op.Kind.{Kind}
use Rattle.ot_model.specs.declared.op.Mode.{Mode}
use Rattle.ot_model.specs.declared.op.Mode.TheVariants.{Plain, Tomb}
use Rattle.fn_rules.specs.Functions.{Function}
use Rattle.ask_core.specs.Plans.{Plan, Holds, Fails, end_of}
use Rattle.ot_questions.specs.declared.place.Place.{Place}
use Rattle.ot_questions.specs.declared.place.SymOp.{SymOp}
use Rattle.ot_questions.specs.declared.place.SymOp.TheVariants.{Ins, Del, Upd, Nop}
use Rattle.ot_questions.specs.declared.why.Why.{Why}
use Rattle.ot_questions.specs.declared.why.Why.TheVariants.{OutOfRange, Lengths, Operations}
use Rattle.ot_questions.specs.Places.{zero_place, length_and, index_and, integer_at, sym_kind, sym_at, sym_placed}
use Rattle.ot_questions.specs.Places.{growth}
use Rattle.ot_questions.specs.Questions.{ask_le, ask_lt, ask_transform, ask_enabled}
use Rattle.ot_questions.specs.Reading.{ask_cell, ask_same}
use Rattle.ot_questions.specs.Obligation.{ask_documents, ask_lengths, ask_ways, ask_one_place, ask_same_form}
use Rattle.ot_questions.proofs.Values.{if_end, by_test, end-le, end-lt, end-eq, end-transform, end-cell, goes_on, seen}
use Rattle.ot_terms.specs.Forms.{form_holds}
use Rattle.ot_terms.specs.Starting.{enabled_form}
use Rattle.ot_terms.proofs.Forms.{end_form}
use Rattle.ot_terms.proofs.Starts.{ask_form-enabled_form}
use Rattle.start_laws.proofs.Agreement.{Agree, BothAgree, placed_is, transformed_agree}

module _ (v : ℕ → ℤ) where
  -- the two plans end alike
  abbrev pub EndAlike : Plan Why → Plan Why → Type 0
  EndAlike p q = end_of p v ≡ end_of q v

  -- the plans that go on after operations that agree end alike
  abbrev pub GoAlike : (SymOp → Plan Why) → (SymOp → Plan Why) → Type 0
  GoAlike go to = (r s : SymOp) → Agree v r s → EndAlike (go r) (to s)

  tests_alike : (t u : Bool) (p q r s : Plan Why) → t ≡ u → EndAlike p r → EndAlike q s
      → by_test t p q v ≡ by_test u r s v
  tests_alike t u p q r s e hp hq =
      ap (λ x. by_test x p q v) e
      ∙ (ap (λ x. if u then x else end_of q v) hp ∙ ap (λ x. if u then end_of r v else x) hq)

  le_alike : (x y : Place) (p q r s : Plan Why) → EndAlike p r → EndAlike q s
      → EndAlike (ask_le x y p q) (ask_le x y r s)
  le_alike x y p q r s hp hq =
      let t = int_le (integer_at v x) (integer_at v y) in
      end-le x y p q v ∙ (tests_alike t t p q r s refl hp hq ∙ sym (end-le x y r s v))

  lt_alike : (x y : Place) (p q r s : Plan Why) → EndAlike p r → EndAlike q s
      → EndAlike (ask_lt x y p q) (ask_lt x y r s)
  lt_alike x y p q r s hp hq =
      let t = int_lt (integer_at v x) (integer_at v y) in
      end-lt x y p q v ∙ (tests_alike t t p q r s refl hp hq ∙ sym (end-lt x y r s v))

  -- a fact of an operation that its position bears on only by its integer
  by_placing :
      (P : SymOp → SymOp → Type 0) (a b : SymOp) → Agree v a b
      → (integer_at v (sym_at a) ≡ integer_at v (sym_at b) → P a (sym_placed a (sym_at b)))
      → P a b
  by_placing P a b h placed =
      subst (P a) (sym (placed_is a b h.kind h.site h.ch)) (placed h.at)

  went_alike :
      (o p : Option SymOp) (go to : SymOp → Plan Why) → BothAgree v o p → GoAlike go to
      → goes_on o (λ r. end_of (go r) v) ≡ goes_on p (λ r. end_of (to r) v)
  went_alike None None go to h alike = refl
  went_alike None (Some s) go to h alike = absurd h
  went_alike (Some r) None go to h alike = absurd h
  went_alike (Some r) (Some s) go to h alike = alike r s h

  pub transform_alike :
      (f : Function) (a b c d : SymOp) (go to : SymOp → Plan Why) → Agree v a c → Agree v b d → GoAlike go to
      → EndAlike (ask_transform f a b go) (ask_transform f c d to)
  transform_alike f a b c d go to first second alike =
      end-transform f a b go v
      ∙ (went_alike _ _ go to (transformed_agree v a b c d first second f) alike ∙ sym (end-transform f c d to v))

  enabled_placed :
      (a : SymOp) (p : Place) (off : ℤ) → integer_at v (sym_at a) ≡ integer_at v p
      → form_holds v (enabled_form a off) ≡ form_holds v (enabled_form (sym_placed a p) off)
  enabled_placed (Ins q c s) p off e = rw e refl
  enabled_placed (Del q s) p off e = rw e refl
  enabled_placed (Upd q c s) p off e = rw e refl
  enabled_placed Nop p off e = refl

  end-enabled_form :
      (o : SymOp) (off : ℤ) (p q : Plan Why)
      → end_of (ask_enabled o off p q) v ≡ by_test (form_holds v (enabled_form o off)) p q v
  end-enabled_form o off p q =
      ap (λ x. end_of x v) (sym (ask_form-enabled_form o off p q)) ∙ end_form (enabled_form o off) p q v

  enabled_alike :
      (a b : SymOp) (j k : ℤ) (p q r s : Plan Why) → Agree v a b → j ≡ k → EndAlike p r → EndAlike q s
      → EndAlike (ask_enabled a j p q) (ask_enabled b k r s)
  enabled_alike a b j k p q r s h e hp hq =
      let same =
      by_placing (λ x y. form_holds v (enabled_form x j) ≡ form_holds v (enabled_form y j)) a b h
      (enabled_placed a (sym_at b) j)
      ∙ ap (λ i. form_holds v (enabled_form b i)) e
      in
      end-enabled_form a j p q ∙ (tests_alike _ _ p q r s same hp hq ∙ sym (end-enabled_form b k r s))

  growth_placed : (mode : Mode) (a : SymOp) (p : Place) → growth mode a ≡ growth mode (sym_placed a p)
  growth_placed mode (Ins q c s) p = refl
  growth_placed Plain (Del q s) p = refl
  growth_placed Tomb (Del q s) p = refl
  growth_placed mode (Upd q c s) p = refl
  growth_placed mode Nop p = refl

  same_growth : (mode : Mode) (a b : SymOp) → Agree v a b → growth mode a ≡ growth mode b
  same_growth mode a b h =
      by_placing (λ x y. growth mode x ≡ growth mode y) a b h (λ e. growth_placed mode a (sym_at b))

  -- what a reading comes to, where the last change is at a place of the same integer
  seen_placed :
      (mode : Mode) (a : SymOp) (p : Place) (changes : List SymOp) (off : ℤ) → integer_at v (sym_at a) ≡ integer_at v p
      → seen v mode (a ∷ changes) off ≡ seen v mode (sym_placed a p ∷ changes) off
  seen_placed Plain (Ins q c s) p changes off e = rw e refl
  seen_placed Tomb (Ins q c s) p changes off e = rw e refl
  seen_placed Plain (Del q s) p changes off e = rw e refl
  seen_placed Tomb (Del q s) p changes off e = rw e refl
  seen_placed Plain (Upd q c s) p changes off e = rw e refl
  seen_placed Tomb (Upd q c s) p changes off e = rw e refl
  seen_placed Plain Nop p changes off e = refl
  seen_placed Tomb Nop p changes off e = refl

  same_seen :
      (mode : Mode) (a b : SymOp) (changes : List SymOp) (off : ℤ) → Agree v a b
      → seen v mode (a ∷ changes) off ≡ seen v mode (b ∷ changes) off
  same_seen mode a b changes off h =
      by_placing (λ x y. seen v mode (x ∷ changes) off ≡ seen v mode (y ∷ changes) off) a b h
      (seen_placed mode a (sym_at b) changes off)

  end-cells :
      (mode : Mode) (left right : List SymOp)
      → end_of (ask_cell mode left (pos 0) (λ x. ask_cell mode right (pos 0) (λ y. ask_same x y))) v
      ≡ end_of (ask_same (seen v mode left (pos 0)) (seen v mode right (pos 0))) v
  end-cells mode left right =
      end-cell mode left (pos 0) (λ x. ask_cell mode right (pos 0) (λ y. ask_same x y)) v
      ∙ end-cell mode right (pos 0) (λ y. ask_same (seen v mode left (pos 0)) y) v

  module _ (mode : Mode) (a b p q r s : SymOp) (first : Agree v p r) (second : Agree v q s) where
    -- comparing the documents of both ways ends alike where the forms agree
    documents_alike :
        (j k : ℤ) → j ≡ k
        → EndAlike (ask_documents mode (p ∷ a ∷ []) (q ∷ b ∷ []) j) (ask_documents mode (r ∷ a ∷ []) (s ∷ b ∷ []) k)
    unfolding ask_documents
    documents_alike j k e =
        let same =
        end-cells mode (p ∷ a ∷ []) (q ∷ b ∷ [])
        ∙ (ap (λ x. end_of (ask_same x (seen v mode (q ∷ b ∷ []) (pos 0))) v)
        (same_seen mode p r (a ∷ []) (pos 0) first)
        ∙ (ap (λ x. end_of (ask_same (seen v mode (r ∷ a ∷ []) (pos 0)) x) v)
        (same_seen mode q s (b ∷ []) (pos 0) second)
        ∙ sym (end-cells mode (r ∷ a ∷ []) (s ∷ b ∷ []))))
        in
        ap (λ i. end_of (ask_documents mode (p ∷ a ∷ []) (q ∷ b ∷ []) i) v) e
        ∙ le_alike zero_place (index_and (pos 0)) _ Holds _ Holds
        (lt_alike (index_and (pos 0)) (length_and k) _ Holds _ Holds same refl) refl

    lengths_alike : EndAlike (ask_lengths mode a p b q) (ask_lengths mode a r b s)
    unfolding ask_lengths
    lengths_alike =
        let left = ap (λ k. growth mode a +ℤ k) (same_growth mode p r first) in
        let right = ap (λ k. growth mode b +ℤ k) (same_growth mode q s second) in
        let test = ap (λ k. int_eq k (growth mode b +ℤ growth mode q)) left
        ∙ ap (λ k. int_eq (growth mode a +ℤ growth mode r) k) right in
        if_end _ _ (Fails Lengths) v
        ∙ (tests_alike _ _ _ (Fails Lengths) _ (Fails Lengths) test (documents_alike _ _ left) refl
        ∙ sym (if_end _ _ (Fails Lengths) v))

    -- whether both ways give one document
    pub ways_alike : EndAlike (ask_ways mode a p b q) (ask_ways mode a r b s)
    unfolding ask_ways
    ways_alike =
        enabled_alike p r (growth mode a) (growth mode a) _ (Fails OutOfRange) _ (Fails OutOfRange) first refl
        (enabled_alike q s (growth mode b) (growth mode b) _ (Fails OutOfRange) _ (Fails OutOfRange) second
        refl lengths_alike refl) refl

  -- comparing two positions ends alike where their integers are the same
  one_place_alike :
      (j k : Option Kind) (x y z w : Place) → integer_at v x ≡ integer_at v z → integer_at v y ≡ integer_at v w
      → EndAlike (ask_one_place j k x y) (ask_one_place j k z w)
  unfolding ask_one_place
  one_place_alike None None x y z w e h = refl
  one_place_alike None (Some k) x y z w e h = refl
  one_place_alike (Some j) None x y z w e h = refl
  one_place_alike (Some j) (Some k) x y z w e h =
      let same = ap (λ i. int_eq i (integer_at v y)) e ∙ ap (λ i. int_eq (integer_at v z) i) h in
      end-eq x y Holds (Fails Operations) v
      ∙ (tests_alike _ _ Holds (Fails Operations) Holds (Fails Operations) same refl refl
      ∙ sym (end-eq z w Holds (Fails Operations) v))

  -- whether two forms are one
  pub same_form_alike : (a b c d : SymOp) → Agree v a c → Agree v b d → EndAlike (ask_same_form a b) (ask_same_form c d)
  unfolding ask_same_form
  same_form_alike a b c d first second =
      one_place_alike (sym_kind a) (sym_kind b) (sym_at a) (sym_at b) (sym_at c) (sym_at d) first.at second.at
      ∙ (ap (λ j. end_of (ask_one_place j (sym_kind b) (sym_at c) (sym_at d)) v) first.kind
      ∙ ap (λ k. end_of (ask_one_place (sym_kind c) k (sym_at c) (sym_at d)) v) second.kind)
