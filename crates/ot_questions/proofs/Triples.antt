-- The plan of a triple at a valuation, and TP2 at the operations that the names stand for. What is new
-- beside pairs: a form is nop or its operation moved, so equal positions make two forms equal.
use Rattle.std.proofs.Common.{◌≡◌, ℕ, ℤ, pos, ◌+ℤ◌, Bool, ◌&&◌, if◌then◌else◌, int_le, Option, Some, None, option_map}
use Rattle.std.proofs.Common.{[], ◌∷◌, refl, ap, sym, ◌∙◌, subst, inl, inr, ◌⊎◌}
use Rattle.std.specs.Prelude.{option_and_then}
use Rattle.std.specs.Ordering.{int_eq}
use Rattle.std.proofs.lemmas.Bool.{cases_Bool, false≢true}
use Rattle.std.proofs.lemmas.Bool.Decides.{Decides-int_eq}
use Rattle.ot_model.specs.declared.op.Kind.{Kind}
use Rattle.ot_model.specs.declared.op.Op.{Op}
use Rattle.ot_model.specs.declared.op.Op.TheVariants as ops
use Rattle.ot_model.specs.Operations.{kind_of, at_of}
use Rattle.fn_rules.specs.Functions.{Function}
use Rattle.fn_rules.specs.Transformation.{transform_of}
use Rattle.fn_rules.specs.Conditions.{IsFormOf, IsMovedFrom}
use Rattle.fn_rules.specs.Properties.{CommutesAt}
use Rattle.ask_core.specs.Plans.{Plan, Holds, Fails, end_of}
use Rattle.ot_questions.specs.declared.place.Place.{Place}
use Rattle.ot_questions.specs.declared.place.SymOp.{SymOp}
use Rattle.ot_questions.specs.declared.why.Why.{Why}
use Rattle.ot_questions.specs.declared.why.Why.TheVariants.{Undefined, OutOfRange, Lengths, Cells, Operations}
use Rattle.ot_questions.specs.Places.{zero_place, length_and, integer_at, sym_kind, sym_at}
use Rattle.ot_questions.specs.Questions.{ask_eq, ask_transform, ask_allowed}
use Rattle.ot_questions.specs.Obligation.{ask_all_enabled, ask_one_place, ask_same_form, ask_behind, ask_commute}
use Rattle.ot_questions.specs.Obligation.{ask_triple}
use Rattle.ot_questions.specs.Meaning.{op_at}
use Rattle.ot_questions.specs.Instances.{StandsForOperation, form_behind, TripleFails}
use Rattle.ot_questions.proofs.Tests.{if_and}
use Rattle.ot_questions.proofs.Values.{by_test, end-le, end-eq, end-transform, end-allowed, sym_transformed}
use Rattle.ot_questions.proofs.Values.{sym_allowed, goes_on}
use Rattle.ot_questions.proofs.Operations.{IsCounted, transform_of-op_at}
use Rattle.ot_questions.proofs.Forms as forms
use Rattle.ot_questions.proofs.Forms.{form_of_form, counted_form, IsCounted-form, form-op_at}
use Rattle.ot_questions.proofs.Standing.{by_parts, standing-op_at}
use Rattle.ot_questions.proofs.Pairs.{goes_on-same, all_enabled, end-all_enabled}

-- two forms that stand for one operation, and are found so, or for two, and are found different
abbrev pub FoundAs : Type 0 → Option Why → Type 0
FoundAs Same end = (Same × (end ≡ None)) ⊎ ((Same → ⊥) × (end ≡ Some Operations))

-- two places are found equal exactly where the integers that they stand for are
place_found : (v : ℕ → ℤ) (p q : Place)
    → FoundAs (integer_at v p ≡ integer_at v q) (end_of (ask_eq p q Holds (Fails Operations)) v)
place_found v p q =
    elim (cases_Bool (int_eq (integer_at v p) (integer_at v q))) [
      | inl same ↦ inl (
        (Decides-int_eq _ _).0 same,
        end-eq p q Holds (Fails Operations) v ∙ ap
            (λ t. by_test t Holds (Fails Operations) v) same,
      )
      | inr other ↦ inr (
        λ same. false≢true (sym other ∙ (Decides-int_eq _ _).1 same),
        end-eq p q Holds (Fails Operations) v ∙ ap
            (λ t. by_test t Holds (Fails Operations) v) other,
      )
    ]

-- an operation that has a kind is not nop
moved_form : (c a : Op) (k : Kind) → IsFormOf c a → kind_of a ≡ Some k → IsMovedFrom c a
moved_form c a k (inl nop) e = absurd (no_kind (sym (ap kind_of nop) ∙ e))
  where
    no_kind : None ≡ Some k → ⊥
    no_kind e = cc
moved_form c a k (inr moved) e = moved

nop_by_kind_of : (a : Op) → kind_of a ≡ None → a ≡ ops.Nop
nop_by_kind_of ops.Nop e = refl
nop_by_kind_of a e = absurd (cc)

module _ (v : ℕ → ℤ) (x y : SymOp) (a b c : Op) (sx : StandsForOperation v x a) (sy : StandsForOperation v y b)
    (fa : IsFormOf c a) (fb : IsFormOf c b) where
  two_kinds : (j k : Option Kind) → sym_kind x ≡ j → sym_kind y ≡ k → a ≡ b → j ≡ k
  two_kinds j k ex ey same = sym ex ∙ (sx.kind ∙ (ap kind_of same ∙ (sym sy.kind ∙ ey)))

  -- by the kinds of the two forms, and where both have one, by their positions
  found_by_kinds :
      (j k : Option Kind) → sym_kind x ≡ j → sym_kind y ≡ k
      → FoundAs (a ≡ b) (end_of (ask_one_place j k (sym_at x) (sym_at y)) v)
  unfolding ask_one_place
  found_by_kinds None None ex ey =
      inl (nop_by_kind_of a (sym sx.kind ∙ ex) ∙ sym (nop_by_kind_of b (sym sy.kind ∙ ey)), refl)
  found_by_kinds None (Some k) ex ey = inr (λ same. let wrong = two_kinds None (Some k) ex ey same in cc, refl)
  found_by_kinds (Some j) None ex ey = inr (λ same. let wrong = two_kinds (Some j) None ex ey same in cc, refl)
  found_by_kinds (Some j) (Some k) ex ey =
      let first = moved_form c a j fa (sym sx.kind ∙ ex) in
      let second = moved_form c b k fb (sym sy.kind ∙ ey) in
      elim (place_found v (sym_at x) (sym_at y)) [
        | inl found ↦
            inl (
              by_parts a b (first.kind ∙ sym second.kind) (sym sx.at ∙ (found.0 ∙ sy.at)) (first.site ∙ sym second.site)
                  (first.char ∙ sym second.char),
              found.1,
            )
        | inr other ↦ inr (λ same. other.0 (sx.at ∙ (ap at_of same ∙ sym sy.at)), other.1)
      ]

  -- two forms of one operation are found equal exactly where they are one
  pub same_form_found : FoundAs (a ≡ b) (end_of (ask_same_form x y) v)
  unfolding ask_same_form
  same_form_found = found_by_kinds (sym_kind x) (sym_kind y) refl refl

-- the form behind two operations, at the valuation
abbrev pub sym_behind : (ℕ → ℤ) → Function → SymOp → SymOp → SymOp → Option SymOp
sym_behind v f a b c =
    option_and_then (λ p. option_and_then (λ q. sym_transformed v f q p) (sym_transformed v f c a))
    (sym_transformed v f b a)

goes_on-and_then :
    (o : Option SymOp) (h : SymOp → Option SymOp) (go : SymOp → Option Why)
    → goes_on o (λ p. goes_on (h p) go) ≡ goes_on (option_and_then h o) go
goes_on-and_then None h go = refl
goes_on-and_then (Some p) h go = refl

-- the questions about a form behind two operations go on with it, if there is one at the valuation
end-behind :
    (v : ℕ → ℤ) (f : Function) (a b c : SymOp) (go : SymOp → Plan Why)
    → end_of (ask_behind f a b c go) v ≡ goes_on (sym_behind v f a b c) (λ r. end_of (go r) v)
unfolding ask_behind
end-behind v f a b c go =
    end-transform f b a (λ p. ask_transform f c a (λ q. ask_transform f q p go)) v
    ∙ (goes_on-same (sym_transformed v f b a) _ _
    (λ p.
    end-transform f c a (λ q. ask_transform f q p go) v
    ∙ (goes_on-same (sym_transformed v f c a) _ _ (λ q. end-transform f q p go v)
    ∙ goes_on-and_then (sym_transformed v f c a) (λ q. sym_transformed v f q p) (λ r. end_of (go r) v)))
    ∙ goes_on-and_then (sym_transformed v f b a)
    (λ p. option_and_then (λ q. sym_transformed v f q p) (sym_transformed v f c a))
    (λ r. end_of (go r) v))

-- where the questions about both ways lead
abbrev pub commute_end : (ℕ → ℤ) → Option SymOp → Option SymOp → Option Why
commute_end v left right = goes_on left (λ p. goes_on right (λ q. end_of (ask_same_form p q) v))

end-commute :
    (v : ℕ → ℤ) (f : Function) (a b c : SymOp)
    → end_of (ask_commute f a b c) v ≡ commute_end v (sym_behind v f a b c) (sym_behind v f b a c)
unfolding ask_commute
end-commute v f a b c =
    end-behind v f a b c (λ left. ask_behind f b a c (λ right. ask_same_form left right))
    ∙ goes_on-same (sym_behind v f a b c) _ _ (λ left. end-behind v f b a c (λ right. ask_same_form left right))

-- what is there after two steps was there after each
and_then_some :
    {X Y : Type 0} (o : Option X) (h : X → Option Y) (y : Y) → option_and_then h o ≡ Some y
    → (x : X) × (o ≡ Some x) × (h x ≡ Some y)
and_then_some None h y e = absurd (cc)
and_then_some (Some x) h y e = (x, refl, e)

some_and_then : {X Y : Type 0} (o : Option X) (h : X → Option Y) (x : X) (y : Y) → o ≡ Some x → h x ≡ Some y
    → option_and_then h o ≡ Some y
some_and_then o h x y e g = ap (option_and_then h) e ∙ g

-- a form behind two operations is a form of the operation
behind_form : (v : ℕ → ℤ) (f : Function) (a b c r : SymOp) → sym_behind v f a b c ≡ Some r → forms.IsFormOf c r
behind_form v f a b c r e =
    let p = and_then_some (sym_transformed v f b a) _ r e in
    let q = and_then_some (sym_transformed v f c a) _ r p.2 in
    form_of_form v f c a p.0 q.0 r q.1 q.2

behind_is_form : (v : ℕ → ℤ) (f : Function) (a b c r : SymOp) → sym_behind v f a b c ≡ Some r
    → IsFormOf (op_at v c) (op_at v r)
behind_is_form v f a b c r e = form-op_at v c r (behind_form v f a b c r e)

counted_behind : (v : ℕ → ℤ) (f : Function) (a b c r : SymOp) → IsCounted v c
    → sym_behind v f a b c ≡ Some r → IsCounted v r
counted_behind v f a b c r cd e = IsCounted-form v c r (behind_form v f a b c r e) cd

-- the form behind two operations is that of the operations that the names stand for
form_behind-op_at :
    (v : ℕ → ℤ) (f : Function) (a b c : SymOp) → v 0 ≡ pos 0 → IsCounted v a → IsCounted v b → IsCounted v c
    → form_behind f (op_at v a) (op_at v b) (op_at v c) ≡ option_map (op_at v) (sym_behind v f a b c)
form_behind-op_at v f a b c z ca cb cd =
    ap (λ o. option_and_then (λ p. option_and_then (λ q. transform_of f q p) (transform_of f (op_at v c) (op_at v a)))
    o) (transform_of-op_at v z b a cb ca f)
    ∙ through_first (sym_transformed v f b a) refl
  where
    through_second :
        (p : SymOp) → IsCounted v p → (o : Option SymOp) → sym_transformed v f c a ≡ o
        → option_and_then (λ q. transform_of f q (op_at v p)) (option_map (op_at v) o) ≡ option_map (op_at v)
        (option_and_then (λ q. sym_transformed v f q p) o)
    through_second p cp None e = refl
    through_second p cp (Some q) e = transform_of-op_at v z q p (counted_form v f c a q cd e) cp f

    through_first :
        (o : Option SymOp) → sym_transformed v f b a ≡ o
        → option_and_then (λ p. option_and_then (λ q. transform_of f q p) (transform_of f (op_at v c) (op_at v a)))
        (option_map (op_at v) o) ≡ option_map (op_at v)
        (option_and_then (λ p. option_and_then (λ q. sym_transformed v f q p) (sym_transformed v f c a)) o)
    through_first None e = refl
    through_first (Some p) e =
        ap (λ o. option_and_then (λ q. transform_of f q (op_at v p)) o) (transform_of-op_at v z c a cd ca f)
        ∙ through_second p (counted_form v f b a p cb e) (sym_transformed v f c a) refl

-- the operations commute where both ways give one form
commutes_by_forms : (f : Function) (a b c r : Op) → form_behind f a b c ≡ Some r
    → form_behind f b a c ≡ Some r → CommutesAt f a b c
commutes_by_forms f a b c r left right =
    let ba = and_then_some (transform_of f b a) _ r left in
    let c_a = and_then_some (transform_of f c a) _ r ba.2 in
    let ab = and_then_some (transform_of f a b) _ r right in
    let c_b = and_then_some (transform_of f c b) _ r ab.2 in
    record {
      b_after_a = ba.0;
      a_after_b = ab.0;
      c_after_a = c_a.0;
      c_after_b = c_b.0;
      c_after_both = r;
      b_transformed = ba.1;
      a_transformed = ab.1;
      c_by_a = c_a.1;
      c_by_b = c_b.1;
      c_by_a_then_b = c_a.2;
      c_by_b_then_a = c_b.2;
    }

forms_by_commutes :
    (f : Function) (a b c : Op) (h : CommutesAt f a b c)
    → (form_behind f a b c ≡ Some h.c_after_both) × (form_behind f b a c ≡ Some h.c_after_both)
forms_by_commutes f a b c h = (
  some_and_then (transform_of f b a) _ h.b_after_a _ h.b_transformed
      (some_and_then (transform_of f c a) _ h.c_after_a _ h.c_by_a h.c_by_a_then_b),
  some_and_then (transform_of f a b) _ h.a_after_b _ h.a_transformed
      (some_and_then (transform_of f c b) _ h.c_after_b _ h.c_by_b h.c_by_b_then_a),
)

no_form : (o : Option Op) (r : Op) → o ≡ None → o ≡ Some r → ⊥
no_form o r e h = cc

one_form : (o : Option Op) (r s : Op) → o ≡ Some r → o ≡ Some s → r ≡ s
one_form o r s e h = cc

pub triple_fails_breaks : (f : Function) (a b c : Op) (why : Why) → TripleFails f a b c why → CommutesAt f a b c → ⊥
triple_fails_breaks f a b c Undefined (inl none) h =
    no_form (form_behind f a b c) h.c_after_both none (forms_by_commutes f a b c h).0
triple_fails_breaks f a b c Undefined (inr none) h =
    no_form (form_behind f b a c) h.c_after_both none (forms_by_commutes f a b c h).1
triple_fails_breaks f a b c OutOfRange fails h = fails
triple_fails_breaks f a b c Lengths fails h = fails
triple_fails_breaks f a b c (Cells left dead) fails h = fails
triple_fails_breaks f a b c Operations fails h =
    let both = forms_by_commutes f a b c h in
    fails.4 (one_form (form_behind f a b c) fails.0 h.c_after_both fails.2 both.0 ∙ sym
    (one_form (form_behind f b a c) fails.1 h.c_after_both fails.3 both.1))

-- the causes exclude one another
pub one_triple_cause : (f : Function) (a b c : Op) (why other : Why) → TripleFails f a b c why
    → TripleFails f a b c other → why ≡ other
one_triple_cause f a b c Undefined Undefined h g = refl
one_triple_cause f a b c Undefined Operations (inl none) g = absurd (no_form (form_behind f a b c) g.0 none g.2)
one_triple_cause f a b c Undefined Operations (inr none) g = absurd (no_form (form_behind f b a c) g.1 none g.3)
one_triple_cause f a b c Operations Undefined h (inl none) = absurd (no_form (form_behind f a b c) h.0 none h.2)
one_triple_cause f a b c Operations Undefined h (inr none) = absurd (no_form (form_behind f b a c) h.1 none h.3)
one_triple_cause f a b c Operations Operations h g = refl
one_triple_cause f a b c Undefined OutOfRange h g = absurd g
one_triple_cause f a b c Undefined Lengths h g = absurd g
one_triple_cause f a b c Undefined (Cells left dead) h g = absurd g
one_triple_cause f a b c Operations OutOfRange h g = absurd g
one_triple_cause f a b c Operations Lengths h g = absurd g
one_triple_cause f a b c Operations (Cells left dead) h g = absurd g
one_triple_cause f a b c OutOfRange other h g = absurd h
one_triple_cause f a b c Lengths other h g = absurd h
one_triple_cause f a b c (Cells left dead) other h g = absurd h

-- what the end of a triple's plan says of three operations that are enabled and allowed
abbrev pub TripleSays : Function → Op → Op → Op → Option Why → Type 0
TripleSays f a b c None = CommutesAt f a b c
TripleSays f a b c (Some why) = TripleFails f a b c why

module _ (v : ℕ → ℤ) (f : Function) (a b c : SymOp) (z : v 0 ≡ pos 0) (ca : IsCounted v a) (cb : IsCounted v b)
    (cd : IsCounted v c) where
  -- each of the two forms is missing, or their comparison tells whether they are one operation
  by_both :
      (left right : Option SymOp) → sym_behind v f a b c ≡ left → sym_behind v f b a c ≡ right
      → TripleSays f (op_at v a) (op_at v b) (op_at v c) (commute_end v left right)
  by_both None right el er = inl (form_behind-op_at v f a b c z ca cb cd ∙ ap (option_map (op_at v)) el)
  by_both (Some p) None el er = inr (form_behind-op_at v f b a c z cb ca cd ∙ ap (option_map (op_at v)) er)
  by_both (Some p) (Some q) el er =
      let left = form_behind-op_at v f a b c z ca cb cd ∙ ap (option_map (op_at v)) el in
      let right = form_behind-op_at v f b a c z cb ca cd ∙ ap (option_map (op_at v)) er in
      let cp = counted_behind v f a b c p cd el in
      let cq = counted_behind v f b a c q cd er in
      elim (same_form_found v p q (op_at v p) (op_at v q) (op_at v c) (standing-op_at v p z cp)
      (standing-op_at v q z cq)
      (behind_is_form v f a b c p el) (behind_is_form v f b a c q er)) [
        | inl same ↦
            subst (λ end. TripleSays f (op_at v a) (op_at v b) (op_at v c) end) (sym same.1)
            (commutes_by_forms f (op_at v a) (op_at v b) (op_at v c) (op_at v p) left (right ∙ ap Some (sym same.0)))
        | inr other ↦
            subst (λ end. TripleSays f (op_at v a) (op_at v b) (op_at v c) end) (sym other.1)
            (op_at v p, op_at v q, left, right, other.0)
      ]

  pub commute_says : TripleSays f (op_at v a) (op_at v b) (op_at v c) (end_of (ask_commute f a b c) v)
  commute_says =
      subst (λ end. TripleSays f (op_at v a) (op_at v b) (op_at v c) end) (sym (end-commute v f a b c))
      (by_both (sym_behind v f a b c) (sym_behind v f b a c) refl refl)

-- the tests of what three operations are assumed to differ in
abbrev pub all_allowed : (ℕ → ℤ) → Function → SymOp → SymOp → SymOp → Bool
all_allowed v f a b c = sym_allowed v f.head a b && (sym_allowed v f.head a c && sym_allowed v f.head b c)

-- where the plan of a triple leads
pub end-triple :
    (v : ℕ → ℤ) (f : Function) (a b c : SymOp) → v 0 ≡ pos 0
    → end_of (ask_triple f a b c) v
    ≡ (if int_le (v 0 +ℤ pos 0) (v 1 +ℤ pos 0)
    then (if all_enabled v (a ∷ b ∷ c ∷ [])
    then (if all_allowed v f a b c then end_of (ask_commute f a b c) v else None) else None)
    else None)
unfolding ask_triple
end-triple v f a b c z =
    let ab = sym_allowed v f.head a b in
    let ac = sym_allowed v f.head a c in
    let bc = sym_allowed v f.head b c in
    let last = ask_allowed f.head b c (ask_commute f a b c) in
    let middle = ask_allowed f.head a c last in
    end-le zero_place (length_and (pos 0)) (ask_all_enabled (a ∷ b ∷ c ∷ []) (ask_allowed f.head a b middle)) Holds v
    ∙ ap (λ e. if int_le (v 0 +ℤ pos 0) (v 1 +ℤ pos 0) then e else None)
    (end-all_enabled v (a ∷ b ∷ c ∷ []) (ask_allowed f.head a b middle) z
    ∙ ap (λ e. if all_enabled v (a ∷ b ∷ c ∷ []) then e else None)
    (end-allowed f.head a b middle v
    ∙ (ap (λ e. if ab then e else None)
    (end-allowed f.head a c last v
    ∙ (ap (λ e. if ac then e else None) (end-allowed f.head b c (ask_commute f a b c) v) ∙ if_and ac bc
    (end_of (ask_commute f a b c) v) None))
    ∙ if_and ab (ac && bc) (end_of (ask_commute f a b c) v) None)))
