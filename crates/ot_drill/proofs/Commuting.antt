-- The functions of the workload have the second property: behind the same two operations a third one has one form.
use Rattle.std.proofs.Common.{◌≡◌, ◌≢◌, ℕ, ◌+◌, ℤ, pos, ◌+ℤ◌, Some, refl, ap, sym, ◌∙◌, inl, inr, arith}
use Rattle.ot_model.specs.declared.op.Op.{Op}
use Rattle.ot_model.specs.declared.op.Op.TheVariants.{Ins, Del, Upd, Nop}
use Rattle.fn_rules.specs.Properties.{CommutesAt, commutes_exchanged, HasTp2}
use Rattle.fn_rules.specs.Transformation.{transform_of, IsAllowed}
use Rattle.ot_drill.specs.Workload.{drill_function}
use Rattle.ot_drill.proofs.Places.{IsBefore, place_behind, before_stays, behind_moves, one_is_before, place_behind-both}
use Rattle.ot_drill.proofs.Behind.{IsDeclared, insertion_behind, deletion_behind, insertion_behind_deletion}
use Rattle.ot_drill.proofs.Behind.{deletion_behind_deletion}

-- what a deletion becomes behind an operation
deleted : (n : ℕ) (a : Op) (q : ℤ) (t : ℕ) → IsDeclared a
    → (to : ℤ) × (transform_of (drill_function n) (Del q t) a ≡ Some (Del to t))
deleted n (Ins p c s) q t h = (place_behind q s p s, deletion_behind n q p c t s s (omega arith))
deleted n (Del p s) q t h = (q, deletion_behind_deletion n q p t s)
deleted n (Upd p c s) q t h = absurd (cc)
deleted n Nop q t h = absurd (cc)

-- an operation stays behind each deletion
stays : (n : ℕ) (a : Op) (q : ℤ) (t : ℕ) → IsDeclared a → transform_of (drill_function n) a (Del q t) ≡ Some a
stays n (Ins p c s) q t h = insertion_behind_deletion n p q c s t
stays n (Del p s) q t h = deletion_behind_deletion n p q s t
stays n (Upd p c s) q t h = absurd (cc)
stays n Nop q t h = absurd (cc)

-- what an operation becomes behind another one
record HasForm (n : ℕ) (c a : Op) : Type 0 where
  form : Op
  declared : IsDeclared form
  is_form : transform_of (drill_function n) c a ≡ Some form

form_behind : (n : ℕ) (c a : Op) → IsDeclared c → IsDeclared a → HasForm n c a
form_behind n (Ins r e u) (Ins p c s) h g =
    record { form = Ins (place_behind r u p s) e u; declared = refl; is_form = insertion_behind n r p e c u s }
form_behind n (Ins r e u) (Del p s) h g =
    record { form = Ins r e u; declared = refl; is_form = insertion_behind_deletion n r p e u s }
form_behind n (Ins r e u) (Upd p c s) h g = absurd (cc)
form_behind n (Ins r e u) Nop h g = absurd (cc)
form_behind n (Del r u) a h g = let found = deleted n a r u g in
    record { form = Del found.0 u; declared = refl; is_form = found.1 }
form_behind n (Upd r e u) a h g = absurd (cc)
form_behind n Nop a h g = absurd (cc)

-- the second operation is a deletion
by_deletion : (n : ℕ) (a c : Op) (q : ℤ) (t : ℕ) → IsDeclared a → IsDeclared c
    → CommutesAt (drill_function n) a (Del q t) c
by_deletion n a c q t of_a of_c =
    let moved = deleted n a q t of_a in
    let found = form_behind n c a of_c of_a in
    record {
      b_after_a = Del moved.0 t;
      a_after_b = a;
      c_after_a = found.form;
      c_after_b = c;
      c_after_both = found.form;
      b_transformed = moved.1;
      a_transformed = stays n a q t of_a;
      c_by_a = found.is_form;
      c_by_b = stays n c q t of_c;
      c_by_a_then_b = stays n found.form moved.0 t found.declared;
      c_by_b_then_a = found.is_form;
    }

-- the first two are insertions, of which the first is before the second
ordered_insertion : (n : ℕ) (p q r : ℤ) (c d e s t u : ℕ) → IsBefore p s q t → u ≢ s → u ≢ t →
    CommutesAt (drill_function n) (Ins p c s) (Ins q d t) (Ins r e u)
ordered_insertion n p q r c d e s t u order of_s of_t =
    record {
      b_after_a = Ins (q +ℤ pos 1) d t;
      a_after_b = Ins p c s;
      c_after_a = Ins (place_behind r u p s) e u;
      c_after_b = Ins (place_behind r u q t) e u;
      c_after_both = Ins (place_behind (place_behind r u q t) u p s) e u;
      b_transformed = insertion_behind n q p d c t s ∙ ap (λ x. Some (Ins x d t)) (behind_moves q p t s order);
      a_transformed = insertion_behind n p q c d s t ∙ ap (λ x. Some (Ins x c s)) (before_stays p q s t order);
      c_by_a = insertion_behind n r p e c u s;
      c_by_b = insertion_behind n r q e d u t;
      c_by_a_then_b = insertion_behind n (place_behind r u p s) (q +ℤ pos 1) e d u t
          ∙ ap (λ x. Some (Ins x e u)) (place_behind-both p q r s t u order of_s of_t);
      c_by_b_then_a = insertion_behind n (place_behind r u q t) p e c u s;
    }

-- the same, and the third is a deletion: with a rank above the two sites it moves as an insertion would
ordered_deletion : (n : ℕ) (p q r : ℤ) (c d s t v : ℕ) → IsBefore p s q t
    → CommutesAt (drill_function n) (Ins p c s) (Ins q d t) (Del r v)
ordered_deletion n p q r c d s t v order =
    let u : ℕ = s + t + 1 in
    record {
      b_after_a = Ins (q +ℤ pos 1) d t;
      a_after_b = Ins p c s;
      c_after_a = Del (place_behind r u p s) v;
      c_after_b = Del (place_behind r u q t) v;
      c_after_both = Del (place_behind (place_behind r u q t) u p s) v;
      b_transformed = insertion_behind n q p d c t s ∙ ap (λ x. Some (Ins x d t)) (behind_moves q p t s order);
      a_transformed = insertion_behind n p q c d s t ∙ ap (λ x. Some (Ins x c s)) (before_stays p q s t order);
      c_by_a = deletion_behind n r p c v s u (omega arith);
      c_by_b = deletion_behind n r q d v t u (omega arith);
      c_by_a_then_b = deletion_behind n (place_behind r u p s) (q +ℤ pos 1) d v t u (omega arith)
          ∙ ap (λ x. Some (Del x v)) (place_behind-both p q r s t u order (λ e. omega arith) (λ e. omega arith));
      c_by_b_then_a = deletion_behind n (place_behind r u q t) p c v s u (omega arith);
    }

-- three operations, by their kinds
by_kinds : (n : ℕ) (a b c : Op) → IsDeclared a → IsDeclared b → IsDeclared c → IsAllowed (drill_function n) a b →
    IsAllowed (drill_function n) a c → IsAllowed (drill_function n) b c → CommutesAt (drill_function n) a b c
by_kinds n a (Del q t) c of_a of_b of_c ab ac bc = by_deletion n a c q t of_a of_c
by_kinds n (Del p s) b c of_a of_b of_c ab ac bc =
    commutes_exchanged (drill_function n) b (Del p s) c (by_deletion n b c p s of_b of_c)
by_kinds n (Ins p x s) (Ins q y t) (Ins r z u) of_a of_b of_c ab ac bc =
    elim (one_is_before p q s t (ab.sites refl)) [
      | inl before ↦
          ordered_insertion n p q r x y z s t u before (λ e. ac.sites refl (sym e)) (λ e. bc.sites refl (sym e))
      | inr behind ↦ commutes_exchanged (drill_function n) (Ins q y t) (Ins p x s) (Ins r z u)
          (ordered_insertion n q p r y x z t s u behind (λ e. bc.sites refl (sym e)) (λ e. ac.sites refl (sym e)))
    ]
by_kinds n (Ins p x s) (Ins q y t) (Del r v) of_a of_b of_c ab ac bc =
    elim (one_is_before p q s t (ab.sites refl)) [
      | inl before ↦ ordered_deletion n p q r x y s t v before
      | inr behind ↦ commutes_exchanged (drill_function n) (Ins q y t) (Ins p x s) (Del r v)
          (ordered_deletion n q p r y x t s v behind)
    ]
by_kinds n a b c of_a of_b of_c ab ac bc = absurd (cc)

-- the second property
pub drill-HasTp2 : (n : ℕ) → HasTp2 (drill_function n)
drill-HasTp2 n d a b c h = by_kinds n a b c h.0 h.3.0 h.3.3.0 h.2.0 h.2.1.0 h.3.2.0
