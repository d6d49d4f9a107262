-- How TP1 fails at an instance: the causes exclude one another and agreement, and what the end of a plan
-- says is a failure on a document that shows it.
use Rattle.std.proofs.Common.{◌≡◌, ℕ, ℤ, pos, Option, Some, None, List, length, get_or, refl, ap, sym, ◌∙◌, subst, inl}
use Rattle.std.proofs.Common.{inr, ◌⊎◌}
use Rattle.std.specs.Prelude.{slice_get, unwrap_or}
use Rattle.std.proofs.lemmas.List.{same_lists}
use Rattle.std.proofs.lemmas.Option.{unwrap_or-slice_get}
use Rattle.ot_model.specs.declared.cell.Cell.{Cell}
use Rattle.ot_model.specs.declared.op.Op.{Op}
use Rattle.ot_model.specs.Effect.{IsEnabled, document_after}
use Rattle.fn_rules.specs.Functions.{Function}
use Rattle.fn_rules.specs.Transformation.{transform_of, IsAllowed}
use Rattle.fn_rules.specs.Properties.{ConvergesAt}
use Rattle.ot_questions.specs.declared.why.Why.{Why}
use Rattle.ot_questions.specs.declared.why.Why.TheVariants.{Undefined, OutOfRange, Lengths, Cells, Operations}
use Rattle.ot_questions.specs.Instances.{Forms, AreEnabledBehind, after_two, EndWith, AgreeAt, cell_in, PairFails}
use Rattle.ot_questions.specs.Instances.{ShowsCause, EndsBy}
use Rattle.ot_questions.proofs.TellingDocument.{telling, length-made, telling_tells}
use Rattle.ot_questions.proofs.PairEnds.{PairSays}
use Rattle.ot_questions.proofs.Answered.{Answered}

no_value : {X : Type 0} (o : Option X) (x : X) → o ≡ None → o ≡ Some x → ⊥
no_value o x e d = cc

one_value : {X : Type 0} (o : Option X) (x y : X) → o ≡ Some x → o ≡ Some y → x ≡ y
one_value o x y e d = cc

-- two operations that are enabled and allowed
abbrev pub PairPosed : Function → ℕ → Op → Op → Type 0
PairPosed f n a b = IsEnabled a n × IsEnabled b n × IsAllowed f a b

module _ (f : Function) (d : List Cell) (a b : Op) where
  -- with any forms of the two operations, since there are no others
  with_forms :
      (P : List Cell → List Cell → Type 0) → EndWith f d a b P → (forms : Forms f a b)
      → AreEnabledBehind f d a b forms × P (after_two f d a forms.b_after_a) (after_two f d b forms.a_after_b)
  with_forms P h forms =
      subst (λ p. (IsEnabled p (length (document_after f.head.mode a d)) × IsEnabled forms.a_after_b
      (length (document_after f.head.mode b d))) × P (after_two f d a p) (after_two f d b forms.a_after_b))
      (one_value (transform_of f b a) h.forms.b_after_a forms.b_after_a h.forms.b_transformed forms.b_transformed)
      (subst (λ q. (IsEnabled h.forms.b_after_a (length (document_after f.head.mode a d)) × IsEnabled q
      (length (document_after f.head.mode b d))) × P (after_two f d a h.forms.b_after_a) (after_two f d b q))
      (one_value (transform_of f a b) h.forms.a_after_b forms.a_after_b h.forms.a_transformed forms.a_transformed)
      (h.enabled, h.ends))

  -- TP1 at an instance is agreement at each index
  pub agrees_at_each : (i : ℤ) → ConvergesAt f d a b → EndWith f d a b (AgreeAt i)
  agrees_at_each i h = record {
    forms = record {
      b_after_a = h.b_after_a;
      a_after_b = h.a_after_b;
      b_transformed = h.b_transformed;
      a_transformed = h.a_transformed;
    };
    enabled = (h.b_enabled, h.a_enabled);
    ends = (ap length h.one_document, ap (λ e. cell_in e i) h.one_document);
  }

  cell_got : (left right : List Cell) (k : ℕ) (x : Cell) → slice_get left k ≡ slice_get right k
      → get_or left k x ≡ get_or right k x
  cell_got left right k x e = sym (unwrap_or-slice_get left k x)
      ∙ (ap (λ o. unwrap_or o x) e ∙ unwrap_or-slice_get right k x)

  -- where it ends in agreement at each index, both ways lead to one document
  pub converges_by_indices : ((i : ℤ) → EndWith f d a b (AgreeAt i)) → ConvergesAt f d a b
  converges_by_indices h =
      let first = h (pos 0) in
      let left = after_two f d a first.forms.b_after_a in
      let right = after_two f d b first.forms.a_after_b in
      record {
        b_after_a = first.forms.b_after_a;
        a_after_b = first.forms.a_after_b;
        b_transformed = first.forms.b_transformed;
        a_transformed = first.forms.a_transformed;
        b_enabled = first.enabled.0;
        a_enabled = first.enabled.1;
        one_document =
            same_lists left right first.ends.0
            (λ k x lt. cell_got left right k x (with_forms (AgreeAt (pos k)) (h (pos k)) first.forms).1.1);
      }

  -- there are forms, or there are not
  not_formed : (transform_of f b a ≡ None) ⊎ (transform_of f a b ≡ None) → Forms f a b → ⊥
  not_formed (inl none) forms = no_value (transform_of f b a) forms.b_after_a none forms.b_transformed
  not_formed (inr none) forms = no_value (transform_of f a b) forms.a_after_b none forms.a_transformed

  module _ (i : ℤ) where
    pub fails_or_agrees : (why : Why) → PairFails f d a b i why → EndWith f d a b (AgreeAt i) → ⊥
    fails_or_agrees Undefined fails agrees = not_formed fails agrees.forms
    fails_or_agrees OutOfRange fails agrees = fails.1 (with_forms (AgreeAt i) agrees fails.0).0
    fails_or_agrees Lengths fails agrees = fails.ends (with_forms (AgreeAt i) agrees fails.forms).1.0
    fails_or_agrees (Cells left dead) fails agrees = fails.ends.1 (with_forms (AgreeAt i) agrees fails.forms).1.1
    fails_or_agrees Operations fails agrees = fails

    pub fails_breaks : (why : Why) → PairFails f d a b i why → ConvergesAt f d a b → ⊥
    fails_breaks why fails converges = fails_or_agrees why fails (agrees_at_each i converges)

    -- on a document that shows it, a cause in which a plan ends is a failure
    pub says_fails : (why : Why) → PairSays f d a b i (Some why) → ShowsCause d a b i why → PairFails f d a b i why
    says_fails Undefined says shows = says
    says_fails OutOfRange says shows = says
    says_fails Lengths says shows = says
    says_fails (Cells left dead) says shows = says.2 shows
    says_fails Operations says shows = says

    -- a failure is the cause in which the plan ends
    pub one_cause : (why : Why) (end : Option Why) → PairFails f d a b i why → PairSays f d a b i end → EndsBy why end
    one_cause Undefined None fails says = absurd (fails_or_agrees Undefined fails says)
    one_cause Undefined (Some Undefined) fails says = refl
    one_cause Undefined (Some OutOfRange) fails says = absurd (not_formed fails says.0)
    one_cause Undefined (Some Lengths) fails says = absurd (not_formed fails says.forms)
    one_cause Undefined (Some (Cells left dead)) fails says = absurd (not_formed fails says.0.forms)
    one_cause Undefined (Some Operations) fails says = absurd says
    one_cause OutOfRange None fails says = absurd (fails_or_agrees OutOfRange fails says)
    one_cause OutOfRange (Some Undefined) fails says = absurd (not_formed says fails.0)
    one_cause OutOfRange (Some OutOfRange) fails says = refl
    one_cause OutOfRange (Some Lengths) fails says = absurd (fails.1 (with_forms _ says fails.0).0)
    one_cause OutOfRange (Some (Cells left dead)) fails says = absurd (fails.1 (with_forms _ says.0 fails.0).0)
    one_cause OutOfRange (Some Operations) fails says = absurd says
    one_cause Lengths None fails says = absurd (fails_or_agrees Lengths fails says)
    one_cause Lengths (Some Undefined) fails says = absurd (not_formed says fails.forms)
    one_cause Lengths (Some OutOfRange) fails says = absurd (says.1 (with_forms _ fails says.0).0)
    one_cause Lengths (Some Lengths) fails says = refl
    one_cause Lengths (Some (Cells left dead)) fails says = absurd (fails.ends (with_forms _ says.0 fails.forms).1)
    one_cause Lengths (Some Operations) fails says = absurd says
    one_cause (Cells left dead) None fails says = absurd (fails_or_agrees (Cells left dead) fails says)
    one_cause (Cells left dead) (Some Undefined) fails says = absurd (not_formed says fails.forms)
    one_cause (Cells left dead) (Some OutOfRange) fails says = absurd (says.1 (with_forms _ fails says.0).0)
    one_cause (Cells left dead) (Some Lengths) fails says = absurd (says.ends (with_forms _ fails says.forms).1.0)
    one_cause (Cells left dead) (Some (Cells other_left other_dead)) fails says = (other_left, other_dead, refl)
    one_cause (Cells left dead) (Some Operations) fails says = absurd says
    one_cause Operations end fails says = absurd fails

-- the offsets that a cause names
left_of : Why → Option ℤ
left_of Undefined = None
left_of OutOfRange = None
left_of Lengths = None
left_of (Cells left dead) = left
left_of Operations = None

dead_of : Why → Option ℤ
dead_of Undefined = None
dead_of OutOfRange = None
dead_of Lengths = None
dead_of (Cells left dead) = dead
dead_of Operations = None

shown : (n : ℕ) (a b : Op) (i : ℤ) (why : Why) → ShowsCause (telling n a b i (left_of why) (dead_of why)) a b i why
unfolding left_of dead_of
shown n a b i Undefined = tt
shown n a b i OutOfRange = tt
shown n a b i Lengths = tt
shown n a b i (Cells left dead) = telling_tells n a b i left dead
shown n a b i Operations = tt

-- where both ways agree at the index on every document of the length, no cause is left
pub no_cause_left :
    (f : Function) (n : ℕ) (a b : Op) (i : ℤ) (end : Option Why)
    → ((d : List Cell) → length d ≡ n → Answered (PairPosed f n a b) (PairSays f d a b i) end)
    → ((d : List Cell) → length d ≡ n → PairPosed f n a b → EndWith f d a b (AgreeAt i)) → end ≡ None
no_cause_left f n a b i None answered agrees = refl
no_cause_left f n a b i (Some why) answered agrees =
    elim (answered (telling n a b i (left_of why) (dead_of why)) (length-made n _)) [
      | inl posed ↦
          absurd (fails_or_agrees f (telling n a b i (left_of why) (dead_of why)) a b i why
          (says_fails f (telling n a b i (left_of why) (dead_of why)) a b i why posed.1 (shown n a b i why))
          (agrees (telling n a b i (left_of why) (dead_of why)) (length-made n _) posed.0))
      | inr none ↦ none.1
    ]
