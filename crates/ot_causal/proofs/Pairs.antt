-- Forms that exist on the document of their list and may be integrated there, and two of them, of which none is
-- before the other.
use Rattle.std.proofs.Common.{◌≡◌, ℕ, false, List, ◌∷◌, length, Some, refl, sym, ap, ap₂, ◌∙◌}
use Rattle.std.specs.Option.{option_and_then}
use Rattle.ot_model.specs.declared.cell.Cell.{Cell}
use Rattle.ot_model.specs.declared.op.Op.{Op}
use Rattle.ot_model.specs.Effect.{document_after}
use Rattle.fn_rules.specs.Functions.{Function}
use Rattle.fn_rules.specs.Transformation.{IsAllowed}
use Rattle.fn_rules.specs.Properties.{ConvergesAt, CommutesAt, converges_exchanged}
use Rattle.fn_rules.specs.Conditions.{IsIntegrable}
use Rattle.fn_rules.specs.Forms.{CarriesForms}
use Rattle.ot_causal.specs.Past.{Past}
use Rattle.ot_causal.specs.Forms.{transformed, form, executed, state}
use Rattle.ot_causal.proofs.Forms.{form-cons, state-cons}

-- the form of the operation behind the list exists, may be integrated on the document, and is allowed with
-- whatever the operation is allowed with
pub record HasFormOn (f : Function) (past : Past) (d : List Cell) (o : ℕ) (l : List ℕ) : Type 0 where
  pub there : Op
  pub is : form f past o l ≡ Some there
  pub integrable : IsIntegrable f (length d) there
  pub allowed : (other : Op) → IsAllowed f (past.operation o) other → IsAllowed f there other

-- the document after an executed form
abbrev pub after : Function → Op → List Cell → List Cell
after f p d = document_after f.head.mode p d

module _ (f : Function) (has : CarriesForms f) (past : Past) where
  -- a form that may be integrated is executed
  pub state-executed : (first : List Cell) (o : ℕ) (l : List ℕ) (d : List Cell) → state f past first l ≡ Some d
      → (as_o : HasFormOn f past d o l) → state f past first (o ∷ l) ≡ Some (after f as_o.there d)
  state-executed first o l d is as_o =
      state-cons f past first o l d is
      ∙ ap (λ p. executed f p d) as_o.is
      ∙ rw (has.keeps.enabled_is_tested (length d) as_o.there as_o.integrable.enabled) refl

  -- lists that lead to one document, with one form behind them
  pub state-same_older : (first : List Cell) (o : ℕ) (l m : List ℕ) → state f past first l ≡ state f past first m
      → form f past o l ≡ form f past o m → state f past first (o ∷ l) ≡ state f past first (o ∷ m)
  unfolding state
  state-same_older first o l m same same_form =
      ap₂ (λ p before. option_and_then (λ d. executed f p d) before) same_form same

  IsAllowed-there : (d : List Cell) (x y : ℕ) (l : List ℕ) (as_x : HasFormOn f past d x l)
      (as_y : HasFormOn f past d y l)
      → IsAllowed f (past.operation x) (past.operation y) → IsAllowed f as_x.there as_y.there
  IsAllowed-there d x y l as_x as_y allowed =
      has.keeps.allowed_back as_y.there as_x.there
      (as_y.allowed as_x.there
      (has.keeps.allowed_back as_x.there (past.operation y) (as_x.allowed (past.operation y) allowed)))

  pub ConvergesAt-there : (d : List Cell) (x y : ℕ) (l : List ℕ) (as_x : HasFormOn f past d x l)
      (as_y : HasFormOn f past d y l)
      → IsAllowed f (past.operation x) (past.operation y) → ConvergesAt f d as_x.there as_y.there
  ConvergesAt-there d x y l as_x as_y allowed =
      has.converging d as_x.there as_y.there as_x.integrable as_y.integrable (IsAllowed-there d x y l as_x as_y allowed)

  pub CommutesAt-there : (d : List Cell) (x y o : ℕ) (l : List ℕ)
      (as_x : HasFormOn f past d x l) (as_y : HasFormOn f past d y l) (as_o : HasFormOn f past d o l)
      → IsAllowed f (past.operation x) (past.operation y) → IsAllowed f (past.operation x) (past.operation o)
      → IsAllowed f (past.operation y) (past.operation o) → CommutesAt f as_x.there as_y.there as_o.there
  CommutesAt-there d x y o l as_x as_y as_o x_with_y x_with_o y_with_o =
      has.commuting d as_x.there as_y.there as_o.there as_x.integrable as_y.integrable as_o.integrable
      (IsAllowed-there d x y l as_x as_y x_with_y) (IsAllowed-there d x o l as_x as_o x_with_o)
      (IsAllowed-there d y o l as_y as_o y_with_o)

  -- what a list's form is that is the second one's, transformed by the first one's
  abbrev pub HasFormOn-behind : (d : List Cell) (x y : ℕ) (l m : List ℕ) (as_x : HasFormOn f past d x l)
      (as_y : HasFormOn f past d y l)
      → (converges : ConvergesAt f d as_x.there as_y.there)
      → form f past y m ≡ transformed f (form f past y l) (form f past x l)
      → HasFormOn f past (after f as_x.there d) y m
  HasFormOn-behind d x y l m as_x as_y converges is = record {
    there = converges.b_after_a;
    is = is ∙ ap₂ (transformed f) as_y.is as_x.is ∙ converges.b_transformed;
    integrable = record {
      declared =
          has.keeps.declared as_y.there as_x.there converges.b_after_a converges.b_transformed as_y.integrable.declared;
      enabled = converges.b_enabled;
    };
    allowed = λ other with_y.
        has.keeps.allowed as_y.there as_x.there converges.b_after_a other converges.b_transformed
        (as_y.allowed other with_y);
  }

  -- two operations of which none is before the other, integrated in either order, lead to one document
  pub state-flip : (first : List Cell) (x y : ℕ) (l : List ℕ) (d : List Cell) → state f past first l ≡ Some d
      → (as_x : HasFormOn f past d x l) (as_y : HasFormOn f past d y l)
      → (converges : ConvergesAt f d as_x.there as_y.there) → past.before x y ≡ false → past.before y x ≡ false
      → state f past first (x ∷ y ∷ l) ≡ state f past first (y ∷ x ∷ l)
  state-flip first x y l d is as_x as_y converges apart apart_back =
      state-executed first x (y ∷ l) (after f as_y.there d) (state-executed first y l d is as_y)
      (HasFormOn-behind d y x l (y ∷ l) as_y as_x (converges_exchanged f d as_x.there as_y.there converges)
      (form-cons f past x y l apart_back))
      ∙ ap Some (sym converges.one_document)
      ∙ sym (state-executed first y (x ∷ l) (after f as_x.there d) (state-executed first x l d is as_x)
      (HasFormOn-behind d x y l (x ∷ l) as_x as_y converges (form-cons f past y x l apart)))

  -- the form behind two operations of which none is before the other is that of the second property
  pub form-behind_two : (x y o : ℕ) (l : List ℕ) (d : List Cell)
      → (as_x : HasFormOn f past d x l) (as_y : HasFormOn f past d y l) (as_o : HasFormOn f past d o l)
      → (commutes : CommutesAt f as_x.there as_y.there as_o.there)
      → past.before x y ≡ false → past.before x o ≡ false
      → transformed f (form f past o (x ∷ l)) (form f past y (x ∷ l)) ≡ Some commutes.c_after_both
  form-behind_two x y o l d as_x as_y as_o commutes x_y x_o =
      ap₂ (transformed f)
      (form-cons f past o x l x_o ∙ ap₂ (transformed f) as_o.is as_x.is ∙ commutes.c_by_a)
      (form-cons f past y x l x_y ∙ ap₂ (transformed f) as_y.is as_x.is ∙ commutes.b_transformed)
      ∙ commutes.c_by_a_then_b
