-- That a list leads to a document, and that an operation has an enabled form behind it, is no more than a fact: the
-- list tells document and form. So what a session merely proves of its past is given whole.
use Rattle.std.proofs.Common.{◌≡◌, ℕ, List, length, Option, Some, None, refl, sym, subst, ◌∙◌}
use Rattle.std.specs.Coded.{Coded-set}
use Rattle.std.proofs.Props.{props}
use Rattle.std.proofs.Math.Logic.{∥∥₁_elim, ∥∥₁_map}
use mathlib.Core.HLevel.{⊥_prop}
use Rattle.ot_model.specs.declared.cell.Cell.{Cell}
use Rattle.ot_model.specs.declared.op.Op.{Op}
use Rattle.ot_model.specs.declared.op.Op.TheVariants.{Ins, Del, Upd, Nop}
use Rattle.ot_model.specs.Effect.{IsEnabled}
use Rattle.fn_rules.specs.Functions.{Function}
use Rattle.ot_causal.specs.Past.{Past}
use Rattle.ot_causal.specs.Forms.{form, state}
use Rattle.ot_causal.specs.Convergence.{HasState, HasEnabledForm, HasOneCourse}
use Rattle.ot_session.proofs.Sought.{form_code}
use Rattle.ot_session.proofs.Views.{document_code}

-- that an operation is enabled has one proof at most
IsEnabled-prop : (o : Op) (n : ℕ) → IsProp (IsEnabled o n)
IsEnabled-prop (Ins at ch site) n = hlevel props
IsEnabled-prop (Del at site) n = hlevel props
IsEnabled-prop (Upd at ch site) n = hlevel props
IsEnabled-prop Nop n = hlevel props

module _ (f : Function) (past : Past) (first : List Cell) where
  HasState-fact : (l : List ℕ) → ∥ HasState f past first l ∥₁ → HasState f past first l
  HasState-fact l has = by (state f past first l) refl
    where
      by : (d : Option (List Cell)) → state f past first l ≡ d → HasState f past first l
      by None none = absurd (∥∥₁_elim has ⊥_prop (λ h. let both : None ≡ Some h.document = sym none ∙ h.is in cc))
      by (Some d) some = record { document = d; is = some }

  -- an enabled form that is merely there is there: the form is computed
  HasEnabledForm-fact : (d : List Cell) (o : ℕ) (l : List ℕ) → ∥ HasEnabledForm f past d o l ∥₁
      → HasEnabledForm f past d o l
  HasEnabledForm-fact d o l has = by (form f past o l) refl
    where
      by : (p : Option Op) → form f past o l ≡ p → HasEnabledForm f past d o l
      by None none = absurd (∥∥₁_elim has ⊥_prop (λ h. let both : None ≡ Some h.there = sym none ∙ h.is in cc))
      by (Some p) some = record {
        there = p;
        is = some;
        enabled = ∥∥₁_elim has (IsEnabled-prop p (length d)) (λ h.
            let both : Some h.there ≡ Some p = sym h.is ∙ some in
            let same : h.there ≡ p = cc in
            subst (λ (q : Op). IsEnabled q (length d)) same h.enabled);
      }

  -- and so is that a past has one course
  pub HasOneCourse-fact : ∥ HasOneCourse f past first ∥₁ → HasOneCourse f past first
  HasOneCourse-fact has = record {
    documents = λ l closed. HasState-fact l (∥∥₁_map has (λ h. h.documents l closed));
    forms = λ o l d ready is. HasEnabledForm-fact d o l (∥∥₁_map has (λ h. h.forms o l d ready is));
    one_document = λ l m closed_l closed_m same.
        ∥∥₁_elim has (Coded-set document_code _ _) (λ h. h.one_document l m closed_l closed_m same);
    one_form = λ o l m ready_l ready_m same.
        ∥∥₁_elim has (Coded-set form_code _ _) (λ h. h.one_form o l m ready_l ready_m same);
  }
