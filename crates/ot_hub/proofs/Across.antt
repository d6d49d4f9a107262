-- Where a function has the first property, an operation can be carried over each list that was made on its document.
use Rattle.std.proofs.Common.{◌≡◌, List, [], ◌∷◌, length, Some, refl, sym, ap, ◌∙◌, subst}
use Rattle.ot_model.specs.declared.cell.Cell.{Cell}
use Rattle.ot_model.specs.declared.op.Op.{Op}
use Rattle.ot_model.specs.Effect.{document_after}
use Rattle.fn_rules.specs.Functions.{Function}
use Rattle.fn_rules.specs.Transformation.{IsAllowed}
use Rattle.fn_rules.specs.Conditions.{IsIntegrable}
use Rattle.fn_rules.specs.Properties.{ConvergesAt}
use Rattle.fn_rules.specs.Forms.{KeepsForms, ConvergesOnForms}
use Rattle.ot_hub.specs.declared.placed.PlacedOp.{PlacedOp}
use Rattle.ot_hub.specs.Carry.{crossed, carried_behind}
use Rattle.ot_hub.specs.Chains.{document_after_all, IsChain, IsAllowedWith, CarriesAcross}

module _ (f : Function) (keeps : KeepsForms f) (converging : ConvergesOnForms f) where
  -- a form is allowed with whatever its operation was allowed with
  IsAllowedWith-form : (o form : Op)
      → ((other : Op) → IsAllowed f o other → IsAllowed f form other) → (list : List PlacedOp)
      → IsAllowedWith f o list → IsAllowedWith f form list
  IsAllowedWith-form o form kept [] allowed = tt
  IsAllowedWith-form o form kept (b ∷ bs) allowed = (kept b.op allowed.0, IsAllowedWith-form o form kept bs allowed.1)

  -- two operations that converge cross
  crossed-converging : (d : List Cell) (o b : Op) (converges : ConvergesAt f d o b)
      → crossed f o b ≡ Some (record { own = converges.a_after_b; other = converges.b_after_a })
  crossed-converging d o b converges = rw (converges.a_transformed, converges.b_transformed) refl

  kept : (d : List Cell) (o b other : Op) (converges : ConvergesAt f d o b) → IsAllowed f o other
      → IsAllowed f converges.a_after_b other
  kept d o b other converges = keeps.allowed o b converges.a_after_b other converges.a_transformed

  IsIntegrable-form : (d : List Cell) (o b : Op) (converges : ConvergesAt f d o b) → IsIntegrable f (length d) o
      → IsIntegrable f (length (document_after f.head.mode b d)) converges.a_after_b
  IsIntegrable-form d o b converges integrable = record {
    declared = keeps.declared o b converges.a_after_b converges.a_transformed integrable.declared;
    enabled = converges.a_enabled;
  }

  -- one more before the list
  CarriesAcross-more : (d : List Cell) (o : Op) (b : PlacedOp) (bs : List PlacedOp) → IsIntegrable f (length d) b.op
      → (converges : ConvergesAt f d o b.op)
      → CarriesAcross f (document_after f.head.mode b.op d) converges.a_after_b bs → CarriesAcross f d o (b ∷ bs)
  CarriesAcross-more d o b bs integrable converges rest = record {
    carried = carried_behind (record b { op = converges.b_after_a } ∷ []) rest.carried;
    is = rw (crossed-converging d o b.op converges, rest.is) refl;
    op = rest.op;
    list = (
      record {
        declared = keeps.declared b.op o converges.b_after_a converges.b_transformed integrable.declared;
        enabled = converges.b_enabled;
      },
      subst (λ (document : List Cell). IsChain f document rest.carried.list) (sym converges.one_document) rest.list,
    );
    one_document = ap (document_after_all f.head.mode rest.carried.list) converges.one_document ∙ rest.one_document;
    allowed = λ other with_o. rest.allowed other (kept d o b.op other converges with_o);
  }

  -- the diamond of the first property, one of the list after the other
  pub CarriesAcross-tp1 : (d : List Cell) (o : Op) (list : List PlacedOp) → IsIntegrable f (length d) o
      → IsChain f d list → IsAllowedWith f o list
      → CarriesAcross f d o list
  CarriesAcross-tp1 d o [] integrable chain allowed = record {
    carried = record { op = o; list = [] };
    is = refl;
    op = integrable;
    list = tt;
    one_document = refl;
    allowed = λ other with_o. with_o;
  }
  CarriesAcross-tp1 d o (b ∷ bs) integrable chain allowed =
      let converges : ConvergesAt f d o b.op = converging d o b.op integrable chain.0 allowed.0 in
      CarriesAcross-more d o b bs chain.0 converges
      (CarriesAcross-tp1 (document_after f.head.mode b.op d) converges.a_after_b bs
      (IsIntegrable-form d o b.op converges integrable) chain.1
      (IsAllowedWith-form o converges.a_after_b (λ other. kept d o b.op other converges) bs allowed.1))
