use Rattle.std.proofs.Common.{◌≡◌, ◌↔◌, Some, sym, subst}
use Rattle.std.proofs.lemmas.Result.{IfOk-weaker}
use Rattle.ot_terms.specs.Forms.{form_tree, form_holds}
use Rattle.ot_terms.specs.Standing.{ask_form}
use Rattle.ot_rewrite.specs.Splits.{Yes, No, first_question, EndsInYes, EndsInNo, EndsAtQuestion, split_holds}
use Rattle.ot_rewrite.specs.Splits.{ask_split, HasFewer, HasSplitPlaces}
use Rattle.ot_rewrite.proofs.SplitForms.{low_offsets, split_is}
use Rattle.ot_rewrite.proofs.SplitEnds.{splits_to_yes, splits_to_no, splits_at_question}
use Rattle.ot_rewrite.proofs.splitting.split.Goals as goal

pub split_part-requires : goal.split_part-requires
split_part-requires c = low_offsets c.requires.0 (form_tree c.args.form.now) c.requires.1

pub returns-clause-yes : goal.returns-clause-yes
returns-clause-yes c =
    let g = form_tree c.args.form.now in
    IfOk-weaker c.split_part.result _ _ (λ r is. subst (λ s. (s ≡ Yes) ↔ EndsInYes g) (sym is) (splits_to_yes g))
    c.split_part.ensures

pub returns-clause-no : goal.returns-clause-no
returns-clause-no c =
    let g = form_tree c.args.form.now in
    IfOk-weaker c.split_part.result _ _ (λ r is. subst (λ s. (s ≡ No) ↔ EndsInNo g) (sym is) (splits_to_no g))
    c.split_part.ensures

pub returns-clause-question : goal.returns-clause-question
returns-clause-question c =
    let g = form_tree c.args.form.now in
    IfOk-weaker c.split_part.result _ _
    (λ r is x y. subst (λ s. (first_question s ≡ Some (x, y)) ↔ EndsAtQuestion x y g) (sym is)
    (splits_at_question g x y)) c.split_part.ensures

pub returns-clause-truth : goal.returns-clause-truth
returns-clause-truth c =
    let g = form_tree c.args.form.now in
    IfOk-weaker c.split_part.result _ _
    (λ r is v. subst (λ s. form_holds v g ≡ split_holds v s) (sym is) ((split_is g).truth v)) c.split_part.ensures

pub returns-clause-asks : goal.returns-clause-asks
returns-clause-asks c =
    let g = form_tree c.args.form.now in
    IfOk-weaker c.split_part.result _ _
    (λ r is p q. subst (λ s. ask_form g p q ≡ ask_split s p q) (sym is) ((split_is g).asks p q)) c.split_part.ensures

pub returns-clause-fewer : goal.returns-clause-fewer
returns-clause-fewer c =
    let g = form_tree c.args.form.now in
    IfOk-weaker c.split_part.result _ _ (λ r is. subst (HasFewer g) (sym is) (split_is g).fewer) c.split_part.ensures

pub returns-clause-places : goal.returns-clause-places
returns-clause-places c =
    let g = form_tree c.args.form.now in
    IfOk-weaker c.split_part.result _ _
    (λ r is count h. subst (HasSplitPlaces count) (sym is) ((split_is g).places count h)) c.split_part.ensures
