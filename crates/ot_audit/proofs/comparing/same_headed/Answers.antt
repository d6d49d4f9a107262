use Rattle.std.proofs.Common.{List, ap, inr, subst, ◌∙◌}
use Rattle.std.proofs.lemmas.Result.{IfOk-weaker}
use Rattle.ot_model.specs.declared.op.Kind.{Kind}
use Rattle.fn_rules.specs.declared.function.Head.{Head}
use Rattle.fn_rules.specs.Obligations.{declared_pairs}
use Rattle.fn_rules.specs.Rules.{function_of}
use Rattle.ot_audit.specs.Audits.{AreCompared, IsComparedAs}
use Rattle.ot_audit.proofs.comparing.same_headed.Goals as goal

pub returns : goal.returns
returns c =
    let f = function_of c.args.rules.now in
    let g = function_of c.args.others.now in
    let names = c.deref.ensures.value ∙ c.in_ok-names.ensures
    ∙ ap (λ (head : Head). declared_pairs head) c.head.ensures.head in
    IfOk-weaker c.same_blocks.result (AreCompared f g c.args.budget c.deref.result.now) (IsComparedAs f g c.args.budget)
    (λ same is. inr (
      c.requires,
      subst (λ (pairs : List (Kind × Kind)). AreCompared f g c.args.budget pairs same) names is,
    ))
    c.same_blocks.ensures
