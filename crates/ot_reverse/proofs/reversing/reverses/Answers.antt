-- The pairs that are gone through are the declared ones.
use Rattle.std.proofs.Common.{◌≡◌, true, List, ap, subst, sym, ◌∙◌}
use Rattle.std.proofs.lemmas.Result.{IfOk-weaker}
use Rattle.std.specs.List.{AllByRecursion}
use Rattle.ot_model.specs.declared.op.Kind.{Kind}
use Rattle.ot_model.specs.Kinds.{kind_pairs}
use Rattle.fn_rules.specs.declared.function.Head.{Head}
use Rattle.fn_rules.specs.Functions.{is_declared_of}
use Rattle.fn_rules.specs.Obligations.{declared_pairs}
use Rattle.fn_rules.specs.Rules.{function_of}
use Rattle.ot_reverse.specs.Answers.{AreSearched, IsReversedAs}
use Rattle.ot_reverse.proofs.Telling.{all_kept}
use Rattle.ot_reverse.proofs.reversing.reverses.Goals as goal

pub reverses_pairs-requires-clause-declared : goal.reverses_pairs-requires-clause-declared
reverses_pairs-requires-clause-declared c =
    let head = (function_of c.args.rules.now).head in
    subst (λ (pairs : List (Kind × Kind)). AllByRecursion (λ pair. is_declared_of head pair ≡ true) pairs)
    (sym (c.deref.ensures.value ∙ c.in_ok-pairs.ensures ∙ ap (λ (h : Head). declared_pairs h) c.head.ensures.head))
    (all_kept (is_declared_of head) kind_pairs)

pub reverses_pairs-requires-clause-alike : goal.reverses_pairs-requires-clause-alike
reverses_pairs-requires-clause-alike c = c.requires

pub returns : goal.returns
returns c =
    let f = function_of c.args.rules.now in
    let e = function_of c.args.others.now in
    let pairs = c.deref.ensures.value ∙ c.in_ok-pairs.ensures
    ∙ ap (λ (h : Head). declared_pairs h) c.head.ensures.head in
    IfOk-weaker c.reverses_pairs.result (AreSearched f e c.args.budget c.deref.result.now)
    (IsReversedAs f e c.args.budget)
    (λ answer are.
    let searched = subst (λ (l : List (Kind × Kind)). AreSearched f e c.args.budget l answer) pairs are in
    record {
      searched = searched;
      tells = c.answers_tell_of_all_documents.ensures.whole f e c.args.budget answer searched;
    }) c.reverses_pairs.ensures
