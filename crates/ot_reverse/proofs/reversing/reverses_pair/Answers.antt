-- By what the search comes to.
use Rattle.std.proofs.Common.{refl}
use Rattle.std.proofs.lemmas.Result.{IfOk-weaker}
use Rattle.ot_model.specs.Operations.{kind_of}
use Rattle.fn_rules.specs.Rules.{function_of}
use Rattle.ot_audit.specs.declared.found.Sought.TheVariants.{At, Nowhere, Spent}
use Rattle.ot_audit.specs.declared.back.Back.TheVariants as backs
use Rattle.ot_reverse.proofs.Alike.{declared_for}
use Rattle.ot_reverse.proofs.reversing.reverses_pair.Goals as goal

pub returns-in-Nowhere : goal.returns-in-Nowhere
returns-in-Nowhere c = (Nowhere, rw c.in-Nowhere.is at c.in_ok-seek_pair.ensures.sought, refl)

-- operations that are found are of the function's kinds
pub broken_at-requires-clause-declared : goal.broken_at-requires-clause-declared
broken_at-requires-clause-declared c =
    let f = function_of c.args.rules.now in
    let e = function_of c.args.others.now in
    let instance =
    c.answers_tell_of_all_documents.ensures.instance f e c.args.first c.args.second c.args.budget c.in-At.cells
    c.in-At.a c.in-At.b c.requires.declared (rw c.in-At.is at c.in_ok-seek_pair.ensures.sought) in
    (declared_for f.head (kind_of c.in-At.a) instance.0.0, declared_for f.head (kind_of c.in-At.b) instance.0.3.0)

pub broken_at-requires-clause-near : goal.broken_at-requires-clause-near
broken_at-requires-clause-near c = rw c.in-At.is at c.in_ok-seek_pair.ensures.near

pub returns-in-At : goal.returns-in-At
returns-in-At c =
    IfOk-weaker c.broken_at.result _ _
    (λ back is. (At c.in-At.cells c.in-At.a c.in-At.b, rw c.in-At.is at c.in_ok-seek_pair.ensures.sought, is))
    c.broken_at.ensures

pub returns-in-Spent : goal.returns-in-Spent
returns-in-Spent c = (Spent, rw c.in-Spent.is at c.in_ok-seek_pair.ensures.sought, refl)
