-- The other function is for the same kinds.
use Rattle.std.proofs.Common.{subst, sym}
use Rattle.ot_model.specs.Operations.{kind_of}
use Rattle.fn_rules.specs.declared.function.Head.{Head}
use Rattle.fn_rules.specs.Functions.{IsForKind}
use Rattle.ot_audit.proofs.agreeing.pair_at.Goals as goal

pub transform-requires-2-clause-a_declared : goal.transform-requires-2-clause-a_declared
transform-requires-2-clause-a_declared c =
    subst (λ (h : Head). IsForKind h (kind_of c.args.a)) (sym c.requires.heads) c.requires.a_declared

pub transform-requires-2-clause-b_declared : goal.transform-requires-2-clause-b_declared
transform-requires-2-clause-b_declared c =
    subst (λ (h : Head). IsForKind h (kind_of c.args.b)) (sym c.requires.heads) c.requires.b_declared
