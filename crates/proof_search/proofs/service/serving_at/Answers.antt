use Rattle.std.proofs.Common.{sym, ◌∙◌}
use Rattle.proof_search.proofs.Keeping.{KeepsStarts-refl}
use Rattle.proof_search.proofs.service.serving_at.Goals as goal

pub returns-then-not-takes-clause-same : goal.returns-then-not-takes-clause-same
returns-then-not-takes-clause-same g c =
    KeepsStarts-refl (g.A.Asker.is_own c.args.asker.now) (g.A.Starter.starts c.args.asker.now)

pub returns-in_default-clause-same : goal.returns-in_default-clause-same
returns-in_default-clause-same g c =
    KeepsStarts-refl (g.A.Asker.is_own c.args.asker.now) (g.A.Starter.starts c.args.asker.now)

pub returns-then-len-gt-MAX_LITERALS-clause-same : goal.returns-then-len-gt-MAX_LITERALS-clause-same
returns-then-len-gt-MAX_LITERALS-clause-same g c =
    KeepsStarts-refl (g.A.Asker.is_own c.args.asker.now) (g.A.Starter.starts c.args.asker.now)

pub returns-in_err-conditions-clause-same : goal.returns-in_err-conditions-clause-same
returns-in_err-conditions-clause-same g c = c.compare.ensures.same

pub returns-in_default-2-clause-same : goal.returns-in_default-2-clause-same
returns-in_default-2-clause-same g c = c.compare.ensures.same

pub returns-then-not-are_shown-2-clause-same : goal.returns-then-not-are_shown-2-clause-same
returns-then-not-are_shown-2-clause-same g c = c.compare.ensures.same

pub returns-clause-serves : goal.returns-clause-serves
returns-clause-serves g c =
    (c.in-Some.lemma.now, c.in-Some.ensures, sym c.in_ok-conditions.ensures.conditions ∙ c.in-Some-2.is)

pub returns-clause-same : goal.returns-clause-same
returns-clause-same g c = c.compare.ensures.same
