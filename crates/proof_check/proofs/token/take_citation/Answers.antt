use Rattle.std.proofs.Common.{◌++◌, inr, sym, ◌∙◌}
use Rattle.open_places.specs.Places.{literals_at}
use Rattle.proof_check.proofs.Keeping.{KeepsStarts-refl, first_is_own, own_kept, own_cited}
use Rattle.proof_check.proofs.Citing.{none_of, cited_is_own, cited_is_known, refused_at_cycle, refused_without_start}
use Rattle.proof_check.proofs.Citing.{refused_unknown, refused_other_since}
use Rattle.proof_check.proofs.Taking.{citation_taken_over}
use Rattle.proof_check.proofs.token.take_citation.Goals as goal

pub returns-clause-ok : goal.returns-clause-ok
returns-clause-ok g c =
    rw c.in_ok-cite.ensures.ok
    (citation_taken_over c.compare.ensures.same c.args.places.now c.requires.own c.in-Some.here c.in-Some-lemma.lemma
    c.args.number c.in-Some-2.conditions
    (sym (rw c.in-Some.is at c.node.ensures.value))
    (sym (rw c.in-Some-lemma.is at c.lemma.ensures))
    (sym (rw c.in-Some-2.is at c.in_ok-conditions.ensures.conditions)))

pub returns-clause-own : goal.returns-clause-own
returns-clause-own g c =
    rw c.in_ok-cite.ensures.ok
    (own_cited _ c.args.places.now (own_kept c.compare.ensures.same c.args.places.now c.requires.own)
    (literals_at c.args.places.now.known c.args.number ++ c.in-Some-2.conditions))

pub returns-in_default-clause-why : goal.returns-in_default-clause-why
returns-in_default-clause-why g c =
    inr
    (refused_at_cycle (g.A.Starter.starts c.args.asker.now) c.args.places.now c.args.number
    c.node.ensures.settled c.requires.open
    (λ n first. c.in_default.not-Some n (c.node.ensures.value ∙ first)))

pub returns-then-not-begins-clause-why : goal.returns-then-not-begins-clause-why
returns-then-not-begins-clause-why g c =
    inr
    (refused_without_start (g.A.Starter.starts c.args.asker.now) c.args.places.now c.args.number c.in-Some.here
    (sym (rw c.in-Some.is at c.node.ensures.value)) (sym c.begins.ensures ∙ c.if-not-begins.true))

pub returns-in_default-lemma-clause-why : goal.returns-in_default-lemma-clause-why
returns-in_default-lemma-clause-why g c =
    inr
    (refused_unknown (g.A.Starter.starts c.args.asker.now) c.args.places.now c.args.number c.in-Some.here
    (sym (rw c.in-Some.is at c.node.ensures.value)) (sym c.begins.ensures ∙ c.if-not-begins.false)
    (sym c.lemma.ensures ∙ none_of c.lemma.result c.in_default-lemma.not-Some))

pub returns-in_default-2-clause-why : goal.returns-in_default-2-clause-why
returns-in_default-2-clause-why g c =
    inr
    (refused_other_since c.compare.ensures.same c.args.places.now c.requires.own c.args.number c.in-Some.here
    (sym (rw c.in-Some.is at c.node.ensures.value)) c.in-Some-lemma.lemma (sym c.begins.ensures ∙ c.if-not-begins.false)
    (sym (rw c.in-Some-lemma.is at c.lemma.ensures)) (sym c.in_ok-conditions.ensures.conditions
    ∙ none_of c.in_ok-conditions.field-0 c.in_default-2.not-Some))

pub returns-in_default-clause-same : goal.returns-in_default-clause-same
returns-in_default-clause-same g c =
    KeepsStarts-refl (g.A.Asker.is_own c.args.asker.now) (g.A.Starter.starts c.args.asker.now)

pub returns-then-not-begins-clause-same : goal.returns-then-not-begins-clause-same
returns-then-not-begins-clause-same g c =
    KeepsStarts-refl (g.A.Asker.is_own c.args.asker.now) (g.A.Starter.starts c.args.asker.now)

pub returns-in_default-lemma-clause-same : goal.returns-in_default-lemma-clause-same
returns-in_default-lemma-clause-same g c =
    KeepsStarts-refl (g.A.Asker.is_own c.args.asker.now) (g.A.Starter.starts c.args.asker.now)

pub returns-in_err-conditions-clause-same : goal.returns-in_err-conditions-clause-same
returns-in_err-conditions-clause-same g c = c.compare.ensures.same

pub returns-in_default-2-clause-same : goal.returns-in_default-2-clause-same
returns-in_default-2-clause-same g c = c.compare.ensures.same

pub returns-in_err-cite-clause-same : goal.returns-in_err-cite-clause-same
returns-in_err-cite-clause-same g c = c.compare.ensures.same

pub returns-clause-same : goal.returns-clause-same
returns-clause-same g c = c.compare.ensures.same

pub begins-requires : goal.begins-requires
begins-requires g c =
    first_is_own (g.A.Asker.is_own c.args.asker.now) c.args.places.now.wanted c.in-Some.here c.requires.own.1
    (sym (rw c.in-Some.is at c.node.ensures.value))

pub compare-requires-clause-here : goal.compare-requires-clause-here
compare-requires-clause-here g c =
    first_is_own (g.A.Asker.is_own c.args.asker.now) c.args.places.now.wanted c.in-Some.here c.requires.own.1
    (sym (rw c.in-Some.is at c.node.ensures.value))

pub compare-requires-clause-lemma : goal.compare-requires-clause-lemma
compare-requires-clause-lemma g c =
    cited_is_own (g.A.Asker.is_own c.args.asker.now) c.args.places.now c.requires.own c.args.number
    c.in-Some-lemma.lemma (sym (rw c.in-Some-lemma.is at c.lemma.ensures))

pub cite-requires-clause-known : goal.cite-requires-clause-known
cite-requires-clause-known g c = cited_is_known c.args.places.now c.args.number c.in-Some-lemma.lemma
    (sym (rw c.in-Some-lemma.is at c.lemma.ensures))
