use Rattle.std.proofs.Common.{◌≡◌, [], ap, ◌∙◌}
use Rattle.cert_text.specs.declared.step.PartStep.TheVariants as step
use Rattle.cert_text.specs.Stages.{begun_text}
use Rattle.cert_text.proofs.ReadingLemmas.{reads_on}
use Rattle.cert_reader.proofs.ReaderLemmas.{gives_part, gives_refusal, steps_for, under_way}
use Rattle.cert_reader.proofs.reader.Reader.feed.Goals as goal

pub returns-in-More-clause-under_way : goal.returns-in-More-clause-under_way
returns-in-More-clause-under_way c =
    let steps = steps_for c.self.inside.tp1.items c.self.inside.tp2.items _ _ c.self.inside.stage c.self.inside.begun
    c.replace-begun.result c.args.byte
    (step.More c.in-More.begun) c.deref.ensures.value c.deref-2.ensures.value
    c.replace-begun.ensures.value c.in-More.ensures in
    λ none. under_way _ _ c.self.inside.stage c.self.inside.offset c.in-More.begun
    c.self.inside.refused c.in_default.is steps.0

pub returns-in-Whole-clause-reads : goal.returns-in-Whole-clause-reads
returns-in-Whole-clause-reads c =
    let empty : begun_text c.replace-begun.new.dest ≡ [] = ap begun_text c.replace-begun.ensures.after
    ∙ c.new.ensures in
    reads_on _ _ _ _
    (gives_part _ _ c.self.inside.stage c.in-Whole.next c.self.inside.offset c.len-len.result c.args.byte
    c.self.inside.begun c.replace-begun.new.dest c.self.inside.refused _ c.in-Whole.part c.self.view_is c.in_default.is
    (steps_for _ _ _ _ c.self.inside.stage c.self.inside.begun c.replace-begun.result c.args.byte
    (step.Whole c.in-Whole.part c.in-Whole.next)
    c.deref.ensures.value c.deref-2.ensures.value c.replace-begun.ensures.value c.in-Whole.ensures) c.len-len.ensures
    empty)

pub returns-in-Wrong-clause-gives : goal.returns-in-Wrong-clause-gives
returns-in-Wrong-clause-gives c =
    gives_refusal _ _ c.self.inside.stage c.self.inside.offset c.args.byte c.self.inside.begun c.self.inside.refused _ _
    c.self.view_is c.in_default.is
    (steps_for _ _ _ _ c.self.inside.stage c.self.inside.begun c.replace-begun.result c.args.byte step.Wrong
    c.deref.ensures.value c.deref-2.ensures.value c.replace-begun.ensures.value c.in-Wrong.ensures)
    c.self.invariant.sound c.refusal_at-refusal.ensures

pub returns-in-Wrong-clause-reads : goal.returns-in-Wrong-clause-reads
returns-in-Wrong-clause-reads c =
    reads_on _ _ _ _
    (gives_refusal _ _ c.self.inside.stage c.self.inside.offset c.args.byte c.self.inside.begun c.self.inside.refused _
    _ c.self.view_is c.in_default.is
    (steps_for _ _ _ _ c.self.inside.stage c.self.inside.begun c.replace-begun.result c.args.byte step.Wrong
    c.deref.ensures.value c.deref-2.ensures.value c.replace-begun.ensures.value c.in-Wrong.ensures)
    c.self.invariant.sound c.refusal_at-refusal.ensures)
