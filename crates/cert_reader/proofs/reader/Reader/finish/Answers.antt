use Rattle.cert_reader.proofs.ReaderLemmas.{finish_before, finish_over}
use Rattle.cert_reader.proofs.reader.Reader.finish.Goals as goal

pub returns-in-Over : goal.returns-in-Over
returns-in-Over c = record {
  reads = finish_over _ _ c.self.inside.stage c.self.inside.offset c.self.inside.begun c.self.inside.refused _
      c.self.view_is c.in_default.is c.in-Over.is c.self.invariant.sound;
}

pub returns-in_default-stage : goal.returns-in_default-stage
returns-in_default-stage c = record {
  reads = finish_before _ _ c.self.inside.stage c.self.inside.offset c.len.result c.self.inside.begun
      c.self.inside.refused _ c.self.view_is
      c.in_default.is c.in_default-stage.not-Over c.self.invariant.sound c.len.ensures;
}
