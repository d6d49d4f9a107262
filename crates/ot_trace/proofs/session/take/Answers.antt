use Rattle.std.proofs.Common.{[], refl, sym}
use Rattle.std.proofs.lemmas.List.{append-nil}
use Rattle.ot_session.specs.Views.{view_of}
use Rattle.ot_trace.proofs.session.take.Goals as goal

-- it was refused, and nothing is told
pub returns-in_ok-not_taken-in-Err : goal.returns-in_ok-not_taken-in-Err
returns-in_ok-not_taken-in-Err c = (
  [],
  (c.in-Err.why, view_of c.take.new.self, c.in-Err.ensures.taken, c.in_ok-not_taken-in-Err.ensures, refl),
  sym (append-nil c.args.out.now.items),
)
