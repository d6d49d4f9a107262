-- What is kept in a session is more than a fact, but the course of its past is no more than that.
use Rattle.std.proofs.Math.Logic.{∥∥₁_map}
use Rattle.fn_rules.specs.Rules.{function_of}
use Rattle.ot_session.specs.Past.{past_of}
use Rattle.ot_session.proofs.OneCourse.{HasOneCourse-fact}
use Rattle.ot_session.proofs.session.Session.past_has_one_course.Goals as goal

pub returns : goal.returns
returns c tp1 tp2 chars =
    let session = c.args.self.now in
    HasOneCourse-fact (function_of session.rules) (past_of session.made.items) session.first
    (∥∥₁_map session.kept (λ k.
    c.both_properties_give_one_course.ensures
    (function_of session.rules) (past_of session.made.items) session.first tp1 tp2 chars k.sound.past))
