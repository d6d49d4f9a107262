use Rattle.ot_causal.proofs.Convergence.{Converges-one_course}
use Rattle.ot_causal.proofs.session_laws.both_properties_give_one_document.Goals as goal

pub returns : goal.returns
returns c = λ f session tp1 tp2 no_chars sound.
    Converges-one_course f session
    (c.both_properties_give_one_course.ensures f session.past session.first tp1 tp2 no_chars sound.past) sound
