use Rattle.ot_causal.proofs.Convergence.{HasOneCourse-both}
use Rattle.ot_causal.proofs.session_laws.both_properties_give_one_course.Goals as goal

pub returns : goal.returns
returns c = λ f past first tp1 tp2 no_chars.
    HasOneCourse-both f (c.both_properties_hold_of_forms.ensures f tp1 tp2) no_chars past first
