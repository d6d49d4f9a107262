use Rattle.ot_causal.proofs.Steps.{IsSound-new, IsSound-makes, IsSound-integrates}
use Rattle.ot_causal.proofs.session_laws.steps_keep_sessions_sound.Goals as goal

pub returns-clause-begun : goal.returns-clause-begun
returns-clause-begun c = IsSound-new

pub returns-clause-made : goal.returns-clause-made
returns-clause-made c = λ f old new s o sound may makes.
    IsSound-makes f (c.functions_keep_forms.ensures f).enabled_is_tested old new s o may makes sound

pub returns-clause-integrated : goal.returns-clause-integrated
returns-clause-integrated c = λ f old new s o sound integrates. IsSound-integrates f old new s o integrates sound
