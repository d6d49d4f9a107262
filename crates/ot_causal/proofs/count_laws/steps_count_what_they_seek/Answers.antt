use Rattle.ot_causal.proofs.StepCounts.{counted-other, all_counted-changed, counted-makes, all_counted-makes}
use Rattle.ot_causal.proofs.StepCounts.{counted-integrates}
use Rattle.ot_causal.proofs.count_laws.steps_count_what_they_seek.Goals as goal

pub returns-clause-made : goal.returns-clause-made
returns-clause-made c = λ f old new s a sound may makes. counted-makes f old new s a may makes sound

pub returns-clause-all_made : goal.returns-clause-all_made
returns-clause-all_made c = λ f old new s a sound may makes. all_counted-makes f old new s a may makes sound

pub returns-clause-integrated : goal.returns-clause-integrated
returns-clause-integrated c = λ f old new s o sound integrates. counted-integrates f old new s o integrates sound

pub returns-clause-all_integrated : goal.returns-clause-all_integrated
returns-clause-all_integrated c = λ f old new s o sound integrates.
    all_counted-changed f old new s integrates.keeps integrates.extends sound integrates.site

pub returns-clause-others : goal.returns-clause-others
returns-clause-others c = λ f old new s u sound keeps extends. counted-other f old new s keeps extends sound u
