use Rattle.std.proofs.Common.{rules, ◌≡◌, ◌<◌, ◌≢◌, ℕ, false, length, Result, Err, refl, sym, subst, arith}
use Rattle.fn_rules.specs.Functions.{Function}
use Rattle.fn_rules.specs.Properties.{HasTp1, HasTp2}
use Rattle.ot_causal.specs.Sessions.{IsSite}
use Rattle.ot_session.specs.declared.answer.Take.{Take}
use Rattle.ot_session.specs.declared.answer.Take.TheVariants.{NoSite, NoOp, Stuck, Spent, NoMemory}
use Rattle.ot_session.specs.declared.answer.Took.{Took}
use Rattle.ot_session.specs.Views.{View, HasTaken, view_of}
use Rattle.ot_drill.proofs.playing.take.Goals as goal

-- what is left to refuse an operation
only_memory :
    (old new : View) (s n : ℕ) (e : Take) → HasTaken old new s n (Err e)
    → IsSite (length old.sites) s → n < length old.made
    → ((o : ℕ) → ◌≢◌ {A = Result Took Take} (Err e) (Err (Stuck o)))
    → ◌≢◌ {A = Result Took Take} (Err e) (Err Spent) → e ≡ NoMemory
only_memory old new s n NoSite taken there made stuck spent = absurd (taken.0 there)
only_memory old new s n NoOp taken there made stuck spent = absurd (omega (arith, taken.1))
only_memory old new s n (Stuck o) taken there made stuck spent = absurd (stuck o refl)
only_memory old new s n Spent taken there made stuck spent = absurd (spent refl)
only_memory old new s n NoMemory taken there made stuck spent = refl

pub take-requires : goal.take-requires
take-requires c = c.requires.is_open

pub with_answer-requires-clause-held : goal.with_answer-requires-clause-held
with_answer-requires-clause-held c = c.requires.held

pub with_answer-requires-clause-repeated : goal.with_answer-requires-clause-repeated
with_answer-requires-clause-repeated c = c.requires.repeated

-- a workload's function has both properties, and its operations have few forms
pub unreachable-requires : goal.unreachable-requires
unreachable-requires c =
    let drill = c.requires.function in
    let laws = c.drill_functions_have_both_properties.ensures in
    let tp1 = subst (λ (f : Function). HasTp1 f) (sym drill.1) (laws.tp1 drill.0) in
    let tp2 = subst (λ (f : Function). HasTp2 f) (sym drill.1) (laws.tp2 drill.0) in
    let chars = subst (λ (f : Function). f.head.chars_differ ≡ false) (sym drill.1) (laws.chars drill.0) in
    let is : c.in-Err.field-0 ≡ NoMemory =
    only_memory (view_of c.args.session.now) (view_of c.take.new.self) c.args.site c.args.number
    c.in-Err.field-0 c.in-Err.ensures.taken
    c.requires.may.0 c.requires.may.1 (c.in-Err.ensures.never_stuck tp1 tp2 chars)
    (c.in-Err.ensures.never_spent c.requires.may.2) in
    search rules

pub returns-in-Ok : goal.returns-in-Ok
returns-in-Ok c = (c.in-Ok.took, c.in-Ok.ensures.taken, c.with_answer.ensures)

pub returns-in-Err-NoMemory : goal.returns-in-Err-NoMemory
returns-in-Err-NoMemory c = tt
