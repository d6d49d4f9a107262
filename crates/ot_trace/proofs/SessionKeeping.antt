-- What stands after an event of a session that is done, and why one is refused.
use Rattle.std.proofs.Common.{◌≡◌, ◌≢◌, ◌↔◌, ℕ, List, true, Result, Err, ap, refl, ◌∙◌}
use Rattle.ot_model.specs.declared.op.Op.{Op}
use Rattle.case_json.specs.declared.script.Event.{Event}
use Rattle.case_json.specs.declared.script.Event.TheVariants as events
use Rattle.ot_causal.specs.Sessions.{IsSite}
use Rattle.ot_session.specs.declared.answer.Make.{Make}
use Rattle.ot_session.specs.declared.answer.Make.TheVariants as makes
use Rattle.ot_session.specs.Making.{HasRefused}
use Rattle.ot_session.specs.Views.{View, data_in}
use Rattle.ot_trace.specs.SessionTexts.{TellsEvent}

pub told_is_open : (v new : View) (i : ℕ) (event : Event) (line : List ℕ) → TellsEvent v i event new line
    → v.is_open ≡ true → new.is_open ≡ true
told_is_open v new i (events.Make t o) line (n, done, told) was = done.is_open ∙ was
told_is_open v new i (events.Take t n) line (took, done, told) was = ap (λ (w : View). w.is_open) done.is

-- the answer is this refusal
abbrev Is : Make → Make → Type 0
Is reason other = ◌≡◌ {A = Result ℕ Make} (Err reason) (Err other)

-- an operation that is not made is refused for the first test that fails
pub refused :
    (v : View) (t : ℕ) (o : Op) (reason : Make) → (Is reason makes.NoSite ↔ (¬ (IsSite (data_in v).sites t)))
    → (Is reason makes.WrongSite → HasRefused v t o makes.WrongSite)
    → (Is reason makes.WrongKind → HasRefused v t o makes.WrongKind)
    → (Is reason makes.NotEnabled → HasRefused v t o makes.NotEnabled)
    → (Is reason makes.Full → HasRefused v t o makes.Full)
    → reason ≢ makes.NoMemory → HasRefused v t o reason
refused v t o makes.NoSite site owner kind enabled full memory = site.0 refl
refused v t o makes.WrongSite site owner kind enabled full memory = owner refl
refused v t o makes.WrongKind site owner kind enabled full memory = kind refl
refused v t o makes.NotEnabled site owner kind enabled full memory = enabled refl
refused v t o makes.Full site owner kind enabled full memory = full refl
refused v t o makes.NoMemory site owner kind enabled full memory = absurd (memory refl)
