-- An event that is refused is refused for the first test that fails.
use Rattle.std.proofs.Common.{arith, sym, ap, ◌∙◌, ◌≡◌, ◌≢◌, ℕ, Result, Err, refl, ◌↔◌}
use Rattle.ot_model.specs.declared.op.Op.{Op}
use Rattle.case_json.specs.declared.fault.CaseFault.TheVariants as faults
use Rattle.case_json.specs.declared.fault.Name.TheVariants as names
use Rattle.case_json.specs.declared.script.Event.TheVariants.{Make}
use Rattle.ot_causal.specs.Sessions.{IsSite}
use Rattle.ot_session.specs.declared.answer.Make.{Make as NotMade}
use Rattle.ot_session.specs.declared.answer.Make.TheVariants as makes
use Rattle.ot_session.specs.declared.answer.Take.{Take as NotTaken}
use Rattle.ot_session.specs.declared.answer.Take.TheVariants as takes
use Rattle.ot_session.specs.declared.answer.Took.{Took}
use Rattle.ot_session.specs.Views.{View, data_in}
use Rattle.ot_commands.specs.declared.halt.Halt.{Halt}
use Rattle.ot_replies.specs.declared.reply.EventFault.TheVariants as why
use Rattle.ot_replies.specs.declared.reply.Reply.{Reply}
use Rattle.ot_replies.specs.declared.reply.Reply.TheVariants.{EventRefused, CaseRefused, Spent}
use Rattle.ot_replies.specs.Texts.{status_of}
use Rattle.ot_commands.specs.Replay.{CannotMake, IsRefusedEvent, TellsNotMade, TellsNotTaken}

-- the answer is this refusal
abbrev Is : NotMade → NotMade → Type 0
Is reason other = ◌≡◌ {A = Result ℕ NotMade} (Err reason) (Err other)

-- a reply that is another one
other : (r named : Reply) → r ≡ named → status_of named ≢ 1 → status_of r ≢ 1
other r named same steady is = steady (sym (ap (λ x. status_of x) same) ∙ is)

-- an operation that is not made is refused for the first test that fails
pub not_made :
    (v : View) (i t : ℕ) (o : Op) (reason : NotMade) (r : Reply)
    → (Is reason makes.NoSite ↔ (¬ (IsSite (data_in v).sites t)))
    → (Is reason makes.WrongSite → CannotMake v t o makes.WrongSite)
    → (Is reason makes.WrongKind → CannotMake v t o makes.WrongKind)
    → (Is reason makes.NotEnabled → CannotMake v t o makes.NotEnabled)
    → (Is reason makes.Full → CannotMake v t o makes.Full)
    → TellsNotMade i reason r → IsRefusedEvent v i (Make t o) r
not_made v i t o makes.NoSite r site owner kind enabled full tells = (makes.NoSite, site.0 refl, tells)
not_made v i t o makes.WrongSite r site owner kind enabled full tells = (makes.WrongSite, owner refl, tells)
not_made v i t o makes.WrongKind r site owner kind enabled full tells = (makes.WrongKind, kind refl, tells)
not_made v i t o makes.NotEnabled r site owner kind enabled full tells = (makes.NotEnabled, enabled refl, tells)
not_made v i t o makes.Full r site owner kind enabled full tells = (makes.Full, full refl, tells)
not_made v i t o makes.NoMemory r site owner kind enabled full tells = absurd tells

-- where no operation is made, no site is stuck
pub not_made-steady : (i : ℕ) (reason : NotMade) (r : Reply) → TellsNotMade i reason r → status_of r ≢ 1
not_made-steady i makes.NoSite r tells = other r (EventRefused i why.Site) tells (λ is. absurd (omega (arith, is)))
not_made-steady i makes.WrongSite r tells = other r (EventRefused i why.Owner) tells (λ is. absurd (omega (arith, is)))
not_made-steady i makes.WrongKind r tells = other r (EventRefused i why.Kind) tells (λ is. absurd (omega (arith, is)))
not_made-steady i makes.NotEnabled r tells =
    other r (EventRefused i why.Enabled) tells (λ is. absurd (omega (arith, is)))
not_made-steady i makes.Full r tells =
    other r (CaseRefused (faults.Limit names.Ops)) tells (λ is. absurd (omega (arith, is)))
not_made-steady i makes.NoMemory r tells = absurd tells

-- a site is stuck only where the operation is not taken for that reason
pub not_taken-steady :
    (i : ℕ) (reason : NotTaken) (r : Reply)
    → ((o : ℕ) → ◌≡◌ {A = Result Took NotTaken} (Err reason) (Err (takes.Stuck o)) → ⊥)
    → TellsNotTaken i reason r → status_of r ≢ 1
not_taken-steady i takes.NoSite r never tells =
    other r (EventRefused i why.Site) tells (λ is. absurd (omega (arith, is)))
not_taken-steady i takes.NoOp r never tells =
    other r (EventRefused i why.Number) tells (λ is. absurd (omega (arith, is)))
not_taken-steady i (takes.Stuck o) r never tells = absurd (never o refl)
not_taken-steady i takes.Spent r never tells = other r Spent tells (λ is. absurd (omega (arith, is)))
not_taken-steady i takes.NoMemory r never tells = absurd tells

-- what stops a session is told by its reply
pub halt_of : (halt another : Halt) → ◌≡◌ {A = Result (Unit {0}) Halt} (Err halt) (Err another) → halt ≡ another
halt_of halt another same = cc
