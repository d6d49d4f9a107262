-- Which statuses the replies to a hub have.
use Rattle.std.proofs.Common.{◌≡◌, ◌≢◌, ◌⊎◌, ℕ, Result, Err, refl, ap, sym, ◌∙◌, inl, inr, arith}
use Rattle.case_json.specs.declared.hub.HubEvent.{HubEvent}
use Rattle.case_json.specs.declared.hub.HubEvent.TheVariants as events
use Rattle.ot_hub.specs.declared.answer.Edit.{Edit}
use Rattle.ot_hub.specs.declared.answer.Edit.TheVariants as edits
use Rattle.ot_hub.specs.declared.answer.Move.{Move}
use Rattle.ot_hub.specs.declared.answer.Move.TheVariants as moves
use Rattle.ot_hub.specs.declared.answer.Moved.{Moved}
use Rattle.ot_hub.specs.Views.{HubData}
use Rattle.ot_replies.specs.declared.reply.Reply.{Reply}
use Rattle.ot_replies.specs.Texts.{status_of}
use Rattle.ot_commands.specs.Hub.{IsRefusedHubEvent, TellsNotEdited, TellsNotMoved}

-- an edit that is refused has status 4, or 9
not_edited_status : (i : ℕ) (reason : Edit) (r : Reply) → TellsNotEdited i reason r
    → (status_of r ≡ 4) ⊎ (status_of r ≡ 9)
not_edited_status i edits.NoSite r tells = inl (ap (λ x. status_of x) tells)
not_edited_status i edits.WrongSite r tells = inl (ap (λ x. status_of x) tells)
not_edited_status i edits.WrongKind r tells = inl (ap (λ x. status_of x) tells)
not_edited_status i edits.NotEnabled r tells = inl (ap (λ x. status_of x) tells)
not_edited_status i edits.Full r tells = inr (ap (λ x. status_of x) tells)
not_edited_status i edits.NoMemory r tells = absurd tells

either_other : (r : Reply) (n a b : ℕ) → a ≢ n → b ≢ n → (status_of r ≡ a) ⊎ (status_of r ≡ b) → status_of r ≢ n
either_other r n a b not_a not_b (inl is) same = not_a (sym is ∙ same)
either_other r n a b not_a not_b (inr is) same = not_b (sym is ∙ same)

-- so nobody is stuck there
pub not_edited-steady : (i : ℕ) (reason : Edit) (r : Reply) → TellsNotEdited i reason r → status_of r ≢ 1
not_edited-steady i reason r tells =
    either_other r 1 4 9 (λ e. omega (arith, e)) (λ e. omega (arith, e)) (not_edited_status i reason r tells)

not_edited-other : (i : ℕ) (reason : Edit) (r : Reply) → TellsNotEdited i reason r → status_of r ≢ 3
not_edited-other i reason r tells =
    either_other r 3 4 9 (λ e. omega (arith, e)) (λ e. omega (arith, e)) (not_edited_status i reason r tells)

-- a move that is refused has status 4, or it is stuck and has status 1
not_moved-other : (i : ℕ) (reason : Move) (r : Reply) → TellsNotMoved i reason r → status_of r ≢ 3
not_moved-other i moves.NoSite r tells = λ e. let four = ap (λ x. status_of x) tells in omega (arith, sym four ∙ e)
not_moved-other i moves.Stuck r tells = λ e. let one = ap (λ x. status_of x) tells in omega (arith, sym one ∙ e)
not_moved-other i moves.NoMemory r tells = absurd tells

pub not_moved-steady :
    (i : ℕ) (reason : Move) (r : Reply) → ◌≢◌ {A = Result Moved Move} (Err reason) (Err moves.Stuck)
    → TellsNotMoved i reason r
    → status_of r ≢ 1
not_moved-steady i moves.NoSite r never tells = λ e. let four = ap (λ x. status_of x) tells in
    omega (arith, sym four ∙ e)
not_moved-steady i moves.Stuck r never tells = absurd (never refl)
not_moved-steady i moves.NoMemory r never tells = absurd tells

-- no event that is refused has the status of a refused function
pub refused_other : (hub : HubData) (i : ℕ) (event : HubEvent) (r : Reply)
    → IsRefusedHubEvent hub i event r → status_of r ≢ 3
refused_other hub i (events.Edit c o) r (reason, new, refused, tells) = not_edited-other i reason r tells
refused_other hub i (events.Up c) r (reason, new, refused, tells) = not_moved-other i reason r tells
refused_other hub i (events.Down c) r (reason, new, refused, tells) = not_moved-other i reason r tells
