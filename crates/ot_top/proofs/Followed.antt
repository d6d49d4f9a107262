-- Status 0 of `hub` is that of a hub whose events were all done, and calls that were done lead to it.
use Rattle.std.proofs.Common.{◌≡◌, ℕ, ◌+◌, false, List, [], ◌∷◌, Option, Some, None, Result, Ok, Err, refl, ap, ◌∙◌}
use Rattle.std.proofs.Common.{subst, inl, inr, arith}
use Rattle.ot_model.specs.declared.cell.Cell.{Cell}
use Rattle.fn_rules.specs.Functions.{Function}
use Rattle.fn_rules.specs.Properties.{HasTp1}
use Rattle.fn_grammar.specs.Grammar.{IsTextOf}
use Rattle.fn_text.specs.Reading.{function_in}
use Rattle.case_json.specs.declared.fault.CaseFault.{CaseFault}
use Rattle.case_json.specs.declared.fault.CaseFault.TheVariants as faults
use Rattle.case_json.specs.declared.fault.Name.TheVariants as names
use Rattle.case_json.specs.declared.hub.HubEvent.{HubEvent}
use Rattle.case_json.specs.declared.hub.HubEvent.TheVariants as events
use Rattle.case_json.specs.declared.hub.HubScript.{HubScript}
use Rattle.case_json.specs.Hubs.{hub_script_in}
use Rattle.ot_hub.specs.declared.answer.Edit.{Edit}
use Rattle.ot_hub.specs.declared.answer.Edit.TheVariants as edits
use Rattle.ot_hub.specs.declared.answer.Move.{Move}
use Rattle.ot_hub.specs.declared.answer.Move.TheVariants as moves
use Rattle.ot_hub.specs.Theorem.{FollowsLog, IsNext, KeepsLog, LeadTo}
use Rattle.ot_hub.specs.Views.{HubData, begun_hub}
use Rattle.ot_replies.specs.declared.reply.EventFault.TheVariants as why
use Rattle.ot_replies.specs.declared.reply.FileKind.TheVariants as files
use Rattle.ot_replies.specs.declared.reply.HubEnd.{HubEnd}
use Rattle.ot_replies.specs.declared.reply.Reply.{Reply}
use Rattle.ot_replies.specs.declared.reply.Reply.TheVariants.{CaseRefused, EventRefused, Served, StuckAt}
use Rattle.ot_replies.specs.declared.reply.Subject.TheVariants.{First}
use Rattle.ot_replies.specs.Texts.{differ_status, status_of, text_of}
use Rattle.ot_words.specs.Commands.{Hub}
use Rattle.ot_commands.specs.Hub.{IsDone, IsEndOf, IsRefusedHubEvent, IsReplyToHub, IsReplyToHubFile}
use Rattle.ot_commands.specs.Hub.{IsReplyToHubScript, Runs, TellsHub, TellsNotEdited, TellsNotMoved}
use Rattle.ot_commands.specs.Load.{Holds, IsReadAs, IsReplyToFunction}
use Rattle.ot_commands.specs.Replies.{IsReply}
use Rattle.ot_top.specs.Followed.{EventsLeadTo, IsFollowed, IsHubAfter}
use Rattle.ot_top.proofs.Proving.{reply_to_asked}
use Rattle.ot_top.proofs.Showing.{not_refused, not_too_long, other_status}

-- what events lead to, calls that were done lead to
next_of : (hub next : HubData) (event : HubEvent) → IsDone hub event next → IsNext hub next
next_of hub next (events.Edit c o) done = inl (c, o, done)
next_of hub next (events.Up c) (m, done) = inr (inl (c, m, done))
next_of hub next (events.Down c) (m, done) = inr (inr (c, m, done))

calls_of : (hub : HubData) (list : List HubEvent) (last : HubData) → EventsLeadTo hub list last
    → (hubs : List HubData) × LeadTo hub hubs last
calls_of hub [] last is = ([], is)
calls_of hub (event ∷ others) last (next, done, rest) =
    let more = calls_of next others last rest in (next ∷ more.0, (next_of hub next event done, more.1))

-- no client is apart where the status is 0
none_differ : {X : Type 0} → (differ : Option X) → 0 ≡ differ_status differ → differ ≡ None
none_differ None zero = refl
none_differ (Some found) zero = absurd (omega (arith, zero))

-- the reply tells what stands after the events
told_end : (hub : HubData) (r : Reply) → TellsHub hub r → (end : HubEnd) × (r ≡ Served end) × IsEndOf hub end
told_end hub (Served end) is = (end, refl, is)
told_end hub r is = absurd is

-- no refusal has status 0
module _ (r : Reply) (is_zero : 0 ≡ status_of r) where
  -- a reply of status 0 refuses no case
  case_not_refused : (fault : CaseFault) → r ≡ CaseRefused fault → ⊥
  case_not_refused faults.Json is = other_status r (CaseRefused faults.Json) 4 is_zero is refl (omega arith)
  case_not_refused (faults.Field name) is =
      other_status r (CaseRefused (faults.Field name)) 4 is_zero is refl (omega arith)
  case_not_refused (faults.Kind i) is = other_status r (CaseRefused (faults.Kind i)) 4 is_zero is refl (omega arith)
  case_not_refused (faults.Enabled i) is =
      other_status r (CaseRefused (faults.Enabled i)) 4 is_zero is refl (omega arith)
  case_not_refused (faults.Pair i j) is = other_status r (CaseRefused (faults.Pair i j)) 4 is_zero is refl (omega arith)
  case_not_refused (faults.Order i) is = other_status r (CaseRefused (faults.Order i)) 4 is_zero is refl (omega arith)
  case_not_refused (faults.Limit name) is =
      other_status r (CaseRefused (faults.Limit name)) 9 is_zero is refl (omega arith)

  edit_not_refused : (i : ℕ) (reason : Edit) → TellsNotEdited i reason r → ⊥
  edit_not_refused i edits.NoSite is = other_status r (EventRefused i why.Site) 4 is_zero is refl (omega arith)
  edit_not_refused i edits.WrongSite is = other_status r (EventRefused i why.Owner) 4 is_zero is refl (omega arith)
  edit_not_refused i edits.WrongKind is = other_status r (EventRefused i why.Kind) 4 is_zero is refl (omega arith)
  edit_not_refused i edits.NotEnabled is = other_status r (EventRefused i why.Enabled) 4 is_zero is refl (omega arith)
  edit_not_refused i edits.Full is = case_not_refused (faults.Limit names.Ops) is
  edit_not_refused i edits.NoMemory is = is

  move_not_refused : (i : ℕ) (reason : Move) → TellsNotMoved i reason r → ⊥
  move_not_refused i moves.NoSite is = other_status r (EventRefused i why.Site) 4 is_zero is refl (omega arith)
  move_not_refused i moves.Stuck is = other_status r (StuckAt i) 1 is_zero is refl (omega arith)
  move_not_refused i moves.NoMemory is = is

  event_not_refused : (hub : HubData) (i : ℕ) (event : HubEvent) → IsRefusedHubEvent hub i event r → ⊥
  event_not_refused hub i (events.Edit c o) (reason, new, refused, tells) = edit_not_refused i reason tells
  event_not_refused hub i (events.Up c) (reason, new, refused, tells) = move_not_refused i reason tells
  event_not_refused hub i (events.Down c) (reason, new, refused, tells) = move_not_refused i reason tells

  -- so all events were done, and the reply tells the hub after the last of them
  all_done : (hub : HubData) (i : ℕ) (list : List HubEvent) → Runs hub i list r
      → (last : HubData) × EventsLeadTo hub list last × TellsHub last r
  all_done hub i [] tells = (hub, refl, tells)
  all_done hub i (event ∷ others) (inl refused) = absurd (event_not_refused hub i event refused)
  all_done hub i (event ∷ others) (inr (next, done, rest)) =
      let more = all_done next (i + 1) others rest in (more.0, (next, done, more.1), more.2)

  script_done : (f : Function) (read : Result HubScript CaseFault) → IsReplyToHubScript f read r
      → (script : HubScript) × (last : HubData) × (read ≡ Ok script)
      × EventsLeadTo (begun_hub f script.doc script.clients) script.events last × TellsHub last r
  script_done f (Err fault) is = absurd (case_not_refused fault is)
  script_done f (Ok script) runs =
      let done = all_done (begun_hub f script.doc script.clients) 0 script.events runs in
      (script, done.0, refl, done.1, done.2)

  bytes_done : (f : Function) (bytes : List ℕ) → IsReplyToHub f bytes r
      → (script : HubScript) × (last : HubData) × (hub_script_in bytes ≡ Ok script)
      × EventsLeadTo (begun_hub f script.doc script.clients) script.events last × TellsHub last r
  unfolding IsReplyToHub
  bytes_done f bytes is = script_done f (hub_script_in bytes) is

  file_done : (f : Function) (told : Option (List ℕ)) → IsReplyToHubFile f told r
      → (bytes : List ℕ) × Holds files.Case bytes told × IsReplyToHub f bytes r
  file_done f told (inl long) = absurd (not_too_long r is_zero files.Case told long)
  file_done f told (inr read) = read

  function_done : (first second : Option (List ℕ)) → IsReplyToFunction First first (λ f. IsReplyToHubFile f second r) r
      → (f : Function) × IsReadAs (Ok f) first × IsReplyToHubFile f second r
  function_done first second (inl refused) = absurd (not_refused r is_zero First first refused)
  function_done first second (inr read) = read

module _ (is_text : (bytes : List ℕ) (f : Function) → function_in bytes ≡ Ok f → IsTextOf bytes f)
    (log : (f : Function) (d : List Cell) (clients : ℕ) (hubs : List HubData) (hub : HubData)
    → LeadTo (begun_hub f d clients) hubs hub → KeepsLog f d hub)
    (clients : (f : Function) (d : List Cell) (clients : ℕ) (hubs : List HubData) (hub : HubData)
    → LeadTo (begun_hub f d clients) hubs hub → HasTp1 f
    → f.head.chars_differ ≡ false → FollowsLog hub) where
  hub_after : (f : Function) (script : HubScript) (hub : HubData)
      → EventsLeadTo (begun_hub f script.doc script.clients) script.events hub
      → IsHubAfter f script hub
  hub_after f script hub led =
      let calls = calls_of (begun_hub f script.doc script.clients) script.events hub led in
      record {
        led = led;
        log = log f script.doc script.clients calls.0 hub calls.1;
        clients = λ agree. clients f script.doc script.clients calls.0 hub calls.1 agree.tp1 agree.chars;
      }

  -- status 0 of `hub`: the hub after the events, whose end was written
  pub followed :
      (words : List (List ℕ)) (holds : List ℕ → Option (List ℕ)) (r : Reply) (IsWritten : List ℕ → Type 0)
      → 0 ≡ status_of r → IsReply words holds r → IsWritten (text_of r) → IsFollowed words holds IsWritten
  followed words holds r IsWritten is_zero reply written name hub_name named =
      let of_function = function_done r is_zero (holds name) (holds hub_name)
      (reply_to_asked words holds r (Hub name hub_name) named reply) in
      let f : Function = of_function.0 in
      let of_file = file_done r is_zero f (holds hub_name) of_function.2 in
      let done = bytes_done r is_zero f of_file.0 of_file.2 in
      let hub : HubData = done.1 in
      let told = told_end hub r done.4 in (
        f,
        of_file.0,
        done.0,
        hub,
        told.0,
        (λ bytes is. is_text bytes f (of_function.1 bytes is).1),
        of_file.1.1,
        done.2,
        hub_after f done.0 hub done.3,
        told.2,
        none_differ told.0.differ (is_zero ∙ ap (λ x. status_of x) told.1),
        subst IsWritten (ap (λ x. text_of x) told.1) written,
      )
