-- What the events of a hub come to, and which reply tells it. Where a hub is run under a function that makes clients
-- agree, nobody is stuck and no client differs from the server.
use Rattle.std.specs.Prelude.{◌≡◌, ◌≢◌, ℕ, ◌+◌, ◌⊎◌, false, List, [], ◌∷◌, length, map, Option, Some, None, Result, Ok}
use Rattle.std.specs.Prelude.{Err}
use Rattle.ot_model.specs.declared.cell.Cell.{Cell}
use Rattle.fn_rules.specs.Functions.{Function}
use Rattle.fn_rules.specs.Properties.{HasTp1}
use Rattle.fn_grammar.specs.Grammar.{IsTextOf}
use Rattle.case_json.specs.declared.fault.CaseFault.{CaseFault}
use Rattle.case_json.specs.declared.fault.CaseFault.TheVariants as faults
use Rattle.case_json.specs.declared.fault.Name.TheVariants as names
use Rattle.case_json.specs.declared.hub.HubEvent.{HubEvent}
use Rattle.case_json.specs.declared.hub.HubEvent.TheVariants as events
use Rattle.case_json.specs.declared.hub.HubScript.{HubScript}
use Rattle.case_json.specs.Hubs.{hub_script_in}
use Rattle.ot_hub.specs.declared.answer.Edit.{Edit}
use Rattle.ot_hub.specs.declared.answer.Edit.TheVariants as edits
use Rattle.ot_hub.specs.declared.answer.Move.{Move}
use Rattle.ot_hub.specs.declared.answer.Move.TheVariants as moves
use Rattle.ot_hub.specs.declared.answer.Moved.{Moved}
use Rattle.ot_hub.specs.declared.client.Client.{Client}
use Rattle.ot_hub.specs.Views.{HubData, begun_hub, HasEdited, HasMoved, up_step, down_step}
use Rattle.ot_replies.specs.declared.reply.ClientEnd.{ClientEnd}
use Rattle.ot_replies.specs.declared.reply.EventFault.TheVariants as why
use Rattle.ot_replies.specs.declared.reply.FileKind.TheVariants as files
use Rattle.ot_replies.specs.declared.reply.HubEnd.{HubEnd}
use Rattle.ot_replies.specs.declared.reply.Reply.{Reply}
use Rattle.ot_replies.specs.declared.reply.Reply.TheVariants.{Served, StuckAt, EventRefused, CaseRefused}
use Rattle.ot_words.specs.Commands.{Hub}
use Rattle.ot_words.specs.Words.{asked_by}
use Rattle.ot_commands.specs.Facts.{Facts, FunctionAnd, IsSteadyUnder}
use Rattle.ot_commands.specs.Load.{IsReplyToFile}
use Rattle.ot_commands.specs.Running.{RunsBy}

-- how much a client has received, how much of it is pending, and its document
abbrev pub client_end : Client → ClientEnd
client_end client = record { received = client.received; pending = length client.pending; doc = client.doc }

-- a client has received a whole log of so many entries, has nothing pending, and holds another document than the server
pub record IsApartFromServer (logged : ℕ) (d : List Cell) (end : ClientEnd) : Type 0 where
  pub received : end.received ≡ logged
  pub settled : end.pending ≡ 0
  pub document : end.doc ≢ d

-- of the clients from this number on, the first that is apart from the server
abbrev pub IsFirstApart : ℕ → List Cell → ℕ → List ClientEnd → Option ℕ → Type 0
IsFirstApart logged d c [] found = found ≡ None
IsFirstApart logged d c (end ∷ ends) found =
    (IsApartFromServer logged d end × (found ≡ Some c))
    ⊎ ((¬ (IsApartFromServer logged d end)) × IsFirstApart logged d (c + 1) ends found)

-- what the server and the clients of a hub hold, and the first client that is apart
pub record IsEndOf (hub : HubData) (end : HubEnd) : Type 0 where
  pub logged : end.logged ≡ length hub.server.log
  pub doc : end.doc ≡ hub.server.doc
  pub clients : end.clients ≡ map client_end hub.clients
  pub differ : IsFirstApart end.logged end.doc 1 end.clients end.differ

-- the reply to a hub that was run to its end
abbrev pub TellsHub : HubData → Reply → Type 0
TellsHub hub (Served end) = IsEndOf hub end
TellsHub hub r = ⊥

-- the reply to an operation that a client does not make, in the event with this number
abbrev pub TellsNotEdited : ℕ → Edit → Reply → Type 0
TellsNotEdited i edits.NoSite r = r ≡ EventRefused i why.Site
TellsNotEdited i edits.WrongSite r = r ≡ EventRefused i why.Owner
TellsNotEdited i edits.WrongKind r = r ≡ EventRefused i why.Kind
TellsNotEdited i edits.NotEnabled r = r ≡ EventRefused i why.Enabled
TellsNotEdited i edits.Full r = r ≡ CaseRefused (faults.Limit names.Ops)
TellsNotEdited i edits.NoMemory r = ⊥

-- the reply to an operation that is not moved
abbrev pub TellsNotMoved : ℕ → Move → Reply → Type 0
TellsNotMoved i moves.NoSite r = r ≡ EventRefused i why.Site
TellsNotMoved i moves.Stuck r = r ≡ StuckAt i
TellsNotMoved i moves.NoMemory r = ⊥

-- the event is refused, and gets this reply
abbrev pub IsRefusedHubEvent : HubData → ℕ → HubEvent → Reply → Type 0
IsRefusedHubEvent hub i (events.Edit c op) r = (reason : Edit) × (new : HubData) × HasEdited hub new c op (Err reason)
    × TellsNotEdited i reason r
IsRefusedHubEvent hub i (events.Up c) r =
    (reason : Move) × (new : HubData) × HasMoved hub new c (up_step hub c) (Err reason) × TellsNotMoved i reason r
IsRefusedHubEvent hub i (events.Down c) r =
    (reason : Move) × (new : HubData) × HasMoved hub new c (down_step hub c) (Err reason) × TellsNotMoved i reason r

-- the event is done: the operation was made, or moved, or there was none to move
abbrev pub IsDone : HubData → HubEvent → HubData → Type 0
IsDone hub (events.Edit c op) new = HasEdited hub new c op (Ok tt)
IsDone hub (events.Up c) new = (moved : Moved) × HasMoved hub new c (up_step hub c) (Ok moved)
IsDone hub (events.Down c) new = (moved : Moved) × HasMoved hub new c (down_step hub c) (Ok moved)

-- what events come to, of which the first has this number
abbrev pub Runs : HubData → ℕ → List HubEvent → Reply → Type 0
Runs hub i events r = RunsBy TellsHub IsRefusedHubEvent IsDone hub i events r

-- the reply to what a hub's file is read as: its first fault, or what its events come to from a new hub on
abbrev pub IsReplyToHubScript : Function → Result HubScript CaseFault → Reply → Type 0
IsReplyToHubScript f (Err fault) r = r ≡ CaseRefused fault
IsReplyToHubScript f (Ok script) r = Runs (begun_hub f script.doc script.clients) 0 script.events r

unfoldable pub IsReplyToHub : Function → List ℕ → Reply → Type 0
IsReplyToHub f bytes r = IsReplyToHubScript f (hub_script_in bytes) r

-- the reply to a hub's file
abbrev pub IsReplyToHubFile : Function → Option (List ℕ) → Reply → Type 0
IsReplyToHubFile f told r = IsReplyToFile files.Case told (λ bytes. IsReplyToHub f bytes r) r

-- the function has the first property and does not assume that characters differ
pub record MakesClientsAgree (f : Function) : Type 0 where
  pub tp1 : HasTp1 f
  pub chars : f.head.chars_differ ≡ false

-- the facts of the command; under a function that makes clients agree its status is not 1
abbrev pub hub_facts : List ℕ → List ℕ → Facts
hub_facts function hub = record {
  opens = FunctionAnd function hub IsReplyToHubFile;
  steady = IsSteadyUnder MakesClientsAgree function;
}

-- the words ask to run a hub; where the function's file is told and is the text of a function that makes clients agree,
-- the status is not 1
abbrev pub IsServed : List (List ℕ) → (List ℕ → Option (List ℕ)) → ℕ → Type 0
IsServed words holds status =
    (name hub bytes : List ℕ) (f : Function)
    → asked_by words ≡ Some (Hub name hub) → holds name ≡ Some bytes
    → IsTextOf bytes f → MakesClientsAgree f → status ≢ 1
