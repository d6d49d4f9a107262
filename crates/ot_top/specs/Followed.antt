-- What status 0 of `hub` shows of the hub to which the events lead.
use Rattle.std.specs.Prelude.{◌≡◌, ℕ, List, [], ◌∷◌, Option, Some, None, Ok}
use Rattle.std.specs.Option.{ForSome}
use Rattle.fn_rules.specs.Functions.{Function}
use Rattle.fn_grammar.specs.Grammar.{IsTextOf}
use Rattle.case_json.specs.declared.hub.HubEvent.{HubEvent}
use Rattle.case_json.specs.declared.hub.HubScript.{HubScript}
use Rattle.case_json.specs.Hubs.{hub_script_in}
use Rattle.ot_hub.specs.Theorem.{FollowsLog, KeepsLog}
use Rattle.ot_hub.specs.Views.{HubData, begun_hub}
use Rattle.ot_replies.specs.declared.reply.HubEnd.{HubEnd}
use Rattle.ot_replies.specs.HubTexts.{hub_text}
use Rattle.ot_words.specs.Commands.{Hub}
use Rattle.ot_words.specs.Words.{asked_by}
use Rattle.ot_commands.specs.Hub.{IsDone, IsEndOf, MakesClientsAgree}

-- the events are done on a hub, one after the other, and this is the hub after the last of them
abbrev pub EventsLeadTo : HubData → List HubEvent → HubData → Type 0
EventsLeadTo hub [] last = last ≡ hub
EventsLeadTo hub (event ∷ events) last = (next : HubData) × IsDone hub event next × EventsLeadTo next events last

-- the events of a script lead from a new hub to this one. Whatever the function, the server's document is the first one
-- after the log, and the entries of each client in the log and its messages on their way are together as many as its
-- edits; and where the function makes clients agree, each client's document is the first one after the entries that it
-- received and then what is pending there
pub record IsHubAfter (f : Function) (script : HubScript) (hub : HubData) : Type 0 where
  pub led : EventsLeadTo (begun_hub f script.doc script.clients) script.events hub
  pub log : KeepsLog f script.doc hub
  pub clients : MakesClientsAgree f → FollowsLog hub

-- the words ask to run a hub. There are a function, and bytes that are read as a script: where the function's file is
-- told, it is the text of that function by the grammar, and where the hub's file is told, it is those bytes. What was
-- written is the end of the hub that is after the script, in which no client is apart from the server
abbrev pub IsFollowed : List (List ℕ) → (List ℕ → Option (List ℕ)) → (List ℕ → Type 0) → Type 0
IsFollowed words holds IsWritten =
    (name hub_name : List ℕ)
    → asked_by words ≡ Some (Hub name hub_name)
    → (f : Function) × (bytes : List ℕ) × (script : HubScript) × (hub : HubData) × (end : HubEnd)
    × ForSome (holds name) (λ told. IsTextOf told f) × ForSome (holds hub_name) (λ told. bytes ≡ told)
    × (hub_script_in bytes ≡ Ok script) × IsHubAfter f script hub
    × IsEndOf hub end × (end.differ ≡ None) × IsWritten (hub_text end)
