-- Which reply a case, a session or a hub gets that is told step by step: what happened, and then what the command
-- replies that runs it.
use Rattle.std.specs.Prelude.{◌≡◌, ℕ, List, [], ◌++◌, Option, Result, Ok, Err}
use Rattle.std.specs.Option.{option_and_then}
use Rattle.fn_rules.specs.Functions.{Function}
use Rattle.case_json.specs.declared.fault.CaseFault.{CaseFault}
use Rattle.case_json.specs.declared.hub.HubScript.{HubScript}
use Rattle.case_json.specs.declared.script.Script.{Script}
use Rattle.case_json.specs.declared.trial.Trial.{Trial}
use Rattle.case_json.specs.Cases.{trial_in}
use Rattle.case_json.specs.Hubs.{hub_script_in}
use Rattle.case_json.specs.Json.{json_in}
use Rattle.case_json.specs.Scripts.{script_in}
use Rattle.case_json.specs.declared.path.EventCause.{EventCause}
use Rattle.case_json.specs.declared.path.EventCause.TheVariants as causes
use Rattle.case_json.specs.declared.path.FaultPath.{FaultPath}
use Rattle.case_json.specs.declared.path.Layout.{Layout}
use Rattle.case_json.specs.declared.path.Layout.TheVariants as layouts
use Rattle.case_json.specs.Paths.{event_path_of, line_column_of, path_of}
use Rattle.case_json.specs.PathTexts.{cause_lines, fault_lines}
use Rattle.ot_replies.specs.declared.reply.FileKind.TheVariants as files
use Rattle.ot_replies.specs.declared.reply.Reply.{Reply}
use Rattle.ot_replies.specs.declared.reply.Reply.TheVariants.{CaseRefused, EventRefused, Traced}
use Rattle.ot_replies.specs.declared.reply.EventFault.{EventFault}
use Rattle.ot_replies.specs.declared.reply.EventFault.TheVariants as refused
use Rattle.ot_replies.specs.Texts.{status_of, text_of}
use Rattle.ot_trace.specs.HubTexts.{TracesHubScript}
use Rattle.ot_trace.specs.SessionTexts.{TracesScript}
use Rattle.ot_trace.specs.Texts.{case_trace_text}
use Rattle.ot_words.specs.declared.command.TraceKind.{TraceKind}
use Rattle.ot_words.specs.declared.command.TraceKind.TheVariants as traces
use Rattle.ot_commands.specs.Facts.{Facts, FunctionAnd, NothingMore}
use Rattle.ot_commands.specs.Hub.{IsReplyToHubScript}
use Rattle.ot_commands.specs.Integrate.{TellsOutcomes, outcomes_of}
use Rattle.ot_commands.specs.Load.{IsReplyToFile}
use Rattle.ot_commands.specs.Replay.{IsReplyToScript}

-- how the file is laid out
abbrev pub layout_of : TraceKind → Layout
layout_of traces.Case = layouts.Case
layout_of traces.Session = layouts.Session
layout_of traces.Hub = layouts.Hub

-- the cause for which an event is refused
abbrev pub cause_of : EventFault → EventCause
cause_of refused.Site = causes.Site
cause_of refused.Owner = causes.Owner
cause_of refused.Kind = causes.Kind
cause_of refused.Enabled = causes.Enabled
cause_of refused.Number = causes.Number

-- where a fault is whose path is this one in these bytes: the line and the column are those of the value there
abbrev pub placed_fault : List ℕ → Option FaultPath → CaseFault → List ℕ
placed_fault bytes path fault = fault_lines path (option_and_then (line_column_of bytes) path) fault

-- the same of an event
abbrev pub placed_cause : List ℕ → FaultPath → EventCause → List ℕ
placed_cause bytes path cause = cause_lines path (line_column_of bytes path) cause

-- the lines that say where the fault of a reply is in these bytes: its path, the line and the column of the value
-- there, if there is one, and its cause; of another reply there is nothing to say
abbrev pub where_lines : TraceKind → List ℕ → Reply → List ℕ
where_lines events bytes (CaseRefused fault) =
    placed_fault bytes (path_of (layout_of events) (json_in bytes) fault) fault
where_lines events bytes (EventRefused i why) = placed_cause bytes (event_path_of i (cause_of why)) (cause_of why)
where_lines events bytes end = []

-- what is told of these bytes, behind it the reply of the command that runs the file, then where its fault is
abbrev pub traced : TraceKind → List ℕ → List ℕ → Reply → Reply
traced events bytes told end = Traced (told ++ text_of end ++ where_lines events bytes end) (status_of end)

-- In what follows `told` is what is told of a file that is read so, and `end` the reply of the command that
-- runs it. Of a file that is refused nothing is told.

-- a case: its orders, step by step, and what they come to
abbrev pub TellsCase : Function → Result Trial CaseFault → List ℕ → Reply → Type 0
TellsCase f (Err fault) told end = (told ≡ []) × (end ≡ CaseRefused fault)
TellsCase f (Ok t) told end = (told ≡ case_trace_text f t) × TellsOutcomes (outcomes_of f t) end

-- a session: its events, one by one, and what they come to
abbrev pub TellsSession : Function → Result Script CaseFault → List ℕ → Reply → Type 0
TellsSession f (Err fault) told end = (told ≡ []) × (end ≡ CaseRefused fault)
TellsSession f (Ok script) told end = TracesScript f script [] told × IsReplyToScript f (Ok script) end

-- the same of a hub
abbrev pub TellsHubScript : Function → Result HubScript CaseFault → List ℕ → Reply → Type 0
TellsHubScript f (Err fault) told end = (told ≡ []) × (end ≡ CaseRefused fault)
TellsHubScript f (Ok script) told end = TracesHubScript f script [] told × IsReplyToHubScript f (Ok script) end

-- of the bytes of a case, a session or a hub
unfoldable pub IsTracedAs : TraceKind → Function → List ℕ → List ℕ → Reply → Type 0
IsTracedAs traces.Case f bytes told end = TellsCase f (trial_in f bytes) told end
IsTracedAs traces.Session f bytes told end = TellsSession f (script_in bytes) told end
IsTracedAs traces.Hub f bytes told end = TellsHubScript f (hub_script_in bytes) told end

-- the reply to the bytes
abbrev pub IsReplyToTraced : TraceKind → Function → List ℕ → Reply → Type 0
IsReplyToTraced events f bytes r =
    (told : List ℕ) × (end : Reply) × IsTracedAs events f bytes told end × (r ≡ traced events bytes told end)

-- the reply to its file
abbrev pub IsReplyToTracedFile : TraceKind → Function → Option (List ℕ) → Reply → Type 0
IsReplyToTracedFile events f told r = IsReplyToFile files.Case told (λ bytes. IsReplyToTraced events f bytes r) r

-- the facts of the command
abbrev pub trace_facts : TraceKind → List ℕ → List ℕ → Facts
trace_facts events function file = record {
  opens = FunctionAnd function file (IsReplyToTracedFile events);
  steady = NothingMore;
}
