-- The lines of a session, event by event. Texts are bytes.
use Rattle.std.specs.Prelude.{◌≡◌, ◌≢◌, ℕ, Bool, List, [], ◌∷◌, ◌++◌, codes, Ok, Err}
use Rattle.std.specs.Fmt.{decimal}
use Rattle.std.specs.List.{flat_map}
use Rattle.ot_model.specs.declared.cell.Cell.{Cell}
use Rattle.ot_model.specs.declared.op.Op.{Op}
use Rattle.fn_rules.specs.Functions.{Function}
use Rattle.case_json.specs.declared.script.Event.{Event}
use Rattle.case_json.specs.declared.script.Event.TheVariants as events
use Rattle.case_json.specs.declared.script.Script.{Script}
use Rattle.ot_session.specs.declared.answer.Make.{Make}
use Rattle.ot_session.specs.declared.answer.Take.{Take}
use Rattle.ot_session.specs.declared.answer.Take.TheVariants as takes
use Rattle.ot_session.specs.declared.answer.Took.{Took}
use Rattle.ot_session.specs.declared.answer.Took.TheVariants.{Done, Held, Repeat}
use Rattle.ot_session.specs.declared.pairs.FormPair.{FormPair}
use Rattle.ot_session.specs.FormPairs.{integrated_pairs}
use Rattle.ot_session.specs.Making.{HasRefused}
use Rattle.ot_session.specs.Views.{View, data_in, IsBegun, HasMade, HasTaken}
use Rattle.ot_trace.specs.Columns.{columns, two_columns}
use Rattle.ot_trace.specs.Events.{IsTold, TracesBy}
use Rattle.ot_steps.specs.ShortDocuments.{short_document}
use Rattle.ot_steps.specs.StepTexts.{choice_text, result_text, short_op}
use Rattle.ot_ways.specs.declared.one_step.Step.{Step}
use Rattle.ot_ways.specs.Steps.{step_of}
use Rattle.ot_trace.specs.Texts.{done_line}

-- the name of an event, by its number and its site
abbrev pub site_event : ℕ → ℕ → List ℕ
site_event i s = codes "event " ++ decimal i ++ codes " site " ++ decimal s

-- the name of an operation
abbrev pub op_name : ℕ → List ℕ
op_name n = codes "op " ++ decimal n

-- a site made an operation, which has this number, and this is its document then
abbrev pub make_text : ℕ → ℕ → ℕ → Op → List Cell → List ℕ
make_text i s n o d = columns (site_event i s) (short_op o) (op_name n) ++ done_line o d

-- the number of an operation behind a space
abbrev pub further_number : ℕ → List ℕ
further_number n = codes " " ++ decimal n

-- what a site did with an operation that it took, and its document then: it was integrated, and held ones after it, in
-- this order; it is held; or it is integrated or held there already
abbrev pub took_line : Took → List Cell → List ℕ
took_line (Done done) d =
    codes "  integrated" ++ flat_map further_number done ++ codes " " ++ short_document 0 d ++ 10 ∷ []
took_line Held d = codes "  held" ++ 10 ∷ []
took_line Repeat d = codes "  repeated" ++ 10 ∷ []

-- which operation was carried over which one
abbrev pub over_name : ℕ → ℕ → List ℕ
over_name n m = codes "  " ++ decimal n ++ codes " over " ++ decimal m

-- a transformation that led to what a site executed of an operation: its number and that of the operation over which it
-- was carried, as that was executed; what came of it, and the case that was taken
abbrev pub carried_line : Function → ℕ → FormPair → Step → List ℕ
carried_line f n pair step =
    columns (over_name n pair.number ++ codes ": " ++ short_op pair.against) (result_text step.result)
    (choice_text f step.result step.taken)

abbrev pub pair_line : Function → ℕ → FormPair → List ℕ
pair_line f n pair = carried_line f n pair (step_of f pair.form pair.against)

-- all transformations that led to what a site executed of an operation
abbrev pub pair_lines : View → ℕ → ℕ → List ℕ
pair_lines v s n =
    flat_map (pair_line v.function n) (integrated_pairs v.function (data_in v).past ((data_in v).seen s) n)

-- those of the operations that a site integrated
abbrev pub carried_text : View → ℕ → Took → List ℕ
carried_text v s (Done done) = flat_map (pair_lines v s) done
carried_text v s Held = []
carried_text v s Repeat = []

-- a site took an operation with this number, and this is the session then
abbrev pub take_text : View → ℕ → ℕ → ℕ → Took → List ℕ
take_text v i s n took =
    two_columns (site_event i s) (op_name n) ++ carried_text v s took ++ took_line took ((data_in v).document s)

-- an event is done, and this is told of it
abbrev pub TellsEvent : View → ℕ → Event → View → List ℕ → Type 0
TellsEvent v i (events.Make s o) new line =
    (n : ℕ) × HasMade v new s o n × (line ≡ make_text i s n o ((data_in new).document s))
TellsEvent v i (events.Take s n) new line =
    (took : Took) × HasTaken v new s n (Ok took) × (line ≡ take_text new i s n took)

-- an event is refused, and this is told of it: nothing but the reply to the session
abbrev pub StopsEvent : View → ℕ → Event → List ℕ → Type 0
StopsEvent v i (events.Make s o) line = (reason : Make) × HasRefused v s o reason × (line ≡ [])
StopsEvent v i (events.Take s n) line =
    (reason : Take) × (new : View) × HasTaken v new s n (Err reason) × (reason ≢ takes.NoMemory) × (line ≡ [])

-- an event went on, or was refused, and this was told of it
abbrev pub IsEventTold : View → ℕ → Event → View → Bool → List ℕ → List ℕ → Type 0
IsEventTold v i event new went before after = IsTold TellsEvent StopsEvent v i event new went before after

-- what is told of events, of which the first has this number
abbrev pub TracesSession : View → ℕ → List Event → List ℕ → List ℕ → Type 0
TracesSession v i script before after = TracesBy TellsEvent StopsEvent v i script before after

-- what is told of a session, event by event
abbrev pub TracesScript : Function → Script → List ℕ → List ℕ → Type 0
TracesScript f script before after =
    (v : View) × IsBegun f script.doc script.sites v × TracesSession v 0 script.events before after
