-- Which words are those of a command, by what clap states of a simple command.
use Rattle.std.specs.Prelude.{◌≡◌, ℕ, ◌≤◌, List, [], ◌∷◌, Option, Some, None, codes, if◌then◌else◌, Bool, true, false}
use Rattle.std.specs.Prelude.{option_map, option_and_then}
use Rattle.std.specs.List.{list_any}
use Rattle.std.specs.Str.{bytes_eq}
use Rattle.std.specs.Str.Parse.{digits_value, without_leading_plus}
use Rattle.clap.specs.Words.{App, Row, Rule, new_app, new_rule, with_rule, first_of}
use Rattle.clap.specs.ValueTests.{is_unsigned_in}
use Rattle.clap.specs.declared.builder.action.ArgAction.TheVariants.{SetTrue}
use Rattle.clap.specs.declared.builder.value_parser.ValueParser.TheVariants.{Unsigned}
use Rattle.clap_words.specs.Found.{found_by}
use Rattle.ot_model.specs.declared.op.Kind.{Kind}
use Rattle.ot_model.specs.declared.op.Kind.TheVariants as kinds
use Rattle.ot_model.specs.declared.op.TheConstants.{KINDS}
use Rattle.ot_model.specs.declared.op.Mode.{Mode}
use Rattle.ot_model.specs.declared.op.Mode.TheVariants.{Plain, Tomb}
use Rattle.fn_rules.specs.declared.function.Head.{Head}
use Rattle.fn_rules.specs.declared.function.Level.{Level}
use Rattle.fn_rules.specs.declared.function.Level.TheVariants.{Tp1, Tp2}
use Rattle.fn_rules.specs.declared.limits.TheConstants.{MOST_ROUNDS}
use Rattle.fn_rules.specs.Functions.{is_declared}
use Rattle.ot_words.specs.Commands.{Asked, Prove, Settle, Check, Integrate, Replay, Hub, Audit, Same, Reverse, Least}
use Rattle.ot_words.specs.Commands.{Bound, Confirm, Template, Drill, Explain, Mend, Trace}
use Rattle.ot_words.specs.declared.command.TraceKind.{TraceKind}
use Rattle.ot_words.specs.declared.command.TraceKind.TheVariants as traces

-- the clap command of a name, with no option for help and no arguments
abbrev pub bare_app : List ℕ → App
bare_app name =
    let app = new_app name in record app { top = record app.top { no_binary_name = true; disable_help_flag = true } }

-- a required argument
abbrev pub required_rule : List ℕ → Rule
required_rule id = record (new_rule id) { required = true }

-- the clap command of a name that takes one file name
abbrev pub one_file : List ℕ → App
one_file name = with_rule (bare_app name) (required_rule (codes "function"))

-- the clap command of a name that takes two file names
abbrev pub two_files : List ℕ → App
two_files name = with_rule (with_rule (bare_app name) (required_rule (codes "first"))) (required_rule (codes "second"))

-- the most questions that `prove` may be allowed, which it is allowed where the words do not say
abbrev pub most_questions : ℕ
most_questions = 1000000

-- the most questions that `settle` may be allowed
abbrev pub most_settling_questions : ℕ
most_settling_questions = 100000000

-- how many questions `settle` is allowed where the words do not say
abbrev pub settling_questions : ℕ
settling_questions = 30000000

-- the most edits of which `mend` may look for the fewest
abbrev pub most_edits : ℕ
most_edits = 3

-- the most functions to which a number of edits may lead that `mend` may be allowed to look at
abbrev pub most_members : ℕ
most_members = 1000000000

-- an option of a name that is given or not
abbrev pub flag_rule : List ℕ → Rule
flag_rule name = record (new_rule name) { long = Some name; action = Some SetTrue }

-- the option `--budget N`, whose number clap reads: at most so many, and this text where the words do not say
abbrev pub budget_rule : ℕ → List ℕ → Rule
budget_rule most otherwise =
    record (new_rule (codes "budget")) {
      long = Some (codes "budget");
      parser = Some (Unsigned 1 most);
      defaults = otherwise ∷ [];
    }

-- the option `--edits N`, whose number clap reads, and 2 where the words do not say
abbrev pub edits_rule : Rule
edits_rule =
    record (new_rule (codes "edits")) {
      long = Some (codes "edits");
      parser = Some (Unsigned 1 most_edits);
      defaults = codes "2" ∷ [];
    }

-- the number of `drill`
abbrev pub number_rule : Rule
number_rule = record (new_rule (codes "number")) { required = true; parser = Some (Unsigned 1 MOST_ROUNDS) }

-- the clap command of a name that decides a function, with at most so many questions, and with so many where the words
-- do not say: both options, and a file name
abbrev pub deciding_app : List ℕ → ℕ → List ℕ → App
deciding_app name most otherwise =
    with_rule (with_rule (with_rule (bare_app name) (flag_rule (codes "tp1"))) (budget_rule most otherwise))
    (required_rule (codes "function"))

-- the clap command `mend`: three options
abbrev pub mend_options : App
mend_options =
    with_rule (with_rule (with_rule (bare_app (codes "mend")) (flag_rule (codes "tp1"))) edits_rule)
    (budget_rule most_members (codes "1000000"))

-- and a file name
abbrev pub mend_app : App
mend_app = with_rule mend_options (required_rule (codes "function"))

-- the clap command of a name that takes one option and a file name
abbrev pub flagged_app : List ℕ → List ℕ → App
flagged_app name flag = with_rule (with_rule (bare_app name) (flag_rule flag)) (required_rule (codes "function"))

-- the clap command `trace`: two options
abbrev pub trace_options : App
trace_options =
    with_rule (with_rule (bare_app (codes "trace")) (flag_rule (codes "session"))) (flag_rule (codes "hub"))

-- and two file names
abbrev pub trace_app : App
trace_app = with_rule (with_rule trace_options (required_rule (codes "first"))) (required_rule (codes "second"))

-- the clap command `drill`: a number, which clap reads
abbrev pub drill_app : App
drill_app = with_rule (bare_app (codes "drill")) number_rule

-- the clap command `template`: three options
abbrev pub template_options : App
template_options =
    with_rule (with_rule (with_rule (bare_app (codes "template")) (flag_rule (codes "tp1")))
    (flag_rule (codes "sites-differ"))) (flag_rule (codes "chars-differ"))

-- and a mode, a kind, and up to two kinds more
abbrev pub template_app : App
template_app =
    with_rule (with_rule (with_rule (with_rule template_options (required_rule (codes "mode")))
    (required_rule (codes "first"))) (new_rule (codes "second"))) (new_rule (codes "third"))

-- the values of both arguments, if they are there
abbrev pub values_in : List Row → Option (List ℕ × List ℕ)
values_in rows = option_and_then (λ a. option_map (λ b. (a, b)) (first_of (codes "second") rows))
    (first_of (codes "first") rows)

-- the file name in the words behind a command's name
unfoldable pub name_by : List ℕ → List (List ℕ) → Option (List ℕ)
name_by name words = option_and_then (first_of (codes "function")) (found_by (one_file name) words)

-- the two file names in the words behind a command's name
unfoldable pub names_by : List ℕ → List (List ℕ) → Option (List ℕ × List ℕ)
names_by name words = option_and_then values_in (found_by (two_files name) words)

-- the option is given
abbrev pub is_given : Option (List ℕ) → Bool
is_given None = false
is_given (Some flag) = bytes_eq flag (codes "true")

-- the level that the option says
abbrev pub level_by : Option (List ℕ) → Level
level_by flag = if is_given flag then Tp1 else Tp2

-- the number of a text that clap takes for one from 1 to the greatest
abbrev pub number_by : ℕ → List ℕ → Option ℕ
number_by most text = if is_unsigned_in 1 most text then Some (digits_value 10 (without_leading_plus text)) else None

-- the level, the budget and the name that are found
abbrev pub decision_in : ℕ → List Row → Option (Level × ℕ × List ℕ)
decision_in most rows =
    option_and_then (λ budget. option_map (λ name. (level_by (first_of (codes "tp1") rows), budget, name))
    (first_of (codes "function") rows))
    (option_and_then (number_by most) (first_of (codes "budget") rows))

-- the same in the words behind a command's name
unfoldable pub decision_by : List ℕ → ℕ → List ℕ → List (List ℕ) → Option (Level × ℕ × List ℕ)
decision_by name most otherwise words =
    option_and_then (decision_in most) (found_by (deciding_app name most otherwise) words)

-- the command behind each first word
abbrev pub prove_in : List (List ℕ) → Option Asked
prove_in words =
    option_map (λ found. Prove found.0 found.1 found.2)
    (decision_by (codes "prove") most_questions (codes "1000000") words)

abbrev pub settle_in : List (List ℕ) → Option Asked
settle_in words =
    option_map (λ found. Settle found.0 found.1 found.2)
    (decision_by (codes "settle") most_settling_questions (codes "30000000") words)

-- the level, how many edits, the budget and the name that are found
abbrev pub mend_by : List Row → Option Asked
mend_by rows =
    option_and_then (λ edits. option_map (λ found. Mend found.0 edits found.1 found.2) (decision_in most_members rows))
    (option_and_then (number_by most_edits) (first_of (codes "edits") rows))

unfoldable pub mend_in : List (List ℕ) → Option Asked
mend_in words = option_and_then mend_by (found_by mend_app words)

-- the option and the name that are found
abbrev pub least_by : List Row → Option Asked
least_by rows = option_map (Least (is_given (first_of (codes "cert") rows))) (first_of (codes "function") rows)

unfoldable pub least_in : List (List ℕ) → Option Asked
least_in words = option_and_then least_by (found_by (flagged_app (codes "least") (codes "cert")) words)

-- the level and the name that are found
abbrev pub explain_by : List Row → Option Asked
explain_by rows = option_map (Explain (level_by (first_of (codes "tp1") rows))) (first_of (codes "function") rows)

unfoldable pub explain_in : List (List ℕ) → Option Asked
explain_in words = option_and_then explain_by (found_by (flagged_app (codes "explain") (codes "tp1")) words)

-- what the options say that the other file holds: `--session`, `--hub`, or else a case; both say nothing
abbrev pub trace_kind : Bool → Bool → Option TraceKind
trace_kind true true = None
trace_kind true false = Some traces.Session
trace_kind false true = Some traces.Hub
trace_kind false false = Some traces.Case

-- what the options say, and the names that are found
abbrev pub trace_by : List Row → Option Asked
trace_by rows =
    option_and_then (λ events. option_map (λ names. Trace events names.0 names.1) (values_in rows))
    (trace_kind (is_given (first_of (codes "session") rows)) (is_given (first_of (codes "hub") rows)))

unfoldable pub trace_in : List (List ℕ) → Option Asked
trace_in words = option_and_then trace_by (found_by trace_app words)

-- the number that is found
abbrev pub drill_by : List Row → Option Asked
drill_by rows = option_map Drill (option_and_then (number_by MOST_ROUNDS) (first_of (codes "number") rows))

unfoldable pub drill_in : List (List ℕ) → Option Asked
drill_in words = option_and_then drill_by (found_by drill_app words)

-- the mode and the kind that a word names
abbrev pub mode_named : List ℕ → Option Mode
mode_named word =
    if bytes_eq word (codes "plain") then Some Plain else (if bytes_eq word (codes "tomb") then Some Tomb else None)

abbrev pub kind_named : List ℕ → Option Kind
kind_named word =
    if bytes_eq word (codes "ins") then Some kinds.Ins
    else (if bytes_eq word (codes "del") then Some kinds.Del
    else (if bytes_eq word (codes "upd") then Some kinds.Upd else None))

-- the head with this kind too
abbrev pub with_kind : Head → Kind → Head
with_kind head kinds.Ins = record head { ins = true }
with_kind head kinds.Del = record head { del = true }
with_kind head kinds.Upd = record head { upd = true }

-- the head with a kind more, which it had not
abbrev pub with_new : Head → Kind → Option Head
with_new head kind = if is_declared head kind then None else Some (with_kind head kind)

-- the head with the kind that a word names, which it had not
abbrev pub with_named : Head → List ℕ → Option Head
with_named head word = option_and_then (with_new head) (kind_named word)

-- the same, where there is a word
abbrev pub with_further : Option (List ℕ) → Head → Option Head
with_further None head = Some head
with_further (Some word) head = with_named head word

-- the head of a mode that assumes this, and is for no operations
abbrev pub no_kinds : Bool → Bool → Mode → Head
no_kinds sites chars mode =
    record { mode = mode; ins = false; del = false; upd = false; sites_differ = sites; chars_differ = chars }

-- the head that is found: its mode, one kind, and up to two more
abbrev pub head_in : List Row → Option Head
head_in rows =
    option_and_then (with_further (first_of (codes "third") rows))
    (option_and_then (with_further (first_of (codes "second") rows))
    (option_and_then
    (λ mode. option_and_then
    (with_named (no_kinds (is_given (first_of (codes "sites-differ") rows))
    (is_given (first_of (codes "chars-differ") rows)) mode))
    (first_of (codes "first") rows))
    (option_and_then mode_named (first_of (codes "mode") rows))))

-- the level and the head that are found
abbrev pub template_by : List Row → Option Asked
template_by rows = option_map (Template (level_by (first_of (codes "tp1") rows))) (head_in rows)

unfoldable pub template_in : List (List ℕ) → Option Asked
template_in words = option_and_then template_by (found_by template_app words)

abbrev pub audit_in : List (List ℕ) → Option Asked
audit_in words = option_map Audit (name_by (codes "audit") words)

-- the command of two files that has a name
abbrev pub of_two : List ℕ → List ℕ × List ℕ → Option Asked
of_two name files =
    if bytes_eq name (codes "check") then Some (Check files.0 files.1)
    else (if bytes_eq name (codes "integrate") then Some (Integrate files.0 files.1)
    else (if bytes_eq name (codes "replay") then Some (Replay files.0 files.1)
    else (if bytes_eq name (codes "hub") then Some (Hub files.0 files.1)
    else (if bytes_eq name (codes "same") then Some (Same files.0 files.1)
    else (if bytes_eq name (codes "reverse") then Some (Reverse files.0 files.1)
    else (if bytes_eq name (codes "bound") then Some (Bound files.0 files.1)
    else (if bytes_eq name (codes "confirm") then Some (Confirm files.0 files.1)
    else None)))))))

abbrev pub two_in : List ℕ → List (List ℕ) → Option Asked
two_in name words = option_and_then (of_two name) (names_by name words)

-- the command that words name: the first word says which, and the others are its arguments
abbrev pub asked_by : List (List ℕ) → Option Asked
asked_by [] = None
asked_by (word ∷ words) =
    if bytes_eq word (codes "prove") then prove_in words
    else (if bytes_eq word (codes "settle") then settle_in words
    else (if bytes_eq word (codes "mend") then mend_in words
    else (if bytes_eq word (codes "explain") then explain_in words
    else (if bytes_eq word (codes "trace") then trace_in words
    else (if bytes_eq word (codes "audit") then audit_in words
    else (if bytes_eq word (codes "least") then least_in words
    else (if bytes_eq word (codes "template") then template_in words
    else (if bytes_eq word (codes "drill") then drill_in words
    else two_in word words))))))))

-- the number that is asked for is within its bounds, and the head has a kind
abbrev pub IsWithinBounds : Asked → Type 0
IsWithinBounds (Prove level budget function) = budget ≤ most_questions
IsWithinBounds (Settle level budget function) = budget ≤ most_settling_questions
IsWithinBounds (Mend level edits budget function) = (edits ≤ most_edits) × (budget ≤ most_members)
IsWithinBounds (Template level head) = list_any (is_declared head) KINDS ≡ true
IsWithinBounds (Drill number) = number ≤ MOST_ROUNDS
IsWithinBounds asked = Unit {0}
