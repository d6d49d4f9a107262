-- The words of commands, read by clap.
use Rattle.std.proofs.Common.{◌≡◌, [], ◌∷◌, Some, None, true, false, codes, refl}
use Rattle.clap.proofs.OnLiterals.{clap_on_literals}
use Rattle.ot_model.specs.declared.op.Mode.TheVariants.{Plain, Tomb}
use Rattle.fn_rules.specs.declared.function.Level.TheVariants.{Tp1, Tp2}
use Rattle.clap_words.specs.Found.{found_by}
use Rattle.ot_words.specs.Commands.{Prove, Settle, Check, Integrate, Audit, Same, Least, Template, Explain, Mend}
use Rattle.ot_words.specs.Commands.{Trace}
use Rattle.ot_words.specs.declared.command.TraceKind.TheVariants as traces
use Rattle.ot_words.specs.Words.{asked_by, decision_by, explain_in, least_in, mend_in, name_by, names_by, template_in}
use Rattle.ot_words.specs.Words.{trace_in}

-- two file names, of which the empty word and `-` are such
two_names : asked_by (codes "check" ∷ codes "a" ∷ codes "b" ∷ []) ≡ Some (Check (codes "a") (codes "b"))
unfolding clap_on_literals names_by found_by
two_names = refl

empty_name : asked_by (codes "integrate" ∷ [] ∷ codes "-" ∷ []) ≡ Some (Integrate [] (codes "-"))
unfolding clap_on_literals names_by found_by
empty_name = refl

-- behind `--` a word that begins with `-` is a file name
behind_dashes : asked_by (codes "check" ∷ codes "--" ∷ codes "-a" ∷ codes "b" ∷ [])
    ≡ Some (Check (codes "-a") (codes "b"))
unfolding clap_on_literals names_by found_by
behind_dashes = refl

between_dashes : asked_by (codes "check" ∷ codes "a" ∷ codes "--" ∷ codes "--tp1" ∷ [])
    ≡ Some (Check (codes "a") (codes "--tp1"))
unfolding clap_on_literals names_by found_by
between_dashes = refl

one_file : asked_by (codes "audit" ∷ codes "a" ∷ []) ≡ Some (Audit (codes "a"))
unfolding clap_on_literals name_by found_by
one_file = refl

one_file_too_many : asked_by (codes "audit" ∷ codes "a" ∷ codes "b" ∷ []) ≡ None
unfolding clap_on_literals name_by found_by
one_file_too_many = refl

one_name_twice : asked_by (codes "same" ∷ codes "a" ∷ codes "a" ∷ []) ≡ Some (Same (codes "a") (codes "a"))
unfolding clap_on_literals names_by found_by
one_name_twice = refl

no_names : asked_by (codes "check" ∷ codes "--" ∷ []) ≡ None
unfolding clap_on_literals names_by found_by
no_names = refl

one_name : asked_by (codes "check" ∷ codes "a" ∷ []) ≡ None
unfolding clap_on_literals names_by found_by
one_name = refl

three_names : asked_by (codes "check" ∷ codes "a" ∷ codes "b" ∷ codes "c" ∷ []) ≡ None
unfolding clap_on_literals names_by found_by
three_names = refl

no_such_option : asked_by (codes "check" ∷ codes "--x" ∷ codes "a" ∷ codes "b" ∷ []) ≡ None
unfolding clap_on_literals names_by found_by
no_such_option = refl

no_help : asked_by (codes "integrate" ∷ codes "--help" ∷ []) ≡ None
unfolding clap_on_literals names_by found_by
no_help = refl

no_short_help : asked_by (codes "integrate" ∷ codes "-h" ∷ codes "a" ∷ codes "b" ∷ []) ≡ None
unfolding clap_on_literals names_by found_by
no_short_help = refl

no_version : asked_by (codes "integrate" ∷ codes "a" ∷ codes "--version" ∷ codes "b" ∷ []) ≡ None
unfolding clap_on_literals names_by found_by
no_version = refl

no_command : asked_by (codes "--version" ∷ []) ≡ None
unfolding clap_on_literals names_by found_by
no_command = refl

-- the options of `prove` stand before the name or behind it
no_options : asked_by (codes "prove" ∷ codes "a" ∷ []) ≡ Some (Prove Tp2 1000000 (codes "a"))
unfolding clap_on_literals decision_by found_by
no_options = refl

options_before : asked_by (codes "prove" ∷ codes "--budget" ∷ codes "+07" ∷ codes "--tp1" ∷ codes "a" ∷ [])
    ≡ Some (Prove Tp1 7 (codes "a"))
unfolding clap_on_literals decision_by found_by
options_before = refl

option_behind : asked_by (codes "prove" ∷ codes "a" ∷ codes "--budget=1000000" ∷ [])
    ≡ Some (Prove Tp2 1000000 (codes "a"))
unfolding clap_on_literals decision_by found_by
option_behind = refl

option_as_name : asked_by (codes "prove" ∷ codes "--" ∷ codes "--tp1" ∷ []) ≡ Some (Prove Tp2 1000000 (codes "--tp1"))
unfolding clap_on_literals decision_by found_by
option_as_name = refl

no_question : asked_by (codes "prove" ∷ codes "--budget" ∷ codes "0" ∷ codes "a" ∷ []) ≡ None
unfolding clap_on_literals decision_by found_by
no_question = refl

too_many_questions : asked_by (codes "prove" ∷ codes "--budget=1000001" ∷ codes "a" ∷ []) ≡ None
unfolding clap_on_literals decision_by found_by
too_many_questions = refl

flag_twice : asked_by (codes "prove" ∷ codes "--tp1" ∷ codes "--tp1" ∷ codes "a" ∷ []) ≡ None
unfolding clap_on_literals decision_by found_by
flag_twice = refl

no_such_flag : asked_by (codes "prove" ∷ codes "--tp" ∷ codes "a" ∷ []) ≡ None
unfolding clap_on_literals decision_by found_by
no_such_flag = refl

-- those of `settle` are the same, and its budget is another
settled_at_its_budget : asked_by (codes "settle" ∷ codes "a" ∷ []) ≡ Some (Settle Tp2 30000000 (codes "a"))
unfolding clap_on_literals decision_by found_by
settled_at_its_budget = refl

settled_with_the_most : asked_by (codes "settle" ∷ codes "--tp1" ∷ codes "--budget=100000000" ∷ codes "a" ∷ [])
    ≡ Some (Settle Tp1 100000000 (codes "a"))
unfolding clap_on_literals decision_by found_by
settled_with_the_most = refl

settled_with_too_many : asked_by (codes "settle" ∷ codes "a" ∷ codes "--budget=100000001" ∷ []) ≡ None
unfolding clap_on_literals decision_by found_by
settled_with_too_many = refl

-- so does the option of `least`, which has no budget
no_certificate : asked_by (codes "least" ∷ codes "a" ∷ []) ≡ Some (Least false (codes "a"))
unfolding clap_on_literals least_in found_by
no_certificate = refl

certificate_behind : asked_by (codes "least" ∷ codes "a" ∷ codes "--cert" ∷ []) ≡ Some (Least true (codes "a"))
unfolding clap_on_literals least_in found_by
certificate_behind = refl

no_budget : asked_by (codes "least" ∷ codes "--budget=7" ∷ codes "a" ∷ []) ≡ None
unfolding clap_on_literals least_in found_by
no_budget = refl

-- and that of `explain`
explained : asked_by (codes "explain" ∷ codes "a" ∷ codes "--tp1" ∷ []) ≡ Some (Explain Tp1 (codes "a"))
unfolding clap_on_literals explain_in found_by
explained = refl

explained_within : asked_by (codes "explain" ∷ codes "--budget=7" ∷ codes "a" ∷ []) ≡ None
unfolding clap_on_literals explain_in found_by
explained_within = refl

-- `trace` takes a case where no option says otherwise, and one option at the most
traced_case : asked_by (codes "trace" ∷ codes "a" ∷ codes "b" ∷ []) ≡ Some (Trace traces.Case (codes "a") (codes "b"))
unfolding clap_on_literals trace_in found_by
traced_case = refl

traced_session : asked_by (codes "trace" ∷ codes "a" ∷ codes "--session" ∷ codes "b" ∷ [])
    ≡ Some (Trace traces.Session (codes "a") (codes "b"))
unfolding clap_on_literals trace_in found_by
traced_session = refl

traced_hub : asked_by (codes "trace" ∷ codes "--hub" ∷ codes "a" ∷ codes "b" ∷ [])
    ≡ Some (Trace traces.Hub (codes "a") (codes "b"))
unfolding clap_on_literals trace_in found_by
traced_hub = refl

traced_both : asked_by (codes "trace" ∷ codes "--hub" ∷ codes "--session" ∷ codes "a" ∷ codes "b" ∷ []) ≡ None
unfolding clap_on_literals trace_in found_by
traced_both = refl

-- the kinds of `template` stand in any order, each once at the most
one_kind :
    asked_by (codes "template" ∷ codes "plain" ∷ codes "upd" ∷ [])
    ≡ Some (Template Tp2
    (record { mode = Plain; ins = false; del = false; upd = true; sites_differ = false; chars_differ = false }))
unfolding clap_on_literals template_in found_by
one_kind = refl

all_kinds :
    asked_by (codes "template" ∷ codes "tomb" ∷ codes "--tp1" ∷ codes "upd" ∷ codes "ins"
    ∷ codes "--sites-differ" ∷ codes "del" ∷ [])
    ≡ Some (Template Tp1
    (record { mode = Tomb; ins = true; del = true; upd = true; sites_differ = true; chars_differ = false }))
unfolding clap_on_literals template_in found_by
all_kinds = refl

kind_twice : asked_by (codes "template" ∷ codes "tomb" ∷ codes "ins" ∷ codes "ins" ∷ []) ≡ None
unfolding clap_on_literals template_in found_by
kind_twice = refl

no_kind : asked_by (codes "template" ∷ codes "tomb" ∷ []) ≡ None
unfolding clap_on_literals template_in found_by
no_kind = refl

no_such_mode : asked_by (codes "template" ∷ codes "text" ∷ codes "ins" ∷ []) ≡ None
unfolding clap_on_literals template_in found_by
no_such_mode = refl

-- `mend` by two edits, where the words say nothing
mend_two : asked_by (codes "mend" ∷ codes "a" ∷ []) ≡ Some (Mend Tp2 2 1000000 (codes "a"))
unfolding clap_on_literals mend_in found_by
mend_two = refl

mend_three :
    asked_by (codes "mend" ∷ codes "--tp1" ∷ codes "--edits" ∷ codes "3" ∷ codes "--budget=7" ∷ codes "a" ∷ [])
    ≡ Some (Mend Tp1 3 7 (codes "a"))
unfolding clap_on_literals mend_in found_by
mend_three = refl

mend_four : asked_by (codes "mend" ∷ codes "--edits" ∷ codes "4" ∷ codes "a" ∷ []) ≡ None
unfolding clap_on_literals mend_in found_by
mend_four = refl

mend_none : asked_by (codes "mend" ∷ codes "--edits=0" ∷ codes "a" ∷ []) ≡ None
unfolding clap_on_literals mend_in found_by
mend_none = refl
