-- The status 3 is that of a function's file that is reached and is the text of no function.
use Rattle.std.proofs.Common.{◌≡◌, ◌≢◌, ◌+◌, ℕ, true, false, Bool, List, [], ◌∷◌, take, Option, Some, None, Result, Ok}
use Rattle.std.proofs.Common.{Err, refl, sym, ap, ◌∙◌, subst, inl, inr, arith}
use Rattle.std.specs.Prelude.{nat_le, if◌then◌else◌}
use Rattle.ot_words.specs.declared.command.TraceKind.{TraceKind}
use Rattle.ot_commands.specs.Trace.{IsReplyToTraced, IsTracedAs, TellsCase, TellsHubScript, TellsSession}
use Rattle.diff_graph.specs.declared.lit.Lit.{Lit}
use Rattle.fn_rules.specs.declared.function.ObName.{ObName}
use Rattle.fn_rules.specs.Functions.{Function}
use Rattle.fn_rules.specs.Orders.{Outcome}
use Rattle.fn_grammar.specs.Grammar.{IsTextOf}
use Rattle.fn_text.specs.Reading.{function_in}
use Rattle.case_json.specs.declared.fault.CaseFault.{CaseFault}
use Rattle.case_json.specs.declared.fault.CaseFault.TheVariants as faults
use Rattle.case_json.specs.declared.hub.HubScript.{HubScript}
use Rattle.case_json.specs.declared.script.Event.{Event}
use Rattle.case_json.specs.declared.script.Event.TheVariants.{Make, Take}
use Rattle.case_json.specs.declared.script.Script.{Script}
use Rattle.case_json.specs.declared.trial.Trial.{Trial}
use Rattle.case_json.specs.Cases.{trial_in}
use Rattle.case_json.specs.Hubs.{hub_script_in}
use Rattle.case_json.specs.Scripts.{script_in}
use Rattle.ot_hub.specs.Views.{HubData, begun_hub}
use Rattle.refusals.specs.declared.refusal.JudgeError.{JudgeError}
use Rattle.refusals.specs.declared.refusal.JudgeError.TheVariants as judge
use Rattle.ot_judge.specs.Refusals.{IsJudgement}
use Rattle.proof_sections.specs.declared.refusal.ConfirmError.{ConfirmError}
use Rattle.proof_sections.specs.declared.refusal.ConfirmError.TheVariants as confirm
use Rattle.ot_confirm.specs.Judgement.{judgement_of}
use Rattle.ot_least.specs.declared.short.Short.{Short}
use Rattle.ot_least.specs.declared.short.Short.TheVariants as shorts
use Rattle.ot_bound.specs.Judgements.{IsLowJudgement}
use Rattle.ot_settle.specs.declared.settled.Settled.{Settled}
use Rattle.ot_settle.specs.declared.settled.Settled.TheVariants as outcomes
use Rattle.ot_decide.specs.declared.verdict.Verdict.{Verdict}
use Rattle.ot_decide.specs.declared.verdict.Verdict.TheVariants as verdicts
use Rattle.ot_session.specs.declared.answer.Make.{Make as NotMade}
use Rattle.ot_session.specs.declared.answer.Make.TheVariants as makes
use Rattle.ot_session.specs.declared.answer.Take.{Take as NotTaken}
use Rattle.ot_session.specs.declared.answer.Take.TheVariants as takes
use Rattle.ot_session.specs.Views.{View}
use Rattle.ot_replies.specs.declared.reply.FileKind.TheVariants as files
use Rattle.ot_replies.specs.declared.reply.Reply.{Reply}
use Rattle.ot_replies.specs.declared.reply.Reply.TheVariants as replies
use Rattle.ot_replies.specs.declared.reply.Subject.{Subject}
use Rattle.ot_replies.specs.declared.reply.Subject.TheVariants.{First, Second}
use Rattle.ot_words.specs.Commands.{Asked, Prove, Settle, Check, Integrate, Replay, Hub, Audit, Same, Reverse, Least}
use Rattle.ot_words.specs.Commands.{Bound, Confirm, Drill, Template, Explain, Mend, Trace}
use Rattle.ot_words.specs.declared.command.TraceKind.TheVariants as traces
use Rattle.fn_tokens.specs.declared.fault.TextFault.{TextFault}
use Rattle.ot_commands.specs.Explain.{IsReplyToRead, IsReplyToText}
use Rattle.ot_top.proofs.Mended.{mend_other}
use Rattle.ot_top.proofs.Explained.{bytes_get, read_other, text_gets}
use Rattle.ot_top.proofs.Templated.{template_other}
use Rattle.ot_questions.specs.declared.why.Why.{Why}
use Rattle.ot_decide.specs.Verdicts.{ObQuestions}
use Rattle.std.specs.List.{list_all}
use Rattle.ot_audit.specs.declared.audits.Audit.{Audit as AnyAudit}
use Rattle.ot_audit.specs.declared.audits.Audit.TheVariants as audits
use Rattle.ot_audit.specs.declared.audits.Same.{Same as AnySame}
use Rattle.ot_audit.specs.declared.audits.Same.TheVariants as sames
use Rattle.ot_audit.specs.declared.back.Back.{Back}
use Rattle.ot_audit.specs.declared.back.Back.TheVariants as backs
use Rattle.ot_replies.specs.AuditTexts.{is_total}
use Rattle.ot_commands.specs.Bound.{at_least}
use Rattle.ot_commands.specs.Certificate.{IsReplyToCertificate, Tells}
use Rattle.ot_commands.specs.Confirm.{IsReplyToConfirmed, TellsJudgement}
use Rattle.ot_commands.specs.Drill.{IsReplyToQuestions}
use Rattle.ot_commands.specs.Hub.{IsDone, IsRefusedHubEvent, IsReplyToHub, IsReplyToHubScript, TellsHub}
use Rattle.ot_commands.specs.Integrate.{IsReplyToCase, IsReplyToTrial, TellsOutcomes}
use Rattle.ot_commands.specs.Least.{ReplyTellsLeast, TellsShort}
use Rattle.ot_commands.specs.Load.{IsReplyToFile, IsReplyToFunction}
use Rattle.ot_commands.specs.Prove.{TellsVerdict}
use Rattle.ot_commands.specs.Replay.{IsReplyToScript, IsReplyToSession, Runs, TellsNotMade, TellsNotTaken, TellsSites}
use Rattle.ot_commands.specs.Replies.{IsReplyTo}
use Rattle.ot_commands.specs.Reverse.{IsReplyToReversal, IsReplyToReverser}
use Rattle.ot_commands.specs.Same.{IsReplyToSecond, IsReplyToTwo}
use Rattle.ot_commands.specs.Settle.{TellsSettled}
use Rattle.fn_rules.specs.declared.function.Level.{Level}
use Rattle.ot_top.specs.Shown.{IsUnread, IsUnreadFrom, function_names}
use Rattle.ot_replies.specs.Limits.{limit_of}
use Rattle.ot_replies.specs.Texts.{differ_status, status_of, traced_status}
use Rattle.ot_commands.proofs.HubStatus.{refused_other}
use Rattle.ot_top.proofs.Proving.{reply_to_asked}
use Rattle.ot_commands.proofs.RunsBy.{runs_other}
use Rattle.ot_top.proofs.Told.{IsAnswered}

-- a reply of another status
named_so : (r named : Reply) (status : ℕ) → r ≡ named → status_of named ≡ status → status ≢ 3 → status_of r ≢ 3
named_so r named status same says other is = other (sym says ∙ sym (ap (λ x. status_of x) same) ∙ is)

case_other : (fault : CaseFault) → status_of (replies.CaseRefused fault) ≢ 3
case_other faults.Json is = absurd (omega (arith, is))
case_other (faults.Field name) is = absurd (omega (arith, is))
case_other (faults.Kind i) is = absurd (omega (arith, is))
case_other (faults.Enabled i) is = absurd (omega (arith, is))
case_other (faults.Pair i j) is = absurd (omega (arith, is))
case_other (faults.Order i) is = absurd (omega (arith, is))
case_other (faults.Limit name) is = absurd (omega (arith, is))

refused_case : (fault : CaseFault) (r : Reply) → r ≡ replies.CaseRefused fault → status_of r ≢ 3
refused_case fault r same is = case_other fault (sym (ap (λ x. status_of x) same) ∙ is)

-- what is told of a function that was read has another status, whatever the command
verdict_other : (f : Function) (verdict : Verdict) (r : Reply) → TellsVerdict f verdict r → status_of r ≢ 3
verdict_other f (verdicts.Yes bytes asked) r tells =
    named_so r (replies.Proved bytes.items) 0 tells refl (λ e. omega (arith, e))
verdict_other f (verdicts.No ob answers why) r tells =
    named_so r (replies.Broken tells.0) 1 tells.2 refl (λ e. omega (arith, e))
verdict_other f verdicts.Spent r tells = named_so r replies.Spent 8 tells refl (λ e. omega (arith, e))

settled_other : (f : Function) (settled : Settled) (r : Reply) → TellsSettled f settled r → status_of r ≢ 3
settled_other f (outcomes.Yes bytes) r tells =
    named_so r (replies.Proved bytes.items) 0 tells refl (λ e. omega (arith, e))
settled_other f (outcomes.No ob answers why) r tells =
    named_so r (replies.Broken tells.0) 1 tells.2 refl (λ e. omega (arith, e))
settled_other f (outcomes.Spent cause) r tells = named_so r replies.Spent 8 tells refl (λ e. omega (arith, e))

judgement_other :
    {T : Type 0} (accepts : T → Reply) (judgement : Result T JudgeError) (r : Reply)
    → ((shown : T) → status_of (accepts shown) ≡ 0)
    → Tells accepts judgement r → status_of r ≢ 3
judgement_other accepts (Ok shown) r zero tells =
    named_so r (accepts shown) 0 tells (zero shown) (λ e. omega (arith, e))
judgement_other accepts (Err (judge.Refused offset why)) r zero tells =
    named_so r (replies.Refused offset why) 2 tells refl (λ e. omega (arith, e))
judgement_other accepts (Err judge.Failed) r zero tells = absurd tells
judgement_other accepts (Err judge.NoMemory) r zero tells = absurd tells

certificate_other :
    {T : Type 0} (Judges : List ℕ → Result T JudgeError → Type 0) (accepts : T → Reply)
    (told : Option (List ℕ)) (r : Reply)
    → ((shown : T) → status_of (accepts shown) ≡ 0) → IsReplyToCertificate Judges accepts told r → status_of r ≢ 3
certificate_other Judges accepts told r zero (contents, known, (judgement, judged, inl longer)) =
    named_so r (replies.TooLong files.Certificate) 9 longer.1.1 refl (λ e. omega (arith, e))
certificate_other Judges accepts told r zero (contents, known, (judgement, judged, inr tells)) =
    judgement_other accepts judgement r zero tells.1

told_other : (judgement : Result Level ConfirmError) (r : Reply) → TellsJudgement judgement r → status_of r ≢ 3
told_other (Ok level) r tells = named_so r (replies.Confirmed level) 0 tells refl (λ e. omega (arith, e))
told_other (Err (confirm.Refused offset why)) r tells =
    named_so r (replies.ProofRefused offset why) 2 tells refl (λ e. omega (arith, e))
told_other (Err confirm.NoMemory) r tells = absurd tells

proof_other : (f : Function) (told : Option (List ℕ)) (r : Reply) → IsReplyToConfirmed f told r → status_of r ≢ 3
proof_other f told r (contents, known, inl longer) =
    named_so r (replies.TooLong files.Proof) 9 longer.1.1 refl (λ e. omega (arith, e))
proof_other f told r (contents, known, inr tells) =
    told_other (judgement_of f (take (limit_of files.Proof) contents)) r tells.1

least_other :
    (f : Function) (cert : Bool) (ob : ObName) (w : List Lit) (why : Why) (cells : ℕ) (bytes : List ℕ) (r : Reply)
    → ReplyTellsLeast f cert ob w why cells bytes r → status_of r ≢ 3
least_other f true ob w why cells bytes r tells =
    named_so r (replies.Certified bytes) 1 tells refl (λ e. omega (arith, e))
least_other f false ob w why cells bytes r tells =
    named_so r (replies.Shortest tells.0 cells) 1 tells.2 refl (λ e. omega (arith, e))

short_other : (f : Function) (cert : Bool) (short : Short) (r : Reply) → TellsShort f cert short r → status_of r ≢ 3
short_other f cert shorts.Fine r tells = named_so r replies.Unbroken 0 tells refl (λ e. omega (arith, e))
short_other f cert (shorts.Least ob answers why cells bytes) r tells =
    least_other f cert ob _ why cells bytes.items r tells
short_other f cert shorts.TooLong r tells = named_so r replies.BoundTooLong 9 tells refl (λ e. omega (arith, e))
short_other f cert shorts.Spent r tells = named_so r replies.Spent 8 tells refl (λ e. omega (arith, e))

same_other : (same : Bool) → ◌≢◌ {A = ℕ} (if same then 0 else 1) 3
same_other true is = absurd (omega (arith, is))
same_other false is = absurd (omega (arith, is))

differ_other : {X : Type 0} → (differ : Option X) → differ_status differ ≢ 3
differ_other None is = absurd (omega (arith, is))
differ_other (Some pair) is = absurd (omega (arith, is))

outcomes_other : (outcomes : List Outcome) (r : Reply) → TellsOutcomes outcomes r → status_of r ≢ 3
outcomes_other outcomes (replies.Integrated ends same) tells = same_other same
outcomes_other outcomes _ tells = absurd tells

sites_other : (v : View) (r : Reply) → TellsSites v r → status_of r ≢ 3
sites_other v (replies.Replayed ends differ) tells = differ_other differ
sites_other v _ tells = absurd tells

not_made_other : (i : ℕ) (why : NotMade) (r : Reply) → TellsNotMade i why r → status_of r ≢ 3
not_made_other i makes.NoSite r tells = named_so r _ 4 tells refl (λ e. omega (arith, e))
not_made_other i makes.WrongSite r tells = named_so r _ 4 tells refl (λ e. omega (arith, e))
not_made_other i makes.WrongKind r tells = named_so r _ 4 tells refl (λ e. omega (arith, e))
not_made_other i makes.NotEnabled r tells = named_so r _ 4 tells refl (λ e. omega (arith, e))
not_made_other i makes.Full r tells = named_so r _ 9 tells refl (λ e. omega (arith, e))
not_made_other i makes.NoMemory r tells = absurd tells

not_taken_other : (i : ℕ) (why : NotTaken) (r : Reply) → TellsNotTaken i why r → status_of r ≢ 3
not_taken_other i takes.NoSite r tells = named_so r _ 4 tells refl (λ e. omega (arith, e))
not_taken_other i takes.NoOp r tells = named_so r _ 4 tells refl (λ e. omega (arith, e))
not_taken_other i (takes.Stuck o) r tells = named_so r (replies.StuckAt i) 1 tells refl (λ e. omega (arith, e))
not_taken_other i takes.Spent r tells = named_so r replies.Spent 8 tells refl (λ e. omega (arith, e))
not_taken_other i takes.NoMemory r tells = absurd tells

session_runs_other : (v : View) (i : ℕ) (events : List Event) (r : Reply) → Runs v i events r → status_of r ≢ 3
session_runs_other v i [] r tells = sites_other v r tells
session_runs_other v i (Make s o ∷ events) r (inl refused) = not_made_other i refused.0 r refused.2
session_runs_other v i (Take s n ∷ events) r (inl refused) = not_taken_other i refused.0 r refused.3
session_runs_other v i (event ∷ events) r (inr done) = session_runs_other done.0 (i + 1) events r done.2

trial_other : (f : Function) (read : Result Trial CaseFault) (r : Reply) → IsReplyToTrial f read r → status_of r ≢ 3
trial_other f (Err fault) r tells = refused_case fault r tells
trial_other f (Ok t) r tells = outcomes_other _ r tells

script_other : (f : Function) (read : Result Script CaseFault) (r : Reply) → IsReplyToScript f read r → status_of r ≢ 3
script_other f (Err fault) r tells = refused_case fault r tells
script_other f (Ok script) r tells = session_runs_other tells.0 0 script.events r tells.2

hub_other : (hub : HubData) (r : Reply) → TellsHub hub r → status_of r ≢ 3
hub_other hub (replies.Served end) tells = differ_other end.differ
hub_other hub _ tells = absurd tells

hub_script_other : (f : Function) (read : Result HubScript CaseFault) (r : Reply)
    → IsReplyToHubScript f read r → status_of r ≢ 3
hub_script_other f (Err fault) r tells = refused_case fault r tells
hub_script_other f (Ok script) r tells =
    runs_other TellsHub IsRefusedHubEvent IsDone 3 hub_other refused_other
    (begun_hub f script.doc script.clients) 0 script.events r tells

case_end_other : (f : Function) (read : Result Trial CaseFault) (told : List ℕ) (end : Reply)
    → TellsCase f read told end → status_of end ≢ 3
case_end_other f (Err fault) told end tells = refused_case fault end tells.1
case_end_other f (Ok t) told end tells = outcomes_other _ end tells.1

session_end_other : (f : Function) (read : Result Script CaseFault) (told : List ℕ) (end : Reply)
    → TellsSession f read told end → status_of end ≢ 3
session_end_other f (Err fault) told end tells = refused_case fault end tells.1
session_end_other f (Ok script) told end tells = script_other f (Ok script) end tells.1

hub_end_other : (f : Function) (read : Result HubScript CaseFault) (told : List ℕ) (end : Reply)
    → TellsHubScript f read told end → status_of end ≢ 3
hub_end_other f (Err fault) told end tells = refused_case fault end tells.1
hub_end_other f (Ok script) told end tells = hub_script_other f (Ok script) end tells.1

case_reply_other : (f : Function) (bytes : List ℕ) (r : Reply) → IsReplyToCase f bytes r → status_of r ≢ 3
unfolding IsReplyToCase
case_reply_other f bytes r tells = trial_other f (trial_in f bytes) r tells

session_reply_other : (f : Function) (bytes : List ℕ) (r : Reply) → IsReplyToSession f bytes r → status_of r ≢ 3
unfolding IsReplyToSession
session_reply_other f bytes r tells = script_other f (script_in bytes) r tells

hub_reply_other : (f : Function) (bytes : List ℕ) (r : Reply) → IsReplyToHub f bytes r → status_of r ≢ 3
unfolding IsReplyToHub
hub_reply_other f bytes r tells = hub_script_other f (hub_script_in bytes) r tells

file_other : (told : Option (List ℕ)) (Gets : List ℕ → Type 0) (r : Reply)
    → ((bytes : List ℕ) → Gets bytes → status_of r ≢ 3)
    → IsReplyToFile files.Case told Gets r → status_of r ≢ 3
file_other told Gets r other (inl longer) =
    named_so r (replies.TooLong files.Case) 9 longer.1 refl (λ e. omega (arith, e))
file_other told Gets r other (inr gets) = other gets.0 gets.2

-- what is told step by step has the status of the reply that it ends with
end_other : (events : TraceKind) (f : Function) (bytes told : List ℕ) (end : Reply)
    → IsTracedAs events f bytes told end → status_of end ≢ 3
unfolding IsTracedAs
end_other traces.Case f bytes told end tells = case_end_other f (trial_in f bytes) told end tells
end_other traces.Session f bytes told end tells = session_end_other f (script_in bytes) told end tells
end_other traces.Hub f bytes told end tells = hub_end_other f (hub_script_in bytes) told end tells

high_other : (test : Bool) → ◌≢◌ {A = ℕ} (if test then 8 else 9) 3
high_other true is = absurd (omega (arith, is))
high_other false is = absurd (omega (arith, is))

status_other : (s : ℕ) → s ≢ 3 → traced_status s ≢ 3
status_other s other = go (nat_le s 5)
  where
    go : (test : Bool) → ◌≢◌ {A = ℕ} (if test then s else (if nat_le s 8 then 8 else 9)) 3
    go true = other
    go false = high_other (nat_le s 8)

traced_other : (events : TraceKind) (f : Function) (bytes : List ℕ) (r : Reply)
    → IsReplyToTraced events f bytes r → status_of r ≢ 3
traced_other events f bytes r (told, end, tells, same) is =
    status_other (status_of end) (end_other events f bytes told end tells) (sym (ap (λ x. status_of x) same) ∙ is)

audit_other : (audit : AnyAudit) (r : Reply) → r ≡ replies.Audited audit → status_of r ≢ 3
audit_other (audits.Blocks blocks) r same =
    λ is. same_other (list_all is_total blocks) (sym (ap (λ x. status_of x) same) ∙ is)
audit_other audits.Spent r same = named_so r _ 8 same refl (λ e. omega (arith, e))

functions_other : (same : AnySame) (r : Reply) → r ≡ replies.Compared same → status_of r ≢ 3
functions_other sames.Everywhere r same = named_so r _ 0 same refl (λ e. omega (arith, e))
functions_other sames.Heads r same = named_so r _ 1 same refl (λ e. omega (arith, e))
functions_other (sames.Differ k l a b left right) r same = named_so r _ 1 same refl (λ e. omega (arith, e))
functions_other sames.Spent r same = named_so r _ 8 same refl (λ e. omega (arith, e))

back_other : (back : Back) (r : Reply) → r ≡ replies.Reversed back → status_of r ≢ 3
back_other backs.Yes r same = named_so r _ 0 same refl (λ e. omega (arith, e))
back_other (backs.No doc a b there back) r same = named_so r _ 1 same refl (λ e. omega (arith, e))
back_other backs.Spent r same = named_so r _ 8 same refl (λ e. omega (arith, e))

reversal_other : (f e : Function) (r : Reply) → IsReplyToReversal f e r → status_of r ≢ 3
reversal_other f e r (inl (unlike, same)) = named_so r replies.Unlike 1 same refl (λ e. omega (arith, e))
reversal_other f e r (inr (back, alike, is, same)) = back_other back r same

drilled_other : (n : ℕ) (lists : List (ObQuestions Why)) (r : Reply) → IsReplyToQuestions n lists r → status_of r ≢ 3
drilled_other n lists r (inl spent) = named_so r replies.Spent 8 spent.1 refl (λ e. omega (arith, e))
drilled_other n lists r (inr done) = λ is. differ_other done.1.0.differ (sym (ap (λ x. status_of x) done.1.2) ∙ is)

module _ (texts_are_read : (bytes : List ℕ) (f : Function) → IsTextOf bytes f → function_in bytes ≡ Ok f)
    (is_text : (bytes : List ℕ) (f : Function) → function_in bytes ≡ Ok f → IsTextOf bytes f)
    (holds : List ℕ → Option (List ℕ)) (r : Reply) where
  -- a file that is refused is no text of a function, and one that is read is, and goes on
  read_or_not :
      (subject : Subject) (name : List ℕ) (names : List (List ℕ)) (Gets : Function → Type 0)
      → ((f : Function) → Gets f → IsUnreadFrom holds (status_of r) names)
      → IsReplyToFunction subject (holds name) Gets r
      → IsUnreadFrom holds (status_of r) (name ∷ names)
  read_or_not subject name names Gets behind (inl (inl longer)) bytes is small =
      absurd (let more = longer.0 bytes is in omega (arith, more, small))
  read_or_not subject name names Gets behind (inl (inr (fault, read, same))) bytes is small = (
    λ none. ap (λ x. status_of x) same,
    λ f text. absurd (let refused : function_in bytes ≡ Err fault = (read bytes is).1 in
        let ok = texts_are_read bytes f text in cc),
  )
  read_or_not subject name names Gets behind (inr (f, read, gets)) bytes is small = (
    λ none. absurd (none f (is_text bytes f (read bytes is).1)),
    λ g text. behind f gets,
  )

  -- a text that gets a reply also where it is refused is refused with this status
  refused_text :
      (level : Level) (bytes : List ℕ) (read : Result Function TextFault) → function_in bytes ≡ read
      → ((f : Function) → ¬ IsTextOf bytes f)
      → IsReplyToRead level bytes read r → status_of r ≡ 3
  refused_text level bytes (Ok f) is none got = absurd (none f (is_text bytes f is))
  refused_text level bytes (Err fault) is none got = ap (λ x. status_of x) got

  text_or_not :
      (level : Level) (name : List ℕ) → IsReplyToFile files.Function (holds name) (λ b. IsReplyToText level b r) r
      → IsUnreadFrom holds (status_of r) (name ∷ [])
  text_or_not level name reply bytes is small =
      let got : IsReplyToText level bytes r =
      bytes_get (holds name) bytes (λ b. IsReplyToText level b r) r is small reply in (
        λ none. refused_text level bytes (function_in bytes) refl none
            (text_gets level bytes (function_in bytes) r refl got),
        λ f text. read_other f level r (text_gets level bytes (Ok f) r (texts_are_read bytes f text) got),
      )

  -- a reply has the status 3 exactly where a function's file that is reached is the text of no function
  unread_reply : (asked : Asked) → IsReplyTo holds asked r → IsUnreadFrom holds (status_of r) (function_names asked)
  unread_reply (Prove level budget name) reply =
      read_or_not First name [] _ (λ f gets. verdict_other f gets.0 r gets.3) reply
  unread_reply (Settle level budget name) reply =
      read_or_not First name [] _ (λ f gets. settled_other f gets.0 r gets.2) reply
  unread_reply (Mend level most budget name) reply =
      read_or_not First name [] _ (λ f gets. mend_other level most budget f r gets) reply
  unread_reply (Explain level name) reply = text_or_not level name reply
  unread_reply (Trace events name file) reply =
      read_or_not First name [] _
      (λ f gets. file_other (holds file) (λ b. IsReplyToTraced events f b r) r (λ b. traced_other events f b r) gets)
      reply
  unread_reply (Check name certificate) reply =
      read_or_not First name [] _ (λ f gets.
      certificate_other (IsJudgement f) replies.Accepted (holds certificate) r (λ level. refl) gets) reply
  unread_reply (Integrate name case) reply =
      read_or_not First name [] _
      (λ f gets. file_other (holds case) (λ b. IsReplyToCase f b r) r (λ b. case_reply_other f b r) gets) reply
  unread_reply (Replay name session) reply =
      read_or_not First name [] _
      (λ f gets. file_other (holds session) (λ b. IsReplyToSession f b r) r (λ b. session_reply_other f b r) gets) reply
  unread_reply (Hub name hub) reply =
      read_or_not First name [] _
      (λ f gets. file_other (holds hub) (λ b. IsReplyToHub f b r) r (λ b. hub_reply_other f b r) gets) reply
  unread_reply (Audit name) reply = read_or_not First name [] _ (λ f gets. audit_other gets.0 r gets.2) reply
  unread_reply (Same name other) reply =
      read_or_not First name (other ∷ []) (λ f. IsReplyToSecond f (holds other) r)
      (λ f second. read_or_not Second other [] (λ g. IsReplyToTwo f g r)
      (λ g gets. functions_other gets.0 r gets.2) second) reply
  unread_reply (Reverse name other) reply =
      read_or_not First name (other ∷ []) (λ f. IsReplyToReverser f (holds other) r)
      (λ f second. read_or_not Second other [] (λ e. IsReplyToReversal f e r)
      (λ e gets. reversal_other f e r gets) second) reply
  unread_reply (Least cert name) reply =
      read_or_not First name [] _ (λ f gets. short_other f cert gets.0 r gets.4) reply
  unread_reply (Bound name certificate) reply =
      read_or_not First name [] _
      (λ f gets. certificate_other (IsLowJudgement f) at_least (holds certificate) r (λ shown. refl) gets) reply
  unread_reply (Confirm name proof) reply =
      read_or_not First name [] _ (λ f gets. proof_other f (holds proof) r gets) reply
  unread_reply (Template level head) reply = template_other level head r reply
  unread_reply (Drill number) reply = drilled_other number reply.0 r reply.2

pub unread :
    ((bytes : List ℕ) (f : Function) → IsTextOf bytes f → function_in bytes ≡ Ok f)
    → ((bytes : List ℕ) (f : Function) → function_in bytes ≡ Ok f → IsTextOf bytes f)
    → (words : List (List ℕ)) (holds : List ℕ → Option (List ℕ)) (status : ℕ) (IsWritten : List ℕ → Type 0)
    → IsAnswered words holds status IsWritten → IsUnread words holds status
unread texts_are_read is_text words holds status IsWritten (r, reply, steady, is, written) asked named =
    subst (λ (s : ℕ). IsUnreadFrom holds s (function_names asked)) (sym is)
    (unread_reply texts_are_read is_text holds r asked (reply_to_asked words holds r asked named reply))
