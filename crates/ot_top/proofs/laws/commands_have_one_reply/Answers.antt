use Rattle.ot_judge.specs.Refusals.{IsJudgement}
use Rattle.ot_bound.specs.Judgements.{IsLowJudgement}
use Rattle.ot_replies.specs.declared.reply.Reply.TheVariants.{Accepted}
use Rattle.ot_commands.specs.Bound.{at_least}
use Rattle.ot_commands.specs.Hub.{IsReplyToHub}
use Rattle.ot_commands.specs.Replay.{IsReplyToSession}
use Rattle.ot_top.proofs.OneAudit.{audit_replied_once, same_replied_once}
use Rattle.ot_top.proofs.Confirmed.{confirm_replied_once}
use Rattle.ot_top.proofs.OneDrill.{drill_replied_once}
use Rattle.ot_top.proofs.OneJudgement.{both_replied_once}
use Rattle.ot_top.proofs.OneShortest.{certified_replied_once, least_replied_once}
use Rattle.ot_top.proofs.Reversed.{reverse_replied_once}
use Rattle.ot_top.proofs.OneOutcome.{file_replied_once, integrate_replied_once}
use Rattle.ot_top.proofs.Templated.{template_replied_once}
use Rattle.ot_top.proofs.OneVerdict.{prove_replied_once}
use Rattle.ot_top.proofs.laws.commands_have_one_reply.Goals as goal

pub returns-clause-check : goal.returns-clause-check
returns-clause-check c =
    λ holds name certificate_name bytes certificate one other told certificate_told first second.
    let grammar = c.what_is_read_is_in_the_grammar.ensures in
    both_replied_once Accepted IsJudgement bytes
    (λ f read b x y. c.bytes_have_one_judgement.ensures f b x y (grammar.valid bytes f (grammar.text bytes f read)))
    (holds name) (holds certificate_name) certificate one other told certificate_told first second

pub returns-clause-bound : goal.returns-clause-bound
returns-clause-bound c =
    λ holds name certificate_name bytes certificate one other told certificate_told first second.
    both_replied_once at_least IsLowJudgement bytes (λ f read. c.bytes_have_one_low_judgement.ensures f)
    (holds name) (holds certificate_name) certificate one other told certificate_told first second

pub returns-clause-confirm : goal.returns-clause-confirm
returns-clause-confirm c =
    λ holds name proof_name bytes proof one other told proof_told first second.
    confirm_replied_once holds name proof_name bytes proof one other told proof_told first second

pub returns-clause-least : goal.returns-clause-least
returns-clause-least c =
    λ holds name bytes one other told first second.
    least_replied_once c.functions_have_one_shortest_document.ensures holds name bytes one other told first second

pub returns-clause-certified : goal.returns-clause-certified
returns-clause-certified c =
    λ holds name bytes one other told first second.
    certified_replied_once c.functions_have_one_shortest_document.ensures holds name bytes one other told first second

pub returns-clause-integrate : goal.returns-clause-integrate
returns-clause-integrate c =
    λ holds name case_name bytes contents one other told case_told first second.
    integrate_replied_once holds name case_name bytes contents one other told case_told first second

pub returns-clause-replay : goal.returns-clause-replay
returns-clause-replay c =
    λ holds name session_name bytes contents one other told session_told first second.
    file_replied_once holds name session_name bytes contents one other told session_told IsReplyToSession
    c.sessions_have_one_reply.ensures first second

pub returns-clause-hub : goal.returns-clause-hub
returns-clause-hub c =
    λ holds name hub_name bytes contents one other told hub_told first second.
    file_replied_once holds name hub_name bytes contents one other told hub_told IsReplyToHub
    c.hubs_have_one_reply.ensures first second

pub returns-clause-audit : goal.returns-clause-audit
returns-clause-audit c =
    λ holds name bytes one other told first second.
    audit_replied_once c.findings_are_one.ensures.audited holds name bytes one other told first second

pub returns-clause-same : goal.returns-clause-same
returns-clause-same c =
    λ holds name other_name bytes contents one other told other_told first second.
    same_replied_once c.findings_are_one.ensures.compared holds name other_name bytes contents one other
    told other_told first second

pub returns-clause-reverse : goal.returns-clause-reverse
returns-clause-reverse c =
    λ holds name other_name bytes contents one other told other_told first second.
    reverse_replied_once c.answers_are_one.ensures holds name other_name bytes contents one other
    told other_told first second

pub returns-clause-prove : goal.returns-clause-prove
returns-clause-prove c =
    λ holds level budget name bytes one other told first second.
    prove_replied_once c.obligations_have_one_question_list.ensures.one holds level budget name bytes
    one other told first second

pub returns-clause-template : goal.returns-clause-template
returns-clause-template c =
    λ holds level head one other first second. template_replied_once holds level head one other first second

pub returns-clause-drill : goal.returns-clause-drill
returns-clause-drill c =
    λ holds number one other first second.
    drill_replied_once c.sessions_begin_as_one.ensures c.makes_have_one_outcome.ensures
    c.takes_have_one_answer.ensures.answer
    c.takes_have_one_answer.ensures.session c.obligations_have_one_question_list.ensures.one holds
    number one other first second
