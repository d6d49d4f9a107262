-- The function is that of the workload, and what is not proved of it has too many questions.
use Rattle.std.proofs.Common.{◌≡◌, List, ℕ, refl, sym, ap, subst, ◌∙◌, inl, inr, arith}
use Rattle.fn_rules.specs.declared.function.Level.TheVariants.{Tp2}
use Rattle.fn_rules.specs.Functions.{Function}
use Rattle.fn_rules.specs.Rules.{function_of}
use Rattle.ot_drill.specs.Workload.{drill_function}
use Rattle.ot_sections.specs.Certificates.{IsCertificate}
use Rattle.ot_replies.specs.declared.reply.Reply.{Reply}
use Rattle.ot_replies.specs.declared.reply.Reply.TheVariants.{Proved}
use Rattle.ot_replies.specs.Texts.{status_of}
use Rattle.ot_commands.specs.Prove.{IsReplyToProof}
use Rattle.ot_words.specs.Words.{most_questions}
use Rattle.ot_commands.proofs.Drilling.{IsShownBy, shown_by, too_many}
use Rattle.ot_commands.proofs.drill.drill.Goals as goal

shown : (f : Function) (r : Reply) (bytes : List ℕ) → IsReplyToProof f Tp2 most_questions r
    → r ≡ Proved bytes → IsShownBy f bytes
shown f r bytes reply is = shown_by f bytes (subst (λ (x : Reply). IsReplyToProof f Tp2 most_questions x) is reply)

pub gone_through-requires-clause-certificate : goal.gone_through-requires-clause-certificate
gone_through-requires-clause-certificate c =
    let f = function_of c.in_ok-rules.rules in
    subst (λ (b : List ℕ). IsCertificate b f Tp2) (sym c.as_slice.ensures)
    (shown f c.in_ok-other.other c.in-Proved.certificate c.in_ok-other.ensures c.in-Proved.is).certificate

pub returns-in-Proved-clause-reply : goal.returns-in-Proved-clause-reply
returns-in-Proved-clause-reply c =
    let f = function_of c.in_ok-rules.rules in
    let by = subst (λ (g : Function). IsShownBy g c.in-Proved.certificate) c.in_ok-rules.ensures
    (shown f c.in_ok-other.other c.in-Proved.certificate c.in_ok-other.ensures c.in-Proved.is) in (
      by.lists,
      by.asked,
      inr (by.few, (c.in_ok-drilled-in-Proved.drilled, c.in_ok-drilled-in-Proved.ensures.drilled, refl)),
    )

-- what is not proved of the workload's function has too many questions, since nothing breaks it
pub returns : goal.returns
returns c =
    let n : ℕ = c.args.number in
    let laws = c.drill_functions_have_both_properties.ensures in
    let r : Reply = c.in_ok-other.other in
    let reply : IsReplyToProof (drill_function n) Tp2 most_questions r =
    subst (λ (g : Function). IsReplyToProof g Tp2 most_questions r) c.in_ok-rules.ensures c.in_ok-other.ensures in
    let many = too_many c.failing_ends_have_counterexamples.ensures.broken (drill_function n) (laws.valid n c.requires)
    (laws.tp1 n) (laws.tp2 n) r
    reply c.in_default.not-Proved in record {
      reply = (many.lists, many.asked, inl (many.many, many.is));
      steady = λ one. let eight : 8 ≡ 1 = sym (ap (λ x. status_of x) many.is) ∙ one in omega (arith, eight);
    }
