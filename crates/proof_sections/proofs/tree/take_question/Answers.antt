use Rattle.std.proofs.Common.{◌≡◌, ℕ, ◌+◌, List, [], ◌∷◌, ◌++◌, Ok, ap, sym, subst, ◌∙◌}
use Rattle.diff_graph.specs.declared.lit.Lit.{Lit}
use Rattle.diff_graph.specs.Cycles.{pick_verdict}
use Rattle.cert_check.specs.declared.verdict.Progress.TheVariants.{More}
use Rattle.proof_trees.specs.declared.token.ProofTok.TheVariants as token
use Rattle.proof_trees.specs.Starts.{Comparison}
use Rattle.proof_check.specs.Judging.{standing_at}
use Rattle.proof_check.specs.Questions.{SkipsTo}
use Rattle.proof_check.specs.Steps.{Standing, IsTaken}
use Rattle.proof_sections.specs.Judgement.{FrontLeadsTo}
use Rattle.proof_sections.proofs.Fronts.{AreAlike, question_leads, skip_leads, standing_same}
use Rattle.proof_sections.proofs.tree.take_question.Goals as goal

-- the question was taken, and the cycle behind it
pub returns-in-true-clause-leads : goal.returns-in-true-clause-leads
returns-in-true-clause-leads g c =
    let starts = g.A.Starter.starts in
    let was = c.args.checker.now in
    let asked = c.question.new.self in
    let new = c.skip.new.self in
    let behind = c.in-Some-eq120-default.behind.now in
    let lit = c.in_ok-question.question.lit in
    let front = c.in-Some.ensures in
    let alike : AreAlike =
    record {
      text = c.certificate_tokens_are_spelled_alike.ensures.text;
      spellable = c.certificate_tokens_are_spelled_alike.ensures.spellable;
    } in
    let first : c.in-Some-eq120-default.field-0-0.now ≡ 120 = c.in-Some-eq120-default.field-0-0-test in
    let rest_is : c.args.rest.now ≡ 120 ∷ behind = c.in-Some-eq120-default.ensures.cases.0
    ∙ ap (λ (b : ℕ). b ∷ behind) first in
    let skips =
    subst (λ (s : Standing _ _). SkipsTo (starts was.asker).compare front.1.0 s (standing_at starts new))
    c.question.ensures.same (subst (λ (x : Comparison _). SkipsTo x front.1.0 (standing_at starts asked)
    (standing_at starts new)) c.question.ensures.compare (c.skip.ensures.taken c.in-true.is front.1.0
    (subst (λ (l : List Lit). pick_verdict (l ++ lit ∷ []) front.1.0 ≡ Ok tt) c.literals.ensures.value front.1.3))) in
    subst (λ (l : List ℕ). FrontLeadsTo (starts was.asker).compare (63 ∷ l) More (standing_at starts was)
    (standing_at starts new) (c.in-Some.len + 2)) (sym rest_is)
    (skip_leads c.tokens_are_found_exactly.ensures (starts was.asker).compare (standing_at starts was)
    (starts new.asker) new.places alike
    (c.literals.result.now ++ lit ∷ []) behind c.in-Some.len front skips c.skip.ensures.open)

pub returns-in-false-clause-none : goal.returns-in-false-clause-none
returns-in-false-clause-none g c =
    standing_same g.A.Starter.starts c.question.new.self c.skip.new.self
    (c.skip.ensures.not_taken c.in-false.is) c.skip.ensures.asker
    ∙ c.question.ensures.same

pub returns-in-true-ask-clause-leads : goal.returns-in-true-ask-clause-leads
returns-in-true-ask-clause-leads g c =
    let starts = g.A.Starter.starts in
    let was = c.args.checker.now in
    let asked = c.question.new.self in
    let new = c.ask.new.self in
    let taken =
    subst (λ (s : Standing _ _). IsTaken (starts was.asker).compare token.Ask s (standing_at starts new))
    c.question.ensures.same (subst (λ (x : Comparison _). IsTaken x token.Ask (standing_at starts asked)
    (standing_at starts new)) c.question.ensures.compare (c.ask.ensures.taken c.in-true-ask.is)) in
    question_leads c.tokens_are_found_exactly.ensures (starts was.asker).compare (standing_at starts was)
    (starts new.asker) new.places c.args.rest.now taken c.ask.ensures.open

pub returns-in-false-ask-clause-none : goal.returns-in-false-ask-clause-none
returns-in-false-ask-clause-none g c =
    standing_same g.A.Starter.starts c.question.new.self c.ask.new.self
    (c.ask.ensures.not_taken c.in-false-ask.is) c.ask.ensures.asker
    ∙ c.question.ensures.same
