use Rattle.std.proofs.Common.{◌≡◌, ℕ, ◌+◌, List, [], ◌∷◌, ◌++◌, Ok, arith, refl, sym, ap, subst, ◌∙◌}
use Rattle.diff_graph.specs.declared.lit.Lit.{Lit}
use Rattle.diff_graph.specs.Cycles.{pick_verdict}
use Rattle.ask_core.specs.declared.tree.Tok.TheVariants as token
use Rattle.ask_core.specs.Trees.{Branch}
use Rattle.cert_check.specs.Judging.{open_branches}
use Rattle.cert_check.specs.Questions.{SkipsTo}
use Rattle.cert_check.specs.Steps.{after}
use Rattle.ot_sections.specs.Taking.{AreTakenFront}
use Rattle.ot_sections.proofs.Taking.{byte_taken, skip_taken}
use Rattle.ot_sections.proofs.Tokens.{open_as_counted}
use Rattle.ot_sections.proofs.tree.take_question.Goals as goal

-- the question was taken, and the cycle behind it
pub returns-in-true-clause-taken : goal.returns-in-true-clause-taken
returns-in-true-clause-taken g c =
    let old = open_branches g.A.Asker.plan c.args.checker.now in
    let new = open_branches g.A.Asker.plan c.skip.new.self in
    let behind = c.in-Some-eq120-default.behind.now in
    let lit = c.in_ok-question.question.lit in
    let front = c.in-Some.ensures in
    let first : c.in-Some-eq120-default.field-0-0.now ≡ 120 = c.in-Some-eq120-default.field-0-0-test in
    let rest_is : c.args.rest.now ≡ 120 ∷ behind = c.in-Some-eq120-default.ensures.cases.0
    ∙ ap (λ (b : ℕ). b ∷ behind) first in
    let skips =
    subst (λ (b : List (Branch _)). SkipsTo front.1.0 b new) c.question.ensures.same
    (c.skip.ensures.taken c.in-true.is front.1.0
    (subst (λ (l : List Lit). pick_verdict (l ++ lit ∷ []) front.1.0 ≡ Ok tt) c.answers.ensures front.1.3)) in
    subst (λ (l : List ℕ). AreTakenFront old new (63 ∷ l) (c.in-Some.len + 2)) (sym rest_is)
    (skip_taken (c.answers.result.now ++ lit ∷ []) behind c.in-Some.len old new front skips)

-- a question and a cycle leave as many places open
pub returns-in-true-clause-count : goal.returns-in-true-clause-count
returns-in-true-clause-count g c =
    let old = open_branches g.A.Asker.plan c.args.checker.now in
    let new = open_branches g.A.Asker.plan c.skip.new.self in
    let lit = c.in_ok-question.question.lit in
    let front = c.in-Some.ensures in
    let skips =
    subst (λ (b : List (Branch _)). SkipsTo front.1.0 b new) c.question.ensures.same
    (c.skip.ensures.taken c.in-true.is front.1.0
    (subst (λ (l : List Lit). pick_verdict (l ++ lit ∷ []) front.1.0 ≡ Ok tt) c.answers.ensures front.1.3)) in
    omega (
      arith,
      c.requires.count,
      c.requires.some,
      open_as_counted token.Ask old skips.0 skips.1,
      open_as_counted (token.Cycle front.1.0) skips.0 new skips.2,
    )

pub returns-in-true-ask-clause-taken : goal.returns-in-true-ask-clause-taken
returns-in-true-ask-clause-taken g c =
    let new = open_branches g.A.Asker.plan c.ask.new.self in
    byte_taken 63 c.args.rest.now token.Ask (open_branches g.A.Asker.plan c.args.checker.now) new tt refl
    (subst (λ (b : List (Branch _)). after token.Ask b ≡ Ok new) c.question.ensures.same
    (c.ask.ensures.taken c.in-true-ask.is))

-- the question leaves one place more open
pub returns-in-true-ask-clause-count : goal.returns-in-true-ask-clause-count
returns-in-true-ask-clause-count g c =
    let new = open_branches g.A.Asker.plan c.ask.new.self in
    omega (
      arith,
      c.requires.count,
      open_as_counted token.Ask (open_branches g.A.Asker.plan c.args.checker.now) new
          (subst (λ (b : List (Branch _)). after token.Ask b ≡ Ok new) c.question.ensures.same
          (c.ask.ensures.taken c.in-true-ask.is)),
    )

pub returns-in-true-ask-clause-refusal : goal.returns-in-true-ask-clause-refusal
returns-in-true-ask-clause-refusal g c = c.ask.ensures.refusal ∙ c.question.ensures.refusal

pub returns-in-false-ask-clause-none : goal.returns-in-false-ask-clause-none
returns-in-false-ask-clause-none g c = c.ask.ensures.same c.in-false-ask.is ∙ c.question.ensures.same

pub returns-in-false-ask-clause-refusal : goal.returns-in-false-ask-clause-refusal
returns-in-false-ask-clause-refusal g c = c.ask.ensures.refusal ∙ c.question.ensures.refusal

pub returns-in-true-clause-refusal : goal.returns-in-true-clause-refusal
returns-in-true-clause-refusal g c = c.skip.ensures.refusal ∙ c.question.ensures.refusal

pub returns-in-false-clause-none : goal.returns-in-false-clause-none
returns-in-false-clause-none g c = c.skip.ensures.same c.in-false.is ∙ c.question.ensures.same

pub returns-in-false-clause-refusal : goal.returns-in-false-clause-refusal
returns-in-false-clause-refusal g c = c.skip.ensures.refusal ∙ c.question.ensures.refusal

pub skip-requires-clause-cycle : goal.skip-requires-clause-cycle
skip-requires-clause-cycle g c =
    let front = c.in-Some.ensures in (
      front.1.0,
      front.1.1.1,
      subst (λ (l : List Lit). pick_verdict (l ++ c.in_ok-question.question.lit ∷ []) front.1.0 ≡ Ok tt)
          c.answers.ensures front.1.3,
    )
