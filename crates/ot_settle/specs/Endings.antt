-- What it is to lead to an end of a plan that fails.
use Rattle.std.specs.Prelude.{List}
use Rattle.diff_graph.specs.Literals.{IsPossible}
use Rattle.ask_core.specs.Plans.{Plan, Fails}
use Rattle.ot_prove.specs.declared.outcome.Answer.{Answer}
use Rattle.ot_prove.specs.Outcomes.{answered_by, AreAnswersTo}
use Rattle.ot_settle.specs.declared.ending.FailingEnd.{FailingEnd}

-- the answers lead through the plan to an end that fails with the cause, and some integers meet them
abbrev pub AnswersLeadTo : {W : Type 0} → Plan W → List Answer → W → Type 0
AnswersLeadTo p answers why = AreAnswersTo p answers (Fails why) × IsPossible (answered_by answers)

-- the answers of the end lead to it through the plan
abbrev pub IsFailingEnd : {W : Type 0} → Plan W → FailingEnd W → Type 0
IsFailingEnd p end = AnswersLeadTo p end.answers.items end.why
