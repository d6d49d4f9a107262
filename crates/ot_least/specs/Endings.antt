-- Failing ends as the search keeps them.
use Rattle.std.specs.Prelude.{◌≡◌, ℕ, List, ◌++◌, IsTrue, Some, Vec}
use Rattle.std.specs.declared.alloc.Global.{Global}
use Rattle.diff_graph.specs.Literals.{IsPossible}
use Rattle.fn_rules.specs.Functions.{Function}
use Rattle.fn_rules.specs.Obligations.{is_obligation, level_of}
use Rattle.ask_core.specs.Plans.{Fails}
use Rattle.cert_text.specs.Spelling.{end_text}
use Rattle.ot_decide.specs.declared.verdict.SearchVerdict.{SearchVerdict}
use Rattle.ot_decide.specs.Proving.{AreSettled}
use Rattle.ot_decide.specs.Verdicts.{FailingOb}
use Rattle.ot_prove.specs.Outcomes.{AreAnswersTo, answered_by}
use Rattle.ot_questions.specs.declared.why.Why.{Why}
use Rattle.ot_questions.specs.Obligation.{plan_below, plan_of}
use Rattle.ot_least.specs.declared.ending.Ending.{Ending}
use Rattle.ot_least.specs.declared.short.Short.{Short}
use Rattle.ot_least.specs.declared.short.Short.TheVariants.{Least}
use Rattle.ot_bound.specs.Lows.{low_header_text, parts_of}
use Rattle.ot_least.specs.Shortest.{HasCells, end_by}

-- the answers lead through the plan of an obligation to an end that fails, some integers meet them, and the least of
-- these give so many cells
pub record IsEnding (f : Function) (e : Ending) : Type 0 where
  pub listed : IsTrue (is_obligation f.head e.ob)
  pub way : AreAnswersTo (plan_of f e.ob) e.answers.items (Fails e.why)
  pub possible : IsPossible (answered_by e.answers.items)
  pub length : HasCells e.ob (answered_by e.answers.items) e.cells

abbrev pub failing_end_of : Ending → FailingOb Why
failing_end_of e = end_by e.ob e.answers.items e.why

-- a turn from a failing end on: what the search of its property's obligations on the documents of fewer cells comes to,
-- with these bytes behind the first line
abbrev pub IsTurn : Function → ℕ → Ending → List ℕ → SearchVerdict → Type 0
IsTurn f budget e bytes verdict =
    AreSettled f.head (plan_below f (Some e.cells)) (parts_of f.head (level_of e.ob)) budget
    (low_header_text (level_of e.ob) e.cells) bytes verdict

-- the answer is the failing end, with these bytes and the last line for a certificate
abbrev pub IsEndedBy : Ending → List ℕ → Short → Type 0
IsEndedBy e bytes answer =
    (cert : Vec ℕ Global) × (cert.items ≡ bytes ++ end_text) × (answer ≡ Least e.ob e.answers e.why e.cells cert)
