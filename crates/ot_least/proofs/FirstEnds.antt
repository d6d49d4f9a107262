-- The first failing end of a function has a document that is short enough for a low certificate.
use Rattle.std.proofs.Common.{◌≡◌, ℕ, ◌<◌, ℤ, pos, ◌≤ℤ◌, List, [], ◌∷◌, Some, sym, subst, ◌∙◌, inl, inr, arith}
use Rattle.std.specs.List.{AllByRecursion}
use Rattle.std.proofs.lemmas.Int.{ints}
use Rattle.diff_tables.specs.Solutions.{AreLeast, valuation_of}
use Rattle.fn_rules.specs.declared.function.Level.TheVariants.{Tp2}
use Rattle.fn_rules.specs.declared.function.ObName.{ObName}
use Rattle.fn_rules.specs.Functions.{Function}
use Rattle.fn_rules.specs.Obligations.{obligations_of}
use Rattle.ask_core.specs.Questions.{FailingEnd, QuestionList, Questions}
use Rattle.ot_questions.specs.declared.why.Why.{Why}
use Rattle.ot_questions.specs.Names.{length_name}
use Rattle.ot_questions.specs.Obligation.{plan_of}
use Rattle.ot_values.specs.Values.{floors_of}
use Rattle.ot_sections.specs.declared.premise.TheConstants.{MAX_BOUND}
use Rattle.ot_decide.specs.Verdicts.{AreAsked, FailingOb, ObQuestions, failing_in}
use Rattle.ot_least.specs.declared.short.Short.{Short}
use Rattle.ot_least.specs.declared.short.Short.TheVariants.{Fine, TooLong, Spent}
use Rattle.ot_least.proofs.Listed.{IsListed, end_is_listed}
use Rattle.ot_least.specs.Shortest.{BeginsTurns, EndHasCells, Falls, IsShort, TellsLeast, behind_first}

-- any obligations
all_any : (obs : List ObName) → AllByRecursion (λ _. Unit {0}) obs
all_any [] = tt
all_any (ob ∷ obs) = (tt, all_any obs)

few : (z : ℤ) (cells : ℕ) → z ≡ pos cells → z ≤ℤ pos 1000 → MAX_BOUND < cells → ⊥
few z cells is at_most more = omega (arith, ints)

module _ (f : Function) (budget : ℕ)
    (short_ends : (ob : ObName) (q : Questions Why) (e : FailingEnd Why) (values : List ℤ)
    → QuestionList (plan_of f ob) [] q
    → q.failing ≡ Some e → AreLeast e.answers (floors_of ob) values → valuation_of values length_name ≤ℤ pos 1000) where
  few_cells : (x : FailingOb Why) (cells : ℕ) → IsListed (λ _. Unit {0}) (plan_of f) x
      → EndHasCells x cells → MAX_BOUND < cells → ⊥
  few_cells x cells listed (values, least, is) more =
      few (valuation_of values length_name) cells is
      (short_ends x.ob listed.questions x.end values listed.list listed.fails least) more

  falls_short :
      (turns : List (List (ObQuestions Why))) (x : FailingOb Why) (cells : ℕ) (short : Short)
      → Falls f budget x cells turns short
      → short ≡ TooLong → ⊥
  falls_short [] x cells short falls is = absurd falls
  falls_short (lists ∷ turns) x cells short (_, inl (_, spent)) is =
      absurd (let not : Spent ≡ TooLong = sym spent ∙ is in cc)
  falls_short (lists ∷ turns) x cells short (_, inr (inl (_, _, tells))) is =
      absurd (subst (λ (s : Short). TellsLeast f x cells lists s) is tells)
  falls_short (lists ∷ turns) x cells short (_, inr (inr (_, (next, fewer, _, (_, falls))))) is =
      falls_short turns (behind_first next) fewer short falls is

  begins_short :
      (lists : List (ObQuestions Why)) (x : FailingOb Why) (cells : ℕ) (short : Short)
      → AreAsked (plan_of f) (obligations_of f.head Tp2) lists → failing_in lists ≡ Some x → EndHasCells x cells
      → BeginsTurns f budget x cells short → short ≡ TooLong → ⊥
  begins_short lists x cells short asked first has (inl (more, _)) is =
      let obs = obligations_of f.head Tp2 in
      few_cells x cells (end_is_listed (λ _. Unit {0}) (plan_of f) x obs lists (all_any obs) asked first) has more
  begins_short lists x cells short asked first has (inr (_, (turns, falls))) is =
      falls_short turns x cells short falls is

  pub never_too_long : (short : Short) → IsShort f budget short → short ≡ TooLong → ⊥
  never_too_long short (lists, asked, inl (_, spent)) is = absurd (let not : Spent ≡ TooLong = sym spent ∙ is in cc)
  never_too_long short (lists, asked, inr (inl (_, _, fine))) is =
      absurd (let not : Fine ≡ TooLong = sym fine ∙ is in cc)
  never_too_long short (lists, asked, inr (inr (_, (x, cells, first, (has, begins))))) is =
      begins_short lists x cells short asked first has begins is
