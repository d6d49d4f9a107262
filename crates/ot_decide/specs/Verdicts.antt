-- What a function comes to at a level: the questions of its obligations in order, and what they decide.
use Rattle.std.specs.Prelude.{◌≡◌, ℕ, ◌+◌, ◌<◌, ◌≤◌, IsTrue, List, [], ◌∷◌, length, Option, Some, None, MatchOption}
use Rattle.std.specs.Prelude.{option_map}
use Rattle.std.specs.Option.{option_or}
use Rattle.diff_graph.specs.Literals.{IsPossible}
use Rattle.fn_rules.specs.declared.function.Head.{Head}
use Rattle.fn_rules.specs.declared.function.Level.{Level}
use Rattle.fn_rules.specs.declared.function.ObName.{ObName}
use Rattle.fn_rules.specs.Functions.{Function}
use Rattle.fn_rules.specs.Obligations.{obligations_of, is_obligation}
use Rattle.ask_core.specs.Plans.{Plan, Fails}
use Rattle.ask_core.specs.Trees.{AnswerTree}
use Rattle.ask_core.specs.Questions.{Questions, QuestionList, FailingEnd}
use Rattle.ot_prove.specs.declared.outcome.Answer.{Answer}
use Rattle.ot_prove.specs.Outcomes.{answered_by, asked_along, AreAnswersTo}
use Rattle.cert_text.specs.Certificates.{certificate_text}
use Rattle.ot_questions.specs.declared.why.Why.{Why}
use Rattle.ot_questions.specs.Obligation.{plan_of}
use Rattle.ot_decide.specs.declared.verdict.Verdict.{Verdict}
use Rattle.ot_decide.specs.declared.verdict.Verdict.TheVariants.{Yes, No, Spent}
use Rattle.ot_sections.specs.Certificates.{AreAnswers}

-- an obligation, and the question list of its plan
pub record ObQuestions (W : Type 0) : Type 0 where
  pub ob : ObName
  pub questions : Questions W

-- the obligations in order, each with its question list, up to and including the first that has a failing end
abbrev pub AreAsked : {W : Type 0} → (ObName → Plan W) → List ObName → List (ObQuestions W) → Type 0
AreAsked plan [] lists = lists ≡ []
AreAsked {W = W} plan (ob ∷ obs) lists =
    (q : Questions W) × QuestionList (plan ob) [] q
    × MatchOption q.failing
    ((later : List (ObQuestions W)) × AreAsked plan obs later × (lists ≡ record { ob = ob; questions = q } ∷ later))
    (λ _. lists ≡ record { ob = ob; questions = q } ∷ [])

-- how many questions there are
abbrev pub count_in : {W : Type 0} → List (ObQuestions W) → ℕ
count_in [] = 0
count_in (l ∷ lists) = length l.questions.asked + count_in lists

-- an obligation, and an end at which its plan fails
pub record FailingOb (W : Type 0) : Type 0 where
  pub ob : ObName
  pub end : FailingEnd W

-- the first failing end
abbrev pub failing_in : {W : Type 0} → List (ObQuestions W) → Option (FailingOb W)
failing_in [] = None
failing_in (l ∷ lists) = option_or (option_map (λ e. record { ob = l.ob; end = e }) l.questions.failing)
    (failing_in lists)

-- the answers in front of the questions of each tree, in preorder, are the question list of its obligation
abbrev pub AskTheQuestions : {W : Type 0} → (ObName → Plan W) → List AnswerTree → List (ObQuestions W) → Type 0
AskTheQuestions plan [] [] = Unit {0}
AskTheQuestions plan [] (l ∷ lists) = ⊥
AskTheQuestions plan (t ∷ trees) [] = ⊥
AskTheQuestions plan (t ∷ trees) (l ∷ lists) =
    (l.questions.asked ≡ asked_along t (plan l.ob) []) × AskTheQuestions plan trees lists

-- the bytes are a certificate of the function at the level, with exactly these questions, and there are so many
pub record IsCertificateAsking (f : Function) (level : Level) (lists : List (ObQuestions Why)) (asked : ℕ)
    (bytes : List ℕ) : Type 0 where
  pub counted : asked ≡ count_in lists
  pub trees : List AnswerTree
  pub fit : AreAnswers (plan_of f) (obligations_of f.head level) trees
  pub ask : AskTheQuestions (plan_of f) trees lists
  pub text : bytes ≡ certificate_text (obligations_of f.head level) level trees

-- the obligation, one of the head's, is the first that fails: the answers lead through its plan to its first failing
-- end, and some integers meet them
pub record IsRefutation (head : Head) (plan : ObName → Plan Why) (lists : List (ObQuestions Why)) (ob : ObName)
    (answers : List Answer) (why : Why) : Type 0 where
  pub first : failing_in lists ≡ Some (record { ob = ob; end = record { answers = answered_by answers; why = why } })
  pub listed : IsTrue (is_obligation head ob)
  pub way : AreAnswersTo (plan ob) answers (Fails why)
  pub possible : IsPossible (answered_by answers)

-- the verdict is that of these question lists: there are more questions than the budget allows, or there is a failing
-- end, or the bytes are a certificate, and there are so many questions
abbrev pub IsVerdict : Function → Level → ℕ → List (ObQuestions Why) → Verdict → Type 0
IsVerdict f level budget lists (Yes bytes asked) =
    (count_in lists ≤ budget) × (failing_in lists ≡ None) × IsCertificateAsking f level lists asked bytes.items
IsVerdict f level budget lists (No ob answers why) =
    (count_in lists ≤ budget) × IsRefutation f.head (plan_of f) lists ob answers.items why
IsVerdict f level budget lists Spent = budget < count_in lists

-- the verdict of the function at the level
abbrev pub IsDecidedAs : Function → Level → ℕ → Verdict → Type 0
IsDecidedAs f level budget verdict =
    (lists : List (ObQuestions Why)) × AreAsked (plan_of f) (obligations_of f.head level) lists
    × IsVerdict f level budget lists verdict

-- so many bytes at the most, where it is a certificate
abbrev pub IsVerdictWithin : ℕ → Verdict → Type 0
IsVerdictWithin limit (Yes bytes asked) = length bytes.items ≤ limit
IsVerdictWithin limit (No ob answers why) = Unit {0}
IsVerdictWithin limit Spent = Unit {0}
