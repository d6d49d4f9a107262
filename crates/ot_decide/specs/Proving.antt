-- The search of obligations one after another, over any family of plans: what stands behind all of them.
use Rattle.std.specs.Prelude.{◌≡◌, ℕ, ◌+◌, ◌*◌, ◌<◌, ◌≤◌, List, ◌++◌, length, None}
use Rattle.fn_rules.specs.declared.function.Head.{Head}
use Rattle.fn_rules.specs.declared.function.ObName.{ObName}
use Rattle.ask_core.specs.Plans.{Plan}
use Rattle.ask_core.specs.Trees.{AnswerTree}
use Rattle.cert_text.specs.Certificates.{sections_text}
use Rattle.ot_questions.specs.declared.why.Why.{Why}
use Rattle.ot_sections.specs.Certificates.{AreAnswers}
use Rattle.ot_decide.specs.declared.verdict.SearchVerdict.{SearchVerdict}
use Rattle.ot_decide.specs.declared.verdict.SearchVerdict.TheVariants.{AllHold, Fails, Spent}
use Rattle.ot_decide.specs.Verdicts.{ObQuestions, AreAsked, count_in, failing_in, AskTheQuestions, IsRefutation}

-- all obligations hold, so many questions are left of the budget, and their trees, with exactly these questions, were
-- written behind the bytes before: at most 74 bytes a question and 89 an obligation
pub record AreProved (plan : ObName → Plan Why) (obs : List ObName) (budget : ℕ) (lists : List (ObQuestions Why))
    (left : ℕ) (before after : List ℕ) : Type 0 where
  pub counted : left + count_in lists ≡ budget
  pub within : count_in lists ≤ budget
  pub none_fails : failing_in lists ≡ None
  pub trees : List AnswerTree
  pub fit : AreAnswers plan obs trees
  pub ask : AskTheQuestions plan trees lists
  pub written : after ≡ before ++ sections_text obs trees
  pub few_bytes : length (sections_text obs trees) ≤ 74 * count_in lists + 89 * length obs

-- what the search of obligations comes to, by these question lists of theirs: all hold, or the first that fails, or
-- there are more questions than the budget allows
abbrev pub Settles :
    Head → (ObName → Plan Why) → List ObName → ℕ → List (ObQuestions Why) → List ℕ → List ℕ → SearchVerdict → Type 0
Settles head plan obs budget lists before after (AllHold left) = AreProved plan obs budget lists left before after
Settles head plan obs budget lists before after (Fails ob answers why) =
    (count_in lists ≤ budget) × IsRefutation head plan lists ob answers.items why
Settles head plan obs budget lists before after Spent = budget < count_in lists

-- the same by the question lists of the obligations
abbrev pub AreSettled : Head → (ObName → Plan Why) → List ObName → ℕ → List ℕ → List ℕ → SearchVerdict → Type 0
AreSettled head plan obs budget before after search =
    (lists : List (ObQuestions Why)) × AreAsked plan obs lists × Settles head plan obs budget lists before after search
