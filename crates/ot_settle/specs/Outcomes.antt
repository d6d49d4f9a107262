-- What a function comes to at a level, by a search for a proof with lemmas.
use Rattle.std.specs.Prelude.{◌≡◌, ◌⊎◌, ℕ, ◌<◌, ◌≤◌, Bool, false, IsTrue, List, length, Ok}
use Rattle.std.specs.List.{Contains}
use Rattle.fn_rules.specs.declared.function.Level.{Level}
use Rattle.fn_rules.specs.declared.function.ObName.{ObName}
use Rattle.fn_rules.specs.declared.function.ObName.TheVariants.{Pair, Triple}
use Rattle.fn_rules.specs.Functions.{Function}
use Rattle.fn_rules.specs.Obligations.{is_obligation, obligations_of}
use Rattle.fn_rules.specs.Properties.{HasTp1}
use Rattle.ot_prove.specs.declared.outcome.Answer.{Answer}
use Rattle.ot_questions.specs.declared.why.Why.{Why}
use Rattle.ot_questions.specs.Obligation.{plan_of}
use Rattle.ot_confirm.specs.Judgement.{judgement_of}
use Rattle.ot_settle.specs.Endings.{AnswersLeadTo}
use Rattle.plan_proofs.specs.declared.planning.TheConstants.{MAX_BYTES}
use Rattle.plan_proofs.specs.declared.ended.Questions.{Questions}
use Rattle.plan_proofs.specs.declared.ended.SpentCause.{SpentCause}
use Rattle.plan_proofs.specs.declared.ended.SpentCause.TheVariants.{Budget, Bytes, NoWay}
use Rattle.ot_settle.specs.declared.settled.Settled.{Settled}
use Rattle.ot_settle.specs.declared.settled.Settled.TheVariants.{Yes, No, Spent}

-- the bytes are judged to be a proof of the function at the level, and keep the limit of a file
pub record IsShownByProof (f : Function) (level : Level) (bytes : List ℕ) : Type 0 where
  pub judged : judgement_of f bytes ≡ Ok level
  pub short : length bytes ≤ MAX_BYTES

-- the obligation is one of these of the function, and the answers lead through its plan to an end that fails with the
-- cause, and some integers meet them
pub record IsFailing (f : Function) (obs : List ObName) (ob : ObName) (answers : List Answer) (why : Why) : Type 0 where
  pub asked : Contains obs ob
  pub listed : IsTrue (is_obligation f.head ob)
  pub leads : AnswersLeadTo (plan_of f ob) answers why

-- what holds of a function before an obligation is told to fail: triples are looked at where TP1 holds
abbrev pub HoldsBefore : Function → ObName → Type 0
HoldsBefore f (Pair k l) = Unit {0}
HoldsBefore f (Triple k l m) = HasTp1 f

-- what is said of the function: a proof shows it, or an obligation of the level fails, or nothing
abbrev pub IsSettled : Function → Level → Settled → Type 0
IsSettled f level (Yes bytes) = IsShownByProof f level bytes.items
IsSettled f level (No ob answers why) =
    IsFailing f (obligations_of f.head level) ob answers.items why × HoldsBefore f ob
IsSettled f level (Spent cause) = Unit {0}

-- what is so where nothing is said, by the cause; no two of them are so at once. The budget: a question was met that is
-- more than may be asked, where all that searches, or the walks that write, may ask was asked. The bytes: no such
-- question was met, and more was written than a proof may have. No way on: none was met, and there was room for a proof
abbrev pub IsCause : ℕ → Questions → Bool → ℕ → SpentCause → Type 0
IsCause budget asked over written Budget = IsTrue over × ((asked.asked ≡ budget) ⊎ (asked.again ≡ budget))
IsCause budget asked over written Bytes = (over ≡ false) × (MAX_BYTES < written)
IsCause budget asked over written NoWay = (over ≡ false) × (written ≤ MAX_BYTES)

-- nothing is said only for a cause that is so
abbrev pub HasCause : ℕ → Questions → Bool → ℕ → Settled → Type 0
HasCause budget asked over written (Yes bytes) = Unit {0}
HasCause budget asked over written (No ob answers why) = Unit {0}
HasCause budget asked over written (Spent cause) = IsCause budget asked over written cause
