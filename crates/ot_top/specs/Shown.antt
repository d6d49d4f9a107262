-- What the statuses show of a function whose file is told.
use Rattle.std.specs.Prelude.{◌≡◌, ◌≢◌, ◌⊎◌, ℕ, ◌≤◌, if◌then◌else◌, nat_lt, is_some, is_ok, List, [], ◌∷◌, length}
use Rattle.std.specs.Prelude.{Option, Some, None, Result}
use Rattle.std.specs.Option.{ForSome}
use Rattle.ot_model.specs.declared.cell.Cell.{Cell}
use Rattle.ot_model.specs.declared.op.Op.{Op}
use Rattle.fn_rules.specs.declared.function.Level.{Level}
use Rattle.fn_rules.specs.declared.function.Level.TheVariants.{Tp1, Tp2}
use Rattle.fn_rules.specs.Functions.{Function}
use Rattle.fn_rules.specs.Obligations.{obligations_of}
use Rattle.fn_rules.specs.Orders.{HasOneOutcome}
use Rattle.fn_rules.specs.Properties.{HasTp1, HasTp2}
use Rattle.fn_grammar.specs.Grammar.{IsTextOf}
use Rattle.ot_questions.specs.declared.why.Why.{Why}
use Rattle.ot_questions.specs.Instances.{form_behind}
use Rattle.ot_questions.specs.Obligation.{plan_of}
use Rattle.refusals.specs.declared.refusal.JudgeError.{JudgeError}
use Rattle.ot_sections.specs.Certificates.{IsCertificate}
use Rattle.ot_judge.specs.Refusals.{IsJudgement}
use Rattle.ot_decide.specs.Verdicts.{ObQuestions, AreAsked, count_in, failing_in}
use Rattle.ot_counter.specs.declared.counter.Counter.{Counter}
use Rattle.ot_counter.specs.declared.counter.WayResult.{WayResult}
use Rattle.ot_counter.specs.Counters.{Breaks, BreaksBy}
use Rattle.ot_counter.specs.Ways.{document_way, operation_result}
use Rattle.ot_replies.specs.declared.reply.FileKind.TheVariants as files
use Rattle.ot_replies.specs.declared.reply.Drilled.{Drilled}
use Rattle.ot_replies.specs.declared.reply.Reply.TheVariants.{Spent}
use Rattle.ot_words.specs.Commands.{Asked, Check, Drill, Prove}
use Rattle.ot_commands.specs.Drill.{IsDrilled}
use Rattle.ot_commands.specs.Facts.{FunctionAnd, FunctionText, NoFile, OneFunction, Opens, TwoFunctions}
use Rattle.ot_commands.specs.Replies.{facts_of}
use Rattle.ot_replies.specs.DrillTexts.{drill_text}
use Rattle.ot_replies.specs.CounterTexts.{counter_text}
use Rattle.ot_replies.specs.Limits.{limit_of}
use Rattle.ot_replies.specs.LevelTexts.{accepted_text}
use Rattle.ot_replies.specs.Texts.{text_of}
use Rattle.ot_words.specs.Words.{asked_by}
use Rattle.ot_top.specs.Evidence.{Evidence, IsAcceptedAt, IsEvidence, asks_for, file_of}

-- what a certificate at a level shows of its function
abbrev pub HasLevel : Function → Level → Type 0
HasLevel f Tp1 = HasTp1 f
HasLevel f Tp2 = HasTp1 f × HasTp2 f × HasOneOutcome f

-- the words ask to judge a certificate; where the function's file is told, it is the text of a function by the grammar,
-- there is a certificate of it at a level, which is the second file where that is told, the function has what the level
-- says, and the text of the level was written
abbrev pub IsShown : List (List ℕ) → (List ℕ → Option (List ℕ)) → (List ℕ → Type 0) → Type 0
IsShown words holds IsWritten =
    (name certificate_name bytes : List ℕ)
    → asked_by words ≡ Some (Check name certificate_name) → holds name ≡ Some bytes
    → (f : Function) × (level : Level) × (certificate : List ℕ)
    × IsTextOf bytes f × IsCertificate certificate f level
    × ForSome (holds certificate_name) (λ told. certificate ≡ told)
    × HasLevel f level × IsWritten (accepted_text level)

-- the words ask for evidence of a function; where its file is told, it is the text of a function by the grammar, what
-- was written is such evidence of it at the level that keeps the limit of its file, the function has what the level
-- says, and the command that judges such evidence accepts it
abbrev pub IsProved : Evidence → List (List ℕ) → (List ℕ → Option (List ℕ)) → (List ℕ → Type 0) → Type 0
IsProved e words holds IsWritten =
    (level : Level) (budget : ℕ) (name bytes : List ℕ)
    → asked_by words ≡ Some (asks_for e level budget name) → holds name ≡ Some bytes
    → (f : Function) × (evidence : List ℕ)
    × IsTextOf bytes f × IsEvidence e evidence f level × (length evidence ≤ limit_of (file_of e))
    × HasLevel f level × IsAcceptedAt e bytes evidence level × IsWritten evidence

-- the property is asked at the level: TP1 at both, TP2 at level tp2 alone
abbrev pub IsAskedAt : Level → Level → Type 0
IsAskedAt Tp2 Tp1 = ⊥
IsAskedAt property level = Unit {0}

-- the two sides are what the interpreter gives on the two ways: of two operations on a document the document behind
-- both, and of three the form of the third behind the others
abbrev pub AreBothWays : Function → Level → List Cell → List Op → WayResult → WayResult → Type 0
AreBothWays f Tp1 d ops left right =
    (a b : Op) × (ops ≡ a ∷ b ∷ []) × (left ≡ document_way f d a b) × (right ≡ document_way f d b a)
AreBothWays f Tp2 d ops left right =
    (a b c : Op) × (ops ≡ a ∷ b ∷ c ∷ [])
    × (left ≡ operation_result (form_behind f a b c)) × (right ≡ operation_result (form_behind f b a c))

-- what holds of a function that breaks a property: TP2 is looked at where TP1 holds
abbrev pub HasBefore : Function → Level → Type 0
HasBefore f Tp1 = Unit {0}
HasBefore f Tp2 = HasTp1 f

-- the words ask for evidence of a function; where its file is told, it is the text of a function by the grammar, and a
-- counterexample was written: the function breaks the property there, which is asked at the level, by the cause that is
-- written, and the sides that are written are what the interpreter gives; where that property is TP2, the function has
-- TP1
abbrev pub IsShownBroken : Evidence → List (List ℕ) → (List ℕ → Option (List ℕ)) → (List ℕ → Type 0) → Type 0
IsShownBroken e words holds IsWritten =
    (level : Level) (budget : ℕ) (name bytes : List ℕ)
    → asked_by words ≡ Some (asks_for e level budget name) → holds name ≡ Some bytes
    → (f : Function) × (counter : Counter)
    × IsTextOf bytes f × IsAskedAt counter.level level × HasBefore f counter.level
    × Breaks f counter.level counter.doc counter.ops × BreaksBy f counter.level counter.doc counter.ops counter.why
    × AreBothWays f counter.level counter.doc counter.ops counter.left counter.right × IsWritten (counter_text counter)

-- the status that the questions of a function give: there are more than the budget allows, or one of the obligations
-- fails, or none does
abbrev pub status_by : ℕ → List (ObQuestions Why) → ℕ
status_by budget lists = if nat_lt budget (count_in lists) then 8 else (if is_some (failing_in lists) then 1 else 0)

-- the words ask to prove a function; where its file is told, is within its limit and is the text of a function by the
-- grammar, the status is the one that the questions of the function give
abbrev pub IsComplete : List (List ℕ) → (List ℕ → Option (List ℕ)) → ℕ → Type 0
IsComplete words holds status =
    (level : Level) (budget : ℕ) (name bytes : List ℕ) (f : Function) (lists : List (ObQuestions Why))
    → asked_by words ≡ Some (Prove level budget name) → holds name ≡ Some bytes
    → length bytes ≤ limit_of files.Function → IsTextOf bytes f
    → AreAsked (plan_of f) (obligations_of f.head level) lists → status ≡ status_by budget lists

-- the words ask to judge a certificate; where both files are told and within their limits, and the first one is the
-- text of a function by the grammar, the second one has a judgement, whose status it is
abbrev pub IsJudgedAs : List (List ℕ) → (List ℕ → Option (List ℕ)) → ℕ → Type 0
IsJudgedAs words holds status =
    (name certificate_name bytes certificate : List ℕ) (f : Function)
    → asked_by words ≡ Some (Check name certificate_name) → holds name ≡ Some bytes
    → holds certificate_name ≡ Some certificate
    → length bytes ≤ limit_of files.Function → IsTextOf bytes f
    → length certificate ≤ limit_of files.Certificate
    → (judgement : Result Level JudgeError) × IsJudgement f certificate judgement
    × (status ≡ (if is_ok judgement then 0 else 2))

-- of the files that are opened, the names of the functions' files, in their order
abbrev pub names_of_functions : Opens → List (List ℕ)
names_of_functions (NoFile Gets) = []
names_of_functions (OneFunction function Gets) = function ∷ []
names_of_functions (FunctionText function Gets) = function ∷ []
names_of_functions (FunctionAnd function other Gets) = function ∷ []
names_of_functions (TwoFunctions function other Gets) = function ∷ other ∷ []

-- the names of the functions' files of a command, in the order in which they are opened
abbrev pub function_names : Asked → List (List ℕ)
function_names asked = names_of_functions (facts_of asked).opens

-- of the functions' files that are still to be read, where each that is reached is told and within its limit: one that
-- is the text of no function by the grammar ends the command with 3, a text of a function goes on to the next one, and
-- behind the last the status is another one
abbrev pub IsUnreadFrom : (List ℕ → Option (List ℕ)) → ℕ → List (List ℕ) → Type 0
IsUnreadFrom holds status [] = status ≢ 3
IsUnreadFrom holds status (name ∷ names) =
    (bytes : List ℕ) → holds name ≡ Some bytes → length bytes ≤ limit_of files.Function
    → (((f : Function) → ¬ IsTextOf bytes f) → status ≡ 3)
    × ((f : Function) → IsTextOf bytes f → IsUnreadFrom holds status names)

-- where the functions' files that the words name are told and within their limits, the status is 3 exactly where one of
-- them is reached that is the text of no function by the grammar
abbrev pub IsUnread : List (List ℕ) → (List ℕ → Option (List ℕ)) → ℕ → Type 0
IsUnread words holds status = (asked : Asked) → asked_by words ≡ Some asked
    → IsUnreadFrom holds status (function_names asked)

-- the words ask for the workload of a number: its function has more questions than are allowed, or what came of it was
-- written, and then no two sites differ
abbrev pub IsGoneThrough : List (List ℕ) → ℕ → (List ℕ → Type 0) → Type 0
IsGoneThrough words status IsWritten =
    (number : ℕ) → asked_by words ≡ Some (Drill number)
    → ((status ≡ 8) × IsWritten (text_of Spent))
    ⊎ ((status ≡ 0) × ((d : Drilled) × IsDrilled number d × (d.differ ≡ None) × IsWritten (drill_text d)))
