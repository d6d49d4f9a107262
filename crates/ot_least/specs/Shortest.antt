-- What the search of the shortest document comes to: the first failing end, and then turn by turn shorter ones.
use Rattle.std.specs.Prelude.{◌≡◌, ℕ, ℤ, pos, ◌<◌, ◌≤◌, IsTrue, List, [], ◌∷◌, ◌++◌, length, drop, Some, None, ◌⊎◌}
use Rattle.diff_graph.specs.declared.lit.Lit.{Lit}
use Rattle.diff_graph.specs.Literals.{IsPossible}
use Rattle.diff_tables.specs.Solutions.{AreLeast, valuation_of}
use Rattle.ot_model.specs.declared.cell.Cell.{Cell}
use Rattle.ot_model.specs.declared.op.Op.{Op}
use Rattle.fn_rules.specs.declared.function.Level.{Level}
use Rattle.fn_rules.specs.declared.function.Level.TheVariants.{Tp1, Tp2}
use Rattle.fn_rules.specs.declared.function.ObName.{ObName}
use Rattle.fn_rules.specs.Functions.{Function}
use Rattle.fn_rules.specs.Obligations.{level_of, is_obligation, obligations_of}
use Rattle.fn_rules.specs.Properties.{HasTp1, HasTp2}
use Rattle.ask_core.specs.Plans.{Fails}
use Rattle.ask_core.specs.Trees.{AnswerTree}
use Rattle.cert_text.specs.Certificates.{sections_text}
use Rattle.cert_text.specs.Spelling.{end_text}
use Rattle.ot_prove.specs.declared.outcome.Answer.{Answer}
use Rattle.ot_prove.specs.Outcomes.{AreAnswersTo, answered_by}
use Rattle.ot_questions.specs.declared.why.Why.{Why}
use Rattle.ot_questions.specs.Names.{length_name}
use Rattle.ot_questions.specs.Obligation.{plan_below, plan_of}
use Rattle.ot_sections.specs.declared.premise.TheConstants.{MAX_BOUND}
use Rattle.ot_sections.specs.Certificates.{AreAnswers}
use Rattle.ot_decide.specs.Verdicts.{AreAsked, AskTheQuestions, FailingOb, ObQuestions, count_in, failing_in}
use Rattle.ot_values.specs.Values.{floors_of}
use Rattle.ot_counter.specs.Counters.{Breaks}
use Rattle.ot_least.specs.declared.short.Short.{Short}
use Rattle.ot_least.specs.declared.short.Short.TheVariants.{Fine, Least, TooLong, Spent}
use Rattle.ot_bound.specs.Lows.{HasAt, IsLow, low_header_text, parts_of}

-- the property that the function breaks: the first, or else the second
abbrev pub IsBroken : Function → Level → Type 0
IsBroken f Tp1 = ¬ HasTp1 f
IsBroken f Tp2 = HasTp1 f × ¬ HasTp2 f

-- a document of so many cells, and operations on it at which the interpreter breaks the level's property
pub record IsBrokenAt (f : Function) (level : Level) (cells : ℕ) : Type 0 where
  pub doc : List Cell
  pub ops : List Op
  pub count : length doc ≡ cells
  pub breaks : Breaks f level doc ops

-- the least values that meet the answers give so many cells to the document
abbrev pub HasCells : ObName → List Lit → ℕ → Type 0
HasCells ob answers cells =
    (values : List ℤ) × AreLeast answers (floors_of ob) values × (valuation_of values length_name ≡ pos cells)

-- an obligation, and an end at which its plan fails, by the answers as they are given
abbrev pub end_by : ObName → List Answer → Why → FailingOb Why
end_by ob answers why = record { ob = ob; end = record { answers = answered_by answers; why = why } }

-- a failing end on the documents of fewer cells, without the answer to the first question
abbrev pub behind_first : FailingOb Why → FailingOb Why
behind_first e = record { ob = e.ob; end = record { answers = drop 1 e.end.answers; why = e.end.why } }

abbrev pub EndHasCells : FailingOb Why → ℕ → Type 0
EndHasCells e cells = HasCells e.ob e.end.answers cells

-- the bytes are a low certificate whose trees have exactly these questions
pub record IsLowProof (f : Function) (level : Level) (cells : ℕ) (lists : List (ObQuestions Why)) (bytes : List ℕ) :
    Type 0 where
  pub trees : List AnswerTree
  pub fit : AreAnswers (plan_below f (Some cells)) (parts_of f.head level) trees
  pub ask : AskTheQuestions (plan_below f (Some cells)) trees lists
  pub text : bytes ≡ low_header_text level cells ++ sections_text (parts_of f.head level) trees ++ end_text

-- the answer is the end, with so many cells, and a low certificate by these question lists
abbrev pub TellsLeast : Function → FailingOb Why → ℕ → List (ObQuestions Why) → Short → Type 0
TellsLeast f end cells lists (Least ob answers why least cert) =
    (end_by ob answers.items why ≡ end) × (least ≡ cells) × IsLowProof f (level_of end.ob) cells lists cert.items
TellsLeast f end cells lists Fine = ⊥
TellsLeast f end cells lists TooLong = ⊥
TellsLeast f end cells lists Spent = ⊥

-- what comes of question lists: they are too many, or none has a failing end, or there is a first one, whose document
-- has so many cells
abbrev pub Comes : ℕ → List (ObQuestions Why) → Type 0 → Type 0 → (FailingOb Why → ℕ → Type 0) → Type 0
Comes budget lists Spends Holds Ends =
    ((budget < count_in lists) × Spends)
    ⊎ (((count_in lists ≤ budget) × (failing_in lists ≡ None) × Holds)
    ⊎ ((count_in lists ≤ budget) × ((end : FailingOb Why) × (cells : ℕ) × (failing_in lists ≡ Some end)
    × Ends end cells)))

-- from a failing end with so many cells on, turn by turn: each turn has the question lists of the property's
-- obligations on the documents of fewer cells; the next turn goes on from their failing end, and the last turn gives
-- the answer
abbrev pub Falls : Function → ℕ → FailingOb Why → ℕ → List (List (ObQuestions Why)) → Short → Type 0
Falls f budget end cells [] short = ⊥
Falls f budget end cells (lists ∷ turns) short =
    AreAsked (plan_below f (Some cells)) (parts_of f.head (level_of end.ob)) lists
    × Comes budget lists (short ≡ Spent) (TellsLeast f end cells lists short)
    (λ next fewer. EndHasCells (behind_first next) fewer × Falls f budget (behind_first next) fewer turns short)

-- from the first failing end on: its document has too many cells, or there are such turns
abbrev pub BeginsTurns : Function → ℕ → FailingOb Why → ℕ → Short → Type 0
BeginsTurns f budget end cells short =
    ((MAX_BOUND < cells) × (short ≡ TooLong))
    ⊎ ((cells ≤ MAX_BOUND) × ((turns : List (List (ObQuestions Why))) × Falls f budget end cells turns short))

-- what the search comes to by at most so many questions of each turn: that of all obligations first, and then the turns
-- from its failing end on
abbrev pub IsShort : Function → ℕ → Short → Type 0
IsShort f budget short =
    (lists : List (ObQuestions Why)) × AreAsked (plan_of f) (obligations_of f.head Tp2) lists
    × Comes budget lists (short ≡ Spent) (short ≡ Fine)
    (λ end cells. EndHasCells end cells × BeginsTurns f budget end cells short)

-- the property that an obligation is a part of is broken at operations on a document of so many cells, and holds on all
-- of fewer, as the bytes certify; and the answers lead through the plan of the obligation, without the question whether
-- the document is short, to a failing end whose document has so many cells
pub record IsLeast (f : Function) (ob : ObName) (answers : List Answer) (why : Why) (cells : ℕ) (cert : List ℕ) : Type 0
  where
    pub broken : IsBroken f (level_of ob)
    pub breaks : IsBrokenAt f (level_of ob) cells
    pub holds_below : (n : ℕ) → n < cells → HasAt f (level_of ob) n
    pub low : IsLow cert f (level_of ob) cells
    pub listed : IsTrue (is_obligation f.head ob)
    pub way : AreAnswersTo (plan_of f ob) answers (Fails why)
    pub possible : IsPossible (answered_by answers)
    pub length : HasCells ob (answered_by answers) cells

-- what an answer says of the function
abbrev pub IsTrueOf : Function → Short → Type 0
IsTrueOf f Fine = HasTp1 f × HasTp2 f
IsTrueOf f (Least ob answers why cells cert) = IsLeast f ob answers.items why cells cert.items
IsTrueOf f TooLong = Unit {0}
IsTrueOf f Spent = Unit {0}

-- answers that are one but for their certificates
abbrev pub AreAlikeAnswers : Short → Short → Type 0
AreAlikeAnswers (Least ob answers why cells cert) (Least other others cause count bytes) =
    (end_by ob answers.items why ≡ end_by other others.items cause) × (cells ≡ count)
AreAlikeAnswers one other = one ≡ other

-- so many bytes at the most, where there is a certificate
abbrev pub IsShortWithin : ℕ → Short → Type 0
IsShortWithin limit (Least ob answers why cells cert) = length cert.items ≤ limit
IsShortWithin limit Fine = Unit {0}
IsShortWithin limit TooLong = Unit {0}
IsShortWithin limit Spent = Unit {0}
