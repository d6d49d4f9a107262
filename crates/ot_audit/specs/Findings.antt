-- What the search of a goal comes to, by the one question list of the goal's plan.
use Rattle.std.specs.Prelude.{◌≡◌, ℕ, ℤ, pos, ◌<◌, ◌≤◌, List, [], length, None, MatchOption}
use Rattle.diff_graph.specs.declared.lit.Lit.{Lit}
use Rattle.diff_tables.specs.Solutions.{AreLeast, valuation_of}
use Rattle.ot_model.specs.declared.op.Kind.{Kind}
use Rattle.ot_model.specs.declared.op.Op.{Op}
use Rattle.fn_rules.specs.declared.function.ObName.TheVariants as obligations
use Rattle.fn_rules.specs.Conditions.{IsWithin}
use Rattle.fn_rules.specs.Functions.{Function}
use Rattle.ask_core.specs.Questions.{Questions, QuestionList}
use Rattle.ot_questions.specs.declared.name.Who.TheVariants.{A, B}
use Rattle.ot_questions.specs.declared.why.Why.{Why}
use Rattle.ot_questions.specs.Meaning.{op_at}
use Rattle.ot_questions.specs.Names.{length_name}
use Rattle.ot_questions.specs.Places.{sym_op}
use Rattle.ot_terms.specs.Goals.{GoalTree}
use Rattle.ot_terms.specs.Standing.{ask_goal}
use Rattle.ot_values.specs.Values.{floors_of, farthest}
use Rattle.ot_audit.specs.declared.found.Found.{Found}
use Rattle.ot_audit.specs.declared.found.Found.TheVariants.{Never, Pair, Spent}
use Rattle.ot_audit.specs.declared.found.Sought.{Sought}
use Rattle.ot_audit.specs.declared.found.Sought.TheVariants as sought

-- the two operations are those that the least values above the floors name which meet the answers
pub record AreLeastOps (k l : Kind) (w : List Lit) (a b : Op) : Type 0 where
  pub values : List ℤ
  pub least : AreLeast w (floors_of (obligations.Pair k l)) values
  pub first : a ≡ op_at (valuation_of values) (sym_op k A)
  pub second : b ≡ op_at (valuation_of values) (sym_op l B)

-- and the length is the one that these values name
pub record IsLeastInstance (k l : Kind) (w : List Lit) (cells : ℕ) (a b : Op) : Type 0 where
  pub ops : AreLeastOps k l w a b
  pub length : pos cells ≡ valuation_of ops.values length_name

-- an instance was found, and is the one that the least values name
abbrev pub IsAtLeast : Kind → Kind → List Lit → Sought → Type 0
IsAtLeast k l w sought.Nowhere = ⊥
IsAtLeast k l w (sought.At cells a b) = IsLeastInstance k l w cells a b
IsAtLeast k l w sought.Spent = ⊥

-- by a list of questions: it is longer than the budget, or has a failing end, whose answers give the length and the
-- operations, or else has none
abbrev pub TellsEnd : Kind → Kind → ℕ → Questions Why → Sought → Type 0
TellsEnd k l budget q sought.Nowhere = (length q.asked ≤ budget) × (q.failing ≡ None)
TellsEnd k l budget q (sought.At cells a b) =
    (length q.asked ≤ budget) × MatchOption q.failing ⊥ (λ e. IsLeastInstance k l e.answers cells a b)
TellsEnd k l budget q sought.Spent = budget < length q.asked

-- it is so of the question list of the goal's plan
pub record IsSoughtIn (f : Function) (k l : Kind) (g : GoalTree) (budget : ℕ) (answer : Sought) : Type 0 where
  pub questions : Questions Why
  pub listed : QuestionList (ask_goal f g) [] questions
  pub told : TellsEnd k l budget questions answer

-- the positions of what is sought can be calculated with
abbrev pub IsNearSought : Sought → Type 0
IsNearSought sought.Nowhere = Unit {0}
IsNearSought (sought.At cells a b) = IsWithin farthest a × IsWithin farthest b
IsNearSought sought.Spent = Unit {0}

-- by a list of questions: it is longer than the budget, or has a failing end, whose answers give the operations, or
-- else there are none
abbrev pub TellsList : Kind → Kind → ℕ → Questions Why → Found → Type 0
TellsList k l budget q Never = (length q.asked ≤ budget) × (q.failing ≡ None)
TellsList k l budget q (Pair a b) = (length q.asked ≤ budget)
    × MatchOption q.failing ⊥ (λ e. AreLeastOps k l e.answers a b)
TellsList k l budget q Spent = budget < length q.asked

-- it is so of the question list of the goal's plan
pub record IsFoundIn (f : Function) (k l : Kind) (g : GoalTree) (budget : ℕ) (found : Found) : Type 0 where
  pub questions : Questions Why
  pub listed : QuestionList (ask_goal f g) [] questions
  pub told : TellsList k l budget questions found

-- the positions of what is found can be calculated with
abbrev pub IsNearFound : Found → Type 0
IsNearFound Never = Unit {0}
IsNearFound (Pair a b) = IsWithin farthest a × IsWithin farthest b
IsNearFound Spent = Unit {0}
