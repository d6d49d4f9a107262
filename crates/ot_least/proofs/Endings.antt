-- Failing ends, and the ones of fewer cells behind the first question.
use Rattle.std.proofs.Common.{◌≡◌, ℕ, ◌<◌, ℤ, pos, ◌-ℤ◌, ◌≤ℤ◌, Bool, true, false, List, [], ◌∷◌, length, drop, Some}
use Rattle.std.proofs.Common.{arith}
use Rattle.std.proofs.lemmas.Int.{ints}
use Rattle.diff_graph.specs.declared.lit.Lit.{Lit}
use Rattle.diff_graph.specs.Literals.{IsPossible, answered_of}
use Rattle.diff_tables.specs.Solutions.{AreLeast, valuation_of}
use Rattle.fn_rules.specs.declared.function.ObName.{ObName}
use Rattle.fn_rules.specs.declared.function.ObName.TheVariants.{Pair, Triple}
use Rattle.fn_rules.specs.Functions.{Function}
use Rattle.ask_core.specs.Leading.{LeadTo}
use Rattle.ask_core.specs.Plans.{Plan, Ask, Holds, Fails, after_answer}
use Rattle.ot_prove.specs.declared.outcome.Answer.{Answer}
use Rattle.ot_prove.specs.Outcomes.{AreAnswersTo, answered_by}
use Rattle.ot_prove.proofs.Leads.{literals_lead}
use Rattle.ot_questions.specs.declared.why.Why.{Why}
use Rattle.ot_questions.specs.Names.{length_name, zero_name}
use Rattle.ot_questions.specs.Obligation.{plan_below, plan_of}
use Rattle.ot_values.specs.Values.{floors_of}
use Rattle.ot_least.specs.Shortest.{HasCells}

-- least values have a length, which is not negative
pub least_length :
    (ob : ObName) (w : List Lit) (values : List ℤ) → AreLeast w (floors_of ob) values
    → (1 < length values) × (pos 0 ≤ℤ valuation_of values 1)
least_length (Pair k l) w values least = (omega (arith, least.len), least.above 1 (omega arith))
least_length (Triple k l m) w values least = (omega (arith, least.len), least.above 1 (omega arith))

-- behind a premise the answers go on through the plan
behind_premise :
    (l : Lit) (p : Plan Why) (why : Why) (rest : List Answer) (yes : Bool)
    → AreAnswersTo (after_answer (Ask l p Holds) yes) rest (Fails why) → AreAnswersTo p rest (Fails why)
behind_premise l p why rest true way = way
behind_premise l p why [] false way = cc
behind_premise l p why (a ∷ rest) false way = absurd way.0

below : (cells bound : ℕ) (least : ℤ) → least ≤ℤ (pos bound -ℤ pos 1) → least ≡ pos cells → cells < bound
below cells bound least few is = omega (arith, ints)

module _ (f : Function) (ob : ObName) (why : Why) (bound : ℕ) where
  pub way_behind :
      (answers : List Answer) → AreAnswersTo (plan_below f (Some bound) ob) answers (Fails why)
      → AreAnswersTo (plan_of f ob) (drop 1 answers) (Fails why)
  way_behind [] way = cc
  way_behind (a ∷ rest) way =
      behind_premise (record { x = length_name; y = zero_name; k = pos bound -ℤ pos 1 })
      (plan_of f ob) why rest a.yes way.1

  -- what the least values give behind the first question
  abbrev pub AreShorter : Type 0
  AreShorter =
      (l : Lit) (rest : List Lit) (values : List ℤ)
      → LeadTo why (plan_below f (Some bound) ob) (l ∷ rest) → IsPossible (l ∷ rest)
      → AreLeast rest (floors_of ob) values → valuation_of values length_name ≤ℤ (pos bound -ℤ pos 1)

  pub fewer_behind :
      AreShorter → (answers : List Answer) → AreAnswersTo (plan_below f (Some bound) ob) answers (Fails why)
      → IsPossible (answered_by answers) → (cells : ℕ)
      → HasCells ob (answered_by (drop 1 answers)) cells → cells < bound
  fewer_behind shorter [] way possible cells has = cc
  fewer_behind shorter (a ∷ rest) way possible cells (values, least, is) =
      below cells bound (valuation_of values length_name)
      (shorter (answered_of a.lit a.yes) (answered_by rest) values
      (literals_lead why (plan_below f (Some bound) ob) (a ∷ rest) way) possible least) is
