-- The counterexample of answers that lead to a failing end breaks its property, and shows what the interpreter gives.
use Rattle.std.proofs.Common.{◌≡◌, ℕ, ℤ, List, IsTrue, refl}
use Rattle.diff_graph.specs.declared.lit.Lit.{Lit}
use Rattle.diff_tables.specs.Solutions.{AreLeast, valuation_of}
use Rattle.ot_model.specs.declared.cell.Cell.{Cell}
use Rattle.fn_rules.specs.declared.function.Level.{Level}
use Rattle.fn_rules.specs.declared.function.ObName.{ObName}
use Rattle.fn_rules.specs.declared.function.ObName.TheVariants.{Pair, Triple}
use Rattle.fn_rules.specs.Functions.{Function}
use Rattle.fn_rules.specs.Obligations.{level_of, is_obligation}
use Rattle.fn_rules.specs.Validity.{is_valid}
use Rattle.ask_core.specs.Leading.{LeadTo}
use Rattle.ot_questions.specs.declared.name.Who.TheVariants.{A, B, C}
use Rattle.ot_questions.specs.declared.why.Why.{Why}
use Rattle.ot_questions.specs.Meaning.{op_at}
use Rattle.ot_questions.specs.Obligation.{plan_of}
use Rattle.ot_questions.specs.Places.{sym_op}
use Rattle.ot_values.specs.Values.{floors_of, ops_at}
use Rattle.ot_counter.specs.declared.counter.Counter.{Counter}
use Rattle.ot_counter.specs.Counters.{Breaks, BreaksBy, IsCounter}
use Rattle.ot_counter.specs.Documents.{document_at}
use Rattle.ot_counter.specs.Ways.{left_at, right_at}
use Rattle.ot_top.specs.Shown.{AreBothWays, HasBefore, IsAskedAt}

-- what is read off values is what the interpreter gives on both ways
both_ways : (f : Function) (v : ℕ → ℤ) (d : List Cell) (ob : ObName)
    → AreBothWays f (level_of ob) d (ops_at v ob) (left_at f v d ob) (right_at f v d ob)
both_ways f v d (Pair k l) = (op_at v (sym_op k A), op_at v (sym_op l B), refl, refl, refl)
both_ways f v d (Triple k l m) = (op_at v (sym_op k A), op_at v (sym_op l B), op_at v (sym_op m C), refl, refl, refl)

-- a counterexample breaks the property, and shows what the interpreter gives
abbrev pub IsBrokenBy : Function → Level → Counter → Type 0
IsBrokenBy f level counter =
    IsAskedAt counter.level level × HasBefore f counter.level × Breaks f counter.level counter.doc counter.ops
    × BreaksBy f counter.level counter.doc counter.ops counter.why
    × AreBothWays f counter.level counter.doc counter.ops counter.left counter.right

module _ (broken_there :
    (f : Function) (ob : ObName) (w : List Lit) (why : Why) (values : List ℤ) → IsTrue (is_valid f)
    → IsTrue (is_obligation f.head ob)
    → LeadTo why (plan_of f ob) w → AreLeast w (floors_of ob) values
    → Breaks f (level_of ob) (document_at (valuation_of values) why) (ops_at (valuation_of values) ob))
    (by_the_cause :
    (f : Function) (ob : ObName) (w : List Lit) (why : Why) (values : List ℤ) → IsTrue (is_valid f)
    → IsTrue (is_obligation f.head ob)
    → LeadTo why (plan_of f ob) w → AreLeast w (floors_of ob) values
    → BreaksBy f (level_of ob) (document_at (valuation_of values) why) (ops_at (valuation_of values) ob) why) where
  -- the counterexample of answers that lead to a failing end breaks the property of its obligation
  pub counter_breaks :
      (f : Function) (level : Level) (ob : ObName) (w : List Lit) (why : Why) (counter : Counter) → IsTrue (is_valid f)
      → IsTrue (is_obligation f.head ob) → LeadTo why (plan_of f ob) w → IsAskedAt (level_of ob) level
      → HasBefore f (level_of ob)
      → IsCounter f ob w why counter → IsBrokenBy f level counter
  counter_breaks f level ob w why counter valid declared leads asked before is =
      let v : ℕ → ℤ = valuation_of is.values in
      let property : counter.level ≡ level_of ob = is.read.level in
      let doc : counter.doc ≡ document_at v why = is.read.doc in
      let ops : counter.ops ≡ ops_at v ob = is.read.ops in
      let cause : counter.why ≡ why = is.read.cause in
      let left : counter.left ≡ left_at f v (document_at v why) ob = is.read.left in
      let right : counter.right ≡ right_at f v (document_at v why) ob = is.read.right in (
        rw property asked,
        rw property before,
        rw (property, doc, ops) (broken_there f ob w why is.values valid declared leads is.least),
        rw (property, doc, ops, cause) (by_the_cause f ob w why is.values valid declared leads is.least),
        rw (property, doc, ops, left, right) (both_ways f v (document_at v why) ob),
      )
