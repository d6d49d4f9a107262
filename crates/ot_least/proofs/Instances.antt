-- The instance that a failing end names, and how many cells its document has.
use Rattle.std.proofs.Common.{◌≡◌, ℕ, ℤ, pos, List, length, IsTrue, ap, ◌∙◌}
use Rattle.std.specs.Prelude.{unsigned_abs}
use Rattle.diff_graph.specs.declared.lit.Lit.{Lit}
use Rattle.diff_tables.specs.Solutions.{AreLeast, valuation_of}
use Rattle.fn_rules.specs.declared.function.ObName.{ObName}
use Rattle.fn_rules.specs.Functions.{Function}
use Rattle.fn_rules.specs.Obligations.{level_of, is_obligation}
use Rattle.fn_rules.specs.Validity.{is_valid}
use Rattle.ask_core.specs.Leading.{LeadTo}
use Rattle.ot_questions.specs.declared.why.Why.{Why}
use Rattle.ot_questions.specs.Names.{index_name, length_name}
use Rattle.ot_questions.specs.Obligation.{plan_of}
use Rattle.ot_values.specs.Values.{floors_of, ops_at}
use Rattle.ot_counter.specs.Counters.{Breaks}
use Rattle.ot_counter.specs.Documents.{document_at, shown_cell}
use Rattle.ot_counter.proofs.Shown.{length-placed}
use Rattle.ot_least.specs.Shortest.{HasCells, IsBrokenAt}

-- the document has as many cells as the values give to the length
pub document_count :
    (v : ℕ → ℤ) (why : Why) (cells : ℕ) → v length_name ≡ pos cells → length (document_at v why) ≡ cells
document_count v why cells is =
    length-placed (unsigned_abs (v length_name)) (shown_cell (v index_name) why) ∙ ap (λ (z : ℤ). unsigned_abs z) is

-- the least values that meet the answers name a document and operations at which the property is broken
pub instance_there :
    ((f : Function) (ob : ObName) (w : List Lit) (why : Why) (values : List ℤ) → IsTrue (is_valid f)
    → IsTrue (is_obligation f.head ob)
    → LeadTo why (plan_of f ob) w → AreLeast w (floors_of ob) values
    → Breaks f (level_of ob) (document_at (valuation_of values) why) (ops_at (valuation_of values) ob))
    → (f : Function) (ob : ObName) (why : Why) (w : List Lit) (cells : ℕ) → IsTrue (is_valid f)
    → IsTrue (is_obligation f.head ob)
    → LeadTo why (plan_of f ob) w → HasCells ob w cells → IsBrokenAt f (level_of ob) cells
instance_there broken f ob why w cells valid listed lead (values, least, count) = record {
  doc = document_at (valuation_of values) why;
  ops = ops_at (valuation_of values) ob;
  count = document_count (valuation_of values) why cells count;
  breaks = broken f ob w why values valid listed lead least;
}
