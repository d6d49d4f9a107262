-- Counterexamples.
use Rattle.std.specs.Prelude.{◌≡◌, ℕ, ℤ, List, [], ◌∷◌}
use Rattle.ot_model.specs.declared.cell.Cell.{Cell}
use Rattle.ot_model.specs.declared.op.Op.{Op}
use Rattle.diff_graph.specs.declared.lit.Lit.{Lit}
use Rattle.diff_tables.specs.Solutions.{AreLeast, valuation_of}
use Rattle.fn_rules.specs.declared.function.Level.{Level}
use Rattle.fn_rules.specs.declared.function.Level.TheVariants.{Tp1, Tp2}
use Rattle.fn_rules.specs.declared.function.ObName.{ObName}
use Rattle.fn_rules.specs.Functions.{Function}
use Rattle.fn_rules.specs.Obligations.{level_of}
use Rattle.fn_rules.specs.Properties.{AreConcurrent, ConvergesAt, CommutesAt}
use Rattle.ot_questions.specs.declared.why.Why.{Why}
use Rattle.ot_questions.specs.Instances.{PairFails, TripleFails}
use Rattle.ot_counter.specs.declared.counter.Counter.{Counter}
use Rattle.ot_values.specs.Values.{floors_of, ops_at}
use Rattle.ot_counter.specs.Documents.{document_at}
use Rattle.ot_counter.specs.Ways.{left_at, right_at}

-- all that it says is read off the values: the operations that they name, the document that shows the
-- cause, and what the interpreter gives there
pub record IsReadOff (f : Function) (ob : ObName) (v : ℕ → ℤ) (why : Why) (counter : Counter) : Type 0 where
  pub level : counter.level ≡ level_of ob
  pub doc : counter.doc ≡ document_at v why
  pub ops : counter.ops ≡ ops_at v ob
  pub cause : counter.why ≡ why
  pub left : counter.left ≡ left_at f v (document_at v why) ob
  pub right : counter.right ≡ right_at f v (document_at v why) ob

-- the counterexample that the answers give: that of the least values above the floors that meet them
pub record IsCounter (f : Function) (ob : ObName) (w : List Lit) (why : Why) (counter : Counter) : Type 0 where
  pub values : List ℤ
  pub least : AreLeast w (floors_of ob) values
  pub read : IsReadOff f ob (valuation_of values) why counter

-- the property fails at the operations on the document: these are concurrent, and do not converge or commute
abbrev pub Breaks : Function → Level → List Cell → List Op → Type 0
Breaks f Tp1 d ops = (a b : Op) × (ops ≡ a ∷ b ∷ []) × AreConcurrent f d ops × ¬ ConvergesAt f d a b
Breaks f Tp2 d ops = (a b c : Op) × (ops ≡ a ∷ b ∷ c ∷ []) × AreConcurrent f d ops × ¬ CommutesAt f a b c

-- it fails there by the cause; that cells differ is seen at an index
abbrev pub BreaksBy : Function → Level → List Cell → List Op → Why → Type 0
BreaksBy f Tp1 d ops why = (a b : Op) × (i : ℤ) × (ops ≡ a ∷ b ∷ []) × PairFails f d a b i why
BreaksBy f Tp2 d ops why = (a b c : Op) × (ops ≡ a ∷ b ∷ c ∷ []) × TripleFails f a b c why
