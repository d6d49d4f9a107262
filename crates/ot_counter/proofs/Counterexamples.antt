-- The least values of answers that lead to an end that fails name operations that break the property on the
-- document that shows the cause.
use Rattle.std.proofs.Common.{◌≡◌, ◌≢◌, ◌↔◌, ℕ, ◌<◌, lit<, ℤ, pos, negsuc, ◌≤ℤ◌, Some, List, [], ◌∷◌, length, IsTrue}
use Rattle.std.proofs.Common.{refl, arith}
use Rattle.std.specs.Prelude.{unsigned_abs}
use Rattle.std.proofs.lemmas.Int.{ints}
use Rattle.diff_graph.specs.declared.lit.Lit.{Lit}
use Rattle.diff_graph.specs.Literals.{AreMet}
use Rattle.diff_tables.specs.Solutions.{valuation_of, AreLeast}
use Rattle.ot_model.specs.declared.cell.Cell.{Cell}
use Rattle.ot_model.specs.declared.op.Kind.{Kind}
use Rattle.ot_model.specs.declared.op.Op.{Op}
use Rattle.ot_model.specs.Operations.{char_of}
use Rattle.fn_rules.specs.declared.function.ObName.{ObName}
use Rattle.fn_rules.specs.declared.function.ObName.TheVariants.{Pair, Triple}
use Rattle.fn_rules.specs.Functions.{Function}
use Rattle.fn_rules.specs.Obligations.{level_of, is_obligation}
use Rattle.fn_rules.specs.Properties.{AreConcurrent, ConvergesAt, CommutesAt}
use Rattle.fn_rules.specs.Validity.{is_valid}
use Rattle.ask_core.specs.Plans.{Plan, end_of}
use Rattle.ask_core.specs.Leading.{LeadTo}
use Rattle.ot_questions.specs.declared.name.Who.{Who}
use Rattle.ot_questions.specs.declared.name.Who.TheVariants.{A, B, C}
use Rattle.ot_questions.specs.declared.why.Why.{Why}
use Rattle.ot_questions.specs.Names.{site_name, char_name}
use Rattle.ot_questions.specs.Places.{sym_op}
use Rattle.ot_questions.specs.Meaning.{op_at}
use Rattle.ot_questions.specs.Obligation.{plan_of}
use Rattle.ot_questions.specs.Instances.{StandsForOperation, NamesPair, NamesTriple, PairFails, TripleFails, ShowsCause}
use Rattle.ot_questions.specs.Sorts.{AreLike, AsksLike}
use Rattle.ot_values.specs.Values.{floors_of, ops_at, IsSmallAt}
use Rattle.ot_counter.specs.Documents.{document_at}
use Rattle.ot_counter.specs.Counters.{Breaks, BreaksBy}
use Rattle.ot_counter.proofs.Shown.{IsFresh, fresh_at, length-document_at, document_shows}

-- what is said of the ends of plans at valuations
abbrev pub PairFailsBy : Type 0
PairFailsBy = (f : Function) (k l : Kind) (v : ℕ → ℤ) (d : List Cell) (a b : Op) (why : Why)
    → NamesPair f k l v (length d) a b
    → end_of (plan_of f (Pair k l)) v ≡ Some why → ShowsCause d a b (v 2) why
    → AreConcurrent f d (a ∷ b ∷ []) × PairFails f d a b (v 2) why

abbrev pub TripleFailsBy : Type 0
TripleFailsBy = (f : Function) (k l m : Kind) (v : ℕ → ℤ) (d : List Cell) (a b c : Op) (why : Why)
    → NamesTriple f k l m v (length d) a b c
    → (end_of (plan_of f (Triple k l m)) v ≡ Some why) ↔ (AreConcurrent f d (a ∷ b ∷ c ∷ []) × TripleFails f a b c why)

-- a pair fails where it does not converge, and a triple where it does not commute
abbrev pub PairBreaks : Type 0
PairBreaks = (f : Function) (d : List Cell) (a b : Op) (i : ℤ) (why : Why) → PairFails f d a b i why
    → ConvergesAt f d a b → ⊥

abbrev pub TripleBreaks : Type 0
TripleBreaks = (f : Function) (a b c : Op) (why : Why) → TripleFails f a b c why → CommutesAt f a b c → ⊥

-- and of names that stand for an operation
abbrev pub NamesStand : Type 0
NamesStand = (v : ℕ → ℤ) (k : Kind) (who : Who) → v 0 ≡ pos 0 → pos 0 ≤ℤ v (site_name who) → pos 0 ≤ℤ v (char_name who)
    → StandsForOperation v (sym_op k who) (op_at v (sym_op k who))

-- the parts of each operation of the obligation are small
abbrev pub PartsAreSmall : ObName → List ℤ → Type 0
PartsAreSmall ob values = (who : Who) → char_name who < length (floors_of ob) → IsSmallAt values who

cells_counted : (x : ℤ) (n : ℕ) → pos 0 ≤ℤ x → n ≡ unsigned_abs x → x ≡ pos n
cells_counted (pos k) n h e = omega (arith, ints)
cells_counted (negsuc k) n h e = absurd (omega (arith, ints))

from_letter : (x : ℤ) → pos 97 ≤ℤ x → pos 0 ≤ℤ x
from_letter x h = omega (arith, ints)

near_char : (x : ℤ) → pos 97 ≤ℤ x → x ≤ℤ pos 101 → (unsigned_abs x ≢ 120) × (unsigned_abs x ≢ 121)
near_char (pos n) h g = (λ e. omega (arith, ints), λ e. omega (arith, ints))
near_char (negsuc n) h g = absurd (omega (arith, ints))

-- the operations of the least values, and the document that shows the cause
module _ (stand : NamesStand) (why : Why) (values : List ℤ) (zero : valuation_of values 0 ≡ pos 0)
    (cells : pos 0 ≤ℤ valuation_of values 1) where
  abbrev v : ℕ → ℤ
  v = valuation_of values

  abbrev document : List Cell
  document = document_at v why

  cells_there : v 1 ≡ pos (length document)
  cells_there = cells_counted (v 1) (length document) cells (length-document_at v why)

  stands_there : (k : Kind) (who : Who) → IsSmallAt values who
      → StandsForOperation v (sym_op k who) (op_at v (sym_op k who))
  stands_there k who small = stand v k who zero small.site (from_letter (v (char_name who)) small.ch_low)

  fresh_there : (k : Kind) (who : Who) → IsSmallAt values who → IsFresh (char_of (op_at v (sym_op k who)))
  fresh_there k who small =
      let other = near_char (v (char_name who)) small.ch_low small.ch_high in fresh_at v k who other.0 other.1

  -- the two operations are concurrent, and break the property for the cause that the end names
  pub pair_broken :
      PairFailsBy → (f : Function) (k l : Kind) → IsTrue (is_obligation f.head (Pair k l))
      → PartsAreSmall (Pair k l) values
      → end_of (plan_of f (Pair k l)) v ≡ Some why
      → AreConcurrent f document (op_at v (sym_op k A) ∷ op_at v (sym_op l B) ∷ [])
      × PairFails f document (op_at v (sym_op k A)) (op_at v (sym_op l B)) (v 2) why
  pair_broken fails f k l declared small end =
      let first = small A (lit< tt) in
      let second = small B (lit< tt) in
      fails f k l v document (op_at v (sym_op k A)) (op_at v (sym_op l B)) why
      (record {
        declared = declared;
        zero = zero;
        cells = cells_there;
        first = stands_there k A first;
        second = stands_there l B second;
      })
      end
      (document_shows v (op_at v (sym_op k A)) (op_at v (sym_op l B)) why (fresh_there k A first)
      (fresh_there l B second))

  -- so are three operations, and they break the second property
  pub triple_broken :
      TripleFailsBy → (f : Function) (k l m : Kind) → IsTrue (is_obligation f.head (Triple k l m))
      → PartsAreSmall (Triple k l m) values
      → end_of (plan_of f (Triple k l m)) v ≡ Some why
      → AreConcurrent f document (op_at v (sym_op k A) ∷ op_at v (sym_op l B) ∷ op_at v (sym_op m C) ∷ [])
      × TripleFails f (op_at v (sym_op k A)) (op_at v (sym_op l B)) (op_at v (sym_op m C)) why
  triple_broken fails f k l m declared small end =
      (fails f k l m v document (op_at v (sym_op k A)) (op_at v (sym_op l B)) (op_at v (sym_op m C)) why
      (record {
        declared = declared;
        zero = zero;
        cells = cells_there;
        first = stands_there k A (small A (lit< tt));
        second = stands_there l B (small B (lit< tt));
        third = stands_there m C (small C (lit< tt));
      })).0 end

-- least values have a length of the document and an index
pub least_length :
    (ob : ObName) (w : List Lit) (values : List ℤ) → AreLeast w (floors_of ob) values
    → (2 < length values) × (pos 0 ≤ℤ valuation_of values 1)
least_length (Pair k l) w values least = let len = least.len in (omega arith, least.above 1 (lit< tt))
least_length (Triple k l m) w values least = let len = least.len in (omega arith, least.above 1 (lit< tt))

module _ (stand : NamesStand) (fails : PairFailsBy) (pair_breaks : PairBreaks) (triple_fails : TripleFailsBy)
    (triple_breaks : TripleBreaks)
    (f : Function) where
  -- the operations of the least values break the property of the obligation, for the cause
  broken :
      (ob : ObName) (w : List Lit) (why : Why) (values : List ℤ) → IsTrue (is_obligation f.head ob)
      → AreLeast w (floors_of ob) values → PartsAreSmall ob values
      → end_of (plan_of f ob) (valuation_of values) ≡ Some why
      → Breaks f (level_of ob) (document_at (valuation_of values) why) (ops_at (valuation_of values) ob)
      × BreaksBy f (level_of ob) (document_at (valuation_of values) why) (ops_at (valuation_of values) ob) why
  broken (Pair k l) w why values declared least small end =
      let v = valuation_of values in
      let a = op_at v (sym_op k A) in
      let b = op_at v (sym_op l B) in
      let d = document_at v why in
      let both =
      pair_broken stand why values least.zero_first (least_length (Pair k l) w values least).1 fails f
      k l declared small end in
      ((a, b, refl, both.0, λ converges. pair_breaks f d a b (v 2) why both.1 converges), (a, b, v 2, refl, both.1))
  broken (Triple k l m) w why values declared least small end =
      let v = valuation_of values in
      let a = op_at v (sym_op k A) in
      let b = op_at v (sym_op l B) in
      let c = op_at v (sym_op m C) in
      let both =
      triple_broken stand why values least.zero_first (least_length (Triple k l m) w values least).1 triple_fails f k
      l m declared small end in
      ((a, b, c, refl, both.0, λ commutes. triple_breaks f a b c why both.1 commutes), (a, b, c, refl, both.1))

-- what is said of the plans of a function within the limits, and of the answers on a way through a plan
abbrev pub PlansAreLike : Type 0
PlansAreLike = (f : Function) (ob : ObName) → IsTrue (is_valid f) → AsksLike (plan_of f ob)

abbrev pub AnswersAreLike : Type 0
AnswersAreLike = (why : Why) (p : Plan Why) (w : List Lit) → AsksLike p → LeadTo why p w → AreLike w

abbrev pub AnswersLead : Type 0
AnswersLead = (v : ℕ → ℤ) (why : Why) (p : Plan Why) (w : List Lit) → LeadTo why p w
    → AreMet v w → end_of p v ≡ Some why

abbrev pub LeastAreSmall : Type 0
LeastAreSmall = (ob : ObName) (w : List Lit) (values : List ℤ) (who : Who) → AreLike w
    → AreLeast w (floors_of ob) values
    → char_name who < length (floors_of ob) → IsSmallAt values who

pub least_broken :
    NamesStand → PairFailsBy → PairBreaks → TripleFailsBy → TripleBreaks → PlansAreLike → AnswersAreLike
    → AnswersLead → LeastAreSmall
    → (f : Function) (ob : ObName) (w : List Lit) (why : Why) (values : List ℤ) → IsTrue (is_valid f)
    → IsTrue (is_obligation f.head ob) → LeadTo why (plan_of f ob) w → AreLeast w (floors_of ob) values
    → Breaks f (level_of ob) (document_at (valuation_of values) why) (ops_at (valuation_of values) ob)
    × BreaksBy f (level_of ob) (document_at (valuation_of values) why) (ops_at (valuation_of values) ob) why
least_broken stand fails pair_breaks triple_fails triple_breaks plans answers ends small f ob w why values
    valid declared lead least =
    broken stand fails pair_breaks triple_fails triple_breaks f ob w why values declared least
    (λ who. small ob w values who (answers why (plan_of f ob) w (plans f ob valid) lead) least)
    (ends (valuation_of values) why (plan_of f ob) w lead least.met)
