-- The truth of a goal at a valuation, read over all base documents at once.
use Rattle.std.specs.Prelude.{◌≡◌, ℕ, zero, suc, ℤ, pos, ◌+ℤ◌, Bool, true, false, if◌then◌else◌, IsTrue, Option, Some}
use Rattle.std.specs.Prelude.{None, IsSomeAnd, MatchOption, List, [], ◌∷◌, ◌++◌, drop}
use Rattle.std.specs.Ordering.{int_eq}
use Rattle.ot_model.specs.declared.op.Kind.{Kind}
use Rattle.ot_model.specs.declared.op.Mode.{Mode}
use Rattle.fn_rules.specs.declared.function.ObName.{ObName}
use Rattle.fn_rules.specs.declared.function.ObName.TheVariants.{Pair, Triple}
use Rattle.fn_rules.specs.Functions.{Function, GuardedCase}
use Rattle.ot_questions.specs.declared.place.Place.{Place}
use Rattle.ot_questions.specs.declared.place.SymOp.{SymOp}
use Rattle.ot_questions.specs.declared.place.SymOp.TheVariants.{Nop}
use Rattle.ot_questions.specs.Names.{zero_name, length_name}
use Rattle.ot_questions.specs.Places.{length_and, index_and, integer_at, growth, sym_kind, sym_at, sym_result}
use Rattle.ot_questions.specs.Meaning.{HasPair, HasTriple}
use Rattle.ot_terms.specs.declared.goal.GoalProgress.{GoalProgress}
use Rattle.ot_terms.specs.Forms.{FormTree, Lt, form_holds}
use Rattle.ot_terms.specs.Changes.{doc_of}
use Rattle.ot_terms.specs.Cells as cells
use Rattle.ot_terms.specs.Cells.{CellTree}
use Rattle.ot_terms.specs.Goals as goals
use Rattle.ot_terms.specs.Goals.{GoalTree}
use Rattle.ot_terms.specs.Meaning.{BaseDocument, cell_of}
use Rattle.ot_terms.specs.Placing.{guard_form}
use Rattle.ot_terms.specs.Starting.{within, enabled_form}
use Rattle.ot_terms.specs.Standing.{results_of}
use Rattle.ot_terms.specs.Weights.{transforms_of}
use Rattle.ot_terms.specs.Belonging.{next_operands}

-- P where the test is true, and Q where it is false
abbrev pub MatchBool : Bool → Type 0 → Type 0 → Type 0
MatchBool true P Q = P
MatchBool false P Q = Q

-- the result of the first case whose guard is true at the two operations
abbrev pub first_sym_result : (ℕ → ℤ) → List GuardedCase → SymOp → SymOp → Option SymOp
first_sym_result v [] a b = None
first_sym_result v (c ∷ cs) a b =
    if form_holds v (guard_form c.guard a b) then Some (sym_result c.res a b) else first_sym_result v cs a b

-- by the kinds of the two operations, which nop has not: nop stays nop, and behind nop an operation stays as it is
abbrev pub result_by_kinds : Function → (ℕ → ℤ) → ℕ → SymOp → SymOp → Option Kind → Option Kind → Option SymOp
result_by_kinds f v case a b None l = Some Nop
result_by_kinds f v case a b (Some k) None = Some a
result_by_kinds f v case a b (Some k) (Some l) = first_sym_result v (drop case (f.cases k l)) a b

-- what the first operation becomes behind the second, by the cases of their block from a number on
abbrev pub result_from : Function → (ℕ → ℤ) → ℕ → SymOp → SymOp → Option SymOp
result_from f v case a b = result_by_kinds f v case a b (sym_kind a) (sym_kind b)

-- the two cells are the same for every base document
abbrev pub AreSameCell : (ℕ → ℤ) → CellTree → CellTree → Type 0
AreSameCell v left right = (base : BaseDocument) → cell_of base v left ≡ cell_of base v right

-- the index is within documents of the length plus an offset
abbrev pub index_form : ℤ → FormTree
index_form off = within (index_and (pos 0)) (Lt (index_and (pos 0)) (length_and off))

-- Two operations and their forms, each behind the other operation, give one document on both ways, as far as the
-- index shows it.
pub record GiveOneDocument (v : ℕ → ℤ) (mode : Mode) (a b_after_a b a_after_b : SymOp) : Type 0 where
  pub b_enabled : IsTrue (form_holds v (enabled_form b_after_a (growth mode a)))
  pub a_enabled : IsTrue (form_holds v (enabled_form a_after_b (growth mode b)))
  pub lengths : growth mode a +ℤ growth mode b_after_a ≡ growth mode b +ℤ growth mode a_after_b
  pub cells :
      IsTrue (form_holds v (index_form (growth mode a +ℤ growth mode b_after_a)))
      → AreSameCell v (cells.At (doc_of mode (b_after_a ∷ a ∷ [])) (index_and (pos 0)))
      (cells.At (doc_of mode (a_after_b ∷ b ∷ [])) (index_and (pos 0)))

-- by the kinds of two forms of one operation: both are nop, or both stand at one place
abbrev pub is_one_place : (ℕ → ℤ) → Option Kind → Option Kind → Place → Place → Bool
is_one_place v None None at there = true
is_one_place v None (Some l) at there = false
is_one_place v (Some k) None at there = false
is_one_place v (Some k) (Some l) at there = int_eq (integer_at v at) (integer_at v there)

-- the two forms are equal, of which only the positions can differ
abbrev pub is_one_form : (ℕ → ℤ) → SymOp → SymOp → Bool
is_one_form v left right = is_one_place v (sym_kind left) (sym_kind right) (sym_at left) (sym_at right)

-- what is left of a pair after both results
abbrev pub PairEnds : Function → (ℕ → ℤ) → List SymOp → List SymOp → Type 0
PairEnds f v (a ∷ b ∷ os) (b_after_a ∷ a_after_b ∷ got) = GiveOneDocument v f.head.mode a b_after_a b a_after_b
PairEnds f v os got = ⊥

-- what is left of a triple after its six results: both ways give the third operation one form
abbrev pub TripleEnds : (ℕ → ℤ) → List SymOp → Type 0
TripleEnds v (b_after_a ∷ c_after_a ∷ left ∷ a_after_b ∷ c_after_b ∷ right ∷ got) = IsTrue (is_one_form v left right)
TripleEnds v got = ⊥

-- what is left of an obligation behind its last result
abbrev pub Ends : Function → (ℕ → ℤ) → ObName → List SymOp → List SymOp → Type 0
Ends f v (Pair k l) os got = PairEnds f v os got
Ends f v (Triple k l m) os got = TripleEnds v got

-- What is left of an obligation with these operations after these results: each further transformation in its
-- order gives a result, of which there are at most so many, and after the last one the end is true.
abbrev pub HoldsAfter : ℕ → Function → (ℕ → ℤ) → ObName → List SymOp → List SymOp → Type 0
HoldsAfter zero f v ob os got = Ends f v ob os got
HoldsAfter (suc most) f v ob os got =
    MatchOption (next_operands ob os got) (Ends f v ob os got)
    (λ next. IsSomeAnd (result_from f v 0 next.0 next.1) (λ r. HoldsAfter most f v ob os (got ++ r ∷ [])))

-- what is left with one more result
abbrev pub HoldsWith : Function → (ℕ → ℤ) → GoalProgress → SymOp → Type 0
HoldsWith f v progress r =
    HoldsAfter (transforms_of progress.ob) f v progress.ob progress.ops (results_of progress ++ r ∷ [])

-- the truth of a goal
abbrev pub goal_holds : Function → (ℕ → ℤ) → GoalTree → Type 0
goal_holds f v goals.Holds = Unit {0}
goal_holds f v (goals.Fails why) = ⊥
goal_holds f v (goals.If g on_yes on_no) = MatchBool (form_holds v g) (goal_holds f v on_yes) (goal_holds f v on_no)
goal_holds f v (goals.Choose case a b progress) = IsSomeAnd (result_from f v case a b) (HoldsWith f v progress)
goal_holds f v (goals.Deliver o progress) = HoldsWith f v progress o
goal_holds f v (goals.Same left right) = AreSameCell v left right

-- the goal is true at every valuation
abbrev pub IsTrueEverywhere : Function → GoalTree → Type 0
IsTrueEverywhere f g = (v : ℕ → ℤ) → v zero_name ≡ pos 0 → goal_holds f v g

-- the goal is true at every valuation at which the document has so many cells
abbrev pub IsTrueAtLength : Function → GoalTree → ℕ → Type 0
IsTrueAtLength f g n = (v : ℕ → ℤ) → v zero_name ≡ pos 0 → v length_name ≡ pos n → goal_holds f v g

-- the instance that an obligation names: TP1 for all documents of so many cells and operations of its kinds, or TP2
abbrev pub HasInstance : Function → ObName → ℕ → Type 0
HasInstance f (Pair k l) n = HasPair f k l n
HasInstance f (Triple k l m) n = HasTriple f k l m n
