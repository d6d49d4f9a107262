-- When a goal is of a function and an obligation: its names, offsets and operations are such as come from
-- the goal that the obligation begins with.
use Rattle.std.specs.Prelude.{◌≡◌, ◌≢◌, ◌⊎◌, ℕ, ◌<◌, ◌≤◌, pos, neg_ℤ, ◌+ℤ◌, ◌-ℤ◌, ◌≤ℤ◌, IsTrue, nat_eq, if◌then◌else◌}
use Rattle.std.specs.Prelude.{Option, Some, None, MatchOption, List, [], ◌∷◌, ◌++◌, length}
use Rattle.ot_model.specs.declared.op.Kind.{Kind}
use Rattle.ot_model.specs.declared.op.Mode.{Mode}
use Rattle.ot_model.specs.declared.op.Mode.TheVariants.{Plain, Tomb}
use Rattle.fn_rules.specs.declared.function.ObName.{ObName}
use Rattle.fn_rules.specs.declared.function.ObName.TheVariants.{Pair, Triple}
use Rattle.fn_rules.specs.Functions.{Function}
use Rattle.fn_rules.specs.Obligations.{is_obligation}
use Rattle.ot_questions.specs.declared.place.Place.{Place}
use Rattle.ot_questions.specs.declared.place.SymOp.{SymOp}
use Rattle.ot_questions.specs.declared.place.SymOp.TheVariants as ops
use Rattle.ot_questions.specs.Names.{index_name, name_count}
use Rattle.ot_questions.specs.Nears.{IsNear, IsNearOp, IsDeclaredOp}
use Rattle.ot_questions.specs.Places.{sym_kind, sym_at, sym_site, sym_char}
use Rattle.ot_terms.specs.declared.goal.GoalProgress.{GoalProgress}
use Rattle.ot_terms.specs.Forms as forms
use Rattle.ot_terms.specs.Forms.{FormTree}
use Rattle.ot_terms.specs.Documents as documents
use Rattle.ot_terms.specs.Documents.{DocTree}
use Rattle.ot_terms.specs.Cells as cells
use Rattle.ot_terms.specs.Cells.{CellTree}
use Rattle.ot_terms.specs.Goals as goals
use Rattle.ot_terms.specs.Goals.{GoalTree}
use Rattle.ot_terms.specs.Standing.{changes_of, results_of}
use Rattle.ot_terms.specs.Weights.{transforms_of, cases_of_kinds}

-- a place of a term over so many names
pub record IsPlace (count : ℕ) (x : Place) : Type 0 where
  pub name : x.var < count
  pub near : IsNear 200 x.off

-- a place that stays one where its offset is lowered by one
pub record IsLowerable (count : ℕ) (x : Place) : Type 0 where
  pub name : x.var < count
  pub low : neg_ℤ (pos 199) ≤ℤ x.off
  pub high : x.off ≤ℤ pos 200

abbrev pub HasPlaces : ℕ → FormTree → Type 0
HasPlaces count forms.True = Unit {0}
HasPlaces count (forms.Le x y) = IsPlace count x × IsPlace count y
HasPlaces count (forms.Lt x y) = IsPlace count x × IsLowerable count y
HasPlaces count (forms.Eq x y) = IsPlace count x × IsPlace count y
HasPlaces count (forms.And g h) = HasPlaces count g × HasPlaces count h
HasPlaces count (forms.Or g h) = HasPlaces count g × HasPlaces count h
HasPlaces count (forms.Not g) = HasPlaces count g

-- the changes of a document of the mode are at such places
abbrev pub IsDocOf : Mode → ℕ → DocTree → Type 0
IsDocOf mode count documents.Base = Unit {0}
IsDocOf mode count (documents.Put d at ch) = IsLowerable count at × (ch < count) × IsDocOf mode count d
IsDocOf mode count (documents.Cut d at) = IsLowerable count at × (mode ≡ Plain) × IsDocOf mode count d
IsDocOf mode count (documents.Mark d at) = IsLowerable count at × (mode ≡ Tomb) × IsDocOf mode count d
IsDocOf mode count (documents.Over d at ch) = IsLowerable count at × (ch < count) × IsDocOf mode count d

-- The place is the index plus an offset. The offset stays small where each change of the document moves it
-- by one.
pub record IsIndexOf (d : DocTree) (at : Place) : Type 0 where
  pub name : at.var ≡ index_name
  pub low : IsNear 200 (at.off -ℤ pos (length (changes_of d)))
  pub high : IsNear 200 (at.off +ℤ pos (length (changes_of d)))

abbrev pub IsCellOf : Mode → ℕ → CellTree → Type 0
IsCellOf mode count (cells.At d at) = IsDocOf mode count d × IsIndexOf d at
IsCellOf mode count (cells.Char ch) = ch < count
IsCellOf mode count (cells.Dead cell) = IsCellOf mode count cell
IsCellOf mode count (cells.Over ch cell) = (ch < count) × IsCellOf mode count cell
IsCellOf mode count (cells.If g on_yes on_no) = HasPlaces count g × IsCellOf mode count on_yes
    × IsCellOf mode count on_no

-- the names of an operation
abbrev pub HasNames : ℕ → SymOp → Type 0
HasNames count (ops.Ins at ch site) = (at.var < count) × (ch < count) × (site < count)
HasNames count (ops.Del at site) = (at.var < count) × (site < count)
HasNames count (ops.Upd at ch site) = (at.var < count) × (ch < count) × (site < count)
HasNames count ops.Nop = Unit {0}

-- an operation of the kind, as it was made
pub record IsMade (count : ℕ) (k : Kind) (a : SymOp) : Type 0 where
  pub kind : sym_kind a ≡ Some k
  pub at : (sym_at a).off ≡ pos 0
  pub names : HasNames count a

-- the operations of an obligation; a pair has nop in the third place
abbrev pub AreOperandsOf : ObName → List SymOp → Type 0
AreOperandsOf (Pair k l) os =
    (a b : SymOp) × (os ≡ a ∷ b ∷ ops.Nop ∷ []) × IsMade (name_count (Pair k l)) k a
    × IsMade (name_count (Pair k l)) l b
AreOperandsOf (Triple k l m) os =
    (a b c : SymOp) × (os ≡ a ∷ b ∷ c ∷ []) × IsMade (name_count (Triple k l m)) k a
    × IsMade (name_count (Triple k l m)) l b × IsMade (name_count (Triple k l m)) m c

-- the two operations of the next transformation of a pair after these results
abbrev pub next_of_pair : SymOp → SymOp → List SymOp → Option (SymOp × SymOp)
next_of_pair a b [] = Some (b, a)
next_of_pair a b (b_after_a ∷ []) = Some (a, b)
next_of_pair a b (b_after_a ∷ a_after_b ∷ got) = None

-- the three transformations of one way of a triple: `c` behind `a` and then `b`
abbrev pub next_of_way : SymOp → SymOp → SymOp → List SymOp → Option (SymOp × SymOp)
next_of_way a b c [] = Some (b, a)
next_of_way a b c (b_after_a ∷ []) = Some (c, a)
next_of_way a b c (b_after_a ∷ c_after_a ∷ []) = Some (c_after_a, b_after_a)
next_of_way a b c (b_after_a ∷ c_after_a ∷ left ∷ got) = None

-- one way, and then the other
abbrev pub next_of_triple : SymOp → SymOp → SymOp → List SymOp → Option (SymOp × SymOp)
next_of_triple a b c [] = next_of_way a b c []
next_of_triple a b c (b_after_a ∷ []) = next_of_way a b c (b_after_a ∷ [])
next_of_triple a b c (b_after_a ∷ c_after_a ∷ []) = next_of_way a b c (b_after_a ∷ c_after_a ∷ [])
next_of_triple a b c (b_after_a ∷ c_after_a ∷ left ∷ got) = next_of_way b a c got

-- the two operations of the next transformation, if there is one
abbrev pub next_operands : ObName → List SymOp → List SymOp → Option (SymOp × SymOp)
next_operands (Pair k l) (a ∷ b ∷ os) got = next_of_pair a b got
next_operands (Pair k l) (a ∷ []) got = None
next_operands (Pair k l) [] got = None
next_operands (Triple k l m) (a ∷ b ∷ c ∷ os) got = next_of_triple a b c got
next_operands (Triple k l m) (a ∷ b ∷ []) got = None
next_operands (Triple k l m) (a ∷ []) got = None
next_operands (Triple k l m) [] got = None

-- How far from its name the result of a transformation may stand, after so many results: a result of a
-- result stands further.
abbrev pub reach_of : ObName → ℕ → ℕ
reach_of (Pair k l) n = 99
reach_of (Triple k l m) n = if nat_eq n 2 then 198 else (if nat_eq n 5 then 198 else 99)

-- the operation is the first one, which is not nop, at another place that is not far
pub record IsMoved (count reach : ℕ) (first r : SymOp) : Type 0 where
  pub there : sym_kind first ≢ None
  pub kind : sym_kind r ≡ sym_kind first
  pub site : sym_site r ≡ sym_site first
  pub ch : sym_char r ≡ sym_char first
  pub names : HasNames count r
  pub near : IsNearOp reach r

-- what may be the next result after these
abbrev pub IsNextResult : ObName → List SymOp → List SymOp → SymOp → Type 0
IsNextResult ob os got r =
    MatchOption (next_operands ob os got) ⊥
    (λ pair. (r ≡ ops.Nop) ⊎ IsMoved (name_count ob) (reach_of ob (length got)) pair.0 r)

-- what may be the results that follow these
abbrev pub AreResults : ObName → List SymOp → List SymOp → List SymOp → Type 0
AreResults ob os before [] = Unit {0}
AreResults ob os before (r ∷ got) = IsNextResult ob os before r × AreResults ob os (before ++ r ∷ []) got

-- how far an obligation has come; the last result is still to come
pub record IsProgressOf (ob : ObName) (progress : GoalProgress) : Type 0 where
  pub same : progress.ob ≡ ob
  pub made : AreOperandsOf ob progress.ops
  pub results : AreResults ob progress.ops [] (results_of progress)
  pub awaited : progress.count < transforms_of ob
  pub room : length progress.got ≡ 6

-- the next transformation, from one of its cases on or behind the last one
pub record IsChoiceOf (f : Function) (ob : ObName) (case : ℕ) (a b : SymOp) (so_far : GoalProgress) : Type 0 where
  pub progress : IsProgressOf ob so_far
  pub next : next_operands ob so_far.ops (results_of so_far) ≡ Some (a, b)
  pub a_declared : IsDeclaredOp f.head a
  pub b_declared : IsDeclaredOp f.head b
  pub a_near : IsNearOp 99 a
  pub b_near : IsNearOp 99 b
  pub cases : case ≤ length (cases_of_kinds f (sym_kind a) (sym_kind b))

-- the parts of a goal of the function and the obligation
abbrev pub HasParts : Function → ObName → GoalTree → Type 0
HasParts f ob goals.Holds = Unit {0}
HasParts f ob (goals.Fails why) = Unit {0}
HasParts f ob (goals.If g on_yes on_no) = HasPlaces (name_count ob) g × HasParts f ob on_yes × HasParts f ob on_no
HasParts f ob (goals.Choose case a b progress) = IsChoiceOf f ob case a b progress
HasParts f ob (goals.Deliver o progress) =
    IsProgressOf ob progress × IsNextResult ob progress.ops (results_of progress) o
HasParts f ob (goals.Same left right) = IsCellOf f.head.mode (name_count ob) left
    × IsCellOf f.head.mode (name_count ob) right

-- the goal is of the function and the obligation
pub record IsGoalOf (f : Function) (ob : ObName) (g : GoalTree) : Type 0 where
  pub declared : IsTrue (is_obligation f.head ob)
  pub parts : HasParts f ob g
