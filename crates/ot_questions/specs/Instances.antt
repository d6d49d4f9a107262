-- Instances of the properties: operations and a document that the names of an obligation stand for at a
-- valuation, and what the interpreter gives on them. In these words it is said where a plan ends.
use Rattle.std.specs.Prelude.{◌≡◌, ◌≢◌, ◌⊎◌, ℕ, ℤ, pos, negsuc, ◌+ℤ◌, true, false, IsTrue, List, length, slice_get}
use Rattle.std.specs.Prelude.{Option, Some, None, option_map, option_and_then}
use Rattle.ot_model.specs.declared.cell.Cell.{Cell}
use Rattle.ot_model.specs.declared.op.Op.{Op}
use Rattle.ot_model.specs.declared.op.Kind.{Kind}
use Rattle.ot_model.specs.Effect.{IsEnabled, document_after}
use Rattle.ot_model.specs.Operations.{kind_of, at_of, site_of, char_of}
use Rattle.fn_rules.specs.declared.function.ObName.TheVariants.{Pair, Triple}
use Rattle.fn_rules.specs.Functions.{Function}
use Rattle.fn_rules.specs.Obligations.{is_obligation}
use Rattle.fn_rules.specs.Transformation.{transform_of}
use Rattle.ask_core.specs.Plans.{Plan, end_of}
use Rattle.ot_questions.specs.declared.name.Who.{Who}
use Rattle.ot_questions.specs.declared.name.Who.TheVariants.{A, B, C}
use Rattle.ot_questions.specs.declared.place.SymOp.{SymOp}
use Rattle.ot_questions.specs.declared.why.Why.{Why}
use Rattle.ot_questions.specs.declared.why.Why.TheVariants.{Undefined, OutOfRange, Lengths, Cells, Operations}
use Rattle.ot_questions.specs.Names.{zero_name, length_name, index_name}
use Rattle.ot_questions.specs.Places.{integer_at, sym_op, sym_kind, sym_at, sym_site, sym_char}

-- the parts of a symbolic operation stand for those of an operation
pub record StandsForOperation (v : ℕ → ℤ) (x : SymOp) (a : Op) : Type 0 where
  pub kind : sym_kind x ≡ kind_of a
  pub at : integer_at v (sym_at x) ≡ at_of a
  pub site : option_map v (sym_site x) ≡ option_map pos (site_of a)
  pub ch : option_map v (sym_char x) ≡ option_map pos (char_of a)

-- a pair of the function, whose names stand for two operations and for a length
pub record NamesPair (f : Function) (k l : Kind) (v : ℕ → ℤ) (n : ℕ) (a b : Op) : Type 0 where
  pub declared : IsTrue (is_obligation f.head (Pair k l))
  pub zero : v zero_name ≡ pos 0
  pub cells : v length_name ≡ pos n
  pub first : StandsForOperation v (sym_op k A) a
  pub second : StandsForOperation v (sym_op l B) b

-- a triple of the function, whose names stand for three operations and for a length
pub record NamesTriple (f : Function) (k l m : Kind) (v : ℕ → ℤ) (n : ℕ) (a b c : Op) : Type 0 where
  pub declared : IsTrue (is_obligation f.head (Triple k l m))
  pub zero : v zero_name ≡ pos 0
  pub cells : v length_name ≡ pos n
  pub first : StandsForOperation v (sym_op k A) a
  pub second : StandsForOperation v (sym_op l B) b
  pub third : StandsForOperation v (sym_op m C) c

-- the names stand for a length, an index and three operations, each by its kind
pub record NamesAll (v : ℕ → ℤ) (n : ℕ) (i : ℤ) (made : Who → Op) : Type 0 where
  pub zero : v zero_name ≡ pos 0
  pub cells : v length_name ≡ pos n
  pub index : v index_name ≡ i
  pub operations : (who : Who) (k : Kind) → kind_of (made who) ≡ Some k → StandsForOperation v (sym_op k who) (made who)

-- asking for a form comes to a symbolic operation that stands for it, or to the cause that there is none
abbrev pub ComesTo : (ℕ → ℤ) → ((SymOp → Plan Why) → Plan Why) → Option Op → Type 0
ComesTo v ask None = (go : SymOp → Plan Why) → end_of (ask go) v ≡ Some Undefined
ComesTo v ask (Some r) =
    (z : SymOp) × StandsForOperation v z r × ((go : SymOp → Plan Why) → end_of (ask go) v ≡ end_of (go z) v)

-- asking for a result comes to a symbolic operation that stands for it, or to none where there is none
abbrev pub GoesOnWith : (ℕ → ℤ) → ((Option SymOp → Plan Why) → Plan Why) → Option Op → Type 0
GoesOnWith v ask None = (go : Option SymOp → Plan Why) → end_of (ask go) v ≡ end_of (go None) v
GoesOnWith v ask (Some r) =
    (z : SymOp) × StandsForOperation v z r
    × ((go : Option SymOp → Plan Why) → end_of (ask go) v ≡ end_of (go (Some z)) v)

-- the forms of two operations, each behind the other
pub record Forms (f : Function) (a b : Op) : Type 0 where
  pub b_after_a : Op
  pub a_after_b : Op
  pub b_transformed : transform_of f b a ≡ Some b_after_a
  pub a_transformed : transform_of f a b ≡ Some a_after_b

-- each form is enabled behind the other operation
abbrev pub AreEnabledBehind : (f : Function) → List Cell → (a b : Op) → Forms f a b → Type 0
AreEnabledBehind f d a b forms =
    IsEnabled forms.b_after_a (length (document_after f.head.mode a d))
    × IsEnabled forms.a_after_b (length (document_after f.head.mode b d))

-- the document after one operation and then another
abbrev pub after_two : Function → List Cell → Op → Op → List Cell
after_two f d first second = document_after f.head.mode second (document_after f.head.mode first d)

-- both ways come to a final document, and of the two this holds
pub record EndWith (f : Function) (d : List Cell) (a b : Op) (Holds : List Cell → List Cell → Type 0) : Type 0 where
  pub forms : Forms f a b
  pub enabled : AreEnabledBehind f d a b forms
  pub ends : Holds (after_two f d a forms.b_after_a) (after_two f d b forms.a_after_b)

-- the cell of a document at an index, if there is one
abbrev pub cell_in : List Cell → ℤ → Option Cell
cell_in d (pos i) = slice_get d i
cell_in d (negsuc i) = None

-- two documents of one length have the same there
abbrev pub AgreeAt : ℤ → List Cell → List Cell → Type 0
AgreeAt i left right = (length left ≡ length right) × (cell_in left i ≡ cell_in right i)

-- two documents of one length have two different cells there
abbrev pub DifferAt : ℤ → List Cell → List Cell → Type 0
DifferAt i left right = (length left ≡ length right) × (cell_in left i ≢ cell_in right i)

-- how TP1 fails at an instance, by the cause; that cells differ is seen at an index
abbrev pub PairFails : Function → List Cell → Op → Op → ℤ → Why → Type 0
PairFails f d a b i Undefined = (transform_of f b a ≡ None) ⊎ (transform_of f a b ≡ None)
PairFails f d a b i OutOfRange = (forms : Forms f a b) × (AreEnabledBehind f d a b forms → ⊥)
PairFails f d a b i Lengths = EndWith f d a b (λ left right. length left ≢ length right)
PairFails f d a b i (Cells left dead) = EndWith f d a b (DifferAt i)
PairFails f d a b i Operations = ⊥

-- A document that tells apart what two final documents have at an index: no operation puts a character
-- of its cells. The cell at the index plus the offset `left`, if there is one, has a character of its own.
-- The cell at the index plus the offset `dead` is dead, and the others are live.
pub record TellsApart (d : List Cell) (a b : Op) (i : ℤ) (left dead : Option ℤ) : Type 0 where
  pub live :
      (j : ℤ) (cell : Cell) → cell_in d j ≡ Some cell → ((off : ℤ) → dead ≡ Some off → j ≢ i +ℤ off) → cell.live ≡ true
  pub dies : (off : ℤ) (cell : Cell) → dead ≡ Some off → cell_in d (i +ℤ off) ≡ Some cell → cell.live ≡ false
  pub fresh : (j : ℤ) (cell : Cell) → cell_in d j ≡ Some cell → (char_of a ≢ Some cell.ch) × (char_of b ≢ Some cell.ch)
  pub alone :
      (j off : ℤ) (cell other : Cell) → left ≡ Some off → cell_in d j ≡ Some cell → cell_in d (i +ℤ off) ≡ Some other
      → cell.ch ≡ other.ch → j ≡ i +ℤ off

-- the document shows the cause: any document does, but that cells differ is seen on one that tells apart
abbrev pub ShowsCause : List Cell → Op → Op → ℤ → Why → Type 0
ShowsCause d a b i Undefined = Unit {0}
ShowsCause d a b i OutOfRange = Unit {0}
ShowsCause d a b i Lengths = Unit {0}
ShowsCause d a b i (Cells left dead) = TellsApart d a b i left dead
ShowsCause d a b i Operations = Unit {0}

-- the plan ends in a cause of this sort; of cells it may be with other offsets
abbrev pub EndsBy : Why → Option Why → Type 0
EndsBy (Cells left dead) end = (other_left other_dead : Option ℤ) × (end ≡ Some (Cells other_left other_dead))
EndsBy why end = end ≡ Some why

-- the form of `c` behind `a` and then `b`
abbrev pub form_behind : Function → Op → Op → Op → Option Op
form_behind f a b c =
    option_and_then
    (λ b_after_a. option_and_then (λ c_after_a. transform_of f c_after_a b_after_a) (transform_of f c a))
    (transform_of f b a)

-- how TP2 fails at an instance, by the cause
abbrev pub TripleFails : Function → Op → Op → Op → Why → Type 0
TripleFails f a b c Undefined = (form_behind f a b c ≡ None) ⊎ (form_behind f b a c ≡ None)
TripleFails f a b c Operations =
    (left right : Op) × (form_behind f a b c ≡ Some left) × (form_behind f b a c ≡ Some right) × (left ≢ right)
TripleFails f a b c OutOfRange = ⊥
TripleFails f a b c Lengths = ⊥
TripleFails f a b c (Cells left dead) = ⊥
