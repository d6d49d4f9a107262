-- That a goal is a node has one proof at most: which operations and results it speaks of can be read off in one way.
use Rattle.std.specs.Prelude.{◌≡◌, ◌⊎◌, ℕ, List, [], ◌∷◌, ◌++◌, length, refl}
use Rattle.std.specs.Option.{MatchOption-prop}
use Rattle.std.proofs.Common.{◌∙◌, sym, ap, inl, inr}
use Rattle.std.proofs.Props.{props}
use mathlib.Core.HLevel.{Σ_prop_path}
use Rattle.ot_model.specs.declared.op.Kind.{Kind}
use Rattle.ot_model.specs.declared.op.Mode.{Mode}
use Rattle.fn_rules.specs.declared.function.ObName.{ObName}
use Rattle.fn_rules.specs.declared.function.ObName.TheVariants.{Pair, Triple}
use Rattle.fn_rules.specs.Functions.{Function}
use Rattle.ot_questions.specs.declared.place.SymOp.{SymOp}
use Rattle.ot_questions.specs.declared.place.SymOp.TheVariants as ops
use Rattle.ot_questions.specs.Names.{name_count}
use Rattle.ot_questions.specs.Places.{sym_kind}
use Rattle.ot_terms.specs.declared.goal.GoalProgress.{GoalProgress}
use Rattle.ot_terms.specs.Belonging.{AreOperandsOf, AreResults, HasNames, HasParts, HasPlaces, IsCellOf, IsChoiceOf}
use Rattle.ot_terms.specs.Belonging.{IsDocOf, IsMade, IsMoved, IsNextResult, IsProgressOf, next_operands, reach_of}
use Rattle.ot_terms.specs.Cells as cells
use Rattle.ot_terms.specs.Cells.{CellTree}
use Rattle.ot_terms.specs.Documents as documents
use Rattle.ot_terms.specs.Documents.{DocTree}
use Rattle.ot_terms.specs.Forms.{FormTree, True, Le, Lt, Eq, And, Or, Not}
use Rattle.ot_terms.specs.Goals.{GoalTree, Holds, Fails, If, Choose, Deliver, Same}
use Rattle.ot_terms.specs.Standing.{results_of}
use Rattle.ot_paths.specs.Nodes.{IsNode}

-- one value at most has the fact, and each in one way
some_prop :
    {A : Type 0} {B : A → Type 0} → ((x : A) → IsProp (B x)) → ((x y : A) → B x → B y → x ≡ y) → IsProp ((x : A) × B x)
some_prop ways same = λ u v. Σ_prop_path ways (same u.0 v.0 u.1 v.1)

-- one of two facts that exclude each other
either_prop : {A B : Type 0} → IsProp A → IsProp B → (A → B → ⊥) → (u v : A ⊎ B) → u ≡ v
either_prop a b apart (inl x) (inl y) = ap inl (a x y)
either_prop a b apart (inl x) (inr y) = absurd (apart x y)
either_prop a b apart (inr x) (inl y) = absurd (apart y x)
either_prop a b apart (inr x) (inr y) = ap inr (b x y)

-- what can be seen as a fact with one proof, and brought back, has one proof
seen_prop : {A B : Type 0} (to : A → B) (from : B → A) → ((x : A) → from (to x) ≡ x) → IsProp B → IsProp A
seen_prop to from back one = λ u v. sym (back u) ∙ ap from (one (to u) (to v)) ∙ back v

-- the places of a form, and those of documents and cells
HasPlaces-prop : (count : ℕ) (g : FormTree) → IsProp (HasPlaces count g)
HasPlaces-prop count True = hlevel props
HasPlaces-prop count (Le x y) = hlevel props
HasPlaces-prop count (Lt x y) = hlevel props
HasPlaces-prop count (Eq x y) = hlevel props
HasPlaces-prop count (And g h) = hlevel (HasPlaces-prop count g, HasPlaces-prop count h)
HasPlaces-prop count (Or g h) = hlevel (HasPlaces-prop count g, HasPlaces-prop count h)
HasPlaces-prop count (Not g) = HasPlaces-prop count g

IsDocOf-prop : (mode : Mode) (count : ℕ) (d : DocTree) → IsProp (IsDocOf mode count d)
IsDocOf-prop mode count documents.Base = hlevel props
IsDocOf-prop mode count (documents.Put d at ch) = hlevel (IsDocOf-prop mode count d, props)
IsDocOf-prop mode count (documents.Cut d at) = hlevel (IsDocOf-prop mode count d, props)
IsDocOf-prop mode count (documents.Mark d at) = hlevel (IsDocOf-prop mode count d, props)
IsDocOf-prop mode count (documents.Over d at ch) = hlevel (IsDocOf-prop mode count d, props)

IsCellOf-prop : (mode : Mode) (count : ℕ) (c : CellTree) → IsProp (IsCellOf mode count c)
IsCellOf-prop mode count (cells.At d at) = hlevel (IsDocOf-prop mode count d, props)
IsCellOf-prop mode count (cells.Char ch) = hlevel props
IsCellOf-prop mode count (cells.Dead cell) = IsCellOf-prop mode count cell
IsCellOf-prop mode count (cells.Over ch cell) = hlevel (IsCellOf-prop mode count cell, props)
IsCellOf-prop mode count (cells.If g on_yes on_no) =
    hlevel (HasPlaces-prop count g, IsCellOf-prop mode count on_yes, IsCellOf-prop mode count on_no)

-- the names of an operation, and what it is as it was made and as a result
HasNames-prop : (count : ℕ) (o : SymOp) → IsProp (HasNames count o)
HasNames-prop count (ops.Ins at ch site) = hlevel props
HasNames-prop count (ops.Del at site) = hlevel props
HasNames-prop count (ops.Upd at ch site) = hlevel props
HasNames-prop count ops.Nop = hlevel props

IsMade-prop : (count : ℕ) (k : Kind) (o : SymOp) → IsProp (IsMade count k o)
IsMade-prop count k o = hlevel (HasNames-prop count o, props)

IsMoved-prop : (count reach : ℕ) (first r : SymOp) → IsProp (IsMoved count reach first r)
IsMoved-prop count reach first r = hlevel (HasNames-prop count r, props)

-- two lists of operations are one in one way
is_list_prop : (os others : List SymOp) → IsProp (os ≡ others)
is_list_prop os others = hlevel props

-- the list tells the operations of an obligation
AreOperandsOf-prop : (ob : ObName) (os : List SymOp) → IsProp (AreOperandsOf ob os)
AreOperandsOf-prop (Pair k l) os =
    let count = name_count (Pair k l) in
    seen_prop {B = (a : SymOp) × ((b : SymOp) × ((os ≡ a ∷ b ∷ ops.Nop ∷ []) × IsMade count k a × IsMade count l b))}
    (λ m. (m.0, (m.1, (m.2, m.3, m.4)))) (λ m. (m.0, m.1.0, m.1.1.0, m.1.1.1, m.1.1.2)) (λ m. refl)
    (some_prop
    (λ a. some_prop
    (λ b. hlevel (is_list_prop os (a ∷ b ∷ ops.Nop ∷ []), IsMade-prop count k a, IsMade-prop count l b))
    (λ b other one two. cc (one.0, two.0)))
    (λ a other one two. cc (one.1.0, two.1.0)))
AreOperandsOf-prop (Triple k l m) os =
    let count = name_count (Triple k l m) in
    seen_prop
    {B = (a : SymOp)
    × ((b : SymOp) × ((c : SymOp) × ((os ≡ a ∷ b ∷ c ∷ []) × IsMade count k a × IsMade count l b × IsMade count m c)))}
    (λ m. (m.0, (m.1, (m.2, (m.3, m.4, m.5, m.6)))))
    (λ m. (m.0, m.1.0, m.1.1.0, m.1.1.1.0, m.1.1.1.1, m.1.1.1.2, m.1.1.1.3)) (λ m. refl)
    (some_prop
    (λ a. some_prop
    (λ b. some_prop
    (λ c. hlevel
    (is_list_prop os (a ∷ b ∷ c ∷ []), IsMade-prop count k a, IsMade-prop count l b, IsMade-prop count m c))
    (λ c other one two. cc (one.0, two.0)))
    (λ b other one two. cc (one.1.0, two.1.0)))
    (λ a other one two. cc (one.1.1.0, two.1.1.0)))

-- a result is nop or has been moved, and not both
is_result_prop : (count reach : ℕ) (first r : SymOp) → IsProp ((r ≡ ops.Nop) ⊎ IsMoved count reach first r)
is_result_prop count reach first r =
    either_prop (hlevel props) (IsMoved-prop count reach first r)
    (λ is moved. moved.there (sym moved.kind ∙ ap sym_kind is))

-- what comes next, and how far an obligation has come
IsNextResult-prop : (ob : ObName) (os got : List SymOp) (r : SymOp) → IsProp (IsNextResult ob os got r)
IsNextResult-prop ob os got r =
    MatchOption-prop (next_operands ob os got) ⊥
    (λ pair. (r ≡ ops.Nop) ⊎ IsMoved (name_count ob) (reach_of ob (length got)) pair.0 r)
    (hlevel props) (λ pair. is_result_prop (name_count ob) (reach_of ob (length got)) pair.0 r)

AreResults-prop : (ob : ObName) (os before got : List SymOp) → IsProp (AreResults ob os before got)
AreResults-prop ob os before [] = hlevel props
AreResults-prop ob os before (r ∷ got) =
    hlevel (IsNextResult-prop ob os before r, AreResults-prop ob os (before ++ r ∷ []) got)

IsProgressOf-prop : (ob : ObName) (progress : GoalProgress) → IsProp (IsProgressOf ob progress)
IsProgressOf-prop ob progress =
    hlevel (AreOperandsOf-prop ob progress.ops, AreResults-prop ob progress.ops [] (results_of progress), props)

IsChoiceOf-prop :
    (f : Function) (ob : ObName) (case : ℕ) (a b : SymOp) (progress : GoalProgress)
    → IsProp (IsChoiceOf f ob case a b progress)
IsChoiceOf-prop f ob case a b progress = hlevel (IsProgressOf-prop ob progress, props)

-- the parts of a goal
HasParts-prop : (f : Function) (ob : ObName) (g : GoalTree) → IsProp (HasParts f ob g)
HasParts-prop f ob Holds = hlevel props
HasParts-prop f ob (Fails why) = hlevel props
HasParts-prop f ob (If g on_yes on_no) =
    hlevel (HasPlaces-prop (name_count ob) g, HasParts-prop f ob on_yes, HasParts-prop f ob on_no)
HasParts-prop f ob (Choose case a b progress) = IsChoiceOf-prop f ob case a b progress
HasParts-prop f ob (Deliver o progress) =
    hlevel (IsProgressOf-prop ob progress, IsNextResult-prop ob progress.ops (results_of progress) o)
HasParts-prop f ob (Same left right) =
    hlevel (IsCellOf-prop f.head.mode (name_count ob) left, IsCellOf-prop f.head.mode (name_count ob) right)

-- that a goal is a node is a proposition
pub IsNode-prop : (f : Function) (ob : ObName) (g : GoalTree) → IsProp (IsNode f ob g)
IsNode-prop f ob g = hlevel (HasParts-prop f ob g, props)
