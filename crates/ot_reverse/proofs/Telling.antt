-- What the searches of goals say of all documents.
use Rattle.std.proofs.Common.{◌≡◌, ℕ, ℤ, pos, Bool, true, false, Option, Some, None, List, [], ◌∷◌, length, MatchOption}
use Rattle.std.proofs.Common.{refl, sym, subst, inl, inr, ◌&&◌, if◌then◌else◌}
use Rattle.std.specs.Prelude.{filter}
use Rattle.std.specs.List.{AllByRecursion, Contains}
use Rattle.std.proofs.lemmas.Bool.{cases_Bool}
use Rattle.std.proofs.lemmas.List.{length-replicate}
use Rattle.diff_graph.specs.declared.lit.Lit.{Lit}
use Rattle.diff_tables.specs.Solutions.{valuation_of}
use Rattle.ot_model.specs.declared.cell.Cell.{Cell}
use Rattle.ot_model.specs.declared.op.Kind.{Kind}
use Rattle.ot_model.specs.declared.op.Op.{Op}
use Rattle.ot_model.specs.Cells.{live_cell}
use Rattle.ot_model.specs.Kinds.{kind_pairs}
use Rattle.ot_model.specs.Operations.{kind_of}
use Rattle.fn_rules.specs.declared.function.Head.{Head}
use Rattle.fn_rules.specs.Functions.{Function, has_declared_kind, is_declared, is_declared_of, is_declared_pair}
use Rattle.fn_rules.specs.Obligations.{declared_pairs}
use Rattle.fn_rules.specs.Properties.{AreConcurrent}
use Rattle.ask_core.specs.Plans.{Plan, end_of}
use Rattle.ask_core.specs.Questions.{FailingEnd}
use Rattle.ot_prove.specs.Outcomes.{FailsAt, HoldsEverywhere}
use Rattle.ot_questions.specs.declared.name.Who.{Who}
use Rattle.ot_questions.specs.declared.name.Who.TheVariants.{A, B, C}
use Rattle.ot_questions.specs.declared.why.Why.{Why}
use Rattle.ot_questions.specs.Instances.{NamesPair}
use Rattle.ot_questions.proofs.Listed.{of_contained}
use Rattle.ot_terms.specs.Standing.{ask_goal}
use Rattle.ot_values.specs.Values.{live_cells}
use Rattle.ot_audit.specs.declared.found.Sought.{Sought}
use Rattle.ot_audit.specs.declared.found.Sought.TheVariants as sought
use Rattle.ot_audit.specs.Findings.{IsLeastInstance, IsSoughtIn}
use Rattle.ot_audit.proofs.Everywhere.{of_kept}
use Rattle.ot_audit.proofs.Telling.{HaveNames, ListsTell, NamesStand, ended, least_named, none_fails}
use Rattle.ot_audit.specs.declared.back.Back.{Back}
use Rattle.ot_audit.specs.declared.back.Back.TheVariants.{Yes, No, Spent}
use Rattle.ot_reverse.specs.Answers.{AreSearched, GoesOnUnlessFound, TellsReversal}
use Rattle.ot_reverse.specs.Goals.{reversal_goal}
use Rattle.ot_reverse.specs.Reversal.{IsTakenBack, Reverses}

-- what the goals mean at one valuation
abbrev pub ReversalSought : Type 0
ReversalSought =
    (f e : Function) (k l : Kind) (v : ℕ → ℤ) (d : List Cell) (a b : Op) (why : Why) → NamesPair f k l v (length d) a b
    → end_of (ask_goal f (reversal_goal f e k l)) v ≡ Some why
    → AreConcurrent f d (a ∷ b ∷ []) × (IsTakenBack f e a b → ⊥)

abbrev pub ReversalHeld : Type 0
ReversalHeld =
    (f e : Function) (k l : Kind) (v : ℕ → ℤ) (d : List Cell) (a b : Op) → NamesPair f k l v (length d) a b
    → end_of (ask_goal f (reversal_goal f e k l)) v ≡ None → AreConcurrent f d (a ∷ b ∷ []) → IsTakenBack f e a b

-- any two operations and any length have names
two_ops : Op → Op → Who → Op
two_ops a b A = a
two_ops a b B = b
two_ops a b C = b

-- two operations of the kinds and a length have names
pair_named :
    HaveNames → (f : Function) (k l : Kind) (n : ℕ) (a b : Op) → is_declared_pair f.head k l ≡ true → kind_of a ≡ Some k
    → kind_of b ≡ Some l → (v : ℕ → ℤ) × NamesPair f k l v n a b
unfolding two_ops
pair_named names f k l n a b declared first second =
    let both = names n (pos 0) (two_ops a b) in (
      both.0,
      record {
        declared = declared;
        zero = both.1.zero;
        cells = both.1.cells;
        first = both.1.operations A k first;
        second = both.1.operations B l second;
      },
    )

-- the least values name the instance that is read off them
least_pair :
    NamesStand → (f : Function) (k l : Kind) (w : List Lit) (cells : ℕ) (a b : Op) → is_declared_pair f.head k l ≡ true
    → (is : IsLeastInstance k l w cells a b)
    → NamesPair f k l (valuation_of is.ops.values) (length (live_cells cells)) a b
least_pair stand f k l w cells a b declared is =
    let two = least_named stand k l w a b is.ops in
    let count : length (live_cells cells) ≡ cells = length-replicate cells (live_cell 121) in
    let named : valuation_of is.ops.values 1 ≡ pos (length (live_cells cells)) =
    subst (λ (n : ℕ). valuation_of is.ops.values 1 ≡ pos n) (sym count) (sym is.length) in
    record { declared = declared; zero = two.zero; cells = named; first = two.first; second = two.second }

-- the failing end at which a search stops
end_sought :
    (k l : Kind) (p : Plan Why) (o : Option (FailingEnd Why)) (cells : ℕ) (a b : Op)
    → MatchOption o (HoldsEverywhere p) (λ e. FailsAt p e)
    → MatchOption o ⊥ (λ e. IsLeastInstance k l e.answers cells a b)
    → (e : FailingEnd Why) × FailsAt p e × IsLeastInstance k l e.answers cells a b
end_sought k l p None cells a b tells is = absurd is
end_sought k l p (Some e) cells a b tells is = (e, tells, is)

module _ (stand : NamesStand) (names : HaveNames) (tell : ListsTell) (means : ReversalSought) (held : ReversalHeld)
    (f e : Function) (budget : ℕ) where
  -- where an instance is found, its operations are concurrent and the first is not taken back
  pub instance_told :
      (k l : Kind) (cells : ℕ) (a b : Op) → is_declared_pair f.head k l ≡ true
      → IsSoughtIn f k l (reversal_goal f e k l) budget (sought.At cells a b)
      → AreConcurrent f (live_cells cells) (a ∷ b ∷ []) × (IsTakenBack f e a b → ⊥)
  instance_told k l cells a b declared found =
      let p = ask_goal f (reversal_goal f e k l) in
      let at =
      end_sought k l p found.questions.failing cells a b (tell p found.questions found.listed) found.told.1 in
      let v = valuation_of at.2.ops.values in
      means f e k l v (live_cells cells) a b at.0.why (least_pair stand f k l at.0.answers cells a b declared at.2)
      (at.1.1 v at.2.ops.least.met)

  -- what is so of a pair of kinds
  abbrev HoldsOn : Kind × Kind → Type 0
  HoldsOn pair =
      (d : List Cell) (a b : Op) → kind_of a ≡ Some pair.0 → kind_of b ≡ Some pair.1 → AreConcurrent f d (a ∷ b ∷ [])
      → IsTakenBack f e a b

  nowhere_told :
      (k l : Kind) → is_declared_pair f.head k l ≡ true
      → IsSoughtIn f k l (reversal_goal f e k l) budget sought.Nowhere → HoldsOn (k, l)
  nowhere_told k l declared found = λ d a b first second concurrent.
      let p = ask_goal f (reversal_goal f e k l) in
      let named = pair_named names f k l (length d) a b declared first second in
      let holds = none_fails tell p found.questions found.listed found.told.1 in
      held f e k l named.0 d a b named.1 (ended (end_of p named.0) (holds named.0)) concurrent

  -- what is told of some pairs of kinds
  abbrev TellsOn : List (Kind × Kind) → Back → Type 0
  TellsOn pairs Yes = AllByRecursion HoldsOn pairs
  TellsOn pairs (No doc a b there back) = TellsReversal f e (No doc a b there back)
  TellsOn pairs Spent = Unit {0}

  one_more : (pair : Kind × Kind) (pairs : List (Kind × Kind)) (answer : Back) → HoldsOn pair → TellsOn pairs answer
      → TellsOn (pair ∷ pairs) answer
  one_more pair pairs Yes here others = (here, others)
  one_more pair pairs (No doc a b there back) here others = others
  one_more pair pairs Spent here others = others

  -- one more pair of kinds: what is found of it, and what is told of the others
  goes_told :
      (pair : Kind × Kind) (pairs : List (Kind × Kind)) (found : Sought) (answer : Back)
      → is_declared_of f.head pair ≡ true
      → IsSoughtIn f pair.0 pair.1 (reversal_goal f e pair.0 pair.1) budget found
      → (AreSearched f e budget pairs answer → TellsOn pairs answer)
      → GoesOnUnlessFound f e found (AreSearched f e budget pairs) answer → TellsOn (pair ∷ pairs) answer
  goes_told pair pairs sought.Nowhere answer declared is others goes =
      one_more pair pairs answer (nowhere_told pair.0 pair.1 declared is) (others goes)
  goes_told pair pairs (sought.At cells a b) answer declared is others goes =
      let at = instance_told pair.0 pair.1 cells a b declared is in
      subst (λ (x : Back). TellsOn (pair ∷ pairs) x) (sym goes) (at.0, at.1, refl, refl)
  goes_told pair pairs sought.Spent answer declared is others goes =
      subst (λ (x : Back). TellsOn (pair ∷ pairs) x) (sym goes) tt

  pairs_told :
      (pairs : List (Kind × Kind)) (answer : Back) → AllByRecursion (λ pair. is_declared_of f.head pair ≡ true) pairs
      → AreSearched f e budget pairs answer → TellsOn pairs answer
  pairs_told [] answer declared is = subst (λ (x : Back). TellsOn [] x) (sym is) tt
  pairs_told (pair ∷ pairs) answer declared (found, is, goes) =
      goes_told pair pairs found answer declared.0 is (pairs_told pairs answer declared.1) goes

-- an operation of the function's kinds has one of them
declared_kind : (head : Head) (o : Option Kind) → has_declared_kind head o ≡ true
    → (k : Kind) × (o ≡ Some k) × (is_declared head k ≡ true)
declared_kind head None declared = absurd (cc)
declared_kind head (Some k) declared = (k, refl, declared)

both_pass : (x y : Bool) → x ≡ true → y ≡ true → (x && y) ≡ true
both_pass true true first second = refl
both_pass true false first second = second
both_pass false y first second = absurd (cc)

-- what a filter keeps passes its test
pub all_kept : {X : Type 0} (p : X → Bool) (xs : List X) → AllByRecursion (λ x. p x ≡ true) (filter p xs)
all_kept p [] = tt
all_kept {X = X} p (x ∷ xs) = elim (cases_Bool (p x)) [
  | inl kept ↦
      subst (λ b. AllByRecursion (λ y. p y ≡ true) (if b then x ∷ filter p xs else filter p xs))
      (sym kept) (kept, all_kept p xs)
  | inr dropped ↦
      subst (λ b. AllByRecursion (λ y. p y ≡ true) (if b then x ∷ filter p xs else filter p xs))
      (sym dropped) (all_kept p xs)
]

module _ (stand : NamesStand) (names : HaveNames) (tell : ListsTell) (means : ReversalSought) (held : ReversalHeld)
    (listed : (k l : Kind) → Contains kind_pairs (k, l)) (f e : Function) (budget : ℕ) where
  abbrev HoldsOf : Kind × Kind → Type 0
  HoldsOf pair =
      (d : List Cell) (a b : Op) → kind_of a ≡ Some pair.0 → kind_of b ≡ Some pair.1 → AreConcurrent f d (a ∷ b ∷ [])
      → IsTakenBack f e a b

  reverses_of : AllByRecursion HoldsOf (declared_pairs f.head) → Reverses e f
  reverses_of all = λ d a b concurrent.
      let first = declared_kind f.head (kind_of a) concurrent.0 in
      let second = declared_kind f.head (kind_of b) concurrent.3.0 in
      of_contained (λ pair. is_declared_of f.head pair ≡ true → HoldsOf pair) kind_pairs (first.0, second.0)
      (of_kept (is_declared_of f.head) HoldsOf kind_pairs all) (listed first.0 second.0)
      (both_pass (is_declared f.head first.0) (is_declared f.head second.0) first.2 second.2) d a b
      first.1 second.1 concurrent

  pub whole_told : (answer : Back) → AreSearched f e budget (declared_pairs f.head) answer → TellsReversal f e answer
  whole_told answer is =
      by_answer answer (pairs_told stand names tell means held f e budget (declared_pairs f.head) answer
      (all_kept (is_declared_of f.head) kind_pairs) is)
    where
      by_answer : (x : Back)
          → TellsOn stand names tell means held f e budget (declared_pairs f.head) x → TellsReversal f e x
      by_answer Yes told = reverses_of told
      by_answer (No doc a b there back) told = told
      by_answer Spent told = tt
