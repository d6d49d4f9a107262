-- Where the plan of a pair ends at a valuation, for a caller with a document in hand.
use Rattle.std.proofs.Common.{◌≡◌, ℕ, ℤ, ◌+ℤ◌, true, Option, Some, None, List, [], ◌∷◌, length, refl, sym, ◌∙◌, subst}
use Rattle.std.proofs.Common.{inl, inr, ◌⊎◌}
use Rattle.std.specs.Prelude.{◌↔◌, IsSome}
use Rattle.std.proofs.lemmas.Bool.{and_parts}
use Rattle.ot_model.specs.declared.cell.Cell.{Cell}
use Rattle.ot_model.specs.declared.op.Kind.{Kind}
use Rattle.ot_model.specs.declared.op.Kind.TheVariants as kinds
use Rattle.ot_model.specs.declared.op.Op.{Op}
use Rattle.ot_model.specs.Operations.{kind_of}
use Rattle.fn_rules.specs.declared.function.ObName.TheVariants.{Pair}
use Rattle.fn_rules.specs.Functions.{Function, is_declared, HasDeclaredKind}
use Rattle.fn_rules.specs.Properties.{AreConcurrent}
use Rattle.ask_core.specs.Plans.{end_of}
use Rattle.ot_questions.specs.declared.name.Who.{Who}
use Rattle.ot_questions.specs.declared.name.Who.TheVariants.{A, B}
use Rattle.ot_questions.specs.declared.why.Why.{Why}
use Rattle.ot_questions.specs.declared.why.Why.TheVariants.{Cells}
use Rattle.ot_questions.specs.Names.{index_name}
use Rattle.ot_questions.specs.Places.{sym_op, sym_kind}
use Rattle.ot_questions.specs.Obligation.{plan_of}
use Rattle.ot_questions.specs.Instances.{StandsForOperation, NamesPair, EndWith, AgreeAt, cell_in, PairFails}
use Rattle.ot_questions.specs.Instances.{ShowsCause, EndsBy}
use Rattle.ot_questions.proofs.PairEnds.{PairSays}
use Rattle.ot_questions.proofs.Answered.{Answered}
use Rattle.ot_questions.proofs.PairFailures.{PairPosed, says_fails, one_cause}
use Rattle.ot_questions.proofs.PairMeaning.{pair_answered, pair_agrees, pair_none, declared_from}

sym_kind-sym_op : (k : Kind) (who : Who) → sym_kind (sym_op k who) ≡ Some k
sym_kind-sym_op kinds.Ins who = refl
sym_kind-sym_op kinds.Del who = refl
sym_kind-sym_op kinds.Upd who = refl

-- an operation that the names of a declared kind stand for is of a declared kind
pub declared_by_standing :
    (f : Function) (v : ℕ → ℤ) (k : Kind) (who : Who) (a : Op) → is_declared f.head k ≡ true
    → StandsForOperation v (sym_op k who) a
    → HasDeclaredKind f.head (kind_of a)
declared_by_standing f v k who a declared h =
    declared_from f.head (kind_of a) k (sym h.kind ∙ sym_kind-sym_op k who) declared

module _ (f : Function) (k l : Kind) (v : ℕ → ℤ) (d : List Cell) (a b : Op) (h : NamesPair f k l v (length d) a b) where
  posed_from : AreConcurrent f d (a ∷ b ∷ []) → PairPosed f (length d) a b
  posed_from c = (c.1, c.3.1, c.2.0)

  concurrent_from : PairPosed f (length d) a b → AreConcurrent f d (a ∷ b ∷ [])
  concurrent_from posed =
      let both = and_parts (is_declared f.head k) (is_declared f.head l) h.declared in (
        declared_by_standing f v k A a both.0 h.first,
        posed.0,
        (posed.2, tt),
        (declared_by_standing f v l B b both.1 h.second, posed.1, tt, tt),
      )

  answered : Answered (PairPosed f (length d) a b) (PairSays f d a b (v 2)) (end_of (plan_of f (Pair k l)) v)
  unfolding plan_of
  answered = pair_answered f (sym_op k A) (sym_op l B) v d a b h.zero h.cells h.first h.second

  cause : (why : Why) → end_of (plan_of f (Pair k l)) v ≡ Some why
      → PairPosed f (length d) a b × PairSays f d a b (v 2) (Some why)
  cause why e =
      elim answered [
        | inl said ↦ (said.0, subst (λ end. PairSays f d a b (v 2) end) e said.1)
        | inr none ↦ (let wrong : None ≡ Some why = sym none.1 ∙ e in absurd (cc))
      ]

  pub pair_fails :
      (why : Why) → end_of (plan_of f (Pair k l)) v ≡ Some why → ShowsCause d a b (v index_name) why
      → AreConcurrent f d (a ∷ b ∷ []) × PairFails f d a b (v index_name) why
  pair_fails why e shows = let said = cause why e in (concurrent_from said.0, says_fails f d a b (v 2) why said.1 shows)

  pub pair_read :
      (left dead : Option ℤ) (off : ℤ) → end_of (plan_of f (Pair k l)) v ≡ Some (Cells left dead)
      → (left ≡ Some off) ⊎ (dead ≡ Some off) → IsSome (cell_in d (v index_name +ℤ off))
  pair_read left dead off e named = (cause (Cells left dead) e).1.1 off named

  pub pair_ends :
      (why : Why) → AreConcurrent f d (a ∷ b ∷ []) → PairFails f d a b (v index_name) why
      → EndsBy why (end_of (plan_of f (Pair k l)) v)
  pair_ends why concurrent fails =
      elim answered [
        | inl said ↦ one_cause f d a b (v 2) why (end_of (plan_of f (Pair k l)) v) fails said.1
        | inr none ↦ absurd (none.0 (posed_from concurrent))
      ]

-- the plan ends in `Holds` exactly where concurrent operations agree at the index, on all documents of the length
pub pair_holds_where :
    (f : Function) (k l : Kind) (v : ℕ → ℤ) (n : ℕ) (a b : Op) → NamesPair f k l v n a b
    → (end_of (plan_of f (Pair k l)) v ≡ None)
    ↔ ((d : List Cell) → length d ≡ n → AreConcurrent f d (a ∷ b ∷ []) → EndWith f d a b (AgreeAt (v index_name)))
unfolding plan_of
pair_holds_where f k l v n a b h = (
  λ e d len concurrent.
      let here : NamesPair f k l v (length d) a b = subst (λ m. NamesPair f k l v m a b) (sym len) h in
      pair_agrees f (sym_op k A) (sym_op l B) v d a b here.zero here.cells here.first here.second e
      (posed_from f k l v d a b here concurrent),
  λ agrees. pair_none f (sym_op k A) (sym_op l B) v n a b h.zero h.cells h.first h.second
      (λ d len posed.
      let here : NamesPair f k l v (length d) a b = subst (λ m. NamesPair f k l v m a b) (sym len) h in
      agrees d len (concurrent_from f k l v d a b here (subst (λ m. PairPosed f m a b) (sym len) posed))),
)
