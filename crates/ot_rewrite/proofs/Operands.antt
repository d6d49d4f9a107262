-- The operations that an obligation transforms: as they were made, or results that are not far.
use Rattle.std.proofs.Common.{◌≡◌, ◌⊎◌, ℕ, ◌-◌, ◌≤◌, ◌&&◌, IsTrue, Some, List, [], ◌∷◌, length, MatchOption, refl, sym}
use Rattle.std.proofs.Common.{subst, inl, inr}
use Rattle.ot_model.specs.declared.op.Kind.{Kind}
use Rattle.fn_rules.specs.declared.function.ObName.{ObName}
use Rattle.fn_rules.specs.declared.function.ObName.TheVariants.{Pair, Triple}
use Rattle.fn_rules.specs.Functions.{Function, IsForKind, is_declared}
use Rattle.fn_rules.specs.Obligations.{is_obligation}
use Rattle.ot_questions.specs.declared.place.SymOp.{SymOp}
use Rattle.ot_questions.specs.declared.place.SymOp.TheVariants.{Nop}
use Rattle.ot_questions.specs.Names.{name_count}
use Rattle.ot_questions.specs.Nears.{IsNear, IsNearOp, IsDeclaredOp}
use Rattle.ot_questions.proofs.Nears.{IsNear-zero, IsNear-more, both_true}
use Rattle.ot_terms.specs.Belonging.{HasNames, IsMade, IsMoved, AreOperandsOf, AreResults, next_operands, reach_of}

-- the names, the offset and the kind of an operation that may be transformed
pub record IsOperand (f : Function) (ob : ObName) (n : ℕ) (o : SymOp) : Type 0 where
  pub names : HasNames (name_count ob) o
  pub near : IsNearOp n o
  pub declared : IsDeclaredOp f.head o

abbrev pub AreOperands : Function → ObName → ℕ → SymOp × SymOp → Type 0
AreOperands f ob n pair = IsOperand f ob n pair.0 × IsOperand f ob n pair.1

-- how far the operands of the next transformation may stand after so many results
abbrev pub operand_reach : ObName → ℕ → ℕ
operand_reach ob n = reach_of ob n - 99

module _ (f : Function) (ob : ObName) where
  pub IsOperand-more : (m n : ℕ) (o : SymOp) → m ≤ n → IsOperand f ob m o → IsOperand f ob n o
  IsOperand-more m n o le h = record { names = h.names; near = IsNear-more m n _ le h.near; declared = h.declared }

  IsOperand-nop : (n : ℕ) → IsOperand f ob n Nop
  IsOperand-nop n = record { names = tt; near = IsNear-zero n; declared = refl }

  IsOperand-made : (k : Kind) (a : SymOp) → IsTrue (is_declared f.head k)
      → IsMade (name_count ob) k a → IsOperand f ob 0 a
  IsOperand-made k a d h = record {
    names = h.names;
    near = subst (λ x. IsNear 0 x) (sym h.at) (IsNear-zero 0);
    declared = subst (λ t. IsForKind f.head t) (sym h.kind) d;
  }

  pub IsOperand-result :
      (n : ℕ) (first r : SymOp) → IsDeclaredOp f.head first
      → (r ≡ Nop) ⊎ IsMoved (name_count ob) n first r → IsOperand f ob n r
  IsOperand-result n first r d (inl e) = subst (λ o. IsOperand f ob n o) (sym e) (IsOperand-nop n)
  IsOperand-result n first r d (inr h) =
      record { names = h.names; near = h.near; declared = subst (λ t. IsForKind f.head t) (sym h.kind) d }

-- the operations of a pair, and their results
module _ (f : Function) (k l : Kind) (a b : SymOp) (os : List SymOp)
    (ha : IsOperand f (Pair k l) 0 a) (hb : IsOperand f (Pair k l) 0 b) where
  pair_operands :
      (got : List SymOp)
      → MatchOption (next_operands (Pair k l) (a ∷ b ∷ os) got) (Unit {0})
      (AreOperands f (Pair k l) (operand_reach (Pair k l) (length got)))
  pair_operands [] = (hb, ha)
  pair_operands (x ∷ []) = (ha, hb)
  pair_operands (x ∷ y ∷ got) = tt

  pub pair_results :
      (x y : SymOp) (got : List SymOp) → AreResults (Pair k l) (a ∷ b ∷ os) [] (x ∷ y ∷ got)
      → AreOperands f (Pair k l) 99 (x, y)
  pair_results x y got h =
      (IsOperand-result f (Pair k l) 99 b x hb.declared h.0, IsOperand-result f (Pair k l) 99 a y ha.declared h.1.0)

-- the operations of a triple, and their results
module _ (f : Function) (k l m : Kind) (a b c : SymOp) (os : List SymOp)
    (ha : IsOperand f (Triple k l m) 0 a) (hb : IsOperand f (Triple k l m) 0 b)
    (hc : IsOperand f (Triple k l m) 0 c) where
  result :
      (n : ℕ) (first r : SymOp) → IsOperand f (Triple k l m) 0 first → (r ≡ Nop) ⊎ IsMoved 12 n first r
      → IsOperand f (Triple k l m) n r
  result n first r h moved = IsOperand-result f (Triple k l m) n first r h.declared moved

  -- the next two operations of a triple are operands, after each number of results
  triple_operands :
      (got : List SymOp) → AreResults (Triple k l m) (a ∷ b ∷ c ∷ os) [] got
      → MatchOption (next_operands (Triple k l m) (a ∷ b ∷ c ∷ os) got) (Unit {0})
      (AreOperands f (Triple k l m) (operand_reach (Triple k l m) (length got)))
  triple_operands [] h = (hb, ha)
  triple_operands (x ∷ []) h = (hc, ha)
  triple_operands (x ∷ y ∷ []) h = (result 99 c y hc h.1.0, result 99 b x hb h.0)
  triple_operands (x ∷ y ∷ z ∷ []) h = (ha, hb)
  triple_operands (x ∷ y ∷ z ∷ u ∷ []) h = (hc, hb)
  triple_operands (x ∷ y ∷ z ∷ u ∷ v ∷ []) h = (result 99 c v hc h.1.1.1.1.0, result 99 a u ha h.1.1.1.0)
  triple_operands (x ∷ y ∷ z ∷ u ∷ v ∷ w ∷ got) h = tt

  -- the third operation's forms behind the other two
  pub triple_results :
      (x y left u v right : SymOp) (got : List SymOp)
      → AreResults (Triple k l m) (a ∷ b ∷ c ∷ os) [] (x ∷ y ∷ left ∷ u ∷ v ∷ right ∷ got)
      → AreOperands f (Triple k l m) 198 (left, right)
  triple_results x y left u v right got h =
      let behind_a = result 99 c y hc h.1.0 in
      let behind_b = result 99 c v hc h.1.1.1.1.0 in (
        IsOperand-result f (Triple k l m) 198 y left behind_a.declared h.1.1.0,
        IsOperand-result f (Triple k l m) 198 v right behind_b.declared h.1.1.1.1.1.0,
      )

-- the operations of an obligation of the function
module _ (f : Function) where
  pub made_pair :
      (k l : Kind) (a b : SymOp) → IsTrue (is_obligation f.head (Pair k l)) → IsMade 9 k a → IsMade 9 l b
      → AreOperands f (Pair k l) 0 (a, b)
  made_pair k l a b d ha hb =
      let declared = both_true (is_declared f.head k) (is_declared f.head l) d in
      (IsOperand-made f (Pair k l) k a declared.0 ha, IsOperand-made f (Pair k l) l b declared.1 hb)

  pub made_triple :
      (k l m : Kind) (a b c : SymOp) → IsTrue (is_obligation f.head (Triple k l m)) → IsMade 12 k a
      → IsMade 12 l b → IsMade 12 m c
      → IsOperand f (Triple k l m) 0 a × IsOperand f (Triple k l m) 0 b × IsOperand f (Triple k l m) 0 c
  made_triple k l m a b c d ha hb hc =
      let first_two = both_true (is_declared f.head k && is_declared f.head l) (is_declared f.head m) d in
      let declared = both_true (is_declared f.head k) (is_declared f.head l) first_two.0 in (
        IsOperand-made f (Triple k l m) k a declared.0 ha,
        IsOperand-made f (Triple k l m) l b declared.1 hb,
        IsOperand-made f (Triple k l m) m c first_two.1 hc,
      )

  -- the next two operations of an obligation are operands
  operands :
      (ob : ObName) (os got : List SymOp) → IsTrue (is_obligation f.head ob) → AreOperandsOf ob os
      → AreResults ob os [] got
      → MatchOption (next_operands ob os got) (Unit {0}) (AreOperands f ob (operand_reach ob (length got)))
  operands (Pair k l) os got d made results =
      let both = made_pair k l made.0 made.1 d made.3 made.4 in
      subst (λ t. MatchOption (next_operands (Pair k l) t got) (Unit {0})
      (AreOperands f (Pair k l) (operand_reach (Pair k l) (length got))))
      (sym made.2) (pair_operands f k l made.0 made.1 (Nop ∷ []) both.0 both.1 got)
  operands (Triple k l m) os got d made results =
      let three = made_triple k l m made.0 made.1 made.2 d made.4 made.5 made.6 in
      subst
      (λ t. AreResults (Triple k l m) t [] got
      → MatchOption (next_operands (Triple k l m) t got) (Unit {0})
      (AreOperands f (Triple k l m) (operand_reach (Triple k l m) (length got))))
      (sym made.3) (triple_operands f k l m made.0 made.1 made.2 [] three.0 three.1 three.2 got) results

  -- those of the next transformation
  pub next_are_operands :
      (ob : ObName) (os got : List SymOp) (a b : SymOp) → IsTrue (is_obligation f.head ob) → AreOperandsOf ob os
      → AreResults ob os [] got
      → next_operands ob os got ≡ Some (a, b) → AreOperands f ob (operand_reach ob (length got)) (a, b)
  next_are_operands ob os got a b d made results e =
      subst (λ t. MatchOption t (Unit {0}) (AreOperands f ob (operand_reach ob (length got)))) e
      (operands ob os got d made results)
