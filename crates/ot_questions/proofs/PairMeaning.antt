-- The plan of a pair means TP1 for its kinds.
use Rattle.std.proofs.Common.{◌≡◌, ℕ, ℤ, pos, ◌+ℤ◌, true, int_le, Option, Some, None, List, [], ◌∷◌, length, refl, ap}
use Rattle.std.proofs.Common.{sym, ◌∙◌, subst, inl, inr, ◌⊎◌}
use Rattle.std.specs.List.{AllByRecursion, Contains}
use Rattle.std.proofs.lemmas.Bool.{false≢true}
use Rattle.ot_model.specs.declared.cell.Cell.{Cell}
use Rattle.ot_model.specs.declared.op.Kind.{Kind}
use Rattle.ot_model.specs.declared.op.Op.{Op}
use Rattle.ot_model.specs.declared.op.TheConstants.{KINDS}
use Rattle.ot_model.specs.declared.op.Op.TheVariants as ops
use Rattle.ot_model.specs.Operations.{kind_of}
use Rattle.ot_model.specs.Effect.{IsEnabled}
use Rattle.fn_rules.specs.declared.function.Head.{Head}
use Rattle.fn_rules.specs.declared.function.ObName.TheVariants.{Pair}
use Rattle.fn_rules.specs.Functions.{Function, is_declared, HasDeclaredKind}
use Rattle.fn_rules.specs.Transformation.{IsAllowed}
use Rattle.fn_rules.specs.Properties.{converges_exchanged, HasTp1, HasTp1At}
use Rattle.fn_rules.specs.Obligations.{declared_kinds, pairs_of}
use Rattle.fn_rules.specs.Validity.{is_valid}
use Rattle.ask_core.specs.Plans.{end_of}
use Rattle.ot_questions.specs.declared.name.Who.TheVariants.{A, B}
use Rattle.ot_questions.specs.declared.place.SymOp.{SymOp}
use Rattle.ot_questions.specs.Names.{site_name, char_name}
use Rattle.ot_questions.specs.Places.{sym_op}
use Rattle.ot_questions.specs.Obligation.{ask_converge, ask_pair, plan_of}
use Rattle.ot_questions.specs.Meaning.{op_at, HasPair, HoldsAtLength, AllHold, AllHoldAtLength}
use Rattle.ot_questions.specs.Instances.{StandsForOperation, EndWith, AgreeAt}
use Rattle.ot_questions.proofs.Tests.{plus-zero}
use Rattle.ot_questions.proofs.Values.{sym_allowed}
use Rattle.ot_questions.proofs.Operations.{IsCounted}
use Rattle.ot_questions.proofs.Standing.{counted_by_standing, op_at-standing, standing-op_at, standing-named}
use Rattle.ot_questions.proofs.Laws.{plan_kept}
use Rattle.ot_questions.proofs.Instances.{valued, kind_of-op_at-sym_op, raised, enough, counted_raised, end-raised}
use Rattle.ot_questions.proofs.Instances.{none_from_value, value_from_none}
use Rattle.ot_questions.proofs.Pairs.{all_enabled, end-pair}
use Rattle.ot_questions.proofs.PairEnds.{PairSays, converge_says}
use Rattle.ot_questions.proofs.Answered.{Answered, begins_answered, Decides-all_enabled, Decides-allowed, length_test}
use Rattle.ot_questions.proofs.PairFailures.{PairPosed, agrees_at_each, converges_by_indices, no_cause_left}
use Rattle.ot_questions.proofs.Listed.{of_contained, each_kept, each_pair}
use Rattle.ot_questions.proofs.Lengths.{from_each_length, at_each_length}

-- what the plan of a pair says of the operations at the valuation
answered_at :
    (v : ℕ → ℤ) (f : Function) (x y : SymOp) (d : List Cell) → v 0 ≡ pos 0 → v 1 ≡ pos (length d)
    → IsCounted v x → IsCounted v y
    → Answered (PairPosed f (length d) (op_at v x) (op_at v y)) (PairSays f d (op_at v x) (op_at v y) (v 2))
    (end_of (ask_pair f x y) v)
answered_at v f x y d z e cx cy =
    let enabled = Decides-all_enabled v (length d) e (x ∷ y ∷ []) in
    let allowed = Decides-allowed v f x y cx cy in
    subst (λ end. Answered (PairPosed f (length d) (op_at v x) (op_at v y)) (PairSays f d (op_at v x) (op_at v y) (v 2))
    end) (sym (end-pair v f x y z))
    (begins_answered (PairPosed f (length d) (op_at v x) (op_at v y)) (PairSays f d (op_at v x) (op_at v y) (v 2))
    (int_le (v 0 +ℤ pos 0) (v 1 +ℤ pos 0)) (all_enabled v (x ∷ y ∷ [])) (sym_allowed v f.head x y)
    (end_of (ask_converge f x y) v) (length_test v (length d) z e)
    (λ en al.
    let both = enabled.0 en in
    ((both.0, both.1.0, allowed.0 al), converge_says v f x y d z e cx cy both.0 both.1.0))
    (λ posed. (enabled.1 (posed.0, (posed.1, tt)), allowed.1 posed.2)))

-- and so of any operations that the names stand for
pub pair_answered :
    (f : Function) (x y : SymOp) (v : ℕ → ℤ) (d : List Cell) (a b : Op) → v 0 ≡ pos 0 → v 1 ≡ pos (length d)
    → StandsForOperation v x a → StandsForOperation v y b
    → Answered (PairPosed f (length d) a b) (PairSays f d a b (v 2)) (end_of (ask_pair f x y) v)
pair_answered f x y v d a b z e sx sy =
    subst (λ o. Answered (PairPosed f (length d) o b) (PairSays f d o b (v 2)) (end_of (ask_pair f x y) v))
    (op_at-standing v x a z sx) (subst (λ o. Answered (PairPosed f (length d) (op_at v x) o)
    (PairSays f d (op_at v x) o (v 2)) (end_of (ask_pair f x y) v)) (op_at-standing v y b z sy)
    (answered_at v f x y d z e (counted_by_standing v x a sx) (counted_by_standing v y b sy)))

-- where the plan holds, both ways agree at the index
pub pair_agrees :
    (f : Function) (x y : SymOp) (v : ℕ → ℤ) (d : List Cell) (a b : Op) → v 0 ≡ pos 0 → v 1 ≡ pos (length d)
    → StandsForOperation v x a → StandsForOperation v y b
    → end_of (ask_pair f x y) v ≡ None → PairPosed f (length d) a b → EndWith f d a b (AgreeAt (v 2))
pair_agrees f x y v d a b z e sx sy h posed =
    elim (pair_answered f x y v d a b z e sx sy) [
      | inl said ↦ subst (λ end. PairSays f d a b (v 2) end) h said.1
      | inr none ↦ absurd (none.0 posed)
    ]

-- where both ways agree at the index on every document of the length, the plan holds
pub pair_none :
    (f : Function) (x y : SymOp) (v : ℕ → ℤ) (n : ℕ) (a b : Op) → v 0 ≡ pos 0 → v 1 ≡ pos n → StandsForOperation v x a
    → StandsForOperation v y b
    → ((d : List Cell) → length d ≡ n → PairPosed f n a b → EndWith f d a b (AgreeAt (v 2)))
    → end_of (ask_pair f x y) v ≡ None
pair_none f x y v n a b z e sx sy agrees =
    no_cause_left f n a b (v 2) (end_of (ask_pair f x y) v)
    (λ d len.
    subst (λ m. Answered (PairPosed f m a b) (PairSays f d a b (v 2)) (end_of (ask_pair f x y) v)) len
    (pair_answered f x y v d a b z (e ∙ ap pos (sym len)) sx sy))
    agrees

pub pair_holds_means : (f : Function) (k l : Kind) (n : ℕ) → HoldsAtLength f (Pair k l) n → HasPair f k l n
unfolding plan_of
pair_holds_means f k l n holds d a b len ka kb ea eb ok =
    converges_by_indices f d a b
    (λ i.
    let v = valued n i a b ops.Nop in
    pair_agrees f (sym_op k A) (sym_op l B) v d a b refl (ap pos (sym len))
    (standing-named v k A a ka refl refl refl) (standing-named v l B b kb refl refl refl)
    (none_from_value (end_of (ask_pair f (sym_op k A) (sym_op l B)) v) (holds v refl refl))
    (subst (λ m. IsEnabled a m) (sym len) ea, subst (λ m. IsEnabled b m) (sym len) eb, ok))

-- Sites and characters are raised until they are natural numbers, which changes no answer.
pub pair_meaning_holds : (f : Function) (k l : Kind) (n : ℕ) → is_valid f ≡ true → HasPair f k l n
    → HoldsAtLength f (Pair k l) n
unfolding plan_of
pair_meaning_holds f k l n valid has v z e =
    let s = enough v site_name in
    let c = enough v char_name in
    let w = raised v s c in
    let zero : w 0 ≡ pos 0 = plus-zero (v 0) ∙ z in
    let a = op_at w (sym_op k A) in
    let b = op_at w (sym_op l B) in
    value_from_none (end_of (ask_pair f (sym_op k A) (sym_op l B)) v)
    (sym (end-raised 9 v s c (ask_pair f (sym_op k A) (sym_op l B)) (plan_kept f (Pair k l) valid).asked)
    ∙ pair_none f (sym_op k A) (sym_op l B) w n a b zero (plus-zero (v 1) ∙ e)
    (standing-op_at w (sym_op k A) zero (counted_raised v k A))
    (standing-op_at w (sym_op l B) zero (counted_raised v l B))
    (λ d len posed.
    agrees_at_each f d a b (w 2)
    (has d a b len (kind_of-op_at-sym_op w k A) (kind_of-op_at-sym_op w l B) posed.0 posed.1 posed.2)))

-- a declared kind
pub declared_kind : (head : Head) (o : Option Kind) → HasDeclaredKind head o
    → (k : Kind) × (o ≡ Some k) × (is_declared head k ≡ true)
declared_kind head None h = absurd (false≢true h)
declared_kind head (Some k) h = (k, refl, h)

pub declared_from : (head : Head) (o : Option Kind) (k : Kind) → o ≡ Some k
    → is_declared head k ≡ true → HasDeclaredKind head o
declared_from head o k e h = subst (λ x. HasDeclaredKind head x) (sym e) h

-- Why pairs of kinds are enough, as TP1 does not depend on the order of two operations: nor does with whom
-- one may be, and of each two declared kinds the pair is listed in one of its two orders.
pub record ArePairsEnough (f : Function) : Type 0 where
  pub allowed : (a b : Op) → IsAllowed f a b → IsAllowed f b a
  pub listed :
      (k l : Kind) → is_declared f.head k ≡ true → is_declared f.head l ≡ true
      → Contains (pairs_of (declared_kinds f.head)) (Pair k l) ⊎ Contains (pairs_of (declared_kinds f.head)) (Pair l k)

-- where each pair of declared kinds holds at a length, the function has TP1 there
pub pairs_mean_at :
    (f : Function) → ArePairsEnough f → (n : ℕ) → AllHoldAtLength f (pairs_of (declared_kinds f.head)) n → HasTp1At f n
pairs_mean_at f enough n h d a b len (da, ea, ok, rest) =
    let k = declared_kind f.head (kind_of a) da in
    let l = declared_kind f.head (kind_of b) rest.0 in
    let a_enabled : IsEnabled a n = subst (λ m. IsEnabled a m) len ea in
    let b_enabled : IsEnabled b n = subst (λ m. IsEnabled b m) len rest.1 in
    elim (enough.listed k.0 l.0 k.2 l.2) [
      | inl listed ↦
          pair_holds_means f k.0 l.0 n (of_contained (λ ob. HoldsAtLength f ob n) _ (Pair k.0 l.0) h listed)
          d a b len k.1 l.1 a_enabled b_enabled ok.0
      | inr listed ↦
          converges_exchanged f d b a
          (pair_holds_means f l.0 k.0 n (of_contained (λ ob. HoldsAtLength f ob n) _ (Pair l.0 k.0) h listed)
          d b a len l.1 k.1 b_enabled a_enabled (enough.allowed a b ok.0))
    ]

pub all_pairs_mean : (f : Function) → ArePairsEnough f → AllHold f (pairs_of (declared_kinds f.head)) → HasTp1 f
all_pairs_mean f enough h d a b posed =
    pairs_mean_at f enough (length d) (at_each_length f _ h (length d)) d a b refl posed

-- where a valid function has TP1 at a length, each pair of declared kinds holds there
pair_holds_at :
    (f : Function) (n : ℕ) → is_valid f ≡ true → HasTp1At f n → (k l : Kind) → is_declared f.head k ≡ true
    → is_declared f.head l ≡ true → HoldsAtLength f (Pair k l) n
pair_holds_at f n valid has k l dk dl =
    pair_meaning_holds f k l n valid
    (λ d a b len ka kb ea eb ok.
    has d a b len (
      declared_from f.head (kind_of a) k ka dk,
      subst (λ m. IsEnabled a m) (sym len) ea,
      (ok, tt),
      (declared_from f.head (kind_of b) l kb dl, subst (λ m. IsEnabled b m) (sym len) eb, tt, tt),
    ))

pub all_declared : (head : Head) → AllByRecursion (λ k. is_declared head k ≡ true) (declared_kinds head)
all_declared head = each_kept (is_declared head) KINDS

pub tp1_holds_pairs_at :
    (f : Function) (n : ℕ) → is_valid f ≡ true → HasTp1At f n → AllHoldAtLength f (pairs_of (declared_kinds f.head)) n
tp1_holds_pairs_at f n valid has =
    each_pair (λ k. is_declared f.head k ≡ true) (λ ob. HoldsAtLength f ob n) (pair_holds_at f n valid has)
    (declared_kinds f.head) (all_declared f.head)

pub tp1_holds_all_pairs : (f : Function) → is_valid f ≡ true → HasTp1 f → AllHold f (pairs_of (declared_kinds f.head))
tp1_holds_all_pairs f valid has =
    from_each_length f _ (λ n. tp1_holds_pairs_at f n valid (λ d a b len posed. has d a b posed))
