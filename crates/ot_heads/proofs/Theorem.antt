-- No transformation that keeps operations has both properties where text is plain and can be inserted and deleted.
--
-- On the document [y], x is inserted behind the cell, z in front of it, and y is deleted. TP1 of the pairs leaves one
-- way for each of them, and then TP2 says of the two insertions, which are at one place once y is gone, that z stays.
-- With the two exchanged, x stays. So both do, and on the empty document that is zx one way and xz the other.
use Rattle.std.proofs.Common.{◌≡◌, ◌≢◌, ℕ, ◌≤◌, pos, List, [], ◌∷◌, length, Some, ap, subst, sym, ◌∙◌, arith}
use Rattle.std.proofs.lemmas.Int.{ints}
use Rattle.ot_model.specs.declared.cell.Cell.{Cell}
use Rattle.ot_model.specs.declared.op.Op.{Op}
use Rattle.ot_model.specs.declared.op.Op.TheVariants.{Ins, Del}
use Rattle.ot_model.specs.declared.op.Mode.{Mode}
use Rattle.ot_model.specs.declared.op.Mode.TheVariants.{Plain}
use Rattle.ot_model.specs.Cells.{live_cell}
use Rattle.fn_rules.specs.declared.function.Head.{Head}
use Rattle.fn_rules.specs.Properties.{AreConcurrent}
use Rattle.ot_heads.specs.Heads.{InsertsAndDeletesOnPlain}
use Rattle.ot_heads.specs.Transformations.{Transformation, KeepsOperations, function_with, ConvergesUnder}
use Rattle.ot_heads.specs.Transformations.{CommutesUnder, HasTp1Of, HasTp2Of}
use Rattle.ot_heads.proofs.Forms.{insertion_within, deletion_within}
use Rattle.ot_heads.proofs.Alone.{same_characters, behind_the_deleted, before_the_deleted, both_inserted}

-- the document [y], and the deletion of its cell by the second site
abbrev alone : List Cell
alone = live_cell 121 ∷ []

abbrev deletion : Op
deletion = Del (pos 0) 2

-- two insertions at one place, in either order
abbrev zx : List ℕ
zx = 122 ∷ 120 ∷ []

abbrev xz : List ℕ
xz = 120 ∷ 122 ∷ []

-- lists that are equal begin with one number
one_front : (m n : ℕ) (others rest : List ℕ) → m ∷ others ≡ n ∷ rest → m ≡ n
one_front m n others rest same = cc

module _ (head : Head) (t : Transformation) (is : InsertsAndDeletesOnPlain head) (keeps : KeepsOperations t)
    (tp1 : HasTp1Of head t) (tp2 : HasTp2Of head t) where
  -- TP1 on plain text
  converge : (d : List Cell) (a b : Op) → AreConcurrent (function_with head) d (a ∷ b ∷ [])
      → ConvergesUnder Plain t d a b
  converge d a b are = subst (λ (m : Mode). ConvergesUnder m t d a b) is.plain (tp1 d a b are)

  -- an insertion and the deletion are concurrent
  with_deletion :
      (p x i : ℕ) → p ≤ 1 → i ≢ 2 → AreConcurrent (function_with head) alone (Ins (pos p) x i ∷ deletion ∷ [])
  with_deletion p x i low sites = (
    is.inserts,
    (omega (arith, ints), omega (arith, ints, low)),
    (record { sites = λ _. sites; chars = λ _. tt }, tt),
    (is.deletes, (omega (arith, ints), omega (arith, ints)), tt, tt),
  )

  -- two insertions are
  two_insertions :
      (d : List Cell) (p q x i z k n : ℕ) → n ≡ length d → p ≤ n → q ≤ n → i ≢ k → x ≢ z
      → AreConcurrent (function_with head) d (Ins (pos p) x i ∷ Ins (pos q) z k ∷ [])
  two_insertions d p q x i z k n cells of_p of_q sites chars = (
    is.inserts,
    (omega (arith, ints), omega (arith, ints, cells, of_p)),
    (record { sites = λ _. sites; chars = λ _. chars }, tt),
    (is.inserts, (omega (arith, ints), omega (arith, ints, cells, of_q)), tt, tt),
  )

  -- x is inserted behind the cell, and behind its deletion at the front
  behind : (x i : ℕ) → x ≢ 121 → i ≢ 2
      → (t (Ins (pos 1) x i) deletion ≡ Some (Ins (pos 0) x i)) × (t deletion (Ins (pos 1) x i) ≡ Some deletion)
  behind x i char site =
      let at : ConvergesUnder Plain t alone (Ins (pos 1) x i) deletion =
      converge alone (Ins (pos 1) x i) deletion (with_deletion 1 x i (omega arith) site) in
      let forms =
      behind_the_deleted 121 x i 2 char at.b_after_a at.a_after_b
      (deletion_within (pos 0) 2 2 at.b_after_a
      (keeps deletion (Ins (pos 1) x i) at.b_after_a at.b_transformed) at.b_enabled)
      (insertion_within (pos 1) x i 0 at.a_after_b
      (keeps (Ins (pos 1) x i) deletion at.a_after_b at.a_transformed) at.a_enabled)
      at.one_document in (
        at.a_transformed ∙ ap (λ (o : Op). Some o) forms.0,
        at.b_transformed ∙ ap (λ (o : Op). Some o) forms.1,
      )

  -- z is inserted in front of the cell, and stays behind its deletion
  before : (z k : ℕ) → z ≢ 121 → k ≢ 2 → t (Ins (pos 0) z k) deletion ≡ Some (Ins (pos 0) z k)
  before z k char site =
      let at : ConvergesUnder Plain t alone (Ins (pos 0) z k) deletion =
      converge alone (Ins (pos 0) z k) deletion (with_deletion 0 z k (omega arith) site) in
      let forms =
      before_the_deleted 121 z k 2 char at.b_after_a at.a_after_b
      (deletion_within (pos 0) 2 2 at.b_after_a (keeps deletion (Ins (pos 0) z k) at.b_after_a at.b_transformed)
      at.b_enabled) (insertion_within (pos 0) z k 0 at.a_after_b
      (keeps (Ins (pos 0) z k) deletion at.a_after_b at.a_transformed) at.a_enabled) at.one_document in
      at.a_transformed ∙ ap (λ (o : Op). Some o) forms.0

  module _ (x i z k : ℕ) (x_is_not_y : x ≢ 121) (z_is_not_y : z ≢ 121) (x_is_not_z : x ≢ z) (i_is_not_2 : i ≢ 2)
      (k_is_not_2 : k ≢ 2) (i_is_not_k : i ≢ k) where
    -- z stays in front of x, with the cell between them
    over_the_cell : t (Ins (pos 0) z k) (Ins (pos 1) x i) ≡ Some (Ins (pos 0) z k)
    over_the_cell =
        let at : ConvergesUnder Plain t alone (Ins (pos 1) x i) (Ins (pos 0) z k) =
        converge alone (Ins (pos 1) x i) (Ins (pos 0) z k)
        (two_insertions alone 1 0 x i z k 1 (omega arith) (omega arith) (omega arith) i_is_not_k x_is_not_z) in
        let form =
        both_inserted 121 x z i k x_is_not_y z_is_not_y x_is_not_z at.b_after_a at.a_after_b
        (insertion_within (pos 0) z k 2 at.b_after_a
        (keeps (Ins (pos 0) z k) (Ins (pos 1) x i) at.b_after_a at.b_transformed) at.b_enabled)
        (insertion_within (pos 1) x i 2 at.a_after_b
        (keeps (Ins (pos 1) x i) (Ins (pos 0) z k) at.a_after_b at.a_transformed) at.a_enabled)
        at.one_document in
        at.b_transformed ∙ ap (λ (o : Op). Some o) form

    -- the three operations are concurrent
    three : AreConcurrent (function_with head) alone (Ins (pos 1) x i ∷ deletion ∷ Ins (pos 0) z k ∷ [])
    three = (
      is.inserts,
      (omega (arith, ints), omega (arith, ints)),
      (
        record { sites = λ _. i_is_not_2; chars = λ _. tt },
        (record { sites = λ _. i_is_not_k; chars = λ _. x_is_not_z }, tt),
      ),
      (
        is.deletes,
        (omega (arith, ints), omega (arith, ints)),
        (record { sites = λ _. λ e. k_is_not_2 (sym e); chars = λ _. tt }, tt),
        (is.inserts, (omega (arith, ints), omega (arith, ints)), tt, tt),
      ),
    )

    -- so z stays in front of x at one place
    stays : t (Ins (pos 0) z k) (Ins (pos 0) x i) ≡ Some (Ins (pos 0) z k)
    stays =
        let both : CommutesUnder t (Ins (pos 1) x i) deletion (Ins (pos 0) z k) =
        tp2 alone (Ins (pos 1) x i) deletion (Ins (pos 0) z k) three in
        let x_then = behind x i x_is_not_y i_is_not_2 in
        let z_then = before z k z_is_not_y k_is_not_2 in
        let b_transformed = both.b_transformed in
        let a_transformed = both.a_transformed in
        let c_by_a = both.c_by_a in
        let c_by_b = both.c_by_b in
        let one_way = both.c_by_a_then_b in
        let other_way = both.c_by_b_then_a in
        let x_moves = x_then.0 in
        let deletion_stays = x_then.1 in
        let z_over = over_the_cell in
        cc

  -- both stay, which TP1 forbids on the empty document
  pub no_transformation : ⊥
  no_transformation =
      let z_stays : t (Ins (pos 0) 122 3) (Ins (pos 0) 120 1) ≡ Some (Ins (pos 0) 122 3) =
      stays 120 1 122 3 (λ e. omega (arith, e)) (λ e. omega (arith, e)) (λ e. omega (arith, e)) (λ e. omega (arith, e))
      (λ e. omega (arith, e)) (λ e. omega (arith, e)) in
      let x_stays : t (Ins (pos 0) 120 1) (Ins (pos 0) 122 3) ≡ Some (Ins (pos 0) 120 1) =
      stays 122 3 120 1 (λ e. omega (arith, e)) (λ e. omega (arith, e)) (λ e. omega (arith, e)) (λ e. omega (arith, e))
      (λ e. omega (arith, e)) (λ e. omega (arith, e)) in
      let at : ConvergesUnder Plain t [] (Ins (pos 0) 120 1) (Ins (pos 0) 122 3) =
      converge [] (Ins (pos 0) 120 1) (Ins (pos 0) 122 3)
      (two_insertions [] 0 0 120 1 122 3 0 (omega arith) (omega arith) (omega arith) (λ e. omega (arith, e))
      (λ e. omega (arith, e))) in
      let z_transformed = at.b_transformed in
      let x_transformed = at.a_transformed in
      let z_is : at.b_after_a ≡ Ins (pos 0) 122 3 = cc in
      let x_is : at.a_after_b ≡ Ins (pos 0) 120 1 = cc in
      let one : zx ≡ xz =
      same_characters at.b_after_a at.a_after_b (Ins (pos 0) 122 3) (Ins (pos 0) 120 1) (live_cell 120 ∷ [])
      (live_cell 122 ∷ []) at.one_document z_is x_is in
      let front = one_front 122 120 (120 ∷ []) (122 ∷ []) one in
      omega (arith, front)
