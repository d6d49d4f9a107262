-- Two operations on a document of one cell. Where operations are kept, and the three characters differ, TP1 leaves one
-- way each: what follows is by comparing the documents of all the others.
use Rattle.std.proofs.Common.{◌≡◌, ◌≢◌, ℕ, zero, suc, pos, List, [], ◌∷◌, map, sym, ap, ◌∙◌, inl, inr, arith}
use Rattle.ot_model.specs.declared.cell.Cell.{Cell}
use Rattle.ot_model.specs.declared.op.Op.{Op}
use Rattle.ot_model.specs.declared.op.Op.TheVariants.{Ins, Del, Nop}
use Rattle.ot_model.specs.declared.op.Mode.TheVariants.{Plain}
use Rattle.ot_model.specs.Cells.{live_cell}
use Rattle.ot_model.specs.Effect.{document_after}
use Rattle.ot_heads.proofs.Forms.{IsInsertionWithin, IsDeletionWithin}

-- the characters of a document
abbrev pub characters : List Cell → List ℕ
characters d = map (λ (cell : Cell). cell.ch) d

-- two operations behind two documents give the same characters, whatever the operations are called
pub same_characters :
    (b a b_is a_is : Op) (d e : List Cell) → document_after Plain b d ≡ document_after Plain a e → b ≡ b_is → a ≡ a_is
    → characters (document_after Plain b_is d) ≡ characters (document_after Plain a_is e)
same_characters b a b_is a_is d e same of_b of_a =
    ap characters
    (sym (ap (λ (o : Op). document_after Plain o d) of_b) ∙ (same ∙ ap (λ (o : Op). document_after Plain o e) of_a))

-- x behind the cell y, which the other operation deletes: the insertion is at the front then, and the deletion stays
module _ (y x i j : ℕ) (apart : x ≢ y) where
  pub behind_the_deleted :
      (b a : Op) → IsDeletionWithin j 2 b → IsInsertionWithin x i 0 a
      → document_after Plain b (live_cell y ∷ live_cell x ∷ []) ≡ document_after Plain a []
      → (a ≡ Ins (pos 0) x i) × (b ≡ Del (pos 0) j)
  behind_the_deleted b a (inl of_b) (inl of_a) same =
      absurd (let e : y ∷ x ∷ [] ≡ [] = same_characters b a Nop Nop _ _ same of_b of_a in cc)
  behind_the_deleted b a (inl of_b) (inr (zero, at, of_a)) same =
      absurd (let e : y ∷ x ∷ [] ≡ x ∷ [] = same_characters b a Nop (Ins (pos 0) x i) _ _ same of_b of_a in cc)
  behind_the_deleted b a (inr (zero, there, of_b)) (inl of_a) same =
      absurd (let e : x ∷ [] ≡ [] = same_characters b a (Del (pos 0) j) Nop _ _ same of_b of_a in cc)
  behind_the_deleted b a (inr (zero, there, of_b)) (inr (zero, at, of_a)) same = (of_a, of_b)
  behind_the_deleted b a (inr (suc zero, there, of_b)) (inl of_a) same =
      absurd (let e : y ∷ [] ≡ [] = same_characters b a (Del (pos 1) j) Nop _ _ same of_b of_a in cc)
  behind_the_deleted b a (inr (suc zero, there, of_b)) (inr (zero, at, of_a)) same =
      absurd (apart (let e : y ∷ [] ≡ x ∷ [] =
      same_characters b a (Del (pos 1) j) (Ins (pos 0) x i) _ _ same of_b of_a in cc))
  behind_the_deleted b a (inr (suc (suc q), there, of_b)) of_a same = absurd (omega (arith, there))
  behind_the_deleted b a of_b (inr (suc p, at, of_a)) same = absurd (omega (arith, at))

  -- x in front of it: the insertion stays, and the deletion moves
  pub before_the_deleted :
      (b a : Op) → IsDeletionWithin j 2 b → IsInsertionWithin x i 0 a
      → document_after Plain b (live_cell x ∷ live_cell y ∷ []) ≡ document_after Plain a []
      → (a ≡ Ins (pos 0) x i) × (b ≡ Del (pos 1) j)
  before_the_deleted b a (inl of_b) (inl of_a) same =
      absurd (let e : x ∷ y ∷ [] ≡ [] = same_characters b a Nop Nop _ _ same of_b of_a in cc)
  before_the_deleted b a (inl of_b) (inr (zero, at, of_a)) same =
      absurd (let e : x ∷ y ∷ [] ≡ x ∷ [] = same_characters b a Nop (Ins (pos 0) x i) _ _ same of_b of_a in cc)
  before_the_deleted b a (inr (zero, there, of_b)) (inl of_a) same =
      absurd (let e : y ∷ [] ≡ [] = same_characters b a (Del (pos 0) j) Nop _ _ same of_b of_a in cc)
  before_the_deleted b a (inr (zero, there, of_b)) (inr (zero, at, of_a)) same =
      absurd (apart (let e : y ∷ [] ≡ x ∷ [] =
      same_characters b a (Del (pos 0) j) (Ins (pos 0) x i) _ _ same of_b of_a in cc))
  before_the_deleted b a (inr (suc zero, there, of_b)) (inl of_a) same =
      absurd (let e : x ∷ [] ≡ [] = same_characters b a (Del (pos 1) j) Nop _ _ same of_b of_a in cc)
  before_the_deleted b a (inr (suc zero, there, of_b)) (inr (zero, at, of_a)) same = (of_a, of_b)
  before_the_deleted b a (inr (suc (suc q), there, of_b)) of_a same = absurd (omega (arith, there))
  before_the_deleted b a of_b (inr (suc p, at, of_a)) same = absurd (omega (arith, at))

-- x behind the cell y, and z in front of it: z stays where it is
module _ (y x z i k : ℕ) (x_is_not_y : x ≢ y) (z_is_not_y : z ≢ y) (x_is_not_z : x ≢ z) where
  pub both_inserted :
      (c a : Op) → IsInsertionWithin z k 2 c → IsInsertionWithin x i 2 a
      → document_after Plain c (live_cell y ∷ live_cell x ∷ [])
      ≡ document_after Plain a (live_cell z ∷ live_cell y ∷ [])
      → c ≡ Ins (pos 0) z k
  both_inserted c a (inl of_c) (inl of_a) same =
      absurd (z_is_not_y (let e : y ∷ x ∷ [] ≡ z ∷ y ∷ [] = same_characters c a Nop Nop _ _ same of_c of_a in cc))
  both_inserted c a (inl of_c) (inr (zero, at, of_a)) same =
      absurd (let e : y ∷ x ∷ [] ≡ x ∷ z ∷ y ∷ [] = same_characters c a Nop (Ins (pos 0) x i) _ _ same of_c of_a in cc)
  both_inserted c a (inl of_c) (inr (suc zero, at, of_a)) same =
      absurd (let e : y ∷ x ∷ [] ≡ z ∷ x ∷ y ∷ [] = same_characters c a Nop (Ins (pos 1) x i) _ _ same of_c of_a in cc)
  both_inserted c a (inl of_c) (inr (suc (suc zero), at, of_a)) same =
      absurd (let e : y ∷ x ∷ [] ≡ z ∷ y ∷ x ∷ [] = same_characters c a Nop (Ins (pos 2) x i) _ _ same of_c of_a in cc)
  both_inserted c a (inr (zero, there, of_c)) (inl of_a) same =
      absurd (let e : z ∷ y ∷ x ∷ [] ≡ z ∷ y ∷ [] = same_characters c a (Ins (pos 0) z k) Nop _ _ same of_c of_a in cc)
  both_inserted c a (inr (zero, there, of_c)) (inr (zero, at, of_a)) same =
      absurd (x_is_not_z (let e : z ∷ y ∷ x ∷ [] ≡ x ∷ z ∷ y ∷ [] =
      same_characters c a (Ins (pos 0) z k) (Ins (pos 0) x i) _ _ same of_c of_a in cc))
  both_inserted c a (inr (zero, there, of_c)) (inr (suc zero, at, of_a)) same =
      absurd (x_is_not_y (let e : z ∷ y ∷ x ∷ [] ≡ z ∷ x ∷ y ∷ [] =
      same_characters c a (Ins (pos 0) z k) (Ins (pos 1) x i) _ _ same of_c of_a in cc))
  both_inserted c a (inr (zero, there, of_c)) (inr (suc (suc zero), at, of_a)) same = of_c
  both_inserted c a (inr (suc zero, there, of_c)) (inl of_a) same =
      absurd (let e : y ∷ z ∷ x ∷ [] ≡ z ∷ y ∷ [] = same_characters c a (Ins (pos 1) z k) Nop _ _ same of_c of_a in cc)
  both_inserted c a (inr (suc zero, there, of_c)) (inr (zero, at, of_a)) same =
      absurd (x_is_not_y (let e : y ∷ z ∷ x ∷ [] ≡ x ∷ z ∷ y ∷ [] =
      same_characters c a (Ins (pos 1) z k) (Ins (pos 0) x i) _ _ same of_c of_a in cc))
  both_inserted c a (inr (suc zero, there, of_c)) (inr (suc zero, at, of_a)) same =
      absurd (z_is_not_y (let e : y ∷ z ∷ x ∷ [] ≡ z ∷ x ∷ y ∷ [] =
      same_characters c a (Ins (pos 1) z k) (Ins (pos 1) x i) _ _ same of_c of_a in cc))
  both_inserted c a (inr (suc zero, there, of_c)) (inr (suc (suc zero), at, of_a)) same =
      absurd (z_is_not_y (let e : y ∷ z ∷ x ∷ [] ≡ z ∷ y ∷ x ∷ [] =
      same_characters c a (Ins (pos 1) z k) (Ins (pos 2) x i) _ _ same of_c of_a in cc))
  both_inserted c a (inr (suc (suc zero), there, of_c)) (inl of_a) same =
      absurd (let e : y ∷ x ∷ z ∷ [] ≡ z ∷ y ∷ [] = same_characters c a (Ins (pos 2) z k) Nop _ _ same of_c of_a in cc)
  both_inserted c a (inr (suc (suc zero), there, of_c)) (inr (zero, at, of_a)) same =
      absurd (x_is_not_y (let e : y ∷ x ∷ z ∷ [] ≡ x ∷ z ∷ y ∷ [] =
      same_characters c a (Ins (pos 2) z k) (Ins (pos 0) x i) _ _ same of_c of_a in cc))
  both_inserted c a (inr (suc (suc zero), there, of_c)) (inr (suc zero, at, of_a)) same =
      absurd (z_is_not_y (let e : y ∷ x ∷ z ∷ [] ≡ z ∷ x ∷ y ∷ [] =
      same_characters c a (Ins (pos 2) z k) (Ins (pos 1) x i) _ _ same of_c of_a in cc))
  both_inserted c a (inr (suc (suc zero), there, of_c)) (inr (suc (suc zero), at, of_a)) same =
      absurd (z_is_not_y (let e : y ∷ x ∷ z ∷ [] ≡ z ∷ y ∷ x ∷ [] =
      same_characters c a (Ins (pos 2) z k) (Ins (pos 2) x i) _ _ same of_c of_a in cc))
  both_inserted c a (inr (suc (suc (suc q)), there, of_c)) of_a same = absurd (omega (arith, there))
  both_inserted c a of_c (inr (suc (suc (suc p)), at, of_a)) same = absurd (omega (arith, at))
