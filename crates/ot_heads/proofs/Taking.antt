-- What templates make of operations behind a deletion that takes its cell out.
use Rattle.std.proofs.Common.{◌≡◌, ℕ, ℤ, pos, negsuc, ◌+ℤ◌, Bool, true, false, if◌then◌else◌, int_lt, int_le, Option}
use Rattle.std.proofs.Common.{Some, None, refl, ap, ◌∙◌, arith}
use Rattle.std.proofs.lemmas.Int.{ints}
use Rattle.ot_model.specs.declared.op.Op.{Op}
use Rattle.ot_model.specs.declared.op.Op.TheVariants.{Ins, Del, Upd, Nop}
use Rattle.ot_model.specs.declared.op.Kind.TheVariants as kinds
use Rattle.ot_model.specs.declared.op.Mode.TheVariants.{Plain}
use Rattle.ot_model.specs.Operations.{placed}
use Rattle.fn_rules.specs.declared.function.Head.{Head}
use Rattle.fn_rules.specs.Shipped.{moved_down, moved_down_or_gone}
use Rattle.fn_rules.specs.Transformation.{first_result, transform_of}
use Rattle.ot_heads.specs.Templates.{behind_deletion, template_of}
use Rattle.ot_heads.proofs.Rules.{IsOnCell, IsDeclared, own_cases, if_through}

-- where an insertion is behind such a deletion
unfoldable pub place_without : ℤ → ℤ → ℤ
place_without p q = if int_le p q then p else p +ℤ negsuc 0

pub without_stays : (p q : ℤ) → int_le p q ≡ true → place_without p q ≡ p
unfolding place_without
without_stays p q h = grind (arith, ints)

pub without_moves : (p q : ℤ) → int_le p q ≡ false → place_without p q ≡ p +ℤ negsuc 0
unfolding place_without
without_moves p q h = grind (arith, ints)

-- where a cell is once another one was taken out, and none if it is that one
unfoldable pub cell_without : ℤ → ℤ → Option ℤ
cell_without p q = if int_lt p q then Some p else (if int_lt q p then Some (p +ℤ negsuc 0) else None)

pub cell_stays : (p q : ℤ) → int_lt p q ≡ true → cell_without p q ≡ Some p
unfolding cell_without
cell_stays p q h = rw h refl

pub cell_moves : (p q : ℤ) → int_lt p q ≡ false → int_lt q p ≡ true → cell_without p q ≡ Some (p +ℤ negsuc 0)
unfolding cell_without
cell_moves p q h g = rw (h, g) refl

pub cell_goes : (p q : ℤ) → int_lt p q ≡ false → int_lt q p ≡ false → cell_without p q ≡ None
unfolding cell_without
cell_goes p q h g = rw (h, g) refl

-- the operation on a cell that has gone there
abbrev pub op_at : Op → Option ℤ → Op
op_at x None = Nop
op_at x (Some p) = placed x p

-- what is chosen of an insertion
chosen_insertion : (p q : ℤ) → (if int_le p (q +ℤ pos 0) then p +ℤ pos 0 else p +ℤ negsuc 0) ≡ place_without p q
unfolding place_without
chosen_insertion p q = grind (arith, ints)

-- what is chosen of an operation on a cell, by two tests
chosen_cell : (x : Op) (p : ℤ) (first second : Bool) (a b : ℤ) → a ≡ p → b ≡ p +ℤ negsuc 0 →
    (if first then Some (placed x a) else (if second then Some (placed x b) else Some Nop))
    ≡ Some (op_at x (if first then Some p else (if second then Some (p +ℤ negsuc 0) else None)))
chosen_cell x p true second a b of_a of_b = ap (λ y. Some (placed x y)) of_a
chosen_cell x p false true a b of_a of_b = ap (λ y. Some (placed x y)) of_b
chosen_cell x p false false a b of_a of_b = refl

-- the tests of the cases are those of the places
same_tests : (x : Op) (p q : ℤ) →
    (if int_lt p (q +ℤ pos 0) then Some (placed x (p +ℤ pos 0)) else
    (if int_lt q (p +ℤ pos 0) then Some (placed x (p +ℤ negsuc 0)) else Some Nop)) ≡ Some (op_at x (cell_without p q))
unfolding cell_without
same_tests x p q =
    let at_q : q +ℤ pos 0 ≡ q = omega (arith, ints) in
    let at_p : p +ℤ pos 0 ≡ p = omega (arith, ints) in
    rw (at_q, at_p) (chosen_cell x p (int_lt p q) (int_lt q p) p (p +ℤ negsuc 0) refl refl)

module _ (head : Head) (plain : head.mode ≡ Plain) where
  -- an insertion behind such a deletion
  pub insertion_by_taking : (p q : ℤ) (c s t : ℕ) → head.ins ≡ true → head.del ≡ true →
      transform_of (template_of head) (Ins p c s) (Del q t) ≡ Some (Ins (place_without p q) c s)
  insertion_by_taking p q c s t ins del =
      ap (λ cases. first_result cases (Ins p c s) (Del q t))
      (own_cases head kinds.Ins kinds.Del ins del ∙ ap (λ mode. behind_deletion mode moved_down) plain)
      ∙ (if_through (λ x. Some (Ins x c s)) (int_le p (q +ℤ pos 0)) (p +ℤ pos 0) (p +ℤ negsuc 0)
      ∙ ap (λ x. Some (Ins x c s)) (chosen_insertion p q))

  -- an operation on a cell behind it
  pub cell_by_taking : (x : Op) (p q : ℤ) (t : ℕ) → IsOnCell x → IsDeclared head x → head.del ≡ true →
      transform_of (template_of head) (placed x p) (Del q t) ≡ Some (op_at x (cell_without p q))
  cell_by_taking (Ins r c s) p q t is of_x del = absurd is
  cell_by_taking (Del r s) p q t is of_x del =
      ap (λ cases. first_result cases (Del p s) (Del q t))
      (own_cases head kinds.Del kinds.Del of_x del ∙ ap (λ mode. behind_deletion mode moved_down_or_gone) plain)
      ∙ same_tests (Del r s) p q
  cell_by_taking (Upd r c s) p q t is of_x del =
      ap (λ cases. first_result cases (Upd p c s) (Del q t))
      (own_cases head kinds.Upd kinds.Del of_x del ∙ ap (λ mode. behind_deletion mode moved_down_or_gone) plain)
      ∙ same_tests (Upd r c s) p q
  cell_by_taking Nop p q t is of_x del = absurd is
