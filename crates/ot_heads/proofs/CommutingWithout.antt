-- The second property of templates for deletions that take cells out, and updates.
use Rattle.std.proofs.Common.{◌≡◌, ℕ, ℤ, negsuc, ◌+ℤ◌, ◌<ℤ◌, Bool, true, false, ◌&&◌, if◌then◌else◌, int_lt, Option}
use Rattle.std.proofs.Common.{Some, None, refl, ap, sym, ◌∙◌, ◌⊎◌, inl, inr, arith}
use Rattle.std.specs.Prelude.{nat_lt}
use Rattle.std.specs.Ordering.{int_eq}
use Rattle.std.specs.Option.{option_and_then}
use Rattle.std.proofs.lemmas.Bool.{cases_Bool}
use Rattle.std.proofs.lemmas.Bool.Decides.{Decides-int_eq}
use Rattle.std.proofs.lemmas.Int.{ints}
use Rattle.ot_model.specs.declared.op.Op.{Op}
use Rattle.ot_model.specs.declared.op.Op.TheVariants.{Ins, Del, Upd, Nop}
use Rattle.ot_model.specs.declared.op.Mode.TheVariants.{Plain}
use Rattle.ot_model.specs.Operations.{placed}
use Rattle.fn_rules.specs.declared.function.Head.{Head}
use Rattle.fn_rules.specs.Properties.{CommutesAt, commutes_exchanged}
use Rattle.fn_rules.specs.Transformation.{transform_of}
use Rattle.ot_heads.specs.Templates.{template_of}
use Rattle.ot_heads.proofs.Commuting.{chosen_behind}
use Rattle.ot_heads.proofs.Rules.{rank, gives_way, IsOnCell, IsDeclared, by_change, by_nop, declared-placed}
use Rattle.ot_heads.proofs.Taking.{cell_without, cell_stays, cell_moves, cell_goes, op_at, cell_by_taking}

-- a place behind two deletions, of which the first is in front
abbrev then_without : Option ℤ → ℤ → Option ℤ
then_without o q = option_and_then (λ y. cell_without y q) o

-- the place is in front of the first deletion, or behind it, or its place
both_in_front : (p q r : ℤ) → int_lt p q ≡ true → int_lt r p ≡ true
    → then_without (cell_without r p) (q +ℤ negsuc 0) ≡ then_without (cell_without r q) p
both_in_front p q r h first =
    rw (cell_stays r p first, cell_stays r q (grind (arith, ints)))
    (cell_stays r (q +ℤ negsuc 0) (grind (arith, ints)) ∙ sym (cell_stays r p first))

both_between : (p q r : ℤ) → int_lt p q ≡ true → int_lt r p ≡ false → int_lt p r ≡ true → int_lt r q ≡ true
    → then_without (cell_without r p) (q +ℤ negsuc 0) ≡ then_without (cell_without r q) p
both_between p q r h not_first behind before =
    rw (cell_moves r p not_first behind, cell_stays r q before)
    (cell_stays (r +ℤ negsuc 0) (q +ℤ negsuc 0) (grind (arith, ints)) ∙ sym (cell_moves r p not_first behind))

both_behind : (p q r : ℤ) → int_lt p q ≡ true → int_lt r p ≡ false → int_lt p r ≡ true
    → int_lt r q ≡ false → int_lt q r ≡ true
    → then_without (cell_without r p) (q +ℤ negsuc 0) ≡ then_without (cell_without r q) p
both_behind p q r h not_first behind not_before last =
    rw (cell_moves r p not_first behind, cell_moves r q not_before last)
    (cell_moves (r +ℤ negsuc 0) (q +ℤ negsuc 0) (grind (arith, ints)) (grind (arith, ints))
    ∙ sym (cell_moves (r +ℤ negsuc 0) p (grind (arith, ints)) (grind (arith, ints))))

second_taken : (p q r : ℤ) → int_lt p q ≡ true → int_lt r p ≡ false → int_lt p r ≡ true
    → int_lt r q ≡ false → int_lt q r ≡ false
    → then_without (cell_without r p) (q +ℤ negsuc 0) ≡ then_without (cell_without r q) p
second_taken p q r h not_first behind not_before not_last =
    rw (cell_moves r p not_first behind, cell_goes r q not_before not_last)
    (cell_goes (r +ℤ negsuc 0) (q +ℤ negsuc 0) (grind (arith, ints)) (grind (arith, ints)))

first_taken : (p q r : ℤ) → int_lt p q ≡ true → int_lt r p ≡ false → int_lt p r ≡ false
    → then_without (cell_without r p) (q +ℤ negsuc 0) ≡ then_without (cell_without r q) p
first_taken p q r h not_first not_behind =
    rw (cell_goes r p not_first not_behind, cell_stays r q (grind (arith, ints)))
    (sym (cell_goes r p not_first not_behind))

both_without : (p q r : ℤ) → int_lt p q ≡ true
    → then_without (cell_without r p) (q +ℤ negsuc 0) ≡ then_without (cell_without r q) p
both_without p q r h =
    elim (cases_Bool (int_lt r p)) [
      | inl first ↦ both_in_front p q r h first
      | inr not_first ↦ elim (cases_Bool (int_lt p r)) [
        | inr not_behind ↦ first_taken p q r h not_first not_behind
        | inl behind ↦ elim (cases_Bool (int_lt r q)) [
          | inl before ↦ both_between p q r h not_first behind before
          | inr not_before ↦ elim (cases_Bool (int_lt q r)) [
            | inl last ↦ both_behind p q r h not_first behind not_before last
            | inr not_last ↦ second_taken p q r h not_first behind not_before not_last
          ]
        ]
      ]
    ]

-- where a cell is that is not the one taken out
cell_place : (r p to : ℤ) → cell_without r p ≡ Some to → ((r <ℤ p) × (to ≡ r)) ⊎ ((p <ℤ r) × (to ≡ r +ℤ negsuc 0))
cell_place r p to is =
    elim (cases_Bool (int_lt r p)) [
      | inl first ↦ inl (
        grind (arith, ints),
        (let stays = cell_stays r p first in let same : Some r ≡ Some to = sym stays ∙ is in cc),
      )
      | inr not_first ↦ elim (cases_Bool (int_lt p r)) [
        | inl behind ↦ inr (
          grind (arith, ints),
          (let moves = cell_moves r p not_first behind in
              let same : Some (r +ℤ negsuc 0) ≡ Some to = sym moves ∙ is in cc),
        )
        | inr not_behind ↦
            absurd (let goes = cell_goes r p not_first not_behind in let same : None ≡ Some to = sym goes ∙ is in cc)
      ]
    ]

-- two cells that are left are one where they were one
places_apart : (r q p r_to q_to : ℤ) → ((r <ℤ p) × (r_to ≡ r)) ⊎ ((p <ℤ r) × (r_to ≡ r +ℤ negsuc 0))
    → ((q <ℤ p) × (q_to ≡ q)) ⊎ ((p <ℤ q) × (q_to ≡ q +ℤ negsuc 0)) → int_eq r_to q_to ≡ int_eq r q
places_apart r q p r_to q_to (inl h) (inl g) = rw (h.1, g.1) refl
places_apart r q p r_to q_to (inl h) (inr g) = let first = h.0 in let second = g.0 in
    rw (h.1, g.1) (grind (arith, ints, first, second))
places_apart r q p r_to q_to (inr h) (inl g) = let first = h.0 in let second = g.0 in
    rw (h.1, g.1) (grind (arith, ints, first, second))
places_apart r q p r_to q_to (inr h) (inr g) = let first = h.0 in let second = g.0 in
    rw (h.1, g.1) (grind (arith, ints, first, second))

-- a cell that is left is not the one taken out
not_the_taken : (r q p r_to : ℤ) → cell_without r p ≡ Some r_to → cell_without q p ≡ None → int_eq r q ≡ false
not_the_taken r q p r_to is gone =
    elim (cases_Bool (int_eq r q)) [
      | inl equal ↦ absurd (let same : r ≡ q = (Decides-int_eq r q).0 equal in
          let at_q : cell_without q p ≡ Some r_to = sym (ap (λ y. cell_without y p) same) ∙ is in
          let both : None ≡ Some r_to = sym gone ∙ at_q in cc)
      | inr apart ↦ apart
    ]

-- an operation gives way to an update by its place
gives_way-by_place : (by_site : Bool) (x : Op) (r q r_to q_to : ℤ) (e v : ℕ) → int_eq r_to q_to ≡ int_eq r q
    → gives_way by_site (placed x r_to) (Upd q_to e v) ≡ gives_way by_site (placed x r) (Upd q e v)
gives_way-by_place by_site (Ins a c s) r q r_to q_to e v same = refl
gives_way-by_place by_site (Del a s) r q r_to q_to e v same = refl
gives_way-by_place by_site (Upd a c s) r q r_to q_to e v same =
    ap (λ b. b && nat_lt (rank by_site e v) (rank by_site c s)) same
gives_way-by_place by_site Nop r q r_to q_to e v same = refl

-- elsewhere none gives way
stays_elsewhere : (by_site : Bool) (x : Op) (r q : ℤ) (e v : ℕ) → int_eq r q ≡ false
    → gives_way by_site (placed x r) (Upd q e v) ≡ false
stays_elsewhere by_site (Ins a c s) r q e v apart = refl
stays_elsewhere by_site (Del a s) r q e v apart = refl
stays_elsewhere by_site (Upd a c s) r q e v apart = ap (λ b. b && nat_lt (rank by_site e v) (rank by_site c s)) apart
stays_elsewhere by_site Nop r q e v apart = refl

if_same : {X : Type 0} (g : Bool) (x : X) → x ≡ (if g then x else x)
if_same true x = refl
if_same false x = refl

module _ (head : Head) (plain : head.mode ≡ Plain) (del : head.del ≡ true) where
  abbrev by_site : Bool
  by_site = head.sites_differ

  abbrev t : Op → Op → Option Op
  t x o = transform_of (template_of head) x o

  -- one that is left or not, behind a deletion
  left_by_taking : (x : Op) (o : Option ℤ) (q : ℤ) (v : ℕ) → IsOnCell x → IsDeclared head x
      → t (op_at x o) (Del q v) ≡ Some (op_at x (then_without o q))
  left_by_taking x None q v is of_x = refl
  left_by_taking x (Some p) q v is of_x = cell_by_taking head plain x p q v is of_x del

  -- behind two deletions, of which the first is in front
  ordered_takings : (p q r : ℤ) (s v : ℕ) (x : Op) → IsOnCell x → IsDeclared head x → int_lt p q ≡ true
      → CommutesAt (template_of head) (Del p s) (Del q v) (placed x r)
  ordered_takings p q r s v x is of_x order = record {
    b_after_a = Del (q +ℤ negsuc 0) v;
    a_after_b = Del p s;
    c_after_a = op_at x (cell_without r p);
    c_after_b = op_at x (cell_without r q);
    c_after_both = op_at x (then_without (cell_without r q) p);
    b_transformed = cell_by_taking head plain (Del q v) q p s tt del del
        ∙ ap (λ o. Some (op_at (Del q v) o)) (cell_moves q p (grind (arith, ints)) order);
    a_transformed = cell_by_taking head plain (Del p s) p q v tt del del
        ∙ ap (λ o. Some (op_at (Del p s) o)) (cell_stays p q order);
    c_by_a = cell_by_taking head plain x r p s is of_x del;
    c_by_b = cell_by_taking head plain x r q v is of_x del;
    c_by_a_then_b = left_by_taking x (cell_without r p) (q +ℤ negsuc 0) v is of_x
        ∙ ap (λ o. Some (op_at x o)) (both_without p q r order);
    c_by_b_then_a = left_by_taking x (cell_without r q) p s is of_x;
  }

  -- behind two deletions of one cell
  alike_takings : (p q r : ℤ) (s v : ℕ) (x : Op) → IsOnCell x → IsDeclared head x
      → int_lt p q ≡ false → int_lt q p ≡ false
      → CommutesAt (template_of head) (Del p s) (Del q v) (placed x r)
  alike_takings p q r s v x is of_x not_before not_behind =
      let same : p ≡ q = grind (arith, ints) in
      record {
        b_after_a = Nop;
        a_after_b = Nop;
        c_after_a = op_at x (cell_without r p);
        c_after_b = op_at x (cell_without r q);
        c_after_both = op_at x (cell_without r q);
        b_transformed = cell_by_taking head plain (Del q v) q p s tt del del
            ∙ ap (λ o. Some (op_at (Del q v) o)) (cell_goes q p not_behind not_before);
        a_transformed = cell_by_taking head plain (Del p s) p q v tt del del
            ∙ ap (λ o. Some (op_at (Del p s) o)) (cell_goes p q not_before not_behind);
        c_by_a = cell_by_taking head plain x r p s is of_x del;
        c_by_b = cell_by_taking head plain x r q v is of_x del;
        c_by_a_then_b = by_nop head (op_at x (cell_without r p)) ∙ ap (λ y. Some (op_at x (cell_without r y))) same;
        c_by_b_then_a = by_nop head (op_at x (cell_without r q));
      }

  pub two_takings : (p q r : ℤ) (s v : ℕ) (x : Op) → IsOnCell x → IsDeclared head x
      → CommutesAt (template_of head) (Del p s) (Del q v) (placed x r)
  two_takings p q r s v x is of_x =
      elim (cases_Bool (int_lt p q)) [
        | inl before ↦ ordered_takings p q r s v x is of_x before
        | inr not_before ↦ elim (cases_Bool (int_lt q p)) [
          | inl behind ↦ commutes_exchanged (template_of head) (Del q v) (Del p s) (placed x r)
              (ordered_takings q p r v s x is of_x behind)
          | inr not_behind ↦ alike_takings p q r s v x is of_x not_before not_behind
        ]
      ]

  -- behind a deletion and then an update, by where the two operations on cells are left
  update_then : (x : Op) (r q p : ℤ) (e v : ℕ) → IsDeclared head x → head.upd ≡ true → (o u : Option ℤ)
      → cell_without r p ≡ o → cell_without q p ≡ u
      → t (op_at x o) (op_at (Upd q e v) u)
      ≡ Some (if gives_way by_site (placed x r) (Upd q e v) then Nop else op_at x o)
  update_then x r q p e v of_x upd None u r_is q_is =
      ap (λ y. Some y) (if_same (gives_way by_site (placed x r) (Upd q e v)) Nop)
  update_then x r q p e v of_x upd (Some r_to) None r_is q_is =
      by_nop head (placed x r_to)
      ∙ ap (λ (g : Bool). Some (if g then Nop else placed x r_to))
      (sym (stays_elsewhere by_site x r q e v (not_the_taken r q p r_to r_is q_is)))
  update_then x r q p e v of_x upd (Some r_to) (Some q_to) r_is q_is =
      by_change head (placed x r_to) (Upd q_to e v) tt (declared-placed head x r_to of_x) upd
      ∙ ap (λ (g : Bool). Some (if g then Nop else placed x r_to))
      (gives_way-by_place by_site x r q r_to q_to e v
      (places_apart r q p r_to q_to (cell_place r p r_to r_is) (cell_place q p q_to q_is)))

  -- behind a deletion and an update
  pub taking_and_update : (p q r : ℤ) (s e v : ℕ) (x : Op) → IsOnCell x → IsDeclared head x → head.upd ≡ true
      → CommutesAt (template_of head) (Del p s) (Upd q e v) (placed x r)
  taking_and_update p q r s e v x is of_x upd =
      let g : Bool = gives_way by_site (placed x r) (Upd q e v) in
      record {
        b_after_a = op_at (Upd q e v) (cell_without q p);
        a_after_b = Del p s;
        c_after_a = op_at x (cell_without r p);
        c_after_b = if g then Nop else placed x r;
        c_after_both = if g then Nop else op_at x (cell_without r p);
        b_transformed = cell_by_taking head plain (Upd q e v) q p s tt upd del;
        a_transformed = by_change head (Del p s) (Upd q e v) tt del upd;
        c_by_a = cell_by_taking head plain x r p s is of_x del;
        c_by_b = by_change head (placed x r) (Upd q e v) tt (declared-placed head x r of_x) upd;
        c_by_a_then_b = update_then x r q p e v of_x upd (cell_without r p) (cell_without q p) refl refl;
        c_by_b_then_a =
            chosen_behind head g (placed x r) (Del p s) (op_at x (cell_without r p))
            (cell_by_taking head plain x r p s is of_x del);
      }
