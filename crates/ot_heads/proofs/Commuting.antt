-- The second property of templates where neither of the first two operations takes a cell out: behind the same two
-- operations a third one has one form.
use Rattle.std.proofs.Common.{◌≡◌, ℕ, ◌+◌, ◌<◌, ℤ, pos, ◌+ℤ◌, Bool, true, false, ◌||◌, if◌then◌else◌, Option, Some}
use Rattle.std.proofs.Common.{refl, ap, ◌∙◌, subst, inl, inr, arith}
use Rattle.std.proofs.lemmas.Bool.{cases_Bool}
use Rattle.ot_model.specs.declared.op.Op.{Op}
use Rattle.ot_model.specs.declared.op.Op.TheVariants.{Ins, Del, Upd, Nop}
use Rattle.ot_model.specs.Operations.{at_of, placed}
use Rattle.fn_rules.specs.declared.function.Head.{Head}
use Rattle.fn_rules.specs.Properties.{CommutesAt, commutes_exchanged}
use Rattle.fn_rules.specs.Transformation.{transform_of}
use Rattle.ot_heads.specs.Templates.{template_of}
use Rattle.ot_heads.proofs.Places.{IsBefore, IsUpTo, place_behind, upto_stays, behind_moves, upto_or_behind}
use Rattle.ot_heads.proofs.Places.{before_is_upto, one_place, place_behind-both}
use Rattle.ot_heads.proofs.Rules.{rank, gives_way, IsChange, IsOnCell-change, IsDeclared, insertion_by_insertion}
use Rattle.ot_heads.proofs.Rules.{cell_by_insertion, by_change, by_nop, IsChange-placed, declared-placed, placed-own}
use Rattle.ot_heads.proofs.Rules.{gives_way-moved, gives_way-trans}

-- it does not matter which of two is asked first
or_exchanged : (g h : Bool) → (g || h) ≡ (h || g)
or_exchanged true true = refl
or_exchanged true false = refl
or_exchanged false true = refl
or_exchanged false false = refl

-- two insertions at one place, with one rank, may be exchanged
exchanged : (r p q : ℤ) (u m n : ℕ) → p ≡ q → m ≡ n
    → place_behind (place_behind r u p m) u q n ≡ place_behind (place_behind r u q n) u p m
exchanged r p q u m n same alike = rw (same, alike) refl

module _ (head : Head) where
  abbrev by_site : Bool
  by_site = head.sites_differ

  abbrev t : Op → Op → Option Op
  t x o = transform_of (template_of head) x o

  -- how an operation moves by insertions whose ranks are below a bound
  record Moves (x : Op) (bound : ℕ) : Type 0 where
    own : ℕ
    moved : (p q : ℤ) (e v : ℕ) → rank by_site e v < bound → head.ins ≡ true
        → t (placed x p) (Ins q e v) ≡ Some (placed x (place_behind p own q (rank by_site e v)))
    as_before : (o : Op) (p q r : ℤ) (n : ℕ)
        → gives_way by_site (placed x (place_behind p own r n)) (placed o (place_behind q bound r n))
        ≡ gives_way by_site (placed x p) (placed o q)

  moves : (x : Op) (bound : ℕ) → IsDeclared head x → Moves x bound
  moves (Ins r c s) bound of_x = record {
    own = rank by_site c s;
    moved = λ p q e v low ins. insertion_by_insertion head p q c e s v ins;
    as_before = λ o p q r n. refl;
  }
  moves (Del r s) bound of_x = record {
    own = bound;
    moved = λ p q e v low ins. cell_by_insertion head (Del r s) p q e v bound tt of_x ins low;
    as_before = λ o p q r n. refl;
  }
  moves (Upd r c s) bound of_x = record {
    own = bound;
    moved = λ p q e v low ins. cell_by_insertion head (Upd r c s) p q e v bound tt of_x ins low;
    as_before = λ o p q r n. gives_way-moved by_site (Upd r c s) o p q r bound n;
  }
  moves Nop bound of_x = absurd (cc)

  -- behind two insertions, of which the first is before the second
  ordered_insertions : (p q r : ℤ) (c e s v : ℕ) (x : Op) → IsDeclared head x → head.ins ≡ true
      → IsBefore p (rank by_site c s) q (rank by_site e v)
      → CommutesAt (template_of head) (Ins p c s) (Ins q e v) (placed x r)
  ordered_insertions p q r c e s v x of_x ins order =
      let m : ℕ = rank by_site c s in
      let n : ℕ = rank by_site e v in
      let by : Moves x (m + n + 1) = moves x (m + n + 1) of_x in
      let u : ℕ = by.own in
      record {
        b_after_a = Ins (q +ℤ pos 1) e v;
        a_after_b = Ins p c s;
        c_after_a = placed x (place_behind r u p m);
        c_after_b = placed x (place_behind r u q n);
        c_after_both = placed x (place_behind (place_behind r u q n) u p m);
        b_transformed = insertion_by_insertion head q p e c v s ins
            ∙ ap (λ y. Some (Ins y e v)) (behind_moves q p n m order);
        a_transformed = insertion_by_insertion head p q c e s v ins
            ∙ ap (λ y. Some (Ins y c s)) (upto_stays p q m n (before_is_upto p q m n order));
        c_by_a = by.moved r p c s (omega arith) ins;
        c_by_b = by.moved r q e v (omega arith) ins;
        c_by_a_then_b = by.moved (place_behind r u p m) (q +ℤ pos 1) e v (omega arith) ins
            ∙ ap (λ y. Some (placed x y)) (place_behind-both p q r m n u order);
        c_by_b_then_a = by.moved (place_behind r u q n) p c s (omega arith) ins;
      }

  -- behind two insertions at one place, with one rank
  alike_insertions : (p q r : ℤ) (c e s v : ℕ) (x : Op) → IsDeclared head x → head.ins ≡ true
      → IsUpTo p (rank by_site c s) q (rank by_site e v) → IsUpTo q (rank by_site e v) p (rank by_site c s)
      → CommutesAt (template_of head) (Ins p c s) (Ins q e v) (placed x r)
  alike_insertions p q r c e s v x of_x ins h g =
      let m : ℕ = rank by_site c s in
      let n : ℕ = rank by_site e v in
      let same = one_place p q m n h g in
      let by : Moves x (m + n + 1) = moves x (m + n + 1) of_x in
      let u : ℕ = by.own in
      record {
        b_after_a = Ins q e v;
        a_after_b = Ins p c s;
        c_after_a = placed x (place_behind r u p m);
        c_after_b = placed x (place_behind r u q n);
        c_after_both = placed x (place_behind (place_behind r u q n) u p m);
        b_transformed = insertion_by_insertion head q p e c v s ins ∙ ap (λ y. Some (Ins y e v)) (upto_stays q p n m g);
        a_transformed = insertion_by_insertion head p q c e s v ins ∙ ap (λ y. Some (Ins y c s)) (upto_stays p q m n h);
        c_by_a = by.moved r p c s (omega arith) ins;
        c_by_b = by.moved r q e v (omega arith) ins;
        c_by_a_then_b = by.moved (place_behind r u p m) q e v (omega arith) ins
            ∙ ap (λ y. Some (placed x y)) (exchanged r p q u m n same.0 same.1);
        c_by_b_then_a = by.moved (place_behind r u q n) p c s (omega arith) ins;
      }

  two_insertions : (p q r : ℤ) (c e s v : ℕ) (x : Op) → IsDeclared head x → head.ins ≡ true
      → CommutesAt (template_of head) (Ins p c s) (Ins q e v) (placed x r)
  two_insertions p q r c e s v x of_x ins =
      elim (upto_or_behind p q (rank by_site c s) (rank by_site e v)) [
        | inr behind ↦ commutes_exchanged (template_of head) (Ins q e v) (Ins p c s) (placed x r)
            (ordered_insertions q p r e c v s x of_x ins behind)
        | inl upto ↦ elim (upto_or_behind q p (rank by_site e v) (rank by_site c s)) [
          | inr before ↦ ordered_insertions p q r c e s v x of_x ins before
          | inl other ↦ alike_insertions p q r c e s v x of_x ins upto other
        ]
      ]

  -- one that has become nop is nop behind an insertion
  pub chosen_behind : (g : Bool) (x a moved : Op) → t x a ≡ Some moved
      → t (if g then Nop else x) a ≡ Some (if g then Nop else moved)
  chosen_behind true x a moved is = refl
  chosen_behind false x a moved is = is

  -- behind an insertion and a change
  insertion_and_change : (p q r : ℤ) (c s : ℕ) (o x : Op) → IsChange head o → IsDeclared head o → IsDeclared head x
      → head.ins ≡ true → CommutesAt (template_of head) (Ins p c s) (placed o q) (placed x r)
  insertion_and_change p q r c s o x is of_o of_x ins =
      let m : ℕ = rank by_site c s in
      let by : Moves x (m + 1) = moves x (m + 1) of_x in
      let g : Bool = gives_way by_site (placed x r) (placed o q) in
      record {
        b_after_a = placed o (place_behind q (m + 1) p m);
        a_after_b = Ins p c s;
        c_after_a = placed x (place_behind r by.own p m);
        c_after_b = if g then Nop else placed x r;
        c_after_both = if g then Nop else placed x (place_behind r by.own p m);
        b_transformed = cell_by_insertion head o q p c s (m + 1) (IsOnCell-change head o is) of_o ins (omega arith);
        a_transformed =
            by_change head (Ins p c s) (placed o q) (IsChange-placed head o q is) ins (declared-placed head o q of_o);
        c_by_a = by.moved r p c s (omega arith) ins;
        c_by_b = by_change head (placed x r) (placed o q) (IsChange-placed head o q is) (declared-placed head x r of_x)
            (declared-placed head o q of_o);
        c_by_a_then_b =
            by_change head (placed x (place_behind r by.own p m)) (placed o (place_behind q (m + 1) p m))
            (IsChange-placed head o (place_behind q (m + 1) p m) is) (declared-placed head x (place_behind r by.own p m)
            of_x) (declared-placed head o (place_behind q (m + 1) p m) of_o)
            ∙ ap (λ b. Some (if b then Nop else placed x (place_behind r by.own p m))) (by.as_before o r q p m);
        c_by_b_then_a = chosen_behind g (placed x r) (Ins p c s) (placed x (place_behind r by.own p m))
            (by.moved r p c s (omega arith) ins);
      }

  -- a third operation behind two changes, the second of which may have given way to the first
  behind_both : (x a b : Op) → IsChange head a → IsChange head b → IsDeclared head x
      → IsDeclared head a → IsDeclared head b
      → t (if gives_way by_site x a then Nop else x) (if gives_way by_site b a then Nop else b)
      ≡ Some (if gives_way by_site x a || gives_way by_site x b then Nop else x)
  behind_both x a b a_changes b_changes of_x of_a of_b =
      elim (cases_Bool (gives_way by_site x a)) [
        | inl first ↦ rw first refl
        | inr stays ↦ rw stays (elim (cases_Bool (gives_way by_site b a)) [
          | inl given ↦ rw given (elim (cases_Bool (gives_way by_site x b)) [
            | inl second ↦ absurd (let too = gives_way-trans by_site x b a second given in cc)
            | inr neither ↦ rw neither (by_nop head x)
          ])
          | inr kept ↦ rw kept (by_change head x b b_changes of_x of_b)
        ])
      ]

  pub two_changes : (a b x : Op) → IsChange head a → IsChange head b → IsDeclared head a
      → IsDeclared head b → IsDeclared head x
      → CommutesAt (template_of head) a b x
  two_changes a b x a_changes b_changes of_a of_b of_x = record {
    b_after_a = if gives_way by_site b a then Nop else b;
    a_after_b = if gives_way by_site a b then Nop else a;
    c_after_a = if gives_way by_site x a then Nop else x;
    c_after_b = if gives_way by_site x b then Nop else x;
    c_after_both = if gives_way by_site x a || gives_way by_site x b then Nop else x;
    b_transformed = by_change head b a a_changes of_b of_a;
    a_transformed = by_change head a b b_changes of_a of_b;
    c_by_a = by_change head x a a_changes of_x of_a;
    c_by_b = by_change head x b b_changes of_x of_b;
    c_by_a_then_b = behind_both x a b a_changes b_changes of_x of_a of_b;
    c_by_b_then_a = behind_both x b a b_changes a_changes of_x of_b of_a
        ∙ ap (λ g. Some (if g then Nop else x)) (or_exchanged (gives_way by_site x b) (gives_way by_site x a));
  }

  -- the third operation at its own place
  pub insertions_first : (p q : ℤ) (c e s v : ℕ) (x : Op) → IsDeclared head x → head.ins ≡ true
      → CommutesAt (template_of head) (Ins p c s) (Ins q e v) x
  insertions_first p q c e s v x of_x ins =
      subst (λ (y : Op). CommutesAt (template_of head) (Ins p c s) (Ins q e v) y) (placed-own x)
      (two_insertions p q (at_of x) c e s v x of_x ins)

  pub mixed_first : (p : ℤ) (c s : ℕ) (o x : Op) → IsChange head o → IsDeclared head o
      → IsDeclared head x → head.ins ≡ true
      → CommutesAt (template_of head) (Ins p c s) o x
  mixed_first p c s o x is of_o of_x ins =
      subst (λ (y : Op). CommutesAt (template_of head) (Ins p c s) y x) (placed-own o)
      (subst (λ (y : Op). CommutesAt (template_of head) (Ins p c s) (placed o (at_of o)) y) (placed-own x)
      (insertion_and_change p (at_of o) (at_of x) c s o x is of_o of_x ins))
