-- The cases that are left of a block, and what a case gives.
use Rattle.std.proofs.Common.{◌≡◌, ◌≢◌, ◌⊎◌, ℕ, zero, suc, ◌+◌, ◌<◌, ◌≤◌, Bool, true, false, if◌then◌else◌, nat_eq}
use Rattle.std.proofs.Common.{IsTrue, Some, None, List, [], ◌∷◌, length, drop, refl, subst, inl, inr, arith}
use Rattle.std.specs.List.{AllByRecursion}
use Rattle.ot_model.specs.declared.op.Kind.{Kind}
use Rattle.fn_rules.specs.declared.function.ObName.{ObName}
use Rattle.fn_rules.specs.declared.function.ObName.TheVariants.{Pair, Triple}
use Rattle.fn_rules.specs.declared.function.Res.{Res}
use Rattle.fn_rules.specs.declared.function.Res.TheVariants as results
use Rattle.fn_rules.specs.declared.guard.Side.{Side}
use Rattle.fn_rules.specs.declared.guard.Side.TheVariants.{First, Second}
use Rattle.fn_rules.specs.Formulas.{of_side}
use Rattle.fn_rules.specs.Functions.{Function}
use Rattle.fn_rules.specs.Validity.{is_valid, compares_chars}
use Rattle.fn_rules.proofs.LimitsKept.{are_valid_cases-valid}
use Rattle.ot_questions.specs.declared.place.Place.{Place}
use Rattle.ot_questions.specs.declared.place.SymOp.{SymOp}
use Rattle.ot_questions.specs.declared.place.SymOp.TheVariants as ops
use Rattle.ot_questions.specs.Names.{name_count}
use Rattle.ot_questions.specs.Nears.{IsNear, IsNearOp, IsNearCase}
use Rattle.ot_questions.specs.Places.{plus, sym_kind, sym_at, sym_site, sym_char, sym_placed, sym_result, offset_of}
use Rattle.ot_questions.proofs.Nears.{IsNear-more, AreNear-block, IsResultOf-value}
use Rattle.ot_terms.specs.Belonging.{HasNames, IsMoved, reach_of}
use Rattle.ot_rewrite.proofs.Operands.{IsOperand, operand_reach}

-- a list behind the element at a number
pub drop_next :
    {X : Type 0} (xs : List X) (n : ℕ) (y : X) (ys : List X) → drop n xs ≡ y ∷ ys → drop (suc n) xs ≡ ys
drop_next [] zero y ys e = absurd (cc)
drop_next [] (suc n) y ys e = absurd (cc)
drop_next (x ∷ xs) zero y ys e = cc
drop_next (x ∷ xs) (suc n) y ys e = drop_next xs n y ys e

pub drop_within : {X : Type 0} (xs : List X) (n : ℕ) (y : X) (ys : List X) → drop n xs ≡ y ∷ ys → n < length xs
drop_within [] zero y ys e = absurd (cc)
drop_within [] (suc n) y ys e = absurd (cc)
drop_within (x ∷ xs) zero y ys e = omega arith
drop_within (x ∷ xs) (suc n) y ys e = let below : n < length xs = drop_within xs n y ys e in omega arith

of_dropped : {X : Type 0} (P : X → Type 0) (xs : List X) (n : ℕ) → AllByRecursion P xs → AllByRecursion P (drop n xs)
of_dropped P xs zero h = h
of_dropped P [] (suc n) h = h
of_dropped P (x ∷ xs) (suc n) h = of_dropped P xs n h.1

pub of_next :
    {X : Type 0} (P : X → Type 0) (xs : List X) (n : ℕ) (y : X) (ys : List X) → AllByRecursion P xs
    → drop n xs ≡ y ∷ ys → P y
of_next P xs n y ys h e = (subst (λ t. AllByRecursion P t) e (of_dropped P xs n h)).0

-- each case of a valid function has small offsets
pub AreNear-cases : (f : Function) (k l : Kind) → IsTrue (is_valid f) → AllByRecursion IsNearCase (f.cases k l)
AreNear-cases f k l valid = AreNear-block (compares_chars k l) (f.cases k l) (are_valid_cases-valid f k l valid)

reach_high : (ob : ObName) (n : ℕ) → (99 ≤ reach_of ob n) × (reach_of ob n ≤ 198)
reach_high (Pair k l) n = (omega arith, omega arith)
reach_high (Triple k l m) n = by_tests (nat_eq n 2) (nat_eq n 5)
  where
    by_tests :
        (s t : Bool)
        → (99 ≤ (if s then 198 else (if t then 198 else 99))) × ((if s then 198 else (if t then 198 else 99)) ≤ 198)
    by_tests true t = (omega arith, omega arith)
    by_tests false true = (omega arith, omega arith)
    by_tests false false = (omega arith, omega arith)

-- an operand is at most 99 from its name, and what comes of it is within the reach
pub operand_reach_low : (ob : ObName) (n : ℕ) → operand_reach ob n ≤ 99
operand_reach_low ob n = let high = reach_high ob n in let low : 99 ≤ reach_of ob n = high.0 in
    let most : reach_of ob n ≤ 198 = high.1 in omega arith

operand_reach_more : (ob : ObName) (n : ℕ) → operand_reach ob n + 99 ≡ reach_of ob n
operand_reach_more ob n = let low : 99 ≤ reach_of ob n = (reach_high ob n).0 in omega arith

kind_there : (a : SymOp) (k : Kind) → sym_kind a ≡ Some k → sym_kind a ≢ None
kind_there a k e none = absurd (cc)

kind_placed : (a : SymOp) (to : Place) → sym_kind (sym_placed a to) ≡ sym_kind a
kind_placed (ops.Ins at ch site) to = refl
kind_placed (ops.Del at site) to = refl
kind_placed (ops.Upd at ch site) to = refl
kind_placed ops.Nop to = refl

site_placed : (a : SymOp) (to : Place) → sym_site (sym_placed a to) ≡ sym_site a
site_placed (ops.Ins at ch site) to = refl
site_placed (ops.Del at site) to = refl
site_placed (ops.Upd at ch site) to = refl
site_placed ops.Nop to = refl

char_placed : (a : SymOp) (to : Place) → sym_char (sym_placed a to) ≡ sym_char a
char_placed (ops.Ins at ch site) to = refl
char_placed (ops.Del at site) to = refl
char_placed (ops.Upd at ch site) to = refl
char_placed ops.Nop to = refl

names_placed : (count : ℕ) (a : SymOp) (to : Place) → HasNames count a → to.var < count
    → HasNames count (sym_placed a to)
names_placed count (ops.Ins at ch site) to h below = (below, h.1, h.2)
names_placed count (ops.Del at site) to h below = (below, h.1)
names_placed count (ops.Upd at ch site) to h below = (below, h.1, h.2)
names_placed count ops.Nop to h below = tt

pub name_of_place : (count : ℕ) (a : SymOp) → 0 < count → HasNames count a → (sym_at a).var < count
name_of_place count (ops.Ins at ch site) some h = h.0
name_of_place count (ops.Del at site) some h = h.0
name_of_place count (ops.Upd at ch site) some h = h.0
name_of_place count ops.Nop some h = some

pub some_names : (ob : ObName) → 2 < name_count ob
some_names (Pair k l) = omega arith
some_names (Triple k l m) = omega arith

-- what comes of two operands after so many results
module _ (f : Function) (ob : ObName) (n : ℕ) (a b : SymOp) (k : Kind) (there : sym_kind a ≡ Some k)
    (ha : IsOperand f ob (operand_reach ob n) a) (hb : IsOperand f ob (operand_reach ob n) b) where
  side_named : (side : Side) → (sym_at (of_side side a b)).var < name_count ob
  side_named First =
      let some : 2 < name_count ob = some_names ob in name_of_place (name_count ob) a (omega arith) ha.names
  side_named Second =
      let some : 2 < name_count ob = some_names ob in name_of_place (name_count ob) b (omega arith) hb.names

  result_near : (res : Res) → IsNear 99 (offset_of res) → IsNearOp (reach_of ob n) (sym_result res a b)
  result_near res h =
      subst (λ t. IsNearOp t (sym_result res a b)) (operand_reach_more ob n)
      ((IsResultOf-value res a b (sym_result res a b) refl h).near (operand_reach ob n) ha.near hb.near)

  -- it is the first operation at another place, or nop
  pub result_moves :
      (res : Res) → IsNear 99 (offset_of res)
      → (sym_result res a b ≡ ops.Nop) ⊎ IsMoved (name_count ob) (reach_of ob n) a (sym_result res a b)
  result_moves (results.Keep base off) h =
      let to = plus (sym_at (of_side base a b)) off in
      inr (record {
        there = kind_there a k there;
        kind = kind_placed a to;
        site = site_placed a to;
        ch = char_placed a to;
        names = names_placed (name_count ob) a to ha.names (side_named base);
        near = result_near (results.Keep base off) h;
      })
  result_moves results.Nop h = inl refl

  -- the first operation itself
  pub first_stays : (a ≡ ops.Nop) ⊎ IsMoved (name_count ob) (reach_of ob n) a a
  first_stays =
      let more : operand_reach ob n + 99 ≡ reach_of ob n = operand_reach_more ob n in
      inr (record {
        there = kind_there a k there;
        kind = refl;
        site = refl;
        ch = refl;
        names = ha.names;
        near = IsNear-more (operand_reach ob n) (reach_of ob n) _ (omega arith) ha.near;
      })
