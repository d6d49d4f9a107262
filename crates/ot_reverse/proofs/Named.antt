-- What holds of the places of two operations, also moved twice by a small offset, holds of each place
-- of a goal, since a result of a result is asked for.
use Rattle.std.proofs.Common.{ℕ, ◌<◌, ℤ, pos, Option, Some, None, List, [], ◌∷◌, arith, lit<}
use Rattle.std.specs.List.{AllByRecursion}
use Rattle.std.proofs.lemmas.Int.{ints}
use Rattle.ot_model.specs.declared.op.Kind.{Kind}
use Rattle.ot_model.specs.declared.op.Kind.TheVariants as kinds
use Rattle.fn_rules.specs.declared.function.Head.{Head}
use Rattle.fn_rules.specs.declared.function.Res.{Res}
use Rattle.fn_rules.specs.declared.function.Res.TheVariants as results
use Rattle.fn_rules.specs.declared.guard.Side.TheVariants.{First, Second}
use Rattle.fn_rules.specs.declared.guard.Sort.TheVariants.{Pos, Site, Char}
use Rattle.fn_rules.specs.Functions.{GuardedCase}
use Rattle.ot_questions.specs.declared.name.Who.{Who}
use Rattle.ot_questions.specs.declared.name.Who.TheVariants.{A, B}
use Rattle.ot_questions.specs.declared.place.Place.{Place}
use Rattle.ot_questions.specs.declared.place.SymOp.{SymOp}
use Rattle.ot_questions.specs.declared.place.SymOp.TheVariants.{Ins, Del, Upd, Nop}
use Rattle.ot_questions.specs.Names.{char_name, position_name, site_name}
use Rattle.ot_questions.specs.Nears.{IsNear, IsNearCase}
use Rattle.ot_questions.specs.Places.{length_and, offset_of, place, plus, sym_at, sym_kind, sym_op, sym_placed}
use Rattle.ot_questions.specs.Places.{sym_result, zero_place}
use Rattle.ot_terms.specs.Goals.{GoalTree}
use Rattle.ot_terms.specs.Starting.{if_all_enabled, if_allowed, if_enabled, if_length}
use Rattle.ot_audit.proofs.Names.{GoalOf, IsSmallPlace, OfName, OpServes, Serves, allowed_of, guard_places}
use Rattle.ot_audit.proofs.Names.{one_place_of, op_serves, small_name, small_moved, with_result_of}
use Rattle.ot_reverse.specs.Goals.{unless_back, unless_itself, unless_taken_back}

-- it holds of a place, and of the place moved once and twice
abbrev pub ServesTwice : (Place → Type 0) → Place → Type 0
ServesTwice Q x = Serves (Serves Q) x

abbrev pub OpServesTwice : (Place → Type 0) → SymOp → Type 0
OpServesTwice Q o = OpServes (Serves Q) o

module _ (Q : Place → Type 0) (at_zero : Serves Q zero_place) (at_length : Q (length_and (pos 0))) where
  once : (o : SymOp) → OpServesTwice Q o → OpServes Q o
  once o h sort = (h sort).0

  -- the operation at another place
  placed_serves : (o : SymOp) (to : Place) → OpServes Q o → Serves Q to → OpServes Q (sym_placed o to)
  placed_serves (Ins at ch site) to h moved Pos = moved
  placed_serves (Ins at ch site) to h moved Site = h Site
  placed_serves (Ins at ch site) to h moved Char = h Char
  placed_serves (Del at site) to h moved Pos = moved
  placed_serves (Del at site) to h moved Site = h Site
  placed_serves (Del at site) to h moved Char = h Char
  placed_serves (Upd at ch site) to h moved Pos = moved
  placed_serves (Upd at ch site) to h moved Site = h Site
  placed_serves (Upd at ch site) to h moved Char = h Char
  placed_serves Nop to h moved Pos = h Pos
  placed_serves Nop to h moved Site = h Site
  placed_serves Nop to h moved Char = h Char

  nop_serves : OpServes Q Nop
  nop_serves Pos = at_zero
  nop_serves Site = at_zero
  nop_serves Char = at_zero

  module _ (a b : SymOp) (ha : OpServesTwice Q a) (hb : OpServesTwice Q b) where
    result_serves : (res : Res) → IsNear 99 (offset_of res) → OpServes Q (sym_result res a b)
    result_serves (results.Keep First k) near = placed_serves a (plus (sym_at a) k) (once a ha) ((ha Pos).1 k near)
    result_serves (results.Keep Second k) near = placed_serves a (plus (sym_at b) k) (once a ha) ((hb Pos).1 k near)
    result_serves results.Nop near = nop_serves

    back_of : (ds : List GuardedCase) (there : SymOp) (k : Option Kind)
        → AllByRecursion IsNearCase ds → OpServes Q there
        → GoalOf Q (unless_back ds a b there k)
    back_of ds there None near h = tt
    back_of ds there (Some k) near h =
        with_result_of Q at_zero there b h (once b hb) ds (unless_itself a) near tt
        (λ back at.
        one_place_of Q at_zero there b h (once b hb) (sym_kind back) (sym_kind a) (sym_at back)
        (sym_at a) at (once a ha Pos).0)

    pub taken_back_of :
        (cs ds : List GuardedCase) → AllByRecursion IsNearCase cs → AllByRecursion IsNearCase ds
        → GoalOf Q (unless_taken_back cs ds a b)
    taken_back_of [] ds near others = tt
    taken_back_of (c ∷ cs) ds near others = (
      guard_places Q at_zero a b (once a ha) (once b hb) c.guard near.0.0,
      back_of ds (sym_result c.res a b) (sym_kind (sym_result c.res a b)) others (result_serves c.res near.0.1),
      taken_back_of cs ds near.1 others,
    )

    enabled_of : (k : Kind) (who : Who) (next : GoalTree) → OpServes Q (sym_op k who) → GoalOf Q next
        → GoalOf Q (if_enabled (sym_op k who) next)
    enabled_of kinds.Ins who next h goal = (((at_zero.0, (h Pos).0), ((h Pos).0, at_length)), goal, tt)
    enabled_of kinds.Del who next h goal = (((at_zero.0, (h Pos).0), ((h Pos).0, at_length)), goal, tt)
    enabled_of kinds.Upd who next h goal = (((at_zero.0, (h Pos).0), ((h Pos).0, at_length)), goal, tt)

  -- it holds of each place of the tests, and so of the goal where it does of what is behind them
  pub posed_of :
      (head : Head) (k l : Kind) (next : GoalTree) → OpServesTwice Q (sym_op k A)
      → OpServesTwice Q (sym_op l B) → GoalOf Q next
      → GoalOf Q
      (if_length (if_all_enabled (sym_op k A ∷ sym_op l B ∷ []) (if_allowed head (sym_op k A) (sym_op l B) next)))
  posed_of head k l next ha hb goal =
      let a = sym_op k A in
      let b = sym_op l B in
      let behind = if_allowed head a b next in (
        (at_zero.0, at_length),
        enabled_of a b ha hb k A (if_enabled b behind) (once a ha)
            (enabled_of a b ha hb l B behind (once b hb)
            (allowed_of Q at_zero a b (once a ha) (once b hb) head next goal)),
        tt,
      )

-- names serve twice
small_twice : (x : ℕ) → x < 9 → ServesTwice IsSmallPlace (place x (pos 0))
small_twice x below =
    (small_name x below, λ k near. (small_moved x k below near, λ j other. moved_twice x k j below near other))
  where
    moved_twice : (x : ℕ) (k j : ℤ) → x < 9 → IsNear 99 k → IsNear 99 j
        → IsSmallPlace (plus (plus (place x (pos 0)) k) j)
    moved_twice x k j below near other = record {
      name = below;
      near =
          record { low = omega (arith, ints, near.low, other.low); high = omega (arith, ints, near.high, other.high) };
    }

pub first_twice : (k : Kind) → OpServesTwice IsSmallPlace (sym_op k A)
first_twice k =
    op_serves (Serves IsSmallPlace) k A (small_twice 0 (lit< tt)) (small_twice 3 (lit< tt)) (small_twice 4 (lit< tt))
    (small_twice 5 (lit< tt))

pub second_twice : (k : Kind) → OpServesTwice IsSmallPlace (sym_op k B)
second_twice k =
    op_serves (Serves IsSmallPlace) k B (small_twice 0 (lit< tt)) (small_twice 6 (lit< tt)) (small_twice 7 (lit< tt))
    (small_twice 8 (lit< tt))

name_twice : (P : ℕ → Type 0) (x : ℕ) → P x → ServesTwice (OfName P) (place x (pos 0))
name_twice P x h = ((h, λ k near. h), λ k near. (h, λ j other. h))

pub op_serves_twice :
    (P : ℕ → Type 0) (k : Kind) (who : Who) → P 0 → P (position_name who) → P (site_name who) → P (char_name who)
    → OpServesTwice (OfName P) (sym_op k who)
op_serves_twice P k who zero at site ch =
    op_serves (Serves (OfName P)) k who (name_twice P 0 zero) (name_twice P (position_name who) at)
    (name_twice P (site_name who) site) (name_twice P (char_name who) ch)
