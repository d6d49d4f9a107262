-- The places of a guard at two operations that are not far.
use Rattle.std.proofs.Common.{ℕ, ◌<◌, ℤ, arith}
use Rattle.std.proofs.lemmas.Int.{ints}
use Rattle.fn_rules.specs.declared.guard.Cmp.{Cmp}
use Rattle.fn_rules.specs.declared.guard.Cmp.TheVariants as cmp
use Rattle.fn_rules.specs.declared.guard.Side.{Side}
use Rattle.fn_rules.specs.declared.guard.Side.TheVariants.{First, Second}
use Rattle.fn_rules.specs.declared.guard.Sort.{Sort}
use Rattle.fn_rules.specs.declared.guard.Sort.TheVariants.{Pos, Site, Char}
use Rattle.fn_rules.specs.Formulas.{Formula, Always, Compare, And, Or, Not, of_side, other_side}
use Rattle.ot_questions.specs.declared.place.Place.{Place}
use Rattle.ot_questions.specs.declared.place.SymOp.{SymOp}
use Rattle.ot_questions.specs.declared.place.SymOp.TheVariants as ops
use Rattle.ot_questions.specs.Nears.{IsNear, IsNearOp, HasNearAtoms}
use Rattle.ot_questions.specs.Places.{plus, sym_thing}
use Rattle.ot_questions.proofs.Nears.{sym_thing_near}
use Rattle.ot_terms.specs.Placing.{compared, guard_form}
use Rattle.ot_terms.specs.Belonging.{IsPlace, IsLowerable, HasPlaces, HasNames}

module _ (count : ℕ) (some : 0 < count) where
  -- what a guard compares of an operation has a name below the count
  thing_named : (sort : Sort) (o : SymOp) → HasNames count o → (sym_thing sort o).var < count
  thing_named Pos (ops.Ins at ch site) h = h.0
  thing_named Pos (ops.Del at site) h = h.0
  thing_named Pos (ops.Upd at ch site) h = h.0
  thing_named Pos ops.Nop h = some
  thing_named Site (ops.Ins at ch site) h = h.2
  thing_named Site (ops.Del at site) h = h.1
  thing_named Site (ops.Upd at ch site) h = h.2
  thing_named Site ops.Nop h = some
  thing_named Char (ops.Ins at ch site) h = h.1
  thing_named Char (ops.Del at site) h = some
  thing_named Char (ops.Upd at ch site) h = h.1
  thing_named Char ops.Nop h = some

  IsPlace-lowerable : (y : Place) → IsLowerable count y → IsPlace count y
  IsPlace-lowerable y h = record { name = h.name; near = record { low = omega (arith, ints); high = h.high } }

  HasPlaces-compared : (c : Cmp) (x y : Place) → IsPlace count x → IsLowerable count y
      → HasPlaces count (compared c x y)
  HasPlaces-compared cmp.Lt x y hx hy = (hx, hy)
  HasPlaces-compared cmp.Le x y hx hy = (hx, IsPlace-lowerable y hy)
  HasPlaces-compared cmp.Eq x y hx hy = (hx, IsPlace-lowerable y hy)

  IsPlace-near : (x : Place) → x.var < count → IsNear 99 x.off → IsPlace count x
  IsPlace-near x h near = record { name = h; near = record { low = omega (arith, ints); high = omega (arith, ints) } }

  IsLowerable-plus : (x : Place) (k : ℤ) → x.var < count → IsNear 99 x.off → IsNear 99 k → IsLowerable count (plus x k)
  IsLowerable-plus x k h near hk = record { name = h; low = omega (arith, ints); high = omega (arith, ints) }

  -- of operations whose names are below the count and whose offsets are small
  module _ (a b : SymOp) (ha : HasNames count a) (hb : HasNames count b) (na : IsNearOp 99 a) (nb : IsNearOp 99 b) where
    -- an atom has places below the count, either way round
    HasPlaces-sides :
        (c : Cmp) (sort : Sort) (side : Side) (k : ℤ) → IsNear 99 k
        → HasPlaces count
        (compared c (sym_thing sort (of_side side a b)) (plus (sym_thing sort (of_side (other_side side) a b)) k))
    HasPlaces-sides c sort First k hk =
        HasPlaces-compared c (sym_thing sort a) (plus (sym_thing sort b) k)
        (IsPlace-near (sym_thing sort a) (thing_named sort a ha) (sym_thing_near 99 sort a na))
        (IsLowerable-plus (sym_thing sort b) k (thing_named sort b hb) (sym_thing_near 99 sort b nb) hk)
    HasPlaces-sides c sort Second k hk =
        HasPlaces-compared c (sym_thing sort b) (plus (sym_thing sort a) k)
        (IsPlace-near (sym_thing sort b) (thing_named sort b hb) (sym_thing_near 99 sort b nb))
        (IsLowerable-plus (sym_thing sort a) k (thing_named sort a ha) (sym_thing_near 99 sort a na) hk)

    HasPlaces-guard : (g : Formula) → HasNearAtoms g → HasPlaces count (guard_form g a b)
    HasPlaces-guard Always h = tt
    HasPlaces-guard (Compare atom) h = HasPlaces-sides atom.cmp atom.sort atom.left atom.k h
    HasPlaces-guard (And g h) near = (HasPlaces-guard g near.0, HasPlaces-guard h near.1)
    HasPlaces-guard (Or g h) near = (HasPlaces-guard g near.0, HasPlaces-guard h near.1)
    HasPlaces-guard (Not g) near = HasPlaces-guard g near

pub guard_form_has_places :
    (g : Formula) (count : ℕ) (a b : SymOp) → HasNearAtoms g → 0 < count → HasNames count a
    → HasNames count b → IsNearOp 99 a
    → IsNearOp 99 b → HasPlaces count (guard_form g a b)
guard_form_has_places g count a b near some ha hb na nb = HasPlaces-guard count some a b ha hb na nb g near
