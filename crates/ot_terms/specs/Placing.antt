-- The form that a guard is at two operations, part by part.
use Rattle.fn_rules.specs.declared.guard.Cmp.{Cmp}
use Rattle.fn_rules.specs.declared.guard.Cmp.TheVariants as cmp
use Rattle.fn_rules.specs.declared.guard.Atom.{Atom}
use Rattle.fn_rules.specs.Formulas as guards
use Rattle.fn_rules.specs.Formulas.{Formula, of_side, other_side}
use Rattle.ot_questions.specs.declared.place.Place.{Place}
use Rattle.ot_questions.specs.declared.place.SymOp.{SymOp}
use Rattle.ot_questions.specs.Places.{plus, sym_thing}
use Rattle.ot_terms.specs.Forms.{FormTree, True, Le, Lt, Eq, And, Or, Not}

abbrev pub compared : Cmp → Place → Place → FormTree
compared cmp.Lt x y = Lt x y
compared cmp.Le x y = Le x y
compared cmp.Eq x y = Eq x y

-- the left thing beside the other one plus the offset
abbrev pub atom_form : Atom → SymOp → SymOp → FormTree
atom_form atom a b =
    compared atom.cmp
    (sym_thing atom.sort (of_side atom.left a b))
    (plus (sym_thing atom.sort (of_side (other_side atom.left) a b)) atom.k)

abbrev pub guard_form : Formula → SymOp → SymOp → FormTree
guard_form guards.Always a b = True
guard_form (guards.Compare atom) a b = atom_form atom a b
guard_form (guards.And g h) a b = And (guard_form g a b) (guard_form h a b)
guard_form (guards.Or g h) a b = Or (guard_form g a b) (guard_form h a b)
guard_form (guards.Not g) a b = Not (guard_form g a b)
