-- The definitions on worked examples.
use Rattle.std.specs.Prelude.{◌≡◌, pos, [], ◌∷◌, Some, None, refl}
use Rattle.ot_model.specs.declared.op.Kind.TheVariants as kinds
use Rattle.ot_model.specs.declared.op.Op.TheVariants.{Ins, Nop}
use Rattle.ot_model.specs.Cells.{live_cell, dead_cell}
use Rattle.fn_rules.specs.Shipped.{sites, ties}
use Rattle.ot_ways.specs.Differences.{difference_of}
use Rattle.ot_ways.specs.Taken.{taken_of}

-- the greater site moves at a tie, by the third case
the_last_case : taken_of sites (Ins (pos 2) 97 9) (Ins (pos 2) 98 3)
    ≡ Some (record { first = kinds.Ins; second = kinds.Ins; number = 2 })
the_last_case = refl

-- both guards of `ties` are false at a tie, and no case is asked of nop
no_case : taken_of ties (Ins (pos 2) 97 9) (Ins (pos 2) 98 3) ≡ None
no_case = refl

no_case_for_nop : taken_of sites (Ins (pos 2) 97 9) Nop ≡ None
no_case_for_nop = refl

differ_at_the_end : difference_of (live_cell 121 ∷ live_cell 97 ∷ []) (live_cell 121 ∷ []) ≡ Some 1
differ_at_the_end = refl

dead_and_live_differ : difference_of (live_cell 121 ∷ []) (dead_cell (live_cell 121) ∷ []) ≡ Some 0
dead_and_live_differ = refl
