-- What guards reach, computed on small functions.
use Rattle.std.proofs.Common.{◌≡◌, ℤ, pos, negsuc, Some, refl}
use Rattle.ot_model.specs.declared.op.Kind.TheVariants as kinds
use Rattle.ot_model.specs.declared.op.Op.{Op}
use Rattle.ot_model.specs.declared.op.Op.TheVariants.{Ins, Del}
use Rattle.fn_rules.specs.Shipped.{far, ties, sites, offby}
use Rattle.fn_rules.specs.Transformation.{transform_of}
use Rattle.ot_audit.specs.declared.target.Target.TheVariants.{Case, Open}
use Rattle.ot_audit.specs.Reached.{Agree, IsReached}

-- an insertion of `a` by site 1, and one of `b` by site 2
first_at : ℤ → Op
first_at at = Ins at 97 1

second_at : ℤ → Op
second_at at = Ins at 98 2

-- `far` has one case, which is taken up to a distance of 99; behind it the block is open
far_taken : IsReached far kinds.Ins kinds.Ins (Case 0) (first_at (pos 0)) (second_at (pos 0))
unfolding first_at second_at
far_taken = record { earlier = tt; own = refl }

far_taken_at_99 : IsReached far kinds.Ins kinds.Ins (Case 0) (first_at (pos 99)) (second_at (pos 0))
unfolding first_at second_at
far_taken_at_99 = record { earlier = tt; own = refl }

far_open_at_100 : IsReached far kinds.Ins kinds.Ins Open (first_at (pos 100)) (second_at (pos 0))
unfolding first_at second_at
far_open_at_100 = (refl, tt)

-- `ties` has no case for one position
ties_taken : IsReached ties kinds.Ins kinds.Ins (Case 1) (first_at (pos 1)) (second_at (pos 0))
unfolding first_at second_at
ties_taken = record { earlier = (refl, tt); own = refl }

ties_open : IsReached ties kinds.Ins kinds.Ins Open (first_at (pos 0)) (second_at (pos 0))
unfolding first_at second_at
ties_open = (refl, (refl, tt))

-- `offby` moves an insertion at the place of a deletion, and `sites` does not
sites_stays : transform_of sites (Ins (pos 0) 97 1) (Del (pos 0) 2) ≡ Some (Ins (pos 0) 97 1)
sites_stays = refl

offby_moves : transform_of offby (Ins (pos 0) 97 1) (Del (pos 0) 2) ≡ Some (Ins (negsuc 0) 97 1)
offby_moves = refl

they_agree_behind : Agree sites offby (Ins (pos 1) 97 1) (Del (pos 0) 2)
they_agree_behind = refl
