-- The definitions, computed on functions and edits by hand.
use Rattle.std.proofs.Common.{◌≡◌, pos, true, [], ◌∷◌, length, refl}
use Rattle.ot_model.specs.declared.op.Kind.TheVariants.{Ins, Del}
use Rattle.fn_rules.specs.declared.guard.Cmp.TheVariants.{Lt, Le, Eq}
use Rattle.fn_rules.specs.declared.guard.Side.TheVariants.{First, Second}
use Rattle.fn_rules.specs.declared.guard.Sort.TheVariants.{Pos, Site}
use Rattle.fn_rules.specs.declared.function.Res.TheVariants as results
use Rattle.fn_rules.specs.Formulas.{Always, Compare, And}
use Rattle.fn_rules.specs.Functions.{cases_of}
use Rattle.fn_rules.specs.Shipped.{marks, moved_down, offby, p1_plus, p1_to_p2, p2_to_p1, s1_lt_s2, smaller_stays, ties}
use Rattle.fn_rules.specs.Shipped.{when}
use Rattle.ot_mend.specs.declared.change.Change.TheVariants.{NewAtom, NewResult, TakeOut, Exchange, PutIn}
use Rattle.ot_mend.specs.declared.change.NewGuard.TheVariants as new
use Rattle.ot_mend.specs.declared.edit.Edit.TheVariants.{InBlock, AssumeSites}
use Rattle.ot_mend.specs.Edits.{cases_after, edited_of, with_atom}
use Rattle.ot_mend.specs.Members.{layer}
use Rattle.ot_mend.specs.Offers.{atom_changes, edits_of, plain_atom}
use Rattle.ot_mend.specs.Ranks.{block_size, comes_before, rank_of, weight_of}

-- atoms are counted from left to right
second_atom : with_atom (plain_atom Site Second Lt) 1 (And (p1_to_p2 Eq (pos 0)) s1_lt_s2)
    ≡ And (p1_to_p2 Eq (pos 0)) (Compare (plain_atom Site Second Lt))
second_atom = refl

-- the slip of `offby` mended: `p1 < p2` becomes `p1 <= p2`
slip : cases_of
    (edited_of (InBlock Ins Del (NewAtom 0 0 (plain_atom Pos First Lt) (plain_atom Pos First Le))) offby) Ins Del
    ≡ moved_down
slip = refl

-- other blocks stay
others_stay : cases_of (edited_of (InBlock Ins Del (TakeOut 0)) offby) Ins Ins ≡ smaller_stays
others_stay = refl

-- a case is put in in front of the one of its number, or at the end
in_front : cases_after (PutIn 0 new.Always results.Nop) (when (p2_to_p1 Lt) (p1_plus (pos 0)) ∷ [])
    ≡ when Always results.Nop ∷ when (p2_to_p1 Lt) (p1_plus (pos 0)) ∷ []
in_front = refl

at_end : cases_after (PutIn 1 (new.Tie (plain_atom Site First Lt)) (p1_plus (pos 1)))
    (when (p2_to_p1 Lt) (p1_plus (pos 0)) ∷ [])
    ≡ when (p2_to_p1 Lt) (p1_plus (pos 0)) ∷ when (And (p1_to_p2 Eq (pos 0)) s1_lt_s2) (p1_plus (pos 1)) ∷ []
at_end = refl

-- two cases change places
exchanged : cases_after (Exchange 0) (when Always results.Nop ∷ when (p2_to_p1 Lt) (p1_plus (pos 0)) ∷ [])
    ≡ when (p2_to_p1 Lt) (p1_plus (pos 0)) ∷ when Always results.Nop ∷ []
exchanged = refl

-- where sites are assumed to differ, `s1 < s2` has two others, and without an offset `p1 = p2` has four
others_of_site : length (atom_changes ties.head 0 0 (plain_atom Site First Lt)) ≡ 2
others_of_site = refl

others_of_equal : length (atom_changes ties.head 0 0 (plain_atom Pos Second Eq)) ≡ 4
others_of_equal = refl

-- how many edits a function has, as a second program counts them
of_offby : length (edits_of offby) ≡ 601
of_offby = refl

-- how many functions one edit leads to, as it counts them
deletions : length (layer marks 1) ≡ 94
deletions = refl

insertions : length (layer ties 1) ≡ 174
insertions = refl

-- the lower one stays by convention, and a result nop in a block of two kinds weighs more
by_convention : weight_of (InBlock Ins Ins (PutIn 0 (new.Tie (plain_atom Site First Lt)) (p1_plus (pos 0)))) ≡ 2
by_convention = refl

against : weight_of (InBlock Ins Ins (PutIn 0 (new.Tie (plain_atom Site Second Lt)) (p1_plus (pos 0)))) ≡ 4
against = refl

loses_what_was_done : weight_of (InBlock Ins Del (NewResult 0 (p1_plus (pos 0)) results.Nop)) ≡ 7
loses_what_was_done = refl

-- `true` counts as an atom does: a case is no smaller for it
of_true : block_size (when Always results.Nop ∷ []) ≡ block_size (when (p1_to_p2 Eq (pos 0)) results.Nop ∷ [])
of_true = refl

-- an assumption comes behind an edit that makes the function larger
assumes_less : comes_before
    (rank_of (InBlock Ins Ins (PutIn 0 new.Always (p1_plus (pos 0))) ∷ []) ties)
    (rank_of (AssumeSites ∷ []) ties) ≡ true
assumes_less = refl
