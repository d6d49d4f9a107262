-- The definitions, computed on the worked functions.
use Rattle.std.proofs.Common.{◌≡◌, ℕ, true, false, List, [], ◌∷◌, length, Some, None, refl, arith}
use Rattle.std.specs.Prelude.{pos, negsuc, replicate, slice_get}
use Rattle.std.proofs.lemmas.Int.{ints}
use Rattle.ot_model.specs.declared.cell.Cell.{Cell}
use Rattle.ot_model.specs.declared.op.Op.{Op}
use Rattle.ot_model.specs.declared.op.Op.TheVariants.{Ins, Del, Upd, Nop}
use Rattle.ot_model.specs.declared.op.Kind.TheVariants as kinds
use Rattle.ot_model.specs.Cells.{live_cell, dead_cell}
use Rattle.fn_rules.specs.declared.guard.Side.TheVariants.{First}
use Rattle.fn_rules.specs.declared.guard.Sort.TheVariants.{Char}
use Rattle.fn_rules.specs.declared.guard.Cmp.TheVariants.{Lt, Eq}
use Rattle.fn_rules.specs.declared.guard.Tightness.TheVariants.{Loose}
use Rattle.fn_rules.specs.declared.function.Level.TheVariants.{Tp1, Tp2}
use Rattle.fn_rules.specs.declared.function.ObName.TheVariants.{Pair, Triple}
use Rattle.fn_rules.specs.declared.function.Res.TheVariants as results
use Rattle.fn_rules.specs.Formulas.{Formula, Always, Compare, And, Or, Not}
use Rattle.fn_rules.specs.Validity.{atoms_of, nesting_of, compares_chars, is_valid, is_valid_case, are_valid_cases}
use Rattle.fn_rules.specs.Atoms.{guard_atoms, function_atoms}
use Rattle.fn_rules.specs.Building.{function_from}
use Rattle.fn_rules.specs.Transformation.{transform_of}
use Rattle.ot_model.specs.declared.op.Mode.TheVariants.{Plain}
use Rattle.fn_rules.specs.Properties.{AreConcurrent, ConvergesAt, CommutesAt}
use Rattle.fn_rules.specs.Orders.{Document, StuckAt, through, integrated}
use Rattle.fn_rules.specs.Obligations.{obligations_of}
use Rattle.fn_rules.specs.Shipped.{p1_to_p2, when, p1_plus, block, stays, ttf, sites, offby, twice, ties, far, marks}
use Rattle.fn_rules.specs.Shipped.{ttfu, lastu}

-- insertions of x, y and z, and deletions, each at a position and from a site
abbrev x_at : ℕ → ℕ → Op
x_at at site = Ins (pos at) 120 site

abbrev y_at : ℕ → ℕ → Op
y_at at site = Ins (pos at) 121 site

abbrev del_at : ℕ → ℕ → Op
del_at at site = Del (pos at) site

-- an update to x
abbrev upd_at : ℕ → ℕ → Op
upd_at at site = Upd (pos at) 120 site

-- two insertions
the_smaller_position_stays : transform_of ttf (x_at 1 9) (y_at 2 3) ≡ Some (x_at 1 9)
the_smaller_position_stays = refl

the_smaller_site_stays_at_a_tie : transform_of ttf (x_at 2 3) (y_at 2 9) ≡ Some (x_at 2 3)
the_smaller_site_stays_at_a_tie = refl

the_greater_site_moves_at_a_tie : transform_of ttf (x_at 2 9) (y_at 2 3) ≡ Some (x_at 3 9)
the_greater_site_moves_at_a_tie = refl

a_tie_is_undefined : transform_of ties (x_at 2 9) (y_at 2 3) ≡ None
a_tie_is_undefined = refl

far_behind_is_undefined : transform_of far (x_at 102 1) (y_at 2 1) ≡ None
far_behind_is_undefined = refl

just_far_enough_is_defined : transform_of far (x_at 101 1) (y_at 2 1) ≡ Some (x_at 101 1)
just_far_enough_is_defined = refl

-- an insertion and a deletion
a_tombstone_moves_nothing : transform_of ttf (x_at 5 1) (del_at 2 2) ≡ Some (x_at 5 1)
a_tombstone_moves_nothing = refl

an_insertion_moves_down : transform_of sites (x_at 5 1) (del_at 2 2) ≡ Some (x_at 4 1)
an_insertion_moves_down = refl

an_insertion_at_the_cell_stays : transform_of sites (x_at 2 1) (del_at 2 2) ≡ Some (x_at 2 1)
an_insertion_at_the_cell_stays = refl

an_insertion_at_the_cell_moves_wrongly : transform_of offby (x_at 2 1) (del_at 2 2) ≡ Some (x_at 1 1)
an_insertion_at_the_cell_moves_wrongly = refl

a_deletion_at_the_insertion_moves_up : transform_of sites (del_at 2 1) (x_at 2 2) ≡ Some (del_at 3 1)
a_deletion_at_the_insertion_moves_up = refl

-- two deletions
a_later_deletion_moves_down : transform_of sites (del_at 3 1) (del_at 2 2) ≡ Some (del_at 2 1)
a_later_deletion_moves_down = refl

one_cell_is_deleted_once : transform_of sites (del_at 2 1) (del_at 2 2) ≡ Some Nop
one_cell_is_deleted_once = refl

one_cell_is_deleted_twice : transform_of twice (del_at 2 1) (del_at 2 2) ≡ Some (del_at 2 1)
one_cell_is_deleted_twice = refl

at_position_0_a_second_deletion_leaves_the_document :
    transform_of twice (del_at 1 1) (del_at 0 2) ≡ Some (Del (pos 0) 1)
at_position_0_a_second_deletion_leaves_the_document = refl

-- nop on either side
nop_stays : transform_of ties Nop (x_at 2 1) ≡ Some Nop
nop_stays = refl

nop_moves_nothing : transform_of ties (x_at 2 1) Nop ≡ Some (x_at 2 1)
nop_moves_nothing = refl

-- one letter, a deletion of it and an insertion in front of it
letter : List Cell
letter = live_cell 97 ∷ []

a_deletion_and_an_insertion : AreConcurrent sites (live_cell 97 ∷ []) (x_at 0 1 ∷ del_at 0 2 ∷ [])
a_deletion_and_an_insertion = (
  refl,
  (omega (arith, ints), omega (arith, ints)),
  (record { sites = λ _. λ same. cc; chars = λ assumed. cc }, tt),
  (refl, (omega (arith, ints), omega (arith, ints)), tt, tt),
)

they_converge : ConvergesAt sites (live_cell 97 ∷ []) (x_at 0 1) (del_at 0 2)
they_converge = record {
  b_after_a = del_at 1 2;
  a_after_b = x_at 0 1;
  b_transformed = refl;
  a_transformed = refl;
  b_enabled = (omega (arith, ints), omega (arith, ints));
  a_enabled = (omega (arith, ints), omega (arith, ints));
  one_document = refl;
}

-- `sites` lacks TP2: behind the same two operations the third has two forms
puzzle_one_way : through sites (y_at 1 3) (x_at 2 1 ∷ del_at 1 2 ∷ []) ≡ Some (y_at 1 3)
puzzle_one_way = refl

puzzle_other_way : through sites (y_at 1 3) (del_at 1 2 ∷ x_at 1 1 ∷ []) ≡ Some (y_at 2 3)
puzzle_other_way = refl

same_transformed : (c d e f g : Op) → c ≡ d → e ≡ f → transform_of sites d f ≡ Some g → transform_of sites c e ≡ Some g
same_transformed c d e f g first second is = rw (first, second) is

-- the third operation is at 1 after the first two in one order, and at 2 in the other
the_puzzle_breaks_tp2 : CommutesAt sites (x_at 2 1) (del_at 1 2) (y_at 1 3) → ⊥
the_puzzle_breaks_tp2 both =
    let c_after_a : y_at 1 3 ≡ both.c_after_a = cc in
    let b_after_a : del_at 1 2 ≡ both.b_after_a = cc in
    let c_after_b : y_at 1 3 ≡ both.c_after_b = cc in
    let a_after_b : x_at 1 1 ≡ both.a_after_b = cc in
    let one_way : Some (y_at 1 3) ≡ Some both.c_after_both =
    same_transformed (y_at 1 3) both.c_after_a (del_at 1 2) both.b_after_a both.c_after_both c_after_a
    b_after_a both.c_by_a_then_b in
    let other_way : Some (y_at 2 3) ≡ Some both.c_after_both =
    same_transformed (y_at 1 3) both.c_after_b (x_at 1 1) both.a_after_b both.c_after_both c_after_b
    a_after_b both.c_by_b_then_a in
    cc

-- `ttf` commutes there
the_puzzle_with_tombstones : CommutesAt ttf (x_at 2 1) (del_at 1 2) (y_at 1 3)
the_puzzle_with_tombstones = record {
  b_after_a = del_at 1 2;
  a_after_b = x_at 2 1;
  c_after_a = y_at 1 3;
  c_after_b = y_at 1 3;
  c_after_both = y_at 1 3;
  b_transformed = refl;
  a_transformed = refl;
  c_by_a = refl;
  c_by_b = refl;
  c_by_a_then_b = refl;
  c_by_b_then_a = refl;
}

-- integrating in an order
two_letters_in_one_order : integrated sites [] (x_at 0 1 ∷ y_at 0 2 ∷ []) (0 ∷ 1 ∷ [])
    ≡ Document (live_cell 120 ∷ live_cell 121 ∷ [])
two_letters_in_one_order = refl

two_letters_in_the_other_order : integrated sites [] (x_at 0 1 ∷ y_at 0 2 ∷ []) (1 ∷ 0 ∷ [])
    ≡ Document (live_cell 120 ∷ live_cell 121 ∷ [])
two_letters_in_the_other_order = refl

two_letters_are_stuck : integrated ties [] (x_at 0 1 ∷ y_at 0 2 ∷ []) (1 ∷ 0 ∷ []) ≡ StuckAt 1
two_letters_are_stuck = refl

-- obligations
obligations_of_insertions : obligations_of ties.head Tp2
    ≡ Pair kinds.Ins kinds.Ins ∷ Triple kinds.Ins kinds.Ins kinds.Ins ∷ []
obligations_of_insertions = refl

obligations_of_deletions : obligations_of marks.head Tp1 ≡ Pair kinds.Del kinds.Del ∷ []
obligations_of_deletions = refl

obligations_of_both : length (obligations_of ttf.head Tp2) ≡ 9
obligations_of_both = refl

the_pairs_of_three_kinds : obligations_of ttfu.head Tp1 ≡
    Pair kinds.Ins kinds.Ins ∷ Pair kinds.Ins kinds.Del ∷ Pair kinds.Ins kinds.Upd
    ∷ Pair kinds.Del kinds.Del ∷ Pair kinds.Del kinds.Upd ∷ Pair kinds.Upd kinds.Upd ∷ []
the_pairs_of_three_kinds = refl

triples_with_insertions_come_first : slice_get (obligations_of ttfu.head Tp2) 11
    ≡ Some (Triple kinds.Upd kinds.Upd kinds.Ins)
triples_with_insertions_come_first = refl

triples_with_updates_come_last : slice_get (obligations_of ttfu.head Tp2) 18
    ≡ Some (Triple kinds.Ins kinds.Ins kinds.Upd)
triples_with_updates_come_last = refl

obligations_of_three_kinds : length (obligations_of ttfu.head Tp2) ≡ 24
obligations_of_three_kinds = refl

-- updates
an_insertion_moves_an_update_up : transform_of ttfu (upd_at 2 1) (x_at 2 2) ≡ Some (upd_at 3 1)
an_insertion_moves_an_update_up = refl

the_greater_site_yields_at_one_cell : transform_of ttfu (upd_at 2 2) (upd_at 2 1) ≡ Some Nop
the_greater_site_yields_at_one_cell = refl

both_update_the_deleted_cell : integrated ttfu (live_cell 121 ∷ live_cell 122 ∷ [])
    (Upd (pos 0) 97 1 ∷ Upd (pos 0) 98 2 ∷ del_at 0 3 ∷ []) (0 ∷ 1 ∷ 2 ∷ [])
    ≡ Document (dead_cell (live_cell 97) ∷ live_cell 122 ∷ [])
both_update_the_deleted_cell = refl

the_other_way_round_too : integrated ttfu (live_cell 121 ∷ live_cell 122 ∷ [])
    (Upd (pos 0) 97 1 ∷ Upd (pos 0) 98 2 ∷ del_at 0 3 ∷ []) (2 ∷ 1 ∷ 0 ∷ [])
    ≡ Document (dead_cell (live_cell 97) ∷ live_cell 122 ∷ [])
the_other_way_round_too = refl

-- limits
ttfu_is_valid : is_valid ttfu ≡ true
ttfu_is_valid = refl

lastu_is_valid : is_valid lastu ≡ true
lastu_is_valid = refl

updates_and_insertions_may_compare_characters : (compares_chars kinds.Ins kinds.Upd ≡ true)
    × (compares_chars kinds.Upd kinds.Del ≡ false)
updates_and_insertions_may_compare_characters = (refl, refl)

ttf_is_valid : is_valid ttf ≡ true
ttf_is_valid = refl

sites_is_valid : is_valid sites ≡ true
sites_is_valid = refl

ties_is_valid : is_valid ties ≡ true
ties_is_valid = refl

far_is_valid : is_valid far ≡ true
far_is_valid = refl

marks_is_valid : is_valid marks ≡ true
marks_is_valid = refl

no_kind_is_not_valid : is_valid (function_from (record {
  mode = Plain;
  ins = false;
  del = false;
  upd = false;
  sites_differ = false;
  chars_differ = false;
}) [])
    ≡ false
no_kind_is_not_valid = refl

cases_of_an_undeclared_pair_are_not_valid :
    is_valid (function_from ties.head (block kinds.Del kinds.Del stays ∷ [])) ≡ false
cases_of_an_undeclared_pair_are_not_valid = refl

the_64th_case_is_valid : are_valid_cases false (replicate 64 (when Always results.Nop)) ≡ true
the_64th_case_is_valid = refl

the_65th_case_is_not_valid : are_valid_cases false (replicate 65 (when Always results.Nop)) ≡ false
the_65th_case_is_not_valid = refl

offset_99_is_valid : is_valid_case false (when (p1_to_p2 Lt (negsuc 98)) (p1_plus (pos 99))) ≡ true
offset_99_is_valid = refl

offset_100_is_not_valid : is_valid_case false (when Always (p1_plus (pos 100))) ≡ false
offset_100_is_not_valid = refl

abbrev equal_chars : Formula
equal_chars = Compare (record { sort = Char; left = First; cmp = Eq; k = pos 0 })

chars_are_compared_only_where_both_are : is_valid_case false (when equal_chars results.Nop) ≡ false
chars_are_compared_only_where_both_are = refl

chars_may_be_compared_by_insertions : is_valid_case true (when equal_chars results.Nop) ≡ true
chars_may_be_compared_by_insertions = refl

-- `not (true and (true or true))` has three around its inner places, and `not true and true` has one
three_around : nesting_of Loose (Not (And Always (Or Always Always))) ≡ 3
three_around = refl

one_around : nesting_of Loose (And (Not Always) Always) ≡ 1
one_around = refl

-- a chain that groups from the left needs no parentheses, one from the right needs them
left_chain : nesting_of Loose (Or (Or Always Always) (And (And Always Always) Always)) ≡ 0
left_chain = refl

right_chain : nesting_of Loose (Or Always (Or Always (Or Always Always))) ≡ 2
right_chain = refl

atoms_are_counted : atoms_of (Not (And Always (Or (p1_to_p2 Lt (pos 0)) Always))) ≡ 3
atoms_are_counted = refl

without_true : guard_atoms (Not (And Always (Or (p1_to_p2 Lt (pos 0)) Always))) ≡ 1
without_true = refl

-- over all blocks
atoms_of_sites : function_atoms sites ≡ 7
atoms_of_sites = refl

atoms_of_ttfu : function_atoms ttfu ≡ 8
atoms_of_ttfu = refl

no_atoms : function_atoms marks ≡ 0
no_atoms = refl
