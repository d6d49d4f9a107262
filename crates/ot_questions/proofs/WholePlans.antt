-- The plans of obligations: at first the length and each position are asked whether they are at least 0, and
-- the index where documents are compared; all other questions are of names that were found so.
use Rattle.std.proofs.Common.{◌≡◌, ℕ, ◌+◌, ◌*◌, ◌<◌, ◌≤◌, pos, Bool, true, false, ◌||◌, nat_eq, refl, arith, lit<, inr}
use Rattle.std.proofs.lemmas.Bool.Decides.{Decides-eqb}
use Rattle.ot_model.specs.declared.op.Kind.{Kind}
use Rattle.ot_model.specs.declared.op.Kind.TheVariants as kinds
use Rattle.fn_rules.specs.declared.function.ObName.TheVariants.{Pair, Triple}
use Rattle.fn_rules.specs.declared.guard.Sort.TheVariants.{Pos}
use Rattle.fn_rules.specs.Functions.{Function, cases_of}
use Rattle.fn_rules.specs.Validity.{is_valid}
use Rattle.fn_rules.specs.Atoms.{block_atoms}
use Rattle.ask_core.specs.Plans.{Plan, Holds}
use Rattle.ot_questions.specs.declared.name.Who.{Who}
use Rattle.ot_questions.specs.declared.name.Who.TheVariants.{A, B, C}
use Rattle.ot_questions.specs.declared.why.Why.{Why}
use Rattle.ot_questions.specs.Names.{position_name}
use Rattle.ot_questions.specs.Places.{place, zero_place, length_and, sym_op}
use Rattle.ot_questions.specs.Questions.{ask_le, ask_lt, ask_enabled}
use Rattle.ot_questions.specs.Obligation.{ask_documents, ask_all_enabled, ask_pair, ask_triple, plan_of}
use Rattle.ot_questions.specs.Sorts.{sort_name}
use Rattle.ot_questions.specs.Asked.{PlaceStands, OpStands}
use Rattle.ot_questions.proofs.Nears.{IsNear-zero}
use Rattle.ot_questions.proofs.Placed.{position_sort, AllStand-freer, OpStands-sym_op}
use Rattle.ot_questions.proofs.Found.{known_at_first}
use Rattle.ot_questions.proofs.Walks.{IsWalked, asked_kept, good_literal, walk_le, walk_lt, walk_read, walk_allowed}
use Rattle.ot_questions.proofs.Walks.{walk_converge, walk_commute, ComparesDocuments}

-- the name is one of the obligation, and known
abbrev IsUsable : ℕ → (ℕ → Bool) → ℕ → Type 0
IsUsable count known x = (x < count) × (known x ≡ true)

usable_below : (count : ℕ) (known : ℕ → Bool) (x : ℕ) → IsUsable count known x → x < count
usable_below count known x h = h.0

usable_known : (count : ℕ) (known : ℕ → Bool) (x : ℕ) → IsUsable count known x → known x ≡ true
usable_known count known x h = h.1

-- one more name is known
abbrev and_name : (ℕ → Bool) → ℕ → ℕ → Bool
and_name known y x = known x || nat_eq x y

or_left : (a b : Bool) → a ≡ true → a || b ≡ true
or_left true b e = refl
or_left false b e = absurd (cc)

or_right : (a b : Bool) → b ≡ true → a || b ≡ true
or_right true b e = refl
or_right false b e = e

known_still : (known : ℕ → Bool) (y x : ℕ) → known x ≡ true → and_name known y x ≡ true
known_still known y x e = or_left (known x) (nat_eq x y) e

known_now : (known : ℕ → Bool) (y : ℕ) → and_name known y y ≡ true
known_now known y = or_right (known y) (nat_eq y y) ((Decides-eqb y y).1 refl)

-- asking whether a position is at least 0 makes it known
find_position :
    (count : ℕ) (known : ℕ → Bool) (y m : ℕ) (p : Plan Why) → nat_eq 0 y ≡ false
    → sort_name y ≡ Pos → 0 < count → y < count
    → IsWalked count (and_name known y) m p → IsWalked count known (m + 1) (ask_le zero_place (place y (pos 0)) p Holds)
unfolding ask_le
find_position count known y m p other e z below h =
    rw other (record {
      kept =
          asked_kept count m (record { x = 0; y = y; k = pos 0 }) p Holds
          (good_literal count Pos zero_place (place y (pos 0)) other refl e z below (IsNear-zero 500)
          (IsNear-zero 500) tt) h.kept
          (record { asked = tt; short = omega arith });
      of_known = inr (refl, refl, h.of_known);
    })

position_not_zero : (who : Who) → nat_eq 0 (position_name who) ≡ false
position_not_zero A = refl
position_not_zero B = refl
position_not_zero C = refl

-- of an operation whose position is not known yet
module _ (count : ℕ) (known : ℕ → Bool) (who : Who) (zero : IsUsable count known 0) (cells : IsUsable count known 1)
    (below : position_name who < count) where
  abbrev then_known : ℕ → Bool
  then_known x = and_name known (position_name who) x

  abbrev Then : ℕ → Type 0
  Then x = IsUsable count then_known x

  then_zero : Then 0
  then_zero = (zero.0, known_still known (position_name who) 0 zero.1)

  then_cells : Then 1
  then_cells = (cells.0, known_still known (position_name who) 1 cells.1)

  stands_there : (n : ℕ) → PlaceStands Then n Pos (place (position_name who) (pos 0))
  stands_there n =
      record {
        is = position_sort who;
        free = (below, known_now known (position_name who));
        steady = tt;
        near = IsNear-zero n;
      }

  length_there : (n : ℕ) → PlaceStands Then n Pos (length_and (pos 0))
  length_there n = record { is = refl; free = then_cells; steady = tt; near = IsNear-zero n }

  holds_there : (m : ℕ) → IsWalked count then_known m Holds
  holds_there m = record { kept = record { asked = tt; short = omega arith }; of_known = tt }

  find_cell :
      (m : ℕ) (p : Plan Why) → IsWalked count then_known m p
      → IsWalked count known (m + 1 + 1)
      (ask_le zero_place (place (position_name who) (pos 0))
      (ask_lt (place (position_name who) (pos 0)) (length_and (pos 0)) p Holds) Holds)
  find_cell m p h =
      find_position count known (position_name who) (m + 1) _ (position_not_zero who) (position_sort who) zero.0 below
      (walk_lt count then_known Then (usable_below count then_known) (usable_known count then_known)
      then_zero then_cells m Pos
      (place (position_name who) (pos 0)) (length_and (pos 0)) p Holds (stands_there 499)
      (length_there 499) h (holds_there m))

  find_enabled :
      (m : ℕ) (k : Kind) (p : Plan Why) → IsWalked count then_known m p
      → IsWalked count known (m + 1 + 1) (ask_enabled (sym_op k who) (pos 0) p Holds)
  unfolding ask_enabled
  find_enabled m kinds.Ins p h =
      find_position count known (position_name who) (m + 1) _ (position_not_zero who) (position_sort who) zero.0 below
      (walk_le count then_known Then (usable_below count then_known) (usable_known count then_known)
      then_zero then_cells m Pos
      (place (position_name who) (pos 0)) (length_and (pos 0)) p Holds (stands_there 500)
      (length_there 500) h (holds_there m))
  find_enabled m kinds.Del p h = find_cell m p h
  find_enabled m kinds.Upd p h = find_cell m p h

-- the index is asked about where documents are compared, and found to be at least 0 first
module _ (count : ℕ) (known : ℕ → Bool) (names : 2 < count) (zero : IsUsable count known 0)
    (cells : IsUsable count known 1) where
  abbrev with_index : ℕ → Bool
  with_index x = and_name known 2 x

  usable_more : (x : ℕ) → IsUsable count known x → IsUsable count with_index x
  usable_more x h = (h.0, known_still known 2 x h.1)

  find_documents : ComparesDocuments count known (IsUsable count known) (usable_below count known)
      (usable_known count known) zero cells
  unfolding ask_documents
  find_documents mode left right off near few_left few_right hl hr =
      find_position count known 2 11 _ refl refl zero.0 names
      (walk_read count with_index (IsUsable count with_index) (usable_below count with_index) (usable_known count
      with_index) (usable_more 0 zero) (usable_more 1 cells) (names, known_now known 2) mode left right off near
      few_left few_right (AllStand-freer (IsUsable count known) (IsUsable count with_index) usable_more 400 left hl)
      (AllStand-freer (IsUsable count known) (IsUsable count with_index) usable_more 400 right hr))

abbrev known_cells : ℕ → Bool
known_cells x = and_name known_at_first 1 x

abbrev known_first : ℕ → Bool
known_first x = and_name known_cells 3 x

abbrev known_two : ℕ → Bool
known_two x = and_name known_first 6 x

abbrev known_three : ℕ → Bool
known_three x = and_name known_two 9 x

-- of a valid function, none of whose blocks has more atoms than so many
module _ (f : Function) (valid : is_valid f ≡ true) (atoms : ℕ) (few_atoms : (k l : Kind)
    → block_atoms (cases_of f k l) ≤ atoms) where
  -- what is kept of the plan of a pair, with so many questions on a path at most
  pub pair_walked : (k l : Kind)
      → IsWalked 9 known_at_first (4 * atoms + 16 + 4 + 1 + 1 + 1 + 1 + 1) (plan_of f (Pair k l))
  unfolding plan_of ask_pair ask_all_enabled
  pair_walked k l =
      let Usable : ℕ → Type 0 = IsUsable 9 known_two in
      let below = usable_below 9 known_two in
      let found = usable_known 9 known_two in
      let a : OpStands Usable 0 (sym_op k A) =
      OpStands-sym_op Usable k A (lit< tt, refl) (lit< tt, refl) (lit< tt, refl) in
      let b : OpStands Usable 0 (sym_op l B) =
      OpStands-sym_op Usable l B (lit< tt, refl) (lit< tt, refl) (lit< tt, refl) in
      let zero : Usable 0 = (lit< tt, refl) in
      let cells : Usable 1 = (lit< tt, refl) in
      find_position 9 known_at_first 1 _ _ refl refl (lit< tt) (lit< tt)
      (find_enabled 9 known_cells A (lit< tt, refl) (lit< tt, refl) (lit< tt) _ k _
      (find_enabled 9 known_first B (lit< tt, refl) (lit< tt, refl) (lit< tt) _ l _
      (walk_allowed 9 known_two Usable below found zero cells (4 * atoms + 16) 0 f.head (sym_op k A) (sym_op l B) _ a b
      (walk_converge 9 known_two Usable below found zero cells f valid atoms few_atoms
      (find_documents 9 known_two (lit< tt) zero cells) (sym_op k A) (sym_op l B) a b))))

  -- the same of the plan of a triple
  pub triple_walked :
      (k l m : Kind)
      → IsWalked 12 known_at_first (2 + 6 * atoms + 6 * atoms + 4 + 4 + 4 + 1 + 1 + 1 + 1 + 1 + 1 + 1)
      (plan_of f (Triple k l m))
  unfolding plan_of ask_triple ask_all_enabled
  triple_walked k l m =
      let Usable : ℕ → Type 0 = IsUsable 12 known_three in
      let below = usable_below 12 known_three in
      let found = usable_known 12 known_three in
      let a : OpStands Usable 0 (sym_op k A) =
      OpStands-sym_op Usable k A (lit< tt, refl) (lit< tt, refl) (lit< tt, refl) in
      let b : OpStands Usable 0 (sym_op l B) =
      OpStands-sym_op Usable l B (lit< tt, refl) (lit< tt, refl) (lit< tt, refl) in
      let c : OpStands Usable 0 (sym_op m C) =
      OpStands-sym_op Usable m C (lit< tt, refl) (lit< tt, refl) (lit< tt, refl) in
      let zero : Usable 0 = (lit< tt, refl) in
      let cells : Usable 1 = (lit< tt, refl) in
      let asked = 2 + 6 * atoms + 6 * atoms in
      find_position 12 known_at_first 1 _ _ refl refl (lit< tt) (lit< tt)
      (find_enabled 12 known_cells A (lit< tt, refl) (lit< tt, refl) (lit< tt) _ k _
      (find_enabled 12 known_first B (lit< tt, refl) (lit< tt, refl) (lit< tt) _ l _
      (find_enabled 12 known_two C (lit< tt, refl) (lit< tt, refl) (lit< tt) _ m _
      (walk_allowed 12 known_three Usable below found zero cells (asked + 4 + 4) 0 f.head (sym_op k A) (sym_op l B) _ a
      b (walk_allowed 12 known_three Usable below found zero cells (asked + 4) 0 f.head (sym_op k A) (sym_op m C) _ a c
      (walk_allowed 12 known_three Usable below found zero cells asked 0 f.head (sym_op l B) (sym_op m C) _ b c
      (walk_commute 12 known_three Usable below found zero cells f valid atoms few_atoms (sym_op k A) (sym_op l B)
      (sym_op m C) a b c)))))))
