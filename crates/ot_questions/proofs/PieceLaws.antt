-- What is kept of a question about operations, where it is kept of the plans that go on after it.
use Rattle.std.proofs.Common.{◌≡◌, ℕ, ◌+◌, ◌*◌, ◌<◌, ◌≤◌, ℤ, Bool, true, Option, Some, None, refl, inl, arith}
use Rattle.ot_model.specs.declared.op.Kind.{Kind}
use Rattle.fn_rules.specs.declared.function.Head.{Head}
use Rattle.fn_rules.specs.declared.guard.Sort.{Sort}
use Rattle.fn_rules.specs.Atoms.{function_atoms, guard_atoms}
use Rattle.fn_rules.specs.Formulas.{Formula}
use Rattle.fn_rules.specs.Functions.{Function}
use Rattle.fn_rules.specs.Validity.{compares_chars, has_valid_atoms, is_valid}
use Rattle.ask_core.specs.Askers.{IsFine}
use Rattle.ask_core.specs.Plans.{Plan, Ask, Holds, Fails}
use Rattle.ot_questions.specs.declared.place.Place.{Place}
use Rattle.ot_questions.specs.declared.place.SymOp.{SymOp}
use Rattle.ot_questions.specs.declared.why.Why.{Why}
use Rattle.ot_questions.specs.Sorts.{AsksLike}
use Rattle.ot_questions.specs.Asked.{IsBelow, IsKept, OpStands, PlaceStands}
use Rattle.ot_questions.specs.Nears.{IsNear}
use Rattle.ot_questions.specs.Obligation.{ask_same_form}
use Rattle.ot_questions.specs.Places.{sym_kind}
use Rattle.ot_questions.specs.Questions.{ask_le, ask_guard, ask_result, ask_enabled, ask_allowed}
use Rattle.ot_questions.proofs.Found.{AsksOfKnown}
use Rattle.ot_questions.proofs.Laws.{blocks_within, fine_questions}
use Rattle.ot_questions.proofs.AskedLaws.{like_questions}
use Rattle.ot_questions.proofs.Walks.{IsWalked, walk_le, walk_guard, walk_result, walk_enabled, walk_allowed}
use Rattle.ot_questions.proofs.Walks.{walk_same_form}

-- where every name is known
abbrev all_known : ℕ → Bool
all_known x = true

asks_of_all : (p : Plan Why) → AsksOfKnown all_known p
asks_of_all (Ask l p q) = inl (refl, refl, asks_of_all p, asks_of_all q)
asks_of_all Holds = tt
asks_of_all (Fails why) = tt

walked : (count m : ℕ) (p : Plan Why) → IsKept count m p → IsWalked count all_known m p
walked count m p h = record { kept = h; of_known = asks_of_all p }

below : (count x : ℕ) → IsBelow count x → x < count
below count x h = h

known : (count x : ℕ) → IsBelow count x → all_known x ≡ true
known count x h = refl

-- a plan of which it is kept is within the limits
pub kept_fine : (count m : ℕ) (p : Plan Why) → m ≤ 99999 → IsKept count m p → IsFine count p
kept_fine count m p few h =
    let short = h.short in record { literals = fine_questions count p h.asked; paths = omega arith }

pub kept_like : (count m : ℕ) (p : Plan Why) → IsKept count m p → AsksLike p
kept_like count m p h = like_questions count p h.asked

module _ (count : ℕ) (names : 2 < count) where
  zero_below : IsBelow count 0
  zero_below = omega arith

  length_below : IsBelow count 1
  length_below = omega arith

  pub kept_comparison :
      (m : ℕ) (sort : Sort) (a b : Place) (p q : Plan Why) → PlaceStands (IsBelow count) 500 sort a
      → PlaceStands (IsBelow count) 500 sort b
      → IsKept count m p → IsKept count m q → IsKept count (m + 1) (ask_le a b p q)
  kept_comparison m sort a b p q ha hb hp hq =
      (walk_le count all_known (IsBelow count) (below count) (known count) zero_below length_below m sort a b p q ha hb
      (walked count m p hp) (walked count m q hq)).kept

  pub kept_guard :
      (m : ℕ) (k l : Kind) (g : Formula) (a b : SymOp) (p q : Plan Why) → sym_kind a ≡ Some k → sym_kind b ≡ Some l
      → OpStands (IsBelow count) 200 a → OpStands (IsBelow count) 200 b → has_valid_atoms (compares_chars k l) g ≡ true
      → IsKept count m p → IsKept count m q → IsKept count (m + 2 * guard_atoms g) (ask_guard g a b p q)
  kept_guard m k l g a b p q ea eb ha hb valid hp hq =
      (walk_guard count all_known (IsBelow count) (below count) (known count) zero_below length_below k l a b ea eb ha
      hb m g p q valid (walked count m p hp) (walked count m q hq)).kept

  pub kept_result :
      (m n : ℕ) (f : Function) (a b : SymOp) (go : Option SymOp → Plan Why) → is_valid f ≡ true → n ≤ 200
      → OpStands (IsBelow count) n a → OpStands (IsBelow count) n b → IsKept count m (go None)
      → ((r : SymOp) → OpStands (IsBelow count) (n + 99) r → IsKept count m (go (Some r)))
      → IsKept count (m + 2 * function_atoms f) (ask_result f a b go)
  kept_result m n f a b go valid few ha hb none goes =
      (walk_result count all_known (IsBelow count) (below count) (known count) zero_below length_below f valid
      (function_atoms f) (blocks_within f) m n a b go few ha hb
      (walked count m (go None) none, λ r hr. walked count m (go (Some r)) (goes r hr))).kept

  pub kept_enabled :
      (m : ℕ) (a : SymOp) (off : ℤ) (p q : Plan Why) → IsNear 499 off → OpStands (IsBelow count) 499 a
      → IsKept count m p → IsKept count m q → IsKept count (m + 2) (ask_enabled a off p q)
  kept_enabled m a off p q near ha hp hq =
      (walk_enabled count all_known (IsBelow count) (below count) (known count) zero_below length_below m a off p q near
      ha (walked count m p hp) (walked count m q hq)).kept

  pub kept_allowed :
      (m n : ℕ) (head : Head) (a b : SymOp) (p : Plan Why) → OpStands (IsBelow count) n a → OpStands (IsBelow count) n b
      → IsKept count m p → IsKept count (m + 4) (ask_allowed head a b p)
  kept_allowed m n head a b p ha hb hp =
      (walk_allowed count all_known (IsBelow count) (below count) (known count) zero_below length_below m n head a b p
      ha hb (walked count m p hp)).kept

  pub kept_same_form :
      (a b : SymOp) → OpStands (IsBelow count) 500 a → OpStands (IsBelow count) 500 b
      → IsKept count 2 (ask_same_form a b)
  kept_same_form a b ha hb =
      (walk_same_form count all_known (IsBelow count) (below count) (known count) zero_below
      length_below a b ha hb).kept
