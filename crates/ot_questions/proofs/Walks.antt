-- One walk through the `ask_` functions: each question of a plan is a fine literal that compares like with
-- like, each position that is asked about was found to be at least 0 before, and each function adds a few
-- questions to the longest path of what follows.
use Rattle.std.proofs.Common.{◌≡◌, ℕ, suc, ◌+◌, ◌*◌, ◌<◌, ◌≤◌, max, ℤ, pos, negsuc, ◌+ℤ◌, ◌-ℤ◌, ◌≤ℤ◌, Bool, true, false}
use Rattle.std.proofs.Common.{not, if◌then◌else◌, nat_eq, nat_le, int_le, Option, Some, None, List, [], ◌∷◌, length}
use Rattle.std.proofs.Common.{refl, ap, sym, ◌∙◌, subst, inl, inr, arith, lit≤}
use Rattle.std.specs.Ordering.{int_eq}
use Rattle.std.specs.List.{AllByRecursion, list_all}
use Rattle.std.proofs.lemmas.Bool.{cases_Bool, and_parts, and_from}
use Rattle.std.proofs.lemmas.Bool.Decides.{Decides-ltb}
use Rattle.std.proofs.lemmas.Int.{ints}
use Rattle.diff_graph.specs.declared.lit.Lit.{Lit}
use Rattle.ot_model.specs.declared.op.Mode.{Mode}
use Rattle.ot_model.specs.declared.op.Mode.TheVariants.{Plain, Tomb}
use Rattle.ot_model.specs.declared.op.Kind.{Kind}
use Rattle.fn_rules.specs.declared.function.Head.{Head}
use Rattle.fn_rules.specs.declared.guard.Side.{Side}
use Rattle.fn_rules.specs.declared.guard.Side.TheVariants.{First, Second}
use Rattle.fn_rules.specs.declared.guard.Sort.{Sort}
use Rattle.fn_rules.specs.declared.guard.Sort.TheVariants.{Pos, Site, Char}
use Rattle.fn_rules.specs.declared.guard.Cmp.{Cmp}
use Rattle.fn_rules.specs.declared.guard.Cmp.TheVariants.{Lt, Le, Eq}
use Rattle.fn_rules.specs.declared.guard.Atom.{Atom}
use Rattle.fn_rules.specs.declared.limits.TheConstants.{MAX_CASES}
use Rattle.fn_rules.specs.Formulas.{Formula, Always, Compare, And, Or, Not, of_side, other_side}
use Rattle.fn_rules.specs.Functions.{Function, GuardedCase, cases_of}
use Rattle.fn_rules.specs.Validity.{has_valid_atoms, is_valid_case, is_valid, compares_chars}
use Rattle.fn_rules.specs.Atoms.{guard_atoms, block_atoms}
use Rattle.fn_rules.proofs.LimitsKept.{are_valid_cases-valid, case_parts}
use Rattle.fn_rules.proofs.AtomCounts.{block_atoms-cons}
use Rattle.ask_core.specs.Plans.{Plan, Ask, Holds, Fails}
use Rattle.ask_core.specs.Askers.{longest_path}
use Rattle.ot_questions.specs.declared.cell.Source.{Source}
use Rattle.ot_questions.specs.declared.cell.Source.TheVariants.{Base, Named}
use Rattle.ot_questions.specs.declared.cell.Finished.{Finished}
use Rattle.ot_questions.specs.declared.place.Place.{Place}
use Rattle.ot_questions.specs.declared.place.SymOp.{SymOp}
use Rattle.ot_questions.specs.declared.place.SymOp.TheVariants.{Ins, Del, Upd, Nop}
use Rattle.ot_questions.specs.declared.why.Why.{Why}
use Rattle.ot_questions.specs.declared.why.Why.TheVariants.{Undefined, OutOfRange, Lengths, Operations}
use Rattle.ot_questions.specs.Nears.{IsNear}
use Rattle.ot_questions.specs.Places.{place, plus, zero_place, length_and, index_and, sym_at, sym_kind, sym_site}
use Rattle.ot_questions.specs.Places.{sym_char, sym_result, sym_thing, growth}
use Rattle.ot_questions.specs.Questions.{ask_le, ask_lt, ask_eq, ask_compared, ask_atom, ask_guard, ask_first_result}
use Rattle.ot_questions.specs.Questions.{ask_result_by_kinds, ask_result, or_undefined, ask_transform, ask_enabled}
use Rattle.ot_questions.specs.Questions.{ask_differ, ask_allowed}
use Rattle.ot_questions.specs.Reading.{base_cell, put_cell, buried_cell, replaced_cell, ask_cell, ask_same_source}
use Rattle.ot_questions.specs.Reading.{ask_same, is_same_flag, cells_cause}
use Rattle.ot_questions.specs.Obligation.{ask_documents, ask_lengths, ask_ways, ask_converge, ask_one_place}
use Rattle.ot_questions.specs.Obligation.{ask_same_form, ask_behind, ask_commute}
use Rattle.ot_questions.proofs.Nears.{IsNear-more, IsNear-plus, IsNear-zero, IsNear-offset_for}
use Rattle.ot_questions.specs.Sorts.{sort_name, IsStill}
use Rattle.ot_questions.specs.Asked.{IsSteady, PlaceStands, OpStands, IsGood, IsKept}
use Rattle.ot_questions.proofs.Placed.{HasThing, things_there, steady-offset, PlaceStands-more, PlaceStands-plus}
use Rattle.ot_questions.proofs.Placed.{PlaceStands-name, OpStands-more, PlaceStands-thing, OpStands-nop}
use Rattle.ot_questions.proofs.Placed.{OpStands-result}
use Rattle.ot_questions.proofs.Found.{AsksOfKnown}

-- what is kept of what a plan asks, and it asks of known names alone
pub record IsWalked (count : ℕ) (known : ℕ → Bool) (m : ℕ) (p : Plan Why) : Type 0 where
  pub kept : IsKept count m p
  pub of_known : AsksOfKnown known p

near_difference : (j k : ℤ) → IsNear 500 j → IsNear 500 k → (negsuc 999 ≤ℤ (k -ℤ j)) × ((k -ℤ j) ≤ℤ pos 1000)
near_difference j k h g = (omega (arith, ints), omega (arith, ints))

int_le-from : (x y : ℤ) → x ≤ℤ y → int_le x y ≡ true
int_le-from x y h = grind (arith, ints)

longer : (m x y : ℕ) → x ≤ m → y ≤ m → 1 + max x y ≤ m + 1
longer m x y hx hy = omega arith

one_less : IsNear 1 (negsuc 0)
one_less = record { low = omega (arith, ints); high = omega (arith, ints) }

one_more : IsNear 1 (pos 1)
one_more = record { low = omega (arith, ints); high = omega (arith, ints) }

growth_near : (mode : Mode) (o : SymOp) → IsNear 1 (growth mode o)
growth_near Plain (Ins p c s) = one_more
growth_near Tomb (Ins p c s) = one_more
growth_near Plain (Del p s) = one_less
growth_near Tomb (Del p s) = IsNear-zero 1
growth_near Plain (Upd p c s) = IsNear-zero 1
growth_near Tomb (Upd p c s) = IsNear-zero 1
growth_near Plain Nop = IsNear-zero 1
growth_near Tomb Nop = IsNear-zero 1

pub longer_kept : (count m n : ℕ) (p : Plan Why) → m ≤ n → IsKept count m p → IsKept count n p
longer_kept count m n p h g = let short = g.short in record { asked = g.asked; short = omega arith }

pub asked_kept :
    (count m : ℕ) (l : Lit) (p q : Plan Why) → IsGood count l → IsKept count m p → IsKept count m q
    → IsKept count (m + 1) (Ask l p q)
asked_kept count m l p q good hp hq =
    record { asked = (good, hp.asked, hq.asked); short = longer m (longest_path p) (longest_path q) hp.short hq.short }

pub walked_more : (count : ℕ) (known : ℕ → Bool) (m n : ℕ) (p : Plan Why) → m ≤ n → IsWalked count known m p
    → IsWalked count known n p
walked_more count known m n p h g = record { kept = longer_kept count m n p h g.kept; of_known = g.of_known }

-- a literal over two names of one sort
pub good_literal :
    (count : ℕ) (sort : Sort) (a b : Place) → nat_eq a.var b.var ≡ false
    → sort_name a.var ≡ sort → sort_name b.var ≡ sort
    → a.var < count → b.var < count → IsNear 500 a.off → IsNear 500 b.off → IsStill sort (b.off -ℤ a.off)
    → IsGood count (record { x = a.var; y = b.var; k = b.off -ℤ a.off })
good_literal count sort a b other ea eb ba bb na nb still =
    let bounds = near_difference a.off b.off na nb in
    record {
      like = record { sorts = ea ∙ sym eb; still = subst (λ z. IsStill z (b.off -ℤ a.off)) (sym ea) still };
      fine =
          and_from _ _
          (and_from _ _
          (and_from _ _ (and_from _ _ (ap not other) ((Decides-ltb a.var count).1 ba)) ((Decides-ltb b.var count).1 bb))
          (int_le-from (negsuc 999) (b.off -ℤ a.off) bounds.0))
          (int_le-from (b.off -ℤ a.off) (pos 1000) bounds.1);
    }

still-le : (sort : Sort) (i j : ℤ) → IsSteady sort i → IsSteady sort j → IsStill sort (j -ℤ i)
still-le Pos i j h g = tt
still-le Site i j h g = inl (omega (arith, ints))
still-le Char i j h g = inl (omega (arith, ints))

still-lt : (sort : Sort) (i j : ℤ) → IsSteady sort i → IsSteady sort j → IsStill sort ((j +ℤ negsuc 0) -ℤ i)
still-lt Pos i j h g = tt
still-lt Site i j h g = inr (omega (arith, ints))
still-lt Char i j h g = inr (omega (arith, ints))

-- with names that may be used: they are below the count, and known
module _ (count : ℕ) (known : ℕ → Bool) (Free : ℕ → Type 0) (below : (x : ℕ) → Free x → x < count)
    (found : (x : ℕ) → Free x → known x ≡ true) (zero_free : Free 0) (length_free : Free 1) where
  abbrev pub Kept : ℕ → Plan Why → Type 0
  Kept m p = IsWalked count known m p

  abbrev pub At : ℕ → Sort → Place → Type 0
  At n sort p = PlaceStands Free n sort p

  pub kept_more : (m n : ℕ) (p : Plan Why) → m ≤ n → Kept m p → Kept n p
  kept_more m n p h g = walked_more count known m n p h g

  pub kept_holds : (m : ℕ) → Kept m Holds
  kept_holds m = record { kept = record { asked = tt; short = omega arith }; of_known = tt }

  kept_fails : (m : ℕ) (why : Why) → Kept m (Fails why)
  kept_fails m why = record { kept = record { asked = tt; short = omega arith }; of_known = tt }

  kept_if : (m : ℕ) (b : Bool) (p q : Plan Why) → Kept m p → Kept m q → Kept m (if b then p else q)
  kept_if m true p q hp hq = hp
  kept_if m false p q hp hq = hq

  -- the names that every obligation has
  zero_at : (n : ℕ) → At n Pos zero_place
  zero_at n = record { is = refl; free = zero_free; steady = tt; near = IsNear-zero n }

  length_at : (n : ℕ) (off : ℤ) → IsNear n off → At n Pos (length_and off)
  length_at n off near = record { is = refl; free = length_free; steady = tt; near = near }

  -- one comparison adds one question at most
  asked_le :
      (m : ℕ) (sort : Sort) (a b : Place) (p q : Plan Why) → sort_name a.var ≡ sort → sort_name b.var ≡ sort
      → Free a.var → Free b.var
      → IsNear 500 a.off → IsNear 500 b.off → IsStill sort (b.off -ℤ a.off) → Kept m p → Kept m q
      → Kept (m + 1) (ask_le a b p q)
  unfolding ask_le
  asked_le m sort a b p q ea eb fa fb na nb still hp hq =
      elim (cases_Bool (nat_eq a.var b.var)) [
        | inl same ↦
            rw same
            (kept_more m (m + 1) (if int_le a.off b.off then p else q) (omega arith)
            (kept_if m (int_le a.off b.off) p q hp hq))
        | inr other ↦
            rw other (record {
              kept =
                  asked_kept count m (record { x = a.var; y = b.var; k = b.off -ℤ a.off }) p q
                  (good_literal count sort a b other ea eb (below a.var fa) (below b.var fb) na nb still) hp.kept
                  hq.kept;
              of_known = inl (found a.var fa, found b.var fb, hp.of_known, hq.of_known);
            })
      ]

  pub walk_le :
      (m : ℕ) (sort : Sort) (a b : Place) (p q : Plan Why) → At 500 sort a → At 500 sort b → Kept m p → Kept m q
      → Kept (m + 1) (ask_le a b p q)
  walk_le m sort a b p q ha hb hp hq =
      asked_le m sort a b p q ha.is hb.is ha.free hb.free ha.near hb.near
      (still-le sort a.off b.off ha.steady hb.steady) hp hq

  pub walk_lt :
      (m : ℕ) (sort : Sort) (a b : Place) (p q : Plan Why) → At 499 sort a → At 499 sort b → Kept m p → Kept m q
      → Kept (m + 1) (ask_lt a b p q)
  unfolding ask_lt
  walk_lt m sort a b p q ha hb hp hq =
      asked_le m sort a (plus b (negsuc 0)) p q ha.is hb.is ha.free hb.free
      (IsNear-more 499 500 a.off (lit≤ tt) ha.near)
      (IsNear-plus 499 1 b.off (negsuc 0) hb.near one_less) (still-lt sort a.off b.off ha.steady hb.steady) hp hq

  walk_eq :
      (m : ℕ) (sort : Sort) (a b : Place) (p q : Plan Why) → At 500 sort a → At 500 sort b → Kept m p → Kept m q
      → Kept (m + 2) (ask_eq a b p q)
  unfolding ask_eq
  walk_eq m sort a b p q ha hb hp hq =
      kept_more (m + 1 + 1) (m + 2) _ (omega arith)
      (walk_le (m + 1) sort a b (ask_le b a p q) q ha hb (walk_le m sort b a p q hb ha hp hq)
      (kept_more m (m + 1) q (omega arith) hq))

  walk_compared :
      (m : ℕ) (sort : Sort) (cmp : Cmp) (a b : Place) (p q : Plan Why) → At 499 sort a
      → At 499 sort b → Kept m p → Kept m q
      → Kept (m + 2) (ask_compared cmp a b p q)
  unfolding ask_compared
  walk_compared m sort Lt a b p q ha hb hp hq =
      kept_more (m + 1) (m + 2) _ (omega arith) (walk_lt m sort a b p q ha hb hp hq)
  walk_compared m sort Le a b p q ha hb hp hq =
      kept_more (m + 1) (m + 2) _ (omega arith)
      (walk_le m sort a b p q (PlaceStands-more Free 499 500 sort a (lit≤ tt) ha)
      (PlaceStands-more Free 499 500 sort b (lit≤ tt) hb) hp hq)
  walk_compared m sort Eq a b p q ha hb hp hq =
      walk_eq m sort a b p q (PlaceStands-more Free 499 500 sort a (lit≤ tt) ha)
      (PlaceStands-more Free 499 500 sort b (lit≤ tt) hb) hp hq

  -- of two operations of these kinds, in whose block the guard may stand
  module _ (k l : Kind) (a b : SymOp) (ea : sym_kind a ≡ Some k) (eb : sym_kind b ≡ Some l) (ha : OpStands Free 200 a)
      (hb : OpStands Free 200 b) where
    -- the questions of an atom, which compares the operations either way
    by_side :
        (m : ℕ) (atom : Atom) (side : Side) (p q : Plan Why) → HasThing atom.sort a → HasThing atom.sort b
        → IsSteady atom.sort atom.k
        → IsNear 99 atom.k → Kept m p → Kept m q
        → Kept (m + 2) (ask_compared atom.cmp (sym_thing atom.sort (of_side side a b))
        (plus (sym_thing atom.sort (of_side (other_side side) a b)) atom.k) p q)
    by_side m atom First p q ta tb still near hp hq =
        walk_compared m atom.sort atom.cmp (sym_thing atom.sort a) (plus (sym_thing atom.sort b) atom.k) p q
        (PlaceStands-more Free 200 499 atom.sort _ (lit≤ tt) (PlaceStands-thing Free 200 atom.sort a ha ta))
        (PlaceStands-more Free 299 499 atom.sort _ (lit≤ tt)
        (PlaceStands-plus Free 200 99 atom.sort _ atom.k (PlaceStands-thing Free 200 atom.sort b hb tb) still near)) hp
        hq
    by_side m atom Second p q ta tb still near hp hq =
        walk_compared m atom.sort atom.cmp (sym_thing atom.sort b) (plus (sym_thing atom.sort a) atom.k) p q
        (PlaceStands-more Free 200 499 atom.sort _ (lit≤ tt) (PlaceStands-thing Free 200 atom.sort b hb tb))
        (PlaceStands-more Free 299 499 atom.sort _ (lit≤ tt)
        (PlaceStands-plus Free 200 99 atom.sort _ atom.k (PlaceStands-thing Free 200 atom.sort a ha ta) still near)) hp
        hq

    -- a guard adds at most two questions for each of its atoms
    pub walk_guard :
        (m : ℕ) (g : Formula) (p q : Plan Why) → has_valid_atoms (compares_chars k l) g ≡ true → Kept m p → Kept m q
        → Kept (m + 2 * guard_atoms g) (ask_guard g a b p q)
    unfolding ask_guard ask_atom
    walk_guard m Always p q h hp hq = kept_more m (m + 2 * 0) p (omega arith) hp
    walk_guard m (Compare atom) p q h hp hq =
        let things = things_there atom.sort k l a b atom.k ea eb h in
        by_side m atom atom.left p q things.0 things.1 (steady-offset (compares_chars k l) atom.sort atom.k h)
        (IsNear-offset_for (compares_chars k l) atom.sort atom.k h) hp hq
    walk_guard m (And g i) p q h hp hq =
        let both = and_parts (has_valid_atoms (compares_chars k l) g) (has_valid_atoms (compares_chars k l) i) h in
        kept_more (m + 2 * guard_atoms i + 2 * guard_atoms g) (m + 2 * (guard_atoms g + guard_atoms i)) _ (omega arith)
        (walk_guard (m + 2 * guard_atoms i) g (ask_guard i a b p q) q both.0 (walk_guard m i p q both.1 hp hq)
        (kept_more m (m + 2 * guard_atoms i) q (omega arith) hq))
    walk_guard m (Or g i) p q h hp hq =
        let both = and_parts (has_valid_atoms (compares_chars k l) g) (has_valid_atoms (compares_chars k l) i) h in
        kept_more (m + 2 * guard_atoms i + 2 * guard_atoms g) (m + 2 * (guard_atoms g + guard_atoms i)) _ (omega arith)
        (walk_guard (m + 2 * guard_atoms i) g p (ask_guard i a b p q) both.0
        (kept_more m (m + 2 * guard_atoms i) p (omega arith) hp) (walk_guard m i p q both.1 hp hq))
    walk_guard m (Not g) p q h hp hq = walk_guard m g q p h hq hp

  -- what goes on with any form that stands
  abbrev pub GoesOn : ℕ → ℕ → (SymOp → Plan Why) → Type 0
  GoesOn m n go = (r : SymOp) → OpStands Free n r → Kept m (go r)

  -- the same of a result, and where there is none
  abbrev pub GoesOnAfter : ℕ → ℕ → (Option SymOp → Plan Why) → Type 0
  GoesOnAfter m n go = Kept m (go None) × ((r : SymOp) → OpStands Free n r → Kept m (go (Some r)))

  -- the questions of the cases of a block, in their order
  walk_first_result :
      (m n : ℕ) (k l : Kind) (cs : List GuardedCase) (a b : SymOp) (go : Option SymOp → Plan Why)
      → n ≤ 200 → sym_kind a ≡ Some k
      → sym_kind b ≡ Some l
      → list_all (is_valid_case (compares_chars k l)) cs ≡ true → OpStands Free n a → OpStands Free n b
      → GoesOnAfter m (n + 99) go
      → Kept (m + 2 * block_atoms cs) (ask_first_result cs a b go)
  walk_first_result m n k l [] a b go few ea eb h ha hb hg = kept_more m (m + 2 * 0) (go None) (omega arith) hg.0
  walk_first_result m n k l (c ∷ cs) a b go few ea eb h ha hb hg =
      let both = and_parts (is_valid_case (compares_chars k l) c)
      (list_all (is_valid_case (compares_chars k l)) cs) h in
      let parts = case_parts (compares_chars k l) c both.0 in
      kept_more (m + 2 * block_atoms cs + 2 * guard_atoms c.guard) (m + 2 * block_atoms (c ∷ cs)) _
      (omega (arith, block_atoms-cons c cs))
      (walk_guard k l a b ea eb (OpStands-more Free n 200 a few ha) (OpStands-more Free n 200 b few hb)
      (m + 2 * block_atoms cs) c.guard (go (Some (sym_result c.res a b))) (ask_first_result cs a b go) parts.0
      (kept_more m (m + 2 * block_atoms cs) _ (omega arith)
      (hg.1 (sym_result c.res a b) (OpStands-result Free n c.res a b zero_free parts.2 ha hb)))
      (walk_first_result m n k l cs a b go few ea eb both.1 ha hb hg))

  walk_has_cell :
      (m : ℕ) (at : Place) (off : ℤ) (p q : Plan Why) → IsNear 499 off → At 499 Pos at → Kept m p → Kept m q
      → Kept (m + 2) (ask_le zero_place at (ask_lt at (length_and off) p q) q)
  walk_has_cell m at off p q near ha hp hq =
      kept_more (m + 1 + 1) (m + 2) _ (omega arith)
      (walk_le (m + 1) Pos zero_place at (ask_lt at (length_and off) p q) q (zero_at 500) (PlaceStands-more Free 499 500
      Pos at (lit≤ tt) ha) (walk_lt m Pos at (length_and off) p q ha (length_at 499 off near) hp hq)
      (kept_more m (m + 1) q (omega arith) hq))

  -- whether an operation is enabled adds two questions at most
  pub walk_enabled :
      (m : ℕ) (o : SymOp) (off : ℤ) (p q : Plan Why) → IsNear 499 off → OpStands Free 499 o → Kept m p → Kept m q
      → Kept (m + 2) (ask_enabled o off p q)
  unfolding ask_enabled
  walk_enabled m (Ins at c s) off p q near ho hp hq =
      kept_more (m + 1 + 1) (m + 2) _ (omega arith)
      (walk_le (m + 1) Pos zero_place at (ask_le at (length_and off) p q) q (zero_at 500) (PlaceStands-more Free 499
      500 Pos at (lit≤ tt) ho.at) (walk_le m Pos at (length_and off) p q (PlaceStands-more Free 499 500 Pos at (lit≤ tt)
      ho.at) (length_at 500 off (IsNear-more 499 500 off (lit≤ tt) near)) hp hq)
      (kept_more m (m + 1) q (omega arith) hq))
  walk_enabled m (Del at s) off p q near ho hp hq = walk_has_cell m at off p q near ho.at hp hq
  walk_enabled m (Upd at c s) off p q near ho hp hq = walk_has_cell m at off p q near ho.at hp hq
  walk_enabled m Nop off p q near ho hp hq = kept_more m (m + 2) p (omega arith) hp

  walk_differ :
      (m n : ℕ) (sort : Sort) (x y : Option ℕ) (p : Plan Why) → ((i : ℕ) → x ≡ Some i → At n sort (place i (pos 0)))
      → ((i : ℕ) → y ≡ Some i → At n sort (place i (pos 0))) → Kept m p → Kept (m + 2) (ask_differ x y p)
  unfolding ask_differ
  walk_differ m n sort None y p hx hy hp = kept_more m (m + 2) p (omega arith) hp
  walk_differ m n sort (Some x) None p hx hy hp = kept_more m (m + 2) p (omega arith) hp
  walk_differ m n sort (Some x) (Some y) p hx hy hp =
      walk_eq m sort (place x (pos 0)) (place y (pos 0)) Holds p (PlaceStands-name Free n 500 sort x (hx x refl))
      (PlaceStands-name Free n 500 sort y (hy y refl)) (kept_holds m) hp

  walk_if_differ :
      (m n : ℕ) (assumed : Bool) (sort : Sort) (x y : Option ℕ) (p : Plan Why)
      → ((i : ℕ) → x ≡ Some i → At n sort (place i (pos 0)))
      → ((i : ℕ) → y ≡ Some i → At n sort (place i (pos 0))) → Kept m p
      → Kept (m + 2) (if assumed then ask_differ x y p else p)
  walk_if_differ m n assumed sort x y p hx hy hp =
      kept_if (m + 2) assumed (ask_differ x y p) p (walk_differ m n sort x y p hx hy hp)
      (kept_more m (m + 2) p (omega arith) hp)

  pub walk_allowed :
      (m n : ℕ) (head : Head) (a b : SymOp) (p : Plan Why) → OpStands Free n a → OpStands Free n b → Kept m p
      → Kept (m + 4) (ask_allowed head a b p)
  unfolding ask_allowed
  walk_allowed m n head a b p ha hb hp =
      kept_more (m + 2 + 2) (m + 4) _ (omega arith)
      (walk_if_differ (m + 2) n head.sites_differ Site (sym_site a) (sym_site b) _ ha.site hb.site
      (walk_if_differ m n head.chars_differ Char (sym_char a) (sym_char b) p ha.ch hb.ch hp))

  -- where the index may be asked about too
  module _ (index_free : Free 2) where
    index_at : (n : ℕ) (off : ℤ) → IsNear n off → At n Pos (index_and off)
    index_at n off near = record { is = refl; free = index_free; steady = tt; near = near }

    -- the character of a finished cell is a character's name
    abbrev SourceStands : Source → Type 0
    SourceStands (Base off) = Unit {0}
    SourceStands (Named c) = At 0 Char (place c (pos 0))

    abbrev CellGoesOn : ℕ → (Finished → Plan Why) → Type 0
    CellGoesOn m go = (x : Finished) → SourceStands x.source → Kept m (go x)

    -- two steps of a reading: before the place, and at it or behind it
    walk_two :
        (m : ℕ) (p : Place) (off : ℤ) (before at behind : Plan Why) → At 400 Pos p → IsNear 400 off → Kept m before
        → Kept m at → Kept m behind
        → Kept (m + 2) (ask_lt (index_and off) p before (ask_le (index_and off) p at behind))
    walk_two m p off before at behind hp near hb ha hd =
        kept_more (m + 1 + 1) (m + 2) _ (omega arith)
        (walk_lt (m + 1) Pos (index_and off) p before (ask_le (index_and off) p at behind)
        (index_at 499 off (IsNear-more 400 499 off (lit≤ tt) near))
        (PlaceStands-more Free 400 499 Pos p (lit≤ tt) hp) (kept_more m (m + 1) before (omega arith) hb)
        (walk_le m Pos (index_and off) p at behind (index_at 500 off (IsNear-more 400 500 off (lit≤ tt) near))
        (PlaceStands-more Free 400 500 Pos p (lit≤ tt) hp) ha hd))

    -- an inserted character
    walk_put :
        (m n : ℕ) (mode : Mode) (p : Place) (c s : ℕ) (ops : List SymOp) (off : ℤ) (go : Finished → Plan Why)
        → IsNear n off → n ≤ 400 → OpStands Free 400 (Ins p c s) → CellGoesOn m go
        → Kept (m + 2 * length ops) (ask_cell mode ops off go)
        → Kept (m + 2 * length ops) (ask_cell mode ops (off +ℤ negsuc 0) go)
        → Kept (m + 2 * suc (length ops)) (ask_cell mode (Ins p c s ∷ ops) off go)
    unfolding ask_cell
    walk_put m n mode p c s ops off go near few h hg here behind =
        kept_more (m + 2 * length ops + 2) (m + 2 * suc (length ops)) _ (omega arith)
        (walk_two (m + 2 * length ops) p off (ask_cell mode ops off go) (go (put_cell c))
        (ask_cell mode ops (off +ℤ negsuc 0) go) h.at (IsNear-more n 400 off few near) here
        (kept_more m (m + 2 * length ops) _ (omega arith)
        (hg (put_cell c) (PlaceStands-name Free 400 0 Char c (h.ch c refl)))) behind)

    -- a tombstone, or a character that was replaced
    walk_changed :
        (m n : ℕ) (mode : Mode) (change : Finished → Finished) (p : Place) (ops : List SymOp)
        (off : ℤ) (go : Finished → Plan Why)
        → IsNear n off → n ≤ 400 → At 400 Pos p → Kept (m + 2 * length ops) (ask_cell mode ops off go)
        → Kept (m + 2 * length ops) (ask_cell mode ops off (λ cell. go (change cell)))
        → Kept (m + 2 * suc (length ops)) (ask_lt (index_and off) p (ask_cell mode ops off go)
        (ask_le (index_and off) p (ask_cell mode ops off (λ cell. go (change cell))) (ask_cell mode ops off go)))
    walk_changed m n mode change p ops off go near few hp kept made =
        kept_more (m + 2 * length ops + 2) (m + 2 * suc (length ops)) _ (omega arith)
        (walk_two (m + 2 * length ops) p off (ask_cell mode ops off go) (ask_cell mode ops off
        (λ cell. go (change cell))) (ask_cell mode ops off go) hp (IsNear-more n 400 off few near) kept made kept)

    -- reading through operations: the index is at most as far as there are operations
    walk_cell :
        (m n : ℕ) (mode : Mode) (ops : List SymOp) (off : ℤ) (go : Finished → Plan Why)
        → IsNear n off → n + length ops ≤ 400
        → AllByRecursion (OpStands Free 400) ops → CellGoesOn m go
        → Kept (m + 2 * length ops) (ask_cell mode ops off go)
    unfolding ask_cell
    walk_cell m n mode [] off go near few h hg = kept_more m (m + 2 * 0) _ (omega arith) (hg (base_cell off) tt)
    walk_cell m n Plain (Ins p c s ∷ ops) off go near few h hg =
        walk_put m n Plain p c s ops off go near (omega arith) h.0 hg
        (walk_cell m n Plain ops off go near (omega arith) h.1 hg)
        (walk_cell m (n + 1) Plain ops (off +ℤ negsuc 0) go
        (IsNear-plus n 1 off (negsuc 0) near one_less) (omega arith) h.1 hg)
    walk_cell m n Tomb (Ins p c s ∷ ops) off go near few h hg =
        walk_put m n Tomb p c s ops off go near (omega arith) h.0 hg
        (walk_cell m n Tomb ops off go near (omega arith) h.1 hg)
        (walk_cell m (n + 1) Tomb ops (off +ℤ negsuc 0) go
        (IsNear-plus n 1 off (negsuc 0) near one_less) (omega arith) h.1 hg)
    walk_cell m n Plain (Del p s ∷ ops) off go near few h hg =
        kept_more (m + 2 * length ops + 1) (m + 2 * suc (length ops)) _ (omega arith)
        (walk_lt (m + 2 * length ops) Pos (index_and off) p (ask_cell Plain ops off go) (ask_cell Plain ops
        (off +ℤ pos 1) go) (index_at 499 off (IsNear-more n 499 off (omega arith) near)) (PlaceStands-more Free 400 499
        Pos p (lit≤ tt) h.0.at) (walk_cell m n Plain ops off go near (omega arith) h.1 hg)
        (walk_cell m (n + 1) Plain ops (off +ℤ pos 1) go
        (IsNear-plus n 1 off (pos 1) near one_more) (omega arith) h.1 hg))
    walk_cell m n Tomb (Del p s ∷ ops) off go near few h hg =
        walk_changed m n Tomb buried_cell p ops off go near (omega arith) h.0.at
        (walk_cell m n Tomb ops off go near (omega arith) h.1 hg)
        (walk_cell m n Tomb ops off (λ cell. go (buried_cell cell)) near (omega arith) h.1
        (λ x hx. hg (buried_cell x) hx))
    walk_cell m n Plain (Upd p c s ∷ ops) off go near few h hg =
        walk_changed m n Plain (replaced_cell c) p ops off go near (omega arith) h.0.at
        (walk_cell m n Plain ops off go near (omega arith) h.1 hg)
        (walk_cell m n Plain ops off (λ cell. go (replaced_cell c cell)) near (omega arith) h.1
        (λ x hx. hg (replaced_cell c x) (PlaceStands-name Free 400 0 Char c (h.0.ch c refl))))
    walk_cell m n Tomb (Upd p c s ∷ ops) off go near few h hg =
        walk_changed m n Tomb (replaced_cell c) p ops off go near (omega arith) h.0.at
        (walk_cell m n Tomb ops off go near (omega arith) h.1 hg)
        (walk_cell m n Tomb ops off (λ cell. go (replaced_cell c cell)) near (omega arith) h.1
        (λ x hx. hg (replaced_cell c x) (PlaceStands-name Free 400 0 Char c (h.0.ch c refl))))
    walk_cell m n Plain (Nop ∷ ops) off go near few h hg =
        kept_more (m + 2 * length ops) (m + 2 * suc (length ops)) _ (omega arith)
        (walk_cell m n Plain ops off go near (omega arith) h.1 hg)
    walk_cell m n Tomb (Nop ∷ ops) off go near few h hg =
        kept_more (m + 2 * length ops) (m + 2 * suc (length ops)) _ (omega arith)
        (walk_cell m n Tomb ops off go near (omega arith) h.1 hg)

    walk_same_source : (s t : Source) (why : Why) → SourceStands s → SourceStands t
        → Kept 2 (ask_same_source s t (Fails why))
    unfolding ask_same_source
    walk_same_source (Base i) (Base j) why hs ht =
        kept_if 2 (int_eq i j) Holds (Fails why) (kept_holds 2) (kept_fails 2 why)
    walk_same_source (Base i) (Named d) why hs ht = kept_fails 2 why
    walk_same_source (Named c) (Base j) why hs ht = kept_fails 2 why
    walk_same_source (Named c) (Named d) why hs ht =
        walk_eq 0 Char (place c (pos 0)) (place d (pos 0)) Holds (Fails why) (PlaceStands-name Free 0 500 Char c hs)
        (PlaceStands-name Free 0 500 Char d ht)
        (kept_holds 0) (kept_fails 0 why)

    walk_same : (x y : Finished) → SourceStands x.source → SourceStands y.source → Kept 2 (ask_same x y)
    unfolding ask_same
    walk_same x y hx hy =
        let why = cells_cause x y in
        kept_if 2 (is_same_flag x.flag y.flag) (ask_same_source x.source y.source (Fails why)) (Fails why)
        (walk_same_source x.source y.source why hx hy) (kept_fails 2 why)

    -- what is asked of two documents at an index that is not negative
    pub walk_read :
        (mode : Mode) (left right : List SymOp) (off : ℤ) → IsNear 499 off → length left ≤ 2 → length right ≤ 2
        → AllByRecursion (OpStands Free 400) left → AllByRecursion (OpStands Free 400) right
        → Kept 11 (ask_lt (index_and (pos 0)) (length_and off)
        (ask_cell mode left (pos 0) (λ x. ask_cell mode right (pos 0) (λ y. ask_same x y))) Holds)
    walk_read mode left right off near few_left few_right hl hr =
        walk_lt 10 Pos (index_and (pos 0)) (length_and off) _ Holds (index_at 499 (pos 0) (IsNear-zero 499))
        (length_at 499 off near) (kept_more (6 + 2 * length left) 10 _ (omega arith)
        (walk_cell 6 0 mode left (pos 0) (λ x. ask_cell mode right (pos 0) (λ y. ask_same x y))
        (IsNear-zero 0) (omega arith) hl
        (λ x hx. kept_more (2 + 2 * length right) 6 _ (omega arith)
        (walk_cell 2 0 mode right (pos 0) (λ y. ask_same x y) (IsNear-zero 0) (omega arith) hr
        (λ y hy. walk_same x y hx hy))))) (kept_holds 10)

  -- comparing the documents that two lists of operations made
  abbrev pub ComparesDocuments : Type 0
  ComparesDocuments =
      (mode : Mode) (left right : List SymOp) (off : ℤ) → IsNear 499 off → length left ≤ 2 → length right ≤ 2
      → AllByRecursion (OpStands Free 400) left → AllByRecursion (OpStands Free 400) right
      → Kept 12 (ask_documents mode left right off)

  -- of two operations and their forms
  module _ (documents : ComparesDocuments) (mode : Mode) (a p b q : SymOp) (ha : OpStands Free 400 a)
      (hp : OpStands Free 400 p) (hb : OpStands Free 400 b)
      (hq : OpStands Free 400 q) where
    walk_lengths : Kept 12 (ask_lengths mode a p b q)
    unfolding ask_lengths
    walk_lengths =
        kept_if 12 (int_eq (growth mode a +ℤ growth mode p) (growth mode b +ℤ growth mode q))
        (ask_documents mode (p ∷ a ∷ []) (q ∷ b ∷ []) (growth mode a +ℤ growth mode p)) (Fails Lengths)
        (documents mode (p ∷ a ∷ []) (q ∷ b ∷ []) (growth mode a +ℤ growth mode p)
        (IsNear-more 2 499 (growth mode a +ℤ growth mode p) (lit≤ tt)
        (IsNear-plus 1 1 (growth mode a) (growth mode p) (growth_near mode a) (growth_near mode p)))
        (lit≤ tt) (lit≤ tt) (hp, (ha, tt)) (hq, (hb, tt)))
        (kept_fails 12 Lengths)

    walk_ways : Kept 16 (ask_ways mode a p b q)
    unfolding ask_ways
    walk_ways =
        walk_enabled 14 p (growth mode a) (ask_enabled q (growth mode b) (ask_lengths mode a p b q) (Fails OutOfRange))
        (Fails OutOfRange) (IsNear-more 1 499 (growth mode a) (lit≤ tt) (growth_near mode a)) (OpStands-more Free 400
        499 p (lit≤ tt) hp) (walk_enabled 12 q (growth mode b) (ask_lengths mode a p b q) (Fails OutOfRange)
        (IsNear-more 1 499 (growth mode b) (lit≤ tt) (growth_near mode b)) (OpStands-more Free 400 499 q (lit≤ tt) hq)
        walk_lengths (kept_fails 12 OutOfRange))
        (kept_fails 14 OutOfRange)

  walk_one_place : (j k : Option Kind) (p q : Place) → At 500 Pos p → At 500 Pos q → Kept 2 (ask_one_place j k p q)
  unfolding ask_one_place
  walk_one_place None None p q hp hq = kept_holds 2
  walk_one_place None (Some k) p q hp hq = kept_fails 2 Operations
  walk_one_place (Some j) None p q hp hq = kept_fails 2 Operations
  walk_one_place (Some j) (Some k) p q hp hq =
      walk_eq 0 Pos p q Holds (Fails Operations) hp hq (kept_holds 0) (kept_fails 0 Operations)

  pub walk_same_form : (a b : SymOp) → OpStands Free 500 a → OpStands Free 500 b → Kept 2 (ask_same_form a b)
  unfolding ask_same_form
  walk_same_form a b ha hb = walk_one_place (sym_kind a) (sym_kind b) (sym_at a) (sym_at b) ha.at hb.at

  -- of a valid function, none of whose blocks has more atoms than so many
  module _ (f : Function) (valid : is_valid f ≡ true) (atoms : ℕ)
      (few_atoms : (k l : Kind) → block_atoms (cases_of f k l) ≤ atoms) where
    -- the questions of a transformation: nop, the operation itself, or by the block of the kinds
    walk_result_by_kinds :
        (m n : ℕ) (a b : SymOp) (j k : Option Kind) (go : Option SymOp → Plan Why) → n ≤ 200
        → sym_kind a ≡ j → sym_kind b ≡ k
        → OpStands Free n a → OpStands Free n b → GoesOnAfter m (n + 99) go
        → Kept (m + 2 * atoms) (ask_result_by_kinds f a b j k go)
    walk_result_by_kinds m n a b None k go few ea eb ha hb hg =
        kept_more m (m + 2 * atoms) _ (omega arith) (hg.1 Nop (OpStands-nop Free (n + 99) zero_free))
    walk_result_by_kinds m n a b (Some j) None go few ea eb ha hb hg =
        kept_more m (m + 2 * atoms) _ (omega arith) (hg.1 a (OpStands-more Free n (n + 99) a (omega arith) ha))
    walk_result_by_kinds m n a b (Some j) (Some k) go few ea eb ha hb hg =
        let both = and_parts (nat_le (length (cases_of f j k)) MAX_CASES)
        (list_all (is_valid_case (compares_chars j k)) (cases_of f j k)) (are_valid_cases-valid f j k valid) in
        kept_more (m + 2 * block_atoms (cases_of f j k)) (m + 2 * atoms) _ (omega (arith, few_atoms j k))
        (walk_first_result m n j k (cases_of f j k) a b go few ea eb both.1 ha hb hg)

    pub walk_result :
        (m n : ℕ) (a b : SymOp) (go : Option SymOp → Plan Why) → n ≤ 200 → OpStands Free n a → OpStands Free n b
        → GoesOnAfter m (n + 99) go → Kept (m + 2 * atoms) (ask_result f a b go)
    walk_result m n a b go few ha hb hg =
        walk_result_by_kinds m n a b (sym_kind a) (sym_kind b) go few refl refl ha hb hg

    walk_transform :
        (m n : ℕ) (a b : SymOp) (go : SymOp → Plan Why) → n ≤ 200 → OpStands Free n a
        → OpStands Free n b → GoesOn m (n + 99) go
        → Kept (m + 2 * atoms) (ask_transform f a b go)
    unfolding ask_transform
    walk_transform m n a b go few ha hb hg =
        walk_result m n a b (or_undefined go) few ha hb (kept_fails m Undefined, hg)

    pub walk_converge :
        ComparesDocuments → (a b : SymOp) → OpStands Free 0 a → OpStands Free 0 b
        → Kept (4 * atoms + 16) (ask_converge f a b)
    unfolding ask_converge
    walk_converge documents a b ha hb =
        kept_more (16 + 2 * atoms + 2 * atoms) (4 * atoms + 16) _ (omega arith)
        (walk_transform (16 + 2 * atoms) 0 b a _ (lit≤ tt) hb ha
        (λ p hp. walk_transform 16 0 a b _ (lit≤ tt) ha hb
        (λ q hq. walk_ways documents f.head.mode a p b q (OpStands-more Free 0 400 a (lit≤ tt) ha) (OpStands-more Free
        99 400 p (lit≤ tt) hp) (OpStands-more Free 0 400 b (lit≤ tt) hb) (OpStands-more Free 99 400 q (lit≤ tt) hq))))

    walk_behind :
        (m : ℕ) (a b c : SymOp) (go : SymOp → Plan Why) → OpStands Free 0 a → OpStands Free 0 b
        → OpStands Free 0 c → GoesOn m 198 go
        → Kept (m + 6 * atoms) (ask_behind f a b c go)
    unfolding ask_behind
    walk_behind m a b c go ha hb hc hg =
        kept_more (m + 2 * atoms + 2 * atoms + 2 * atoms) (m + 6 * atoms) _ (omega arith)
        (walk_transform (m + 2 * atoms + 2 * atoms) 0 b a _ (lit≤ tt) hb ha
        (λ p hp. walk_transform (m + 2 * atoms) 0 c a _ (lit≤ tt) hc ha
        (λ q hq. walk_transform m 99 q p go (lit≤ tt) hq hp hg)))

    pub walk_commute :
        (a b c : SymOp) → OpStands Free 0 a → OpStands Free 0 b → OpStands Free 0 c
        → Kept (2 + 6 * atoms + 6 * atoms) (ask_commute f a b c)
    unfolding ask_commute
    walk_commute a b c ha hb hc =
        walk_behind (2 + 6 * atoms) a b c _ ha hb hc
        (λ left hl. walk_behind 2 b a c _ hb ha hc
        (λ right hr. walk_same_form left right (OpStands-more Free 198 500 left (lit≤ tt) hl)
        (OpStands-more Free 198 500 right (lit≤ tt) hr)))
