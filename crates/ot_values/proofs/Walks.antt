-- The questions about operations, each with what is asked behind it: their literals are short.
use Rattle.std.proofs.Common.{◌≡◌, ℕ, ◌+◌, ◌≤◌, ℤ, pos, negsuc, ◌+ℤ◌, ◌-ℤ◌, Bool, true, false, if◌then◌else◌, nat_eq}
use Rattle.std.proofs.Common.{nat_le, int_le, Option, Some, None, List, [], ◌∷◌, length, refl, subst, inl, inr, arith}
use Rattle.std.proofs.Common.{lit≤}
use Rattle.std.specs.Ordering.{int_eq}
use Rattle.std.specs.List.{AllByRecursion, list_all}
use Rattle.std.proofs.lemmas.Bool.{cases_Bool, and_parts}
use Rattle.std.proofs.lemmas.Int.{ints}
use Rattle.ot_model.specs.declared.op.Mode.{Mode}
use Rattle.ot_model.specs.declared.op.Mode.TheVariants.{Plain, Tomb}
use Rattle.ot_model.specs.declared.op.Kind.{Kind}
use Rattle.fn_rules.specs.declared.function.Head.{Head}
use Rattle.fn_rules.specs.declared.guard.Side.{Side}
use Rattle.fn_rules.specs.declared.guard.Side.TheVariants.{First, Second}
use Rattle.fn_rules.specs.declared.guard.Cmp.{Cmp}
use Rattle.fn_rules.specs.declared.guard.Cmp.TheVariants.{Lt, Le, Eq}
use Rattle.fn_rules.specs.declared.guard.Atom.{Atom}
use Rattle.fn_rules.specs.declared.limits.TheConstants.{MAX_CASES}
use Rattle.fn_rules.specs.Formulas.{Formula, Always, Compare, And, Or, Not, of_side, other_side}
use Rattle.fn_rules.specs.Functions.{Function, GuardedCase, cases_of}
use Rattle.fn_rules.specs.Validity.{has_valid_atoms, is_valid_case, is_valid, compares_chars}
use Rattle.fn_rules.proofs.LimitsKept.{are_valid_cases-valid, case_parts}
use Rattle.ask_core.specs.Plans.{Plan, Holds, Fails}
use Rattle.ot_questions.specs.declared.cell.Source.{Source}
use Rattle.ot_questions.specs.declared.cell.Source.TheVariants.{Base, Named}
use Rattle.ot_questions.specs.declared.cell.Finished.{Finished}
use Rattle.ot_questions.specs.declared.place.Place.{Place}
use Rattle.ot_questions.specs.declared.place.SymOp.{SymOp}
use Rattle.ot_questions.specs.declared.place.SymOp.TheVariants.{Ins, Del, Upd, Nop}
use Rattle.ot_questions.specs.declared.why.Why.{Why}
use Rattle.ot_questions.specs.Nears.{IsNear}
use Rattle.ot_questions.specs.Places.{place, plus, zero_place, length_and, index_and, sym_kind, sym_site, sym_char}
use Rattle.ot_questions.specs.Places.{sym_result, sym_thing}
use Rattle.ot_questions.specs.Questions.{ask_le, ask_lt, ask_eq, ask_compared, ask_atom, ask_guard, ask_first_result}
use Rattle.ot_questions.specs.Questions.{ask_result_by_kinds, or_undefined, ask_transform, ask_enabled, ask_differ}
use Rattle.ot_questions.specs.Questions.{ask_allowed}
use Rattle.ot_questions.specs.Reading.{base_cell, put_cell, buried_cell, replaced_cell, ask_cell, ask_same_source}
use Rattle.ot_questions.specs.Reading.{ask_same, is_same_flag, cells_cause}
use Rattle.ot_questions.proofs.Nears.{IsNear-more, IsNear-plus, IsNear-zero, IsNear-offset_for}
use Rattle.ot_questions.proofs.Placed.{things_there}
use Rattle.ot_values.proofs.Reach.{IsAcross, IsOther, IsNamed, IsShort, AsksShort, InnerAt, IsThing, IsForm, inner_more}
use Rattle.ot_values.proofs.Reach.{thing_more, thing_plus, form_more, form_thing, form_result}

across_le : (m n t : ℕ) (j k : ℤ) → IsNear m j → IsNear n k → m + n + 1 ≤ t → IsAcross t (k -ℤ j)
across_le m n t j k h g few = record { low = omega (arith, ints); high = omega (arith, ints) }

across_lt : (m n t : ℕ) (j k : ℤ) → IsNear m j → IsNear n k → m + n + 1 ≤ t → IsAcross t ((k +ℤ negsuc 0) -ℤ j)
across_lt m n t j k h g few = record { low = omega (arith, ints); high = omega (arith, ints) }

some_equal : (x y : ℕ) → Some x ≡ Some y → x ≡ y
some_equal x y e = cc

one_less : IsNear 1 (negsuc 0)
one_less = record { low = omega (arith, ints); high = omega (arith, ints) }

one_more : IsNear 1 (pos 1)
one_more = record { low = omega (arith, ints); high = omega (arith, ints) }

module _ (Inner : ℕ → Type 0) where
  abbrev pub Short : Plan Why → Type 0
  Short p = AsksShort Inner p

  -- a place of such a name, or of zero or the length
  abbrev pub NamedAt : ℕ → Place → Type 0
  NamedAt n p = IsNamed Inner p.var × IsNear n p.off

  pub short_if : (b : Bool) (p q : Plan Why) → Short p → Short q → Short (if b then p else q)
  short_if true p q hp hq = hp
  short_if false p q hp hq = hq

  asked_le :
      (a b : Place) (p q : Plan Why)
      → IsShort Inner (record { x = a.var; y = b.var; k = b.off -ℤ a.off }) → Short p → Short q
      → Short (ask_le a b p q)
  unfolding ask_le
  asked_le a b p q short hp hq =
      elim (cases_Bool (nat_eq a.var b.var)) [
        | inl same ↦ rw same (short_if (int_le a.off b.off) p q hp hq)
        | inr other ↦ rw other (short, hp, hq)
      ]

  -- two places of which neither is far
  pub near_le :
      (m n : ℕ) (a b : Place) (p q : Plan Why) → m + n ≤ 100 → NamedAt m a → NamedAt n b → Short p
      → Short q → Short (ask_le a b p q)
  near_le m n a b p q few ha hb hp hq =
      asked_le a b p q (λ ex ey. inl (ha.0, hb.0, across_le m n 101 a.off b.off ha.1 hb.1 (omega arith))) hp hq

  pub near_lt :
      (m n : ℕ) (a b : Place) (p q : Plan Why) → m + n ≤ 100 → NamedAt m a → NamedAt n b → Short p
      → Short q → Short (ask_lt a b p q)
  unfolding ask_lt
  near_lt m n a b p q few ha hb hp hq =
      asked_le a (plus b (negsuc 0)) p q
      (λ ex ey. inl (ha.0, hb.0, across_lt m n 101 a.off b.off ha.1 hb.1 (omega arith))) hp hq

  far_literal :
      (a b : Place) (k : ℤ) → IsThing Inner 198 a → IsThing Inner 198 b
      → (IsNear 198 a.off → IsNear 198 b.off → IsAcross 397 k)
      → IsShort Inner (record { x = a.var; y = b.var; k = k })
  far_literal a b k (inl ha) (inl hb) across ex ey = inr (ha.inner, hb.inner, across ha.near hb.near)
  far_literal a b k (inl ha) (inr other) across ex ey = absurd (other ey)
  far_literal a b k (inr other) hb across ex ey = absurd (other ex)

  -- two things
  pub walk_le :
      (a b : Place) (p q : Plan Why) → IsThing Inner 198 a → IsThing Inner 198 b → Short p
      → Short q → Short (ask_le a b p q)
  walk_le a b p q ha hb hp hq =
      asked_le a b p q
      (far_literal a b (b.off -ℤ a.off) ha hb (λ na nb. across_le 198 198 397 a.off b.off na nb (lit≤ tt))) hp hq

  pub walk_lt :
      (a b : Place) (p q : Plan Why) → IsThing Inner 198 a → IsThing Inner 198 b → Short p
      → Short q → Short (ask_lt a b p q)
  unfolding ask_lt
  walk_lt a b p q ha hb hp hq =
      asked_le a (plus b (negsuc 0)) p q
      (far_literal a b ((b.off +ℤ negsuc 0) -ℤ a.off) ha hb
      (λ na nb. across_lt 198 198 397 a.off b.off na nb (lit≤ tt))) hp hq

  pub walk_eq :
      (a b : Place) (p q : Plan Why) → IsThing Inner 198 a → IsThing Inner 198 b → Short p
      → Short q → Short (ask_eq a b p q)
  unfolding ask_eq
  walk_eq a b p q ha hb hp hq = walk_le a b (ask_le b a p q) q ha hb (walk_le b a p q hb ha hp hq) hq

  walk_compared :
      (cmp : Cmp) (a b : Place) (p q : Plan Why) → IsThing Inner 198 a → IsThing Inner 198 b → Short p → Short q
      → Short (ask_compared cmp a b p q)
  unfolding ask_compared
  walk_compared Lt a b p q ha hb hp hq = walk_lt a b p q ha hb hp hq
  walk_compared Le a b p q ha hb hp hq = walk_le a b p q ha hb hp hq
  walk_compared Eq a b p q ha hb hp hq = walk_eq a b p q ha hb hp hq

  -- of two forms of these kinds, in whose block the guard may stand
  module _ (k l : Kind) (a b : SymOp) (ea : sym_kind a ≡ Some k) (eb : sym_kind b ≡ Some l) (ha : IsForm Inner 99 a)
      (hb : IsForm Inner 99 b) where
    -- the questions of an atom, which compares the forms either way, are short
    by_side :
        (atom : Atom) (side : Side) (p q : Plan Why) → IsThing Inner 99 (sym_thing atom.sort a)
        → IsThing Inner 99 (sym_thing atom.sort b)
        → IsNear 99 atom.k → Short p → Short q
        → Short (ask_compared atom.cmp (sym_thing atom.sort (of_side side a b))
        (plus (sym_thing atom.sort (of_side (other_side side) a b)) atom.k) p q)
    by_side atom First p q ta tb near hp hq =
        walk_compared atom.cmp (sym_thing atom.sort a) (plus (sym_thing atom.sort b) atom.k) p q
        (thing_more Inner 99 198 _ (lit≤ tt) ta) (thing_plus Inner 99 99 _ atom.k tb near) hp hq
    by_side atom Second p q ta tb near hp hq =
        walk_compared atom.cmp (sym_thing atom.sort b) (plus (sym_thing atom.sort a) atom.k) p q
        (thing_more Inner 99 198 _ (lit≤ tt) tb) (thing_plus Inner 99 99 _ atom.k ta near) hp hq

    -- the questions of a guard are short
    pub walk_guard :
        (g : Formula) (p q : Plan Why) → has_valid_atoms (compares_chars k l) g ≡ true → Short p → Short q
        → Short (ask_guard g a b p q)
    unfolding ask_guard ask_atom
    walk_guard Always p q h hp hq = hp
    walk_guard (Compare atom) p q h hp hq =
        let things = things_there atom.sort k l a b atom.k ea eb h in
        by_side atom atom.left p q (form_thing Inner 99 atom.sort a k ea things.0 ha) (form_thing Inner 99 atom.sort b l
        eb things.1 hb) (IsNear-offset_for (compares_chars k l) atom.sort atom.k h) hp hq
    walk_guard (And g i) p q h hp hq =
        let both = and_parts (has_valid_atoms (compares_chars k l) g) (has_valid_atoms (compares_chars k l) i) h in
        walk_guard g (ask_guard i a b p q) q both.0 (walk_guard i p q both.1 hp hq) hq
    walk_guard (Or g i) p q h hp hq =
        let both = and_parts (has_valid_atoms (compares_chars k l) g) (has_valid_atoms (compares_chars k l) i) h in
        walk_guard g p (ask_guard i a b p q) both.0 hp (walk_guard i p q both.1 hp hq)
    walk_guard (Not g) p q h hp hq = walk_guard g q p h hq hp

  -- what goes on with any form
  abbrev pub GoesOn : ℕ → (SymOp → Plan Why) → Type 0
  GoesOn n go = (r : SymOp) → IsForm Inner n r → Short (go r)

  -- the same of a result, and where there is none
  abbrev pub GoesOnAfter : ℕ → (Option SymOp → Plan Why) → Type 0
  GoesOnAfter n go = Short (go None) × ((r : SymOp) → IsForm Inner n r → Short (go (Some r)))

  -- the questions of the cases of a block, in their order, are short
  walk_first_result :
      (n : ℕ) (k l : Kind) (cs : List GuardedCase) (a b : SymOp) (go : Option SymOp → Plan Why)
      → n ≤ 99 → sym_kind a ≡ Some k
      → sym_kind b ≡ Some l → list_all (is_valid_case (compares_chars k l)) cs ≡ true
      → IsForm Inner n a → IsForm Inner n b
      → GoesOnAfter (n + 99) go → Short (ask_first_result cs a b go)
  walk_first_result n k l [] a b go few ea eb h ha hb hg = hg.0
  walk_first_result n k l (c ∷ cs) a b go few ea eb h ha hb hg =
      let both = and_parts (is_valid_case (compares_chars k l) c)
      (list_all (is_valid_case (compares_chars k l)) cs) h in
      let parts = case_parts (compares_chars k l) c both.0 in
      walk_guard k l a b ea eb (form_more Inner n 99 a few ha) (form_more Inner n 99 b few hb) c.guard
      (go (Some (sym_result c.res a b))) (ask_first_result cs a b go) parts.0
      (hg.1 (sym_result c.res a b) (form_result Inner n c.res a b k l ea eb parts.2 ha hb))
      (walk_first_result n k l cs a b go few ea eb both.1 ha hb hg)

  -- of a valid function
  module _ (f : Function) (valid : is_valid f ≡ true) where
    walk_result_by_kinds :
        (n : ℕ) (a b : SymOp) (j k : Option Kind) (go : Option SymOp → Plan Why) → n ≤ 99
        → sym_kind a ≡ j → sym_kind b ≡ k
        → IsForm Inner n a → IsForm Inner n b → GoesOnAfter (n + 99) go → Short (ask_result_by_kinds f a b j k go)
    walk_result_by_kinds n a b None k go few ea eb ha hb hg = hg.1 Nop tt
    walk_result_by_kinds n a b (Some j) None go few ea eb ha hb hg =
        hg.1 a (form_more Inner n (n + 99) a (omega arith) ha)
    walk_result_by_kinds n a b (Some j) (Some k) go few ea eb ha hb hg =
        let both = and_parts (nat_le (length (cases_of f j k)) MAX_CASES)
        (list_all (is_valid_case (compares_chars j k)) (cases_of f j k)) (are_valid_cases-valid f j k valid) in
        walk_first_result n j k (cases_of f j k) a b go few ea eb both.1 ha hb hg

    pub walk_transform :
        (n : ℕ) (a b : SymOp) (go : SymOp → Plan Why) → n ≤ 99 → IsForm Inner n a
        → IsForm Inner n b → GoesOn (n + 99) go
        → Short (ask_transform f a b go)
    unfolding ask_transform
    walk_transform n a b go few ha hb hg =
        walk_result_by_kinds n a b (sym_kind a) (sym_kind b) (or_undefined go) few refl refl ha hb (tt, hg)

  inner_named : (n : ℕ) (p : Place) → InnerAt Inner n p → NamedAt n p
  inner_named n p h = (inr h.inner, h.near)

  pub zero_named : NamedAt 0 zero_place
  zero_named = (inl (inl refl), IsNear-zero 0)

  pub length_named : (n : ℕ) (off : ℤ) → IsNear n off → NamedAt n (length_and off)
  length_named n off near = (inl (inr refl), near)

  walk_has_cell :
      (at : Place) (off : ℤ) (p q : Plan Why) → IsNear 1 off → InnerAt Inner 99 at → Short p → Short q
      → Short (ask_le zero_place at (ask_lt at (length_and off) p q) q)
  walk_has_cell at off p q near ha hp hq =
      near_le 0 99 zero_place at (ask_lt at (length_and off) p q) q (lit≤ tt) zero_named (inner_named 99 at ha)
      (near_lt 99 1 at (length_and off) p q (lit≤ tt) (inner_named 99 at ha) (length_named 1 off near) hp hq) hq

  pub walk_enabled :
      (o : SymOp) (off : ℤ) (p q : Plan Why) → IsNear 1 off → IsForm Inner 99 o → Short p → Short q
      → Short (ask_enabled o off p q)
  unfolding ask_enabled
  walk_enabled (Ins at c s) off p q near ho hp hq =
      near_le 0 99 zero_place at (ask_le at (length_and off) p q) q (lit≤ tt) zero_named (inner_named 99 at ho.0)
      (near_le 99 1 at (length_and off) p q (lit≤ tt) (inner_named 99 at ho.0) (length_named 1 off near) hp hq) hq
  walk_enabled (Del at s) off p q near ho hp hq = walk_has_cell at off p q near ho.0 hp hq
  walk_enabled (Upd at c s) off p q near ho hp hq = walk_has_cell at off p q near ho.0 hp hq
  walk_enabled Nop off p q near ho hp hq = hp

  walk_differ :
      (x y : Option ℕ) (p : Plan Why) → ((i : ℕ) → x ≡ Some i → IsOther i)
      → ((i : ℕ) → y ≡ Some i → IsOther i) → Short p
      → Short (ask_differ x y p)
  unfolding ask_differ
  walk_differ None y p hx hy hp = hp
  walk_differ (Some x) None p hx hy hp = hp
  walk_differ (Some x) (Some y) p hx hy hp =
      walk_eq (place x (pos 0)) (place y (pos 0)) Holds p (inr (hx x refl)) (inr (hy y refl)) tt hp

  site_other : (n : ℕ) (o : SymOp) → IsForm Inner n o → (i : ℕ) → sym_site o ≡ Some i → IsOther i
  site_other n (Ins at c s) h i e = subst (λ x. IsOther x) (some_equal s i e) h.2
  site_other n (Del at s) h i e = subst (λ x. IsOther x) (some_equal s i e) h.1
  site_other n (Upd at c s) h i e = subst (λ x. IsOther x) (some_equal s i e) h.2
  site_other n Nop h i e = absurd (cc)

  char_other : (n : ℕ) (o : SymOp) → IsForm Inner n o → (i : ℕ) → sym_char o ≡ Some i → IsOther i
  char_other n (Ins at c s) h i e = subst (λ x. IsOther x) (some_equal c i e) h.1
  char_other n (Del at s) h i e = absurd (cc)
  char_other n (Upd at c s) h i e = subst (λ x. IsOther x) (some_equal c i e) h.1
  char_other n Nop h i e = absurd (cc)

  pub walk_allowed :
      (n : ℕ) (head : Head) (a b : SymOp) (p : Plan Why) → IsForm Inner n a → IsForm Inner n b → Short p
      → Short (ask_allowed head a b p)
  unfolding ask_allowed
  walk_allowed n head a b p ha hb hp =
      let chars : Short (if head.chars_differ then ask_differ (sym_char a) (sym_char b) p else p) =
      short_if head.chars_differ (ask_differ (sym_char a) (sym_char b) p) p
      (walk_differ (sym_char a) (sym_char b) p (char_other n a ha) (char_other n b hb) hp) hp in
      short_if head.sites_differ
      (ask_differ (sym_site a) (sym_site b) (if head.chars_differ then ask_differ (sym_char a) (sym_char b) p else p)) _
      (walk_differ (sym_site a) (sym_site b) _ (site_other n a ha) (site_other n b hb) chars) chars

  -- reading cells, where the index is a place within the document too
  module _ (index_inner : Inner 2) where
    index_thing : (n : ℕ) (off : ℤ) → n ≤ 198 → IsNear n off → IsThing Inner 198 (index_and off)
    index_thing n off few near = inl (record { inner = index_inner; near = IsNear-more n 198 off few near })

    at_thing : (p : Place) → InnerAt Inner 99 p → IsThing Inner 198 p
    at_thing p h = inl (inner_more Inner 99 198 p (lit≤ tt) h)

    -- the character of a finished cell is no position
    abbrev IsSource : Source → Type 0
    IsSource (Base off) = Unit {0}
    IsSource (Named c) = IsOther c

    abbrev CellGoesOn : (Finished → Plan Why) → Type 0
    CellGoesOn go = (x : Finished) → IsSource x.source → Short (go x)

    -- two steps of a reading: before the place, and at it or behind it
    walk_two :
        (n : ℕ) (p : Place) (off : ℤ) (before at behind : Plan Why) → n ≤ 198 → IsNear n off → InnerAt Inner 99 p
        → Short before → Short at
        → Short behind → Short (ask_lt (index_and off) p before (ask_le (index_and off) p at behind))
    walk_two n p off before at behind few near hp hb ha hd =
        walk_lt (index_and off) p before (ask_le (index_and off) p at behind) (index_thing n off few near)
        (at_thing p hp) hb (walk_le (index_and off) p at behind (index_thing n off few near) (at_thing p hp) ha hd)

    -- the index is at most as far as there are operations
    walk_cell :
        (n : ℕ) (mode : Mode) (ops : List SymOp) (off : ℤ) (go : Finished → Plan Why)
        → IsNear n off → n + length ops ≤ 198
        → AllByRecursion (IsForm Inner 99) ops → CellGoesOn go → Short (ask_cell mode ops off go)
    unfolding ask_cell
    walk_cell n mode [] off go near few h hg = hg (base_cell off) tt
    walk_cell n Plain (Ins p c s ∷ ops) off go near few h hg =
        walk_two n p off _ _ _ (omega arith) near h.0.0
        (walk_cell n Plain ops off go near (omega arith) h.1 hg) (hg (put_cell c) h.0.1)
        (walk_cell (n + 1) Plain ops (off +ℤ negsuc 0) go
        (IsNear-plus n 1 off (negsuc 0) near one_less) (omega arith) h.1 hg)
    walk_cell n Tomb (Ins p c s ∷ ops) off go near few h hg =
        walk_two n p off _ _ _ (omega arith) near h.0.0
        (walk_cell n Tomb ops off go near (omega arith) h.1 hg) (hg (put_cell c) h.0.1)
        (walk_cell (n + 1) Tomb ops (off +ℤ negsuc 0) go
        (IsNear-plus n 1 off (negsuc 0) near one_less) (omega arith) h.1 hg)
    walk_cell n Plain (Del p s ∷ ops) off go near few h hg =
        walk_lt (index_and off) p (ask_cell Plain ops off go) (ask_cell Plain ops (off +ℤ pos 1) go)
        (index_thing n off (omega arith) near) (at_thing p h.0.0)
        (walk_cell n Plain ops off go near (omega arith) h.1 hg)
        (walk_cell (n + 1) Plain ops (off +ℤ pos 1) go (IsNear-plus n 1 off (pos 1) near one_more) (omega arith) h.1 hg)
    walk_cell n Tomb (Del p s ∷ ops) off go near few h hg =
        let here = walk_cell n Tomb ops off go near (omega arith) h.1 hg in
        walk_two n p off _ _ _ (omega arith) near h.0.0 here
        (walk_cell n Tomb ops off (λ cell. go (buried_cell cell)) near (omega arith) h.1
        (λ x hx. hg (buried_cell x) hx)) here
    walk_cell n Plain (Upd p c s ∷ ops) off go near few h hg =
        let here = walk_cell n Plain ops off go near (omega arith) h.1 hg in
        walk_two n p off _ _ _ (omega arith) near h.0.0 here
        (walk_cell n Plain ops off (λ cell. go (replaced_cell c cell)) near (omega arith) h.1
        (λ x hx. hg (replaced_cell c x) h.0.1)) here
    walk_cell n Tomb (Upd p c s ∷ ops) off go near few h hg =
        let here = walk_cell n Tomb ops off go near (omega arith) h.1 hg in
        walk_two n p off _ _ _ (omega arith) near h.0.0 here
        (walk_cell n Tomb ops off (λ cell. go (replaced_cell c cell)) near (omega arith) h.1
        (λ x hx. hg (replaced_cell c x) h.0.1)) here
    walk_cell n Plain (Nop ∷ ops) off go near few h hg = walk_cell n Plain ops off go near (omega arith) h.1 hg
    walk_cell n Tomb (Nop ∷ ops) off go near few h hg = walk_cell n Tomb ops off go near (omega arith) h.1 hg

    walk_same_source : (s t : Source) (why : Why) → IsSource s → IsSource t → Short (ask_same_source s t (Fails why))
    unfolding ask_same_source
    walk_same_source (Base i) (Base j) why hs ht = short_if (int_eq i j) Holds (Fails why) tt tt
    walk_same_source (Base i) (Named d) why hs ht = tt
    walk_same_source (Named c) (Base j) why hs ht = tt
    walk_same_source (Named c) (Named d) why hs ht =
        walk_eq (place c (pos 0)) (place d (pos 0)) Holds (Fails why) (inr hs) (inr ht) tt tt

    walk_same : (x y : Finished) → IsSource x.source → IsSource y.source → Short (ask_same x y)
    unfolding ask_same
    walk_same x y hx hy =
        let why = cells_cause x y in
        short_if (is_same_flag x.flag y.flag) (ask_same_source x.source y.source (Fails why)) (Fails why)
        (walk_same_source x.source y.source why hx hy) tt

    -- the cell at the index of two documents that operations made
    pub walk_cells :
        (mode : Mode) (left right : List SymOp) → length left ≤ 2 → length right ≤ 2
        → AllByRecursion (IsForm Inner 99) left
        → AllByRecursion (IsForm Inner 99) right
        → Short (ask_cell mode left (pos 0) (λ x. ask_cell mode right (pos 0) (λ y. ask_same x y)))
    walk_cells mode left right few_left few_right hl hr =
        walk_cell 0 mode left (pos 0) (λ x. ask_cell mode right (pos 0) (λ y. ask_same x y))
        (IsNear-zero 0) (omega arith) hl
        (λ x hx. walk_cell 0 mode right (pos 0) (λ y. ask_same x y) (IsNear-zero 0) (omega arith) hr
        (λ y hy. walk_same x y hx hy))
