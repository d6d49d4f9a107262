-- The plans of obligations ask short literals: of a pair the index and two positions
-- lie within the document, of a triple three positions.
use Rattle.std.proofs.Common.{◌≡◌, ℕ, pos, true, ◌+ℤ◌, Option, Some, None, [], ◌∷◌, refl, inl, inr, arith, lit≤}
use Rattle.std.proofs.lemmas.Int.{ints}
use Rattle.std.specs.Ordering.{int_eq}
use Rattle.ot_model.specs.declared.op.Kind.{Kind}
use Rattle.ot_model.specs.declared.op.Mode.{Mode}
use Rattle.ot_model.specs.declared.op.Mode.TheVariants.{Plain, Tomb}
use Rattle.fn_rules.specs.declared.function.ObName.{ObName}
use Rattle.fn_rules.specs.declared.function.ObName.TheVariants.{Pair, Triple}
use Rattle.fn_rules.specs.Functions.{Function}
use Rattle.fn_rules.specs.Validity.{is_valid}
use Rattle.ask_core.specs.Plans.{Plan, Holds, Fails}
use Rattle.ot_questions.specs.declared.name.Who.TheVariants.{A, B, C}
use Rattle.ot_questions.specs.declared.place.SymOp.{SymOp}
use Rattle.ot_questions.specs.declared.place.SymOp.TheVariants.{Ins, Del, Upd, Nop}
use Rattle.ot_questions.specs.declared.why.Why.{Why}
use Rattle.ot_questions.specs.declared.why.Why.TheVariants.{OutOfRange, Lengths, Operations}
use Rattle.ot_questions.specs.Nears.{IsNear}
use Rattle.ot_questions.specs.Places.{zero_place, length_and, index_and, sym_op, sym_at, sym_kind, growth}
use Rattle.ot_questions.specs.Questions.{ask_enabled, ask_le}
use Rattle.ot_questions.specs.Obligation.{ask_documents, ask_lengths, ask_ways, ask_converge, ask_all_enabled, ask_pair}
use Rattle.ot_questions.specs.Obligation.{ask_one_place, ask_same_form, ask_behind, ask_commute, ask_triple, plan_of}
use Rattle.ot_questions.proofs.Nears.{IsNear-plus, IsNear-zero}
use Rattle.ot_values.proofs.Reach.{IsOneOf, AsksShort, IsForm, form_more, form_at, form_made}
use Rattle.ot_values.proofs.Walks.{Short, NamedAt, GoesOn, short_if, near_le, near_lt, walk_eq, walk_transform}
use Rattle.ot_values.proofs.Walks.{zero_named, length_named, walk_enabled, walk_allowed, walk_cells}

growth_near : (mode : Mode) (o : SymOp) → IsNear 1 (growth mode o)
growth_near Plain (Ins p c s) = record { low = omega (arith, ints); high = omega (arith, ints) }
growth_near Tomb (Ins p c s) = record { low = omega (arith, ints); high = omega (arith, ints) }
growth_near Plain (Del p s) = record { low = omega (arith, ints); high = omega (arith, ints) }
growth_near Tomb (Del p s) = IsNear-zero 1
growth_near Plain (Upd p c s) = IsNear-zero 1
growth_near Tomb (Upd p c s) = IsNear-zero 1
growth_near Plain Nop = IsNear-zero 1
growth_near Tomb Nop = IsNear-zero 1

-- where the index is a place within the document
module _ (Inner : ℕ → Type 0) (index_inner : Inner 2) (mode : Mode) (a p b q : SymOp)
    (ha : IsForm Inner 99 a) (hp : IsForm Inner 99 p)
    (hb : IsForm Inner 99 b) (hq : IsForm Inner 99 q) where
  -- comparing the lengths, and then the documents, asks short literals
  short_lengths : Short Inner (ask_lengths mode a p b q)
  unfolding ask_lengths ask_documents
  short_lengths =
      let off = growth mode a +ℤ growth mode p in
      let near : IsNear 2 off = IsNear-plus 1 1 (growth mode a) (growth mode p)
      (growth_near mode a) (growth_near mode p) in
      let index : NamedAt Inner 0 (index_and (pos 0)) = (inr index_inner, IsNear-zero 0) in
      short_if Inner (int_eq off (growth mode b +ℤ growth mode q)) _ (Fails Lengths)
      (near_le Inner 0 0 zero_place (index_and (pos 0)) _ Holds (lit≤ tt) (zero_named Inner) index
      (near_lt Inner 0 2 (index_and (pos 0)) (length_and off) _ Holds (lit≤ tt) index (length_named Inner 2 off near)
      (walk_cells Inner index_inner mode (p ∷ a ∷ []) (q ∷ b ∷ []) (lit≤ tt) (lit≤ tt) (hp, (ha, tt)) (hq, (hb, tt)))
      tt) tt) tt

  pub short_ways : Short Inner (ask_ways mode a p b q)
  unfolding ask_ways
  short_ways =
      walk_enabled Inner p (growth mode a) _ (Fails OutOfRange) (growth_near mode a) hp
      (walk_enabled Inner q (growth mode b) (ask_lengths mode a p b q) (Fails OutOfRange)
      (growth_near mode b) hq short_lengths tt) tt

module _ (Inner : ℕ → Type 0) where
  short_one_place :
      (a b : SymOp) (j k : Option Kind) → sym_kind a ≡ j → sym_kind b ≡ k → IsForm Inner 198 a → IsForm Inner 198 b
      → Short Inner (ask_one_place j k (sym_at a) (sym_at b))
  unfolding ask_one_place
  short_one_place a b None None ea eb ha hb = tt
  short_one_place a b None (Some k) ea eb ha hb = tt
  short_one_place a b (Some j) None ea eb ha hb = tt
  short_one_place a b (Some j) (Some k) ea eb ha hb =
      walk_eq Inner (sym_at a) (sym_at b) Holds (Fails Operations) (inl (form_at Inner 198 a j ea ha))
      (inl (form_at Inner 198 b k eb hb)) tt tt

  short_same_form : (a b : SymOp) → IsForm Inner 198 a → IsForm Inner 198 b → Short Inner (ask_same_form a b)
  unfolding ask_same_form
  short_same_form a b ha hb = short_one_place a b (sym_kind a) (sym_kind b) refl refl ha hb

  module _ (f : Function) (valid : is_valid f ≡ true) where
    short_converge : Inner 2 → (a b : SymOp) → IsForm Inner 0 a → IsForm Inner 0 b → Short Inner (ask_converge f a b)
    unfolding ask_converge
    short_converge index_inner a b ha hb =
        walk_transform Inner f valid 0 b a _ (lit≤ tt) hb ha
        (λ p hp. walk_transform Inner f valid 0 a b _ (lit≤ tt) ha hb
        (λ q hq. short_ways Inner index_inner f.head.mode a p b q (form_more Inner 0 99 a (lit≤ tt) ha) hp
        (form_more Inner 0 99 b (lit≤ tt) hb) hq))

    short_behind :
        (a b c : SymOp) (go : SymOp → Plan Why) → IsForm Inner 0 a → IsForm Inner 0 b
        → IsForm Inner 0 c → GoesOn Inner 198 go
        → Short Inner (ask_behind f a b c go)
    unfolding ask_behind
    short_behind a b c go ha hb hc hg =
        walk_transform Inner f valid 0 b a _ (lit≤ tt) hb ha
        (λ p hp. walk_transform Inner f valid 0 c a _ (lit≤ tt) hc ha
        (λ q hq. walk_transform Inner f valid 99 q p go (lit≤ tt) hq hp hg))

    short_commute :
        (a b c : SymOp) → IsForm Inner 0 a → IsForm Inner 0 b → IsForm Inner 0 c → Short Inner (ask_commute f a b c)
    unfolding ask_commute
    short_commute a b c ha hb hc =
        short_behind a b c _ ha hb hc
        (λ left hl. short_behind b a c _ hb ha hc (λ right hr. short_same_form left right hl hr))

  -- the length is asked whether it is at least 0, and each operation whether it is enabled
  short_from_zero : (p : Plan Why) → Short Inner p → Short Inner (ask_le zero_place (length_and (pos 0)) p Holds)
  short_from_zero p hp =
      near_le Inner 0 0 zero_place (length_and (pos 0)) p Holds (lit≤ tt) (zero_named Inner)
      (length_named Inner 0 (pos 0) (IsNear-zero 0)) hp tt

  short_enabled : (o : SymOp) (p : Plan Why) → IsForm Inner 0 o → Short Inner p
      → Short Inner (ask_enabled o (pos 0) p Holds)
  short_enabled o p ho hp =
      walk_enabled Inner o (pos 0) p Holds (IsNear-zero 1) (form_more Inner 0 99 o (lit≤ tt) ho) hp tt

-- the names that stand for places within the document, beside zero and the length
abbrev pub inner_of : ObName → ℕ → Type 0
inner_of (Pair k l) = IsOneOf 2 3 6
inner_of (Triple k l m) = IsOneOf 3 6 9

-- the plan of each obligation of a valid function asks short literals
pub plans_ask_short : (f : Function) (ob : ObName) → is_valid f ≡ true → AsksShort (inner_of ob) (plan_of f ob)
unfolding plan_of ask_pair ask_triple ask_all_enabled
plans_ask_short f (Pair k l) valid =
    let Inner : ℕ → Type 0 = IsOneOf 2 3 6 in
    let a = form_made Inner k A (inr (inl refl)) in
    let b = form_made Inner l B (inr (inr refl)) in
    short_from_zero Inner _
    (short_enabled Inner (sym_op k A) _ a
    (short_enabled Inner (sym_op l B) _ b
    (walk_allowed Inner 0 f.head (sym_op k A) (sym_op l B) _ a b
    (short_converge Inner f valid (inl refl) (sym_op k A) (sym_op l B) a b))))
plans_ask_short f (Triple k l m) valid =
    let Inner : ℕ → Type 0 = IsOneOf 3 6 9 in
    let a = form_made Inner k A (inl refl) in
    let b = form_made Inner l B (inr (inl refl)) in
    let c = form_made Inner m C (inr (inr refl)) in
    short_from_zero Inner _
    (short_enabled Inner (sym_op k A) _ a
    (short_enabled Inner (sym_op l B) _ b
    (short_enabled Inner (sym_op m C) _ c
    (walk_allowed Inner 0 f.head (sym_op k A) (sym_op l B) _ a b
    (walk_allowed Inner 0 f.head (sym_op k A) (sym_op m C) _ a c
    (walk_allowed Inner 0 f.head (sym_op l B) (sym_op m C) _ b c
    (short_commute Inner f valid (sym_op k A) (sym_op l B) (sym_op m C) a b c)))))))
