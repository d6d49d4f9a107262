-- Operations that are one at a valuation, as far as anything that is asked can tell: what is compared of them is
-- equal, and they become operations that are one again.
use Rattle.std.proofs.Common.{◌≡◌, ℕ, ℤ, ◌+ℤ◌, Bool, true, false, not, ◌&&◌, ◌||◌, if◌then◌else◌, Option, Some, None}
use Rattle.std.proofs.Common.{List, [], ◌∷◌, refl, ap, sym, ◌∙◌, subst, arith}
use Rattle.std.proofs.lemmas.Int.{ints}
use Rattle.ot_model.specs.declared.op.Kind.{Kind}
use Rattle.fn_rules.specs.declared.guard.Atom.{Atom}
use Rattle.fn_rules.specs.declared.guard.Side.{Side}
use Rattle.fn_rules.specs.declared.guard.Side.TheVariants.{First, Second}
use Rattle.fn_rules.specs.declared.guard.Sort.{Sort}
use Rattle.fn_rules.specs.declared.guard.Sort.TheVariants.{Pos, Site, Char}
use Rattle.fn_rules.specs.declared.function.Res.{Res}
use Rattle.fn_rules.specs.declared.function.Res.TheVariants as results
use Rattle.fn_rules.specs.Formulas.{Formula, Always, Compare, And, Or, Not, of_side, other_side, is_compared}
use Rattle.fn_rules.specs.Functions.{Function, GuardedCase, cases_of}
use Rattle.ot_questions.specs.declared.place.Place.{Place}
use Rattle.ot_questions.specs.declared.place.SymOp.{SymOp}
use Rattle.ot_questions.specs.declared.place.SymOp.TheVariants.{Ins, Del, Upd, Nop}
use Rattle.ot_questions.specs.Places.{zero_place, plus, integer_at, place_of_name, sym_kind, sym_at, sym_site, sym_char}
use Rattle.ot_questions.specs.Places.{sym_placed, sym_result, sym_thing}
use Rattle.ot_questions.proofs.Values.{sym_atom_holds, sym_holds, sym_first, sym_by_kinds, sym_transformed}

-- one kind, site and character, at one integer
pub record Agree (v : ℕ → ℤ) (a b : SymOp) : Type 0 where
  pub kind : sym_kind a ≡ sym_kind b
  pub site : sym_site a ≡ sym_site b
  pub ch : sym_char a ≡ sym_char b
  pub at : integer_at v (sym_at a) ≡ integer_at v (sym_at b)

-- both results are there and agree, or neither is there
abbrev pub BothAgree : (ℕ → ℤ) → Option SymOp → Option SymOp → Type 0
BothAgree v None None = Unit {0}
BothAgree v None (Some s) = ⊥
BothAgree v (Some r) None = ⊥
BothAgree v (Some r) (Some s) = Agree v r s

-- where an operation of a kind stands that was put at a place
abbrev place_of_kind : Option Kind → Place → Place
place_of_kind None p = zero_place
place_of_kind (Some k) p = p

sym_at-placed : (a : SymOp) (p : Place) → sym_at (sym_placed a p) ≡ place_of_kind (sym_kind a) p
sym_at-placed (Ins at ch site) p = refl
sym_at-placed (Del at site) p = refl
sym_at-placed (Upd at ch site) p = refl
sym_at-placed Nop p = refl

sym_kind-placed : (a : SymOp) (p : Place) → sym_kind (sym_placed a p) ≡ sym_kind a
sym_kind-placed (Ins at ch site) p = refl
sym_kind-placed (Del at site) p = refl
sym_kind-placed (Upd at ch site) p = refl
sym_kind-placed Nop p = refl

sym_site-placed : (a : SymOp) (p : Place) → sym_site (sym_placed a p) ≡ sym_site a
sym_site-placed (Ins at ch site) p = refl
sym_site-placed (Del at site) p = refl
sym_site-placed (Upd at ch site) p = refl
sym_site-placed Nop p = refl

sym_char-placed : (a : SymOp) (p : Place) → sym_char (sym_placed a p) ≡ sym_char a
sym_char-placed (Ins at ch site) p = refl
sym_char-placed (Del at site) p = refl
sym_char-placed (Upd at ch site) p = refl
sym_char-placed Nop p = refl

-- an operation is the other one, put where it stands
pub placed_is : (a b : SymOp) → sym_kind a ≡ sym_kind b → sym_site a ≡ sym_site b → sym_char a ≡ sym_char b
    → b ≡ sym_placed a (sym_at b)
placed_is (Ins p c s) (Ins q d t) k e h = cc
placed_is (Ins p c s) (Del q t) k e h = absurd (cc)
placed_is (Ins p c s) (Upd q d t) k e h = absurd (cc)
placed_is (Ins p c s) Nop k e h = absurd (cc)
placed_is (Del p s) (Ins q d t) k e h = absurd (cc)
placed_is (Del p s) (Del q t) k e h = cc
placed_is (Del p s) (Upd q d t) k e h = absurd (cc)
placed_is (Del p s) Nop k e h = absurd (cc)
placed_is (Upd p c s) (Ins q d t) k e h = absurd (cc)
placed_is (Upd p c s) (Del q t) k e h = absurd (cc)
placed_is (Upd p c s) (Upd q d t) k e h = cc
placed_is (Upd p c s) Nop k e h = absurd (cc)
placed_is Nop (Ins q d t) k e h = absurd (cc)
placed_is Nop (Del q t) k e h = absurd (cc)
placed_is Nop (Upd q d t) k e h = absurd (cc)
placed_is Nop Nop k e h = refl

integer_at-plus : (v : ℕ → ℤ) (p : Place) (k : ℤ) → integer_at v (plus p k) ≡ integer_at v p +ℤ k
integer_at-plus v p k = omega (arith, ints)

module _ (v : ℕ → ℤ) where
  pub Agree-same : (a : SymOp) → Agree v a a
  Agree-same a = record { kind = refl; site = refl; ch = refl; at = refl }

  same_integer_of_kind :
      (k : Option Kind) (p q : Place) → integer_at v p ≡ integer_at v q
      → integer_at v (place_of_kind k p) ≡ integer_at v (place_of_kind k q)
  same_integer_of_kind None p q e = refl
  same_integer_of_kind (Some k) p q e = e

  Agree-placed : (a b : SymOp) (p q : Place) → Agree v a b → integer_at v p ≡ integer_at v q
      → Agree v (sym_placed a p) (sym_placed b q)
  Agree-placed a b p q h e = record {
    kind = sym_kind-placed a p ∙ (h.kind ∙ sym (sym_kind-placed b q));
    site = sym_site-placed a p ∙ (h.site ∙ sym (sym_site-placed b q));
    ch = sym_char-placed a p ∙ (h.ch ∙ sym (sym_char-placed b q));
    at =
        ap (integer_at v) (sym_at-placed a p)
        ∙ (same_integer_of_kind (sym_kind a) p q e
        ∙ (ap (λ k. integer_at v (place_of_kind k q)) h.kind ∙ ap (integer_at v) (sym (sym_at-placed b q))));
  }

  same_thing : (sort : Sort) (a b : SymOp) → Agree v a b
      → integer_at v (sym_thing sort a) ≡ integer_at v (sym_thing sort b)
  same_thing Pos a b h = h.at
  same_thing Site a b h = ap (λ o. integer_at v (place_of_name o)) h.site
  same_thing Char a b h = ap (λ o. integer_at v (place_of_name o)) h.ch

  if_agree :
      (t : Bool) (x y z w : Option SymOp) → BothAgree v x z → BothAgree v y w
      → BothAgree v (if t then x else y) (if t then z else w)
  if_agree true x y z w h g = h
  if_agree false x y z w h g = g

  -- two operations and two that agree with them
  module _ (a b c d : SymOp) (first : Agree v a c) (second : Agree v b d) where
    of_side_agree : (side : Side) → Agree v (of_side side a b) (of_side side c d)
    of_side_agree First = first
    of_side_agree Second = second

    same_plus :
        (p q : Place) (k : ℤ) → integer_at v p ≡ integer_at v q → integer_at v (plus p k) ≡ integer_at v (plus q k)
    same_plus p q k e = integer_at-plus v p k ∙ (ap (λ x. x +ℤ k) e ∙ sym (integer_at-plus v q k))

    same_atom : (atom : Atom) → sym_atom_holds v atom a b ≡ sym_atom_holds v atom c d
    same_atom atom =
        let left = same_thing atom.sort _ _ (of_side_agree atom.left) in
        let right =
        same_plus _ _ atom.k (same_thing atom.sort _ _ (of_side_agree (other_side atom.left)))
        in
        ap (λ x. is_compared atom.cmp x
        (integer_at v (plus (sym_thing atom.sort (of_side (other_side atom.left) a b)) atom.k))) left
        ∙ ap (λ y. is_compared atom.cmp (integer_at v (sym_thing atom.sort (of_side atom.left c d))) y) right

    same_truth : (g : Formula) → sym_holds v g a b ≡ sym_holds v g c d
    same_truth Always = refl
    same_truth (Compare atom) = same_atom atom
    same_truth (And g h) = ap (λ t. t && sym_holds v h a b) (same_truth g)
        ∙ ap (λ t. sym_holds v g c d && t) (same_truth h)
    same_truth (Or g h) = ap (λ t. t || sym_holds v h a b) (same_truth g)
        ∙ ap (λ t. sym_holds v g c d || t) (same_truth h)
    same_truth (Not g) = ap not (same_truth g)

    results_agree : (res : Res) → Agree v (sym_result res a b) (sym_result res c d)
    results_agree (results.Keep base k) =
        Agree-placed a c _ _ first (same_plus _ _ k (of_side_agree base).at)
    results_agree results.Nop = Agree-same Nop

    first_agree : (cs : List GuardedCase) → BothAgree v (sym_first v cs a b) (sym_first v cs c d)
    first_agree [] = tt
    first_agree (x ∷ cs) =
        subst (λ t. BothAgree v (if sym_holds v x.guard a b then Some (sym_result x.res a b) else sym_first v cs a b)
        (if t then Some (sym_result x.res c d) else sym_first v cs c d)) (same_truth x.guard)
        (if_agree (sym_holds v x.guard a b) (Some (sym_result x.res a b)) (sym_first v cs a b)
        (Some (sym_result x.res c d)) (sym_first v cs c d) (results_agree x.res) (first_agree cs))

    by_kinds_agree : (f : Function) (j k : Option Kind)
        → BothAgree v (sym_by_kinds v f a b j k) (sym_by_kinds v f c d j k)
    by_kinds_agree f None k = Agree-same Nop
    by_kinds_agree f (Some j) None = first
    by_kinds_agree f (Some j) (Some k) = first_agree (cases_of f j k)

    -- what they become
    pub transformed_agree : (f : Function) → BothAgree v (sym_transformed v f a b) (sym_transformed v f c d)
    transformed_agree f =
        subst (λ j. BothAgree v (sym_transformed v f a b) (sym_by_kinds v f c d j (sym_kind d))) first.kind
        (subst (λ k. BothAgree v (sym_transformed v f a b) (sym_by_kinds v f c d (sym_kind a) k)) second.kind
        (by_kinds_agree f (sym_kind a) (sym_kind b)))
