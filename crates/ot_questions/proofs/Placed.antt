-- Places of one sort: positions (with zero, the length and the index), sites, or characters. Each name may
-- be used, each offset is small, and a transformation keeps that.
use Rattle.std.proofs.Common.{◌≡◌, ℕ, ◌+◌, ◌≤◌, ℤ, pos, ◌+ℤ◌, Bool, true, Option, Some, List, [], ◌∷◌, refl, ap, sym}
use Rattle.std.proofs.Common.{◌∙◌, subst, arith}
use Rattle.std.specs.Ordering.{int_eq}
use Rattle.std.specs.List.{AllByRecursion}
use Rattle.std.proofs.lemmas.Bool.{and_parts, false≢true}
use Rattle.std.proofs.lemmas.Bool.Decides.{Decides-int_eq}
use Rattle.std.proofs.lemmas.Int.{ints}
use Rattle.ot_model.specs.declared.op.Kind.{Kind}
use Rattle.ot_model.specs.declared.op.Kind.TheVariants as kinds
use Rattle.ot_model.specs.Kinds.{has_char}
use Rattle.fn_rules.specs.declared.guard.Side.TheVariants.{First, Second}
use Rattle.fn_rules.specs.declared.guard.Sort.{Sort}
use Rattle.fn_rules.specs.declared.guard.Sort.TheVariants.{Pos, Site, Char}
use Rattle.fn_rules.specs.declared.function.Res.{Res}
use Rattle.fn_rules.specs.declared.function.Res.TheVariants as results
use Rattle.fn_rules.specs.Validity.{is_offset_for, compares_chars, is_valid_res}
use Rattle.ot_questions.specs.declared.name.Who.{Who}
use Rattle.ot_questions.specs.declared.name.Who.TheVariants.{A, B, C}
use Rattle.ot_questions.specs.declared.place.Place.{Place}
use Rattle.ot_questions.specs.declared.place.SymOp.{SymOp}
use Rattle.ot_questions.specs.declared.place.SymOp.TheVariants.{Ins, Del, Upd, Nop}
use Rattle.ot_questions.specs.Names.{position_name, site_name, char_name}
use Rattle.ot_questions.specs.Nears.{IsNear}
use Rattle.ot_questions.specs.Sorts.{sort_name}
use Rattle.ot_questions.specs.Asked.{IsSteady, PlaceStands, OpStands}
use Rattle.ot_questions.specs.Places.{place, plus, sym_op, sym_at, sym_kind, sym_site, sym_char, sym_placed, sym_result}
use Rattle.ot_questions.specs.Places.{sym_thing, place_of_name}
use Rattle.ot_questions.proofs.Nears.{IsNear-more, IsNear-plus, IsNear-zero, IsNear-res}

pub position_sort : (who : Who) → sort_name (position_name who) ≡ Pos
position_sort A = refl
position_sort B = refl
position_sort C = refl

pub site_sort : (who : Who) → sort_name (site_name who) ≡ Site
site_sort A = refl
site_sort B = refl
site_sort C = refl

pub char_sort : (who : Who) → sort_name (char_name who) ≡ Char
char_sort A = refl
char_sort B = refl
char_sort C = refl

-- an operation of this kind has a thing of this sort
abbrev pub HasThing : Sort → SymOp → Type 0
HasThing Pos o = Unit {0}
HasThing Site o = (s : ℕ) × (sym_site o ≡ Some s)
HasThing Char o = (c : ℕ) × (sym_char o ≡ Some c)

site_there : (o : SymOp) (k : Kind) → sym_kind o ≡ Some k → HasThing Site o
site_there (Ins p c s) k e = (s, refl)
site_there (Del p s) k e = (s, refl)
site_there (Upd p c s) k e = (s, refl)
site_there Nop k e = absurd (cc)

char_there : (o : SymOp) (k : Kind) → sym_kind o ≡ Some k → has_char k ≡ true → HasThing Char o
char_there (Ins p c s) k e h = (c, refl)
char_there (Del p s) k e h = absurd (false≢true (ap has_char (some_kind kinds.Del k e) ∙ h))
  where
    some_kind : (j k : Kind) → Some j ≡ Some k → j ≡ k
    some_kind j k e = cc
char_there (Upd p c s) k e h = (c, refl)
char_there Nop k e h = absurd (cc)

-- two operations have the things that a guard of their block may compare
pub things_there :
    (sort : Sort) (k l : Kind) (a b : SymOp) (off : ℤ) → sym_kind a ≡ Some k → sym_kind b ≡ Some l
    → is_offset_for (compares_chars k l) sort off ≡ true → HasThing sort a × HasThing sort b
things_there Pos k l a b off ea eb h = (tt, tt)
things_there Site k l a b off ea eb h = (site_there a k ea, site_there b l eb)
things_there Char k l a b off ea eb h =
    let both = and_parts (has_char k) (has_char l) (and_parts (compares_chars k l) (int_eq off (pos 0)) h).0 in
    (char_there a k ea both.0, char_there b l eb both.1)

some_equal : (x y : ℕ) → Some x ≡ Some y → x ≡ y
some_equal x y e = cc

-- sites and characters have no offset, nor has an atom that compares them
steady-zero : (sort : Sort) → IsSteady sort (pos 0)
steady-zero Pos = tt
steady-zero Site = refl
steady-zero Char = refl

steady-plus : (sort : Sort) (j k : ℤ) → IsSteady sort j → IsSteady sort k → IsSteady sort (j +ℤ k)
steady-plus Pos j k h g = tt
steady-plus Site j k h g = omega (arith, ints)
steady-plus Char j k h g = omega (arith, ints)

pub steady-offset : (chars : Bool) (sort : Sort) (k : ℤ) → is_offset_for chars sort k ≡ true → IsSteady sort k
steady-offset chars Pos k e = tt
steady-offset chars Site k e = (Decides-int_eq k (pos 0)).0 e
steady-offset chars Char k e = (Decides-int_eq k (pos 0)).0 (and_parts chars (int_eq k (pos 0)) e).1

module _ (Free : ℕ → Type 0) where
  pub PlaceStands-more : (m n : ℕ) (sort : Sort) (p : Place) → m ≤ n → PlaceStands Free m sort p
      → PlaceStands Free n sort p
  PlaceStands-more m n sort p h g =
      record { is = g.is; free = g.free; steady = g.steady; near = IsNear-more m n p.off h g.near }

  pub PlaceStands-plus :
      (m n : ℕ) (sort : Sort) (p : Place) (off : ℤ) → PlaceStands Free m sort p → IsSteady sort off → IsNear n off
      → PlaceStands Free (m + n) sort (plus p off)
  PlaceStands-plus m n sort p off g still h =
      record {
        is = g.is;
        free = g.free;
        steady = steady-plus sort p.off off g.steady still;
        near = IsNear-plus m n p.off off g.near h;
      }

  -- a name itself has no offset
  pub PlaceStands-name : (m n : ℕ) (sort : Sort) (x : ℕ) → PlaceStands Free m sort (place x (pos 0))
      → PlaceStands Free n sort (place x (pos 0))
  PlaceStands-name m n sort x h = record { is = h.is; free = h.free; steady = steady-zero sort; near = IsNear-zero n }

  pub OpStands-more : (m n : ℕ) (o : SymOp) → m ≤ n → OpStands Free m o → OpStands Free n o
  OpStands-more m n o h g = record {
    at = PlaceStands-more m n Pos (sym_at o) h g.at;
    site = λ s e. PlaceStands-name m n Site s (g.site s e);
    ch = λ c e. PlaceStands-name m n Char c (g.ch c e);
  }

  PlaceStands-some :
      (n : ℕ) (sort : Sort) (o : Option ℕ) (x : ℕ) → o ≡ Some x → PlaceStands Free n sort (place x (pos 0))
      → PlaceStands Free n sort (place_of_name o)
  PlaceStands-some n sort o x e h = subst (λ r. PlaceStands Free n sort (place_of_name r)) (sym e) h

  pub PlaceStands-thing : (n : ℕ) (sort : Sort) (o : SymOp) → OpStands Free n o → HasThing sort o
      → PlaceStands Free n sort (sym_thing sort o)
  PlaceStands-thing n Pos o h there = h.at
  PlaceStands-thing n Site o h there = PlaceStands-some n Site (sym_site o) there.0 there.1 (h.site there.0 there.1)
  PlaceStands-thing n Char o h there = PlaceStands-some n Char (sym_char o) there.0 there.1 (h.ch there.0 there.1)

  pub OpStands-nop : (n : ℕ) → Free 0 → OpStands Free n Nop
  OpStands-nop n low = record {
    at = record { is = refl; free = low; steady = tt; near = IsNear-zero n };
    site = λ s e. absurd (cc);
    ch = λ c e. absurd (cc);
  }

  -- an operation that stands, at another place that does
  OpStands-placed :
      (n m : ℕ) (o : SymOp) (p : Place) → Free 0 → OpStands Free n o → PlaceStands Free m Pos p
      → OpStands Free m (sym_placed o p)
  OpStands-placed n m (Ins q c s) p low h g =
      record {
        at = g;
        site = λ t e. PlaceStands-name n m Site t (h.site t e);
        ch = λ t e. PlaceStands-name n m Char t (h.ch t e);
      }
  OpStands-placed n m (Del q s) p low h g =
      record { at = g; site = λ t e. PlaceStands-name n m Site t (h.site t e); ch = λ t e. absurd (cc) }
  OpStands-placed n m (Upd q c s) p low h g =
      record {
        at = g;
        site = λ t e. PlaceStands-name n m Site t (h.site t e);
        ch = λ t e. PlaceStands-name n m Char t (h.ch t e);
      }
  OpStands-placed n m Nop p low h g = OpStands-nop m low

  pub OpStands-result :
      (n : ℕ) (res : Res) (a b : SymOp) → Free 0 → is_valid_res res ≡ true → OpStands Free n a → OpStands Free n b
      → OpStands Free (n + 99) (sym_result res a b)
  OpStands-result n (results.Keep First off) a b low h ha hb =
      OpStands-placed n (n + 99) a (plus (sym_at a) off) low ha
      (PlaceStands-plus n 99 Pos (sym_at a) off ha.at tt (IsNear-res (results.Keep First off) h))
  OpStands-result n (results.Keep Second off) a b low h ha hb =
      OpStands-placed n (n + 99) a (plus (sym_at b) off) low ha
      (PlaceStands-plus n 99 Pos (sym_at b) off hb.at tt (IsNear-res (results.Keep Second off) h))
  OpStands-result n results.Nop a b low h ha hb = OpStands-nop (n + 99) low

  name_stands : (sort : Sort) (x : ℕ) → sort_name x ≡ sort → Free x → PlaceStands Free 0 sort (place x (pos 0))
  name_stands sort x e h = record { is = e; free = h; steady = steady-zero sort; near = IsNear-zero 0 }

  name_of : (sort : Sort) (x y : ℕ) → Some x ≡ Some y → PlaceStands Free 0 sort (place x (pos 0))
      → PlaceStands Free 0 sort (place y (pos 0))
  name_of sort x y e h = subst (λ z. PlaceStands Free 0 sort (place z (pos 0))) (some_equal x y e) h

  -- the operations of an obligation
  pub OpStands-sym_op :
      (k : Kind) (who : Who) → Free (position_name who) → Free (site_name who) → Free (char_name who)
      → OpStands Free 0 (sym_op k who)
  OpStands-sym_op kinds.Ins who hp hs hc = record {
    at = name_stands Pos (position_name who) (position_sort who) hp;
    site = λ s e. name_of Site _ s e (name_stands Site (site_name who) (site_sort who) hs);
    ch = λ c e. name_of Char _ c e (name_stands Char (char_name who) (char_sort who) hc);
  }
  OpStands-sym_op kinds.Del who hp hs hc = record {
    at = name_stands Pos (position_name who) (position_sort who) hp;
    site = λ s e. name_of Site _ s e (name_stands Site (site_name who) (site_sort who) hs);
    ch = λ c e. absurd (cc);
  }
  OpStands-sym_op kinds.Upd who hp hs hc = record {
    at = name_stands Pos (position_name who) (position_sort who) hp;
    site = λ s e. name_of Site _ s e (name_stands Site (site_name who) (site_sort who) hs);
    ch = λ c e. name_of Char _ c e (name_stands Char (char_name who) (char_sort who) hc);
  }

-- where more names may be used
module _ (Free Freer : ℕ → Type 0) (more : (x : ℕ) → Free x → Freer x) where
  PlaceStands-freer : (n : ℕ) (sort : Sort) (p : Place) → PlaceStands Free n sort p → PlaceStands Freer n sort p
  PlaceStands-freer n sort p h = record { is = h.is; free = more p.var h.free; steady = h.steady; near = h.near }

  OpStands-freer : (n : ℕ) (o : SymOp) → OpStands Free n o → OpStands Freer n o
  OpStands-freer n o h = record {
    at = PlaceStands-freer n Pos (sym_at o) h.at;
    site = λ s e. PlaceStands-freer n Site (place s (pos 0)) (h.site s e);
    ch = λ c e. PlaceStands-freer n Char (place c (pos 0)) (h.ch c e);
  }

  pub AllStand-freer : (n : ℕ) (os : List SymOp) → AllByRecursion (OpStands Free n) os
      → AllByRecursion (OpStands Freer n) os
  AllStand-freer n [] h = tt
  AllStand-freer n (o ∷ os) h = (OpStands-freer n o h.0, AllStand-freer n os h.1)
