-- The tests at a valuation are those of the operations that the names stand for.
use Rattle.std.proofs.Common.{◌≡◌, ℕ, ℤ, pos, ◌+ℤ◌, ◌≤ℤ◌, ◌<ℤ◌, Bool, true, false, not, ◌&&◌, ◌||◌, if◌then◌else◌}
use Rattle.std.proofs.Common.{int_le, int_lt, Option, Some, None, option_map, List, [], ◌∷◌, refl, ap, sym, ◌∙◌, subst}
use Rattle.std.proofs.Common.{inl, inr}
use Rattle.std.specs.Prelude.{unsigned_abs, unwrap_or}
use Rattle.std.specs.Ordering.{int_eq}
use Rattle.std.proofs.lemmas.Bool.{cases_Bool, and_parts, and_from, false≢true}
use Rattle.std.proofs.lemmas.Bool.Decides.{Decides-int_eq}
use Rattle.ot_model.specs.declared.op.Kind.{Kind}
use Rattle.ot_model.specs.declared.op.Op.{Op}
use Rattle.ot_model.specs.declared.op.Op.TheVariants as ops
use Rattle.ot_model.specs.Effect.{IsEnabled}
use Rattle.ot_model.specs.Operations.{kind_of, at_of, site_of, char_of, placed}
use Rattle.fn_rules.specs.declared.guard.Side.{Side}
use Rattle.fn_rules.specs.declared.guard.Side.TheVariants.{First, Second}
use Rattle.fn_rules.specs.declared.guard.Sort.{Sort}
use Rattle.fn_rules.specs.declared.guard.Sort.TheVariants.{Pos, Site, Char}
use Rattle.fn_rules.specs.declared.guard.Atom.{Atom}
use Rattle.fn_rules.specs.declared.function.Res.{Res}
use Rattle.fn_rules.specs.declared.function.Res.TheVariants as results
use Rattle.fn_rules.specs.Formulas.{Formula, Always, Compare, And, Or, Not, of_side, other_side, thing_of, is_compared}
use Rattle.fn_rules.specs.Formulas.{atom_holds, holds_of}
use Rattle.fn_rules.specs.Functions.{Function, GuardedCase, cases_of}
use Rattle.fn_rules.specs.Transformation.{result_of, first_result, transform_of, transform_by_kinds, Differ, IsAllowed}
use Rattle.ot_questions.specs.declared.place.Place.{Place}
use Rattle.ot_questions.specs.declared.place.SymOp.{SymOp}
use Rattle.ot_questions.specs.declared.place.SymOp.TheVariants.{Ins, Del, Upd, Nop}
use Rattle.ot_questions.specs.Places.{plus, integer_at, sym_at, sym_kind, sym_site, sym_char, sym_placed, sym_result}
use Rattle.ot_questions.specs.Places.{sym_thing, place_of_name}
use Rattle.ot_questions.specs.Meaning.{op_at}
use Rattle.ot_questions.proofs.Tests.{Decides-int_le, Decides-int_lt, plus-zero, plus-assoc}
use Rattle.ot_questions.proofs.Values.{sym_atom_holds, sym_holds, sym_first, sym_by_kinds, sym_transformed, sym_differ}
use Rattle.ot_questions.proofs.Values.{sym_allowed, enabled_to}

-- the integer is a natural number
abbrev pub IsCount : ℤ → Type 0
IsCount z = z ≡ pos (unsigned_abs z)

-- what a name stands for
abbrev pub named : (ℕ → ℤ) → Option ℕ → Option ℕ
named v None = None
named v (Some x) = Some (unsigned_abs (v x))

-- it is a natural number
abbrev pub IsCountedName : (ℕ → ℤ) → Option ℕ → Type 0
IsCountedName v None = Unit {0}
IsCountedName v (Some x) = IsCount (v x)

-- the site and the character of the operation are natural numbers at the valuation
pub record IsCounted (v : ℕ → ℤ) (o : SymOp) : Type 0 where
  pub site : IsCountedName v (sym_site o)
  pub ch : IsCountedName v (sym_char o)

pub site_of-op_at : (v : ℕ → ℤ) (o : SymOp) → site_of (op_at v o) ≡ named v (sym_site o)
site_of-op_at v (Ins p c s) = refl
site_of-op_at v (Del p s) = refl
site_of-op_at v (Upd p c s) = refl
site_of-op_at v Nop = refl

pub char_of-op_at : (v : ℕ → ℤ) (o : SymOp) → char_of (op_at v o) ≡ named v (sym_char o)
char_of-op_at v (Ins p c s) = refl
char_of-op_at v (Del p s) = refl
char_of-op_at v (Upd p c s) = refl
char_of-op_at v Nop = refl

pub at_of-op_at : (v : ℕ → ℤ) (o : SymOp) → v 0 ≡ pos 0 → at_of (op_at v o) ≡ integer_at v (sym_at o)
at_of-op_at v (Ins p c s) z = refl
at_of-op_at v (Del p s) z = refl
at_of-op_at v (Upd p c s) z = refl
at_of-op_at v Nop z = sym (plus-zero (v 0) ∙ z)

named_count : (x : ℤ) → IsCount x → pos (unsigned_abs x) ≡ x +ℤ pos 0
named_count x h = sym h ∙ sym (plus-zero x)

named_thing : (v : ℕ → ℤ) (n : Option ℕ) → v 0 ≡ pos 0 → IsCountedName v n
    → pos (unwrap_or (named v n) 0) ≡ integer_at v (place_of_name n)
named_thing v None z h = sym (plus-zero (v 0) ∙ z)
named_thing v (Some x) z h = named_count (v x) h

thing_of-op_at :
    (v : ℕ → ℤ) (sort : Sort) (o : SymOp) → v 0 ≡ pos 0 → IsCounted v o
    → thing_of sort (op_at v o) ≡ integer_at v (sym_thing sort o)
thing_of-op_at v Pos o z h = at_of-op_at v o z
thing_of-op_at v Site o z h = ap (λ n. pos (unwrap_or n 0)) (site_of-op_at v o) ∙ named_thing v (sym_site o) z h.site
thing_of-op_at v Char o z h = ap (λ n. pos (unwrap_or n 0)) (char_of-op_at v o) ∙ named_thing v (sym_char o) z h.ch

placed-op_at : (v : ℕ → ℤ) (a : SymOp) (to : Place) → placed (op_at v a) (integer_at v to) ≡ op_at v (sym_placed a to)
placed-op_at v (Ins at ch site) to = refl
placed-op_at v (Del at site) to = refl
placed-op_at v (Upd at ch site) to = refl
placed-op_at v Nop to = refl

pub kind_of-op_at : (v : ℕ → ℤ) (o : SymOp) → kind_of (op_at v o) ≡ sym_kind o
kind_of-op_at v (Ins at ch site) = refl
kind_of-op_at v (Del at site) = refl
kind_of-op_at v (Upd at ch site) = refl
kind_of-op_at v Nop = refl

choice :
    (v : ℕ → ℤ) (t : Bool) (r : SymOp) (o : Option SymOp)
    → (if t then Some (op_at v r) else option_map (op_at v) o) ≡ option_map (op_at v) (if t then Some r else o)
choice v true r o = refl
choice v false r o = refl

-- of two operations whose sites and characters are natural numbers at the valuation
module _ (v : ℕ → ℤ) (zero : v 0 ≡ pos 0) (a b : SymOp) (ha : IsCounted v a) (hb : IsCounted v b) where
  of_side-op_at : (side : Side) → of_side side (op_at v a) (op_at v b) ≡ op_at v (of_side side a b)
  of_side-op_at First = refl
  of_side-op_at Second = refl

  of_side-counted : (side : Side) → IsCounted v (of_side side a b)
  of_side-counted First = ha
  of_side-counted Second = hb

  side_thing :
      (sort : Sort) (side : Side)
      → thing_of sort (of_side side (op_at v a) (op_at v b)) ≡ integer_at v (sym_thing sort (of_side side a b))
  side_thing sort side =
      ap (thing_of sort) (of_side-op_at side) ∙ thing_of-op_at v sort (of_side side a b) zero (of_side-counted side)

  atom_holds-op_at : (atom : Atom) → atom_holds atom (op_at v a) (op_at v b) ≡ sym_atom_holds v atom a b
  atom_holds-op_at atom =
      let other = sym_thing atom.sort (of_side (other_side atom.left) a b) in
      ap (λ x. is_compared atom.cmp x (thing_of atom.sort (of_side (other_side atom.left) (op_at v a) (op_at v b))
      +ℤ atom.k)) (side_thing atom.sort atom.left)
      ∙ ap (λ y. is_compared atom.cmp (integer_at v (sym_thing atom.sort (of_side atom.left a b))) y)
      (ap (λ y. y +ℤ atom.k) (side_thing atom.sort (other_side atom.left))
      ∙ sym (plus-assoc (v other.var) other.off atom.k))

  pub holds_of-op_at : (g : Formula) → holds_of g (op_at v a) (op_at v b) ≡ sym_holds v g a b
  holds_of-op_at Always = refl
  holds_of-op_at (Compare atom) = atom_holds-op_at atom
  holds_of-op_at (And g h) =
      ap (λ x. x && holds_of h (op_at v a) (op_at v b)) (holds_of-op_at g)
      ∙ ap (λ y. sym_holds v g a b && y) (holds_of-op_at h)
  holds_of-op_at (Or g h) =
      ap (λ x. x || holds_of h (op_at v a) (op_at v b)) (holds_of-op_at g)
      ∙ ap (λ y. sym_holds v g a b || y) (holds_of-op_at h)
  holds_of-op_at (Not g) = ap not (holds_of-op_at g)

  result_of-op_at : (res : Res) → result_of res (op_at v a) (op_at v b) ≡ op_at v (sym_result res a b)
  result_of-op_at (results.Keep base off) =
      let at = sym_at (of_side base a b) in
      ap (λ x. placed (op_at v a) (x +ℤ off)) (ap at_of (of_side-op_at base) ∙ at_of-op_at v (of_side base a b) zero)
      ∙ (ap (λ x. placed (op_at v a) x) (sym (plus-assoc (v at.var) at.off off)) ∙ placed-op_at v a (plus at off))
  result_of-op_at results.Nop = refl

  first_result-op_at : (cs : List GuardedCase)
      → first_result cs (op_at v a) (op_at v b) ≡ option_map (op_at v) (sym_first v cs a b)
  first_result-op_at [] = refl
  first_result-op_at (c ∷ cs) =
      ap (λ t. if t then Some (result_of c.res (op_at v a) (op_at v b)) else first_result cs (op_at v a) (op_at v b))
      (holds_of-op_at c.guard)
      ∙ (ap (λ r. if sym_holds v c.guard a b then Some r
      else first_result cs (op_at v a) (op_at v b)) (result_of-op_at c.res)
      ∙ (ap (λ o. if sym_holds v c.guard a b then Some (op_at v (sym_result c.res a b)) else o) (first_result-op_at cs)
      ∙ choice v (sym_holds v c.guard a b) (sym_result c.res a b) (sym_first v cs a b)))

  by_kinds-op_at :
      (f : Function) (k l : Option Kind) → transform_by_kinds f (op_at v a) (op_at v b) k l ≡ option_map (op_at v)
      (sym_by_kinds v f a b k l)
  by_kinds-op_at f None l = refl
  by_kinds-op_at f (Some k) None = refl
  by_kinds-op_at f (Some k) (Some l) = first_result-op_at (cases_of f k l)

  -- transforming the operations that the names stand for
  pub transform_of-op_at : (f : Function)
      → transform_of f (op_at v a) (op_at v b) ≡ option_map (op_at v) (sym_transformed v f a b)
  transform_of-op_at f =
      ap (λ k. transform_by_kinds f (op_at v a) (op_at v b) k (kind_of (op_at v b))) (kind_of-op_at v a)
      ∙ (ap (λ l. transform_by_kinds f (op_at v a) (op_at v b) (sym_kind a) l) (kind_of-op_at v b)
      ∙ by_kinds-op_at f (sym_kind a) (sym_kind b))

-- a document of so many cells has one at this position, as a test and as a fact
has_cell_test : (at : ℤ) (n : ℕ) → (pos 0 ≤ℤ at) × (at <ℤ pos n) → int_le (pos 0) at && int_lt at (pos n) ≡ true
has_cell_test at n h = and_from _ _ ((Decides-int_le (pos 0) at).1 h.0) ((Decides-int_lt at (pos n)).1 h.1)

has_cell_from : (at : ℤ) (n : ℕ) → int_le (pos 0) at && int_lt at (pos n) ≡ true → (pos 0 ≤ℤ at) × (at <ℤ pos n)
has_cell_from at n h =
    let both = and_parts (int_le (pos 0) at) (int_lt at (pos n)) h in
    ((Decides-int_le (pos 0) at).0 both.0, (Decides-int_lt at (pos n)).0 both.1)

-- enabled, as a test and as a fact
pub enabled_to-true : (o : Op) (n : ℕ) → IsEnabled o n → enabled_to o (pos n) ≡ true
enabled_to-true (ops.Ins at ch site) n h =
    and_from _ _ ((Decides-int_le (pos 0) at).1 h.0) ((Decides-int_le at (pos n)).1 h.1)
enabled_to-true (ops.Del at site) n h = has_cell_test at n h
enabled_to-true (ops.Upd at ch site) n h = has_cell_test at n h
enabled_to-true ops.Nop n h = refl

pub IsEnabled-test : (o : Op) (n : ℕ) → enabled_to o (pos n) ≡ true → IsEnabled o n
IsEnabled-test (ops.Ins at ch site) n h =
    let both = and_parts (int_le (pos 0) at) (int_le at (pos n)) h in
    ((Decides-int_le (pos 0) at).0 both.0, (Decides-int_le at (pos n)).0 both.1)
IsEnabled-test (ops.Del at site) n h = has_cell_from at n h
IsEnabled-test (ops.Upd at ch site) n h = has_cell_from at n h
IsEnabled-test ops.Nop n h = tt

-- allowed, as a test and as a fact
differ_names : (x y : ℤ) → IsCount x → IsCount y
    → (not (int_eq (x +ℤ pos 0) (y +ℤ pos 0)) ≡ true → unsigned_abs x ≡ unsigned_abs y → ⊥)
differ_names x y hx hy t e =
    let same : x +ℤ pos 0 ≡ y +ℤ pos 0 = ap (λ z. z +ℤ pos 0) (hx ∙ (ap pos e ∙ sym hy)) in
    let yes_said : int_eq (x +ℤ pos 0) (y +ℤ pos 0) ≡ true = (Decides-int_eq (x +ℤ pos 0) (y +ℤ pos 0)).1 same in
    absurd (false≢true (ap not (sym yes_said) ∙ t))

same_names : (x y : ℤ) → (unsigned_abs x ≡ unsigned_abs y → ⊥) → not (int_eq (x +ℤ pos 0) (y +ℤ pos 0)) ≡ true
same_names x y apart =
    elim (cases_Bool (int_eq (x +ℤ pos 0) (y +ℤ pos 0))) [
      | inl same ↦ absurd (apart (ap unsigned_abs (sym (plus-zero x)
          ∙ ((Decides-int_eq (x +ℤ pos 0) (y +ℤ pos 0)).0 same ∙ plus-zero y))))
      | inr other ↦ ap not other
    ]

Differ-test :
    (v : ℕ → ℤ) (x y : Option ℕ) → IsCountedName v x → IsCountedName v y → sym_differ v x y ≡ true
    → Differ (named v x) (named v y)
Differ-test v None y hx hy t = tt
Differ-test v (Some x) None hx hy t = tt
Differ-test v (Some x) (Some y) hx hy t = differ_names (v x) (v y) hx hy t

sym_differ-true : (v : ℕ → ℤ) (x y : Option ℕ) → Differ (named v x) (named v y) → sym_differ v x y ≡ true
sym_differ-true v None y h = refl
sym_differ-true v (Some x) None h = refl
sym_differ-true v (Some x) (Some y) h = same_names (v x) (v y) h

if_true : (b t : Bool) → (b ≡ true → t ≡ true) → (if b then t else true) ≡ true
if_true true t h = h refl
if_true false t h = refl

true_if : (b t : Bool) → (if b then t else true) ≡ true → b ≡ true → t ≡ true
true_if true t h e = h
true_if false t h e = absurd (false≢true e)

Differ-both : (x y z w : Option ℕ) → x ≡ z → y ≡ w → Differ x y → Differ z w
Differ-both x y z w e d h = subst (λ q. Differ z q) d (subst (λ p. Differ p y) e h)

pub sym_allowed-true : (v : ℕ → ℤ) (f : Function) (a b : SymOp) → IsAllowed f (op_at v a) (op_at v b)
    → sym_allowed v f.head a b ≡ true
sym_allowed-true v f a b h =
    and_from _ _
    (if_true f.head.sites_differ _ (λ e. sym_differ-true v (sym_site a) (sym_site b)
    (Differ-both _ _ _ _ (site_of-op_at v a) (site_of-op_at v b) (h.sites e))))
    (if_true f.head.chars_differ _ (λ e. sym_differ-true v (sym_char a) (sym_char b)
    (Differ-both _ _ _ _ (char_of-op_at v a) (char_of-op_at v b) (h.chars e))))

-- operations that the test allows at a valuation are allowed
pub IsAllowed-test :
    (v : ℕ → ℤ) (f : Function) (a b : SymOp) → IsCounted v a → IsCounted v b → sym_allowed v f.head a b ≡ true
    → IsAllowed f (op_at v a) (op_at v b)
IsAllowed-test v f a b ha hb t =
    let both = and_parts (if f.head.sites_differ then sym_differ v (sym_site a) (sym_site b) else true)
    (if f.head.chars_differ then sym_differ v (sym_char a) (sym_char b) else true) t in
    record {
      sites =
          λ e. Differ-both _ _ _ _ (sym (site_of-op_at v a)) (sym (site_of-op_at v b))
          (Differ-test v (sym_site a) (sym_site b) ha.site hb.site (true_if f.head.sites_differ _ both.0 e));
      chars =
          λ e. Differ-both _ _ _ _ (sym (char_of-op_at v a)) (sym (char_of-op_at v b))
          (Differ-test v (sym_char a) (sym_char b) ha.ch hb.ch (true_if f.head.chars_differ _ both.1 e));
    }
