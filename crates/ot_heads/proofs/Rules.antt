-- What templates make of operations.
use Rattle.std.proofs.Common.{◌≡◌, ℕ, ◌<◌, ℤ, pos, ◌+ℤ◌, Bool, true, false, not, ◌&&◌, ◌||◌, if◌then◌else◌, int_lt}
use Rattle.std.proofs.Common.{int_le, List, [], ◌∷◌, Some, refl, ap, sym, ◌∙◌, subst, ◌⊎◌, inl, inr, arith}
use Rattle.std.specs.Prelude.{nat_lt}
use Rattle.std.specs.List.{flat_map, list_any}
use Rattle.std.specs.Ordering.{int_eq}
use Rattle.std.proofs.lemmas.Bool.{and_parts, cases_Bool}
use Rattle.std.proofs.lemmas.Bool.Decides.{nat_tests, Decides-int_eq}
use Rattle.std.proofs.lemmas.Int.{ints}
use Rattle.ot_model.specs.declared.op.Op.{Op}
use Rattle.ot_model.specs.declared.op.Op.TheVariants.{Ins, Del, Upd, Nop}
use Rattle.ot_model.specs.declared.op.Kind.{Kind}
use Rattle.ot_model.specs.declared.op.Kind.TheVariants as kinds
use Rattle.ot_model.specs.declared.op.Mode.{Mode}
use Rattle.ot_model.specs.declared.op.Mode.TheVariants.{Plain, Tomb}
use Rattle.ot_model.specs.Kinds.{is_same_kind, kind_pairs}
use Rattle.ot_model.specs.Operations.{kind_of, at_of, placed}
use Rattle.fn_rules.specs.declared.function.Head.{Head}
use Rattle.fn_rules.specs.Functions.{is_declared, is_declared_pair, cases_of, HasDeclaredKind}
use Rattle.fn_rules.specs.Building.{cases_in}
use Rattle.fn_rules.specs.Transformation.{first_result, transform_of}
use Rattle.fn_rules.specs.Shipped.{moved_down, moved_down_or_gone}
use Rattle.ot_heads.specs.Templates.{lower_stays, lower_updates, behind_deletion, template_cases, declared_block}
use Rattle.ot_heads.specs.Templates.{template_of}
use Rattle.ot_heads.proofs.Places.{place_behind, place_behind-apart}

-- what a tie goes by
abbrev pub rank : Bool → ℕ → ℕ → ℕ
rank true c s = s
rank false c s = c

-- of two updates of one cell the first one is not the lower, and becomes nop
abbrev pub gives_way : Bool → Op → Op → Bool
gives_way by_site (Upd p c s) (Upd q e t) = int_eq p q && nat_lt (rank by_site e t) (rank by_site c s)
gives_way by_site o other = false

-- a deletion or an update
abbrev pub IsOnCell : Op → Type 0
IsOnCell (Ins p c s) = ⊥
IsOnCell (Del p s) = Unit {0}
IsOnCell (Upd p c s) = Unit {0}
IsOnCell Nop = ⊥

-- an update, or a deletion that leaves a tombstone
abbrev pub IsChange : Head → Op → Type 0
IsChange head (Ins p c s) = ⊥
IsChange head (Del p s) = head.mode ≡ Tomb
IsChange head (Upd p c s) = Unit {0}
IsChange head Nop = ⊥

pub IsOnCell-change : (head : Head) (o : Op) → IsChange head o → IsOnCell o
IsOnCell-change head (Ins p c s) is = is
IsOnCell-change head (Del p s) is = tt
IsOnCell-change head (Upd p c s) is = tt
IsOnCell-change head Nop is = is

-- a place plus nothing
plus_zero : (p : ℤ) → p +ℤ pos 0 ≡ p
plus_zero p = omega (arith, ints)

-- an operation at a chosen place is chosen
pub if_through : {X Y : Type 0} (g : X → Y) (b : Bool) (x y : X) → (if b then g x else g y) ≡ g (if b then x else y)
if_through g true x y = refl
if_through g false x y = refl

-- what is chosen of two insertions
chosen : (p q : ℤ) (m n : ℕ) →
    (if int_lt p (q +ℤ pos 0) || (int_eq p (q +ℤ pos 0) && int_le (pos m) (pos n +ℤ pos 0))
    then p +ℤ pos 0 else p +ℤ pos 1)
    ≡ place_behind p m q n
unfolding place_behind
chosen p q m n = grind (arith, ints)

-- what is chosen of a change behind an insertion
chosen_change : (p q : ℤ) (n u : ℕ) → n < u
    → (if int_lt p (q +ℤ pos 0) then p +ℤ pos 0 else p +ℤ pos 1) ≡ place_behind p u q n
unfolding place_behind
chosen_change p q n u h = grind (arith, ints)

-- an insertion behind an insertion
insertions : (by_site : Bool) (p q : ℤ) (c e s t : ℕ) →
    first_result (lower_stays by_site) (Ins p c s) (Ins q e t)
    ≡ Some (Ins (place_behind p (rank by_site c s) q (rank by_site e t)) c s)
insertions true p q c e s t =
    if_through (λ x. Some (Ins x c s)) (int_lt p (q +ℤ pos 0)
    || (int_eq p (q +ℤ pos 0) && int_le (pos s) (pos t +ℤ pos 0))) (p +ℤ pos 0) (p +ℤ pos 1)
    ∙ ap (λ x. Some (Ins x c s)) (chosen p q s t)
insertions false p q c e s t =
    if_through (λ x. Some (Ins x c s)) (int_lt p (q +ℤ pos 0)
    || (int_eq p (q +ℤ pos 0) && int_le (pos c) (pos e +ℤ pos 0))) (p +ℤ pos 0) (p +ℤ pos 1)
    ∙ ap (λ x. Some (Ins x c s)) (chosen p q c e)

-- which update stays
kept : (p q : ℤ) (m n : ℕ) →
    ((int_lt p (q +ℤ pos 0) || int_lt q (p +ℤ pos 0)) || int_le (pos m) (pos n +ℤ pos 0))
    ≡ not (int_eq p q && nat_lt n m)
kept p q m n = grind (arith, ints)

-- it stays or becomes nop
chosen_update : (g : Bool) (p : ℤ) (c s : ℕ) →
    (if not g then Some (Upd (p +ℤ pos 0) c s) else Some Nop) ≡ Some (if g then Nop else Upd p c s)
chosen_update true p c s = refl
chosen_update false p c s = ap (λ x. Some (Upd x c s)) (plus_zero p)

-- an update behind an update
updates : (by_site : Bool) (p q : ℤ) (c e s t : ℕ) →
    first_result (lower_updates by_site) (Upd p c s) (Upd q e t)
    ≡ Some (if gives_way by_site (Upd p c s) (Upd q e t) then Nop else Upd p c s)
updates true p q c e s t =
    ap (λ b. if b then Some (Upd (p +ℤ pos 0) c s) else Some Nop) (kept p q s t)
    ∙ chosen_update (int_eq p q && nat_lt t s) p c s
updates false p q c e s t =
    ap (λ b. if b then Some (Upd (p +ℤ pos 0) c s) else Some Nop) (kept p q c e)
    ∙ chosen_update (int_eq p q && nat_lt e c) p c s

-- what it says of two updates that one gives way
pub update_gives_way : (p q : ℤ) (m n : ℕ) → (int_eq p q && nat_lt n m) ≡ true → (p ≡ q) × (n < m)
update_gives_way p q m n h =
    let both : (int_eq p q ≡ true) × (nat_lt n m ≡ true) = and_parts (int_eq p q) (nat_lt n m) h in
    ((Decides-int_eq p q).0 both.0, grind (arith, nat_tests))

pub given_way : (p q : ℤ) (m n : ℕ) → p ≡ q → n < m → (int_eq p q && nat_lt n m) ≡ true
given_way p q m n same lower = grind (arith, ints)

-- an operation of a kind that the head declares
abbrev pub IsDeclared : Head → Op → Type 0
IsDeclared head o = HasDeclaredKind head (kind_of o)

-- deletions leave tombstones or take cells out
pub cases_mode : (mode : Mode) → (mode ≡ Tomb) ⊎ (mode ≡ Plain)
cases_mode Tomb = inl refl
cases_mode Plain = inr refl

-- a kind is itself alone
one_kind : (k l : Kind) → is_same_kind k l ≡ true → k ≡ l
one_kind kinds.Ins kinds.Ins same = refl
one_kind kinds.Del kinds.Del same = refl
one_kind kinds.Upd kinds.Upd same = refl
one_kind kinds.Ins kinds.Del same = absurd (cc)
one_kind kinds.Ins kinds.Upd same = absurd (cc)
one_kind kinds.Del kinds.Ins same = absurd (cc)
one_kind kinds.Del kinds.Upd same = absurd (cc)
one_kind kinds.Upd kinds.Ins same = absurd (cc)
one_kind kinds.Upd kinds.Del same = absurd (cc)

-- the two kinds are this pair
abbrev pub is_pair : Kind → Kind → Kind × Kind → Bool
is_pair k l pair = is_same_kind pair.0 k && is_same_kind pair.1 l

-- any two kinds are a pair of the list
is_a_pair : (k l : Kind) → list_any (is_pair k l) kind_pairs ≡ true
is_a_pair kinds.Ins kinds.Ins = refl
is_a_pair kinds.Ins kinds.Del = refl
is_a_pair kinds.Ins kinds.Upd = refl
is_a_pair kinds.Del kinds.Ins = refl
is_a_pair kinds.Del kinds.Del = refl
is_a_pair kinds.Del kinds.Upd = refl
is_a_pair kinds.Upd kinds.Ins = refl
is_a_pair kinds.Upd kinds.Del = refl
is_a_pair kinds.Upd kinds.Upd = refl

-- the block of a declared pair is found among those of a list that has the pair
own_block : (head : Head) (k l : Kind) → is_declared_pair head k l ≡ true → (pairs : List (Kind × Kind))
    → list_any (is_pair k l) pairs ≡ true
    → cases_in (flat_map (declared_block head) pairs) k l ≡ template_cases head k l
own_block head k l declared [] listed = absurd (cc)
own_block head k l declared (pair ∷ pairs) listed =
    elim (cases_Bool (is_pair k l pair)) [
      | inl here ↦
          (let both = and_parts (is_same_kind pair.0 k) (is_same_kind pair.1 l) here in
          let first : pair.0 ≡ k = one_kind pair.0 k both.0 in
          let second : pair.1 ≡ l = one_kind pair.1 l both.1 in
          let its : is_declared_pair head pair.0 pair.1 ≡ true = rw (first, second) declared in
          rw (its, here, first, second) refl)
      | inr elsewhere ↦
          (let further : list_any (is_pair k l) pairs ≡ true = rw elsewhere at listed in
          passed head k l pair pairs elsewhere ∙ own_block head k l declared pairs further)
    ]
  where
    passed : (head : Head) (k l : Kind) (pair : Kind × Kind) (pairs : List (Kind × Kind)) → is_pair k l pair ≡ false
        → cases_in (flat_map (declared_block head) (pair ∷ pairs)) k l
        ≡ cases_in (flat_map (declared_block head) pairs) k l
    passed head k l pair pairs elsewhere =
        elim (cases_Bool (is_declared_pair head pair.0 pair.1)) [
          | inl declared ↦ rw (declared, elsewhere) refl
          | inr other ↦ rw other refl
        ]

module _ (head : Head) where
  -- the cases of two kinds that the head declares
  pub own_cases : (k l : Kind) → is_declared head k ≡ true → is_declared head l ≡ true
      → cases_of (template_of head) k l ≡ template_cases head k l
  own_cases k l h g = own_block head k l (rw (h, g) refl) kind_pairs (is_a_pair k l)

  -- an insertion behind an insertion
  pub insertion_by_insertion : (p q : ℤ) (c e s t : ℕ) → head.ins ≡ true →
      transform_of (template_of head) (Ins p c s) (Ins q e t)
      ≡ Some (Ins (place_behind p (rank head.sites_differ c s) q (rank head.sites_differ e t)) c s)
  insertion_by_insertion p q c e s t ins =
      ap (λ cases. first_result cases (Ins p c s) (Ins q e t)) (own_cases kinds.Ins kinds.Ins ins ins)
      ∙ insertions head.sites_differ p q c e s t

  -- an operation on a cell behind an insertion: it may be given any rank above the insertion's
  pub cell_by_insertion : (o : Op) (p q : ℤ) (e t u : ℕ) → IsOnCell o → IsDeclared head o → head.ins ≡ true
      → rank head.sites_differ e t < u
      → transform_of (template_of head) (placed o p) (Ins q e t)
      ≡ Some (placed o (place_behind p u q (rank head.sites_differ e t)))
  cell_by_insertion (Ins r c s) p q e t u is declared ins above = absurd is
  cell_by_insertion (Del r s) p q e t u is declared ins above =
      ap (λ cases. first_result cases (Del p s) (Ins q e t)) (own_cases kinds.Del kinds.Ins declared ins)
      ∙ (if_through (λ x. Some (Del x s)) (int_lt p (q +ℤ pos 0)) (p +ℤ pos 0) (p +ℤ pos 1)
      ∙ ap (λ x. Some (Del x s)) (chosen_change p q (rank head.sites_differ e t) u above))
  cell_by_insertion (Upd r c s) p q e t u is declared ins above =
      ap (λ cases. first_result cases (Upd p c s) (Ins q e t)) (own_cases kinds.Upd kinds.Ins declared ins)
      ∙ (if_through (λ x. Some (Upd x c s)) (int_lt p (q +ℤ pos 0)) (p +ℤ pos 0) (p +ℤ pos 1)
      ∙ ap (λ x. Some (Upd x c s)) (chosen_change p q (rank head.sites_differ e t) u above))
  cell_by_insertion Nop p q e t u is declared ins above = absurd is

  -- behind a deletion that leaves a tombstone an operation stays
  by_deletion : (x : Op) (q : ℤ) (t : ℕ) → IsDeclared head x → head.del ≡ true → head.mode ≡ Tomb
      → transform_of (template_of head) x (Del q t) ≡ Some x
  by_deletion (Ins p c s) q t declared del tomb =
      ap (λ cases. first_result cases (Ins p c s) (Del q t))
      (own_cases kinds.Ins kinds.Del declared del ∙ ap (λ mode. behind_deletion mode moved_down) tomb)
      ∙ ap (λ x. Some (Ins x c s)) (plus_zero p)
  by_deletion (Del p s) q t declared del tomb =
      ap (λ cases. first_result cases (Del p s) (Del q t))
      (own_cases kinds.Del kinds.Del declared del ∙ ap (λ mode. behind_deletion mode moved_down_or_gone) tomb)
      ∙ ap (λ x. Some (Del x s)) (plus_zero p)
  by_deletion (Upd p c s) q t declared del tomb =
      ap (λ cases. first_result cases (Upd p c s) (Del q t))
      (own_cases kinds.Upd kinds.Del declared del ∙ ap (λ mode. behind_deletion mode moved_down_or_gone) tomb)
      ∙ ap (λ x. Some (Upd x c s)) (plus_zero p)
  by_deletion Nop q t declared del tomb = absurd (cc)

  -- behind an update it stays, or becomes nop
  by_update : (x : Op) (q : ℤ) (e t : ℕ) → IsDeclared head x → head.upd ≡ true →
      transform_of (template_of head) x (Upd q e t)
      ≡ Some (if gives_way head.sites_differ x (Upd q e t) then Nop else x)
  by_update (Ins p c s) q e t declared upd =
      ap (λ cases. first_result cases (Ins p c s) (Upd q e t)) (own_cases kinds.Ins kinds.Upd declared upd)
      ∙ ap (λ x. Some (Ins x c s)) (plus_zero p)
  by_update (Del p s) q e t declared upd =
      ap (λ cases. first_result cases (Del p s) (Upd q e t)) (own_cases kinds.Del kinds.Upd declared upd)
      ∙ ap (λ x. Some (Del x s)) (plus_zero p)
  by_update (Upd p c s) q e t declared upd =
      ap (λ cases. first_result cases (Upd p c s) (Upd q e t)) (own_cases kinds.Upd kinds.Upd declared upd)
      ∙ updates head.sites_differ p q c e s t
  by_update Nop q e t declared upd = absurd (cc)

  -- behind a change an operation stays, or gives way to it
  pub by_change : (x o : Op) → IsChange head o → IsDeclared head x → IsDeclared head o →
      transform_of (template_of head) x o ≡ Some (if gives_way head.sites_differ x o then Nop else x)
  by_change x (Ins q e t) is of_x of_o = absurd is
  by_change (Ins p c s) (Del q t) is of_x of_o = by_deletion (Ins p c s) q t of_x of_o is
  by_change (Del p s) (Del q t) is of_x of_o = by_deletion (Del p s) q t of_x of_o is
  by_change (Upd p c s) (Del q t) is of_x of_o = by_deletion (Upd p c s) q t of_x of_o is
  by_change Nop (Del q t) is of_x of_o = absurd (cc)
  by_change x (Upd q e t) is of_x of_o = by_update x q e t of_x of_o
  by_change x Nop is of_x of_o = absurd is

  -- an operation is as it was behind nop
  pub by_nop : (x : Op) → transform_of (template_of head) x Nop ≡ Some x
  by_nop (Ins p c s) = refl
  by_nop (Del p s) = refl
  by_nop (Upd p c s) = refl
  by_nop Nop = refl

-- a change that moves stays a change, of a kind that is declared
pub IsChange-placed : (head : Head) (o : Op) (to : ℤ) → IsChange head o → IsChange head (placed o to)
IsChange-placed head (Ins p c s) to is = is
IsChange-placed head (Del p s) to is = is
IsChange-placed head (Upd p c s) to is = is
IsChange-placed head Nop to is = is

kind_of-placed : (o : Op) (to : ℤ) → kind_of (placed o to) ≡ kind_of o
kind_of-placed (Ins p c s) to = refl
kind_of-placed (Del p s) to = refl
kind_of-placed (Upd p c s) to = refl
kind_of-placed Nop to = refl

pub declared-placed : (head : Head) (o : Op) (to : ℤ) → IsDeclared head o → IsDeclared head (placed o to)
declared-placed head o to of_o = subst (λ k. HasDeclaredKind head k) (sym (kind_of-placed o to)) of_o

-- two operations that both move up by an insertion give way as before
pub gives_way-moved : (by_site : Bool) (x o : Op) (p r q : ℤ) (u n : ℕ) →
    gives_way by_site (placed x (place_behind p u q n)) (placed o (place_behind r u q n))
    ≡ gives_way by_site (placed x p) (placed o r)
gives_way-moved by_site (Ins a c s) o p r q u n = refl
gives_way-moved by_site (Del a s) o p r q u n = refl
gives_way-moved by_site (Upd a c s) (Ins b e t) p r q u n = refl
gives_way-moved by_site (Upd a c s) (Del b t) p r q u n = refl
gives_way-moved by_site (Upd a c s) (Upd b e t) p r q u n =
    ap (λ same. same && nat_lt (rank by_site e t) (rank by_site c s)) (place_behind-apart p r q u n)
gives_way-moved by_site (Upd a c s) Nop p r q u n = refl
gives_way-moved by_site Nop o p r q u n = refl

-- who gives way to one that gives way gives way to the last
pub gives_way-trans : (by_site : Bool) (x b a : Op) → gives_way by_site x b ≡ true → gives_way by_site b a ≡ true
    → gives_way by_site x a ≡ true
gives_way-trans by_site (Upd p c s) (Upd q e t) (Upd r d v) h g =
    let first : (p ≡ q) × (rank by_site e t < rank by_site c s) =
    update_gives_way p q (rank by_site c s) (rank by_site e t) h in
    let second : (q ≡ r) × (rank by_site d v < rank by_site e t) =
    update_gives_way q r (rank by_site e t) (rank by_site d v) g in
    given_way p r (rank by_site c s) (rank by_site d v) (first.0 ∙ second.0) (let low = first.1 in
    let lower = second.1 in omega (arith, low, lower))
gives_way-trans by_site (Ins p c s) b a h g = absurd (cc)
gives_way-trans by_site (Del p s) b a h g = absurd (cc)
gives_way-trans by_site Nop b a h g = absurd (cc)
gives_way-trans by_site x (Ins p c s) a h g = absurd (cc)
gives_way-trans by_site x (Del p s) a h g = absurd (cc)
gives_way-trans by_site x Nop a h g = absurd (cc)
gives_way-trans by_site x b (Ins p c s) h g = absurd (cc)
gives_way-trans by_site x b (Del p s) h g = absurd (cc)
gives_way-trans by_site x b Nop h g = absurd (cc)

-- an operation is at its own place
pub placed-own : (o : Op) → placed o (at_of o) ≡ o
placed-own (Ins p c s) = refl
placed-own (Del p s) = refl
placed-own (Upd p c s) = refl
placed-own Nop = refl
