-- Carrying an operation over a list: one after the other, with one more at the end, and what is kept of the operations.
use Rattle.std.proofs.Common.{◌≡◌, ℕ, ◌+◌, ◌<◌, true, false, List, [], ◌∷◌, length, drop, get_or, Option, Some, None}
use Rattle.std.proofs.Common.{refl, ◌≤◌, ◌++◌, ap, sym, append_assoc, arith, ◌∙◌, subst}
use Rattle.std.specs.Prelude.{pos, nat_le}
use Rattle.std.specs.Option.{option_map, option_and_then}
use Rattle.std.proofs.lemmas.List.{drop_more}
use Rattle.std.proofs.lemmas.Bool.{le-leb, leb-true, false_from_ne_true}
use Rattle.ot_model.specs.declared.op.Op.{Op}
use Rattle.ot_model.specs.declared.op.Op.TheVariants.{Ins}
use Rattle.fn_rules.specs.Functions.{Function}
use Rattle.ot_hub.specs.declared.carry.Crossed.{Crossed}
use Rattle.ot_hub.specs.declared.placed.PlacedOp.{PlacedOp}
use Rattle.ot_hub.specs.Carry.{crossed, Carried, carried_behind, carry, from_place, carried_op}
use Rattle.std.specs.List.{AllByRecursion}
use Rattle.fn_rules.specs.Transformation.{transform_of}

-- what stands for one of a list where there is none
abbrev pub no_one : PlacedOp
no_one = record { place = 0; op = Ins (pos 0) 0 0 }

-- what is carried first changes nothing of what the operation becomes
pub carried_op-carried_behind : (before : List PlacedOp) (carried : Option Carried)
    → carried_op (option_map (carried_behind before) carried) ≡ carried_op carried
carried_op-carried_behind before None = refl
carried_op-carried_behind before (Some carried) = refl

-- others before those that are before a list
pub carried_behind-carried_behind : (before more : List PlacedOp) (carried : Option Carried)
    → option_map (carried_behind before) (option_map (carried_behind more) carried)
    ≡ option_map (carried_behind (before ++ more)) carried
carried_behind-carried_behind before more None = refl
carried_behind-carried_behind before more (Some carried) =
    ap (λ (list : List PlacedOp). Some (record { op = carried.op; list = list }))
    (sym (append_assoc before more carried.list))

-- nothing before a list
pub carried_behind-nothing : (carried : Option Carried) → option_map (carried_behind []) carried ≡ carried
carried_behind-nothing None = refl
carried_behind-nothing (Some carried) = refl

-- the test of a place
pub from_true : (place at : ℕ) → place ≤ at → nat_le place at ≡ true
from_true place at from = le-leb place at from

pub from_false : (place at : ℕ) → at < place → nat_le place at ≡ false
from_false place at before =
    false_from_ne_true (nat_le place at) (λ from. absurd (omega (arith, before, leb-true place at from)))

module _ (f : Function) (list : List PlacedOp) (place i : ℕ) (inside : i < length list) where
  abbrev here : PlacedOp
  here = get_or list i no_one

  abbrev rest : ℕ → List PlacedOp
  rest n = from_place place (drop n list)

  -- one that is to be dropped
  pub rest-dropped : nat_le place here.place ≡ false → rest i ≡ rest (i + 1)
  rest-dropped before = rw (drop_more list i no_one inside, before) refl

  pub rest-kept : nat_le place here.place ≡ true → rest i ≡ here ∷ rest (i + 1)
  rest-kept kept = rw (drop_more list i no_one inside, kept) refl

  -- one that the operation is carried over
  pub carry-next : (o : Op) (both : Crossed) → nat_le place here.place ≡ true → crossed f o here.op ≡ Some both
      → carry f o (rest i) ≡ option_map (carried_behind (record here { op = both.other } ∷ []))
      (carry f both.own (rest (i + 1)))
  carry-next o both kept is = rw (rest-kept kept, is) refl

  -- one that it can't be carried over
  pub carry-stuck : (o : Op) → nat_le place here.place ≡ true → crossed f o here.op ≡ None → carry f o (rest i) ≡ None
  carry-stuck o kept is = rw (rest-kept kept, is) refl

-- one more at the end of what an operation was carried over
abbrev pub carried_on : Function → PlacedOp → Carried → Option Carried
carried_on f b carried = option_map (λ both.
    record { op = both.own; list = carried.list ++ record b { op = both.other } ∷ [] }) (crossed f carried.op b.op)

-- carrying an operation over a list with one more at its end is carrying it over the list, and then over that one
pub carry-push : (f : Function) (o : Op) (bs : List PlacedOp) (b : PlacedOp)
    → carry f o (bs ++ b ∷ []) ≡ option_and_then (carried_on f b) (carry f o bs)
carry-push f o [] b = by (crossed f o b.op)
  where
    by : (x : Option Crossed)
        → option_and_then (λ both. option_map (carried_behind (record b { op = both.other } ∷ []))
        (Some (record { op = both.own; list = [] }))) x
        ≡ option_map (λ both. record { op = both.own; list = record b { op = both.other } ∷ [] }) x
    by None = refl
    by (Some both) = refl
carry-push f o (a ∷ bs) b = by (crossed f o a.op) (λ p. carry-push f p bs b)
  where
    moved : (first : List PlacedOp) (c : Option Carried)
        → option_map (carried_behind first) (option_and_then (carried_on f b) c)
        ≡ option_and_then (carried_on f b) (option_map (carried_behind first) c)
    moved first None = refl
    moved first (Some c) = at (crossed f c.op b.op)
      where
        at : (x : Option Crossed)
            → option_map (carried_behind first)
            (option_map (λ both. record { op = both.own; list = c.list ++ record b { op = both.other } ∷ [] }) x)
            ≡ option_map (λ both.
            record { op = both.own; list = (first ++ c.list) ++ record b { op = both.other } ∷ [] }) x
        at None = refl
        at (Some both) = ap (λ (list : List PlacedOp). Some (record { op = both.own; list = list }))
            (sym (append_assoc first c.list (record b { op = both.other } ∷ [])))

    by : (x : Option Crossed) → ((p : Op) → carry f p (bs ++ b ∷ []) ≡ option_and_then (carried_on f b) (carry f p bs))
        → option_and_then (λ both. option_map (carried_behind (record a { op = both.other } ∷ []))
        (carry f both.own (bs ++ b ∷ []))) x
        ≡ option_and_then (carried_on f b) (option_and_then (λ both.
        option_map (carried_behind (record a { op = both.other } ∷ [])) (carry f both.own bs)) x)
    by None rest = refl
    by (Some both) rest = ap (option_map (carried_behind (record a { op = both.other } ∷ []))) (rest both.own)
        ∙ moved (record a { op = both.other } ∷ []) (carry f both.own bs)

-- both transformations of two that crossed
pub record AreTransformed (f : Function) (a b : Op) (both : Crossed) : Type 0 where
  pub own : transform_of f a b ≡ Some both.own
  pub other : transform_of f b a ≡ Some both.other

-- two operations that cross are each transformed by the other
pub crossed_both : (f : Function) (a b : Op) (both : Crossed) → crossed f a b ≡ Some both → AreTransformed f a b both
crossed_both f a b both is = by (transform_of f a b) refl (transform_of f b a) refl is
  where
    by : (x : Option Op) → transform_of f a b ≡ x → (y : Option Op) → transform_of f b a ≡ y
        → option_and_then (λ p. option_map (λ q. let pair : Crossed = record { own = p; other = q } in pair) y) x
        ≡ Some both
        → AreTransformed f a b both
    by None none y is_y is_both = cc
    by (Some p) some None none is_both = cc
    by (Some p) some_p (Some q) some_q is_both =
        let same : record { own = p; other = q } ≡ both = cc in
        subst (λ (pair : Crossed). AreTransformed f a b pair) same (record { own = some_p; other = some_q })

-- two cross in either order
pub crossed-exchanged : (f : Function) (a b : Op) (both : Crossed) → crossed f a b ≡ Some both
    → crossed f b a ≡ Some (record { own = both.other; other = both.own })
crossed-exchanged f a b both is =
    let parts : AreTransformed f a b both = crossed_both f a b both is in
    rw (parts.other, parts.own) refl

-- what an operation became that was carried over a list, by the first of the list and the others
pub record CarriesOn (f : Function) (o : Op) (b : PlacedOp) (bs : List PlacedOp) (k : Carried) : Type 0 where
  pub both : Crossed
  pub is : crossed f o b.op ≡ Some both
  pub rest : Carried
  pub rest_is : carry f both.own bs ≡ Some rest
  pub k_is : record { op = rest.op; list = record b { op = both.other } ∷ rest.list } ≡ k

-- what is carried over a list crosses its first operation, and then goes on over the others
pub carries_on : (f : Function) (o : Op) (b : PlacedOp) (bs : List PlacedOp) (k : Carried)
    → carry f o (b ∷ bs) ≡ Some k → CarriesOn f o b bs k
carries_on f o b bs k is = by (crossed f o b.op) refl is
  where
    further : (both : Crossed) → crossed f o b.op ≡ Some both → (c : Option Carried) → carry f both.own bs ≡ c
        → option_map (carried_behind (record b { op = both.other } ∷ [])) c ≡ Some k → CarriesOn f o b bs k
    further both crosses None none is_c = cc
    further both crosses (Some rest) some is_c =
        let same : record { op = rest.op; list = record b { op = both.other } ∷ rest.list } ≡ k = cc in
        record { both = both; is = crosses; rest = rest; rest_is = some; k_is = same }

    by : (x : Option Crossed) → crossed f o b.op ≡ x
        → option_and_then (λ both. option_map (carried_behind (record b { op = both.other } ∷ []))
        (carry f both.own bs)) x ≡ Some k
        → CarriesOn f o b bs k
    by None none is_x = cc
    by (Some both) some is_x = further both some (carry f both.own bs) refl is_x

-- nothing was carried over
pub carried_over_nothing : (f : Function) (o : Op) (k : Carried) → carry f o [] ≡ Some k
    → record { op = o; list = [] } ≡ k
carried_over_nothing f o k is = cc

-- one more at the end, where the two cross
pub carry-one_more : (f : Function) (o : Op) (bs : List PlacedOp) (b : PlacedOp) (k : Carried) (both : Crossed)
    → carry f o bs ≡ Some k
    → crossed f k.op b.op ≡ Some both
    → carry f o (bs ++ b ∷ []) ≡ Some (record { op = both.own; list = k.list ++ record b { op = both.other } ∷ [] })
carry-one_more f o bs b k both is crosses =
    carry-push f o bs b ∙ ap (option_and_then (carried_on f b)) is
    ∙ ap (option_map (λ both. record { op = both.own; list = k.list ++ record b { op = both.other } ∷ [] })) crosses

-- what every form keeps of its operation is kept where operations are carried
module _ (f : Function) (P : Op → Type 0) (keep : (a b form : Op) → transform_of f a b ≡ Some form → P a → P form) where
  pub op-kept : (o : Op) (bs : List PlacedOp) (k : Carried) → carry f o bs ≡ Some k → P o → P k.op
  op-kept o [] k is holds = subst (λ (c : Carried). P c.op) (carried_over_nothing f o k is) holds
  op-kept o (b ∷ bs) k is holds =
      let on : CarriesOn f o b bs k = carries_on f o b bs k is in
      subst (λ (c : Carried). P c.op) on.k_is
      (op-kept on.both.own bs on.rest on.rest_is
      (keep o b.op on.both.own (crossed_both f o b.op on.both on.is).own holds))

  pub list-kept : (o : Op) (bs : List PlacedOp) (k : Carried) → carry f o bs ≡ Some k → AllByRecursion (λ b. P b.op) bs
      → AllByRecursion (λ b. P b.op) k.list
  list-kept o [] k is all =
      subst (λ (c : Carried). AllByRecursion (λ b. P b.op) c.list) (carried_over_nothing f o k is) tt
  list-kept o (b ∷ bs) k is all =
      let on : CarriesOn f o b bs k = carries_on f o b bs k is in
      subst (λ (c : Carried). AllByRecursion (λ b. P b.op) c.list) on.k_is (
        keep b.op o on.both.other (crossed_both f o b.op on.both on.is).other all.0,
        list-kept on.both.own bs on.rest on.rest_is all.1,
      )
