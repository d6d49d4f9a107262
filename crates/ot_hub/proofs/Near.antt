-- Where operations are that are carried.
use Rattle.std.proofs.Common.{◌≡◌, ℕ, ◌+◌, ◌*◌, ◌<◌, ◌≤◌, suc, List, [], ◌∷◌, length, get_or, ap, Option, Some, None}
use Rattle.std.proofs.Common.{refl, subst, arith}
use Rattle.std.specs.Option.{option_map, option_and_then}
use Rattle.std.proofs.lemmas.List.Elements.{All-get_or, All-weaker, All-nil, All-head, All-tail, All-cons}
use Rattle.ot_model.specs.declared.op.Op.{Op}
use Rattle.fn_rules.specs.Functions.{Function}
use Rattle.fn_rules.specs.Transformation.{transform_of}
use Rattle.std.specs.Prelude.{IsTrue}
use Rattle.fn_rules.specs.Validity.{is_valid}
use Rattle.fn_rules.specs.Conditions.{IsWithin}
use Rattle.fn_rules.specs.Forms.{KeepsForms}
use Rattle.ot_hub.specs.declared.carry.Crossed.{Crossed}
use Rattle.ot_hub.specs.Carry.{Carried, carried_behind, carry, crossed}
use Rattle.ot_hub.specs.declared.placed.PlacedOp.{PlacedOp}
use Rattle.ot_hub.specs.Usable.{IsUsable, AreUsable, farthest_carried}
use Rattle.ot_hub.proofs.Carrying.{no_one}

-- what the layers below promise of positions
pub record KeepsNear (f : Function) : Type 0 where
  pub keeps : KeepsForms f
  pub near : (a b c : Op) (m : ℕ) → IsWithin m a → IsWithin m b → transform_of f a b ≡ Some c → IsWithin (m + 99) c
  pub wider : (m n : ℕ) (o : Op) → m ≤ n → IsWithin m o → IsWithin n o

-- an operation within a bound is within a wider one
abbrev pub Wider : Type 0
Wider = (m n : ℕ) (o : Op) → m ≤ n → IsWithin m o → IsWithin n o

pub IsUsable-wider : Wider → (f : Function) (m n : ℕ) (o : Op) → m ≤ n → IsUsable f m o → IsUsable f n o
IsUsable-wider wider f m n o more usable = record { declared = usable.declared; near = wider m n o more usable.near }

pub AreUsable-wider : Wider → (f : Function) (m n : ℕ) (list : List PlacedOp) → m ≤ n
    → AreUsable f m list → AreUsable f n list
AreUsable-wider wider f m n list more =
    All-weaker (λ b. IsUsable f m b.op) (λ b. IsUsable f n b.op) (λ b. IsUsable-wider wider f m n b.op more) list

pub keeps_near : (f : Function) → ((g : Function) → KeepsForms g)
    → ((g : Function) (a b c : Op) (m : ℕ) → IsTrue (is_valid g) → IsWithin m a → IsWithin m b
    → transform_of g a b ≡ Some c → IsWithin (m + 99) c)
    → ((m n : ℕ) (o : Op) → m ≤ n → IsWithin m o → IsWithin n o) → IsTrue (is_valid f) → KeepsNear f
keeps_near f keeps near wider valid = record { keeps = keeps f; near = λ a b c m. near f a b c m valid; wider = wider }

-- two operations at positions that can be calculated with
pub record CanCross (f : Function) (a b : Op) : Type 0 where
  pub own : IsUsable f (farthest_carried 0) a
  pub other : IsUsable f (farthest_carried 0) b

module _ (f : Function) (has : KeepsNear f) where
  pub IsUsable-more : (m n : ℕ) (o : Op) → m ≤ n → IsUsable f m o → IsUsable f n o
  IsUsable-more = IsUsable-wider has.wider f

  IsUsable-form : (m : ℕ) (a b c : Op) → IsUsable f m a → IsUsable f m b
      → transform_of f a b ≡ Some c → IsUsable f (m + 99) c
  IsUsable-form m a b c as_a as_b is = record {
    declared = has.keeps.declared a b c is as_a.declared;
    near = has.near a b c m as_a.near as_b.near is;
  }

  -- two operations that cross move by at most 99
  pub record AreUsableBoth (m : ℕ) (both : Crossed) : Type 0 where
    pub own : IsUsable f m both.own
    pub other : IsUsable f m both.other

  -- two operations that cross stay usable, at most 99 further on
  pub IsUsable-crossed : (m : ℕ) (a b : Op) (both : Crossed) → IsUsable f m a → IsUsable f m b
      → crossed f a b ≡ Some both
      → AreUsableBoth (m + 99) both
  IsUsable-crossed m a b both as_a as_b is = by (transform_of f a b) refl (transform_of f b a) refl is
    where
      by : (x : Option Op) → transform_of f a b ≡ x → (y : Option Op) → transform_of f b a ≡ y
          → option_and_then (λ p. option_map (λ q. let pair : Crossed = record { own = p; other = q } in pair) y) x
          ≡ Some both
          → AreUsableBoth (m + 99) both
      by None none y is_y is_both = cc
      by (Some p) some None none is_both = cc
      by (Some p) some (Some q) some_q is_both =
          let same : record { own = p; other = q } ≡ both = cc in
          subst (λ (pair : Crossed). AreUsableBoth (m + 99) pair) same
          (record { own = IsUsable-form m a b p as_a as_b some; other = IsUsable-form m b a q as_b as_a some_q })

  -- the operation before and after the next one of the list
  module _ (list : List PlacedOp) (m i : ℕ) (o : Op) (inside : i < length list) (usable : IsUsable f (m + 99 * i) o)
      (all : AreUsable f m list) where
    abbrev here : Op
    here = (get_or list i no_one).op

    here-usable : IsUsable f m here
    here-usable = All-get_or (λ x. IsUsable f m x.op) list i no_one inside all

    -- the two can cross
    pub CanCross-next : m + 99 * i ≤ farthest_carried 0 → CanCross f o here
    CanCross-next small = record {
      own = IsUsable-more (m + 99 * i) (farthest_carried 0) o small usable;
      other = IsUsable-more m (farthest_carried 0) here (omega (arith, small)) here-usable;
    }

    pub IsUsable-next : (both : Crossed) → crossed f o here ≡ Some both → IsUsable f (m + 99 * (i + 1)) both.own
    IsUsable-next both is = IsUsable-more (m + 99 * i + 99) (m + 99 * (i + 1)) both.own (omega arith)
        (IsUsable-crossed (m + 99 * i) o here both usable
        (IsUsable-more m (m + 99 * i) here (omega arith) here-usable) is).own

    pub IsUsable-passed : IsUsable f (m + 99 * (i + 1)) o
    IsUsable-passed = IsUsable-more (m + 99 * i) (m + 99 * (i + 1)) o (omega arith) usable

-- what was carried is near, and as long as before
pub record IsCarriedNear (f : Function) (m n : ℕ) (carried : Carried) : Type 0 where
  pub op : IsUsable f m carried.op
  pub list : AreUsable f m carried.list
  pub length : length carried.list ≡ n

-- each of a list moves what is carried by at most 99
pub carry-near : (f : Function) → KeepsNear f → (m : ℕ) (o : Op) (list : List PlacedOp) (carried : Carried)
    → IsUsable f m o → AreUsable f m list
    → carry f o list ≡ Some carried → IsCarriedNear f (m + 99 * length list) (length list) carried
carry-near f has m o [] carried usable all is =
    let same : record { op = o; list = [] } ≡ carried = cc in
    subst (λ (c : Carried). IsCarriedNear f (m + 99 * 0) 0 c) same
    (record {
      op = IsUsable-wider has.wider f m (m + 99 * 0) o (omega arith) usable;
      list = All-nil (λ b. IsUsable f (m + 99 * 0) b.op);
      length = refl;
    })
carry-near f has m o (b ∷ bs) carried usable all is =
    by (crossed f o b.op) refl (λ both. carry-near f has (m + 99) both.own bs) is
  where
    here : IsUsable f m b.op
    here = All-head (λ x. IsUsable f m x.op) b bs all

    others : AreUsable f (m + 99) bs
    others = AreUsable-wider has.wider f m (m + 99) bs (omega arith) (All-tail (λ x. IsUsable f m x.op) b bs all)

    -- what is carried over the others, put behind the next one of the list, is near too
    rest : (both : Crossed) → AreUsableBoth f has (m + 99) both → (c : Option Carried)
        → ((k : Carried) → c ≡ Some k → IsCarriedNear f (m + 99 + 99 * length bs) (length bs) k)
        → option_map (carried_behind (record b { op = both.other } ∷ [])) c ≡ Some carried
        → IsCarriedNear f (m + 99 * length (b ∷ bs)) (length (b ∷ bs)) carried
    rest both near None further is_c = cc
    rest both near (Some k) further is_c =
        let same : record { op = k.op; list = record b { op = both.other } ∷ k.list } ≡ carried = cc in
        let done : IsCarriedNear f (m + 99 + 99 * length bs) (length bs) k = further k refl in
        subst (λ (c : Carried). IsCarriedNear f (m + 99 * length (b ∷ bs)) (length (b ∷ bs)) c) same
        (record {
          op = IsUsable-wider has.wider f (m + 99 + 99 * length bs) (m + 99 * length (b ∷ bs))
              k.op (omega arith) done.op;
          list = All-cons (λ x. IsUsable f (m + 99 * length (b ∷ bs)) x.op) (record b { op = both.other }) k.list
              (IsUsable-wider has.wider f (m + 99) (m + 99 * length (b ∷ bs)) both.other (omega arith) near.other)
              (AreUsable-wider has.wider f (m + 99 + 99 * length bs) (m + 99 * length (b ∷ bs)) k.list
              (omega arith) done.list);
          length = ap suc done.length;
        })

    by : (x : Option Crossed) → crossed f o b.op ≡ x
        → ((both : Crossed) (k : Carried) → IsUsable f (m + 99) both.own → AreUsable f (m + 99) bs
        → carry f both.own bs ≡ Some k
        → IsCarriedNear f (m + 99 + 99 * length bs) (length bs) k)
        → option_and_then (λ both. option_map (carried_behind (record b { op = both.other } ∷ []))
        (carry f both.own bs)) x ≡ Some carried
        → IsCarriedNear f (m + 99 * length (b ∷ bs)) (length (b ∷ bs)) carried
    by None none further is_c = cc
    by (Some both) some further is_c =
        let near : AreUsableBoth f has (m + 99) both = IsUsable-crossed f has m o b.op both usable here some in
        rest both near (carry f both.own bs) (λ k is_k. further both k near.own others is_k) is_c
