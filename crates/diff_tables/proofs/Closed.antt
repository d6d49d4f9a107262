-- Closed tables: adding a literal keeps a table closed, and a closed table has values. Together they
-- say that a closed table keeps the least offset of each pair, with no word on chains.
use Rattle.std.proofs.Common.{◌≡◌, ◌⊎◌, ℕ, zero, suc, ◌<◌, ℤ, pos, negsuc, ◌+ℤ◌, ◌-ℤ◌, ◌≤ℤ◌, ◌<ℤ◌, int_lt, Option, Some}
use Rattle.std.proofs.Common.{None, arith, refl, subst, inl, inr}
use Rattle.std.proofs.lemmas.Int.{ints}
use Rattle.std.proofs.lemmas.Bool.{cases_Bool, cases_eq}
use Rattle.diff_graph.specs.declared.lit.Lit.{Lit}
use Rattle.diff_tables.specs.declared.hop.Hop.{Hop}
use Rattle.diff_graph.specs.Literals.{Meets}
use Rattle.diff_tables.specs.Tables.{IsAtMost}
use Rattle.diff_tables.specs.Steps.{way_of, joined, lower_of, added, lower_by, low_of, value_in}
use Rattle.diff_graph.proofs.Walks.{int_lt-true, int_lt-none}

-- a valuation lies within the table: it meets each offset that is kept
pub record IsWithin (n : ℕ) (t : ℕ → ℕ → Option Hop) (v : ℕ → ℤ) : Type 0 where
  pub at : (x y : ℕ) → x < n → y < n → (k : ℤ) → IsAtMost (t x y) k → v x ≤ℤ (v y +ℤ k)

-- offsets add up along two pairs, and a name is at 0 to itself
pub record IsClosed (n : ℕ) (t : ℕ → ℕ → Option Hop) : Type 0 where
  pub along : (x y z : ℕ) → x < n → y < n → z < n → (i j : ℤ) → IsAtMost (t x y) i → IsAtMost (t y z) j
      → IsAtMost (t x z) (i +ℤ j)
  pub own : (x : ℕ) → x < n → IsAtMost (t x x) (pos 0)
  pub own_least : (x : ℕ) → x < n → (k : ℤ) → IsAtMost (t x x) k → pos 0 ≤ℤ k

-- the literal closes no negative cycle
abbrev pub IsAllowed : (ℕ → ℕ → Option Hop) → Lit → Type 0
IsAllowed t l = (k : ℤ) → IsAtMost (t l.y l.x) k → pos 0 ≤ℤ (k +ℤ l.k)

pub IsAtMost-weaker : (o : Option Hop) (i j : ℤ) → IsAtMost o i → i ≤ℤ j → IsAtMost o j
IsAtMost-weaker None i j most le = most
IsAtMost-weaker (Some h) i j most le = omega (arith, ints)

-- what is kept of two is at most k where one of them is
pub lower_of-old : (old new : Option Hop) (k : ℤ) → IsAtMost old k → IsAtMost (lower_of old new) k
lower_of-old None new k most = absurd most
lower_of-old (Some h) None k most = most
lower_of-old (Some h) (Some g) k most =
    elim (cases_Bool (int_lt g.k h.k)) [
      | inl less ↦ rw less (let lt : g.k <ℤ h.k = int_lt-true g.k h.k less in omega (arith, ints))
      | inr not ↦ rw not most
    ]

pub lower_of-new : (old new : Option Hop) (k : ℤ) → IsAtMost new k → IsAtMost (lower_of old new) k
lower_of-new old None k most = absurd most
lower_of-new None (Some g) k most = most
lower_of-new (Some h) (Some g) k most =
    elim (cases_Bool (int_lt g.k h.k)) [
      | inl less ↦ rw less most
      | inr not ↦ rw not (let le : h.k ≤ℤ g.k = int_lt-none g.k h.k not in omega (arith, ints))
    ]

pub lower_of-either : (old new : Option Hop) (k : ℤ) → IsAtMost (lower_of old new) k → IsAtMost old k ⊎ IsAtMost new k
lower_of-either None None k most = absurd most
lower_of-either (Some h) None k most = inl most
lower_of-either None (Some g) k most = inr most
lower_of-either (Some h) (Some g) k most =
    elim (cases_Bool (int_lt g.k h.k)) [
      | inl less ↦ inr (rw less at most)
      | inr not ↦ inl (rw not at most)
    ]

-- an offset through the literal is at most k where its two parts leave room
pub joined-at_most :
    (number : ℕ) (l : Lit) (x : ℕ) (front rest : Option Hop) (i j k : ℤ) → IsAtMost front i
    → IsAtMost rest j → (i +ℤ l.k +ℤ j) ≤ℤ k
    → IsAtMost (joined (way_of number l x front) rest) k
joined-at_most number l x None rest i j k front_most rest_most room = absurd front_most
joined-at_most number l x (Some f) None i j k front_most rest_most room = absurd rest_most
joined-at_most number l x (Some f) (Some g) i j k front_most rest_most room = omega (arith, ints)

-- the parts of such an offset
pub record Parts (l : Lit) (front rest : Option Hop) (k : ℤ) : Type 0 where
  pub before : ℤ
  pub after : ℤ
  pub front_at_most : IsAtMost front before
  pub rest_at_most : IsAtMost rest after
  pub room : (before +ℤ l.k +ℤ after) ≤ℤ k

-- an offset that goes by the literal is made of an offset to it and one from it
pub joined-parts :
    (number : ℕ) (l : Lit) (x : ℕ) (front rest : Option Hop) (k : ℤ)
    → IsAtMost (joined (way_of number l x front) rest) k
    → Parts l front rest k
joined-parts number l x None rest k most = absurd most
joined-parts number l x (Some f) None k most = absurd most
joined-parts number l x (Some f) (Some g) k most = record {
  before = f.k;
  after = g.k;
  front_at_most = omega (arith, ints);
  rest_at_most = omega (arith, ints);
  room = omega (arith, ints);
}

module _ (n : ℕ) (t : ℕ → ℕ → Option Hop) (number : ℕ) (l : Lit) where
  -- an offset of the new table is an old one, or leads through the literal
  pub added-cases : (x y : ℕ) (k : ℤ) → IsAtMost (added t number l x y) k
      → IsAtMost (t x y) k ⊎ Parts l (t x l.x) (t l.y y) k
  added-cases x y k most =
      elim (lower_of-either (t x y) (joined (way_of number l x (t x l.x)) (t l.y y)) k most) [
        | inl old ↦ inl old
        | inr new ↦ inr (joined-parts number l x (t x l.x) (t l.y y) k new)
      ]

  pub added-old : (x y : ℕ) (k : ℤ) → IsAtMost (t x y) k → IsAtMost (added t number l x y) k
  added-old x y k most = lower_of-old (t x y) (joined (way_of number l x (t x l.x)) (t l.y y)) k most

  pub added-new :
      (x y : ℕ) (i j k : ℤ) → IsAtMost (t x l.x) i → IsAtMost (t l.y y) j → (i +ℤ l.k +ℤ j) ≤ℤ k
      → IsAtMost (added t number l x y) k
  added-new x y i j k front rest room =
      lower_of-new (t x y) (joined (way_of number l x (t x l.x)) (t l.y y)) k
      (joined-at_most number l x (t x l.x) (t l.y y) i j k front rest room)

module _ (n : ℕ) (t : ℕ → ℕ → Option Hop) (closed : IsClosed n t) (number : ℕ) (l : Lit)
    (x_below : l.x < n) (y_below : l.y < n)
    (allowed : IsAllowed t l) where
  -- the way round the literal is never negative
  pub round_is_positive : (x : ℕ) → x < n → (i j : ℤ) → IsAtMost (t x l.x) i → IsAtMost (t l.y x) j
      → pos 0 ≤ℤ (i +ℤ l.k +ℤ j)
  round_is_positive x below i j front rest =
      let round : IsAtMost (t l.y l.x) (j +ℤ i) = closed.along l.y x l.x y_below below x_below j i rest front in
      let least : pos 0 ≤ℤ (j +ℤ i +ℤ l.k) = allowed (j +ℤ i) round in
      omega (arith, ints)

  -- offsets one after the other join in the new table, by the literal or without it
  added-along :
      (x y z : ℕ) → x < n → y < n → z < n → (i j : ℤ) → IsAtMost (added t number l x y) i
      → IsAtMost (added t number l y z) j
      → IsAtMost (added t number l x z) (i +ℤ j)
  added-along x y z xn yn zn i j first onward =
      elim (added-cases n t number l x y i first) [
        | inl old ↦
            elim (added-cases n t number l y z j onward) [
              | inl old' ↦ added-old n t number l x z (i +ℤ j) (closed.along x y z xn yn zn i j old old')
              | inr new' ↦
                  added-new n t number l x z (i +ℤ new'.before) new'.after (i +ℤ j)
                  (closed.along x y l.x xn yn x_below i new'.before old new'.front_at_most) new'.rest_at_most
                  (let room : (new'.before +ℤ l.k +ℤ new'.after) ≤ℤ j = new'.room in omega (arith, ints))
            ]
        | inr new ↦
            elim (added-cases n t number l y z j onward) [
              | inl old' ↦
                  added-new n t number l x z new.before (new.after +ℤ j) (i +ℤ j)
                  new.front_at_most (closed.along l.y y z y_below yn zn new.after j new.rest_at_most old')
                  (let room : (new.before +ℤ l.k +ℤ new.after) ≤ℤ i = new.room in omega (arith, ints))
              | inr new' ↦
                  added-new n t number l x z new.before new'.after (i +ℤ j) new.front_at_most new'.rest_at_most
                  (let room : (new.before +ℤ l.k +ℤ new.after) ≤ℤ i = new.room in
                  let room' : (new'.before +ℤ l.k +ℤ new'.after) ≤ℤ j = new'.room in
                  let round : pos 0 ≤ℤ (new'.before +ℤ l.k +ℤ new.after) =
                  round_is_positive y yn new'.before new.after new'.front_at_most new.rest_at_most in
                  omega (arith, ints))
            ]
      ]

  -- a closed table stays closed
  pub IsClosed-added : IsClosed n (added t number l)
  IsClosed-added = record {
    along = added-along;
    own = λ x below. added-old n t number l x x (pos 0) (closed.own x below);
    own_least = λ x below k most.
        elim (added-cases n t number l x x k most) [
          | inl old ↦ closed.own_least x below k old
          | inr new ↦
              (let room : (new.before +ℤ l.k +ℤ new.after) ≤ℤ k = new.room in
              let round : pos 0 ≤ℤ (new.before +ℤ l.k +ℤ new.after) =
              round_is_positive x below new.before new.after new.front_at_most new.rest_at_most in
              omega (arith, ints))
        ];
  }

-- within the new table is within the old one and meets the literal
pub IsWithin-added :
    (n : ℕ) (t : ℕ → ℕ → Option Hop) (number : ℕ) (l : Lit) (v : ℕ → ℤ) → l.x < n → l.y < n → IsWithin n t v → Meets v l
    → IsWithin n (added t number l) v
IsWithin-added n t number l v x_below y_below within met = record {
  at = λ x y xn yn k most.
      elim (added-cases n t number l x y k most) [
        | inl old ↦ within.at x y xn yn k old
        | inr new ↦
            (let front : v x ≤ℤ (v l.x +ℤ new.before) = within.at x l.x xn x_below new.before new.front_at_most in
            let rest : v l.y ≤ℤ (v y +ℤ new.after) = within.at l.y y y_below yn new.after new.rest_at_most in
            let step : v l.x ≤ℤ (v l.y +ℤ l.k) = met in
            let room : (new.before +ℤ l.k +ℤ new.after) ≤ℤ k = new.room in
            omega (arith, ints))
      ];
}

pub IsWithin-from_added :
    (n : ℕ) (t : ℕ → ℕ → Option Hop) (number : ℕ) (l : Lit) (v : ℕ → ℤ)
    → IsWithin n (added t number l) v → IsWithin n t v
IsWithin-from_added n t number l v within = record {
  at = λ x y xn yn k most. within.at x y xn yn k (added-old n t number l x y k most);
}

pub Meets-from_added :
    (n : ℕ) (t : ℕ → ℕ → Option Hop) (closed : IsClosed n t) (number : ℕ) (l : Lit) (v : ℕ → ℤ) → l.x < n → l.y < n
    → IsWithin n (added t number l) v → Meets v l
Meets-from_added n t closed number l v x_below y_below within =
    within.at l.x l.y x_below y_below l.k
    (added-new n t number l l.x l.y (pos 0) (pos 0) l.k (closed.own l.x x_below)
    (closed.own l.y y_below) (omega (arith, ints)))

lower_by-le : (low : ℤ) (o : Option Hop) → lower_by low o ≤ℤ low
lower_by-le low None = omega (arith, ints)
lower_by-le low (Some h) =
    elim (cases_Bool (int_lt h.k low)) [
      | inl less ↦ rw less (let lt : h.k <ℤ low = int_lt-true h.k low less in omega (arith, ints))
      | inr not ↦ rw not (omega (arith, ints))
    ]

lower_by-below : (low : ℤ) (o : Option Hop) (k : ℤ) → IsAtMost o k → lower_by low o ≤ℤ k
lower_by-below low None k most = absurd most
lower_by-below low (Some h) k most =
    elim (cases_Bool (int_lt h.k low)) [
      | inl less ↦ rw less most
      | inr not ↦ rw not (let le : low ≤ℤ h.k = int_lt-none h.k low not in omega (arith, ints))
    ]

lower_by-either : (low : ℤ) (o : Option Hop) → (lower_by low o ≡ low) ⊎ IsAtMost o (lower_by low o)
lower_by-either low None = inl refl
lower_by-either low (Some h) =
    elim (cases_Bool (int_lt h.k low)) [
      | inl less ↦ inr (rw less (omega (arith, ints)))
      | inr not ↦ inl (rw not refl)
    ]

pub low_of-le_zero : (row : ℕ → Option Hop) (n : ℕ) → low_of row n ≤ℤ pos 0
low_of-le_zero row zero = omega (arith, ints)
low_of-le_zero row (suc n) =
    let rest : low_of row n ≤ℤ pos 0 = low_of-le_zero row n in
    let step : lower_by (low_of row n) (row n) ≤ℤ low_of row n = lower_by-le (low_of row n) (row n) in
    omega (arith, ints)

pub low_of-below : (row : ℕ → Option Hop) (n j : ℕ) → j < n → (k : ℤ) → IsAtMost (row j) k → low_of row n ≤ℤ k
low_of-below row zero j below k most = absurd (omega arith)
low_of-below row (suc n) j below k most =
    elim (cases_eq j n) [
      | inl same ↦ lower_by-below (low_of row n) (row n) k (subst (λ (x : ℕ). IsAtMost (row x) k) same most)
      | inr other ↦
          (let rest : low_of row n ≤ℤ k = low_of-below row n j (omega arith) k most in
          let step : lower_by (low_of row n) (row n) ≤ℤ low_of row n = lower_by-le (low_of row n) (row n) in
          omega (arith, ints))
    ]

-- it is 0, or an offset to one of these names
pub record Reached (row : ℕ → Option Hop) (n : ℕ) (low : ℤ) : Type 0 where
  pub name : ℕ
  pub below : name < n
  pub at_most : IsAtMost (row name) low

-- the least value of a row is 0, or one of its offsets reaches it
pub low_of-reached : (row : ℕ → Option Hop) (n : ℕ) → (low_of row n ≡ pos 0) ⊎ Reached row n (low_of row n)
low_of-reached row zero = inl refl
low_of-reached row (suc n) =
    elim (lower_by-either (low_of row n) (row n)) [
      | inl same ↦
          rw same
          (elim (low_of-reached row n) [
            | inl none ↦ inl none
            | inr r ↦ inr (record { name = r.name; below = omega (arith, r.below); at_most = r.at_most })
          ])
      | inr new ↦ inr (record { name = n; below = omega arith; at_most = new })
    ]

-- a closed table has values: at each name the negation of the least of 0 and the offsets to it
pub IsWithin-value_in : (n : ℕ) (t : ℕ → ℕ → Option Hop) → IsClosed n t → IsWithin n t (value_in n t)
IsWithin-value_in n t closed = record {
  at = λ x y xn yn k most.
      elim (low_of-reached (λ j. t j x) n) [
        | inl none ↦
            (let below : low_of (λ j. t j y) n ≤ℤ k = low_of-below (λ j. t j y) n x xn k most in
            omega (arith, ints))
        | inr r ↦
            (let low : ℤ = low_of (λ j. t j x) n in
            let below : low_of (λ j. t j y) n ≤ℤ (low_of (λ j. t j x) n +ℤ k) =
            low_of-below (λ j. t j y) n r.name r.below (low_of (λ j. t j x) n +ℤ k)
            (closed.along r.name x y r.below xn yn (low_of (λ j. t j x) n) k r.at_most most) in
            omega (arith, ints))
      ];
}

-- a valuation may be shifted
pub IsWithin-shifted : (n : ℕ) (t : ℕ → ℕ → Option Hop) (v : ℕ → ℤ) (by : ℤ) → IsWithin n t v
    → IsWithin n t (λ x. v x -ℤ by)
IsWithin-shifted n t v by within = record {
  at = λ x y xn yn k most. let same : v x ≤ℤ (v y +ℤ k) = within.at x y xn yn k most in omega (arith, ints);
}

-- whether an offset is at most k
pub cases_at_most : (o : Option Hop) (k : ℤ) → IsAtMost o k ⊎ (IsAtMost o k → ⊥)
cases_at_most None k = inr (λ h. h)
cases_at_most (Some h) k =
    elim (cases_Bool (int_lt k h.k)) [
      | inl less ↦ inr (λ le. (let lt : k <ℤ h.k = int_lt-true k h.k less in absurd (omega (arith, ints))))
      | inr not ↦ inl (int_lt-none k h.k not)
    ]

-- A closed table keeps the least offset: where `x <= y + k` is not kept, its negation is allowed, so
-- it can be added, and the values of the new table do not meet `x <= y + k`.
pub at_most-from_within :
    (n : ℕ) (t : ℕ → ℕ → Option Hop) → IsClosed n t → (x y : ℕ) → x < n → y < n → (k : ℤ)
    → ((v : ℕ → ℤ) → IsWithin n t v → v x ≤ℤ (v y +ℤ k)) → IsAtMost (t x y) k
at_most-from_within n t closed x y xn yn k follows =
    elim (cases_at_most (t x y) k) [
      | inl most ↦ most
      | inr above ↦
          (let l : Lit = record { x = y; y = x; k = negsuc 0 -ℤ k } in
          let allowed : IsAllowed t l = λ j most. positive j most above in
          let closed' : IsClosed n (added t 0 l) = IsClosed-added n t closed 0 l yn xn allowed in
          let v : ℕ → ℤ = value_in n (added t 0 l) in
          let within : IsWithin n (added t 0 l) v = IsWithin-value_in n (added t 0 l) closed' in
          let met : v y ≤ℤ (v x +ℤ (negsuc 0 -ℤ k)) = Meets-from_added n t closed 0 l v yn xn within in
          let old : v x ≤ℤ (v y +ℤ k) = follows v (IsWithin-from_added n t 0 l v within) in
          absurd (beyond (v x) (v y) met old))
    ]
  where
    beyond : (a b : ℤ) → b ≤ℤ (a +ℤ (negsuc 0 -ℤ k)) → a ≤ℤ (b +ℤ k) → ⊥
    beyond a b met old = absurd (omega (arith, ints))

    positive : (j : ℤ) → IsAtMost (t x y) j → (IsAtMost (t x y) k → ⊥) → pos 0 ≤ℤ (j +ℤ (negsuc 0 -ℤ k))
    positive j most above =
        elim (cases_Bool (int_lt k j)) [
          | inl less ↦ (let lt : k <ℤ j = int_lt-true k j less in omega (arith, ints))
          | inr not ↦ absurd (above (IsAtMost-weaker (t x y) j k most (int_lt-none k j not)))
        ]

-- what is kept for a name and itself
pub own_hop : (n : ℕ) (t : ℕ → ℕ → Option Hop) → IsClosed n t → (x : ℕ) → x < n
    → (h : Hop) × (t x x ≡ Some h) × (h.k ≡ pos 0)
own_hop n t closed x below = by (t x x) (closed.own x below) (closed.own_least x below)
  where
    by : (o : Option Hop) → IsAtMost o (pos 0) → ((k : ℤ) → IsAtMost o k → pos 0 ≤ℤ k)
        → (h : Hop) × (o ≡ Some h) × (h.k ≡ pos 0)
    by None most least = absurd most
    by (Some h) most least =
        let high : h.k ≤ℤ pos 0 = most in
        let low : pos 0 ≤ℤ h.k = least h.k (omega (arith, ints)) in
        (h, refl, omega (arith, ints))
