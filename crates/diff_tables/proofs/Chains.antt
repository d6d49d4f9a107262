-- Chains of hops. A hop is a function of its pair of names, so the names on a chain differ. Offsets
-- are lowered only where they are strictly lower: a chain that is kept leads only through pairs that
-- are kept, and one that is lowered leads through lowered pairs to the new literal, and on through kept ones.
use Rattle.std.proofs.Common.{◌≡◌, ◌≢◌, ℕ, zero, suc, ◌*◌, ◌<◌, ◌≤◌, ◌==◌, ℤ, pos, negsuc, neg_ℤ, ◌+ℤ◌, ◌-ℤ◌, ◌≤ℤ◌}
use Rattle.std.proofs.Common.{true, false, eqb, int_lt, List, [], ◌∷◌, ◌++◌, length, Option, Some, None, if◌then◌else◌}
use Rattle.std.proofs.Common.{arith, refl, sym, ap, ◌∙◌, subst, inl, inr}
use Rattle.std.specs.List.{AllByRecursion, list_any, IsDistinct}
use Rattle.std.proofs.lemmas.Int.{ints}
use Rattle.std.proofs.lemmas.Bool.{cases_Bool, eq-eqb, ne_eqb, eqb-true, or_cases, false≢true}
use Rattle.std.proofs.lemmas.Map.Keys.{IsDistinct-cons}
use Rattle.std.proofs.lemmas.Map.Steps.{length-le_from_distinct_below}
use Rattle.diff_graph.specs.declared.lit.Lit.{Lit}
use Rattle.diff_tables.specs.declared.hop.Hop.{Hop}
use Rattle.diff_graph.specs.Limits.{IsSmall, AreSmall}
use Rattle.diff_tables.specs.Tables.{Numbered, literals_of, IsAmong, IsAtMost, Leads}
use Rattle.diff_tables.specs.Steps.{way_of, joined, lower_of, added}
use Rattle.diff_graph.proofs.Walks.{int_lt-none, int_lt-false}
use Rattle.diff_tables.proofs.Closed.{IsClosed, IsAllowed, IsAtMost-weaker, Parts, joined-parts, cases_at_most}
use Rattle.diff_tables.proofs.Closed.{round_is_positive, own_hop}

-- a literal of the list stands in a longer list
pub IsAmong-append : (ps qs : List Numbered) (number : ℕ) (l : Lit) → IsAmong ps number l → IsAmong (ps ++ qs) number l
IsAmong-append [] qs number l among = absurd among
IsAmong-append (p ∷ ps) qs number l among =
    elim among [ inl here ↦ inl here | inr there ↦ inr (IsAmong-append ps qs number l there) ]

-- and the last literal stands in the list
pub IsAmong-last : (ps : List Numbered) (number : ℕ) (l : Lit)
    → IsAmong (ps ++ record { number = number; lit = l } ∷ []) number l
IsAmong-last [] number l = inl (refl, refl)
IsAmong-last (p ∷ ps) number l = inr (IsAmong-last ps number l)

-- the old offset stays where the new one is no lower
pub lower_of-same : (old new : Option Hop) → ((k : ℤ) → IsAtMost new k → IsAtMost old k) → lower_of old new ≡ old
lower_of-same old None kept = refl
lower_of-same None (Some g) kept = absurd (kept g.k (omega (arith, ints)))
lower_of-same (Some h) (Some g) kept = rw (int_lt-false g.k h.k (kept g.k (omega (arith, ints))))

-- and the new one is taken where it is strictly lower
pub lower_of-taken : (old : Option Hop) (new : Hop) → (IsAtMost old new.k → ⊥) → lower_of old (Some new) ≡ Some new
lower_of-taken None new lower = refl
lower_of-taken (Some h) new lower =
    elim (cases_Bool (int_lt new.k h.k)) [
      | inl less ↦ rw less
      | inr not ↦ absurd (lower (int_lt-none new.k h.k not))
    ]

-- the names and the offset of each literal of the list are kept
pub record AreKept (n : ℕ) (t : ℕ → ℕ → Option Hop) (ps : List Numbered) : Type 0 where
  pub at_most : (number : ℕ) (l : Lit) → IsAmong ps number l → IsAtMost (t l.x l.y) l.k
  pub first_below : (number : ℕ) (l : Lit) → IsAmong ps number l → l.x < n
  pub second_below : (number : ℕ) (l : Lit) → IsAmong ps number l → l.y < n

module _ (n : ℕ) (t : ℕ → ℕ → Option Hop) (ps : List Numbered) (closed : IsClosed n t) where
  -- what a chain leads to is kept
  pub Leads-at_most : (count x y : ℕ) (k : ℤ) → y < n → Leads t ps count x y k → IsAtMost (t x y) k
  Leads-at_most zero x y k below leads =
      let same : x ≡ y = leads.0 in
      let none : k ≡ pos 0 = leads.1 in
      rw (same, none) (closed.own y below)
  Leads-at_most (suc count) x y k below leads =
      let offset : leads.1.0.k ≡ k = leads.1.2 in
      rw (leads.1.1) (omega (arith, ints))

  -- a chain is as long as its pair of names says
  pub Leads-determined : (count other x y : ℕ) (k j : ℤ) → Leads t ps count x y k
      → Leads t ps other x y j → count ≡ other
  Leads-determined zero zero x y k j leads too = refl
  Leads-determined zero (suc other) x y k j leads too = absurd (too.0 leads.0)
  Leads-determined (suc count) zero x y k j leads too = absurd (leads.0 too.0)
  Leads-determined (suc count) (suc other) x y k j leads too =
      let same : leads.1.0 ≡ too.1.0 = (let e : Some leads.1.0 ≡ Some too.1.0 = sym leads.1.1 ∙ too.1.1 in cc) in
      let second : leads.1.0.second ≡ too.1.0.second = ap (λ (h : Hop). h.second) same in
      let rest = leads.1.3.4 in
      ap suc (Leads-determined count other too.1.0.second y (k -ℤ leads.1.3.0.k) (j -ℤ too.1.3.0.k)
      (subst (λ (c : ℕ). Leads t ps count c y (k -ℤ leads.1.3.0.k)) second rest) too.1.3.4)

-- a chain of a list is one of a longer list
pub Leads-longer :
    (n : ℕ) (t : ℕ → ℕ → Option Hop) (ps qs : List Numbered) (count x y : ℕ) (k : ℤ) → Leads t ps count x y k
    → Leads t (ps ++ qs) count x y k
Leads-longer n t ps qs zero x y k leads = leads
Leads-longer n t ps qs (suc count) x y k leads = (
  leads.0,
  (
    leads.1.0,
    leads.1.1,
    leads.1.2,
    (
      leads.1.3.0,
      IsAmong-append ps qs leads.1.0.number leads.1.3.0 leads.1.3.1,
      leads.1.3.2,
      leads.1.3.3,
      Leads-longer n t ps qs count leads.1.0.second y (k -ℤ leads.1.3.0.k) leads.1.3.4,
    ),
  ),
)

-- a chain that begins further on
pub record FromName (t : ℕ → ℕ → Option Hop) (ps : List Numbered) (count x y : ℕ) : Type 0 where
  pub left : ℕ
  pub no_more : left ≤ count
  pub offset : ℤ
  pub leads : Leads t ps left x y offset

-- the names on a chain
names_on : (t : ℕ → ℕ → Option Hop) (ps : List Numbered) (count x y : ℕ) (k : ℤ) → Leads t ps count x y k → List ℕ
names_on t ps zero x y k leads = x ∷ []
names_on t ps (suc count) x y k leads =
    x ∷ names_on t ps count leads.1.0.second y (k -ℤ leads.1.3.0.k) leads.1.3.4

length-names_on :
    (t : ℕ → ℕ → Option Hop) (ps : List Numbered) (count x y : ℕ) (k : ℤ) (leads : Leads t ps count x y k)
    → length (names_on t ps count x y k leads) ≡ suc count
unfolding names_on
length-names_on t ps zero x y k leads = refl
length-names_on t ps (suc count) x y k leads =
    ap suc (length-names_on t ps count leads.1.0.second y (k -ℤ leads.1.3.0.k) leads.1.3.4)

-- from each name on a chain the rest of it leads on
from_name :
    (t : ℕ → ℕ → Option Hop) (ps : List Numbered) (count x y : ℕ) (k : ℤ) (leads : Leads t ps count x y k) (q : ℕ)
    → list_any (eqb q) (names_on t ps count x y k leads) ≡ true → FromName t ps count q y
unfolding names_on
from_name t ps zero x y k leads q on =
    elim (or_cases (eqb q x) false on) [
      | inl here ↦
          (let same : q ≡ x = eqb-true q x here in
          rw same (record { left = zero; no_more = omega arith; offset = k; leads = leads }))
      | inr nowhere ↦ absurd (false≢true nowhere)
    ]
from_name t ps (suc count) x y k leads q on =
    elim (or_cases (eqb q x)
    (list_any (eqb q) (names_on t ps count leads.1.0.second y (k -ℤ leads.1.3.0.k) leads.1.3.4)) on) [
      | inl here ↦
          (let same : q ≡ x = eqb-true q x here in
          rw same (record { left = suc count; no_more = omega arith; offset = k; leads = leads }))
      | inr there ↦
          (let rest : FromName t ps count q y =
          from_name t ps count leads.1.0.second y (k -ℤ leads.1.3.0.k) leads.1.3.4 q there in
          record { left = rest.left; no_more = omega (arith, rest.no_more); offset = rest.offset; leads = rest.leads })
    ]

nothing_differs : IsDistinct eqb []
unfolding IsDistinct
nothing_differs = tt

-- a test that fails at each element that it would pass
apart_by : (x : ℕ) (ys : List ℕ) → (list_any (eqb x) ys ≡ true → ⊥) → AllByRecursion (λ y. eqb x y ≡ false) ys
apart_by x [] none = tt
apart_by x (y ∷ ys) none =
    elim (cases_Bool (eqb x y)) [
      | inl same ↦ absurd (none (rw same refl))
      | inr other ↦ (other, apart_by x ys (λ any. none (rw (other, any) refl)))
    ]

module _ (n : ℕ) (t : ℕ → ℕ → Option Hop) (ps : List Numbered) (closed : IsClosed n t) where
  names_differ : (count x y : ℕ) (k : ℤ) (leads : Leads t ps count x y k)
      → IsDistinct eqb (names_on t ps count x y k leads)
  unfolding names_on
  names_differ zero x y k leads = IsDistinct-cons eqb x [] tt nothing_differs
  names_differ (suc count) x y k leads =
      IsDistinct-cons eqb x (names_on t ps count leads.1.0.second y (k -ℤ leads.1.3.0.k) leads.1.3.4)
      (apart_by x _ (λ on.
      (let again : FromName t ps count x y =
      from_name t ps count leads.1.0.second y (k -ℤ leads.1.3.0.k) leads.1.3.4 x on in
      let same : suc count ≡ again.left =
      Leads-determined n t ps closed (suc count) again.left x y k again.offset leads again.leads in
      absurd (omega (arith, again.no_more)))))
      (names_differ count leads.1.0.second y (k -ℤ leads.1.3.0.k) leads.1.3.4)

  -- a chain has fewer literals than there are names
  pub Leads-short :
      ((x y : ℕ) (h : Hop) → t x y ≡ Some h → (x < n) × (y < n)) → (count x y : ℕ) (k : ℤ) → y < n
      → Leads t ps count x y k → count < n
  Leads-short inside count x y k below leads =
      let most : length (names_on t ps count x y k leads) ≤ n =
      length-le_from_distinct_below (names_on t ps count x y k leads) n (names_differ count x y k leads)
      (λ q on. starts_below (from_name t ps count x y k leads q on)) in
      omega (arith, most, length-names_on t ps count x y k leads)
    where
      starts_below : {q : ℕ} → FromName t ps count q y → q < n
      starts_below {q} from = by from.left from.offset from.leads
        where
          by : (left : ℕ) (offset : ℤ) → Leads t ps left q y offset → q < n
          by zero offset leads = (let same : q ≡ y = leads.0 in omega arith)
          by (suc left) offset leads = (inside q y leads.1.0 leads.1.1).0

-- a literal of a list of small offsets has a small offset
pub IsSmall-among : (ps : List Numbered) (number : ℕ) (l : Lit) → AreSmall (literals_of ps)
    → IsAmong ps number l → IsSmall l
IsSmall-among [] number l small among = absurd among
IsSmall-among (p ∷ ps) number l small among =
    elim among [
      | inl here ↦ subst (λ (x : Lit). IsSmall x) here.1 small.0
      | inr there ↦ IsSmall-among ps number l small.1 there
    ]

-- so the offset of a chain is small for each of its literals
pub Leads-small :
    (t : ℕ → ℕ → Option Hop) (ps : List Numbered) → AreSmall (literals_of ps)
    → (count x y : ℕ) (k : ℤ) → Leads t ps count x y k
    → (neg_ℤ (pos (1001 * count)) ≤ℤ k) × (k ≤ℤ pos (1001 * count))
Leads-small t ps small zero x y k leads = (let none : k ≡ pos 0 = leads.1 in (omega (arith, ints), omega (arith, ints)))
Leads-small t ps small (suc count) x y k leads =
    let l : Lit = leads.1.3.0 in
    let here : (negsuc 1000 ≤ℤ l.k) × (l.k ≤ℤ pos 1001) = IsSmall-among ps leads.1.0.number l small leads.1.3.1 in
    let rest : (neg_ℤ (pos (1001 * count)) ≤ℤ (k -ℤ l.k)) × ((k -ℤ l.k) ≤ℤ pos (1001 * count)) =
    Leads-small t ps small count leads.1.0.second y (k -ℤ l.k) leads.1.3.4 in
    (omega (arith, ints), omega (arith, ints))

-- no way through the new literal is lower than what is kept
pub record IsKept (t : ℕ → ℕ → Option Hop) (l : Lit) (x y : ℕ) : Type 0 where
  pub at : (i j : ℤ) → IsAtMost (t x l.x) i → IsAtMost (t l.y y) j → IsAtMost (t x y) (i +ℤ l.k +ℤ j)

module _ (n : ℕ) (t : ℕ → ℕ → Option Hop) (ps : List Numbered) (closed : IsClosed n t)
    (kept : AreKept n t ps) (number : ℕ) (l : Lit)
    (x_below : l.x < n) (y_below : l.y < n) (allowed : IsAllowed t l) where
  added-kept : (x y : ℕ) → IsKept t l x y → added t number l x y ≡ t x y
  added-kept x y stays = lower_of-same (t x y) (joined (way_of number l x (t x l.x)) (t l.y y)) (λ k most.
      (let parts : Parts l (t x l.x) (t l.y y) k = joined-parts number l x (t x l.x) (t l.y y) k most in
      IsAtMost-weaker (t x y) (parts.before +ℤ l.k +ℤ parts.after) k
      (stays.at parts.before parts.after parts.front_at_most parts.rest_at_most) parts.room))

  -- a kept chain leads through kept pairs
  pub Leads-kept :
      (count x y : ℕ) (k : ℤ) → x < n → y < n → IsKept t l x y → Leads t ps count x y k
      → Leads (added t number l) (ps ++ record { number = number; lit = l } ∷ []) count x y k
  Leads-kept zero x y k xn yn stays leads = leads
  Leads-kept (suc count) x y k xn yn stays leads =
      let h : Hop = leads.1.0 in
      let m : Lit = leads.1.3.0 in
      let is_kept : t x y ≡ Some h = leads.1.1 in
      let offset : h.k ≡ k = leads.1.2 in
      let from : m.x ≡ x = leads.1.3.2 in
      let to : m.y ≡ h.second = leads.1.3.3 in
      let second_below : h.second < n = (let b : m.y < n = kept.second_below h.number m leads.1.3.1 in omega arith) in
      let step : IsAtMost (t x h.second) m.k =
      subst (λ (z : ℕ). IsAtMost (t x z) m.k) to
      (subst (λ (z : ℕ). IsAtMost (t z m.y) m.k) from (kept.at_most h.number m leads.1.3.1)) in
      let rest : IsAtMost (t h.second y) (k -ℤ m.k) =
      Leads-at_most n t ps closed count h.second y (k -ℤ m.k) yn leads.1.3.4 in
      let stays' : IsKept t l h.second y = record {
        at = λ i j front back.
            (let through : IsAtMost (t x l.x) (m.k +ℤ i) =
            closed.along x h.second l.x xn second_below x_below m.k i step front in
            let whole : IsAtMost (t x y) (m.k +ℤ i +ℤ l.k +ℤ j) = stays.at (m.k +ℤ i) j through back in
            let least : h.k ≤ℤ (m.k +ℤ i +ℤ l.k +ℤ j) = rw is_kept at whole in
            IsAtMost-weaker (t h.second y) (k -ℤ m.k) (i +ℤ l.k +ℤ j) rest (omega (arith, ints)));
      } in (
        leads.0,
        (
          h,
          added-kept x y stays ∙ is_kept,
          offset,
          (
            m,
            IsAmong-append ps _ h.number m leads.1.3.1,
            from,
            to,
            Leads-kept count h.second y (k -ℤ m.k) second_below yn stays' leads.1.3.4,
          ),
        ),
      )

  -- the way through the literal and back to its start is no lower than 0
  apart : (x y : ℕ) (f g : Hop) → x < n → t x l.x ≡ Some f → t l.y y ≡ Some g
      → (IsAtMost (t x y) (f.k +ℤ l.k +ℤ g.k) → ⊥) → x ≢ y
  apart x y f g xn front back lower same =
      let back' : t l.y x ≡ Some g = rw same back in
      let round : pos 0 ≤ℤ (f.k +ℤ l.k +ℤ g.k) =
      round_is_positive n t closed number l x_below y_below allowed x xn f.k g.k (rw front (omega (arith, ints)))
      (rw back' (omega (arith, ints))) in
      lower (subst (λ (z : ℕ). IsAtMost (t x z) (f.k +ℤ l.k +ℤ g.k)) same
      (IsAtMost-weaker (t x x) (pos 0) (f.k +ℤ l.k +ℤ g.k) (closed.own x xn) round))

  -- what is kept where the way through the literal is lower
  lowered_hop : ℕ → Hop → Hop → Hop
  lowered_hop x f g = record {
    k = f.k +ℤ l.k +ℤ g.k;
    number = if x == l.x then number else f.number;
    second = if x == l.x then l.y else f.second;
  }

  added-lowered :
      (x y : ℕ) (f g : Hop) → t x l.x ≡ Some f → t l.y y ≡ Some g → (IsAtMost (t x y) (f.k +ℤ l.k +ℤ g.k) → ⊥)
      → added t number l x y ≡ Some (lowered_hop x f g)
  unfolding lowered_hop
  added-lowered x y f g front back lower = rw (front, back) (lower_of-taken (t x y) (lowered_hop x f g) lower)

  -- how many literals a lowered chain has
  pub count_through : ℕ → ℕ → ℕ
  count_through zero after = suc after
  count_through (suc before) after = suc (count_through before after)

  -- a lowered chain leads to the literal's start through lowered pairs, along the literal, and on through kept pairs
  pub Leads-lowered :
      (before after x y : ℕ) (f g : Hop) → x < n → y < n → t x l.x ≡ Some f → t l.y y ≡ Some g
      → (IsAtMost (t x y) (f.k +ℤ l.k +ℤ g.k) → ⊥) → Leads t ps before x l.x f.k → Leads t ps after l.y y g.k
      → Leads (added t number l) (ps ++ record { number = number; lit = l } ∷ [])
      (count_through before after) x y (f.k +ℤ l.k +ℤ g.k)
  unfolding lowered_hop count_through
  Leads-lowered zero after x y f g xn yn front back lower to_start on =
      let same : x ≡ l.x = to_start.0 in
      let test : (x == l.x) ≡ true = eq-eqb x l.x same in
      let none : f.k ≡ pos 0 = to_start.1 in
      let h : Hop = record { k = f.k +ℤ l.k +ℤ g.k; number = number; second = l.y } in
      let is_h : added t number l x y ≡ Some h = added-lowered x y f g front back lower ∙ rw test refl in
      let on_kept : IsKept t l l.y y = record {
        at = λ i j round back'.
            (let positive : pos 0 ≤ℤ (i +ℤ l.k) = allowed i round in
            IsAtMost-weaker (t l.y y) j (i +ℤ l.k +ℤ j) back' (omega (arith, ints)));
      } in
      let rest : g.k ≡ (f.k +ℤ l.k +ℤ g.k) -ℤ l.k = omega (arith, ints) in (
        apart x y f g xn front back lower,
        (
          h,
          is_h,
          refl,
          (
            l,
            IsAmong-last ps number l,
            sym same,
            refl,
            subst (λ (k : ℤ). Leads (added t number l) (ps ++ record { number = number; lit = l } ∷ []) after l.y y k)
                rest (Leads-kept after l.y y g.k y_below yn on_kept on),
          ),
        ),
      )
  Leads-lowered (suc before) after x y f g xn yn front back lower to_start on =
      let first : Hop = to_start.1.0 in
      let m : Lit = to_start.1.3.0 in
      let is_kept : t x l.x ≡ Some first = to_start.1.1 in
      let same : first ≡ f = (let e : Some first ≡ Some f = sym is_kept ∙ front in cc) in
      let test : (x == l.x) ≡ false = ne_eqb x l.x to_start.0 in
      let h : Hop = record { k = f.k +ℤ l.k +ℤ g.k; number = first.number; second = first.second } in
      let is_h : added t number l x y ≡ Some h = added-lowered x y f g front back lower ∙ rw (test, same) refl in
      let from : m.x ≡ x = to_start.1.3.2 in
      let to : m.y ≡ first.second = to_start.1.3.3 in
      let second_below : first.second < n =
      (let b : m.y < n = kept.second_below first.number m to_start.1.3.1 in omega arith) in
      let step : IsAtMost (t x first.second) m.k =
      subst (λ (z : ℕ). IsAtMost (t x z) m.k) to
      (subst (λ (z : ℕ). IsAtMost (t z m.y) m.k) from (kept.at_most first.number m to_start.1.3.1)) in
      let next : (e : Hop) × (t first.second l.x ≡ Some e) × (e.k ≡ f.k -ℤ m.k) =
      offset_of before first.second (f.k -ℤ m.k) to_start.1.3.4 in
      let e : Hop = next.0 in
      let least : e.k ≡ f.k -ℤ m.k = next.2 in
      let to_start' : Leads t ps before first.second l.x e.k =
      subst (λ (k : ℤ). Leads t ps before first.second l.x k) (sym least) to_start.1.3.4 in
      let lower' : IsAtMost (t first.second y) (e.k +ℤ l.k +ℤ g.k) → ⊥ = (λ most.
      lower (IsAtMost-weaker (t x y) (m.k +ℤ (e.k +ℤ l.k +ℤ g.k)) (f.k +ℤ l.k +ℤ g.k)
      (closed.along x first.second y xn second_below yn m.k (e.k +ℤ l.k +ℤ g.k) step most) (omega (arith, ints)))) in
      let rest : (e.k +ℤ l.k +ℤ g.k) ≡ (f.k +ℤ l.k +ℤ g.k) -ℤ m.k = omega (arith, ints) in (
        apart x y f g xn front back lower,
        (
          h,
          is_h,
          refl,
          (
            m,
            IsAmong-append ps _ first.number m to_start.1.3.1,
            from,
            to,
            subst (λ (k : ℤ). Leads (added t number l) (ps ++ record { number = number; lit = l } ∷ [])
                (count_through before after) first.second y k) rest
                (Leads-lowered before after first.second y e g second_below yn next.1 back lower' to_start' on),
          ),
        ),
      )
    where
      offset_of : (count z : ℕ) (k : ℤ) → Leads t ps count z l.x k → (e : Hop) × (t z l.x ≡ Some e) × (e.k ≡ k)
      offset_of zero z k leads =
          let own : (e : Hop) × (t l.x l.x ≡ Some e) × (e.k ≡ pos 0) = own_hop n t closed l.x x_below in
          (own.0, rw leads.0 own.1, own.2 ∙ sym leads.1)
      offset_of (suc count) z k leads = (leads.1.0, leads.1.1, leads.1.2)

  -- so chains stay chains
  pub chains-added :
      ((x y : ℕ) (h : Hop) → t x y ≡ Some h → (x < n) × (y < n))
      → ((x y : ℕ) (h : Hop) → t x y ≡ Some h → (count : ℕ) × Leads t ps count x y h.k)
      → (x y : ℕ) (h : Hop) → x < n → y < n
      → added t number l x y ≡ Some h
      → (count : ℕ) × Leads (added t number l) (ps ++ record { number = number; lit = l } ∷ []) count x y h.k
  unfolding lowered_hop
  chains-added inside chains x y h xn yn is_h = by (t x l.x) (t l.y y) refl refl
    where
      stays : IsKept t l x y
          → (count : ℕ) × Leads (added t number l) (ps ++ record { number = number; lit = l } ∷ []) count x y h.k
      stays kept' =
          let chain = chains x y h (sym (added-kept x y kept') ∙ is_h) in
          (chain.0, Leads-kept chain.0 x y h.k xn yn kept' chain.1)

      -- by what is kept to the literal's start and from its end
      by :
          (front back : Option Hop) → t x l.x ≡ front → t l.y y ≡ back
          → (count : ℕ) × Leads (added t number l) (ps ++ record { number = number; lit = l } ∷ []) count x y h.k
      by None back front_is back_is =
          stays (record { at = λ i j front' back'. absurd (let none : ⊥ = rw front_is at front' in none) })
      by (Some f) None front_is back_is =
          stays (record { at = λ i j front' back'. absurd (let none : ⊥ = rw back_is at back' in none) })
      by (Some f) (Some g) front_is back_is =
          elim (cases_at_most (t x y) (f.k +ℤ l.k +ℤ g.k)) [
            | inl most ↦ stays (record {
              at = λ i j front' back'.
                  (let le : f.k ≤ℤ i = rw front_is at front' in
                  let le' : g.k ≤ℤ j = rw back_is at back' in
                  IsAtMost-weaker (t x y) (f.k +ℤ l.k +ℤ g.k) (i +ℤ l.k +ℤ j) most (omega (arith, ints)));
            })
            | inr lower ↦
                (let before = chains x l.x f front_is in
                let after = chains l.y y g back_is in
                let same : h ≡ lowered_hop x f g =
                (let e : Some h ≡ Some (lowered_hop x f g) = sym is_h
                ∙ added-lowered x y f g front_is back_is lower in cc) in
                let offset : h.k ≡ f.k +ℤ l.k +ℤ g.k = ap (λ (z : Hop). z.k) same in (
                  count_through before.0 after.0,
                  subst (λ (k : ℤ). Leads (added t number l) (ps ++ record { number = number; lit = l } ∷ [])
                      (count_through before.0 after.0) x y k) (sym offset)
                      (Leads-lowered before.0 after.0 x y f g xn yn front_is back_is lower before.1 after.1),
                ))
          ]
