-- What it is for a table to stand for a list, before and after a literal is added.
use Rattle.std.proofs.Common.{◌≡◌, ℕ, zero, suc, ◌<◌, ◌≤◌, ◌==◌, ◌*◌, ℤ, pos, neg_ℤ, ◌+ℤ◌, ◌-ℤ◌, ◌≤ℤ◌, ◌<ℤ◌, true}
use Rattle.std.proofs.Common.{false, nat_eq, List, [], ◌∷◌, ◌++◌, length, Option, Some, None, arith, refl, sym, ap, ◌∙◌}
use Rattle.std.proofs.Common.{subst, inl, inr}
use Rattle.std.specs.List.{AllByRecursion}
use Rattle.std.proofs.lemmas.Int.{ints}
use Rattle.std.proofs.lemmas.Bool.{eq-eqb, ne_eqb, and_from, true≢false, false≢true}
use Rattle.diff_graph.specs.declared.lit.Lit.{Lit}
use Rattle.diff_tables.specs.declared.hop.Hop.{Hop}
use Rattle.diff_graph.specs.Literals.{Meets, AreMet}
use Rattle.diff_graph.specs.Cycles.{is_walk, weight}
use Rattle.diff_graph.specs.Limits.{IsNamed, AreNamed, AreSmall}
use Rattle.diff_tables.specs.Tables.{Numbered, literals_of, IsAmong, AreAmong, IsAtMost, Leads, StandsFor}
use Rattle.diff_tables.specs.Tables.{IsPossibleWith, IsCycleOf}
use Rattle.diff_tables.specs.Steps.{way_of, joined, lower_of, added, leaves_room, keeps, numbers_along, value_in}
use Rattle.diff_tables.specs.Steps.{IsModest}
use Rattle.diff_graph.proofs.Walks.{negative_verdict}
use Rattle.diff_tables.proofs.Closed.{IsWithin, IsClosed, IsAllowed, IsClosed-added, IsWithin-added}
use Rattle.diff_tables.proofs.Closed.{IsWithin-from_added, Meets-from_added, IsWithin-value_in, at_most-from_within}
use Rattle.diff_tables.proofs.Closed.{own_hop, IsAtMost-weaker}
use Rattle.diff_tables.proofs.Chains.{AreKept, IsAmong-append, IsAmong-last, Leads-short, Leads-small, chains-added}
use Rattle.diff_tables.proofs.Chains.{Leads-longer}

-- ---- what holds of each literal of a list
pub All-among :
    (P : Lit → Type 0) (ps : List Numbered) (number : ℕ) (l : Lit) → AllByRecursion P (literals_of ps)
    → IsAmong ps number l → P l
All-among P [] number l all among = absurd among
All-among P (p ∷ ps) number l all among =
    elim among [ inl here ↦ subst P here.1 all.0 | inr there ↦ All-among P ps number l all.1 there ]

pub All-from_among :
    (P : Lit → Type 0) (ps : List Numbered) → ((number : ℕ) (l : Lit) → IsAmong ps number l → P l)
    → AllByRecursion P (literals_of ps)
All-from_among P [] each = tt
All-from_among P (p ∷ ps) each =
    (each p.number p.lit (inl (refl, refl)), All-from_among P ps (λ number l among. each number l (inr among)))

pub All-push :
    (P : Lit → Type 0) (ps : List Numbered) (number : ℕ) (l : Lit) → AllByRecursion P (literals_of ps) → P l
    → AllByRecursion P (literals_of (ps ++ record { number = number; lit = l } ∷ []))
All-push P [] number l all last = (last, tt)
All-push P (p ∷ ps) number l all last = (all.0, All-push P ps number l all.1 last)

pub All-front :
    (P : Lit → Type 0) (ps : List Numbered) (number : ℕ) (l : Lit)
    → AllByRecursion P (literals_of (ps ++ record { number = number; lit = l } ∷ []))
    → AllByRecursion P (literals_of ps)
All-front P [] number l all = tt
All-front P (p ∷ ps) number l all = (all.0, All-front P ps number l all.1)

pub All-last :
    (P : Lit → Type 0) (ps : List Numbered) (number : ℕ) (l : Lit)
    → AllByRecursion P (literals_of (ps ++ record { number = number; lit = l } ∷ [])) → P l
All-last P [] number l all = all.0
All-last P (p ∷ ps) number l all = All-last P ps number l all.1

-- ---- what a table that stands for a list keeps
module _ (n : ℕ) (t : ℕ → ℕ → Option Hop) (ps : List Numbered) (stands : StandsFor n t ps) where
  -- a table that stands for a list is closed
  pub IsClosed-from_stands : IsClosed n t
  IsClosed-from_stands = record {
    along = λ x y z xn yn zn i j first onward.
        (stands.tight x z xn zn (i +ℤ j)).1 (λ v met.
        (let to : v x ≤ℤ (v y +ℤ i) = (stands.tight x y xn yn i).0 first v met in
        let on : v y ≤ℤ (v z +ℤ j) = (stands.tight y z yn zn j).0 onward v met in
        omega (arith, ints)));
    own = λ x xn.
        (let own : (h : Hop) × (t x x ≡ Some h) × (h.k ≡ pos 0) = stands.own x xn in
        let none : own.0.k ≡ pos 0 = own.2 in
        rw own.1 (omega (arith, ints)));
    own_least = λ x xn k most.
        (let v : ℕ → ℤ = stands.possible.0 in
        let at : v x ≤ℤ (v x +ℤ k) = (stands.tight x x xn xn k).0 most v stands.possible.1 in
        omega (arith, ints));
  }

  pub AreKept-from_stands : AreKept n t ps
  AreKept-from_stands = record {
    at_most = λ number l among.
        (let named : IsNamed n l = All-among (λ m. IsNamed n m) ps number l stands.named among in
        (stands.tight l.x l.y named.0 named.1 l.k).1 (λ v met. All-among (λ m. Meets v m) ps number l met among));
    first_below = λ number l among. (All-among (λ m. IsNamed n m) ps number l stands.named among).0;
    second_below = λ number l among. (All-among (λ m. IsNamed n m) ps number l stands.named among).1;
  }

  pub IsWithin-from_met : (v : ℕ → ℤ) → AreMet v (literals_of ps) → IsWithin n t v
  IsWithin-from_met v met = record { at = λ x y xn yn k most. (stands.tight x y xn yn k).0 most v met }

  pub AreMet-from_within : (v : ℕ → ℤ) → IsWithin n t v → AreMet v (literals_of ps)
  AreMet-from_within v within =
      All-from_among (λ m. Meets v m) ps (λ number l among.
      within.at l.x l.y (AreKept-from_stands.first_below number l among)
      (AreKept-from_stands.second_below number l among) l.k (AreKept-from_stands.at_most number l among))

-- a closed table stands for a list whose values are those within it, and whose chains it has
pub StandsFor-from_closed :
    (n : ℕ) (t : ℕ → ℕ → Option Hop) (ps : List Numbered) → IsClosed n t → AreNamed n (literals_of ps)
    → ((v : ℕ → ℤ) → IsWithin n t v → AreMet v (literals_of ps))
    → ((v : ℕ → ℤ) → AreMet v (literals_of ps) → IsWithin n t v)
    → ((x y : ℕ) (h : Hop) → t x y ≡ Some h → (x < n) × (y < n))
    → ((x y : ℕ) (h : Hop) → t x y ≡ Some h → (count : ℕ) × Leads t ps count x y h.k) → StandsFor n t ps
StandsFor-from_closed n t ps closed named met within inside chains = record {
  named = named;
  possible = (value_in n t, met (value_in n t) (IsWithin-value_in n t closed));
  tight = λ x y xn yn k. (
    λ most v holds. (within v holds).at x y xn yn k most,
    λ follows. at_most-from_within n t closed x y xn yn k (λ v lies. follows v (met v lies)),
  );
  own = own_hop n t closed;
  inside = inside;
  chains = chains;
}

-- what is kept in the new table lies inside too
inside-added :
    (n : ℕ) (t : ℕ → ℕ → Option Hop) (number : ℕ) (l : Lit) → ((x y : ℕ) (h : Hop) → t x y ≡ Some h → (x < n) × (y < n))
    → (x y : ℕ) (h : Hop) → added t number l x y ≡ Some h → (x < n) × (y < n)
inside-added n t number l inside x y h is_h = by (t x y) (t x l.x) (t l.y y) refl refl refl (is_h)
  where
    by :
        (old front back : Option Hop) → t x y ≡ old → t x l.x ≡ front → t l.y y ≡ back
        → lower_of old (joined (way_of number l x front) back) ≡ Some h → (x < n) × (y < n)
    by (Some o) front back old_is front_is back_is e = inside x y o old_is
    by None None back old_is front_is back_is e = absurd (let no : None ≡ Some h = e in cc)
    by None (Some f) None old_is front_is back_is e = absurd (let no : None ≡ Some h = e in cc)
    by None (Some f) (Some g) old_is front_is back_is e = ((inside x l.x f front_is).0, (inside l.y y g back_is).1)

module _ (n : ℕ) (t : ℕ → ℕ → Option Hop) (ps : List Numbered) (stands : StandsFor n t ps) (number : ℕ) (l : Lit)
    (named : IsNamed n l) where
  -- after an allowed literal the table stands for the list with it at its end
  pub StandsFor-added : IsAllowed t l → StandsFor n (added t number l) (ps ++ record { number = number; lit = l } ∷ [])
  StandsFor-added allowed =
      let closed = IsClosed-from_stands n t ps stands in
      let inside = inside-added n t number l stands.inside in
      StandsFor-from_closed n (added t number l) (ps ++ record { number = number; lit = l } ∷ [])
      (IsClosed-added n t closed number l named.0 named.1 allowed)
      (All-push (λ m. IsNamed n m) ps number l stands.named named)
      (λ v within. All-push (λ m. Meets v m) ps number l
      (AreMet-from_within n t ps stands v (IsWithin-from_added n t number l v within))
      (Meets-from_added n t closed number l v named.0 named.1 within))
      (λ v met. IsWithin-added n t number l v named.0 named.1
      (IsWithin-from_met n t ps stands v (All-front (λ m. Meets v m) ps number l met))
      (All-last (λ m. Meets v m) ps number l met))
      inside
      (λ x y h is_h. chains-added n t ps closed
      (AreKept-from_stands n t ps stands) number l named.0 named.1 allowed stands.inside stands.chains x y h
      (inside x y h is_h).0 (inside x y h is_h).1 is_h)

  -- a literal is allowed exactly where some integers meet it and the list
  pub possible-from_allowed : IsAllowed t l → IsPossibleWith (literals_of ps) l
  possible-from_allowed allowed =
      let after = StandsFor-added allowed in (
        after.possible.0,
        (
          All-front (λ m. Meets after.possible.0 m) ps number l after.possible.1,
          All-last
              (λ m. Meets after.possible.0 m) ps number l after.possible.1,
        ),
      )

  pub allowed-from_possible : IsPossibleWith (literals_of ps) l → IsAllowed t l
  allowed-from_possible possible k most =
      let v : ℕ → ℤ = possible.0 in
      let back : v l.y ≤ℤ (v l.x +ℤ k) = (stands.tight l.y l.x named.1 named.0 k).0 most v possible.1.0 in
      let met : v l.x ≤ℤ (v l.y +ℤ l.k) = possible.1.1 in
      omega (arith, ints)

  -- a literal that follows already changes nothing
  pub StandsFor-kept : IsAtMost (t l.x l.y) l.k → StandsFor n t (ps ++ record { number = number; lit = l } ∷ [])
  StandsFor-kept most = record {
    named = All-push (λ m. IsNamed n m) ps number l stands.named named;
    possible = (
      stands.possible.0,
      All-push (λ m. Meets stands.possible.0 m) ps number l stands.possible.1
          ((stands.tight l.x l.y named.0 named.1 l.k).0 most stands.possible.0 stands.possible.1),
    );
    tight = λ x y xn yn k. (
      λ at v met. (stands.tight x y xn yn k).0 at v (All-front (λ m. Meets v m) ps number l met),
      λ follows. (stands.tight x y xn yn k).1 (λ v met.
          follows v
          (All-push (λ m. Meets v m) ps number l met ((stands.tight l.x l.y named.0 named.1 l.k).0 most v met))),
    );
    own = stands.own;
    inside = stands.inside;
    chains = λ x y h is_h.
        (let chain = stands.chains x y h is_h in
        (chain.0, Leads-longer n t ps (record { number = number; lit = l } ∷ []) chain.0 x y h.k chain.1));
  }

-- a table of which no two names are kept stands for the empty list
pub StandsFor-new :
    (n : ℕ) (t : ℕ → ℕ → Option Hop) → ((x : ℕ) → x < n → (h : Hop) × (t x x ≡ Some h) × (h.k ≡ pos 0))
    → ((x y : ℕ) (h : Hop) → t x y ≡ Some h → (x ≡ y) × (x < n)) → StandsFor n t []
StandsFor-new n t own same =
    StandsFor-from_closed n t []
    (record {
      along = λ x y z xn yn zn i j first onward.
          (let to = kept-same x y i xn first in
          let on = kept-same y z j yn onward in
          let e : x ≡ z = to.0 ∙ on.0 in
          let low : pos 0 ≤ℤ i = to.1 in
          let low' : pos 0 ≤ℤ j = on.1 in
          IsAtMost-weaker (t x z) (pos 0) (i +ℤ j) (subst (λ (w : ℕ). IsAtMost (t x w) (pos 0)) e (own_at_most x xn))
          (omega (arith, ints)));
      own = own_at_most;
      own_least = λ x xn k most. (kept-same x x k xn most).1;
    })
    tt
    (λ v within. tt)
    (λ v met. record {
      at = λ x y xn yn k most.
          (let here = kept-same x y k xn most in
          let low : pos 0 ≤ℤ k = here.1 in
          rw here.0 (omega (arith, ints)));
    })
    (λ x y h is_h. (let e : x ≡ y = (same x y h is_h).0 in
    let below : x < n = (same x y h is_h).1 in (below, omega arith)))
    (λ x y h is_h.
    (let here : x ≡ y = (same x y h is_h).0 in
    let mine : (g : Hop) × (t x x ≡ Some g) × (g.k ≡ pos 0) = own x (same x y h is_h).1 in
    let is_h' : t x x ≡ Some h = subst (λ (w : ℕ). t x w ≡ Some h) (sym here) is_h in
    let e : h ≡ mine.0 = (let f : Some h ≡ Some mine.0 = sym is_h' ∙ mine.1 in cc) in
    (zero, (here, ap (λ (g : Hop). g.k) e ∙ mine.2))))
  where
    own_at_most : (x : ℕ) → x < n → IsAtMost (t x x) (pos 0)
    own_at_most x xn =
        let mine : (g : Hop) × (t x x ≡ Some g) × (g.k ≡ pos 0) = own x xn in
        let none : mine.0.k ≡ pos 0 = mine.2 in
        rw mine.1 (omega (arith, ints))

    -- an offset of at most k is kept only from a name to itself, where k is at least 0
    kept-same : (x y : ℕ) (k : ℤ) → x < n → IsAtMost (t x y) k → (x ≡ y) × (pos 0 ≤ℤ k)
    kept-same x y k xn most = by (t x y) refl most
      where
        by : (o : Option Hop) → t x y ≡ o → IsAtMost o k → (x ≡ y) × (pos 0 ≤ℤ k)
        by None e most = absurd most
        by (Some h) e most =
            let here : x ≡ y = (same x y h e).0 in
            let mine : (g : Hop) × (t x x ≡ Some g) × (g.k ≡ pos 0) = own x xn in
            let is_h : t x x ≡ Some h = subst (λ (w : ℕ). t x w ≡ Some h) (sym here) e in
            let f : h ≡ mine.0 = (let g : Some h ≡ Some mine.0 = sym is_h ∙ mine.1 in cc) in
            let none : h.k ≡ pos 0 = ap (λ (g : Hop). g.k) f ∙ mine.2 in
            let high : h.k ≤ℤ k = most in
            (here, omega (arith, ints))

-- tables that keep the same stand for the same lists
pub StandsFor-same :
    (n : ℕ) (t u : ℕ → ℕ → Option Hop) (ps : List Numbered) → ((x y : ℕ) → t x y ≡ u x y)
    → StandsFor n t ps → StandsFor n u ps
StandsFor-same n t u ps same stands =
    let e : t ≡ u = λ i x y. (same x y) i in
    subst (λ (w : ℕ → ℕ → Option Hop). StandsFor n w ps) e stands

-- ---- the tests
pub allowed-from_room : (t : ℕ → ℕ → Option Hop) (l : Lit) → leaves_room (t l.y l.x) l.k ≡ true → IsAllowed t l
allowed-from_room t l room k most = by (t l.y l.x) room most
  where
    by : (o : Option Hop) → leaves_room o l.k ≡ true → IsAtMost o k → pos 0 ≤ℤ (k +ℤ l.k)
    by None room most = absurd most
    by (Some h) room most =
        let low : pos 0 ≤ℤ (h.k +ℤ l.k) = grind (arith, ints, room) in
        let high : h.k ≤ℤ k = most in
        omega (arith, ints)

-- where there is no room, a chain leads back
pub record LeadsBack (t : ℕ → ℕ → Option Hop) (l : Lit) : Type 0 where
  pub hop : Hop
  pub is_hop : t l.y l.x ≡ Some hop
  pub negative : (hop.k +ℤ l.k) <ℤ pos 0

pub back-from_no_room : (t : ℕ → ℕ → Option Hop) (l : Lit) → leaves_room (t l.y l.x) l.k ≡ false → LeadsBack t l
back-from_no_room t l no_room = by (t l.y l.x) refl no_room
  where
    by : (o : Option Hop) → t l.y l.x ≡ o → leaves_room o l.k ≡ false → LeadsBack t l
    by None e no_room = absurd (true≢false no_room)
    by (Some h) e no_room = record { hop = h; is_hop = e; negative = grind (arith, ints, no_room) }

pub not_allowed-from_back : (t : ℕ → ℕ → Option Hop) (l : Lit) → LeadsBack t l → IsAllowed t l → ⊥
not_allowed-from_back t l back allowed =
    let low : pos 0 ≤ℤ (back.hop.k +ℤ l.k) = allowed back.hop.k (rw back.is_hop (omega (arith, ints))) in
    let high : (back.hop.k +ℤ l.k) <ℤ pos 0 = back.negative in
    absurd (omega (arith, ints))

pub at_most-from_keeps : (o : Option Hop) (k : ℤ) → keeps o k ≡ true → IsAtMost o k
at_most-from_keeps None k kept = absurd (false≢true kept)
at_most-from_keeps (Some h) k kept = grind (arith, ints)

-- ---- sizes
pub IsModest-from_stands :
    (n : ℕ) (t : ℕ → ℕ → Option Hop) (ps : List Numbered) → StandsFor n t ps
    → AreSmall (literals_of ps) → n ≤ 256 → (x y : ℕ)
    → IsModest 1000000 (t x y)
IsModest-from_stands n t ps stands small few x y = by (t x y) refl
  where
    by : (o : Option Hop) → t x y ≡ o → IsModest 1000000 o
    by None e = tt
    by (Some h) e =
        let chain = stands.chains x y h e in
        let short : chain.0 < n =
        Leads-short n t ps (IsClosed-from_stands n t ps stands) stands.inside chain.0 x y h.k
        (stands.inside x y h e).1 chain.1 in
        let sizes = Leads-small t ps small chain.0 x y h.k chain.1 in
        let low : neg_ℤ (pos (1001 * chain.0)) ≤ℤ h.k = sizes.0 in
        let high : h.k ≤ℤ pos (1001 * chain.0) = sizes.1 in
        (omega (arith, ints), omega (arith, ints))

-- ---- cycles
-- the literals on a chain, by the numbers that it is followed by
pub record Followed (t : ℕ → ℕ → Option Hop) (ps : List Numbered) (most count x y : ℕ) (k : ℤ) : Type 0 where
  pub literals : List Lit
  pub named : AreAmong ps (numbers_along (λ z. t z y) most x y) literals
  pub walks : is_walk x literals y ≡ true
  pub weighs : weight literals ≡ k
  pub counts : length (numbers_along (λ z. t z y) most x y) ≡ count

pub Followed-from_leads :
    (t : ℕ → ℕ → Option Hop) (ps : List Numbered) (most count x y : ℕ) (k : ℤ) → count ≤ most → Leads t ps count x y k
    → Followed t ps most count x y k
Followed-from_leads t ps zero zero x y k room leads = record {
  literals = [];
  named = tt;
  walks = eq-eqb x y leads.0;
  weighs = sym leads.1;
  counts = refl;
}
Followed-from_leads t ps (suc most) zero x y k room leads =
    let test : (x == y) ≡ true = eq-eqb x y leads.0 in
    record {
      literals = [];
      named = rw test tt;
      walks = test;
      weighs = sym leads.1;
      counts = rw test refl;
    }
Followed-from_leads t ps zero (suc count) x y k room leads = absurd (omega arith)
Followed-from_leads t ps (suc most) (suc count) x y k room leads =
    let h : Hop = leads.1.0 in
    let l : Lit = leads.1.3.0 in
    let is_h : t x y ≡ Some h = leads.1.1 in
    let test : (x == y) ≡ false = ne_eqb x y leads.0 in
    let rest : Followed t ps most count h.second y (k -ℤ l.k) =
    Followed-from_leads t ps most count h.second y (k -ℤ l.k) (omega arith) leads.1.3.4 in
    let on : numbers_along (λ z. t z y) (suc most) x y ≡ h.number ∷ numbers_along (λ z. t z y) most h.second y =
    rw (test, is_h) refl in
    let begins : nat_eq l.x x ≡ true = eq-eqb l.x x leads.1.3.2 in
    let goes_on : is_walk l.y rest.literals y ≡ true =
    subst (λ (z : ℕ). is_walk z rest.literals y ≡ true) (sym leads.1.3.3) rest.walks in
    let weighs_rest : weight rest.literals ≡ k -ℤ l.k = rest.weighs in
    record {
      literals = l ∷ rest.literals;
      named = subst (λ (numbers : List ℕ). AreAmong ps numbers (l ∷ rest.literals)) (sym on) (leads.1.3.1, rest.named);
      walks = and_from (nat_eq l.x x) (is_walk l.y rest.literals y) begins goes_on;
      weighs = omega (arith, ints);
      counts = ap length on ∙ ap suc rest.counts;
    }

AreAmong-append : (ps qs : List Numbered) (numbers : List ℕ) (ls : List Lit) → AreAmong ps numbers ls
    → AreAmong (ps ++ qs) numbers ls
AreAmong-append ps qs [] [] among = tt
AreAmong-append ps qs [] (l ∷ ls) among = absurd among
AreAmong-append ps qs (number ∷ numbers) [] among = absurd among
AreAmong-append ps qs (number ∷ numbers) (l ∷ ls) among =
    (IsAmong-append ps qs number l among.0, AreAmong-append ps qs numbers ls among.1)

-- where a chain leads back, the literal and the chain are a negative cycle of few literals
pub IsCycleOf-from_back :
    (n : ℕ) (t : ℕ → ℕ → Option Hop) (ps : List Numbered) → StandsFor n t ps → (number : ℕ) (l : Lit)
    → IsNamed n l → LeadsBack t l
    → IsCycleOf n (ps ++ record { number = number; lit = l } ∷ []) (number ∷ numbers_along (λ z. t z l.x) n l.y l.x)
IsCycleOf-from_back n t ps stands number l named back =
    let chain = stands.chains l.y l.x back.hop back.is_hop in
    let short : chain.0 < n =
    Leads-short n t ps (IsClosed-from_stands n t ps stands) stands.inside chain.0 l.y l.x back.hop.k named.0 chain.1 in
    let followed : Followed t ps n chain.0 l.y l.x back.hop.k =
    Followed-from_leads t ps n chain.0 l.y l.x back.hop.k (omega arith) chain.1 in
    let weighs : weight followed.literals ≡ back.hop.k = followed.weighs in
    let high : (back.hop.k +ℤ l.k) <ℤ pos 0 = back.negative in
    let low : (l.k +ℤ weight followed.literals) <ℤ pos 0 = omega (arith, ints) in
    record {
      literals = l ∷ followed.literals;
      named = (
        IsAmong-last ps number l,
        AreAmong-append ps _ (numbers_along (λ z. t z l.x) n l.y l.x)
            followed.literals followed.named,
      );
      negative = negative_verdict (l ∷ followed.literals) followed.walks low;
      few = omega (arith, followed.counts);
    }
