-- The positions that a plan asks about: each is first asked whether it is at least 0, and where it is not,
-- nothing is to be shown. So no answers on the way to an end that fails speak of a negative position.
use Rattle.std.proofs.Common.{◌≡◌, ◌⊎◌, ℕ, ℤ, pos, ◌+ℤ◌, ◌≤ℤ◌, Bool, true, false, ◌||◌, nat_eq, List, [], ◌∷◌, refl}
use Rattle.std.proofs.Common.{sym, ◌∙◌, subst, inl, inr, arith}
use Rattle.std.proofs.lemmas.Bool.{false≢true}
use Rattle.std.proofs.lemmas.Bool.Decides.{Decides-eqb}
use Rattle.std.proofs.lemmas.Int.{ints}
use Rattle.diff_graph.specs.declared.lit.Lit.{Lit}
use Rattle.diff_graph.specs.Literals.{Meets, AreMet}
use Rattle.fn_rules.specs.declared.guard.Sort.{Sort}
use Rattle.fn_rules.specs.declared.guard.Sort.TheVariants.{Pos, Site, Char}
use Rattle.ask_core.specs.Plans.{Plan, Ask, Holds, Fails}
use Rattle.ask_core.specs.Leading.{LeadTo}
use Rattle.ot_questions.specs.declared.why.Why.{Why}
use Rattle.ot_questions.specs.Sorts.{sort_name, speaks_of}

-- the literal `0 <= x`
abbrev pub not_negative : ℕ → Lit
not_negative x = record { x = 0; y = x; k = pos 0 }

-- each question is about known names; or it asks whether a name is at least 0, which is then known, and where
-- it is not, nothing is to be shown
abbrev pub AsksOfKnown : (ℕ → Bool) → Plan Why → Type 0
AsksOfKnown known (Ask l on_yes on_no) =
    ((known l.x ≡ true) × (known l.y ≡ true) × AsksOfKnown known on_yes × AsksOfKnown known on_no)
    ⊎ ((l ≡ not_negative l.y) × (on_no ≡ Holds) × AsksOfKnown (λ x. known x || nat_eq x l.y) on_yes)
AsksOfKnown known Holds = Unit {0}
AsksOfKnown known (Fails why) = Unit {0}

abbrev is_no_position : Sort → Bool
is_no_position Pos = false
is_no_position Site = true
is_no_position Char = true

-- at first the names of sites and of characters are known, and zero
abbrev pub known_at_first : ℕ → Bool
known_at_first x = nat_eq x 0 || is_no_position (sort_name x)

-- a position that is not negative
abbrev pub NotNegative : (ℕ → ℤ) → ℕ → Type 0
NotNegative v x = sort_name x ≡ Pos → pos 0 ≤ℤ v x

either_way : (a b : Bool) → a || b ≡ true → (a ≡ true) ⊎ (b ≡ true)
either_way true b e = inl refl
either_way false b e = inr e

-- what is so of both names of a literal, and of the names that the others speak of
by_name :
    (P : ℕ → Type 0) (m : Lit) (w : List Lit) (x : ℕ) → P m.x → P m.y → (speaks_of w x ≡ true → P x)
    → speaks_of (m ∷ w) x ≡ true → P x
by_name P m w x first second others e =
    elim (either_way (nat_eq m.x x || nat_eq m.y x) (speaks_of w x) e) [
      | inl one ↦
          elim (either_way (nat_eq m.x x) (nat_eq m.y x) one) [
            | inl is ↦ subst P ((Decides-eqb m.x x).0 is) first
            | inr is ↦ subst P ((Decides-eqb m.y x).0 is) second
          ]
      | inr later ↦ others later
    ]

known_more : (P : ℕ → Type 0) (known : ℕ → Bool) (y : ℕ) → ((x : ℕ) → known x ≡ true → P x) → P y → (x : ℕ)
    → known x || nat_eq x y ≡ true → P x
known_more P known y before here x e =
    elim (either_way (known x) (nat_eq x y) e) [
      | inl is ↦ before x is
      | inr is ↦ subst P (sym ((Decides-eqb x y).0 is)) here
    ]

no_way_after_holds : (why : Why) (q : Plan Why) (w : List Lit) → q ≡ Holds → LeadTo why q w → ⊥
no_way_after_holds why q w e lead = let none : LeadTo why Holds w = subst (λ p. LeadTo why p w) e lead in none

module _ (v : ℕ → ℤ) (z : v 0 ≡ pos 0) (why : Why) where
  zero_is_none : NotNegative v 0
  zero_is_none e = omega (arith, ints)

  found_so : (m l : Lit) → m ≡ l → l ≡ not_negative l.y → Meets v m → NotNegative v l.y
  found_so m l same is met e =
      let here : Meets v (not_negative l.y) = subst (λ n. Meets v n) (same ∙ is) met in
      let at_least : v 0 ≤ℤ (v l.y +ℤ pos 0) = here in omega (arith, ints)

  -- no position that the answers speak of is negative
  pub no_negative :
      (known : ℕ → Bool) (p : Plan Why) (w : List Lit) → AsksOfKnown known p → LeadTo why p w → AreMet v w
      → ((x : ℕ) → known x ≡ true → NotNegative v x) → (x : ℕ) → speaks_of w x ≡ true → NotNegative v x
  no_negative known (Ask l p q) [] asks lead met before x spoken = absurd lead
  no_negative known (Ask l p q) (m ∷ w) (inl (kx, ky, hp, hq)) (inl (same, lead)) met before x spoken =
      by_name (NotNegative v) m w x (subst (λ n. NotNegative v n.x) (sym same) (before l.x kx))
      (subst (λ n. NotNegative v n.y) (sym same) (before l.y ky))
      (λ later. no_negative known p w hp lead met.1 before x later) spoken
  no_negative known (Ask l p q) (m ∷ w) (inl (kx, ky, hp, hq)) (inr (same, lead)) met before x spoken =
      by_name (NotNegative v) m w x (subst (λ n. NotNegative v n.x) (sym same) (before l.y ky))
      (subst (λ n. NotNegative v n.y) (sym same) (before l.x kx))
      (λ later. no_negative known q w hq lead met.1 before x later) spoken
  no_negative known (Ask l p q) (m ∷ w) (inr (is, none, hp)) (inl (same, lead)) met before x spoken =
      let here = found_so m l same is met.0 in
      by_name (NotNegative v) m w x (subst (λ n. NotNegative v n.x) (sym (same ∙ is)) zero_is_none)
      (subst (λ n. NotNegative v n.y) (sym same) here)
      (λ later. no_negative (λ y. known y || nat_eq y l.y) p w hp lead met.1
      (known_more (NotNegative v) known l.y before here) x later) spoken
  no_negative known (Ask l p q) (m ∷ w) (inr (is, none, hp)) (inr (same, lead)) met before x spoken =
      absurd (no_way_after_holds why q w none lead)
  no_negative known Holds w asks lead met before x spoken = absurd lead
  no_negative known (Fails cause) [] asks lead met before x spoken = absurd (false≢true spoken)
  no_negative known (Fails cause) (m ∷ w) asks lead met before x spoken = absurd lead

  no_position : (sort : Sort) → is_no_position sort ≡ true → sort ≡ Pos → ⊥
  no_position Pos e h = false≢true e
  no_position Site e h = cc
  no_position Char e h = cc

  pub known_first : (x : ℕ) → known_at_first x ≡ true → NotNegative v x
  known_first x e =
      elim (either_way (nat_eq x 0) (is_no_position (sort_name x)) e) [
        | inl is ↦ subst (NotNegative v) (sym ((Decides-eqb x 0).0 is)) zero_is_none
        | inr other ↦ λ s. absurd (no_position (sort_name x) other s)
      ]
