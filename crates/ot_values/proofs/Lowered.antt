-- Least characters leave no gap: where a value is not taken, all above it could be one lower. So of three
-- characters none is more than two above the highest floor.
use Rattle.std.proofs.Common.{◌≡◌, ◌≢◌, ◌⊎◌, ℕ, zero, suc, ◌<◌, ℤ, pos, ◌-ℤ◌, ◌≤ℤ◌, ◌<ℤ◌, Bool, true, false, ◌||◌}
use Rattle.std.proofs.Common.{if◌then◌else◌, nat_eq, int_le, List, [], ◌∷◌, length, refl, ap, sym, ◌∙◌, subst, inl, inr}
use Rattle.std.proofs.Common.{arith}
use Rattle.std.specs.List.{list_all}
use Rattle.std.specs.Prelude.{slice_index_or}
use Rattle.std.specs.Ordering.{int_eq}
use Rattle.std.proofs.lemmas.Bool.{cases_Bool, false≢true, and_parts}
use Rattle.std.proofs.lemmas.Bool.Decides.{Decides-eqb, Decides-int_eq}
use Rattle.std.proofs.lemmas.Int.{ints}
use Rattle.diff_graph.specs.declared.lit.Lit.{Lit}
use Rattle.diff_tables.specs.Solutions.{AreLeast, valuation_of}
use Rattle.fn_rules.specs.declared.guard.Sort.{Sort}
use Rattle.fn_rules.specs.declared.guard.Sort.TheVariants.{Pos, Site, Char}
use Rattle.fn_rules.specs.declared.function.ObName.{ObName}
use Rattle.fn_rules.specs.declared.function.ObName.TheVariants.{Pair, Triple}
use Rattle.ot_questions.specs.declared.name.Who.{Who}
use Rattle.ot_questions.specs.declared.name.Who.TheVariants.{A, B, C}
use Rattle.ot_questions.specs.Names.{char_name}
use Rattle.ot_questions.specs.Sorts.{sort_name, AreLike}
use Rattle.ot_values.specs.Values.{floors_of}
use Rattle.ot_values.proofs.Alike.{AreAlike, alike_meet}

-- characters from a value on are one lower
abbrev lower : ℤ → Sort → ℤ → ℤ
lower m Pos t = t
lower m Site t = t
lower m Char t = if int_le m t then t -ℤ pos 1 else t

abbrev lowered : (ℕ → ℤ) → ℤ → ℕ → ℤ
lowered v m x = lower m (sort_name x) (v x)

-- one lower, or as it was
record IsLower (m t r : ℤ) : Type 0 where
  pub from : m ≤ℤ t → r ≡ t -ℤ pos 1
  pub below : t <ℤ m → r ≡ t

int_le-from : (m t : ℤ) → m ≤ℤ t → int_le m t ≡ true
int_le-from m t h = grind (arith, ints)

pub int_le-true : (m t : ℤ) → int_le m t ≡ true → m ≤ℤ t
int_le-true m t h = grind (arith, ints)

-- a character from a bound on is one lower, and one below it is as it was
lower_is : (m t : ℤ) → IsLower m t (lower m Char t)
lower_is m t =
    elim (cases_Bool (int_le m t)) [
      | inl yes_said ↦
          (let high : m ≤ℤ t = int_le-true m t yes_said in
          rw yes_said (record { from = λ h. refl; below = λ h. absurd (omega (arith, ints)) }))
      | inr no_said ↦
          rw no_said (record {
            from = λ h. absurd (false≢true (sym no_said ∙ int_le-from m t h));
            below = λ h. refl;
          })
    ]

side_of : (m t : ℤ) → (m ≤ℤ t) ⊎ (t <ℤ m)
side_of m t =
    elim (cases_Bool (int_le m t)) [
      | inl yes_said ↦ inl (int_le-true m t yes_said)
      | inr no_said ↦ inr (not_at_most m t (λ h. false≢true (sym no_said ∙ int_le-from m t h)))
    ]
  where
    not_at_most : (m t : ℤ) → (m ≤ℤ t → ⊥) → t <ℤ m
    not_at_most m t h = grind (arith, ints)

-- where the value below is not taken, the order is kept
lower_order :
    (m s t q r : ℤ) → s ≢ (m -ℤ pos 1) → IsLower m s q → IsLower m t r → (s ≤ℤ t → q ≤ℤ r) × (s <ℤ t → q <ℤ r)
lower_order m s t q r free hq hr =
    elim (side_of m s) [
      | inl s_high ↦
          (let es : q ≡ s -ℤ pos 1 = hq.from s_high in
          elim (side_of m t) [
            | inl t_high ↦
                (let et : r ≡ t -ℤ pos 1 = hr.from t_high in (λ h. omega (arith, ints), λ h. omega (arith, ints)))
            | inr t_low ↦ (let et : r ≡ t = hr.below t_low in (λ h. omega (arith, ints), λ h. omega (arith, ints)))
          ])
      | inr s_low ↦
          (let es : q ≡ s = hq.below s_low in
          elim (side_of m t) [
            | inl t_high ↦
                (let et : r ≡ t -ℤ pos 1 = hr.from t_high in (λ h. omega (arith, ints), λ h. omega (arith, ints)))
            | inr t_low ↦ (let et : r ≡ t = hr.below t_low in (λ h. omega (arith, ints), λ h. omega (arith, ints)))
          ])
    ]

lower_above : (m fl t : ℤ) (sort : Sort) → pos 100 ≤ℤ m → fl ≤ℤ pos 99 → fl ≤ℤ t → fl ≤ℤ lower m sort t
lower_above m fl t Pos high low h = h
lower_above m fl t Site high low h = h
lower_above m fl t Char high low h =
    let r = lower_is m t in
    elim (side_of m t) [
      | inl up ↦ (let e : lower m Char t ≡ t -ℤ pos 1 = r.from up in subst (λ z. fl ≤ℤ z) (sym e) (omega (arith, ints)))
      | inr down ↦ (let e : lower m Char t ≡ t = r.below down in subst (λ z. fl ≤ℤ z) (sym e) h)
    ]

-- the names of characters
no_char : (b : Bool) → (if b then Site else Pos) ≡ Char → ⊥
no_char true e = cc
no_char false e = cc

-- what holds of names 5, 8 and 11 holds of each name of a character
char_names : (P : ℕ → Type 0) → P 5 → P 8 → P 11 → (x : ℕ) → sort_name x ≡ Char → P x
char_names P five eight eleven x e =
    elim (cases_Bool (nat_eq x 5)) [
      | inl is ↦ subst P (sym ((Decides-eqb x 5).0 is)) five
      | inr not5 ↦
          elim (cases_Bool (nat_eq x 8)) [
            | inl is ↦ subst P (sym ((Decides-eqb x 8).0 is)) eight
            | inr not8 ↦
                elim (cases_Bool (nat_eq x 11)) [
                  | inl is ↦ subst P (sym ((Decides-eqb x 11).0 is)) eleven
                  | inr not11 ↦ absurd (no_char (nat_eq x 4 || nat_eq x 7 || nat_eq x 10) (rw (not5, not8, not11) at e))
                ]
          ]
    ]

-- any name
abbrev AnyName : ℕ → Type 0
AnyName x = Unit {0}

-- lowered values are alike, where no character is right below the bound
alike_lowered :
    (v : ℕ → ℤ) (m : ℤ) → v 5 ≢ (m -ℤ pos 1) → v 8 ≢ (m -ℤ pos 1) → v 11 ≢ (m -ℤ pos 1)
    → AreAlike AnyName v (lowered v m)
alike_lowered v m five eight eleven = record {
  same = λ x e n. ap (λ sort. lower m sort (v x)) e;
  sites = λ x y ex ey. record {
    at_most = λ h. rw (ex, ey) h;
    less = λ h. rw (ex, ey) h;
  };
  chars = λ x y ex ey.
      let kept = lower_order m (v x) (v y) (lower m Char (v x)) (lower m Char (v y))
      (char_names (λ z. v z ≢ (m -ℤ pos 1)) five eight eleven x ex) (lower_is m (v x)) (lower_is m (v y)) in
      record { at_most = λ h. rw (ex, ey) (kept.0 h); less = λ h. rw (ex, ey) (kept.1 h) };
}

-- a value from 99 to 101 that none of three takes, of which one is above
record Gap (p q r : ℤ) : Type 0 where
  pub m : ℤ
  pub low : pos 100 ≤ℤ m
  pub high : m ≤ℤ pos 102
  pub p_free : p ≢ (m -ℤ pos 1)
  pub q_free : q ≢ (m -ℤ pos 1)
  pub r_free : r ≢ (m -ℤ pos 1)

-- a value is taken by one of two integers, or by none of them
taken : (q r m : ℤ) → ((q ≢ m) × (r ≢ m)) ⊎ ((q ≡ m) ⊎ (r ≡ m))
taken q r m =
    elim (cases_Bool (int_eq q m)) [
      | inl q_is ↦ inr (inl ((Decides-int_eq q m).0 q_is))
      | inr q_not ↦
          elim (cases_Bool (int_eq r m)) [
            | inl r_is ↦ inr (inr ((Decides-int_eq r m).0 r_is))
            | inr r_not ↦
                inl (
                  λ e. false≢true (sym q_not ∙ (Decides-int_eq q m).1 e),
                  λ e. false≢true (sym r_not ∙ (Decides-int_eq r m).1 e),
                )
          ]
    ]

-- two integers do not take three values
no_three : (q r : ℤ) → ((q ≡ pos 101) ⊎ (r ≡ pos 101)) → ((q ≡ pos 100) ⊎ (r ≡ pos 100))
    → ((q ≡ pos 99) ⊎ (r ≡ pos 99)) → ⊥
no_three q r (inl a) (inl b) c = omega (arith, ints)
no_three q r (inr a) (inr b) c = omega (arith, ints)
no_three q r (inl a) (inr b) (inl c) = omega (arith, ints)
no_three q r (inl a) (inr b) (inr c) = omega (arith, ints)
no_three q r (inr a) (inl b) (inl c) = omega (arith, ints)
no_three q r (inr a) (inl b) (inr c) = omega (arith, ints)

gap_at : (p q r m : ℤ) → pos 102 ≤ℤ p → pos 100 ≤ℤ m → m ≤ℤ pos 102 → q ≢ (m -ℤ pos 1) → r ≢ (m -ℤ pos 1) → Gap p q r
gap_at p q r m high low most hq hr =
    record { m = m; low = low; high = most; p_free = λ e. omega (arith, ints); q_free = hq; r_free = hr }

-- beside a character that is at least 102, two others leave a value from 99 to 101 free
gap : (p q r : ℤ) → pos 102 ≤ℤ p → Gap p q r
gap p q r high =
    elim (taken q r (pos 101)) [
      | inl free ↦ gap_at p q r (pos 102) high (omega (arith, ints)) (omega (arith, ints)) free.0 free.1
      | inr third ↦
          elim (taken q r (pos 100)) [
            | inl free ↦ gap_at p q r (pos 101) high (omega (arith, ints)) (omega (arith, ints)) free.0 free.1
            | inr second ↦
                elim (taken q r (pos 99)) [
                  | inl free ↦ gap_at p q r (pos 100) high (omega (arith, ints)) (omega (arith, ints)) free.0 free.1
                  | inr first ↦ absurd (no_three q r third second first)
                ]
          ]
    ]

-- the floors are low
low_at : (fls : List ℤ) → list_all (λ fl. int_le fl (pos 99)) fls ≡ true → (x : ℕ)
    → slice_index_or fls x (pos 0) ≤ℤ pos 99
low_at [] h x = omega (arith, ints)
low_at (fl ∷ fls) h zero =
    int_le-true fl (pos 99) (and_parts (int_le fl (pos 99)) (list_all (λ fl. int_le fl (pos 99)) fls) h).0
low_at (fl ∷ fls) h (suc x) =
    low_at fls (and_parts (int_le fl (pos 99)) (list_all (λ fl. int_le fl (pos 99)) fls) h).1 x

floors_low : (ob : ObName) (x : ℕ) → valuation_of (floors_of ob) x ≤ℤ pos 99
floors_low (Pair k l) x = low_at (floors_of (Pair k l)) refl x
floors_low (Triple k l m) x = low_at (floors_of (Triple k l m)) refl x

module _ (ob : ObName) (w : List Lit) (values : List ℤ) (like : AreLike w)
    (least : AreLeast w (floors_of ob) values) where
  abbrev v : ℕ → ℤ
  v = valuation_of values

  -- no character is above such a gap: it could be one lower
  not_above :
      (x : ℕ) (m : ℤ) → x < length (floors_of ob) → sort_name x ≡ Char → pos 102 ≤ℤ v x → pos 100 ≤ℤ m → m ≤ℤ pos 102
      → v 5 ≢ (m -ℤ pos 1) → v 8 ≢ (m -ℤ pos 1) → v 11 ≢ (m -ℤ pos 1) → ⊥
  not_above x m below is high low most five eight eleven =
      let above : v x ≤ℤ lowered v m x =
      least.least (lowered v m) least.zero_first
      (alike_meet AnyName v (lowered v m) (alike_lowered v m five eight eleven) w like (λ y e. tt) least.met)
      (λ y h. lower_above m (valuation_of (floors_of ob) y) (v y) (sort_name y) low (floors_low ob y) (least.above y h))
      x below in
      let one_lower : lower m Char (v x) ≡ v x -ℤ pos 1 = (lower_is m (v x)).from (omega (arith, ints)) in
      let there : lowered v m x ≡ v x -ℤ pos 1 = ap (λ sort. lower m sort (v x)) is ∙ one_lower in
      omega (arith, ints)

  is_high : (who : Who) → char_name who < length (floors_of ob) → pos 102 ≤ℤ v (char_name who) → ⊥
  is_high A below high = let g = gap (v 5) (v 8) (v 11) high in
      not_above 5 g.m below refl high g.low g.high g.p_free g.q_free g.r_free
  is_high B below high = let g = gap (v 8) (v 5) (v 11) high in
      not_above 8 g.m below refl high g.low g.high g.q_free g.p_free g.r_free
  is_high C below high = let g = gap (v 11) (v 5) (v 8) high in
      not_above 11 g.m below refl high g.low g.high g.q_free g.r_free g.p_free

  -- no character is above `e`
  pub small_char : (who : Who) → char_name who < length (floors_of ob) → v (char_name who) ≤ℤ pos 101
  small_char who below =
      elim (side_of (pos 102) (v (char_name who))) [
        | inl high ↦ absurd (is_high who below high)
        | inr low ↦ omega (arith, ints)
      ]
