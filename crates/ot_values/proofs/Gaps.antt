-- Three integers leave a gap: of four ranges, one has none of them.
use Rattle.std.proofs.Common.{◌≡◌, ◌⊎◌, ℕ, ℤ, pos, negsuc, ◌+ℤ◌, ◌≤ℤ◌, ◌<ℤ◌, true, int_le, sym, ◌∙◌, subst, inl, inr}
use Rattle.std.proofs.Common.{arith}
use Rattle.std.proofs.lemmas.Bool.{cases_Bool, false≢true}
use Rattle.std.proofs.lemmas.Int.{ints}
use Rattle.ot_values.proofs.Reach.{IsOneOf}

int_le-from : (m t : ℤ) → m ≤ℤ t → int_le m t ≡ true
int_le-from m t h = grind (arith, ints)

pub int_le-true : (m t : ℤ) → int_le m t ≡ true → m ≤ℤ t
int_le-true m t h = grind (arith, ints)

not_at_most : (m t : ℤ) → (m ≤ℤ t → ⊥) → t <ℤ m
not_at_most m t h = grind (arith, ints)

pub side_of : (m t : ℤ) → (m ≤ℤ t) ⊎ (t <ℤ m)
side_of m t =
    elim (cases_Bool (int_le m t)) [
      | inl yes_said ↦ inl (int_le-true m t yes_said)
      | inr no_said ↦ inr (not_at_most m t (λ h. false≢true (sym no_said ∙ int_le-from m t h)))
    ]

-- above the first integer, and at most the second
record IsIn (low high z : ℤ) : Type 0 where
  pub above : low <ℤ z
  pub within : z ≤ℤ high

abbrev IsOut : ℤ → ℤ → ℤ → Type 0
IsOut low high z = (z ≤ℤ low) ⊎ (high <ℤ z)

out_or_in : (low high z : ℤ) → IsOut low high z ⊎ IsIn low high z
out_or_in low high z =
    elim (side_of z low) [
      | inl before ↦ inl (inl before)
      | inr above ↦
          elim (side_of z high) [
            | inl within ↦ inr (record { above = above; within = within })
            | inr behind ↦ inl (inr behind)
          ]
    ]

-- one of three integers, and one of two
abbrev IsTaken : ℤ → ℤ → ℤ → ℤ → ℤ → Type 0
IsTaken p q r low high = IsIn low high p ⊎ (IsIn low high q ⊎ IsIn low high r)

abbrev AreOut : ℤ → ℤ → ℤ → ℤ → ℤ → Type 0
AreOut p q r low high = IsOut low high p × IsOut low high q × IsOut low high r

-- three integers are out of a range, or one of them takes it
out_or_taken : (p q r low high : ℤ) → AreOut p q r low high ⊎ IsTaken p q r low high
out_or_taken p q r low high =
    elim (out_or_in low high p) [
      | inr p_in ↦ inr (inl p_in)
      | inl p_out ↦
          elim (out_or_in low high q) [
            | inr q_in ↦ inr (inr (inl q_in))
            | inl q_out ↦
                elim (out_or_in low high r) [
                  | inr r_in ↦ inr (inr (inr r_in))
                  | inl r_out ↦ inl (p_out, q_out, r_out)
                ]
          ]
    ]

-- no integer is in two ranges, of which the second begins where the first ends or behind it
apart : (a b c d z : ℤ) → b ≤ℤ c → IsIn a b z → IsIn c d z → ⊥
apart a b c d z h first second = let above = second.above in let within = first.within in omega (arith, ints)

-- two integers are not in three ranges
module _ (a b c d e f : ℤ) (bc : b ≤ℤ c) (cd : c ≤ℤ d) (de : d ≤ℤ e) where
  ae : b ≤ℤ e
  ae = omega (arith, ints)

  no_three : (q r : ℤ) → (IsIn a b q ⊎ IsIn a b r) → (IsIn c d q ⊎ IsIn c d r) → (IsIn e f q ⊎ IsIn e f r) → ⊥
  no_three q r (inl x) (inl y) z = apart a b c d q bc x y
  no_three q r (inr x) (inr y) z = apart a b c d r bc x y
  no_three q r (inl x) (inr y) (inl z) = apart a b e f q ae x z
  no_three q r (inl x) (inr y) (inr z) = apart c d e f r de y z
  no_three q r (inr x) (inl y) (inl z) = apart c d e f q de y z
  no_three q r (inr x) (inl y) (inr z) = apart a b e f r ae x z

-- what the first is not in, one of the others is in
others : (a b c d p q r : ℤ) → (IsIn a b p → IsIn c d p → ⊥) → IsIn a b p → IsTaken p q r c d → IsIn c d q ⊎ IsIn c d r
others a b c d p q r not first (inl same) = absurd (not first same)
others a b c d p q r not first (inr other) = other

-- the four ranges: up to 101, and from there three times 397
abbrev one : ℤ
one = pos 101

abbrev two : ℤ
two = pos 498

abbrev three : ℤ
three = pos 895

abbrev four : ℤ
four = pos 1292

abbrev before : ℤ
before = negsuc 0

module _ (p q r : ℤ) where
  with_first :
      IsIn before one p → IsTaken p q r one two → IsTaken p q r two three → IsTaken p q r three four → ⊥
  with_first here second third fourth =
      no_three one two two three three four (omega (arith, ints)) (omega (arith, ints)) (omega (arith, ints)) q r
      (others before one one two p q r (apart before one one two p (omega (arith, ints))) here second)
      (others before one two three p q r (apart before one two three p (omega (arith, ints))) here third)
      (others before one three four p q r (apart before one three four p (omega (arith, ints))) here fourth)

  with_second :
      IsIn one two p → (IsIn before one q ⊎ IsIn before one r) → IsTaken p q r two three → IsTaken p q r three four → ⊥
  with_second here first third fourth =
      no_three before one two three three four (omega (arith, ints)) (omega (arith, ints)) (omega (arith, ints)) q r
      first (others one two two three p q r (apart one two two three p (omega (arith, ints))) here third)
      (others one two three four p q r (apart one two three four p (omega (arith, ints))) here fourth)

  no_four : IsTaken p q r before one → IsTaken p q r one two → IsTaken p q r two three → IsTaken p q r three four → ⊥
  no_four (inl here) second third fourth = with_first here second third fourth
  no_four (inr first) (inl here) third fourth = with_second here first third fourth
  no_four (inr first) (inr second) (inl here) fourth =
      no_three before one one two three four (omega (arith, ints)) (omega (arith, ints)) (omega (arith, ints)) q r first
      second (others two three three four p q r (apart two three three four p (omega (arith, ints))) here fourth)
  no_four (inr first) (inr second) (inr third) fourth =
      no_three before one one two two three (omega (arith, ints)) (omega (arith, ints))
      (omega (arith, ints)) q r first second third

-- A cut between the values of names: each of three names has a value up to it or far above it, and any that is above it
-- is at least 102. It is from 99 to 895.
pub record IsCut (v : ℕ → ℤ) (Inner : ℕ → Type 0) (t : ℤ) : Type 0 where
  pub low : pos 99 ≤ℤ t
  pub high : t ≤ℤ three
  pub far : (x y : ℕ) → Inner x → Inner y → v x ≤ℤ t → t <ℤ v y → (v x +ℤ pos 397) <ℤ v y
  pub first : (y : ℕ) → Inner y → t <ℤ v y → pos 101 <ℤ v y

pub each_of : (P : ℕ → Type 0) (p q r x : ℕ) → P p → P q → P r → IsOneOf p q r x → P x
each_of P p q r x hp hq hr (inl is) = subst P (sym is) hp
each_of P p q r x hp hq hr (inr (inl is)) = subst P (sym is) hq
each_of P p q r x hp hq hr (inr (inr is)) = subst P (sym is) hr

module _ (v : ℕ → ℤ) (p q r : ℕ) where
  abbrev Inner : ℕ → Type 0
  Inner = IsOneOf p q r

  not_low : (z : ℤ) → pos 0 ≤ℤ z → IsOut before one z → one <ℤ z
  not_low z h (inl low) = absurd (omega (arith, ints))
  not_low z h (inr high) = high

  cut_at_zero : ((x : ℕ) → Inner x → one <ℤ v x) → IsCut v Inner (pos 99)
  cut_at_zero all = record {
    low = omega (arith, ints);
    high = omega (arith, ints);
    far = λ x y ix iy below above. let high = all x ix in absurd (omega (arith, ints));
    first = λ y iy above. all y iy;
  }

  beyond : (t x y : ℤ) → IsOut t (t +ℤ pos 397) y → x ≤ℤ t → t <ℤ y → (x +ℤ pos 397) <ℤ y
  beyond t x y (inl low) below above = absurd (omega (arith, ints))
  beyond t x y (inr high) below above = omega (arith, ints)

  cut_at : (t : ℤ) → one ≤ℤ t → t ≤ℤ three → ((x : ℕ) → Inner x → IsOut t (t +ℤ pos 397) (v x)) → IsCut v Inner t
  cut_at t low high all = record {
    low = omega (arith, ints);
    high = high;
    far = λ x y ix iy below above. beyond t (v x) (v y) (all y iy) below above;
    first = λ y iy above. omega (arith, ints);
  }

  each_out : (low high : ℤ) → AreOut (v p) (v q) (v r) low high → (x : ℕ) → Inner x → IsOut low high (v x)
  each_out low high out x is = each_of (λ y. IsOut low high (v y)) p q r x out.0 out.1 out.2 is

  -- one of four ranges has none of the three values, so there is a cut in it
  pub find_cut : ((x : ℕ) → Inner x → pos 0 ≤ℤ v x) → (t : ℤ) × IsCut v Inner t
  find_cut natural =
      elim (out_or_taken (v p) (v q) (v r) before one) [
        | inl out ↦ (pos 99, cut_at_zero (λ x is. not_low (v x) (natural x is) (each_out before one out x is)))
        | inr first ↦
            elim (out_or_taken (v p) (v q) (v r) one two) [
              | inl out ↦ (one, cut_at one (omega (arith, ints)) (omega (arith, ints)) (each_out one two out))
              | inr second ↦
                  elim (out_or_taken (v p) (v q) (v r) two three) [
                    | inl out ↦ (two, cut_at two (omega (arith, ints)) (omega (arith, ints)) (each_out two three out))
                    | inr third ↦
                        elim (out_or_taken (v p) (v q) (v r) three four) [
                          | inl out ↦ (
                            three,
                            cut_at three (omega (arith, ints)) (omega (arith, ints))
                                (each_out three four out),
                          )
                          | inr fourth ↦ absurd (no_four (v p) (v q) (v r) first second third fourth)
                        ]
                  ]
            ]
      ]
