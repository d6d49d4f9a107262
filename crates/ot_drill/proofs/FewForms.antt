-- Forty-eight operations of three sites, of which each made at most sixteen, have few forms.
use Rattle.std.proofs.Common.{◌≡◌, ◌≤◌, ◌<◌, ◌+◌, ◌*◌, ◌⊎◌, ℕ, zero, suc, arith, inl, inr, refl}
use Rattle.std.proofs.lemmas.Nat.{mul-le}
use Rattle.ot_causal.specs.Past.{Past, maker}
use Rattle.ot_causal.specs.Counting.{choices, choices_below, made_at, most_forms}
use Rattle.ot_causal.specs.Sessions.{IsSite}

-- one of three sites
three_sites : (s : ℕ) → IsSite 3 s → (s ≡ 1) ⊎ ((s ≡ 2) ⊎ (s ≡ 3))
three_sites zero is = absurd (let low = is.low in omega arith)
three_sites (suc zero) is = inl refl
three_sites (suc (suc zero)) is = inr (inl refl)
three_sites (suc (suc (suc zero))) is = inr (inr refl)
three_sites (suc (suc (suc (suc s)))) is = absurd (let high = is.high in omega arith)

module _ (past : Past) (few : (s : ℕ) → made_at past s ≤ 16) where
  -- what the sites but one of the three may choose from
  two_choices : (s t : ℕ) → (made_at past s + 1) * (made_at past t + 1) ≤ 17 * 17
  two_choices s t =
      let one = few s in
      let other = few t in
      mul-le (made_at past s + 1) (made_at past t + 1) 17 17 (omega arith) (omega arith)

  choices_of : (own : ℕ) → IsSite 3 own → choices past own 3 ≤ 289
  choices_of own is =
      elim (three_sites own is) as (λ _. choices past own 3 ≤ 289) [
        | inl e ↦ rw e (omega (arith, two_choices 2 3))
        | inr (inl e) ↦ rw e (omega (arith, two_choices 1 3))
        | inr (inr e) ↦ rw e (omega (arith, two_choices 1 2))
      ]

  below : (n : ℕ) → ((o : ℕ) → o < n → IsSite 3 (maker past o)) → choices_below past 3 n ≤ n * 289
  below zero makers = omega arith
  below (suc n) makers =
      let older = below n (λ o h. makers o (omega arith)) in
      let newest = choices_of (maker past n) (makers n (omega arith)) in
      omega arith

  pub few_forms : past.count ≤ 48 → ((o : ℕ) → o < past.count → IsSite 3 (maker past o))
      → most_forms past 3 ≤ 48 * 17 * 17
  few_forms count makers =
      let all = below past.count makers in
      omega arith
