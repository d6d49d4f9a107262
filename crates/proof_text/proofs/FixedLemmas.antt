-- Fixed bytes are found exactly where they stand, and numbers with the byte that ends them.
use Rattle.std.proofs.Common.{◌≡◌, ◌≢◌, ◌⊎◌, inl, inr, ⊎_elim, ℕ, ◌*◌, ◌<◌, ◌≤◌, true, false, List, [], ◌∷◌, ◌++◌}
use Rattle.std.proofs.Common.{length, refl, sym, ap, ◌∙◌, arith}
use Rattle.std.proofs.lemmas.Bool.Decides.{nat_tests}
use Rattle.std.specs.Prelude.{nat_eq}
use Rattle.std.specs.Char.{is_ascii_digit}
use Rattle.std.specs.Fmt.{decimal}
use Rattle.proof_text.specs.declared.unread.Unread.TheVariants.{Misspelt, Cut}
use Rattle.proof_text.specs.Fronts.{Parsed, Found, Missing, and_then, found_as, fixed_front}
use Rattle.proof_text.specs.Numbers.{number_before, number_front}
use Rattle.proof_text.proofs.Spells.{Spells, IsAnything, cut_is_not_misspelt, found_is_not_missing, pair_front}
use Rattle.proof_text.proofs.Spells.{pairs_spelled, renamed_spelled, same_found, same_spelled}
use Rattle.proof_text.proofs.NumberLemmas.{numbers_spelled}

-- two bytes are the same or not
pub same_byte_or_not : (b c : ℕ) → ((nat_eq b c ≡ true) × (b ≡ c)) ⊎ ((nat_eq b c ≡ false) × (b ≢ c))
same_byte_or_not b c =
    elim (nat_eq b c) as (λ v. (nat_eq b c ≡ v) → ((v ≡ true) × (b ≡ c)) ⊎ ((v ≡ false) × (b ≢ c))) [
      | true ↦ λ is. inl (refl, grind (arith, nat_tests))
      | false ↦ λ is. inr (refl, λ e. grind (arith, nat_tests))
    ] refl

pub same_byte : (b : ℕ) → nat_eq b b ≡ true
same_byte b = grind (arith, nat_tests)

pub other_byte : (b c : ℕ) → b ≢ c → nat_eq b c ≡ false
other_byte b c other = grind (arith, nat_tests, other)

fixed_step : (b c : ℕ) (text bytes : List ℕ) → nat_eq b c ≡ true
    → fixed_front (b ∷ text) (c ∷ bytes) ≡ fixed_front text bytes
fixed_step b c text bytes same = rw same refl

fixed_wrong : (b c : ℕ) (text bytes : List ℕ) → nat_eq b c ≡ false
    → fixed_front (b ∷ text) (c ∷ bytes) ≡ Missing Misspelt
fixed_wrong b c text bytes other = rw other refl

fixed_written : (text rest : List ℕ) → fixed_front text (text ++ rest) ≡ Found tt rest
fixed_written [] rest = refl
fixed_written (b ∷ text) rest = fixed_step b b text (text ++ rest) (same_byte b) ∙ fixed_written text rest

pub fixed_read : (text bytes rest : List ℕ) (u : Unit {0})
    → fixed_front text bytes ≡ Found u rest → bytes ≡ text ++ rest
fixed_read [] bytes rest u is = (same_found tt u bytes rest is).1
fixed_read (b ∷ text) [] rest u is = absurd (found_is_not_missing u rest Cut (sym is))
fixed_read (b ∷ text) (c ∷ bytes) rest u is =
    ⊎_elim
    (λ (h : (nat_eq b c ≡ true) × (b ≡ c)).
    ap (λ (k : ℕ). k ∷ bytes) (sym h.1)
    ∙ ap (λ (l : List ℕ). b ∷ l) (fixed_read text bytes rest u (sym (fixed_step b c text bytes h.0) ∙ is)))
    (λ (h : (nat_eq b c ≡ false) × (b ≢ c)).
    absurd (found_is_not_missing u rest Misspelt (sym is ∙ fixed_wrong b c text bytes h.0))) (same_byte_or_not b c)

pub fixed_cut : (text bytes : List ℕ) → fixed_front text bytes ≡ Missing Cut
    → (more : List ℕ) × (0 < length more) × (text ≡ bytes ++ more)
fixed_cut [] bytes is = absurd (found_is_not_missing tt bytes Cut is)
fixed_cut (b ∷ text) [] is = (b ∷ text, omega arith, refl)
fixed_cut (b ∷ text) (c ∷ bytes) is =
    ⊎_elim
    (λ (h : (nat_eq b c ≡ true) × (b ≡ c)).
    let more = fixed_cut text bytes (sym (fixed_step b c text bytes h.0) ∙ is) in
    (more.0, more.1, ap (λ (l : List ℕ). b ∷ l) more.2 ∙ ap (λ (k : ℕ). k ∷ (bytes ++ more.0)) h.1))
    (λ (h : (nat_eq b c ≡ false) × (b ≢ c)). absurd (cut_is_not_misspelt (fixed_front (b ∷ text) (c ∷ bytes)) is
    (fixed_wrong b c text bytes h.0))) (same_byte_or_not b c)

-- misspelt bytes stay so, whatever follows
fixed_misspelt :
    (text bytes more : List ℕ) → fixed_front text bytes ≡ Missing Misspelt
    → fixed_front text (bytes ++ more) ≡ Missing Misspelt
fixed_misspelt [] bytes more is = absurd (found_is_not_missing tt bytes Misspelt is)
fixed_misspelt (b ∷ text) [] more is = absurd (cut_is_not_misspelt (fixed_front (b ∷ text) []) refl is)
fixed_misspelt (b ∷ text) (c ∷ bytes) more is =
    ⊎_elim
    (λ (h : (nat_eq b c ≡ true) × (b ≡ c)).
    fixed_step b c text (bytes ++ more) h.0
    ∙ fixed_misspelt text bytes more (sym (fixed_step b c text bytes h.0) ∙ is))
    (λ (h : (nat_eq b c ≡ false) × (b ≢ c)). fixed_wrong b c text (bytes ++ more) h.0)
    (same_byte_or_not b c)

-- fixed bytes
pub fixed_spelled : (text : List ℕ) → Spells (fixed_front text) (λ x. text) (λ x. Unit {0}) IsAnything
fixed_spelled text =
    record {
      written = λ u rest spelled behind. fixed_written text rest;
      read = λ u bytes rest is. (tt, tt, fixed_read text bytes rest u is);
      behind = λ rest more h. tt;
      cut = λ bytes is. let c = fixed_cut text bytes is in (tt, c.0, tt, c.2);
      misspelt = λ bytes more is. fixed_misspelt text bytes more is;
    }

-- a number and the byte that ends it
pub number_before_spelled :
    (stop short : ℕ) → is_ascii_digit stop ≡ false → 1 ≤ short → short ≤ 100000
    → Spells (number_before stop short) (λ n. decimal n ++ stop ∷ []) (λ n. n < short * 10) IsAnything
number_before_spelled stop short none some few =
    let both : Spells (pair_front (number_front short) (fixed_front (stop ∷ []))) (λ p. decimal p.0 ++ stop ∷ [])
    (λ p. (p.0 < short * 10) × Unit {0}) IsAnything =
    pairs_spelled (numbers_spelled short some few) (fixed_spelled (stop ∷ [])) (λ u rest spelled behind. none) tt tt in
    same_spelled {front = λ bytes. found_as (λ (p : ℕ × Unit {0}). p.0)
    (pair_front (number_front short) (fixed_front (stop ∷ [])) bytes)}
    (λ bytes. alone (number_front short bytes) (fixed_front (stop ∷ [])))
    (without_unit
    (renamed_spelled (λ (p : ℕ × Unit {0}). p.0) (λ n. (n, tt)) (λ p. refl) (λ n. refl) both))
  where
    alone_next : (n : ℕ) (y : Parsed (Unit {0}))
        → found_as (λ (p : ℕ × Unit {0}). p.0) (found_as (λ u. (n, u)) y) ≡ found_as (λ u. n) y
    alone_next n (Found u rest) = refl
    alone_next n (Missing why) = refl

    alone :
        (x : Parsed ℕ) (g : List ℕ → Parsed (Unit {0}))
        → found_as (λ (p : ℕ × Unit {0}). p.0) (and_then x (λ n rest. found_as (λ u. (n, u)) (g rest)))
        ≡ and_then x (λ n rest. found_as (λ u. n) (g rest))
    alone (Found n rest) g = alone_next n (g rest)
    alone (Missing why) g = refl

    -- the end byte adds no condition to the number's
    without_unit :
        {f : List ℕ → Parsed ℕ} {t : ℕ → List ℕ} {S : ℕ → Type 0} {N : List ℕ → Type 0}
        → Spells f t (λ n. S n × Unit {0}) N → Spells f t S N
    without_unit {f} {t} {S} {N} s =
        record {
          written = λ n rest spelled behind. s.written n rest (spelled, tt) behind;
          read = λ n bytes rest is. let r = s.read n bytes rest is in (r.0.0, r.1, r.2);
          behind = s.behind;
          cut = λ bytes is. let c = s.cut bytes is in (c.0, c.1, c.2.0, c.3);
          misspelt = s.misspelt;
        }
