-- Lines are found exactly where they stand.
use Rattle.std.proofs.Common.{◌≡◌, ◌⊎◌, inl, inr, ⊎_elim, ℕ, ◌-◌, ◌<◌, ◌≤◌, List, [], ◌∷◌, ◌++◌, length, drop, refl}
use Rattle.std.proofs.Common.{sym, ap, ◌∙◌, arith, lit≤}
use Rattle.fn_rules.specs.declared.function.Level.{Level}
use Rattle.fn_rules.specs.declared.function.Level.TheVariants.{Tp1, Tp2}
use Rattle.proof_text.specs.declared.unread.Unread.TheVariants.{Misspelt, Cut}
use Rattle.proof_text.specs.Fronts.{Parsed, Found, Missing, either_front, found_as, fixed_front}
use Rattle.proof_text.specs.Lines.{header_front}
use Rattle.proof_text.specs.Spelling.{proof_header_text}
use Rattle.proof_text.proofs.Spells.{Spells, IsAnything, cut_is_not_misspelt, found_as_found, found_as_missing}
use Rattle.proof_text.proofs.Spells.{found_is_not_missing}
use Rattle.proof_text.proofs.FixedLemmas.{fixed_cut, fixed_read, fixed_spelled}
use Rattle.proof_text.proofs.Places.{found_behind}

either_found :
    {A : Type 0} (x y : Parsed A) (a : A) (rest : List ℕ) → either_front x y ≡ Found a rest
    → (x ≡ Found a rest) ⊎ ((x ≡ Missing Misspelt) × (y ≡ Found a rest))
either_found {A} (Found b r) y a rest is = inl is
either_found {A} (Missing Misspelt) y a rest is = inr (refl, is)
either_found {A} (Missing Cut) y a rest is = absurd (found_is_not_missing a rest Cut (sym is))

either_cut :
    {A : Type 0} (x y : Parsed A) → either_front x y ≡ Missing Cut
    → (x ≡ Missing Cut) ⊎ ((x ≡ Missing Misspelt) × (y ≡ Missing Cut))
either_cut {A} (Found b r) y is = absurd (found_is_not_missing b r Cut is)
either_cut {A} (Missing Misspelt) y is = inr (refl, is)
either_cut {A} (Missing Cut) y is = inl refl

either_misspelt :
    {A : Type 0} (x y : Parsed A) → either_front x y ≡ Missing Misspelt
    → (x ≡ Missing Misspelt) × (y ≡ Missing Misspelt)
either_misspelt {A} (Found b r) y is = absurd (found_is_not_missing b r Misspelt is)
either_misspelt {A} (Missing Misspelt) y is = (refl, is)
either_misspelt {A} (Missing Cut) y is = absurd (cut_is_not_misspelt (either_front (Missing Cut) y) refl is)

-- the header of a level
abbrev one_header : Level → List ℕ → Parsed Level
one_header level bytes = found_as (λ x. level) (fixed_front (proof_header_text level) bytes)

header_read : (level other : Level) (bytes rest : List ℕ) → one_header level bytes ≡ Found other rest
    → bytes ≡ proof_header_text other ++ rest
header_read level other bytes rest is =
    let found = found_as_found (λ x. level) (fixed_front (proof_header_text level) bytes) other rest is in
    fixed_read (proof_header_text level) bytes rest found.0 found.1
    ∙ ap (λ (l : Level). proof_header_text l ++ rest) found.2

header_cut : (level : Level) (bytes : List ℕ) → one_header level bytes ≡ Missing Cut
    → (more : List ℕ) × (0 < length more)
    × (proof_header_text level ≡ bytes ++ more)
header_cut level bytes is = fixed_cut (proof_header_text level) bytes
    (found_as_missing (λ x. level) (fixed_front (proof_header_text level) bytes) Cut is)

header_misspelt : (level : Level) (bytes more : List ℕ) → one_header level bytes ≡ Missing Misspelt
    → one_header level (bytes ++ more) ≡ Missing Misspelt
header_misspelt level bytes more is =
    ap (found_as (λ x. level))
    ((fixed_spelled (proof_header_text level)).misspelt bytes more
    (found_as_missing (λ x. level) (fixed_front (proof_header_text level) bytes) Misspelt is))

-- a header is found exactly where it stands
pub headers_spelled : Spells header_front proof_header_text (λ level. Unit {0}) IsAnything
headers_spelled =
    record {
      written = λ level rest spelled behind. written level rest;
      read = λ level bytes rest is. (tt, tt, read level bytes rest is);
      behind = λ rest more h. tt;
      cut = λ bytes is. cut bytes is;
      misspelt = λ bytes more is. misspelt bytes more is;
    }
  where
    written : (level : Level) (rest : List ℕ) → header_front (proof_header_text level ++ rest) ≡ Found level rest
    written Tp1 rest = refl
    written Tp2 rest = refl

    read : (level : Level) (bytes rest : List ℕ) → header_front bytes ≡ Found level rest
        → bytes ≡ proof_header_text level ++ rest
    read level bytes rest is =
        ⊎_elim
        (λ (h : one_header Tp1 bytes ≡ Found level rest). header_read Tp1 level bytes rest h)
        (λ (h : (one_header Tp1 bytes ≡ Missing Misspelt) × (one_header Tp2 bytes ≡ Found level rest)).
        header_read Tp2 level bytes rest h.1) (either_found (one_header Tp1 bytes) (one_header Tp2 bytes) level rest is)

    cut : (bytes : List ℕ) → header_front bytes ≡ Missing Cut
        → (level : Level) × (more : List ℕ) × Unit {0} × (proof_header_text level ≡ bytes ++ more)
    cut bytes is =
        ⊎_elim
        (λ (h : one_header Tp1 bytes ≡ Missing Cut). let c = header_cut Tp1 bytes h in (Tp1, c.0, tt, c.2))
        (λ (h : (one_header Tp1 bytes ≡ Missing Misspelt) × (one_header Tp2 bytes ≡ Missing Cut)).
        let c = header_cut Tp2 bytes h.1 in (Tp2, c.0, tt, c.2))
        (either_cut (one_header Tp1 bytes) (one_header Tp2 bytes) is)

    misspelt : (bytes more : List ℕ) → header_front bytes ≡ Missing Misspelt
        → header_front (bytes ++ more) ≡ Missing Misspelt
    misspelt bytes more is =
        let both = either_misspelt (one_header Tp1 bytes) (one_header Tp2 bytes) is in
        ap (λ (x : Parsed Level). either_front x (one_header Tp2 (bytes ++ more)))
        (header_misspelt Tp1 bytes more both.0)
        ∙ header_misspelt Tp2 bytes more both.1

-- what stands behind a text at a place of some bytes
pub fixed_behind :
    (all : List ℕ) (at : ℕ) (text rest : List ℕ) → 0 < length text → at ≤ length all
    → fixed_front text (drop at all) ≡ Found tt rest
    → (length rest ≤ length all) × (at < length all - length rest) × (length all - length rest ≤ length all)
    × (drop (length all - length rest) all ≡ rest)
fixed_behind all at text rest some within is =
    found_behind all at text rest within (fixed_read text (drop at all) rest tt is) some

-- what stands behind the header of some bytes
pub header_behind :
    (level : Level) (all rest : List ℕ) → header_front all ≡ Found level rest
    → (length rest ≤ length all) × (0 < length all - length rest) × (length all - length rest ≤ length all)
    × (drop (length all - length rest) all ≡ rest)
header_behind level all rest is =
    found_behind all 0 (proof_header_text level) rest (omega arith) (from_first all
    ∙ (headers_spelled.read level all rest is).2) (some level)
  where
    from_first : (bytes : List ℕ) → drop 0 bytes ≡ bytes
    from_first [] = refl
    from_first (b ∷ bytes) = refl

    some : (l : Level) → 0 < length (proof_header_text l)
    some Tp1 = lit≤ tt
    some Tp2 = lit≤ tt
