-- What it takes that a front is found exactly where some spelling stands, and how it is composed.
use Rattle.std.proofs.Common.{◌≡◌, ◌⊎◌, inl, inr, ℕ, List, ◌++◌, refl, sym, ap, ◌∙◌, subst, append_assoc}
use Rattle.proof_text.specs.declared.unread.Unread.{Unread}
use Rattle.proof_text.specs.declared.unread.Unread.TheVariants.{Misspelt, Cut}
use Rattle.proof_text.specs.Fronts.{Parsed, Found, Missing, and_then, found_as}

-- the value is found exactly where its spelling stands and something that may stand behind it; where the bytes are cut
-- they begin a spelling, and where they are misspelt so is what goes on with them
pub record Spells {A : Type 0} (front : List ℕ → Parsed A) (text : A → List ℕ) (Spelled : A → Type 0)
    (Behind : List ℕ → Type 0) : Type 0 where
  pub written : (a : A) (rest : List ℕ) → Spelled a → Behind rest → front (text a ++ rest) ≡ Found a rest
  pub read : (a : A) (bytes rest : List ℕ) → front bytes ≡ Found a rest
      → Spelled a × Behind rest × (bytes ≡ text a ++ rest)
  pub behind : (rest more : List ℕ) → Behind rest → Behind (rest ++ more)
  pub cut : (bytes : List ℕ) → front bytes ≡ Missing Cut
      → (a : A) × (more : List ℕ) × Spelled a × (text a ≡ bytes ++ more)
  pub misspelt : (bytes more : List ℕ) → front bytes ≡ Missing Misspelt → front (bytes ++ more) ≡ Missing Misspelt

-- what is found is found also where more follows
pub found_stays :
    {A : Type 0} {front : List ℕ → Parsed A} {text : A → List ℕ} {Spelled : A → Type 0} {Behind : List ℕ → Type 0}
    → Spells front text Spelled Behind → (a : A) (bytes rest more : List ℕ)
    → front bytes ≡ Found a rest → front (bytes ++ more) ≡ Found a (rest ++ more)
found_stays {A} {front} {text} {Spelled} {Behind} s a bytes rest more is =
    let r = s.read a bytes rest is in
    ap front (ap (λ (l : List ℕ). l ++ more) r.2 ∙ append_assoc (text a) rest more)
    ∙ s.written a (rest ++ more) r.0 (s.behind rest more r.1)

-- fronts that are equal spell the same
pub same_spelled :
    {A : Type 0} {front other : List ℕ → Parsed A} {text : A → List ℕ} {Spelled : A → Type 0} {Behind : List ℕ → Type 0}
    → ((bytes : List ℕ) → front bytes ≡ other bytes) → Spells front text Spelled Behind
    → Spells other text Spelled Behind
same_spelled {A} {front} {other} {text} {Spelled} {Behind} same s =
    record {
      written = λ a rest spelled behind. sym (same (text a ++ rest)) ∙ s.written a rest spelled behind;
      read = λ a bytes rest is. s.read a bytes rest (same bytes ∙ is);
      behind = s.behind;
      cut = λ bytes is. s.cut bytes (same bytes ∙ is);
      misspelt = λ bytes more is. sym (same (bytes ++ more)) ∙ s.misspelt bytes more (same bytes ∙ is);
    }

abbrev pub pair_with : {A B : Type 0} → A → B → A × B
pair_with a b = (a, b)

-- the second of a pair, behind the first
abbrev pub paired_next : {A B : Type 0} → (List ℕ → Parsed B) → A → List ℕ → Parsed (A × B)
paired_next second a rest = found_as (pair_with a) (second rest)

-- a pair: one behind the other
abbrev pub pair_front : {A B : Type 0} → (List ℕ → Parsed A) → (List ℕ → Parsed B) → List ℕ → Parsed (A × B)
pair_front first second bytes = and_then (first bytes) (paired_next second)

pub same_found : {A : Type 0} (a b : A) (r s : List ℕ) → Found a r ≡ Found b s → (a ≡ b) × (r ≡ s)
same_found {A} a b r s is = (cc, cc)

pub same_reason : {A : Type 0} (x : Parsed A) (why other : Unread) → x ≡ Missing why → x ≡ Missing other → why ≡ other
same_reason {A} x why other is are = cc

pub cut_is_not_misspelt : {A : Type 0} (x : Parsed A) → x ≡ Missing Cut → x ≡ Missing Misspelt → ⊥
cut_is_not_misspelt {A} x is are = cc

pub found_is_not_missing : {A : Type 0} (a : A) (r : List ℕ) (why : Unread) → Found a r ≡ Missing why → ⊥
found_is_not_missing {A} a r why is = cc

-- what was found as another value
pub found_as_found :
    {A B : Type 0} (h : A → B) (x : Parsed A) (b : B) (rest : List ℕ) → found_as h x ≡ Found b rest
    → (a : A) × (x ≡ Found a rest) × (h a ≡ b)
found_as_found {A} {B} h (Found a r) b rest is =
    let e = same_found (h a) b r rest is in (a, ap (λ (l : List ℕ). Found a l) e.1, e.0)
found_as_found {A} {B} h (Missing why) b rest is = absurd (found_is_not_missing b rest why (sym is))

pub found_as_missing :
    {A B : Type 0} (h : A → B) (x : Parsed A) (why : Unread) → found_as h x ≡ Missing why → x ≡ Missing why
found_as_missing {A} {B} h (Found a r) why is = absurd (found_is_not_missing (h a) r why is)
found_as_missing {A} {B} h (Missing other) why is =
    (let x : Parsed B = Missing other in ap Missing (same_reason x other why refl is))

-- what was found next
pub and_then_found :
    {A B : Type 0} (x : Parsed A) (next : A → List ℕ → Parsed B) (b : B) (rest : List ℕ)
    → and_then x next ≡ Found b rest
    → (a : A) × (between : List ℕ) × (x ≡ Found a between) × (next a between ≡ Found b rest)
and_then_found {A} {B} (Found a r) next b rest is = (a, r, refl, is)
and_then_found {A} {B} (Missing why) next b rest is = absurd (found_is_not_missing b rest why (sym is))

-- nothing is found at the first, or then at the next
pub and_then_missing :
    {A B : Type 0} (x : Parsed A) (next : A → List ℕ → Parsed B) (why : Unread) → and_then x next ≡ Missing why
    → (x ≡ Missing why) ⊎ ((a : A) × (between : List ℕ) × (x ≡ Found a between) × (next a between ≡ Missing why))
and_then_missing {A} {B} (Found a r) next why is = inr (a, r, refl, is)
and_then_missing {A} {B} (Missing other) next why is =
    inl ((let x : Parsed B = Missing other in ap Missing (same_reason x other why refl is)))

-- one behind the other
pub pairs_spelled :
    {A B : Type 0} {f : List ℕ → Parsed A} {g : List ℕ → Parsed B} {t : A → List ℕ} {u : B → List ℕ}
    {S : A → Type 0} {R : B → Type 0} {N M : List ℕ → Type 0}
    → Spells f t S N → Spells g u R M → ((b : B) (rest : List ℕ) → R b → M rest → N (u b ++ rest)) → (b : B) → R b
    → Spells (pair_front f g) (λ p. t p.0 ++ u p.1) (λ p. S p.0 × R p.1) M
pairs_spelled {A} {B} {f} {g} {t} {u} {S} {R} {N} {M} first second between some spelled =
    record {
      written = λ p rest both behind.
          ap (pair_front f g) (append_assoc (t p.0) (u p.1) rest)
          ∙ ap (λ (x : Parsed A). and_then x (paired_next g))
          (first.written p.0 (u p.1 ++ rest) both.0 (between p.1 rest both.1 behind))
          ∙ ap (found_as (pair_with p.0)) (second.written p.1 rest both.1 behind);
      read = λ p bytes rest is. read_both p bytes rest is;
      behind = second.behind;
      cut = λ bytes is. cut_both bytes (and_then_missing (f bytes) (paired_next g) Cut is);
      misspelt = λ bytes more is.
          misspelt_both bytes more (and_then_missing (f bytes) (paired_next g) Misspelt is);
    }
  where
    read_both :
        (p : A × B) (bytes rest : List ℕ) → pair_front f g bytes ≡ Found p rest
        → (S p.0 × R p.1) × M rest × (bytes ≡ (t p.0 ++ u p.1) ++ rest)
    read_both p bytes rest is =
        let one = and_then_found (f bytes) (paired_next g) p rest is in
        let two = found_as_found (pair_with one.0) (g one.1) p rest one.3 in
        let front = first.read one.0 bytes one.1 one.2 in
        let next = second.read two.0 one.1 rest two.1 in
        subst (λ (q : A × B). (S q.0 × R q.1) × M rest × (bytes ≡ (t q.0 ++ u q.1) ++ rest)) two.2 (
          (front.0, next.0),
          next.1,
          front.2 ∙ ap (λ (l : List ℕ). t one.0 ++ l) next.2 ∙ sym (append_assoc (t one.0) (u two.0) rest),
        )

    -- bytes end within the first, or within what comes behind it
    cut_both :
        (bytes : List ℕ)
        → (f bytes ≡ Missing Cut) ⊎ ((a : A) × (r : List ℕ) × (f bytes ≡ Found a r) × (paired_next g a r ≡ Missing Cut))
        → (p : A × B) × (more : List ℕ) × (S p.0 × R p.1) × (t p.0 ++ u p.1 ≡ bytes ++ more)
    cut_both bytes (inl is) =
        let c = first.cut bytes is in (
          (c.0, some),
          c.1 ++ u some,
          (c.2, spelled),
          ap (λ (l : List ℕ). l ++ u some) c.3 ∙ append_assoc bytes c.1 (u some),
        )
    cut_both bytes (inr h) =
        let front = first.read h.0 bytes h.1 h.2 in
        let c = second.cut h.1 (found_as_missing (pair_with h.0) (g h.1) Cut h.3) in (
          (h.0, c.0),
          c.1,
          (front.0, c.2),
          ap (λ (l : List ℕ). t h.0 ++ l) c.3 ∙ sym (append_assoc (t h.0) h.1 c.1)
              ∙ ap (λ (l : List ℕ). l ++ c.1) (sym front.2),
        )

    misspelt_both :
        (bytes more : List ℕ)
        → (f bytes ≡ Missing Misspelt)
        ⊎ ((a : A) × (r : List ℕ) × (f bytes ≡ Found a r) × (paired_next g a r ≡ Missing Misspelt))
        → pair_front f g (bytes ++ more) ≡ Missing Misspelt
    misspelt_both bytes more (inl is) =
        ap (λ (x : Parsed A). and_then x (paired_next g)) (first.misspelt bytes more is)
    misspelt_both bytes more (inr h) =
        ap (λ (x : Parsed A). and_then x (paired_next g)) (found_stays first h.0 bytes h.1 more h.2)
        ∙ ap (found_as (pair_with h.0))
        (second.misspelt h.1 more (found_as_missing (pair_with h.0) (g h.1) Misspelt h.3))

-- the same values under other names
pub renamed_spelled :
    {A B : Type 0} {f : List ℕ → Parsed A} {t : A → List ℕ} {S : A → Type 0} {N : List ℕ → Type 0}
    (to : A → B) (back : B → A)
    → ((a : A) → back (to a) ≡ a) → ((b : B) → to (back b) ≡ b) → Spells f t S N
    → Spells (λ bytes. found_as to (f bytes)) (λ b. t (back b)) (λ b. S (back b)) N
renamed_spelled {A} {B} {f} {t} {S} {N} to back forth around s =
    record {
      written = λ b rest spelled behind.
          ap (found_as to) (s.written (back b) rest spelled behind) ∙ ap (λ (x : B). Found x rest) (around b);
      read = λ b bytes rest is. read_renamed b bytes rest is;
      behind = s.behind;
      cut = λ bytes is.
          let c = s.cut bytes (found_as_missing to (f bytes) Cut is) in (
            to c.0,
            c.1,
            subst S (sym (forth c.0)) c.2,
            ap t (forth c.0) ∙ c.3,
          );
      misspelt = λ bytes more is. ap (found_as to) (s.misspelt bytes more (found_as_missing to (f bytes) Misspelt is));
    }
  where
    read_renamed :
        (b : B) (bytes rest : List ℕ) → found_as to (f bytes) ≡ Found b rest
        → S (back b) × N rest × (bytes ≡ t (back b) ++ rest)
    read_renamed b bytes rest is =
        let found = found_as_found to (f bytes) b rest is in
        let r = s.read found.0 bytes rest found.1 in
        let same : found.0 ≡ back b = sym (forth found.0) ∙ ap back found.2 in
        subst (λ (a : A). S a × N rest × (bytes ≡ t a ++ rest)) same r

-- fixed bytes
abbrev pub IsAnything : List ℕ → Type 0
IsAnything = λ rest. Unit {0}
