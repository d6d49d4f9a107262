-- Tokens are found exactly where they stand.
use Rattle.std.proofs.Common.{◌≡◌, ◌≢◌, ⊎_elim, ℕ, ◌-◌, ◌<◌, ◌≤◌, true, false, List, [], ◌∷◌, ◌++◌, length, drop, refl}
use Rattle.std.proofs.Common.{sym, ap, ◌∙◌, arith, subst, append_assoc}
use Rattle.std.specs.List.{AllByRecursion}
use Rattle.std.specs.Prelude.{nat_eq, ℤ, pos}
use Rattle.std.specs.Fmt.{decimal}
use Rattle.diff_graph.specs.declared.lit.Lit.{Lit}
use Rattle.cert_text.specs.Numbers.{IsSpellableCycle, more_numbers_text, numbers_text}
use Rattle.proof_trees.specs.declared.token.ProofTok.{ProofTok}
use Rattle.proof_trees.specs.declared.token.ProofTok.TheVariants as token
use Rattle.proof_text.specs.declared.unread.Unread.TheVariants.{Misspelt, Cut}
use Rattle.proof_text.specs.Fronts.{Parsed, Found, Missing, and_then, found_as}
use Rattle.proof_text.specs.Numbers.{number_before, number_front, offset_front}
use Rattle.proof_text.specs.Spelling.{IsShortLiteral, IsShortOffset, IsSpellableInProof, literal_text, literals_text}
use Rattle.proof_text.specs.Spelling.{more_literals_text, offset_text, proof_token_text}
use Rattle.proof_text.specs.Tokens.{literal_front, literals_front, numbers_front, some_literals_front, token_from}
use Rattle.proof_text.specs.Tokens.{token_front}
use Rattle.proof_text.proofs.Spells.{Spells, IsAnything, cut_is_not_misspelt, found_as_found, found_as_missing}
use Rattle.proof_text.proofs.Spells.{found_is_not_missing, pair_front, pair_with, pairs_spelled, renamed_spelled}
use Rattle.proof_text.proofs.Spells.{same_found, same_spelled}
use Rattle.proof_text.proofs.NumberLemmas.{NoDigitNext, numbers_spelled}
use Rattle.proof_text.proofs.FixedLemmas.{number_before_spelled, same_byte_or_not}
use Rattle.proof_text.proofs.OffsetLemmas.{offsets_spelled}
use Rattle.proof_text.proofs.Places.{found_behind}
use Rattle.proof_text.proofs.ItemLemmas.{AreItems, closed_text, items_spelled, items_step, items_text}

-- the same spellings, told in other words
respelled :
    {A : Type 0} {f : List ℕ → Parsed A} {t u : A → List ℕ} {S R : A → Type 0} {N : List ℕ → Type 0}
    → ((a : A) → t a ≡ u a) → ((a : A) → S a → R a) → ((a : A) → R a → S a) → Spells f t S N → Spells f u R N
respelled {A} {f} {t} {u} {S} {R} {N} same to back s =
    record {
      written = λ a rest spelled behind. ap f (ap (λ (l : List ℕ). l ++ rest) (sym (same a)))
          ∙ s.written a rest (back a spelled) behind;
      read = λ a bytes rest is. let r = s.read a bytes rest is in
          (to a r.0, r.1, r.2 ∙ ap (λ (l : List ℕ). l ++ rest) (same a));
      behind = s.behind;
      cut = λ bytes is. let c = s.cut bytes is in (c.0, c.1, to c.0 c.2, sym (same c.0) ∙ c.3);
      misspelt = s.misspelt;
    }

-- the numbers of a cycle
closed_numbers : (ns : List ℕ) → closed_text decimal 44 59 ns ≡ more_numbers_text ns ++ 59 ∷ []
closed_numbers [] = refl
closed_numbers (n ∷ ns) =
    ap (λ (l : List ℕ). 44 ∷ (decimal n ++ l)) (closed_numbers ns)
    ∙ ap (λ (l : List ℕ). 44 ∷ l) (sym (append_assoc (decimal n) (more_numbers_text ns) (59 ∷ [])))

cycle_text : (ns : List ℕ) → items_text decimal 44 59 ns ≡ numbers_text ns ++ 59 ∷ []
cycle_text [] = refl
cycle_text (n ∷ ns) =
    ap (λ (l : List ℕ). decimal n ++ l) (closed_numbers ns)
    ∙ sym (append_assoc (decimal n) (more_numbers_text ns) (59 ∷ []))

cycles_spelled : Spells (numbers_front 12) (λ picks. numbers_text picks ++ 59 ∷ []) IsSpellableCycle IsAnything
cycles_spelled =
    respelled {R = IsSpellableCycle} cycle_text (λ a h. h) (λ a h. h)
    (items_spelled {item = number_front 10000} {text = decimal} {S = λ n. n < 100000} 44 59
    (numbers_spelled 10000 (omega arith) (omega arith)) (λ rest. refl) (λ rest. refl) refl 12)

-- a literal
names_spelled : Spells (number_before 44 10) (λ n. decimal n ++ 44 ∷ []) (λ n. n < 100) IsAnything
names_spelled = number_before_spelled 44 10 refl (omega arith) (omega arith)

abbrev literal_of : ℕ × (ℕ × ℤ) → Lit
literal_of p = record { x = p.0; y = p.1.0; k = p.1.1 }

abbrev parts_of : Lit → ℕ × (ℕ × ℤ)
parts_of l = (l.x, (l.y, l.k))

-- a literal is found as its parts are, one behind the other
literal_by_parts : (bytes : List ℕ)
    → found_as literal_of (pair_front (number_before 44 10) (pair_front (number_before 44 10) offset_front) bytes)
    ≡ literal_front bytes
literal_by_parts bytes = names (number_before 44 10 bytes)
  where
    offsets : (x y : ℕ) (o : Parsed ℤ) → found_as literal_of (found_as (pair_with x) (found_as (pair_with y) o))
        ≡ found_as (λ k. record { x = x; y = y; k = k }) o
    offsets x y (Found k rest) = refl
    offsets x y (Missing why) = refl

    second : (x : ℕ) (n : Parsed ℕ) → found_as literal_of
        (found_as (pair_with x) (and_then n (λ y rest. found_as (pair_with y) (offset_front rest))))
        ≡ and_then n (λ y more. found_as (λ k. record { x = x; y = y; k = k }) (offset_front more))
    second x (Found y rest) = offsets x y (offset_front rest)
    second x (Missing why) = refl

    names :
        (n : Parsed ℕ)
        → found_as literal_of
        (and_then n (λ x rest. found_as (pair_with x) (pair_front (number_before 44 10) offset_front rest)))
        ≡ and_then n (λ x rest. and_then (number_before 44 10 rest)
        (λ y more. found_as (λ k. record { x = x; y = y; k = k }) (offset_front more)))
    names (Found x rest) = second x (number_before 44 10 rest)
    names (Missing why) = refl

-- a literal is found exactly where its two names and its offset stand, and no digit follows
literals_are_spelled : Spells literal_front literal_text IsShortLiteral NoDigitNext
literals_are_spelled =
    let parts : Spells (pair_front (number_before 44 10) (pair_front (number_before 44 10) offset_front))
    (λ p. (decimal p.0 ++ 44 ∷ []) ++ ((decimal p.1.0 ++ 44 ∷ []) ++ offset_text p.1.1))
    (λ p. (p.0 < 100) × ((p.1.0 < 100) × IsShortOffset p.1.1)) NoDigitNext =
    pairs_spelled names_spelled
    (pairs_spelled names_spelled offsets_spelled (λ k rest short behind. tt) (pos 0) (omega arith))
    (λ p rest short behind. tt) (0, pos 0) (omega arith, omega arith) in
    same_spelled {front = λ bytes. found_as literal_of
    (pair_front (number_before 44 10) (pair_front (number_before 44 10) offset_front) bytes)} literal_by_parts
    (respelled {R = IsShortLiteral} text (λ l h. (h.0, h.1.0, h.1.1)) (λ l h. (h.0, (h.1, h.2)))
    (renamed_spelled literal_of parts_of (λ p. refl) (λ l. refl) parts))
  where
    text : (l : Lit) → (decimal l.x ++ 44 ∷ []) ++ ((decimal l.y ++ 44 ∷ []) ++ offset_text l.k) ≡ literal_text l
    text l = refl

-- the literals of a lemma
closed_literals : (ls : List Lit) → closed_text literal_text 47 59 ls ≡ more_literals_text ls ++ 59 ∷ []
closed_literals [] = refl
closed_literals (l ∷ ls) =
    ap (λ (r : List ℕ). 47 ∷ (literal_text l ++ r)) (closed_literals ls)
    ∙ ap (λ (r : List ℕ). 47 ∷ r) (sym (append_assoc (literal_text l) (more_literals_text ls) (59 ∷ [])))

lemma_text : (ls : List Lit) → items_text literal_text 47 59 ls ≡ literals_text ls ++ 59 ∷ []
lemma_text [] = refl
lemma_text (l ∷ ls) =
    ap (λ (r : List ℕ). literal_text l ++ r) (closed_literals ls)
    ∙ sym (append_assoc (literal_text l) (more_literals_text ls) (59 ∷ []))

some_spelled : Spells (some_literals_front 24) (λ ls. literals_text ls ++ 59 ∷ [])
    (AreItems IsShortLiteral 24) IsAnything
some_spelled =
    respelled {R = AreItems IsShortLiteral 24} lemma_text (λ a h. h) (λ a h. h)
    (items_spelled {item = literal_front} {text = literal_text} {S = IsShortLiteral} 47 59
    literals_are_spelled (λ rest. refl) (λ rest. refl) refl 24)

literals_step : (b : ℕ) (bytes : List ℕ) → nat_eq b 59 ≡ false
    → literals_front (b ∷ bytes) ≡ some_literals_front 24 (b ∷ bytes)
literals_step b bytes other = rw other refl

literals_end : (b : ℕ) (bytes : List ℕ) → nat_eq b 59 ≡ true → literals_front (b ∷ bytes) ≡ Found [] bytes
literals_end b bytes is = rw is refl

no_literal_ends : (bytes : List ℕ) → some_literals_front 24 (59 ∷ bytes) ≡ Missing Misspelt
no_literal_ends bytes = items_step literal_front 47 59 23 (59 ∷ bytes)

no_literal_left : some_literals_front 24 [] ≡ Missing Cut
no_literal_left = items_step literal_front 47 59 23 []

some_found : (bytes rest : List ℕ) (ls : List Lit) → some_literals_front 24 bytes ≡ Found ls rest
    → literals_front bytes ≡ Found ls rest
some_found [] rest ls is = absurd (found_is_not_missing ls rest Cut (sym is ∙ no_literal_left))
some_found (b ∷ bytes) rest ls is =
    ⊎_elim
    (λ (h : (nat_eq b 59 ≡ true) × (b ≡ 59)).
    absurd (found_is_not_missing ls rest Misspelt
    (sym is ∙ ap (λ (k : ℕ). some_literals_front 24 (k ∷ bytes)) h.1 ∙ no_literal_ends bytes)))
    (λ (h : (nat_eq b 59 ≡ false) × (b ≢ 59)). literals_step b bytes h.0 ∙ is)
    (same_byte_or_not b 59)

-- few literals, each of them short
abbrev AreFewLiterals : List Lit → Type 0
AreFewLiterals ls = (length ls ≤ 24) × AllByRecursion IsShortLiteral ls

-- a lemma's literals are found exactly where they stand, with the byte that ends them
lemmas_spelled : Spells literals_front (λ ls. literals_text ls ++ 59 ∷ []) AreFewLiterals IsAnything
lemmas_spelled =
    record {
      written = λ ls rest few behind. written ls rest few;
      read = λ ls bytes rest is. let r = read ls bytes rest is in (r.0, tt, r.1);
      behind = λ rest more h. tt;
      cut = λ bytes is. cut bytes is;
      misspelt = λ bytes more is. misspelt bytes more is;
    }
  where
    written : (ls : List Lit) (rest : List ℕ) → AreFewLiterals ls
        → literals_front ((literals_text ls ++ 59 ∷ []) ++ rest) ≡ Found ls rest
    written [] rest few = refl
    written (l ∷ ls) rest few =
        some_found ((literals_text (l ∷ ls) ++ 59 ∷ []) ++ rest) rest (l ∷ ls)
        (some_spelled.written (l ∷ ls) rest (omega arith, few.0, few.1) tt)

    -- literals that are found stand there
    read : (ls : List Lit) (bytes rest : List ℕ) → literals_front bytes ≡ Found ls rest
        → AreFewLiterals ls × (bytes ≡ (literals_text ls ++ 59 ∷ []) ++ rest)
    read ls [] rest is = absurd (found_is_not_missing ls rest Cut (sym is))
    read ls (b ∷ bytes) rest is =
        ⊎_elim
        (λ (h : (nat_eq b 59 ≡ true) × (b ≡ 59)).
        let same = same_found [] ls bytes rest (sym (literals_end b bytes h.0) ∙ is) in
        subst (λ (l : List Lit). AreFewLiterals l × (b ∷ bytes ≡ (literals_text l ++ 59 ∷ []) ++ rest)) same.0
        ((omega arith, tt), ap (λ (k : ℕ). k ∷ bytes) h.1 ∙ ap (λ (l : List ℕ). 59 ∷ l) same.1))
        (λ (h : (nat_eq b 59 ≡ false) × (b ≢ 59)).
        let r = some_spelled.read ls (b ∷ bytes) rest (sym (literals_step b bytes h.0) ∙ is) in
        ((r.0.1, r.0.2), r.2))
        (same_byte_or_not b 59)

    cut : (bytes : List ℕ) → literals_front bytes ≡ Missing Cut → (ls : List Lit) × (more : List ℕ) × AreFewLiterals ls
        × (literals_text ls ++ 59 ∷ [] ≡ bytes ++ more)
    cut [] is = ([], 59 ∷ [], (omega arith, tt), refl)
    cut (b ∷ bytes) is =
        ⊎_elim
        (λ (h : (nat_eq b 59 ≡ true) × (b ≡ 59)).
        absurd (found_is_not_missing [] bytes Cut (sym (literals_end b bytes h.0) ∙ is)))
        (λ (h : (nat_eq b 59 ≡ false) × (b ≢ 59)).
        let c = some_spelled.cut (b ∷ bytes) (sym (literals_step b bytes h.0) ∙ is) in
        (c.0, c.1, (c.2.1, c.2.2), c.3))
        (same_byte_or_not b 59)

    misspelt : (bytes more : List ℕ) → literals_front bytes ≡ Missing Misspelt
        → literals_front (bytes ++ more) ≡ Missing Misspelt
    misspelt [] more is = absurd (cut_is_not_misspelt (literals_front []) refl is)
    misspelt (b ∷ bytes) more is =
        ⊎_elim
        (λ (h : (nat_eq b 59 ≡ true) × (b ≡ 59)).
        absurd (found_is_not_missing [] bytes Misspelt (sym (literals_end b bytes h.0) ∙ is)))
        (λ (h : (nat_eq b 59 ≡ false) × (b ≢ 59)).
        literals_step b (bytes ++ more) h.0
        ∙ some_spelled.misspelt (b ∷ bytes) more (sym (literals_step b bytes h.0) ∙ is))
        (same_byte_or_not b 59)

-- a citation
cites_spelled : Spells (number_before 59 100000) (λ n. decimal n ++ 59 ∷ []) (λ n. n < 1000000) IsAnything
cites_spelled = number_before_spelled 59 100000 refl (omega arith) (omega arith)

-- the first byte of a token, or none
data First (b : ℕ) : Type 0 where
  IsAsk : b ≡ 63 → First b
  IsHolds : b ≡ 46 → First b
  IsCycle : b ≡ 120 → First b
  IsLemma : b ≡ 108 → First b
  IsCite : b ≡ 99 → First b
  IsNone : ((bytes : List ℕ) → token_from b bytes ≡ Missing Misspelt) → First b

-- which token a byte begins, if any
first_of : (b : ℕ) → First b
first_of b =
    ⊎_elim (λ (h : (nat_eq b 63 ≡ true) × (b ≡ 63)). IsAsk h.1)
    (λ (ask : (nat_eq b 63 ≡ false) × (b ≢ 63)).
    ⊎_elim (λ (h : (nat_eq b 46 ≡ true) × (b ≡ 46)). IsHolds h.1)
    (λ (holds : (nat_eq b 46 ≡ false) × (b ≢ 46)).
    ⊎_elim (λ (h : (nat_eq b 120 ≡ true) × (b ≡ 120)). IsCycle h.1)
    (λ (cycle : (nat_eq b 120 ≡ false) × (b ≢ 120)).
    ⊎_elim (λ (h : (nat_eq b 108 ≡ true) × (b ≡ 108)). IsLemma h.1)
    (λ (lemma : (nat_eq b 108 ≡ false) × (b ≢ 108)).
    ⊎_elim (λ (h : (nat_eq b 99 ≡ true) × (b ≡ 99)). IsCite h.1)
    (λ (cite : (nat_eq b 99 ≡ false) × (b ≢ 99)). IsNone (λ bytes. none b bytes ask.0 holds.0 cycle.0 lemma.0 cite.0))
    (same_byte_or_not b 99))
    (same_byte_or_not b 108))
    (same_byte_or_not b 120))
    (same_byte_or_not b 46))
    (same_byte_or_not b 63)
  where
    none :
        (b : ℕ) (bytes : List ℕ) → nat_eq b 63 ≡ false → nat_eq b 46 ≡ false
        → nat_eq b 120 ≡ false → nat_eq b 108 ≡ false
        → nat_eq b 99 ≡ false → token_from b bytes ≡ Missing Misspelt
    none b bytes ask holds cycle lemma cite = rw (ask, holds, cycle, lemma, cite) refl

-- what is found behind the first byte of a token
read_ask :
    (t : ProofTok) (bytes rest : List ℕ) → Found token.Ask bytes ≡ Found t rest
    → IsSpellableInProof t × Unit {0} × (63 ∷ bytes ≡ proof_token_text t ++ rest)
read_ask t bytes rest is =
    let same = same_found token.Ask t bytes rest is in
    subst (λ (u : ProofTok). IsSpellableInProof u × Unit {0} × (63 ∷ bytes ≡ proof_token_text u ++ rest)) same.0
    (tt, tt, ap (λ (l : List ℕ). 63 ∷ l) same.1)

read_holds : (t : ProofTok) (bytes rest : List ℕ) → Found token.Holds bytes ≡ Found t rest
    → IsSpellableInProof t × Unit {0} × (46 ∷ bytes ≡ proof_token_text t ++ rest)
read_holds t bytes rest is =
    let same = same_found token.Holds t bytes rest is in
    subst (λ (u : ProofTok). IsSpellableInProof u × Unit {0} × (46 ∷ bytes ≡ proof_token_text u ++ rest)) same.0
    (tt, tt, ap (λ (l : List ℕ). 46 ∷ l) same.1)

read_cycle : (t : ProofTok) (bytes rest : List ℕ) → found_as token.Cycle (numbers_front 12 bytes) ≡ Found t rest
    → IsSpellableInProof t × Unit {0}
    × (120 ∷ bytes ≡ proof_token_text t ++ rest)
read_cycle t bytes rest is =
    let found = found_as_found token.Cycle (numbers_front 12 bytes) t rest is in
    let r = cycles_spelled.read found.0 bytes rest found.1 in
    subst (λ (u : ProofTok). IsSpellableInProof u × Unit {0} × (120 ∷ bytes ≡ proof_token_text u ++ rest)) found.2
    (r.0, tt, ap (λ (l : List ℕ). 120 ∷ l) r.2)

read_lemma : (t : ProofTok) (bytes rest : List ℕ) → found_as token.Lemma (literals_front bytes) ≡ Found t rest
    → IsSpellableInProof t × Unit {0}
    × (108 ∷ bytes ≡ proof_token_text t ++ rest)
read_lemma t bytes rest is =
    let found = found_as_found token.Lemma (literals_front bytes) t rest is in
    let r = lemmas_spelled.read found.0 bytes rest found.1 in
    subst (λ (u : ProofTok). IsSpellableInProof u × Unit {0} × (108 ∷ bytes ≡ proof_token_text u ++ rest)) found.2
    (r.0, tt, ap (λ (l : List ℕ). 108 ∷ l) r.2)

read_cite : (t : ProofTok) (bytes rest : List ℕ) → found_as token.Cite (number_before 59 100000 bytes) ≡ Found t rest
    → IsSpellableInProof t × Unit {0}
    × (99 ∷ bytes ≡ proof_token_text t ++ rest)
read_cite t bytes rest is =
    let found = found_as_found token.Cite (number_before 59 100000 bytes) t rest is in
    let r = cites_spelled.read found.0 bytes rest found.1 in
    subst (λ (u : ProofTok). IsSpellableInProof u × Unit {0} × (99 ∷ bytes ≡ proof_token_text u ++ rest)) found.2
    (r.0, tt, ap (λ (l : List ℕ). 99 ∷ l) r.2)

-- tokens
pub tokens_spelled : Spells token_front proof_token_text IsSpellableInProof IsAnything
tokens_spelled =
    record {
      written = λ t rest spelled behind. written t rest spelled;
      read = λ t bytes rest is. read t bytes rest is;
      behind = λ rest more h. tt;
      cut = λ bytes is. cut bytes is;
      misspelt = λ bytes more is. misspelt bytes more is;
    }
  where
    written : (t : ProofTok) (rest : List ℕ) → IsSpellableInProof t
        → token_front (proof_token_text t ++ rest) ≡ Found t rest
    written token.Ask rest spelled = refl
    written token.Holds rest spelled = refl
    written (token.Cycle picks) rest spelled = ap (found_as token.Cycle) (cycles_spelled.written picks rest spelled tt)
    written (token.Lemma ls) rest spelled = ap (found_as token.Lemma) (lemmas_spelled.written ls rest spelled tt)
    written (token.Cite n) rest spelled = ap (found_as token.Cite) (cites_spelled.written n rest spelled tt)

    -- a token that is found stands there
    read : (t : ProofTok) (bytes rest : List ℕ) → token_front bytes ≡ Found t rest
        → IsSpellableInProof t × Unit {0} × (bytes ≡ proof_token_text t ++ rest)
    read t [] rest is = absurd (found_is_not_missing t rest Cut (sym is))
    read t (b ∷ bytes) rest is =
        elim (first_of b) [
          | IsAsk e ↦ let h = read_ask t bytes rest (ap (λ (k : ℕ). token_from k bytes) (sym e) ∙ is) in
              (h.0, tt, ap (λ (k : ℕ). k ∷ bytes) e ∙ h.2)
          | IsHolds e ↦ let h = read_holds t bytes rest (ap (λ (k : ℕ). token_from k bytes) (sym e) ∙ is) in
              (h.0, tt, ap (λ (k : ℕ). k ∷ bytes) e ∙ h.2)
          | IsCycle e ↦ let h = read_cycle t bytes rest (ap (λ (k : ℕ). token_from k bytes) (sym e) ∙ is) in
              (h.0, tt, ap (λ (k : ℕ). k ∷ bytes) e ∙ h.2)
          | IsLemma e ↦ let h = read_lemma t bytes rest (ap (λ (k : ℕ). token_from k bytes) (sym e) ∙ is) in
              (h.0, tt, ap (λ (k : ℕ). k ∷ bytes) e ∙ h.2)
          | IsCite e ↦ let h = read_cite t bytes rest (ap (λ (k : ℕ). token_from k bytes) (sym e) ∙ is) in
              (h.0, tt, ap (λ (k : ℕ). k ∷ bytes) e ∙ h.2)
          | IsNone none ↦ absurd (found_is_not_missing t rest Misspelt (sym is ∙ none bytes))
        ]

    at_first : (b first : ℕ) (bytes more text : List ℕ) → b ≡ first → text ≡ bytes ++ more
        → first ∷ text ≡ b ∷ bytes ++ more
    at_first b first bytes more text e is = ap (λ (l : List ℕ). first ∷ l) is
        ∙ ap (λ (k : ℕ). k ∷ (bytes ++ more)) (sym e)

    -- bytes that end too early are a front of some token
    cut : (bytes : List ℕ) → token_front bytes ≡ Missing Cut
        → (t : ProofTok) × (more : List ℕ) × IsSpellableInProof t × (proof_token_text t ≡ bytes ++ more)
    cut [] is = (token.Ask, 63 ∷ [], tt, refl)
    cut (b ∷ bytes) is =
        elim (first_of b) [
          | IsAsk e ↦
              absurd (found_is_not_missing token.Ask bytes Cut (ap (λ (k : ℕ). token_from k bytes) (sym e) ∙ is))
          | IsHolds e ↦
              absurd (found_is_not_missing token.Holds bytes Cut (ap (λ (k : ℕ). token_from k bytes) (sym e) ∙ is))
          | IsCycle e ↦
              let c = cycles_spelled.cut bytes (found_as_missing token.Cycle (numbers_front 12 bytes) Cut
              (ap (λ (k : ℕ). token_from k bytes) (sym e) ∙ is)) in
              (token.Cycle c.0, c.1, c.2, at_first b 120 bytes c.1 (numbers_text c.0 ++ 59 ∷ []) e c.3)
          | IsLemma e ↦
              let c = lemmas_spelled.cut bytes (found_as_missing token.Lemma (literals_front bytes) Cut
              (ap (λ (k : ℕ). token_from k bytes) (sym e) ∙ is)) in
              (token.Lemma c.0, c.1, c.2, at_first b 108 bytes c.1 (literals_text c.0 ++ 59 ∷ []) e c.3)
          | IsCite e ↦
              let c = cites_spelled.cut bytes (found_as_missing token.Cite (number_before 59 100000 bytes) Cut
              (ap (λ (k : ℕ). token_from k bytes) (sym e) ∙ is)) in
              (token.Cite c.0, c.1, c.2, at_first b 99 bytes c.1 (decimal c.0 ++ 59 ∷ []) e c.3)
          | IsNone none ↦ absurd (cut_is_not_misspelt (token_front (b ∷ bytes)) is (none bytes))
        ]

    -- a misspelt token stays so, whatever follows
    misspelt : (bytes more : List ℕ) → token_front bytes ≡ Missing Misspelt
        → token_front (bytes ++ more) ≡ Missing Misspelt
    misspelt [] more is = absurd (cut_is_not_misspelt (token_front []) refl is)
    misspelt (b ∷ bytes) more is =
        elim (first_of b) [
          | IsAsk e ↦
              absurd (found_is_not_missing token.Ask bytes Misspelt (ap (λ (k : ℕ). token_from k bytes) (sym e) ∙ is))
          | IsHolds e ↦
              absurd (found_is_not_missing token.Holds bytes Misspelt (ap (λ (k : ℕ). token_from k bytes) (sym e) ∙ is))
          | IsCycle e ↦
              ap (λ (k : ℕ). token_from k (bytes ++ more)) e
              ∙ ap (found_as token.Cycle) (cycles_spelled.misspelt bytes more
              (found_as_missing token.Cycle (numbers_front 12 bytes) Misspelt
              (ap (λ (k : ℕ). token_from k bytes) (sym e) ∙ is)))
          | IsLemma e ↦
              ap (λ (k : ℕ). token_from k (bytes ++ more)) e
              ∙ ap (found_as token.Lemma) (lemmas_spelled.misspelt bytes more
              (found_as_missing token.Lemma (literals_front bytes) Misspelt
              (ap (λ (k : ℕ). token_from k bytes) (sym e) ∙ is)))
          | IsCite e ↦
              ap (λ (k : ℕ). token_from k (bytes ++ more)) e
              ∙ ap (found_as token.Cite) (cites_spelled.misspelt bytes more
              (found_as_missing token.Cite (number_before 59 100000 bytes) Misspelt
              (ap (λ (k : ℕ). token_from k bytes) (sym e) ∙ is)))
          | IsNone none ↦ none (bytes ++ more)
        ]

token_some : (t : ProofTok) → 0 < length (proof_token_text t)
token_some token.Ask = omega arith
token_some token.Holds = omega arith
token_some (token.Cycle picks) = omega arith
token_some (token.Lemma ls) = omega arith
token_some (token.Cite number) = omega arith

-- what stands behind a token at a place of some bytes
pub token_behind :
    (all : List ℕ) (at : ℕ) (t : ProofTok) (rest : List ℕ) → at ≤ length all → token_front (drop at all) ≡ Found t rest
    → (length rest ≤ length all) × (at < length all - length rest) × (length all - length rest ≤ length all)
    × (drop (length all - length rest) all ≡ rest)
token_behind all at t rest within is =
    let r = tokens_spelled.read t (drop at all) rest is in
    found_behind all at (proof_token_text t) rest within r.2 (token_some t)
