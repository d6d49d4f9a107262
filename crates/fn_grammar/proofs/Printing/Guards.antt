-- The canonical text of a guard is written by a phrase that means the guard.
use Rattle.std.proofs.Common.{◌≡◌, ℕ, zero, suc, ◌+◌, ℤ, pos, negsuc, Bool, true, ◌∷◌, ◌++◌, refl, sym, ap, ◌∙◌, nat_le}
use Rattle.std.proofs.Common.{arith}
use Rattle.std.specs.Ordering.{int_eq}
use Rattle.std.proofs.lemmas.Bool.{false≢true, and_parts, and_from}
use Rattle.std.proofs.lemmas.Bool.Decides.{nat_tests}
use Rattle.fn_rules.specs.declared.guard.Sort.{Sort}
use Rattle.fn_rules.specs.declared.guard.Sort.TheVariants.{Pos, Site, Char}
use Rattle.fn_rules.specs.declared.guard.Side.{Side}
use Rattle.fn_rules.specs.declared.guard.Cmp.{Cmp}
use Rattle.fn_rules.specs.declared.guard.Tightness.{Tightness}
use Rattle.fn_rules.specs.declared.guard.Tightness.TheVariants.{Loose, Joined, Tight}
use Rattle.fn_rules.specs.Formulas.{Formula}
use Rattle.fn_rules.specs.Formulas as formulas
use Rattle.fn_rules.specs.Validity.{is_offset, is_offset_for, has_valid_atoms, atoms_of, nesting_of}
use Rattle.fn_tokens.specs.declared.token.Token.TheVariants.{Known}
use Rattle.fn_tokens.specs.declared.token.Word.TheVariants as words
use Rattle.fn_tokens.specs.declared.token.Sign.TheVariants as signs
use Rattle.fn_tokens.specs.Meaning.{to_formulas}
use Rattle.fn_grammar.specs.Print.{enclosed, guard_tokens}
use Rattle.fn_grammar.specs.Grammar.{Phrase, Always, Compare, Shifted, Negated, Round, One, Both, Single, Either}
use Rattle.fn_grammar.specs.Grammar.{written_as, made, atoms_in, nesting_in, is_allowed_phrase}

-- an atom as a phrase, with an offset where there is one
abbrev pub atom_phrase : Sort → Side → Cmp → ℤ → Phrase Tight
atom_phrase Pos left cmp (pos zero) = Compare Pos left cmp
atom_phrase Pos left cmp (pos (suc n)) = Shifted left cmp signs.Plus (suc n)
atom_phrase Pos left cmp (negsuc n) = Shifted left cmp signs.Minus (suc n)
atom_phrase Site left cmp k = Compare Site left cmp
atom_phrase Char left cmp k = Compare Char left cmp

-- phrases at a place, in parentheses where the place asks for them
abbrev pub tight_at : (t : Tightness) → Phrase Tight → Phrase t
tight_at Tight u = u
tight_at Joined u = One u
tight_at Loose u = Single (One u)

abbrev pub joined_at : (t : Tightness) → Phrase Joined → Phrase t
joined_at Tight c = Round (Single c)
joined_at Joined c = c
joined_at Loose c = Single c

abbrev pub loose_at : (t : Tightness) → Phrase Loose → Phrase t
loose_at Tight d = Round d
loose_at Joined d = One (Round d)
loose_at Loose d = d

-- the phrase of a guard at a place, with parentheses only where the place asks for them
abbrev pub phrase_for : (t : Tightness) → Formula → Phrase t
phrase_for t formulas.Always = tight_at t Always
phrase_for t (formulas.Compare atom) = tight_at t (atom_phrase atom.sort atom.left atom.cmp atom.k)
phrase_for t (formulas.And g h) = joined_at t (Both (phrase_for Joined g) (phrase_for Tight h))
phrase_for t (formulas.Or g h) = loose_at t (Either (phrase_for Loose g) (phrase_for Joined h))
phrase_for t (formulas.Not g) = tight_at t (Negated (phrase_for Tight g))

-- a phrase is the one of a guard at a place: it is written as the guard's canonical text, means the guard, is allowed,
-- and has the atoms of the guard and the nesting of its canonical text
pub record IsPhraseOf {t : Tightness} (chars : Bool) (p : Phrase t) (g : Formula) : Type 0 where
  pub written : written_as p ≡ guard_tokens t g
  pub means : made to_formulas p ≡ g
  pub allowed : is_allowed_phrase chars p ≡ true
  pub counted : atoms_in p ≡ atoms_of g
  pub nested : nesting_in p ≡ nesting_of t g

-- a guard that needs parentheses at no place
tight_is : (chars : Bool) (t : Tightness) (u : Phrase Tight) (g : Formula) → guard_tokens t g ≡ guard_tokens Tight g →
    nesting_of t g ≡ nesting_of Tight g → IsPhraseOf chars u g → IsPhraseOf chars (tight_at t u) g
tight_is chars Tight u g same depth p = p
tight_is chars Joined u g same depth p =
    record {
      written = p.written ∙ sym same;
      means = p.means;
      allowed = p.allowed;
      counted = p.counted;
      nested = p.nested ∙ sym depth;
    }
tight_is chars Loose u g same depth p =
    record {
      written = p.written ∙ sym same;
      means = p.means;
      allowed = p.allowed;
      counted = p.counted;
      nested = p.nested ∙ sym depth;
    }

-- an `and` and an `or`, in parentheses where the place asks for them
joined_is : (chars : Bool) (t : Tightness) (c : Phrase Joined) (g h : Formula) → IsPhraseOf chars c (formulas.And g h) →
    IsPhraseOf chars (joined_at t c) (formulas.And g h)
joined_is chars Tight c g h p =
    let inner = p.nested in
    record {
      written = ap (λ ts. enclosed true ts) p.written;
      means = p.means;
      allowed = p.allowed;
      counted = p.counted;
      nested = omega (arith, inner);
    }
joined_is chars Joined c g h p = p
joined_is chars Loose c g h p =
    record { written = p.written; means = p.means; allowed = p.allowed; counted = p.counted; nested = p.nested }

-- an `or`, in parentheses wherever the place is not loose
loose_is : (chars : Bool) (t : Tightness) (d : Phrase Loose) (g h : Formula) → IsPhraseOf chars d (formulas.Or g h) →
    IsPhraseOf chars (loose_at t d) (formulas.Or g h)
loose_is chars Tight d g h p =
    let inner = p.nested in
    record {
      written = ap (λ ts. enclosed true ts) p.written;
      means = p.means;
      allowed = p.allowed;
      counted = p.counted;
      nested = omega (arith, inner);
    }
loose_is chars Joined d g h p =
    let inner = p.nested in
    record {
      written = ap (λ ts. enclosed true ts) p.written;
      means = p.means;
      allowed = p.allowed;
      counted = p.counted;
      nested = omega (arith, inner);
    }
loose_is chars Loose d g h p = p

-- an offset that may be used has two digits
pub two_digits_up : (n : ℕ) → is_offset (pos n) ≡ true → nat_le n 99 ≡ true
two_digits_up n h = h

pub two_digits_down : (n : ℕ) → is_offset (negsuc n) ≡ true → nat_le (suc n) 99 ≡ true
two_digits_down n h = let less : nat_le n 98 ≡ true = (and_parts (nat_le n 98) true h).0 in grind (arith, nat_tests)

no_offset : (k : ℤ) → int_eq k (pos 0) ≡ true → pos 0 ≡ k
no_offset (pos n) h = let none : 0 ≡ n = grind (arith, nat_tests) in ap (λ x. pos x) none
no_offset (negsuc n) h = absurd (false≢true h)

abbrev compared : Sort → Side → Cmp → ℤ → Formula
compared sort left cmp k = formulas.Compare record { sort = sort; left = left; cmp = cmp; k = k }

-- the phrase of an atom, with an offset where it has one
atom_is : (chars : Bool) (sort : Sort) (left : Side) (cmp : Cmp) (k : ℤ) → is_offset_for chars sort k ≡ true →
    IsPhraseOf chars (atom_phrase sort left cmp k) (compared sort left cmp k)
atom_is chars Pos left cmp (pos zero) h =
    record { written = refl; means = refl; allowed = refl; counted = refl; nested = refl }
atom_is chars Pos left cmp (pos (suc n)) h =
    record { written = refl; means = refl; allowed = two_digits_up (suc n) h; counted = refl; nested = refl }
atom_is chars Pos left cmp (negsuc n) h =
    record { written = refl; means = refl; allowed = two_digits_down n h; counted = refl; nested = refl }
atom_is chars Site left cmp k h =
    let none = no_offset k h in
    record {
      written = ap (λ x. guard_tokens Tight (compared Site left cmp x)) none;
      means = ap (λ x. compared Site left cmp x) none;
      allowed = refl;
      counted = refl;
      nested = refl;
    }
atom_is chars Char left cmp k h =
    let none = no_offset k (and_parts chars _ h).1 in
    record {
      written = ap (λ x. guard_tokens Tight (compared Char left cmp x)) none;
      means = ap (λ x. compared Char left cmp x) none;
      allowed = (and_parts chars _ h).0;
      counted = refl;
      nested = refl;
    }

-- phrases of two guards with `and` between them are a phrase of their `and`
both_is : (chars : Bool) (c : Phrase Joined) (u : Phrase Tight) (g h : Formula) → IsPhraseOf chars c g
    → IsPhraseOf chars u h → IsPhraseOf chars (Both c u) (formulas.And g h)
both_is chars c u g h first second =
    let atoms = first.counted in
    let more = second.counted in
    let depth = first.nested in
    let deeper = second.nested in
    record {
      written = ap (λ ts. ts ++ Known words.And ∷ written_as u) first.written
          ∙ ap (λ ts. guard_tokens Joined g ++ Known words.And ∷ ts) second.written;
      means = ap (λ x. formulas.And x (made to_formulas u)) first.means ∙ ap (λ x. formulas.And g x) second.means;
      allowed = and_from _ _ first.allowed second.allowed;
      counted = omega (arith, atoms, more);
      nested = omega (arith, depth, deeper);
    }

-- phrases of two guards with `or` between them are a phrase of their `or`
either_is : (chars : Bool) (d : Phrase Loose) (c : Phrase Joined) (g h : Formula) → IsPhraseOf chars d g
    → IsPhraseOf chars c h → IsPhraseOf chars (Either d c) (formulas.Or g h)
either_is chars d c g h first second =
    let atoms = first.counted in
    let more = second.counted in
    let depth = first.nested in
    let deeper = second.nested in
    record {
      written = ap (λ ts. ts ++ Known words.Or ∷ written_as c) first.written
          ∙ ap (λ ts. guard_tokens Loose g ++ Known words.Or ∷ ts) second.written;
      means = ap (λ x. formulas.Or x (made to_formulas c)) first.means ∙ ap (λ x. formulas.Or g x) second.means;
      allowed = and_from _ _ first.allowed second.allowed;
      counted = omega (arith, atoms, more);
      nested = omega (arith, depth, deeper);
    }

negated_is : (chars : Bool) (u : Phrase Tight) (g : Formula) → IsPhraseOf chars u g
    → IsPhraseOf chars (Negated u) (formulas.Not g)
negated_is chars u g p = record {
  written = ap (λ ts. Known words.Not ∷ ts) p.written;
  means = ap (λ x. formulas.Not x) p.means;
  allowed = p.allowed;
  counted = p.counted;
  nested = ap (λ n. 1 + n) p.nested;
}

-- the phrase of a guard with valid atoms is one of it at each place
pub phrase_is : (chars : Bool) (t : Tightness) (g : Formula) → has_valid_atoms chars g ≡ true
    → IsPhraseOf chars (phrase_for t g) g
phrase_is chars t formulas.Always h =
    tight_is chars t Always formulas.Always refl refl
    record { written = refl; means = refl; allowed = refl; counted = refl; nested = refl }
phrase_is chars t (formulas.Compare atom) h =
    tight_is chars t (atom_phrase atom.sort atom.left atom.cmp atom.k) (formulas.Compare atom) refl refl
    (atom_is chars atom.sort atom.left atom.cmp atom.k h)
phrase_is chars t (formulas.And g k) h =
    joined_is chars t (Both (phrase_for Joined g) (phrase_for Tight k)) g k
    (both_is chars (phrase_for Joined g) (phrase_for Tight k) g k (phrase_is chars Joined g (and_parts _ _ h).0)
    (phrase_is chars Tight k (and_parts (has_valid_atoms chars g) _ h).1))
phrase_is chars t (formulas.Or g k) h =
    loose_is chars t (Either (phrase_for Loose g) (phrase_for Joined k)) g k
    (either_is chars (phrase_for Loose g) (phrase_for Joined k) g k (phrase_is chars Loose g (and_parts _ _ h).0)
    (phrase_is chars Joined k (and_parts (has_valid_atoms chars g) _ h).1))
phrase_is chars t (formulas.Not g) h =
    tight_is chars t (Negated (phrase_for Tight g)) (formulas.Not g) refl refl
    (negated_is chars (phrase_for Tight g) g (phrase_is chars Tight g h))
