-- The further numbers of a cycle, at the front of some bytes.
use Rattle.std.proofs.Common.{◌≡◌, ◌≢◌, ℕ, ◌<◌, List, [], ◌∷◌, ◌++◌, refl, ◌∙◌, arith, append_assoc}
use Rattle.std.specs.Fmt.{decimal}
use Rattle.cert_text.specs.Numbers.{AreShort, IsBehindNumber, IsSpellableCycle, more_numbers_text, numbers_text}
use Rattle.cert_text.specs.Numbers.{PICK_LIMIT}

-- equal lists have equal heads and equal rests
same_parts : (a b : ℕ) (xs ys : List ℕ) → a ∷ xs ≡ b ∷ ys → (a ≡ b) × (xs ≡ ys)
same_parts a b xs ys e = (cc, cc)

-- where another byte is first, it is the comma of a further number
pub record Next (left more rest : List ℕ) : Type 0 where
  pub number : ℕ
  pub others : List ℕ
  pub is : more ≡ number ∷ others
  pub short : number < PICK_LIMIT
  pub others_short : AreShort others
  pub text : left ≡ decimal number ++ (more_numbers_text others ++ 59 ∷ rest)
  pub behind : IsBehindNumber (more_numbers_text others ++ 59 ∷ rest)

-- no digit stands behind a number of a cycle
pub no_digit_behind : (others rest : List ℕ) → IsBehindNumber (more_numbers_text others ++ 59 ∷ rest)
no_digit_behind [] rest = refl
no_digit_behind (n ∷ ns) rest = refl

-- a byte that does not end a cycle is a comma, and a further number stands behind it
pub next_number :
    (b : ℕ) (more left rest : List ℕ) → b ≢ 59 → AreShort more → b ∷ left ≡ more_numbers_text more ++ 59 ∷ rest
    → (b ≡ 44) × Next left more rest
next_number b [] left rest other short is = absurd (other (same_parts b 59 left rest is).0)
next_number b (n ∷ ns) left rest other short is =
    let parts = same_parts b 44 left ((decimal n ++ more_numbers_text ns) ++ 59 ∷ rest) is in (
      parts.0,
      record {
        number = n;
        others = ns;
        is = refl;
        short = short.0;
        others_short = short.1;
        text = parts.1 ∙ append_assoc (decimal n) (more_numbers_text ns) (59 ∷ rest);
        behind = no_digit_behind ns rest;
      },
    )

-- the first number of a cycle, with the others behind it
pub first_number :
    (bytes picks rest : List ℕ) → IsSpellableCycle picks
    → bytes ≡ numbers_text picks ++ 59 ∷ rest → Next bytes picks rest
first_number bytes [] rest spellable is = absurd (omega (arith, spellable.0))
first_number bytes (n ∷ ns) rest spellable is =
    record {
      number = n;
      others = ns;
      is = refl;
      short = spellable.2.0;
      others_short = spellable.2.1;
      text = is ∙ append_assoc (decimal n) (more_numbers_text ns) (59 ∷ rest);
      behind = no_digit_behind ns rest;
    }
