-- Lemmas on the front of bytes, of which the lexer takes a token.
use Rattle.std.proofs.Common.{◌≡◌, ℕ, ◌+◌, ◌<◌, List, [], ◌∷◌, length, take, drop, get_or, arith, rules}

-- the front of a list is its first element and the front of the others
pub take_first : (xs : List ℕ) (n : ℕ) → 0 < length xs → get_or xs 0 0 ∷ take n (drop 1 xs) ≡ take (n + 1) xs
take_first [] n h = absurd (omega (arith, h))
take_first (x ∷ xs) n h = search rules
