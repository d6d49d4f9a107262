-- Tokens at the front of some bytes.
use Rattle.std.specs.Prelude.{ℕ, nat_eq, if◌then◌else◌, List, [], ◌∷◌}
use Rattle.diff_graph.specs.declared.lit.Lit.{Lit}
use Rattle.ask_core.specs.declared.picks.TheConstants.{MAX_PICKS}
use Rattle.proof_trees.specs.declared.limits.TheConstants.{MAX_LITERALS}
use Rattle.proof_trees.specs.declared.token.ProofTok.{ProofTok}
use Rattle.proof_trees.specs.declared.token.ProofTok.TheVariants as token
use Rattle.proof_text.specs.declared.unread.Unread.TheVariants.{Misspelt, Cut}
use Rattle.proof_text.specs.Fronts.{Parsed, Found, Missing, and_then, found_as, items_front}
use Rattle.proof_text.specs.Numbers.{number_front, number_before, offset_front}

-- the numbers of a cycle, of at most five digits, of which so many more may come, and `;`
abbrev pub numbers_front : ℕ → List ℕ → Parsed (List ℕ)
numbers_front room bytes = items_front (number_front 10000) 44 59 room bytes

-- a literal: two names of at most two digits and an offset, with commas between
abbrev pub literal_front : List ℕ → Parsed Lit
literal_front bytes =
    and_then (number_before 44 10 bytes) (λ x rest.
    and_then (number_before 44 10 rest) (λ y more.
    found_as (λ k. record { x = x; y = y; k = k }) (offset_front more)))

-- literals with `/` between them, of which so many more may come, and `;`
abbrev pub some_literals_front : ℕ → List ℕ → Parsed (List Lit)
some_literals_front room bytes = items_front literal_front 47 59 room bytes

-- the literals of a lemma, which may be none, and `;`
abbrev pub literals_front : List ℕ → Parsed (List Lit)
literals_front [] = Missing Cut
literals_front (b ∷ bytes) = if nat_eq b 59 then Found [] bytes else some_literals_front MAX_LITERALS (b ∷ bytes)

-- a token that begins with the byte, before these bytes: `?`, `.`, `x`, `l` and `c`
abbrev pub token_from : ℕ → List ℕ → Parsed ProofTok
token_from b bytes =
    if nat_eq b 63 then Found token.Ask bytes
    else (if nat_eq b 46 then Found token.Holds bytes
    else (if nat_eq b 120 then found_as token.Cycle (numbers_front MAX_PICKS bytes)
    else (if nat_eq b 108 then found_as token.Lemma (literals_front bytes)
    else (if nat_eq b 99 then found_as token.Cite (number_before 59 100000 bytes)
    else Missing Misspelt))))

-- a token
abbrev pub token_front : List ℕ → Parsed ProofTok
token_front [] = Missing Cut
token_front (b ∷ bytes) = token_from b bytes
