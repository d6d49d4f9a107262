-- Trees that are kept as their text, and the tokens that are read of it.
use Rattle.std.specs.Prelude.{◌≡◌, ℕ, ◌<◌, ◌≤◌, ◌^◌, ◌==◌, if◌then◌else◌, Option, None, Some, List, [], ◌∷◌, ◌++◌}
use Rattle.std.specs.Prelude.{length, take, drop}
use Rattle.std.specs.List.{AllByRecursion}
use Rattle.std.specs.Str.Parse.{digits_value}
use Rattle.ask_core.specs.declared.tree.Tok.{Tok}
use Rattle.ask_core.specs.declared.tree.Tok.TheVariants as token
use Rattle.cert_text.specs.Spelling.{tokens_text}

-- the numbers, and behind them the one of the digits, where there are any
abbrev pub with_number : List ℕ → List ℕ → List ℕ
with_number numbers [] = numbers
with_number numbers (d ∷ digits) = numbers ++ digits_value 10 (d ∷ digits) ∷ []

-- the tokens that are read of a text. Within a cycle, its whole numbers and the digits behind them were read before
abbrev pub read_on : Option (List ℕ × List ℕ) → List ℕ → List Tok
read_on begun [] = []
read_on None (b ∷ bytes) =
    if b == 63 then token.Ask ∷ read_on None bytes
    else (if b == 46 then token.Holds ∷ read_on None bytes else read_on (Some ([], [])) bytes)
read_on (Some (numbers, digits)) (b ∷ bytes) =
    if b == 59 then token.Cycle (with_number numbers digits) ∷ read_on None bytes
    else (if b == 44 then read_on (Some (with_number numbers digits, [])) bytes
    else read_on (Some (numbers, digits ++ b ∷ [])) bytes)

-- the tokens of a tree whose text this is
abbrev pub tokens_read : List ℕ → List Tok
tokens_read text = read_on None text

-- the numbers of the token have 32 bits
abbrev pub HasWords : Tok → Type 0
HasWords token.Ask = Unit {0}
HasWords token.Holds = Unit {0}
HasWords (token.Cycle picks) = AllByRecursion (λ n. n < 2 ^ 32) picks

-- the text is that of the tokens that are read of it
abbrev pub IsTreeText : List ℕ → Type 0
IsTreeText text = AllByRecursion HasWords (tokens_read text) × (text ≡ tokens_text (tokens_read text))

-- a tree that is written: what stands before it, and its tokens
pub record Written : Type 0 where
  pub front : List ℕ
  pub tokens : List Tok

-- the tree with a token at its end
abbrev pub with_token : Written → Tok → Written
with_token tree tok = record { front = tree.front; tokens = tree.tokens ++ tok ∷ [] }

-- the tree that begins there in a text
abbrev pub tree_at : ℕ → List ℕ → Written
tree_at start text = record { front = take start text; tokens = tokens_read (drop start text) }

-- one begins there
abbrev pub IsTreeAt : ℕ → List ℕ → Type 0
IsTreeAt start text = (start ≤ length text) × IsTreeText (drop start text)
