-- The bytes of tokens in lines: one space between two tokens of a line, and a newline behind each line.
use Rattle.std.specs.Prelude.{◌≡◌, ◌≤◌, ℕ, Bool, true, false, ◌||◌, if◌then◌else◌, ◌*◌, List, [], ◌∷◌, ◌++◌, length}
use Rattle.std.specs.Prelude.{codes}
use Rattle.std.specs.Fmt.{decimal}
use Rattle.fn_rules.specs.declared.guard.Cmp.TheVariants.{Lt, Le, Eq}
use Rattle.fn_tokens.specs.declared.token.Sign.TheVariants.{Plus, Minus}
use Rattle.fn_tokens.specs.declared.token.Token.{Token}
use Rattle.fn_tokens.specs.declared.token.Token.TheVariants.{Byte, Unknown, Known, Number, Comparison, Sign, Open}
use Rattle.fn_tokens.specs.declared.token.Token.TheVariants.{Close, Colon, LineEnd, FileEnd}
use Rattle.fn_tokens.specs.Words.{spelling_of}
use Rattle.fn_tokens.specs.Tokens.{tokens_in, bare}

-- the bytes of a token; no text has those that begin no token, words outside the language, and the file's end
abbrev pub token_bytes : Token → List ℕ
token_bytes Byte = []
token_bytes Unknown = []
token_bytes (Known word) = spelling_of word
token_bytes (Number n) = decimal n
token_bytes (Comparison Lt) = codes "<"
token_bytes (Comparison Le) = codes "<="
token_bytes (Comparison Eq) = codes "="
token_bytes (Sign Plus) = codes "+"
token_bytes (Sign Minus) = codes "-"
token_bytes Open = codes "("
token_bytes Close = codes ")"
token_bytes Colon = codes ":"
token_bytes LineEnd = 10 ∷ []
token_bytes FileEnd = []

abbrev pub ends_line : Token → Bool
ends_line LineEnd = true
ends_line _ = false

-- a space before each token that neither begins its line nor ends it
abbrev pub space_before : Bool → Token → List ℕ
space_before begins token = if begins || ends_line token then [] else 32 ∷ []

-- the bytes of tokens, of which the first begins a line or not
abbrev pub spelled_from : Bool → List Token → List ℕ
spelled_from begins [] = []
spelled_from begins (token ∷ tokens) = space_before begins token ++ token_bytes token
    ++ spelled_from (ends_line token) tokens

-- the bytes of tokens
abbrev pub spelled : List Token → List ℕ
spelled tokens = spelled_from true tokens

-- a token that stands within a line
abbrev pub IsText : Token → Type 0
IsText Byte = ⊥
IsText Unknown = ⊥
IsText (Known word) = Unit {0}
IsText (Number n) = n ≤ 99
IsText (Comparison cmp) = Unit {0}
IsText (Sign sign) = Unit {0}
IsText Open = Unit {0}
IsText Close = Unit {0}
IsText Colon = Unit {0}
IsText LineEnd = ⊥
IsText FileEnd = ⊥

-- tokens in whole lines, of which the first begins a line or not; no line is empty
abbrev pub InLines : Bool → List Token → Type 0
InLines begins [] = begins ≡ true
InLines begins (LineEnd ∷ tokens) = (begins ≡ false) × InLines true tokens
InLines begins (token ∷ tokens) = IsText token × InLines false tokens

-- tokens in whole lines are read back from the bytes that spell them
abbrev pub LinesLexBack : Type 0
LinesLexBack = (tokens : List Token) → InLines true tokens → bare (tokens_in (spelled tokens)) ≡ tokens ++ FileEnd ∷ []

-- and each of them takes 8 bytes at most, with the space before it or the line's end
abbrev pub LinesAreShort : Type 0
LinesAreShort = (tokens : List Token) → InLines true tokens → length (spelled tokens) ≤ 8 * length tokens
