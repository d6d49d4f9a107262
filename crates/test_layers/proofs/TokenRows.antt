-- Rows of tokens: those of a text with their places, and the bytes of tokens. The calls give exactly these definitions.
use Rattle.std.specs.Prelude.{◌≡◌, ℕ, List, [], ◌∷◌, ◌++◌, codes, refl}
use Rattle.ot_model.specs.declared.op.Kind.TheVariants as kinds
use Rattle.fn_rules.specs.declared.guard.Sort.TheVariants.{Pos}
use Rattle.fn_rules.specs.declared.guard.Side.TheVariants.{First, Second}
use Rattle.fn_rules.specs.declared.guard.Cmp.TheVariants.{Le}
use Rattle.fn_tokens.specs.declared.token.Sign.TheVariants.{Minus}
use Rattle.fn_tokens.specs.declared.token.Word.TheVariants as words
use Rattle.fn_tokens.specs.declared.token.Token.{Token}
use Rattle.fn_tokens.specs.declared.token.Token.TheVariants.{Byte, Unknown, Known, Number, Comparison, Sign, Open}
use Rattle.fn_tokens.specs.declared.token.Token.TheVariants.{Colon, LineEnd, FileEnd}
use Rattle.fn_tokens.specs.declared.token.Placed.{Placed}
use Rattle.fn_tokens.specs.Tokens.{tokens_in, front_of}
use Rattle.fn_tokens.specs.Words.{word_token}
use Rattle.fn_tokens.specs.Spelling.{spelled}

-- a token in a line, at a column
abbrev at : Token → ℕ → ℕ → Placed
at token line column = record { token = token; line = line; column = column }

-- two lines with tokens and one without: a tab, a comment, a carriage return, and bytes and words that are no tokens
abbrev text : List ℕ
text = codes "ins" ++ 9 ∷ codes "p1<=p2-007 # p3" ++ 13 ∷ 10 ∷ 10 ∷ codes " (otfn1 $ 100" ++ 10 ∷ []

the_longest_tokens_are_taken :
    tokens_in text
    ≡ at (Known (words.Kind kinds.Ins)) 1 1 ∷ at (Known (words.Thing Pos First)) 1 5 ∷ at (Comparison Le) 1 7
    ∷ at (Known (words.Thing Pos Second)) 1 9 ∷ at (Sign Minus) 1 11 ∷ at (Number 7) 1 12 ∷ at LineEnd 1 21
    ∷ at Open 3 2 ∷ at Unknown 3 3 ∷ at Byte 3 9 ∷ at (Number 100) 3 11 ∷ at LineEnd 3 14 ∷ at FileEnd 4 1 ∷ []
unfolding front_of word_token
the_longest_tokens_are_taken = refl

-- a line of five words and one of one word
one_space_stands_between_two_tokens :
    spelled (Known words.Case ∷ Known words.True ∷ Colon ∷ Known words.Nop ∷ LineEnd ∷ Known words.End ∷ LineEnd ∷ [])
    ≡ codes "case true : nop" ++ 10 ∷ codes "end" ++ 10 ∷ []
one_space_stands_between_two_tokens = refl
