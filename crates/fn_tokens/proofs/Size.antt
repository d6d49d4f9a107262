-- Tokens in lines are spelled by few bytes.
use Rattle.std.proofs.Common.{ℕ, ◌+◌, ◌*◌, ◌≤◌, Bool, true, false, ◌||◌, List, [], ◌∷◌, ◌++◌, length, cond}
use Rattle.std.proofs.Common.{length-append, arith, lit≤, lit<}
use Rattle.std.specs.Fmt.{decimal}
use Rattle.std.proofs.lemmas.Fmt.{length-decimal-le}
use Rattle.ot_model.specs.declared.op.Mode.TheVariants.{Plain, Tomb}
use Rattle.ot_model.specs.declared.op.Kind.TheVariants as kinds
use Rattle.fn_rules.specs.declared.guard.Sort.TheVariants.{Pos, Site, Char}
use Rattle.fn_rules.specs.declared.guard.Side.TheVariants.{First, Second}
use Rattle.fn_rules.specs.declared.guard.Cmp.TheVariants.{Lt, Le, Eq}
use Rattle.fn_tokens.specs.declared.token.Sign.TheVariants.{Plus, Minus}
use Rattle.fn_tokens.specs.declared.token.Token.{Token}
use Rattle.fn_tokens.specs.declared.token.Token.TheVariants.{Byte, Unknown, Known, Number, Comparison, Sign, Open}
use Rattle.fn_tokens.specs.declared.token.Token.TheVariants.{Close, Colon, LineEnd, FileEnd}
use Rattle.fn_tokens.specs.declared.token.Word.{Word}
use Rattle.fn_tokens.specs.declared.token.Word.TheVariants as words
use Rattle.fn_tokens.specs.Words.{spelling_of}
use Rattle.fn_tokens.specs.Spelling.{token_bytes, ends_line, space_before, spelled_from, IsText, InLines}

-- a word is spelled by at most 6 bytes
word_size : (word : Word) → length (spelling_of word) ≤ 6
word_size words.Otfn = lit≤ tt
word_size words.Text = lit≤ tt
word_size (words.Mode Plain) = lit≤ tt
word_size (words.Mode Tomb) = lit≤ tt
word_size words.Kinds = lit≤ tt
word_size (words.Kind kinds.Ins) = lit≤ tt
word_size (words.Kind kinds.Del) = lit≤ tt
word_size (words.Kind kinds.Upd) = lit≤ tt
word_size words.Assume = lit≤ tt
word_size words.Sites = lit≤ tt
word_size words.Chars = lit≤ tt
word_size words.Differ = lit≤ tt
word_size words.Block = lit≤ tt
word_size words.Case = lit≤ tt
word_size words.And = lit≤ tt
word_size words.Or = lit≤ tt
word_size words.Not = lit≤ tt
word_size words.True = lit≤ tt
word_size (words.Thing Pos First) = lit≤ tt
word_size (words.Thing Pos Second) = lit≤ tt
word_size (words.Thing Site First) = lit≤ tt
word_size (words.Thing Site Second) = lit≤ tt
word_size (words.Thing Char First) = lit≤ tt
word_size (words.Thing Char Second) = lit≤ tt
word_size words.Nop = lit≤ tt
word_size words.End = lit≤ tt

number_size : (n : ℕ) → n ≤ 99 → length (decimal n) ≤ 6
number_size n small =
    let two = length-decimal-le 2 n (lit< tt) (omega (arith, small)) (omega (arith, small)) in omega (arith, two)

-- so is a token of a text
token_size : (token : Token) → IsText token → length (token_bytes token) ≤ 6
token_size Byte is = absurd is
token_size Unknown is = absurd is
token_size (Known word) is = word_size word
token_size (Number n) is = number_size n is
token_size (Comparison Lt) is = lit≤ tt
token_size (Comparison Le) is = lit≤ tt
token_size (Comparison Eq) is = lit≤ tt
token_size (Sign Plus) is = lit≤ tt
token_size (Sign Minus) is = lit≤ tt
token_size Open is = lit≤ tt
token_size Close is = lit≤ tt
token_size Colon is = lit≤ tt
token_size LineEnd is = absurd is
token_size FileEnd is = absurd is

space_size : (begins : Bool) (token : Token) → length (space_before begins token) ≤ 1
space_size begins token = by_test (begins || ends_line token)
  where
    by_test : (test : Bool) → length {A = ℕ} (cond test [] (32 ∷ [])) ≤ 1
    by_test true = omega arith
    by_test false = omega arith

-- a token and its space
one_size : (begins : Bool) (token : Token) (rest : List ℕ) → length (token_bytes token) ≤ 6 →
    length (space_before begins token ++ token_bytes token ++ rest) ≤ 8 + length rest
one_size begins token rest size =
    let space = space_size begins token in
    let front = length-append (space_before begins token) (token_bytes token) in
    let whole = length-append (space_before begins token ++ token_bytes token) rest in
    omega (arith, size, space, front, whole)

-- each token of a line has 8 bytes at most, with the space or the line's end behind it
pub spelled_size : (begins : Bool) (tokens : List Token) → InLines begins tokens
    → length (spelled_from begins tokens) ≤ 8 * length tokens
spelled_size begins [] lines = omega arith
spelled_size begins (LineEnd ∷ tokens) lines =
    let here = one_size begins LineEnd (spelled_from true tokens) (lit≤ tt) in
    let others = spelled_size true tokens lines.1 in
    omega (arith, here, others)
spelled_size begins (token ∷ tokens) lines =
    let here = one_size begins token (spelled_from false tokens) (token_size token lines.0) in
    let others = spelled_size false tokens lines.1 in
    omega (arith, here, others)
