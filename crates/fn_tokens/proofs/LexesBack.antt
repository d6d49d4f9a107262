-- Tokens in lines are read back from the bytes that spell them.
use Rattle.std.proofs.Common.{◌≡◌, ℕ, zero, suc, ◌+◌, ◌-◌, ◌/◌, ◌%◌, ◌<◌, ◌≤◌, ◌==◌, Bool, true, false, not, ◌||◌, List}
use Rattle.std.proofs.Common.{[], ◌∷◌, ◌++◌, map, length, take, refl, sym, ◌∙◌, ap, subst, inl, inr, arith}
use Rattle.std.specs.Prelude.{codes, nat_lt}
use Rattle.std.specs.List.{list_all, prefix_len}
use Rattle.std.specs.Fmt.{decimal}
use Rattle.std.proofs.lemmas.List.{take_at}
use Rattle.std.proofs.lemmas.Fmt.{decimal_digit, decimal_step}
use Rattle.std.proofs.lemmas.Bool.{false≢true, cases_lt, and_parts}
use Rattle.std.proofs.lemmas.Bool.Decides.{nat_tests}
use Rattle.fn_tokens.specs.declared.token.Token.{Token}
use Rattle.ot_model.specs.declared.op.Mode.TheVariants.{Plain, Tomb}
use Rattle.ot_model.specs.declared.op.Kind.TheVariants as kinds
use Rattle.fn_rules.specs.declared.guard.Sort.TheVariants.{Pos, Site, Char}
use Rattle.fn_rules.specs.declared.guard.Side.TheVariants.{First, Second}
use Rattle.fn_rules.specs.declared.guard.Cmp.TheVariants.{Lt, Le, Eq}
use Rattle.fn_tokens.specs.declared.token.Sign.TheVariants.{Plus, Minus}
use Rattle.fn_tokens.specs.declared.token.Token.TheVariants.{Byte, Unknown, Known, Number, Comparison, Sign, Open}
use Rattle.fn_tokens.specs.declared.token.Token.TheVariants.{Close, Colon, LineEnd, FileEnd}
use Rattle.fn_tokens.specs.declared.token.Word.{Word}
use Rattle.fn_tokens.specs.declared.token.Word.TheVariants as words
use Rattle.fn_tokens.specs.declared.lexer.Cursor.{Cursor}
use Rattle.fn_tokens.specs.declared.lexer.Run.TheVariants as runs
use Rattle.fn_tokens.specs.Words.{spelling_of, word_token}
use Rattle.fn_tokens.specs.Tokens.{is_letter, is_digit, is_blank, is_line_end, is_in, number_from, front_of}
use Rattle.fn_tokens.specs.Tokens.{tokens_from}
use Rattle.fn_tokens.specs.Spelling.{token_bytes, spelled_from, IsText, InLines}

-- a place by its parts
abbrev spot : ℕ → ℕ → Bool → ℕ → Cursor
spot line column after skip = record { line = line; column = column; after = after; skip = skip }

-- the column so many bytes further
abbrev further : ℕ → ℕ → ℕ
further zero column = column
further (suc n) column = further n (column + 1)

-- the tokens of bytes from a place on, without their places
abbrev pub seen : Cursor → List ℕ → List Token
seen at bytes = map (λ p. p.token) (tokens_from at bytes)

-- a byte that goes on with no word, no number and no sign
record Ends (byte : ℕ) : Type 0 where
  run : (is_letter byte || is_digit byte) ≡ false
  digits : is_digit byte ≡ false
  sign : (byte == 61) ≡ false

-- a token is read back from its text where such a byte follows
abbrev Lexes : Token → List ℕ → Type 0
Lexes token text =
    (line column sep : ℕ) (after : Bool) (rest : List ℕ) → Ends sep →
    seen (spot line column after 0) (text ++ sep ∷ rest)
    ≡ token ∷ seen (spot line (further (length text) column) true 0) (sep ∷ rest)

-- a letter is nothing else
pub record IsLetter (byte : ℕ) : Type 0 where
  pub line_end : is_line_end byte ≡ false
  pub blank : is_blank byte ≡ false
  pub comment : (byte == 35) ≡ false
  pub letter : is_letter byte ≡ true

-- by the test
pub IsLetter-from_test : (byte : ℕ) → is_letter byte ≡ true → IsLetter byte
IsLetter-from_test byte h = record {
  line_end = grind (arith, nat_tests);
  blank = grind (arith, nat_tests);
  comment = grind (arith, nat_tests);
  letter = h;
}

-- a run goes as far as its bytes do
prefix_len-run : (p : ℕ → Bool) (run : List ℕ) (sep : ℕ) (rest : List ℕ) → list_all p run ≡ true → p sep ≡ false →
    prefix_len p (run ++ sep ∷ rest) ≡ length run
prefix_len-run p [] sep rest all ends = rw ends refl
prefix_len-run p (byte ∷ run) sep rest all ends =
    let parts = and_parts (p byte) (list_all p run) all in
    let others : prefix_len p (run ++ sep ∷ rest) ≡ length run = prefix_len-run p run sep rest parts.1 ends in
    rw (parts.0) (omega arith)

-- a byte of a token behind its first is passed over
skipped_one : (byte : ℕ) (bytes : List ℕ) (line column more : ℕ) →
    seen (spot line column true (suc more)) (byte ∷ bytes) ≡ seen (spot line (column + 1) true more) bytes
skipped_one byte bytes line column more =
    let positive : nat_lt 0 (suc more) ≡ true = grind (arith, nat_tests) in
    let one_less : suc more - 1 ≡ more = omega arith in
    rw (positive, one_less) refl

-- and so are all of them
skipped : (run : List ℕ) (line column : ℕ) (rest : List ℕ) →
    seen (spot line column true (length run)) (run ++ rest) ≡ seen (spot line (further (length run) column) true 0) rest
skipped [] line column rest = refl
skipped (byte ∷ run) line column rest = skipped_one byte (run ++ rest) line column (length run)
    ∙ skipped run line (column + 1) rest

-- the first letter of a word takes the whole run
letter_first : (byte : ℕ) (bytes : List ℕ) (line column : ℕ) (after : Bool) → IsLetter byte →
    seen (spot line column after 0) (byte ∷ bytes)
    ≡ word_token (byte ∷ take (prefix_len (is_in runs.Word) bytes) bytes)
    ∷ seen (spot line (column + 1) true (prefix_len (is_in runs.Word) bytes)) bytes
unfolding front_of
letter_first byte bytes line column after is = rw (is.line_end, is.blank, is.comment, is.letter) refl

-- letters and digits that begin with a letter
run_lexes : (token : Token) (byte : ℕ) (run : List ℕ) → IsLetter byte → list_all (is_in runs.Word) run ≡ true →
    word_token (byte ∷ run) ≡ token → Lexes token (byte ∷ run)
run_lexes token byte run is all e line column sep after rest ends =
    let as_far : prefix_len (is_in runs.Word) (run ++ sep ∷ rest) ≡ length run =
    prefix_len-run (is_in runs.Word) run sep rest all ends.run in
    let front : take (length run) (run ++ sep ∷ rest) ≡ run = take_at run (sep ∷ rest) (length run) refl in
    let first = letter_first byte (run ++ sep ∷ rest) line column after is in
    rw first (rw (as_far, front, e) (ap (λ ts. token ∷ ts) (skipped run line (column + 1) (sep ∷ rest))))

-- a word is known by its letters
word_token-spelling : (word : Word) → word_token (spelling_of word) ≡ Known word
unfolding word_token
word_token-spelling words.Otfn = refl
word_token-spelling words.Text = refl
word_token-spelling (words.Mode Plain) = refl
word_token-spelling (words.Mode Tomb) = refl
word_token-spelling words.Kinds = refl
word_token-spelling (words.Kind kinds.Ins) = refl
word_token-spelling (words.Kind kinds.Del) = refl
word_token-spelling (words.Kind kinds.Upd) = refl
word_token-spelling words.Assume = refl
word_token-spelling words.Sites = refl
word_token-spelling words.Chars = refl
word_token-spelling words.Differ = refl
word_token-spelling words.Block = refl
word_token-spelling words.Case = refl
word_token-spelling words.And = refl
word_token-spelling words.Or = refl
word_token-spelling words.Not = refl
word_token-spelling words.True = refl
word_token-spelling (words.Thing Pos First) = refl
word_token-spelling (words.Thing Pos Second) = refl
word_token-spelling (words.Thing Site First) = refl
word_token-spelling (words.Thing Site Second) = refl
word_token-spelling (words.Thing Char First) = refl
word_token-spelling (words.Thing Char Second) = refl
word_token-spelling words.Nop = refl
word_token-spelling words.End = refl

-- each word is read back
word_lexes : (word : Word) → Lexes (Known word) (spelling_of word)
word_lexes words.Otfn =
    run_lexes _ 111 (codes "tfn") (IsLetter-from_test 111 refl) refl (word_token-spelling words.Otfn)
word_lexes words.Text =
    run_lexes _ 116 (codes "ext") (IsLetter-from_test 116 refl) refl (word_token-spelling words.Text)
word_lexes (words.Mode Plain) =
    run_lexes _ 112 (codes "lain") (IsLetter-from_test 112 refl) refl (word_token-spelling (words.Mode Plain))
word_lexes (words.Mode Tomb) =
    run_lexes _ 116 (codes "omb") (IsLetter-from_test 116 refl) refl (word_token-spelling (words.Mode Tomb))
word_lexes words.Kinds =
    run_lexes _ 107 (codes "inds") (IsLetter-from_test 107 refl) refl (word_token-spelling words.Kinds)
word_lexes (words.Kind kinds.Ins) =
    run_lexes _ 105 (codes "ns") (IsLetter-from_test 105 refl) refl (word_token-spelling (words.Kind kinds.Ins))
word_lexes (words.Kind kinds.Del) =
    run_lexes _ 100 (codes "el") (IsLetter-from_test 100 refl) refl (word_token-spelling (words.Kind kinds.Del))
word_lexes (words.Kind kinds.Upd) =
    run_lexes _ 117 (codes "pd") (IsLetter-from_test 117 refl) refl (word_token-spelling (words.Kind kinds.Upd))
word_lexes words.Assume =
    run_lexes _ 97 (codes "ssume") (IsLetter-from_test 97 refl) refl (word_token-spelling words.Assume)
word_lexes words.Sites =
    run_lexes _ 115 (codes "ites") (IsLetter-from_test 115 refl) refl (word_token-spelling words.Sites)
word_lexes words.Chars =
    run_lexes _ 99 (codes "hars") (IsLetter-from_test 99 refl) refl (word_token-spelling words.Chars)
word_lexes words.Differ =
    run_lexes _ 100 (codes "iffer") (IsLetter-from_test 100 refl) refl (word_token-spelling words.Differ)
word_lexes words.Block =
    run_lexes _ 98 (codes "lock") (IsLetter-from_test 98 refl) refl (word_token-spelling words.Block)
word_lexes words.Case = run_lexes _ 99 (codes "ase") (IsLetter-from_test 99 refl) refl (word_token-spelling words.Case)
word_lexes words.And = run_lexes _ 97 (codes "nd") (IsLetter-from_test 97 refl) refl (word_token-spelling words.And)
word_lexes words.Or = run_lexes _ 111 (codes "r") (IsLetter-from_test 111 refl) refl (word_token-spelling words.Or)
word_lexes words.Not = run_lexes _ 110 (codes "ot") (IsLetter-from_test 110 refl) refl (word_token-spelling words.Not)
word_lexes words.True =
    run_lexes _ 116 (codes "rue") (IsLetter-from_test 116 refl) refl (word_token-spelling words.True)
word_lexes (words.Thing Pos First) =
    run_lexes _ 112 (codes "1") (IsLetter-from_test 112 refl) refl (word_token-spelling (words.Thing Pos First))
word_lexes (words.Thing Pos Second) =
    run_lexes _ 112 (codes "2") (IsLetter-from_test 112 refl) refl (word_token-spelling (words.Thing Pos Second))
word_lexes (words.Thing Site First) =
    run_lexes _ 115 (codes "1") (IsLetter-from_test 115 refl) refl (word_token-spelling (words.Thing Site First))
word_lexes (words.Thing Site Second) =
    run_lexes _ 115 (codes "2") (IsLetter-from_test 115 refl) refl (word_token-spelling (words.Thing Site Second))
word_lexes (words.Thing Char First) =
    run_lexes _ 99 (codes "1") (IsLetter-from_test 99 refl) refl (word_token-spelling (words.Thing Char First))
word_lexes (words.Thing Char Second) =
    run_lexes _ 99 (codes "2") (IsLetter-from_test 99 refl) refl (word_token-spelling (words.Thing Char Second))
word_lexes words.Nop = run_lexes _ 110 (codes "op") (IsLetter-from_test 110 refl) refl (word_token-spelling words.Nop)
word_lexes words.End = run_lexes _ 101 (codes "nd") (IsLetter-from_test 101 refl) refl (word_token-spelling words.End)

-- a byte of a digit is nothing else
pub record IsDigit (byte : ℕ) : Type 0 where
  pub line_end : is_line_end byte ≡ false
  pub blank : is_blank byte ≡ false
  pub comment : (byte == 35) ≡ false
  pub letter : is_letter byte ≡ false
  pub digit : is_digit byte ≡ true

-- by the digit
pub IsDigit-below : (d : ℕ) → d < 10 → IsDigit (48 + d)
IsDigit-below d below = record {
  line_end = grind (arith, nat_tests);
  blank = grind (arith, nat_tests);
  comment = grind (arith, nat_tests);
  letter = grind (arith, nat_tests);
  digit = grind (arith, nat_tests);
}

-- a number of one digit is read back
digit_lexes : (byte : ℕ) → IsDigit byte → Lexes (Number (number_from 0 (byte ∷ []))) (byte ∷ [])
unfolding front_of
digit_lexes byte is line column sep after rest ends =
    rw (is.line_end, is.blank, is.comment, is.letter, is.digit, ends.digits) refl

-- a number of two digits is read back
digits_lex : (byte next : ℕ) → IsDigit byte → IsDigit next
    → Lexes (Number (number_from 0 (byte ∷ next ∷ []))) (byte ∷ next ∷ [])
unfolding front_of
digits_lex byte next is is_too line column sep after rest ends =
    rw (is.line_end, is.blank, is.comment, is.letter, is.digit, is_too.digit, ends.digits) refl

-- so is each number up to 99
number_lexes : (n : ℕ) → n ≤ 99 → Lexes (Number n) (decimal n)
number_lexes n small = elim (cases_lt n 10) [ inl below ↦ one below | inr above ↦ two above ] where
  one : n < 10 → Lexes (Number n) (decimal n)
  one below =
      let value : number_from 0 ((48 + n) ∷ []) ≡ n = omega arith in
      let text : decimal n ≡ (48 + n) ∷ [] = decimal_digit n below in
      rw text (subst (λ k. Lexes (Number k) ((48 + n) ∷ [])) value (digit_lexes (48 + n) (IsDigit-below n below)))

  two : 10 ≤ n → Lexes (Number n) (decimal n)
  two above =
      let value : number_from 0 ((48 + n / 10) ∷ (48 + n % 10) ∷ []) ≡ n = omega arith in
      let front : decimal (n / 10) ≡ (48 + n / 10) ∷ [] = decimal_digit (n / 10) (omega arith) in
      let text : decimal n ≡ decimal (n / 10) ++ (48 + n % 10) ∷ [] = decimal_step n above (omega arith) in
      rw (text, front)
      (subst (λ k. Lexes (Number k) ((48 + n / 10) ∷ (48 + n % 10) ∷ [])) value
      (digits_lex (48 + n / 10) (48 + n % 10) (IsDigit-below (n / 10) (omega arith))
      (IsDigit-below (n % 10) (omega arith))))

-- each token that stands within a line is read back
text_lexes : (token : Token) → IsText token → Lexes token (token_bytes token)
unfolding front_of
text_lexes Byte h = absurd h
text_lexes Unknown h = absurd h
text_lexes (Known word) h = word_lexes word
text_lexes (Number n) h = number_lexes n h
text_lexes (Comparison Lt) h = λ line column sep after rest ends. rw (ends.sign) refl
text_lexes (Comparison Le) h = λ line column sep after rest ends. refl
text_lexes (Comparison Eq) h = λ line column sep after rest ends. refl
text_lexes (Sign Plus) h = λ line column sep after rest ends. refl
text_lexes (Sign Minus) h = λ line column sep after rest ends. refl
text_lexes Open h = λ line column sep after rest ends. refl
text_lexes Close h = λ line column sep after rest ends. refl
text_lexes Colon h = λ line column sep after rest ends. refl
text_lexes LineEnd h = absurd h
text_lexes FileEnd h = absurd h

-- what follows a token in its line begins with such a byte
record Follows (tokens : List Token) : Type 0 where
  sep : ℕ
  rest : List ℕ
  is : spelled_from false tokens ≡ sep ∷ rest
  ends : Ends sep

-- there is always such a byte
follows : (tokens : List Token) → InLines false tokens → Follows tokens
follows [] h = absurd (false≢true h)
follows (LineEnd ∷ tokens) h = record {
  sep = 10;
  rest = spelled_from true tokens;
  is = refl;
  ends = record { run = refl; digits = refl; sign = refl };
}
follows (token ∷ tokens) h =
    record {
      sep = 32;
      rest = token_bytes token ++ spelled_from false tokens;
      is = refl;
      ends = record { run = refl; digits = refl; sign = refl };
    }

-- a token within a line and what stands behind it
text_then : (token : Token) (tokens : List Token) (line column : ℕ) (after : Bool)
    → Lexes token (token_bytes token) → InLines false tokens →
    ((line column : ℕ) → seen (spot line column true 0) (spelled_from false tokens) ≡ tokens ++ FileEnd ∷ []) →
    seen (spot line column after 0) (token_bytes token ++ spelled_from false tokens) ≡ token ∷ (tokens ++ FileEnd ∷ [])
text_then token tokens line column after lexes lines others =
    let f = follows tokens lines in
    rw (f.is)
    (lexes line column f.sep after f.rest f.ends
    ∙ ap (λ ts. token ∷ ts) (ap (seen (spot line (further (length (token_bytes token)) column) true 0)) (sym f.is)
    ∙ others line (further (length (token_bytes token)) column)))

-- tokens in whole lines are read back from their bytes
pub lines_lex : (begins : Bool) (tokens : List Token) (line column : ℕ) → InLines begins tokens →
    seen (spot line column (not begins) 0) (spelled_from begins tokens) ≡ tokens ++ FileEnd ∷ []
lines_lex true [] line column h = refl
lines_lex false [] line column h = absurd (false≢true h)
lines_lex true (LineEnd ∷ tokens) line column h = absurd (false≢true (sym h.0))
lines_lex false (LineEnd ∷ tokens) line column h = ap (λ ts. LineEnd ∷ ts) (lines_lex true tokens (line + 1) 1 h.1)
lines_lex true (token ∷ tokens) line column h =
    text_then token tokens line column false (text_lexes token h.0) h.1 (λ l c. lines_lex false tokens l c h.1)
lines_lex false (token ∷ tokens) line column h =
    text_then token tokens line (column + 1) true (text_lexes token h.0) h.1 (λ l c. lines_lex false tokens l c h.1)
