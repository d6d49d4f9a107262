-- Of the text of tokens these tokens are read.
use Rattle.std.proofs.Common.{◌≡◌, ℕ, suc, ◌^◌, ◌<◌, ◌==◌, false, None, Some, List, [], ◌∷◌, ◌++◌, length, take, drop}
use Rattle.std.proofs.Common.{get_or, Fits, w32, refl, sym, ap, ◌∙◌, arith, subst, append_assoc, length-append}
use Rattle.std.proofs.lemmas.Bool.Decides.{nat_tests}
use Rattle.std.proofs.lemmas.Fmt.{decimal_is_IsNumeral}
use Rattle.std.proofs.lemmas.Grind.{flat_map-append}
use Rattle.std.proofs.lemmas.List.{append-nil, take-append-le, drop-append-le}
use Rattle.std.proofs.lemmas.Str.Parse.{digit_from_value}
use Rattle.std.proofs.Math.Seq.{append_snoc}
use Rattle.std.specs.Fmt.{decimal}
use Rattle.std.specs.List.{AllByRecursion}
use Rattle.std.specs.Str.Parse.{AllDigits, digits_value}
use Rattle.ask_core.specs.declared.tree.Tok.{Tok}
use Rattle.ask_core.specs.declared.tree.Tok.TheVariants as token
use Rattle.cert_text.specs.Numbers.{more_numbers_text}
use Rattle.cert_text.specs.Spelling.{token_text, tokens_text}
use Rattle.cert_text.specs.TreeTexts.{with_number, read_on, tokens_read, HasWords, IsTreeText, Written, with_token}
use Rattle.cert_text.specs.TreeTexts.{tree_at, IsTreeAt}

-- digits within a cycle are put behind those before them
read_digits :
    (digits before rest numbers : List ℕ) → AllDigits 10 digits
    → read_on (Some (numbers, before)) (digits ++ rest) ≡ read_on (Some (numbers, before ++ digits)) rest
read_digits [] before rest numbers all = ap (λ (l : List ℕ). read_on (Some (numbers, l)) rest) (sym (append-nil before))
read_digits (d ∷ digits) before rest numbers all =
    let range = digit_from_value d all.0 in
    let no_end : (d == 59) ≡ false = grind (arith, nat_tests, range.0, range.1) in
    let no_comma : (d == 44) ≡ false = grind (arith, nat_tests, range.0, range.1) in
    rw (no_end, no_comma)
    (read_digits digits (before ++ d ∷ []) rest numbers all.1
    ∙ ap (λ (l : List ℕ). read_on (Some (numbers, l)) rest) (append_snoc before d digits))

-- digits are the number that they write
with_digits : (numbers digits : List ℕ) → 0 < length digits
    → with_number numbers digits ≡ numbers ++ digits_value 10 digits ∷ []
with_digits numbers [] some = absurd (omega arith)
with_digits numbers (d ∷ digits) some = refl

with_decimal : (numbers : List ℕ) (n : ℕ) → n < 2 ^ 64 → with_number numbers (decimal n) ≡ numbers ++ n ∷ []
with_decimal numbers n small =
    let is = decimal_is_IsNumeral n small in
    with_digits numbers (decimal n) is.0.0 ∙ ap (λ (k : ℕ). numbers ++ k ∷ []) is.1

-- the further numbers of a cycle, and its end
read_numbers :
    (others numbers : List ℕ) (n : ℕ) (rest : List ℕ) → n < 2 ^ 32 → AllByRecursion (λ k. k < 2 ^ 32) others
    → read_on (Some (numbers, decimal n)) (more_numbers_text others ++ 59 ∷ rest)
    ≡ token.Cycle (numbers ++ n ∷ others) ∷ read_on None rest
read_numbers [] numbers n rest small all =
    ap (λ (l : List ℕ). token.Cycle l ∷ read_on None rest) (with_decimal numbers n (omega (arith, small)))
read_numbers (k ∷ others) numbers n rest small all =
    let text : List ℕ = (decimal k ++ more_numbers_text others) ++ 59 ∷ rest in
    ap (λ (l : List ℕ). read_on (Some (l, [])) text) (with_decimal numbers n (omega (arith, small)))
    ∙ ap (λ (l : List ℕ). read_on (Some (numbers ++ n ∷ [], [])) l)
    (append_assoc (decimal k) (more_numbers_text others) (59 ∷ rest))
    ∙ read_digits (decimal k) [] (more_numbers_text others ++ 59 ∷ rest) (numbers ++ n ∷ [])
    (decimal_is_IsNumeral k (omega (arith, all.0))).0.1
    ∙ read_numbers others (numbers ++ n ∷ []) k rest all.0 all.1
    ∙ ap (λ (l : List ℕ). token.Cycle l ∷ read_on None rest) (append_snoc numbers n (k ∷ others))

-- a token is read of its text
read_token : (tok : Tok) (rest : List ℕ) → HasWords tok
    → read_on None (token_text tok ++ rest) ≡ tok ∷ read_on None rest
read_token token.Ask rest words = refl
read_token token.Holds rest words = refl
read_token (token.Cycle []) rest words = refl
read_token (token.Cycle (n ∷ others)) rest words =
    ap (λ (l : List ℕ). read_on (Some ([], [])) l)
    (append_assoc (decimal n ++ more_numbers_text others) (59 ∷ []) rest
    ∙ append_assoc (decimal n) (more_numbers_text others) (59 ∷ rest))
    ∙ read_digits (decimal n) [] (more_numbers_text others ++ 59 ∷ rest) []
    (decimal_is_IsNumeral n (omega (arith, words.0))).0.1
    ∙ read_numbers others [] n rest words.0 words.1

read_tokens :
    (tokens : List Tok) (rest : List ℕ) → AllByRecursion HasWords tokens
    → read_on None (tokens_text tokens ++ rest) ≡ tokens ++ read_on None rest
read_tokens [] rest all = refl
read_tokens (tok ∷ tokens) rest all =
    ap (λ (l : List ℕ). read_on None l) (append_assoc (token_text tok) (tokens_text tokens) rest)
    ∙ read_token tok (tokens_text tokens ++ rest) all.0
    ∙ ap (λ (l : List Tok). tok ∷ l) (read_tokens tokens rest all.1)

words-push :
    (tokens : List Tok) (tok : Tok) → AllByRecursion HasWords tokens → HasWords tok
    → AllByRecursion HasWords (tokens ++ tok ∷ [])
words-push [] tok all words = (words, tt)
words-push (t ∷ tokens) tok all words = (all.0, words-push tokens tok all.1 words)

-- behind a text with one more token, that token is read behind the others
read_pushed :
    (text new : List ℕ) (tok : Tok) → IsTreeText text → HasWords tok → new ≡ text ++ token_text tok
    → tokens_read new ≡ tokens_read text ++ tok ∷ []
read_pushed text new tok h words is =
    ap (λ (l : List ℕ). read_on None l) (is ∙ ap (λ (l : List ℕ). l ++ token_text tok) h.1)
    ∙ read_tokens (tokens_read text) (token_text tok) h.0
    ∙ ap (λ (l : List Tok). tokens_read text ++ l)
    (ap (λ (l : List ℕ). read_on None l) (sym (append-nil (token_text tok))) ∙ read_token tok [] words)

IsTreeText-pushed :
    (text new : List ℕ) (tok : Tok) → IsTreeText text → HasWords tok → new ≡ text ++ token_text tok → IsTreeText new
IsTreeText-pushed text new tok h words is =
    let read : tokens_read new ≡ tokens_read text ++ tok ∷ [] = read_pushed text new tok h words is in (
      subst (λ (l : List Tok). AllByRecursion HasWords l) (sym read) (words-push (tokens_read text) tok h.0 words),
      is ∙ ap (λ (l : List ℕ). l ++ token_text tok) h.1
          ∙ sym (ap (λ (l : List Tok). tokens_text l) read
          ∙ flat_map-append token_text (tokens_read text) (tok ∷ [])
          ∙ ap (λ (l : List ℕ). tokens_text (tokens_read text) ++ l) (append-nil (token_text tok))),
    )

-- a token was put behind a tree
pub IsTreeAt-pushed :
    (start : ℕ) (text new : List ℕ) (tok : Tok) → IsTreeAt start text → HasWords tok → new ≡ text ++ token_text tok
    → IsTreeAt start new
IsTreeAt-pushed start text new tok h words is =
    let rest : drop start (text ++ token_text tok) ≡ drop start text ++ token_text tok =
    drop-append-le start text (token_text tok) h.0 in
    rw is (
      omega (arith, h.0, length-append text (token_text tok)),
      IsTreeText-pushed (drop start text) (drop start (text ++ token_text tok)) tok h.1 words rest,
    )

pub pushed_token :
    (start : ℕ) (text new : List ℕ) (tok : Tok) (tree : Written) → IsTreeAt start text
    → tree_at start text ≡ tree → HasWords tok
    → new ≡ text ++ token_text tok → tree_at start new ≡ with_token tree tok
pushed_token start text new tok tree h are words is =
    let rest : drop start (text ++ token_text tok) ≡ drop start text ++ token_text tok =
    drop-append-le start text (token_text tok) h.0 in
    ap (λ (l : List ℕ). tree_at start l) is
    ∙ ap (λ (l : List ℕ). record { front = l; tokens = tokens_read (drop start (text ++ token_text tok)) })
    (take-append-le start text (token_text tok) h.0)
    ∙ ap (λ (l : List Tok). record { front = take start text; tokens = l })
    (read_pushed (drop start text) (drop start (text ++ token_text tok)) tok h.1 words rest)
    ∙ ap (λ (t : Written). with_token t tok) are

-- the numbers of a list have 32 bits where each of its elements has
pub HasWords-cycle : (picks : List ℕ) → ((i : ℕ) → Fits w32 (get_or picks i 0)) → HasWords (token.Cycle picks)
HasWords-cycle [] fits = tt
HasWords-cycle (n ∷ picks) fits = (omega (arith, fits 0), HasWords-cycle picks (λ i. fits (suc i)))

-- behind a question, which has one byte
pub behind_question :
    (old new : List ℕ) (picks : List ℕ) → new ≡ old ++ 63 ∷ token_text (token.Cycle picks)
    → new ≡ (old ++ token_text token.Ask) ++ token_text (token.Cycle picks)
behind_question old new picks is = is ∙ sym (append_assoc old (63 ∷ []) (token_text (token.Cycle picks)))
