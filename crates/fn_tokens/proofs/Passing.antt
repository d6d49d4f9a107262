-- What is behind the bytes that belong to a token or comment.
use Rattle.std.proofs.Common.{◌≡◌, ℕ, zero, suc, ◌+◌, ◌-◌, ◌<◌, ◌≤◌, Bool, true, false, true≢false, nat_lt, Option}
use Rattle.std.proofs.Common.{Some, None, is_some, List, [], ◌∷◌, ◌++◌, length, take, drop, get_or, refl, sym, ap, ◌∙◌}
use Rattle.std.proofs.Common.{arith, rules}
use Rattle.std.specs.Option.{option_to_list}
use Rattle.std.proofs.lemmas.List.{drop-drop, length-drop, take_rest}
use Rattle.fn_tokens.specs.declared.token.Placed.{Placed}
use Rattle.fn_tokens.specs.declared.lexer.Cursor.{Cursor}
use Rattle.fn_tokens.specs.Tokens.{tokens_from, tokens_at, cursor_after, stepped}

-- none begins at one of them
belongs :
    (at : Cursor) (byte : ℕ) (rest : List ℕ) → nat_lt 0 at.skip ≡ true
    → tokens_from at (byte ∷ rest) ≡ tokens_from (stepped at at.after (at.skip - 1)) rest
belongs at byte rest some = rw some refl

passed_from :
    (line : ℕ) (after : Bool) (skip column : ℕ) (bytes : List ℕ) → skip ≤ length bytes
    → tokens_from (record { line = line; column = column; after = after; skip = skip }) bytes
    ≡ tokens_from (record { line = line; column = column + skip; after = after; skip = 0 }) (drop skip bytes)
passed_from line after zero column bytes within =
    let same : column ≡ column + 0 = omega arith in
    ap (λ n. tokens_from (record { line = line; column = n; after = after; skip = 0 }) bytes) same
passed_from line after (suc skip) column [] within = absurd (omega arith)
passed_from line after (suc skip) column (byte ∷ rest) within =
    let some : nat_lt 0 (suc skip) ≡ true = search (rules, arith) in
    let next : skip ≤ length rest = omega arith in
    let left : suc skip - 1 ≡ skip = omega arith in
    let same : column + 1 + skip ≡ column + suc skip = omega arith in
    belongs (record { line = line; column = column; after = after; skip = suc skip }) byte rest some
    ∙ ap (λ n. tokens_from (record { line = line; column = column + 1; after = after; skip = n }) rest) left
    ∙ passed_from line after skip (column + 1) rest next
    ∙ ap (λ n. tokens_from (record { line = line; column = n; after = after; skip = 0 }) (drop skip rest)) same

pub passed :
    (at : Cursor) (bytes : List ℕ) → at.skip ≤ length bytes
    → tokens_from at bytes
    ≡ tokens_from (record { line = at.line; column = at.column + at.skip; after = at.after; skip = 0 })
    (drop at.skip bytes)
passed at bytes within = passed_from at.line at.after at.skip at.column bytes within

-- what is behind a place where none of the bytes belongs to what began before
at_front :
    (at : Cursor) (bytes : List ℕ) → 0 < length bytes
    → tokens_from at bytes ≡ tokens_at at (get_or bytes 0 0) (drop 1 bytes)
    ++ tokens_from (cursor_after at (get_or bytes 0 0) (drop 1 bytes)) (drop 1 bytes)
at_front at [] some = absurd (omega arith)
at_front at (byte ∷ rest) some = refl

-- the tokens from a place on are those at its byte and those behind what belongs to them
pub goes_on :
    (from next behind : Cursor) (found : List Placed) (at : ℕ) (bytes : List ℕ) → at < length bytes
    → found ≡ tokens_at from (get_or (take (length bytes - at) (drop at bytes)) 0 0)
    (drop 1 (take (length bytes - at) (drop at bytes)))
    → next ≡ cursor_after from (get_or (take (length bytes - at) (drop at bytes)) 0 0)
    (drop 1 (take (length bytes - at) (drop at bytes)))
    → tokens_from next (take (length bytes - (at + 1)) (drop (at + 1) bytes))
    ≡ tokens_from behind (drop next.skip (take (length bytes - (at + 1)) (drop (at + 1) bytes)))
    → tokens_from from (drop at bytes) ≡ found ++ tokens_from behind (drop (at + (1 + next.skip)) bytes)
goes_on from next behind found at bytes within tokens place rest =
    let here : take (length bytes - at) (drop at bytes) ≡ drop at bytes = take_rest bytes at in
    let there : take (length bytes - (at + 1)) (drop (at + 1) bytes) ≡ drop (at + 1) bytes = take_rest bytes (at + 1) in
    let some : 0 < length (drop at bytes) = rw (length-drop at bytes) (omega arith) in
    let one : drop 1 (drop at bytes) ≡ drop (at + 1) bytes = drop-drop 1 at bytes in
    let sum : at + 1 + next.skip ≡ at + (1 + next.skip) = omega arith in
    let far : drop next.skip (drop (at + 1) bytes) ≡ drop (at + (1 + next.skip)) bytes =
    drop-drop next.skip (at + 1) bytes ∙ ap (λ n. drop n bytes) sum in
    let first : List Placed = tokens_at from (get_or (drop at bytes) 0 0) (drop 1 (drop at bytes)) in
    at_front from (drop at bytes) some
    ∙ ap (λ c. first ++ tokens_from c (drop 1 (drop at bytes))) (sym (rw here at place))
    ∙ ap (λ left. first ++ tokens_from next left) one
    ∙ ap (λ left. first ++ left) (rw (there, far) at rest)
    ∙ ap (λ here. here ++ tokens_from behind (drop (at + (1 + next.skip)) bytes)) (sym (rw here at tokens))

-- where there is none, the tokens are those behind
pub none_there :
    (found : Option Placed) (tokens behind : List Placed) → is_some found ≡ false
    → tokens ≡ option_to_list found ++ behind
    → behind ≡ tokens
none_there None tokens behind none e = sym e
none_there (Some token) tokens behind none e = absurd (true≢false none)

pub size_left : (bytes : List ℕ) (at : ℕ) → length (take (length bytes - at) (drop at bytes)) ≡ length bytes - at
size_left bytes at = rw (take_rest bytes at) (length-drop at bytes)
