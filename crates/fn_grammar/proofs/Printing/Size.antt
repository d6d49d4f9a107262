-- The canonical text of a function within the limits is short.
use Rattle.std.proofs.Common.{◌≡◌, ℕ, zero, suc, ◌+◌, ◌*◌, ◌^◌, ◌<◌, ◌≤◌, ℤ, pos, negsuc, Bool, true, false, List, []}
use Rattle.std.proofs.Common.{◌∷◌, ◌++◌, length, cond, refl, length-append, arith}
use Rattle.std.specs.List.{flat_map, list_all}
use Rattle.std.proofs.lemmas.Bool.{and_parts, leb-true}
use Rattle.std.proofs.Math.Nat.{suc-mul}
use Rattle.ot_model.specs.declared.op.Kind.{Kind}
use Rattle.ot_model.specs.declared.op.TheConstants.{KINDS}
use Rattle.fn_rules.specs.declared.guard.Tightness.{Tightness}
use Rattle.fn_rules.specs.declared.guard.Tightness.TheVariants.{Loose, Joined, Tight}
use Rattle.fn_rules.specs.declared.function.Res.{Res}
use Rattle.fn_rules.specs.declared.function.Res.TheVariants as results
use Rattle.fn_rules.specs.declared.function.Head.{Head}
use Rattle.fn_rules.specs.Formulas.{Formula}
use Rattle.fn_rules.specs.Formulas as formulas
use Rattle.fn_rules.specs.Functions.{Function, GuardedCase, cases_of, is_declared, is_declared_pair}
use Rattle.fn_rules.specs.Validity.{is_valid, is_valid_case, compares_chars, atoms_of, nesting_of, parentheses_of_or}
use Rattle.fn_rules.specs.Validity.{parentheses_of_and}
use Rattle.fn_rules.proofs.LimitsKept.{are_valid_cases-valid}
use Rattle.fn_tokens.specs.declared.token.Token.{Token}
use Rattle.fn_tokens.specs.declared.token.Token.TheVariants.{Known, Close, Colon, LineEnd}
use Rattle.fn_tokens.specs.declared.token.Word.{Word}
use Rattle.fn_tokens.specs.declared.token.Word.TheVariants as words
use Rattle.fn_tokens.proofs.Size.{spelled_size}
use Rattle.fn_tokens.specs.declared.language.Language.{Language}
use Rattle.fn_tokens.specs.Languages.{language_for}
use Rattle.fn_grammar.specs.Print.{offset_tokens, enclosed, and_is_enclosed, or_is_enclosed, guard_tokens}
use Rattle.fn_grammar.specs.Print.{result_tokens, case_tokens, block_tokens, present, assumption_tokens, first_lines}
use Rattle.fn_grammar.specs.Print.{kind_tokens, head_tokens, declared_block, blocks_with, function_tokens, printed}
use Rattle.fn_grammar.proofs.Printing.Lines.{function_in_lines}

offset_size : (k : ℤ) → length (offset_tokens k) ≤ 2
offset_size (pos zero) = omega arith
offset_size (pos (suc n)) = omega arith
offset_size (negsuc n) = omega arith

enclosed_size : (test : Bool) (xs : List Token) → length (enclosed test xs) ≡ 2 * cond test 1 0 + length xs
enclosed_size true xs = let inside = length-append xs (Close ∷ []) in omega (arith, inside)
enclosed_size false xs = omega arith

and_parentheses : (at : Tightness) → cond (and_is_enclosed at) 1 0 ≡ parentheses_of_and at
and_parentheses Loose = refl
and_parentheses Joined = refl
and_parentheses Tight = refl

or_parentheses : (at : Tightness) → cond (or_is_enclosed at) 1 0 ≡ parentheses_of_or at
or_parentheses Loose = refl
or_parentheses Joined = refl
or_parentheses Tight = refl

-- two guards with a word between them
joined_size : (parentheses : Bool) (word : Word) (xs ys : List Token) →
    length (enclosed parentheses (xs ++ Known word ∷ ys)) ≡ 2 * cond parentheses 1 0 + (length xs + (1 + length ys))
joined_size parentheses word xs ys =
    let whole = enclosed_size parentheses (xs ++ Known word ∷ ys) in
    let parts = length-append xs (Known word ∷ ys) in
    omega (arith, whole, parts)

-- a guard inside so many `(` and `not`: each atom pays for all that is around it
guard_size : (depth : ℕ) (at : Tightness) (g : Formula) → depth + nesting_of at g ≤ 32 →
    length (guard_tokens at g) + 1 + 2 * depth ≤ 70 * atoms_of g
guard_size depth at formulas.Always within = omega (arith, within)
guard_size depth at (formulas.Compare atom) within = let offset = offset_size atom.k in omega (arith, within, offset)
guard_size depth at (formulas.And g h) within =
    let p : ℕ = parentheses_of_and at in
    let first = guard_size (depth + p) Joined g (omega (arith, within)) in
    let second = guard_size (depth + p) Tight h (omega (arith, within)) in
    let whole = joined_size (and_is_enclosed at) words.And (guard_tokens Joined g) (guard_tokens Tight h) in
    let same = and_parentheses at in
    omega (arith, first, second, whole, same)
guard_size depth at (formulas.Or g h) within =
    let p : ℕ = parentheses_of_or at in
    let first = guard_size (depth + p) Loose g (omega (arith, within)) in
    let second = guard_size (depth + p) Joined h (omega (arith, within)) in
    let whole = joined_size (or_is_enclosed at) words.Or (guard_tokens Loose g) (guard_tokens Joined h) in
    let same = or_parentheses at in
    omega (arith, first, second, whole, same)
guard_size depth at (formulas.Not g) within =
    let inner = guard_size (depth + 1) Tight g (omega (arith, within)) in
    omega (arith, inner)

result_size : (kind : Kind) (res : Res) → length (result_tokens kind res) ≤ 4
result_size kind (results.Keep base k) = let offset = offset_size k in omega (arith, offset)
result_size kind results.Nop = omega arith

case_size : (chars : Bool) (kind : Kind) (c : GuardedCase) → is_valid_case chars c ≡ true
    → length (case_tokens kind c) ≤ 1200
case_size chars kind c valid =
    let front = (and_parts _ _ valid).0 in
    let shallow : nesting_of Loose c.guard ≤ 32 = leb-true _ _ (and_parts _ _ front).1 in
    let few : atoms_of c.guard ≤ 16 = leb-true _ _ (and_parts _ _ (and_parts _ _ front).0).1 in
    let guard = guard_size 0 Loose c.guard (omega (arith, shallow)) in
    let result = result_size kind c.res in
    let one = length-append (Known words.Case ∷ guard_tokens Loose c.guard) (Colon ∷ result_tokens kind c.res) in
    let whole = length-append (Known words.Case ∷ guard_tokens Loose c.guard ++ Colon ∷ result_tokens kind c.res)
    (LineEnd ∷ []) in
    omega (arith, guard, few, result, one, whole)

cases_size : (chars : Bool) (kind : Kind) (cs : List GuardedCase) → list_all (is_valid_case chars) cs ≡ true →
    length (flat_map (case_tokens kind) cs) ≤ 1200 * length cs
cases_size chars kind [] valid = omega arith
cases_size chars kind (c ∷ cs) valid =
    let parts = and_parts (is_valid_case chars c) (list_all (is_valid_case chars) cs) valid in
    let here = case_size chars kind c parts.0 in
    let others = cases_size chars kind cs parts.1 in
    let both = length-append (case_tokens kind c) (flat_map (case_tokens kind) cs) in
    omega (arith, here, others, both)

present_size : (test : Bool) (tokens : List Token) → length (present test tokens) ≤ length tokens
present_size true tokens = omega arith
present_size false tokens = omega arith

-- what each of a list gives is no longer, so all of it is short
each_size : {X : Type 0} (m : ℕ) (g : X → List Token) (xs : List X) → ((x : X) → length (g x) ≤ m)
    → length (flat_map g xs) ≤ length xs * m
each_size m g [] each = omega arith
each_size m g (x ∷ xs) each =
    let here = each x in
    let others = each_size m g xs each in
    let both = length-append (g x) (flat_map g xs) in
    let sum = suc-mul (length xs) m in
    omega (arith, here, others, both, sum)

-- each pair of kinds has 64 cases at most
block_size : (f : Function) → is_valid f ≡ true → (k l : Kind) → length (declared_block f k l) ≤ 77000
unfolding declared_block
block_size f valid k l =
    let parts = and_parts _ _ (are_valid_cases-valid f k l valid) in
    let few : length (cases_of f k l) ≤ 64 = leb-true _ _ parts.0 in
    let cases = cases_size (compares_chars k l) k (cases_of f k l) parts.1 in
    let shown = present_size (is_declared_pair f.head k l) (block_tokens k l (cases_of f k l)) in
    omega (arith, few, cases, shown)

-- the lines of a head have at most 100 tokens
head_size : (language : Language) (head : Head) → length (head_tokens language head) ≤ 100
unfolding head_tokens
head_size language head =
    let kinds = each_size 1 (kind_tokens head) KINDS
    (λ k. present_size (is_declared head k) (Known (words.Kind k) ∷ [])) in
    let sites = present_size head.sites_differ
    (Known words.Assume ∷ Known words.Sites ∷ Known words.Differ ∷ LineEnd ∷ []) in
    let chars = present_size head.chars_differ
    (Known words.Assume ∷ Known words.Chars ∷ Known words.Differ ∷ LineEnd ∷ []) in
    let line = first_lines language head.mode ++ Known words.Kinds ∷ flat_map (kind_tokens head) KINDS in
    let one = length-append (first_lines language head.mode) (Known words.Kinds ∷ flat_map (kind_tokens head) KINDS) in
    let two = length-append line (LineEnd ∷ []) in
    let three = length-append (line ++ LineEnd ∷ []) (assumption_tokens head.sites_differ words.Sites) in
    let four = length-append (line ++ LineEnd ∷ [] ++ assumption_tokens head.sites_differ words.Sites)
    (assumption_tokens head.chars_differ words.Chars) in
    omega (arith, kinds, sites, chars, one, two, three, four)

function_size : (f : Function) → is_valid f ≡ true → length (function_tokens f) ≤ 1000000
function_size f valid =
    let head = head_size (language_for f.head) f.head in
    let blocks = each_size (length KINDS * 77000) (blocks_with f) KINDS
    (λ k. each_size 77000 (declared_block f k) KINDS (block_size f valid k)) in
    let one = length-append (head_tokens (language_for f.head) f.head) (flat_map (blocks_with f) KINDS) in
    let whole = length-append (head_tokens (language_for f.head) f.head ++ flat_map (blocks_with f) KINDS)
    (Known words.End ∷ LineEnd ∷ []) in
    omega (arith, head, blocks, one, whole)

-- the canonical text of a function within the limits can be read
pub printed_is_short : (f : Function) → is_valid f ≡ true → length (printed f) < 2 ^ 31
printed_is_short f valid =
    let tokens = function_size f valid in
    let bytes = spelled_size true (function_tokens f) (function_in_lines f valid) in
    omega (arith, tokens, bytes)
