-- The canonical text of a function within the limits is a text of the function.
use Rattle.std.proofs.Common.{◌≡◌, ◌+◌, zero, suc, pos, negsuc, Bool, true, false, not, ◌&&◌, ◌||◌, List, [], ◌∷◌, ◌++◌}
use Rattle.std.proofs.Common.{map, refl, sym, ap, ◌∙◌, cond, inl, inr, append_assoc, append-nil, nat_le, arith}
use Rattle.std.specs.List.{flat_map, list_all}
use Rattle.std.proofs.lemmas.List.{length-map}
use Rattle.std.proofs.lemmas.List.Folds.{list_all-append}
use Rattle.std.proofs.lemmas.Grind.{flat_map-append}
use Rattle.ot_model.specs.declared.op.Mode.{Mode}
use Rattle.ot_model.specs.declared.op.Kind.{Kind}
use Rattle.ot_model.specs.declared.op.TheConstants.{KINDS}
use Rattle.ot_model.specs.Kinds.{is_same_kind}
use Rattle.std.proofs.Math.Path.{fun_ext}
use Rattle.std.proofs.lemmas.Bool.{and_parts, and_from, cases_Bool}
use Rattle.fn_tokens.specs.Kinds.{declares_some}
use Rattle.fn_tokens.specs.declared.language.Language.TheVariants.{One, Two}
use Rattle.fn_tokens.specs.Languages.{has_word, has_words, language_for}
use Rattle.fn_rules.specs.declared.guard.Tightness.TheVariants.{Loose}
use Rattle.fn_rules.specs.declared.function.Head.{Head}
use Rattle.fn_rules.specs.declared.function.Res.{Res}
use Rattle.fn_rules.specs.declared.function.Res.TheVariants as results
use Rattle.fn_rules.specs.Functions.{Function, GuardedCase, cases_of}
use Rattle.fn_rules.specs.Functions.{is_declared, is_declared_pair}
use Rattle.fn_rules.specs.Validity.{has_valid_atoms, is_valid_res, is_valid_case, compares_chars, is_valid}
use Rattle.fn_rules.specs.Building.{has_own_blocks, cases_in, function_from}
use Rattle.fn_tokens.specs.declared.token.Token.{Token}
use Rattle.fn_tokens.specs.declared.token.Token.TheVariants.{Known, Colon, LineEnd, FileEnd}
use Rattle.fn_tokens.specs.declared.token.Word.TheVariants as words
use Rattle.fn_tokens.specs.declared.token.Sign.TheVariants as signs
use Rattle.fn_tokens.specs.declared.control.Written.{Written}
use Rattle.fn_tokens.specs.declared.control.Written.TheVariants as written
use Rattle.fn_tokens.specs.Meaning.{res_of, to_formulas}
use Rattle.fn_grammar.specs.Print.{guard_tokens, result_tokens, case_tokens, block_tokens, present, head_tokens}
use Rattle.fn_grammar.specs.Print.{declared_block, blocks_with, function_tokens, printed}
use Rattle.fn_grammar.specs.Grammar.{WrittenCase, WrittenBlock, result_written_as, case_written_as, block_written_as}
use Rattle.fn_grammar.specs.Grammar.{file_written_as, case_made, block_made, is_allowed_result, is_allowed_case}
use Rattle.fn_grammar.specs.Grammar.{is_allowed_block, is_allowed_file, IsTextOf}
use Rattle.fn_rules.proofs.LimitsKept.{are_valid_cases-valid, cases_of-undeclared}
use Rattle.fn_tokens.proofs.LexesBack.{lines_lex}
use Rattle.fn_grammar.proofs.Printing.Lines.{function_in_lines}
use Rattle.fn_grammar.proofs.OwnBlocks.{head_of, is_written_for, written_for, own_block_of}
use Rattle.fn_grammar.proofs.KindLists.{list_all_from, same_pair}
use Rattle.fn_grammar.proofs.Printing.Guards.{phrase_for, two_digits_up, two_digits_down, IsPhraseOf, phrase_is}

-- the second language has all words
has_words-two : (head : Head) → has_words Two head ≡ true
has_words-two head =
    list_all_from (λ k. not (is_declared head k) || has_word Two k) KINDS (λ k. all (not (is_declared head k)))
  where
    all : (b : Bool) → (b || true) ≡ true
    all true = refl
    all false = refl

-- the language of a canonical text has words for the kinds of its function
pub has_words-language_for : (head : Head) → has_words (language_for head) head ≡ true
has_words-language_for head =
    elim (cases_Bool (has_words One head)) [
      | inl one ↦ rw one one
      | inr other ↦ rw other (has_words-two head)
    ]

-- a result as it is written, with an offset where there is one
abbrev result_for : Res → Written
result_for results.Nop = written.Nop
result_for (results.Keep base (pos zero)) = written.At base
result_for (results.Keep base (pos (suc n))) = written.Moved base signs.Plus (suc n)
result_for (results.Keep base (negsuc n)) = written.Moved base signs.Minus (suc n)

result_written : (kind : Kind) (res : Res) → result_written_as kind (result_for res) ≡ result_tokens kind res
result_written kind results.Nop = refl
result_written kind (results.Keep base (pos zero)) = refl
result_written kind (results.Keep base (pos (suc n))) = refl
result_written kind (results.Keep base (negsuc n)) = refl

res_of-result_for : (res : Res) → res_of (result_for res) ≡ res
res_of-result_for results.Nop = refl
res_of-result_for (results.Keep base (pos zero)) = refl
res_of-result_for (results.Keep base (pos (suc n))) = refl
res_of-result_for (results.Keep base (negsuc n)) = refl

result_allowed : (res : Res) → is_valid_res res ≡ true → is_allowed_result (result_for res) ≡ true
result_allowed results.Nop h = refl
result_allowed (results.Keep base (pos zero)) h = refl
result_allowed (results.Keep base (pos (suc n))) h = two_digits_up (suc n) h
result_allowed (results.Keep base (negsuc n)) h = two_digits_down n h

-- a case as it is written
abbrev case_for : GuardedCase → WrittenCase
case_for c = record { guard = phrase_for Loose c.guard; result = result_for c.res }

guard_is : (chars : Bool) (c : GuardedCase) → is_valid_case chars c ≡ true
    → IsPhraseOf chars (phrase_for Loose c.guard) c.guard
guard_is chars c h = phrase_is chars Loose c.guard (and_parts _ _ (and_parts _ _ (and_parts _ _ h).0).0).0

case_written : (chars : Bool) (kind : Kind) (c : GuardedCase) → is_valid_case chars c ≡ true →
    case_written_as kind (case_for c) ≡ case_tokens kind c
case_written chars kind c h =
    ap (λ x. Known words.Case ∷ x ++ Colon ∷ result_written_as kind (result_for c.res) ++ LineEnd ∷ [])
    (guard_is chars c h).written
    ∙ ap (λ x. Known words.Case ∷ guard_tokens Loose c.guard ++ Colon ∷ x ++ LineEnd ∷ []) (result_written kind c.res)

case_made-case_for : (chars : Bool) (c : GuardedCase) → is_valid_case chars c ≡ true
    → case_made to_formulas (case_for c) ≡ c
case_made-case_for chars c h =
    let guard_made = (guard_is chars c h).means in
    let result_made = res_of-result_for c.res in
    ap (λ g. record { guard = g; res = res_of (result_for c.res) }) guard_made
    ∙ ap (λ r. record { guard = c.guard; res = r }) result_made

case_allowed : (chars : Bool) (c : GuardedCase) → is_valid_case chars c ≡ true
    → is_allowed_case chars (case_for c) ≡ true
case_allowed chars c h =
    let guard = guard_is chars c h in
    let front = (and_parts _ _ (and_parts _ _ h).0).0 in
    and_from _ _ (and_from _ _ (and_from _ _ guard.allowed
    (ap (λ n. nat_le n 16) guard.counted ∙ (and_parts (has_valid_atoms chars c.guard) _ front).1))
    (ap (λ n. nat_le n 32) guard.nested ∙ (and_parts _ _ (and_parts _ _ h).0).1))
    (result_allowed c.res (and_parts _ _ h).1)

cases_written : (chars : Bool) (kind : Kind) (cs : List GuardedCase) → list_all (is_valid_case chars) cs ≡ true →
    flat_map (case_written_as kind) (map case_for cs) ≡ flat_map (case_tokens kind) cs
cases_written chars kind [] h = refl
cases_written chars kind (c ∷ cs) h =
    ap (λ x. x ++ flat_map (case_written_as kind) (map case_for cs)) (case_written chars kind c (and_parts _ _ h).0)
    ∙ ap (λ x. case_tokens kind c ++ x) (cases_written chars kind cs (and_parts (is_valid_case chars c) _ h).1)

cases_made : (chars : Bool) (cs : List GuardedCase) → list_all (is_valid_case chars) cs ≡ true →
    map (case_made to_formulas) (map case_for cs) ≡ cs
cases_made chars [] h = refl
cases_made chars (c ∷ cs) h =
    ap (λ x. x ∷ map (case_made to_formulas) (map case_for cs)) (case_made-case_for chars c (and_parts _ _ h).0)
    ∙ ap (λ x. c ∷ x) (cases_made chars cs (and_parts (is_valid_case chars c) _ h).1)

cases_allowed : (chars : Bool) (cs : List GuardedCase) → list_all (is_valid_case chars) cs ≡ true →
    list_all (is_allowed_case chars) (map case_for cs) ≡ true
cases_allowed chars [] h = refl
cases_allowed chars (c ∷ cs) h =
    and_from _ _ (case_allowed chars c (and_parts _ _ h).0)
    (cases_allowed chars cs (and_parts (is_valid_case chars c) _ h).1)

-- the block of a pair, if the pair is declared
abbrev block_for : Function → Kind → Kind → List WrittenBlock
block_for f k l =
    cond (is_declared_pair f.head k l) (record { first = k; second = l; cases = map case_for (cases_of f k l) } ∷ []) []

abbrev blocks_from : Function → Kind → List WrittenBlock
blocks_from f k = flat_map (block_for f k) KINDS

-- the blocks of a function, in their order
abbrev pub blocks_for : Function → List WrittenBlock
blocks_for f = flat_map (blocks_from f) KINDS

-- the blocks that are written of a function are those that its head asks for
own_blocks : (mode : Mode) (ins del upd sites chars : Bool) (cases : Kind → Kind → List GuardedCase) →
    has_own_blocks (head_of mode ins del upd sites chars)
    (map (block_made to_formulas) (blocks_for (record { head = head_of mode ins del upd sites chars; cases = cases })))
    ≡ true
own_blocks mode true true true sites chars cases = refl
own_blocks mode true true false sites chars cases = refl
own_blocks mode true false true sites chars cases = refl
own_blocks mode true false false sites chars cases = refl
own_blocks mode false true true sites chars cases = refl
own_blocks mode false true false sites chars cases = refl
own_blocks mode false false true sites chars cases = refl
own_blocks mode false false false sites chars cases = refl

function_has_own_blocks : (f : Function) → has_own_blocks f.head (map (block_made to_formulas) (blocks_for f)) ≡ true
function_has_own_blocks f =
    own_blocks f.head.mode f.head.ins f.head.del f.head.upd f.head.sites_differ f.head.chars_differ f.cases

flat_map-inside : {X Y Z : Type 0} (g : Y → List Z) (f : X → List Y) (h : X → List Z) (xs : List X)
    → ((x : X) → flat_map g (f x) ≡ h x) → flat_map g (flat_map f xs) ≡ flat_map h xs
flat_map-inside g f h [] each = refl
flat_map-inside g f h (x ∷ xs) each =
    flat_map-append g (f x) (flat_map f xs)
    ∙ (ap (λ y. y ++ flat_map g (flat_map f xs)) (each x) ∙ ap (λ y. h x ++ y) (flat_map-inside g f h xs each))

list_all-inside : {X Y : Type 0} (p : Y → Bool) (f : X → List Y) (xs : List X) → ((x : X) → list_all p (f x) ≡ true) →
    list_all p (flat_map f xs) ≡ true
list_all-inside p f [] each = refl
list_all-inside p f (x ∷ xs) each = list_all-append p (f x) (flat_map f xs)
    ∙ and_from _ _ (each x) (list_all-inside p f xs each)

regroup : (head blocks : List Token) →
    head ++ blocks ++ Known words.End ∷ LineEnd ∷ [] ++ FileEnd ∷ []
    ≡ head ++ blocks ++ Known words.End ∷ LineEnd ∷ FileEnd ∷ []
regroup head blocks = simp append_assoc

-- the blocks for a pair are made into these cases
module _ (k l : Kind) (cases : List GuardedCase) where
  abbrev Tell : List WrittenBlock → Type 0
  Tell [] = Unit {0}
  Tell (block ∷ others) =
      (is_written_for k l block ≡ true → map (case_made to_formulas) block.cases ≡ cases) × Tell others

  tell_append : (xs ys : List WrittenBlock) → Tell xs → Tell ys → Tell (xs ++ ys)
  tell_append [] ys first then = then
  tell_append (x ∷ xs) ys first then = (first.0, tell_append xs ys first.1 then)

  tell_all : {X : Type 0} (g : X → List WrittenBlock) (xs : List X) → ((x : X) → Tell (g x)) → Tell (flat_map g xs)
  tell_all g [] each = tt
  tell_all g (x ∷ xs) each = tell_append (g x) (flat_map g xs) (each x) (tell_all g xs each)

  cases_in-none : (blocks : List WrittenBlock) → written_for k l blocks ≡ 0
      → cases_in (map (block_made to_formulas) blocks) k l ≡ []
  cases_in-none [] none = refl
  cases_in-none (block ∷ others) none =
      elim (cases_Bool (is_written_for k l block)) [
        | inl here ↦ let some : 1 + written_for k l others ≡ 0 = rw here at none in absurd (omega (arith, some))
        | inr not_here ↦
            let later : 0 + written_for k l others ≡ 0 = rw not_here at none in
            rw not_here (cases_in-none others (omega (arith, later)))
      ]

  cases_in-told : (blocks : List WrittenBlock) → Tell blocks → written_for k l blocks ≡ 1 →
      cases_in (map (block_made to_formulas) blocks) k l ≡ cases
  cases_in-told [] told one = absurd (omega (arith, one))
  cases_in-told (block ∷ others) told one =
      elim (cases_Bool (is_written_for k l block)) [
        | inl here ↦ rw here (told.0 here)
        | inr not_here ↦
            let later : 0 + written_for k l others ≡ 1 = rw not_here at one in
            rw not_here (cases_in-told others told.1 (omega (arith, later)))
      ]

module _ (f : Function) (valid : is_valid f ≡ true) where
  valid_cases : (k l : Kind) → list_all (is_valid_case (compares_chars k l)) (cases_of f k l) ≡ true
  valid_cases k l = (and_parts _ _ (are_valid_cases-valid f k l valid)).1

  -- a block that is for a pair has the cases of the pair
  block_tells : (k l i j : Kind) → Tell k l (cases_of f k l) (block_for f i j)
  block_tells k l i j = one (is_declared_pair f.head i j)
    where
      told : (is_same_kind i k && is_same_kind j l) ≡ true
          → map (case_made to_formulas) (map case_for (cases_of f i j)) ≡ cases_of f k l
      told same =
          cases_made (compares_chars i j) (cases_of f i j) (valid_cases i j)
          ∙ same_pair (λ x y. cases_of f i j ≡ cases_of f x y) i j k l same refl

      one : (declared : Bool) →
          Tell k l (cases_of f k l)
          (cond declared (record { first = i; second = j; cases = map case_for (cases_of f i j) } ∷ []) [])
      one true = (told, tt)
      one false = tt

  -- the cases of each pair are made again from what is written
  cases_stay : (k l : Kind) → cases_in (map (block_made to_formulas) (blocks_for f)) k l ≡ cases_of f k l
  cases_stay k l =
      let own = own_block_of f.head (blocks_for f) k l (function_has_own_blocks f) in
      let told = tell_all k l (cases_of f k l) (blocks_from f) KINDS
      (λ i. tell_all k l (cases_of f k l) (block_for f i) KINDS (λ j. block_tells k l i j)) in
      elim (cases_Bool (is_declared_pair f.head k l)) [
        | inl declared ↦ cases_in-told k l (cases_of f k l) (blocks_for f) told (own ∙ ap (λ b. cond b 1 0) declared)
        | inr undeclared ↦
            cases_in-none k l (cases_of f k l) (blocks_for f) (own ∙ ap (λ b. cond b 1 0) undeclared)
            ∙ sym (cases_of-undeclared f k l valid undeclared)
      ]

  -- the blocks of a function within the limits mean the function
  means_function : function_from f.head (map (block_made to_formulas) (blocks_for f)) ≡ f
  means_function =
      ap (λ (x : Kind → Kind → List GuardedCase). let g : Function = record { head = f.head; cases = x } in g)
      (fun_ext (λ k. fun_ext (λ l. cases_stay k l)))

  one_written : (declared : Bool) (block : WrittenBlock) (tokens : List Token) → block_written_as block ≡ tokens →
      flat_map block_written_as (cond declared (block ∷ []) []) ≡ present declared tokens
  one_written true block tokens e = append-nil (block_written_as block) ∙ e
  one_written false block tokens e = refl

  -- the block of a pair is written as it is printed, and none is where the pair is not declared
  pair_written : (k l : Kind) → flat_map block_written_as (block_for f k l) ≡ declared_block f k l
  unfolding declared_block
  pair_written k l =
      one_written (is_declared_pair f.head k l) record {
        first = k;
        second = l;
        cases =
            map case_for (cases_of f k l);
      } (block_tokens k l (cases_of f k l))
      (ap (λ x. Known words.Block ∷ Known (words.Kind k) ∷ Known (words.Kind l) ∷ LineEnd ∷ x)
      (cases_written (compares_chars k l) k (cases_of f k l) (valid_cases k l)))

  -- the canonical text is written by the blocks of the function
  function_written : function_tokens f ++ FileEnd ∷ [] ≡ file_written_as (language_for f.head) f.head (blocks_for f)
  function_written =
      regroup (head_tokens (language_for f.head) f.head) (flat_map (blocks_with f) KINDS)
      ∙ ap (λ x. head_tokens (language_for f.head) f.head ++ x ++ Known words.End ∷ LineEnd ∷ FileEnd ∷ [])
      (sym (flat_map-inside block_written_as (blocks_from f) (blocks_with f) KINDS
      (λ k. flat_map-inside block_written_as (block_for f k) (declared_block f k) KINDS (pair_written k))))

  one_allowed : (declared : Bool) (block : WrittenBlock) → is_allowed_block block ≡ true →
      list_all is_allowed_block (cond declared (block ∷ []) []) ≡ true
  one_allowed true block h = and_from _ _ h refl
  one_allowed false block h = refl

  pair_allowed : (k l : Kind) → list_all is_allowed_block (block_for f k l) ≡ true
  pair_allowed k l =
      one_allowed (is_declared_pair f.head k l) record { first = k; second = l; cases = map case_for (cases_of f k l) }
      (and_from _ _ (ap (λ n. nat_le n 64) (length-map (cases_of f k l) case_for) ∙ (and_parts _ _
      (are_valid_cases-valid f k l valid)).0) (cases_allowed (compares_chars k l) (cases_of f k l) (valid_cases k l)))

  file_allowed : is_allowed_file (language_for f.head) f.head (blocks_for f) ≡ true
  file_allowed =
      and_from _ _ (and_from _ _ (and_from _ _ (and_parts (declares_some f.head) _ valid).0 (function_has_own_blocks f))
      (list_all-inside is_allowed_block (blocks_from f) KINDS
      (λ k. list_all-inside is_allowed_block (block_for f k) KINDS (pair_allowed k)))) (has_words-language_for f.head)

-- the canonical text of a function within the limits is a text of it
pub printed_is_text : (f : Function) → is_valid f ≡ true → IsTextOf (printed f) f
printed_is_text f valid = record {
  language = language_for f.head;
  head = f.head;
  blocks = blocks_for f;
  allowed = file_allowed f valid;
  written = lines_lex true (function_tokens f) 1 1 (function_in_lines f valid) ∙ function_written f valid;
  means = sym (means_function f valid);
}
