-- The tokens of a function within the limits stand in whole lines.
use Rattle.std.proofs.lemmas.Bool.{and_parts}
use Rattle.std.proofs.Common.{◌≡◌, zero, suc, ◌≤◌, ℤ, pos, negsuc, Bool, true, false, List, [], ◌∷◌, ◌++◌, refl}
use Rattle.std.proofs.Common.{append_assoc, lit≤}
use Rattle.std.specs.Prelude.{unsigned_abs}
use Rattle.std.specs.List.{flat_map, list_all}
use Rattle.ot_model.specs.declared.op.Mode.{Mode}
use Rattle.ot_model.specs.declared.op.Kind.{Kind}
use Rattle.ot_model.specs.declared.op.TheConstants.{KINDS}
use Rattle.fn_rules.specs.Functions.{is_declared}
use Rattle.fn_rules.specs.declared.guard.Atom.{Atom}
use Rattle.fn_rules.specs.declared.guard.Tightness.{Tightness}
use Rattle.fn_rules.specs.declared.guard.Tightness.TheVariants.{Loose, Joined, Tight}
use Rattle.fn_rules.specs.declared.function.Res.{Res}
use Rattle.fn_rules.specs.declared.function.Res.TheVariants as results
use Rattle.fn_rules.specs.declared.function.Head.{Head}
use Rattle.fn_rules.specs.Formulas.{Formula, Always, Compare, And, Or, Not}
use Rattle.fn_rules.specs.Functions.{Function, GuardedCase, cases_of}
use Rattle.fn_rules.specs.Functions.{is_declared_pair}
use Rattle.fn_rules.specs.Validity.{is_valid, is_valid_case, compares_chars}
use Rattle.fn_tokens.specs.declared.token.Token.{Token}
use Rattle.fn_tokens.specs.declared.token.Token.TheVariants.{Known, Close, Colon, LineEnd}
use Rattle.fn_tokens.specs.declared.token.Word.{Word}
use Rattle.fn_tokens.specs.declared.token.Word.TheVariants as words
use Rattle.fn_tokens.specs.declared.language.Language.{Language}
use Rattle.fn_tokens.specs.declared.language.Language.TheVariants.{One, Two}
use Rattle.fn_tokens.specs.Languages.{number_of, language_for}
use Rattle.fn_grammar.specs.Offsets.{HasOffset, HasOffsets, HasResultOffset, HasCaseOffsets}
use Rattle.fn_grammar.specs.Print.{offset_tokens, atom_tokens, enclosed, and_is_enclosed, or_is_enclosed, guard_tokens}
use Rattle.fn_grammar.specs.Print.{result_tokens, case_tokens, block_tokens, present, assumption_tokens, first_lines}
use Rattle.fn_grammar.specs.Print.{kind_tokens, head_tokens, declared_block, blocks_with, function_tokens}
use Rattle.fn_grammar.proofs.Printing.Offsets.{case_has_offsets}
use Rattle.fn_rules.proofs.LimitsKept.{are_valid_cases-valid}
use Rattle.fn_tokens.specs.Spelling.{InLines}

-- what follows these tokens in lines stands in lines with them
abbrev Leads : Bool → List Token → Bool → Type 0
Leads begins tokens ends = (rest : List Token) → InLines ends rest → InLines begins (tokens ++ rest)

-- one such list of tokens after another
leads_then : (a b c : Bool) (xs ys : List Token) → Leads a xs b → Leads b ys c → Leads a (xs ++ ys) c
leads_then a b c xs ys f g = λ rest h. rw append_assoc (f (ys ++ rest) (g rest h))

-- an offset stands within a line
offset_leads : (k : ℤ) → unsigned_abs k ≤ 99 → Leads false (offset_tokens k) false
offset_leads (pos zero) h = λ rest l. l
offset_leads (pos (suc n)) h = λ rest l. (tt, (h, l))
offset_leads (negsuc n) h = λ rest l. (tt, (h, l))

-- an atom does
atom_leads : (a : Atom) → HasOffset a → Leads false (atom_tokens a) false
atom_leads a h = λ rest l.
    (tt, (tt, (tt, offset_leads a.k h rest l)))

-- tokens in parentheses do
enclosed_leads : (parentheses : Bool) (xs : List Token) → Leads false xs false
    → Leads false (enclosed parentheses xs) false
enclosed_leads true xs f = λ rest l. (tt, leads_then false false false xs (Close ∷ []) f (λ r m. (tt, m)) rest l)
enclosed_leads false xs f = f

-- two guards with a word between them do
joined_leads : (parentheses : Bool) (word : Word) (xs ys : List Token) → Leads false xs false → Leads false ys false →
    Leads false (enclosed parentheses (xs ++ Known word ∷ ys)) false
joined_leads parentheses word xs ys f g =
    enclosed_leads parentheses (xs ++ Known word ∷ ys)
    (leads_then false false false xs (Known word ∷ ys) f (λ r m. (tt, g r m)))

-- a guard does
guard_leads : (at : Tightness) (g : Formula) → HasOffsets g → Leads false (guard_tokens at g) false
guard_leads at Always h = λ rest l. (tt, l)
guard_leads at (Compare atom) h = atom_leads atom h
guard_leads at (And g k) h =
    joined_leads (and_is_enclosed at) words.And (guard_tokens Joined g) (guard_tokens Tight k)
    (guard_leads Joined g h.0) (guard_leads Tight k h.1)
guard_leads at (Or g k) h =
    joined_leads (or_is_enclosed at) words.Or (guard_tokens Loose g) (guard_tokens Joined k) (guard_leads Loose g h.0)
    (guard_leads Joined k h.1)
guard_leads at (Not g) h = λ rest l. (tt, guard_leads Tight g h rest l)

-- a result does
result_leads : (kind : Kind) (res : Res) → HasResultOffset res → Leads false (result_tokens kind res) false
result_leads kind (results.Keep base k) h = λ rest l. (tt, (tt, offset_leads k h rest l))
result_leads kind results.Nop h = λ rest l. (tt, l)

-- a case is a whole line
case_leads : (kind : Kind) (c : GuardedCase) → HasCaseOffsets c → Leads true (case_tokens kind c) true
case_leads kind c h =
    leads_then true false true (Known words.Case ∷ guard_tokens Loose c.guard ++ Colon ∷ result_tokens kind c.res)
    (LineEnd ∷ [])
    (leads_then true false false (Known words.Case ∷ guard_tokens Loose c.guard) (Colon ∷ result_tokens kind c.res)
    (λ r m. (tt, guard_leads Loose c.guard h.0 r m))
    (λ r m. (tt, result_leads kind c.res h.1 r m)))
    (λ r m. (refl, m))

-- cases are whole lines
cases_lead : (chars : Bool) (kind : Kind) (cs : List GuardedCase) → list_all (is_valid_case chars) cs ≡ true →
    Leads true (flat_map (case_tokens kind) cs) true
cases_lead chars kind [] h = λ rest l. l
cases_lead chars kind (c ∷ cs) h =
    leads_then true true true (case_tokens kind c) (flat_map (case_tokens kind) cs)
    (case_leads kind c (case_has_offsets chars c (and_parts (is_valid_case chars c) (list_all (is_valid_case chars) cs)
    h).0)) (cases_lead chars kind cs (and_parts (is_valid_case chars c) (list_all (is_valid_case chars) cs) h).1)

-- tokens that may be absent stand as they do where they are present
present_leads : (begins test : Bool) (xs : List Token) → Leads begins xs begins → Leads begins (present test xs) begins
present_leads begins true xs f = f
present_leads begins false xs f = λ rest l. l

-- a block is in whole lines
block_leads : (f : Function) (k l : Kind) → is_valid f ≡ true → Leads true (declared_block f k l) true
unfolding declared_block
block_leads f k l valid =
    present_leads true (is_declared_pair f.head k l) (block_tokens k l (cases_of f k l))
    (λ r m. (
      tt,
      (
        tt,
        (
          tt,
          (
            refl,
            cases_lead (compares_chars k l) k (cases_of f k l)
                (and_parts _ _ (are_valid_cases-valid f k l valid)).1 r m,
          ),
        ),
      ),
    ))

-- an assumption is a whole line
assumption_leads : (assumed : Bool) (what : Word) → Leads true (assumption_tokens assumed what) true
assumption_leads assumed what = present_leads true assumed _ (λ r m. (tt, (tt, (tt, (refl, m)))))

-- the mode is a whole line
mode_leads : (mode : Mode) → Leads true (Known words.Text ∷ Known (words.Mode mode) ∷ LineEnd ∷ []) true
mode_leads mode = λ r m. (tt, (tt, (refl, m)))

-- what each of a list gives stands so, one after another
all_lead : {X : Type 0} (begins : Bool) (g : X → List Token) (xs : List X) → ((x : X) → Leads begins (g x) begins) →
    Leads begins (flat_map g xs) begins
all_lead begins g [] each = λ rest l. l
all_lead begins g (x ∷ xs) each =
    leads_then begins begins begins (g x) (flat_map g xs) (each x) (all_lead begins g xs each)

-- the line of the kinds, up to its end, and what stands before it
abbrev kinds_part : Language → Head → List Token
kinds_part language head = first_lines language head.mode ++ Known words.Kinds ∷ flat_map (kind_tokens head) KINDS

number_of_is_short : (language : Language) → number_of language ≤ 99
number_of_is_short One = lit≤ tt
number_of_is_short Two = lit≤ tt

-- the kinds stand within a line
kinds_lead : (language : Language) (head : Head) → Leads true (kinds_part language head) false
kinds_lead language head =
    leads_then true true false (first_lines language head.mode) (Known words.Kinds ∷ flat_map (kind_tokens head) KINDS)
    (λ r m. (tt, (number_of_is_short language, (refl, mode_leads head.mode r m))))
    (λ r m. (
      tt,
      all_lead false (kind_tokens head) KINDS
          (λ k. present_leads false (is_declared head k) (Known (words.Kind k) ∷ []) (λ q n. (tt, n))) r m,
    ))

-- a head is in whole lines
head_leads : (language : Language) (head : Head) → Leads true (head_tokens language head) true
unfolding head_tokens
head_leads language head =
    leads_then true true true (kinds_part language head ++ LineEnd ∷ []
    ++ assumption_tokens head.sites_differ words.Sites) (assumption_tokens head.chars_differ words.Chars)
    (leads_then true true true (kinds_part language head ++ LineEnd ∷ [])
    (assumption_tokens head.sites_differ words.Sites) (leads_then true false true (kinds_part language head)
    (LineEnd ∷ []) (kinds_lead language head) (λ r m. (refl, m))) (assumption_leads head.sites_differ words.Sites))
    (assumption_leads head.chars_differ words.Chars)

-- a function is in whole lines
pub function_in_lines : (f : Function) → is_valid f ≡ true → InLines true (function_tokens f)
function_in_lines f valid =
    leads_then true true true (head_tokens (language_for f.head) f.head) (flat_map (blocks_with f) KINDS)
    (head_leads (language_for f.head) f.head)
    (all_lead true (blocks_with f) KINDS (λ k. all_lead true (declared_block f k) KINDS (λ l. block_leads f k l valid)))
    (Known words.End ∷ LineEnd ∷ []) (tt, (refl, refl))
