-- A file within the limits stands for a function within the limits: its parentheses, atoms, offsets and
-- cases are no fewer than those of the formulas that it is made into.
use Rattle.std.proofs.Common.{◌≡◌, ℕ, zero, suc, ◌+◌, ◌≤◌, Bool, true, false, ◌&&◌, ◌||◌, nat_le, nat_eq, IsTrue, List}
use Rattle.std.proofs.Common.{[], ◌∷◌, length, map, count_by, cond, refl, sym, ap, subst, ◌∙◌, inl, inr, rules, arith}
use Rattle.std.specs.List.{list_all}
use Rattle.std.proofs.lemmas.Bool.Decides.{nat_tests}
use Rattle.std.proofs.lemmas.List.{length-map}
use Rattle.std.proofs.lemmas.List.Sums.{sum_by-cons}
use Rattle.ot_model.specs.declared.op.Kind.{Kind}
use Rattle.std.proofs.lemmas.Bool.{cases_Bool, and_parts, and_from, leb-true, le-leb}
use Rattle.fn_rules.specs.declared.guard.Sort.TheVariants.{Pos, Site, Char}
use Rattle.fn_rules.specs.declared.guard.Tightness.{Tightness}
use Rattle.fn_rules.specs.declared.guard.Tightness.TheVariants.{Loose, Joined, Tight}
use Rattle.fn_rules.specs.declared.function.Head.{Head}
use Rattle.fn_rules.specs.Formulas.{Formula}
use Rattle.fn_rules.specs.Formulas as formulas
use Rattle.fn_rules.specs.Functions.{Function, GuardedCase}
use Rattle.fn_rules.specs.Functions.{is_declared_pair}
use Rattle.ot_model.specs.Kinds.{is_same_kind}
use Rattle.fn_rules.specs.Validity.{is_offset, has_valid_atoms, atoms_of, nesting_of, is_valid_res, is_valid_case}
use Rattle.fn_rules.specs.Validity.{are_valid_cases, compares_chars, is_valid_block, is_valid}
use Rattle.fn_rules.specs.Building.{PairCases, is_for, cases_in, function_from, has_own_block, is_buildable}
use Rattle.fn_tokens.specs.declared.token.Sign.{Sign}
use Rattle.fn_tokens.specs.declared.token.Sign.TheVariants as signs
use Rattle.fn_tokens.specs.declared.language.Language.{Language}
use Rattle.fn_tokens.specs.declared.control.Written.{Written}
use Rattle.fn_tokens.specs.declared.control.Written.TheVariants as written
use Rattle.fn_tokens.specs.Meaning.{res_of, signed, to_formulas}
use Rattle.fn_grammar.specs.Grammar.{Phrase, Always, Compare, Shifted, Negated, Round, One, Both, Single, Either, made}
use Rattle.fn_grammar.specs.Grammar.{atoms_in, nesting_in, is_allowed_phrase, WrittenCase, WrittenBlock, case_made}
use Rattle.fn_grammar.specs.Grammar.{block_made, is_allowed_result, is_allowed_case, is_allowed_block, is_allowed_file}
use Rattle.fn_grammar.specs.Grammar.{IsTextOf}
use Rattle.fn_rules.proofs.LimitsKept.{each_pair_true}
use Rattle.fn_grammar.proofs.KindLists.{each_pair_from, same_pair}

-- fewer parentheses are needed where a formula holds together less tightly
joined_in_tight : (g : Formula) → nesting_of Joined g ≤ nesting_of Tight g
joined_in_tight formulas.Always = omega arith
joined_in_tight (formulas.Compare atom) = omega arith
joined_in_tight (formulas.And g h) = omega arith
joined_in_tight (formulas.Or g h) = omega arith
joined_in_tight (formulas.Not g) = omega arith

loose_in_joined : (g : Formula) → nesting_of Loose g ≤ nesting_of Joined g
loose_in_joined formulas.Always = omega arith
loose_in_joined (formulas.Compare atom) = omega arith
loose_in_joined (formulas.And g h) = omega arith
loose_in_joined (formulas.Or g h) = omega arith
loose_in_joined (formulas.Not g) = omega arith

-- a pair of parentheses makes any formula hold together
tight_in_round : (g : Formula) → nesting_of Tight g ≤ 1 + nesting_of Loose g
tight_in_round formulas.Always = omega arith
tight_in_round (formulas.Compare atom) = omega arith
tight_in_round (formulas.And g h) = omega arith
tight_in_round (formulas.Or g h) = omega arith
tight_in_round (formulas.Not g) = omega arith

-- the formula of a phrase is nested no deeper than the phrase
nesting_kept : {t : Tightness} (p : Phrase t) → nesting_of t (made to_formulas p) ≤ nesting_in p
nesting_kept Always = omega arith
nesting_kept (Compare sort left cmp) = omega arith
nesting_kept (Shifted left cmp sign n) = omega arith
nesting_kept (Negated u) = let inner = nesting_kept u in omega (arith, inner)
nesting_kept (Round d) =
    let inner = nesting_kept d in let round = tight_in_round (made to_formulas d) in omega (arith, inner, round)
nesting_kept (One u) =
    let inner = nesting_kept u in let one = joined_in_tight (made to_formulas u) in omega (arith, inner, one)
nesting_kept (Both c u) =
    let left = nesting_kept c in let right = nesting_kept u in omega (arith, left, right)
nesting_kept (Single c) =
    let inner = nesting_kept c in let single = loose_in_joined (made to_formulas c) in omega (arith, inner, single)
nesting_kept (Either d c) =
    let left = nesting_kept d in let right = nesting_kept c in omega (arith, left, right)

atoms_kept : {t : Tightness} (p : Phrase t) → atoms_of (made to_formulas p) ≡ atoms_in p
atoms_kept Always = refl
atoms_kept (Compare sort left cmp) = refl
atoms_kept (Shifted left cmp sign n) = refl
atoms_kept (Negated u) = atoms_kept u
atoms_kept (Round d) = atoms_kept d
atoms_kept (One u) = atoms_kept u
atoms_kept (Both c u) = let left = atoms_kept c in let right = atoms_kept u in omega (arith, left, right)
atoms_kept (Single c) = atoms_kept c
atoms_kept (Either d c) = let left = atoms_kept d in let right = atoms_kept c in omega (arith, left, right)

-- an offset of two digits may be used
offset_kept : (sign : Sign) (n : ℕ) → nat_le n 99 ≡ true → is_offset (signed sign n) ≡ true
offset_kept signs.Plus n h = h
offset_kept signs.Minus zero h = refl
offset_kept signs.Minus (suc n) h = let few : suc n ≤ 99 = leb-true _ _ h in
    and_from _ _ (le-leb n 98 (omega (arith, few))) refl

-- the atoms of an allowed phrase are valid in its formula
atoms_valid : {t : Tightness} (chars : Bool) (p : Phrase t) → is_allowed_phrase chars p ≡ true
    → has_valid_atoms chars (made to_formulas p) ≡ true
atoms_valid chars Always h = refl
atoms_valid chars (Compare Pos left cmp) h = refl
atoms_valid chars (Compare Site left cmp) h = refl
atoms_valid chars (Compare Char left cmp) h = and_from _ _ h refl
atoms_valid chars (Shifted left cmp sign n) h = offset_kept sign n h
atoms_valid chars (Negated u) h = atoms_valid chars u h
atoms_valid chars (Round d) h = atoms_valid chars d h
atoms_valid chars (One u) h = atoms_valid chars u h
atoms_valid chars (Both c u) h =
    and_from _ _ (atoms_valid chars c (and_parts _ _ h).0)
    (atoms_valid chars u (and_parts (is_allowed_phrase chars c) _ h).1)
atoms_valid chars (Single c) h = atoms_valid chars c h
atoms_valid chars (Either d c) h =
    and_from _ _ (atoms_valid chars d (and_parts _ _ h).0)
    (atoms_valid chars c (and_parts (is_allowed_phrase chars d) _ h).1)

result_kept : (w : Written) → is_allowed_result w ≡ true → is_valid_res (res_of w) ≡ true
result_kept written.Nop h = refl
result_kept (written.At side) h = refl
result_kept (written.Moved side sign n) h = offset_kept sign n h

within_kept : (a b limit : ℕ) → a ≤ b → nat_le b limit ≡ true → nat_le a limit ≡ true
within_kept a b limit less h = let within : b ≤ limit = leb-true b limit h in
    le-leb a limit (omega (arith, less, within))

case_kept : (chars : Bool) (c : WrittenCase) → is_allowed_case chars c ≡ true
    → is_valid_case chars (case_made to_formulas c) ≡ true
case_kept chars c h =
    let front = (and_parts _ _ h).0 in
    and_from _ _ (and_from _ _
    (and_from _ _ (atoms_valid chars c.guard (and_parts _ _ (and_parts _ _ front).0).0)
    (ap (λ n. nat_le n 16) (atoms_kept c.guard) ∙ (and_parts _ _ (and_parts _ _ front).0).1))
    (within_kept _ _ 32 (nesting_kept c.guard) (and_parts _ _ front).1)) (result_kept c.result (and_parts _ _ h).1)

cases_kept : (chars : Bool) (cs : List WrittenCase) → list_all (is_allowed_case chars) cs ≡ true →
    list_all (is_valid_case chars) (map (case_made to_formulas) cs) ≡ true
cases_kept chars [] h = refl
cases_kept chars (c ∷ cs) h =
    and_from _ _ (case_kept chars c (and_parts _ _ h).0)
    (cases_kept chars cs (and_parts (is_allowed_case chars c) _ h).1)

block_kept : (block : WrittenBlock) → is_allowed_block block ≡ true →
    are_valid_cases (compares_chars block.first block.second) (map (case_made to_formulas) block.cases) ≡ true
block_kept block h =
    and_from _ _ (ap (λ n. nat_le n 64) (length-map block.cases (case_made to_formulas))
    ∙ (and_parts _ _ h).0) (cases_kept _ block.cases (and_parts _ _ h).1)

-- the cases of a block count for its own pair
picked : (first second k l : Kind) (mine others : List GuardedCase)
    → are_valid_cases (compares_chars first second) mine ≡ true → are_valid_cases (compares_chars k l) others ≡ true →
    are_valid_cases (compares_chars k l) (cond (is_same_kind first k && is_same_kind second l) mine others) ≡ true
picked first second k l mine others h i =
    elim (cases_Bool (is_same_kind first k && is_same_kind second l)) [
      | inl same ↦ rw same (same_pair (λ x y. are_valid_cases (compares_chars x y) mine ≡ true) first second k l same h)
      | inr other ↦ rw other i
    ]

pair_kept : (blocks : List WrittenBlock) (k l : Kind) → list_all is_allowed_block blocks ≡ true →
    are_valid_cases (compares_chars k l) (cases_in (map (block_made to_formulas) blocks) k l) ≡ true
pair_kept [] k l h = refl
pair_kept (block ∷ blocks) k l h =
    picked block.first block.second k l (map (case_made to_formulas) block.cases)
    (cases_in (map (block_made to_formulas) blocks) k l) (block_kept block (and_parts _ _ h).0)
    (pair_kept blocks k l (and_parts (is_allowed_block block) _ h).1)

passed_over : (test : Bool) (n : ℕ) (mine others : List GuardedCase) → cond test 1 0 + n ≡ 0 → (n ≡ 0 → others ≡ []) →
    cond test mine others ≡ []
passed_over true n mine others e h = absurd (omega (arith, e))
passed_over false n mine others e h = h (omega (arith, e))

-- no block for the pair, no case
no_block : (blocks : List PairCases) (k l : Kind) → count_by (is_for k l) blocks ≡ 0 → cases_in blocks k l ≡ []
no_block [] k l e = refl
no_block (block ∷ blocks) k l e =
    passed_over (is_for k l block) (count_by (is_for k l) blocks) block.cases (cases_in blocks k l)
    (sym (sum_by-cons (λ x. cond (is_for k l x) 1 0) block blocks) ∙ e) (no_block blocks k l)

declared_or_none : (declared : Bool) (blocks : List PairCases) (k l : Kind) →
    nat_eq (count_by (is_for k l) blocks) (cond declared 1 0) ≡ true
    → (declared || nat_eq (length (cases_in blocks k l)) 0) ≡ true
declared_or_none true blocks k l h = refl
declared_or_none false blocks k l h =
    let none : count_by (is_for k l) blocks ≡ 0 = search (rules, nat_tests) in
    ap (λ x. nat_eq (length x) 0) (no_block blocks k l none)

valid_pair : (head : Head) (blocks : List WrittenBlock) (k l : Kind) → list_all is_allowed_block blocks ≡ true →
    has_own_block head (map (block_made to_formulas) blocks) k l ≡ true →
    (are_valid_cases (compares_chars k l) (cases_in (map (block_made to_formulas) blocks) k l)
    && (is_declared_pair head k l || nat_eq (length (cases_in (map (block_made to_formulas) blocks) k l)) 0)) ≡ true
valid_pair head blocks k l h own =
    and_from _ _ (pair_kept blocks k l h)
    (declared_or_none (is_declared_pair head k l) (map (block_made to_formulas) blocks) k l own)

-- the limits of the grammar keep the function within its own
pub allowed_file_is_buildable : (language : Language) (head : Head) (blocks : List WrittenBlock) →
    IsTrue (is_allowed_file language head blocks) → IsTrue (is_buildable head (map (block_made to_formulas) blocks))
allowed_file_is_buildable language head blocks h =
    let body = (and_parts _ _ h).0 in
    let front = (and_parts _ _ body).0 in
    let each : list_all is_allowed_block blocks ≡ true = (and_parts _ _ body).1 in
    let own = (and_parts _ _ front).1 in
    and_from _ _ own (and_from _ _ (and_parts _ _ front).0
    (each_pair_from (is_valid_block (function_from head (map (block_made to_formulas) blocks)))
    (λ k l. valid_pair head blocks k l each
    (each_pair_true (has_own_block head (map (block_made to_formulas) blocks)) k l own))))

-- a text is of a function within the limits
pub text_is_valid : (bytes : List ℕ) (f : Function) → IsTextOf bytes f → IsTrue (is_valid f)
text_is_valid bytes f text =
    subst (λ g. IsTrue (is_valid g)) (sym text.means)
    (and_parts _ _ (allowed_file_is_buildable text.language text.head text.blocks text.allowed)).1
