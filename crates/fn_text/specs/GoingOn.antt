-- Which tokens can go on, told without a reader: those with which some file begins, and a few more behind which a wrong
-- token is still judged. They stand nearest first.
use Rattle.std.specs.Prelude.{◌≡◌, ◌&&◌, ◌||◌, Bool, false, not, if◌then◌else◌, nat_eq, nat_lt, IsTrue, List, ◌∷◌}
use Rattle.std.specs.Prelude.{reverse}
use Rattle.std.specs.Prelude.{Option, Some, None, ◌⊎◌}
use Rattle.ot_model.specs.declared.op.Kind.{Kind}
use Rattle.fn_rules.specs.declared.limits.TheConstants.{MAX_ATOMS, MAX_NESTING}
use Rattle.fn_tokens.specs.declared.token.Token.{Token}
use Rattle.fn_tokens.specs.declared.token.Token.TheVariants.{Known, Open, Close, Colon}
use Rattle.fn_tokens.specs.declared.token.Word.TheVariants as words
use Rattle.fn_text.specs.Continuing.{BeginsFileWithExtra}
use Rattle.fn_text.specs.Counting.{declares, is_behind_block, first_of_block, lacks_pair_with, lacks_some_pair}
use Rattle.fn_text.specs.Counting.{atoms_before}
use Rattle.fn_text.specs.Counting.{is_before_operand, nesting_before}

-- some file of the grammar begins with these tokens
abbrev pub BeginsFile : List Token → Type 0
BeginsFile before = BeginsFileWithExtra 0 (reverse before)

-- an operand is whole just before: some file goes on with `)` or with `:`
abbrev pub EndsOperand : List Token → Type 0
EndsOperand before = BeginsFile (Close ∷ before) ⊎ BeginsFile (Colon ∷ before)

-- the last token is taken so that what stands behind it is judged, whether some file begins so or not: `and` and `or`
-- behind a whole operand; `not` and `(` behind such tokens where an operand comes next, inside fewer than 32 others;
-- the word `block` where the file can end; and a declared kind behind the word `block`
abbrev pub IsTakenAlso : List Token → Type 0
IsTakenAlso (Known words.And ∷ before) = EndsOperand before
IsTakenAlso (Known words.Or ∷ before) = EndsOperand before
IsTakenAlso (Known words.Not ∷ before) =
    IsTrue (is_before_operand before && nat_lt (nesting_before before) MAX_NESTING) × IsTakenAlso before
IsTakenAlso (Open ∷ before) =
    IsTrue (is_before_operand before && nat_lt (nesting_before before) MAX_NESTING) × IsTakenAlso before
IsTakenAlso (Known words.Block ∷ before) = BeginsFile (Known words.End ∷ before)
IsTakenAlso (Known (words.Kind k) ∷ before) =
    IsTrue (is_behind_block before && declares before k) × (BeginsFile before ⊎ IsTakenAlso before)
IsTakenAlso _ = ⊥

-- the tokens can go on
abbrev pub CanGoOn : List Token → Type 0
CanGoOn before = BeginsFile before ⊎ IsTakenAlso before

-- an operand comes next behind as many atoms as a case may have: `not` and `(` still go on, and what is refused is the
-- first token of one more
abbrev pub is_before_atom_more : List Token → Bool
is_before_atom_more before = is_before_operand before && nat_eq (atoms_before before) MAX_ATOMS

-- each block that the kinds of this line can still make is there
abbrev pub has_each_block : List Token → Option Kind → Bool
has_each_block before None = false
has_each_block before (Some k) = not (lacks_pair_with before k)

-- the word `block` was read, and each block that its line can still begin is there: the kinds are judged before that
-- word is
abbrev pub repeats_some_block : List Token → Bool
repeats_some_block before =
    (is_behind_block before && not (lacks_some_pair before)) || has_each_block before (first_of_block before)

-- some file begins with tokens that can go on, with two exceptions: where an operand comes next behind 16 atoms it has
-- one atom more in one case, and in a `block` line whose blocks are all there no file need do so
abbrev pub GoingTokensBegin : Type 0
GoingTokensBegin =
    (before : List Token) → CanGoOn before → repeats_some_block before ≡ false →
    BeginsFileWithExtra (if is_before_atom_more before then 1 else 0) (reverse before)
