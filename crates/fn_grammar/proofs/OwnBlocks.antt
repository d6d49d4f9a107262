-- The blocks of a file for each pair of kinds.
use Rattle.std.proofs.lemmas.Bool.{eqb-true}
use Rattle.std.proofs.Common.{◌≡◌, ℕ, ◌+◌, Bool, true, false, ◌&&◌, List, [], ◌∷◌, map, refl, sym, ap, ◌∙◌, cond, arith}
use Rattle.std.specs.Prelude.{count_by}
use Rattle.std.proofs.lemmas.List.Recursion.{is_count_by}
use Rattle.ot_model.specs.declared.op.Kind.{Kind}
use Rattle.ot_model.specs.declared.op.Mode.{Mode}
use Rattle.ot_model.specs.Kinds.{is_same_kind}
use Rattle.fn_rules.specs.declared.function.Head.{Head}
use Rattle.fn_rules.specs.Functions.{is_declared_pair}
use Rattle.fn_rules.specs.Building.{PairCases, is_for, has_own_block, has_own_blocks}
use Rattle.fn_rules.proofs.LimitsKept.{each_pair_true}
use Rattle.fn_tokens.specs.Meaning.{to_formulas}
use Rattle.fn_grammar.specs.Grammar.{WrittenBlock, block_made}

-- a head by its parts
abbrev pub head_of : Mode → Bool → Bool → Bool → Bool → Bool → Head
head_of mode ins del upd sites chars =
    record { mode = mode; ins = ins; del = del; upd = upd; sites_differ = sites; chars_differ = chars }

-- a block is for the pair
abbrev pub is_written_for : Kind → Kind → WrittenBlock → Bool
is_written_for k l block = is_same_kind block.first k && is_same_kind block.second l

-- the blocks that are for a pair
abbrev pub written_for : Kind → Kind → List WrittenBlock → ℕ
written_for k l [] = 0
written_for k l (block ∷ others) = cond (is_written_for k l block) 1 0 + written_for k l others

-- the same of what blocks are made into
abbrev pairs_for : Kind → Kind → List PairCases → ℕ
pairs_for k l [] = 0
pairs_for k l (block ∷ others) = cond (is_for k l block) (1 + pairs_for k l others) (pairs_for k l others)

one_more : (here : Bool) (n : ℕ) → cond here (1 + n) n ≡ cond here 1 0 + n
one_more true n = refl
one_more false n = omega arith

pairs_for-made : (k l : Kind) (blocks : List WrittenBlock)
    → pairs_for k l (map (block_made to_formulas) blocks) ≡ written_for k l blocks
pairs_for-made k l [] = refl
pairs_for-made k l (block ∷ others) =
    one_more (is_written_for k l block) (pairs_for k l (map (block_made to_formulas) others))
    ∙ ap (λ n. cond (is_written_for k l block) 1 0 + n) (pairs_for-made k l others)

pub count_by-made : (k l : Kind) (blocks : List WrittenBlock) →
    count_by (is_for k l) (map (block_made to_formulas) blocks) ≡ written_for k l blocks
count_by-made k l blocks =
    sym (is_count_by (pairs_for k l) (is_for k l) refl (λ x xs. refl) (map (block_made to_formulas) blocks))
    ∙ pairs_for-made k l blocks

own_block : (head : Head) (blocks : List WrittenBlock) (k l : Kind) →
    has_own_block head (map (block_made to_formulas) blocks) k l ≡ true
    → written_for k l blocks ≡ cond (is_declared_pair head k l) 1 0
own_block head blocks k l h = sym (count_by-made k l blocks) ∙ eqb-true _ _ h

-- a pair has its own block
pub own_block_of : (head : Head) (blocks : List WrittenBlock) (k l : Kind) →
    has_own_blocks head (map (block_made to_formulas) blocks) ≡ true
    → written_for k l blocks ≡ cond (is_declared_pair head k l) 1 0
own_block_of head blocks k l h =
    own_block head blocks k l (each_pair_true (has_own_block head (map (block_made to_formulas) blocks)) k l h)
