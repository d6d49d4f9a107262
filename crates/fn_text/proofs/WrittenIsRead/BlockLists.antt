-- What is written by the grammar is read: the blocks of a file, one for each pair that is declared.
use Rattle.std.proofs.lemmas.Bool.{and_parts}
use Rattle.std.proofs.Common.{◌≡◌, ℕ, ◌+◌, Bool, true, false, not, ◌&&◌, ◌||◌, List, [], ◌∷◌, ◌++◌, map, refl, sym, ap}
use Rattle.std.proofs.Common.{◌∙◌, cond, append_assoc, append-nil, arith}
use Rattle.std.specs.List.{flat_map, list_all}
use Rattle.ot_model.specs.declared.op.Kind.{Kind}
use Rattle.fn_rules.specs.declared.guard.Tightness.{Tightness}
use Rattle.fn_rules.specs.declared.function.Head.{Head}
use Rattle.fn_rules.specs.Functions.{is_declared}
use Rattle.fn_rules.specs.Functions.{is_declared_pair}
use Rattle.fn_tokens.specs.declared.token.Token.{Token}
use Rattle.fn_tokens.specs.declared.token.Placed.{Placed}
use Rattle.fn_tokens.specs.declared.control.Pairs.{Pairs}
use Rattle.fn_tokens.specs.declared.control.Control.{Control}
use Rattle.fn_tokens.specs.Kinds.{has_seen, with_pair}
use Rattle.fn_tokens.specs.Meaning.{Maker}
use Rattle.fn_tokens.specs.Controls.{lacks, lacks_with, lacks_block}
use Rattle.fn_text.specs.Reader.{State, blocks_of}
use Rattle.fn_grammar.specs.Grammar.{WrittenBlock, block_written_as, block_made, is_allowed_block}
use Rattle.fn_tokens.specs.Tokens.{bare}
use Rattle.fn_grammar.proofs.KindLists.{no_kind_from, is_own_pair}
use Rattle.fn_grammar.proofs.OwnBlocks.{is_written_for, written_for}
use Rattle.fn_text.proofs.SeenPairs.{has_seen-with_pair}
use Rattle.fn_text.proofs.WrittenIsRead.Guards.{Leads}
use Rattle.fn_text.proofs.WrittenIsRead.Cases.{AtLine}
use Rattle.fn_text.proofs.WrittenIsRead.Blocks.{leads_block}

-- of each pair that is declared one block was read or is to come, and of no other
pub record Balanced (head : Head) (seen : Pairs) (blocks : List WrittenBlock) : Type 0 where
  pub at : (k l : Kind) → written_for k l blocks + cond (has_seen seen k l) 1 0 ≡ cond (is_declared_pair head k l) 1 0

one_block : (n : ℕ) (seen declared : Bool) → 1 + n + cond seen 1 0 ≡ cond declared 1 0
    → (declared ≡ true) × (seen ≡ false)
one_block n true true e = absurd (omega (arith, e))
one_block n false true e = (refl, refl)
one_block n true false e = absurd (omega (arith, e))
one_block n false false e = absurd (omega (arith, e))

-- the pair of the next block is declared and has no block yet
next_block : (head : Head) (seen : Pairs) (block : WrittenBlock) (others : List WrittenBlock) →
    Balanced head seen (block ∷ others) →
    (is_declared_pair head block.first block.second ≡ true) × (has_seen seen block.first block.second ≡ false)
next_block head seen block others b =
    let k = block.first in
    let l = block.second in
    one_block (written_for k l others) (has_seen seen k l) (is_declared_pair head k l)
    (ap (λ x. cond x 1 0 + written_for k l others + cond (has_seen seen k l) 1 0) (sym (is_own_pair k l)) ∙ b.at k l)

taken : (n : ℕ) (here seen declared : Bool) → cond here 1 0 + n + cond seen 1 0 ≡ cond declared 1 0 →
    n + cond (here || seen) 1 0 ≡ cond declared 1 0
taken n true true true e = absurd (omega (arith, e))
taken n true true false e = absurd (omega (arith, e))
taken n true false true e = omega (arith, e)
taken n true false false e = absurd (omega (arith, e))
taken n false true true e = omega (arith, e)
taken n false true false e = absurd (omega (arith, e))
taken n false false true e = omega (arith, e)
taken n false false false e = omega (arith, e)

-- the others are balanced behind the next block
balanced_behind : (head : Head) (seen : Pairs) (block : WrittenBlock) (others : List WrittenBlock) →
    Balanced head seen (block ∷ others) → Balanced head (with_pair seen block.first block.second) others
balanced_behind head seen block others b = record {
  at = λ k l. ap (λ x. written_for k l others + cond x 1 0) (has_seen-with_pair seen block.first block.second k l)
      ∙ taken (written_for k l others) (is_written_for k l block) (has_seen seen k l)
      (is_declared_pair head k l) (b.at k l);
}

settled : (seen declared : Bool) → 0 + cond seen 1 0 ≡ cond declared 1 0 → (declared && not seen) ≡ false
settled true true e = refl
settled false true e = absurd (omega (arith, e))
settled true false e = refl
settled false false e = refl

-- behind the last block none is missing
pub no_block_lacks : (c : Control) → Balanced c.head c.seen [] → lacks_block c ≡ false
no_block_lacks c b =
    no_kind_from (lacks_with c)
    (λ k. no_kind_from (lacks c k) (λ l. settled (has_seen c.seen k l) (is_declared_pair c.head k l) (b.at k l)))

module _ {V : Tightness → Type 0} {K B : Type 0} (m : Maker V K B) where
  -- the lines of all blocks are read
  pub record LeadsBlocks (s : State V K B) (ps : List Placed) (blocks : List WrittenBlock)
      (more : List Token) : Type 0 where
    pub after : State V K B
    pub line : AtLine after
    pub head : after.control.head ≡ s.control.head
    pub balanced : Balanced s.control.head after.control.seen []
    pub made : blocks_of m after ≡ blocks_of m s ++ map (block_made m) blocks
    pub leads : Leads m s ps after more

  pub leads_blocks : (s : State V K B) (blocks : List WrittenBlock) (ps : List Placed) (more : List Token) → AtLine s →
      Balanced s.control.head s.control.seen blocks → list_all is_allowed_block blocks ≡ true →
      bare ps ≡ flat_map block_written_as blocks ++ more → LeadsBlocks s ps blocks more
  leads_blocks s [] ps more line balanced ok e = record {
    after = s;
    line = line;
    head = refl;
    balanced = balanced;
    made = sym (append-nil (blocks_of m s));
    leads = record { rest = ps; told = e; reads = refl };
  }
  leads_blocks s (block ∷ others) ps more line balanced ok e =
      let next = next_block s.control.head s.control.seen block others balanced in
      let first =
      (and_parts (is_declared s.control.head block.first) (is_declared s.control.head block.second) next.0).0 in
      let second =
      (and_parts (is_declared s.control.head block.first) (is_declared s.control.head block.second) next.0).1 in
      let one = leads_block m s block ps (flat_map block_written_as others ++ more) line first second
      next.1 (and_parts _ _ ok).0 (e
      ∙ append_assoc (block_written_as block) (flat_map block_written_as others) more) in
      let behind : Balanced s.control.head (with_pair s.control.seen block.first block.second) others =
      balanced_behind s.control.head s.control.seen block others balanced in
      let still : Balanced one.after.control.head one.after.control.seen others = record {
        at = λ k l. ap (λ x. written_for k l others + cond (has_seen x k l) 1 0) one.read.seen
            ∙ (behind.at k l ∙ ap (λ h. cond (is_declared_pair h k l) 1 0) (sym one.read.head));
      } in
      let rest = leads_blocks one.after others one.leads.rest more one.read.line still
      (and_parts _ _ ok).1 one.leads.told in
      record {
        after = rest.after;
        line = rest.line;
        head = rest.head ∙ one.read.head;
        balanced =
            record { at = λ k l. rest.balanced.at k l ∙ ap (λ h. cond (is_declared_pair h k l) 1 0) one.read.head };
        made = rest.made
            ∙ (ap (λ x. x ++ map (block_made m) others) one.read.blocks
            ∙ append_assoc (blocks_of m s) (block_made m block ∷ []) (map (block_made m) others));
        leads = record { rest = rest.leads.rest; told = rest.leads.told; reads = one.leads.reads ∙ rest.leads.reads };
      }
