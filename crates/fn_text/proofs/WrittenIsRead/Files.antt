-- What is written by the grammar is read: whole files.
use Rattle.std.proofs.lemmas.Bool.{and_parts}
use Rattle.std.proofs.Common.{◌≡◌, ℕ, ◌+◌, Bool, true, false, not, List, [], ◌∷◌, ◌++◌, map, Result, Ok, refl, sym, ap}
use Rattle.std.proofs.Common.{◌∙◌, cond, append_assoc, arith}
use Rattle.std.specs.List.{flat_map}
use Rattle.fn_rules.specs.declared.guard.Tightness.{Tightness}
use Rattle.fn_rules.specs.declared.function.Head.{Head}
use Rattle.fn_rules.specs.Functions.{Function}
use Rattle.fn_rules.specs.Functions.{is_declared_pair}
use Rattle.fn_rules.specs.Building.{has_own_blocks}
use Rattle.fn_tokens.specs.declared.token.Token.TheVariants.{Known, LineEnd, FileEnd}
use Rattle.fn_tokens.specs.declared.token.Word.TheVariants as words
use Rattle.fn_tokens.specs.declared.token.Placed.{Placed}
use Rattle.fn_tokens.specs.declared.control.Want.TheVariants as wants
use Rattle.fn_tokens.specs.declared.control.TokenMove.TheVariants as moves
use Rattle.fn_tokens.specs.declared.fault.TextFault.{TextFault}
use Rattle.fn_tokens.specs.declared.language.Language.{Language}
use Rattle.fn_tokens.specs.Kinds.{declares_some}
use Rattle.fn_tokens.specs.Meaning.{Maker, to_formulas}
use Rattle.fn_grammar.specs.Print.{head_tokens}
use Rattle.fn_tokens.specs.Tokens.{tokens_in}
use Rattle.fn_text.specs.Reader.{State, moved, blocks_of, read_from, first_state, no_pairs}
use Rattle.fn_text.specs.Reading.{built_from, function_in}
use Rattle.fn_grammar.specs.Grammar.{WrittenBlock, block_written_as, block_made, file_written_as, is_allowed_file}
use Rattle.fn_grammar.specs.Grammar.{IsTextOf}
use Rattle.fn_tokens.specs.Tokens.{bare}
use Rattle.fn_text.proofs.SeenPairs.{has_seen-none}
use Rattle.fn_text.proofs.WrittenIsRead.Guards.{leads_by, leads_on, at_wanted, allowed_true}
use Rattle.fn_text.proofs.WrittenIsRead.Cases.{AtLine}
use Rattle.fn_grammar.proofs.OwnBlocks.{own_block_of, written_for}
use Rattle.fn_text.proofs.WrittenIsRead.BlockLists.{Balanced, no_block_lacks, leads_blocks}
use Rattle.fn_text.proofs.WrittenIsRead.Heads.{before_blocks, leads_head}

none_yet : (n : ℕ) (seen : Bool) (all : ℕ) → seen ≡ false → n ≡ all → n + cond seen 1 0 ≡ all
none_yet n true all none e = absurd (cc)
none_yet n false all none e = omega (arith, e)

balanced_first : (head : Head) (blocks : List WrittenBlock)
    → has_own_blocks head (map (block_made to_formulas) blocks) ≡ true → Balanced head no_pairs blocks
balanced_first head blocks own =
    record {
      at = λ k l. none_yet (written_for k l blocks) _ (cond (is_declared_pair head k l) 1 0) (has_seen-none k l)
          (own_block_of head blocks k l own);
    }

the_value : (read : Result Function TextFault) (f g : Function) → read ≡ Ok f → read ≡ Ok g → f ≡ g
the_value read f g one other = cc

module _ {V : Tightness → Type 0} {K B : Type 0} (m : Maker V K B) where
  -- behind the last token a file that has ended gives its head and its blocks
  gives_all : (s : State V K B) (ps : List Placed) → s.control.want ≡ wants.Nothing → bare ps ≡ [] →
      read_from m s ps ≡ Ok (s.control.head, s.done)
  gives_all s [] want e = rw want refl
  gives_all s (at ∷ rest) want e = absurd (cc)

  -- the last line and the file's end, where no block is missing
  read_end : (s : State V K B) (ps : List Placed) → AtLine s → Balanced s.control.head s.control.seen [] →
      bare ps ≡ Known words.End ∷ LineEnd ∷ FileEnd ∷ [] → read_from m s ps ≡ Ok (s.control.head, blocks_of m s)
  read_end s ps line balanced e =
      let s1 = moved m s moves.End in
      let s2 = moved m s1 (moves.Skip wants.FileEnd) in
      let s3 = moved m s2 (moves.Skip wants.Nothing) in
      let none_lacks = no_block_lacks s.control balanced in
      let goes = leads_on m s ps s1 s3 (LineEnd ∷ FileEnd ∷ []) []
      (leads_by m s ps (Known words.End) _ moves.End e
      (λ at. at_wanted s.control at wants.Line _ _ line.want (allowed_true _ _ (ap (λ b. not b) none_lacks))))
      (λ rest e1. leads_on m s1 rest s2 s3 (FileEnd ∷ []) []
      (leads_by m s1 rest LineEnd _ (moves.Skip wants.FileEnd) e1 (λ at. refl))
      (λ rest2 e2. leads_by m s2 rest2 FileEnd [] (moves.Skip wants.Nothing) e2 (λ at. refl))) in
      goes.reads ∙ gives_all s3 goes.rest refl goes.told

  -- a file of the grammar is read as its head and its blocks
  pub file_is_read : (language : Language) (head : Head) (blocks : List WrittenBlock) (ps : List Placed) →
      is_allowed_file language head blocks ≡ true → bare ps ≡ file_written_as language head blocks →
      read_from m (first_state m) ps ≡ Ok (head, map (block_made m) blocks)
  file_is_read language head blocks ps ok e =
      let body = and_parts _ _ (and_parts _ _ ok).0 in
      let some : declares_some head ≡ true = (and_parts _ _ body.0).0 in
      let own = (and_parts (declares_some head) (has_own_blocks head (map (block_made to_formulas) blocks)) body.0).1 in
      let last = Known words.End ∷ LineEnd ∷ FileEnd ∷ [] in
      let lines = flat_map block_written_as blocks in
      let s1 = before_blocks m wants.Line language head in
      let first = leads_head m language head ps (lines ++ last) some (and_parts _ _ ok).1
      (e ∙ append_assoc (head_tokens language head) lines last) in
      let line : AtLine s1 = record { want = refl; any = refl; all = refl; nots = refl; outside = refl } in
      let others = leads_blocks m s1 blocks first.rest last line (balanced_first head blocks own) body.1 first.told in
      let balanced : Balanced others.after.control.head others.after.control.seen [] = record {
        at = λ k l. others.balanced.at k l ∙ ap (λ h. cond (is_declared_pair h k l) 1 0) (sym others.head);
      } in
      first.reads
      ∙ (others.leads.reads
      ∙ (read_end others.after others.leads.rest others.line balanced others.leads.told
      ∙ (ap (λ h. Ok (h, blocks_of m others.after)) others.head ∙ ap (λ b. Ok (head, b)) others.made)))

-- the text of a function is read as it
pub text_is_read : (bytes : List ℕ) (f : Function) → IsTextOf bytes f → function_in bytes ≡ Ok f
unfolding function_in
text_is_read bytes f text =
    ap (λ x. built_from x)
    (file_is_read to_formulas text.language text.head text.blocks (tokens_in bytes) text.allowed text.written)
    ∙ ap (λ g. Ok g) (sym text.means)

-- so no other function has the text
pub text_of_one : (bytes : List ℕ) (f g : Function) → IsTextOf bytes f → IsTextOf bytes g → f ≡ g
text_of_one bytes f g one other =
    the_value (function_in bytes) f g (text_is_read bytes f one) (text_is_read bytes g other)
