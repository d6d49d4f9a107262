-- What is written by the grammar is read: the lines of a block.
use Rattle.std.proofs.lemmas.Bool.{and_parts, and_from, leb-true}
use Rattle.std.proofs.Common.{◌≡◌, ℕ, ◌+◌, ◌<◌, ◌≤◌, Bool, true, false, not, List, [], ◌∷◌, ◌++◌, length, map, Some}
use Rattle.std.proofs.Common.{refl, sym, ap, ◌∙◌, cond, append_assoc, append-nil, arith}
use Rattle.std.specs.List.{flat_map, list_all}
use Rattle.fn_rules.specs.declared.guard.Tightness.{Tightness}
use Rattle.fn_rules.specs.Functions.{is_declared}
use Rattle.fn_tokens.specs.declared.token.Token.{Token}
use Rattle.fn_tokens.specs.declared.token.Token.TheVariants.{Known, LineEnd}
use Rattle.fn_tokens.specs.declared.token.Word.TheVariants as words
use Rattle.fn_tokens.specs.declared.token.Placed.{Placed}
use Rattle.fn_tokens.specs.declared.control.Want.TheVariants as wants
use Rattle.fn_tokens.specs.declared.control.TokenMove.TheVariants as moves
use Rattle.fn_tokens.specs.Kinds.{has_seen, with_pair}
use Rattle.fn_tokens.specs.Meaning.{Maker}
use Rattle.fn_tokens.specs.Controls.{has_chars}
use Rattle.fn_tokens.specs.Moves.{move_for}
use Rattle.fn_text.specs.Reader.{State, moved, blocks_of, after_move}
use Rattle.fn_grammar.specs.Grammar.{WrittenCase, WrittenBlock, case_written_as, block_written_as, case_made}
use Rattle.fn_grammar.specs.Grammar.{block_made, is_allowed_case, is_allowed_block}
use Rattle.fn_tokens.specs.Tokens.{bare}
use Rattle.fn_text.proofs.WrittenIsRead.Guards.{Leads, leads_by, leads_on, behind_keeps, allowed_true, going, forget}
use Rattle.fn_text.proofs.WrittenIsRead.Cases.{AtLine, behind_case, leads_case, case_is_made, case_is_at_line}

still_valid : (before now : Bool) (cs : List WrittenCase) → now ≡ before → list_all (is_allowed_case before) cs ≡ true →
    list_all (is_allowed_case now) cs ≡ true
still_valid before now cs e h = ap (λ x. list_all (is_allowed_case x) cs) e ∙ h

module _ {V : Tightness → Type 0} {K B : Type 0} (m : Maker V K B) where
  -- what a case leaves as it was
  abbrev pub idle : State V K B → State V K B
  idle s = record (forget m s) {
    control = record (forget m s).control { cases = 0 };
    cases = [];
    guard = m.single (m.one m.always);
  }

  case_keeps : (s : State V K B) (c : WrittenCase) → idle (behind_case m s c) ≡ idle s
  case_keeps s c = ap (λ x. idle x) (behind_keeps m (moved m s moves.BeginCase) c.guard)

  case_counts : (s : State V K B) (c : WrittenCase) → (behind_case m s c).control.cases ≡ s.control.cases + 1
  case_counts s c = ap (λ x. x.control.cases) (behind_keeps m (moved m s moves.BeginCase) c.guard)

  -- the state behind the lines of cases
  abbrev pub behind_cases : State V K B → List WrittenCase → State V K B
  behind_cases s [] = s
  behind_cases s (c ∷ cs) = behind_cases (behind_case m s c) cs

  cases_keep : (s : State V K B) (cs : List WrittenCase) → idle (behind_cases s cs) ≡ idle s
  cases_keep s [] = refl
  cases_keep s (c ∷ cs) = cases_keep (behind_case m s c) cs ∙ case_keeps s c

  cases_are_at_line : (s : State V K B) (cs : List WrittenCase) → AtLine s → AtLine (behind_cases s cs)
  cases_are_at_line s [] line = line
  cases_are_at_line s (c ∷ cs) line = cases_are_at_line (behind_case m s c) cs (case_is_at_line m s c line)

  cases_are_made : (s : State V K B) (cs : List WrittenCase) → AtLine s
      → (behind_cases s cs).cases ≡ s.cases ++ map (case_made m) cs
  cases_are_made s [] line = sym (append-nil s.cases)
  cases_are_made s (c ∷ cs) line =
      cases_are_made (behind_case m s c) cs (case_is_at_line m s c line)
      ∙ (ap (λ x. x ++ map (case_made m) cs) (case_is_made m s c line)
      ∙ append_assoc s.cases (case_made m c ∷ []) (map (case_made m) cs))

  -- the lines of cases
  leads_cases : (s : State V K B) (cs : List WrittenCase) (ps : List Placed) (more : List Token) → AtLine s →
      s.control.begun ≡ true → s.control.cases + length cs ≤ 64 → list_all (is_allowed_case (has_chars s.control)) cs
      ≡ true → bare ps ≡ flat_map (case_written_as s.control.first) cs ++ more → Leads m s ps (behind_cases s cs) more
  leads_cases s [] ps more line begun room ok e = record { rest = ps; told = e; reads = refl }
  leads_cases s (c ∷ cs) ps more line begun room ok e =
      let s1 = behind_case m s c in
      let kept = case_keeps s c in
      let kind : s1.control.first ≡ s.control.first = ap (λ x. x.control.first) kept in
      let one : s.control.cases < 64 = omega arith in
      let fewer : s1.control.cases + length cs ≤ 64 = let count = case_counts s c in omega (arith, count) in
      let others = flat_map (case_written_as s.control.first) cs in
      leads_on m s ps s1 (behind_cases s (c ∷ cs)) (others ++ more) more
      (leads_case m s c ps (others ++ more) line begun one (and_parts _ _ ok).0 (e
      ∙ append_assoc (case_written_as s.control.first c) others more))
      (λ rest e1. leads_cases s1 cs rest more (case_is_at_line m s c line) (ap (λ x. x.control.begun) kept
      ∙ begun) fewer (still_valid _ _ cs (ap (λ x. has_chars x.control) kept) (and_parts _ _ ok).1) (e1
      ∙ ap (λ k. flat_map (case_written_as k) cs ++ more) (sym kind)))

  -- what a block's lines leave: the blocks with this one more
  pub record BlockRead (s after : State V K B) (block : WrittenBlock) : Type 0 where
    pub line : AtLine after
    pub begun : after.control.begun ≡ true
    pub head : after.control.head ≡ s.control.head
    pub seen : after.control.seen ≡ with_pair s.control.seen block.first block.second
    pub blocks : blocks_of m after ≡ blocks_of m s ++ block_made m block ∷ []

  -- the lines of a block are read, whatever the place of its first word
  pub record LeadsBlock (s : State V K B) (ps : List Placed) (block : WrittenBlock) (more : List Token) : Type 0 where
    pub after : State V K B
    pub read : BlockRead s after block
    pub leads : Leads m s ps after more

  -- the state at the first case of a block whose first word stands at this place
  abbrev entered : State V K B → ℕ → ℕ → WrittenBlock → State V K B
  entered s row column block =
      moved m (moved m (moved m (moved m s (moves.BlockWord row column)) (moves.Skip (wants.BlockSecond block.first)))
      (moves.BeginBlock block.first block.second)) (moves.Skip wants.Line)

  entered_line : (s : State V K B) (row column : ℕ) (block : WrittenBlock) → AtLine s
      → AtLine (entered s row column block)
  entered_line s row column block line =
      record { want = refl; any = line.any; all = line.all; nots = line.nots; outside = line.outside }

  -- the lines of a block are read, and lead to the block that they write
  block_read : (s : State V K B) (row column : ℕ) (block : WrittenBlock) → AtLine s →
      BlockRead s (behind_cases (entered s row column block) block.cases) block
  block_read s row column block line =
      let s1 = entered s row column block in
      let after = behind_cases s1 block.cases in
      let kept = cases_keep s1 block.cases in
      let start = entered_line s row column block line in
      let cases : after.cases ≡ map (case_made m) block.cases = cases_are_made s1 block.cases start in
      let begun : after.control.begun ≡ true = ap (λ x. x.control.begun) kept in
      let done : after.done ≡ blocks_of m s = ap (λ x. x.done) kept in
      let first : after.control.first ≡ block.first = ap (λ x. x.control.first) kept in
      let second : after.control.second ≡ block.second = ap (λ x. x.control.second) kept in
      record {
        line = cases_are_at_line s1 block.cases start;
        begun = begun;
        head = ap (λ x. x.control.head) kept;
        seen = ap (λ x. x.control.seen) kept;
        blocks = ap (λ b.
            cond b (after.done ++ m.blocked after.control.first after.control.second after.cases ∷ []) after.done) begun
            ∙ (ap (λ d. d ++ m.blocked after.control.first after.control.second after.cases ∷ []) done
            ∙ (ap (λ k. blocks_of m s ++ m.blocked k after.control.second after.cases ∷ []) first
            ∙ (ap (λ l. blocks_of m s ++ m.blocked block.first l after.cases ∷ []) second
            ∙ ap (λ c. blocks_of m s ++ m.blocked block.first block.second c ∷ []) cases)));
      }

  -- the lines of a block whose pair is declared and has no block yet
  pub leads_block : (s : State V K B) (block : WrittenBlock) (ps : List Placed) (more : List Token) → AtLine s →
      is_declared s.control.head block.first ≡ true → is_declared s.control.head block.second ≡ true →
      has_seen s.control.seen block.first block.second ≡ false → is_allowed_block block ≡ true →
      bare ps ≡ block_written_as block ++ more → LeadsBlock s ps block more
  leads_block s block [] more line first second fresh ok e = absurd (cc)
  leads_block s block (at ∷ rest) more line first second fresh ok e =
      let k = block.first in
      let l = block.second in
      let lines = flat_map (case_written_as k) block.cases in
      let same : at.token ≡ Known words.Block = cc in
      let told : bare rest ≡ Known (words.Kind k) ∷ Known (words.Kind l) ∷ LineEnd ∷ (lines ++ more) = cc in
      let word : move_for s.control at s.control.want at.token ≡ Some (moves.BlockWord at.line at.column) =
      ap (λ w. move_for s.control at w at.token) line.want ∙ ap (λ t. move_for s.control at wants.Line t) same in
      let s1 = moved m s (moves.BlockWord at.line at.column) in
      let s2 = moved m s1 (moves.Skip (wants.BlockSecond k)) in
      let s3 = moved m s2 (moves.BeginBlock k l) in
      let s4 = entered s at.line at.column block in
      let after = behind_cases s4 block.cases in
      let few : length block.cases ≤ 64 = leb-true _ _ (and_parts _ _ ok).0 in
      let room : 0 + length block.cases ≤ 64 = omega (arith, few) in
      let goes = leads_on m s1 rest s2 after (Known (words.Kind l) ∷ LineEnd ∷ (lines ++ more)) more
      (leads_by m s1 rest (Known (words.Kind k)) _ (moves.Skip (wants.BlockSecond k)) told
      (λ p. allowed_true _ _ first))
      (λ rest1 e1. leads_on m s2 rest1 s3 after (LineEnd ∷ (lines ++ more)) more
      (leads_by m s2 rest1 (Known (words.Kind l)) _ (moves.BeginBlock k l) e1
      (λ p. allowed_true _ _ (and_from _ _ second (ap (λ b. not b) fresh))))
      (λ rest2 e2. leads_on m s3 rest2 s4 after (lines ++ more) more
      (leads_by m s3 rest2 LineEnd _ (moves.Skip wants.Line) e2 (λ p. refl))
      (λ rest3 e3. leads_cases s4 block.cases rest3 more (entered_line s at.line at.column block line) refl room
      (and_parts _ _ ok).1 e3))) in
      record {
        after = after;
        read = block_read s at.line at.column block line;
        leads = record {
          rest = goes.rest;
          told = goes.told;
          reads = ap (λ x. going m rest (after_move m s at x)) word ∙ goes.reads;
        };
      }
