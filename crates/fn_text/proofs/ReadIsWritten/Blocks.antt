-- A token that goes on between lines, in the line of a block or behind a result: what is known of the
-- state behind it.
use Rattle.fn_tokens.specs.declared.token.Token.TheVariants as tokens
use Rattle.std.proofs.Common.{◌≡◌, ℕ, ◌+◌, ◌<◌, ◌≤◌, Bool, true, false, not, ◌&&◌, ◌||◌, nat_eq, List, [], ◌∷◌, ◌++◌}
use Rattle.std.proofs.Common.{length, map, count_by, cond, Some, refl, sym, ap, ◌∙◌, subst, inl, inr, append_assoc}
use Rattle.std.proofs.Common.{append-nil, length-append, arith}
use Rattle.std.specs.List.{flat_map, list_all}
use Rattle.std.proofs.lemmas.List.{map-append}
use Rattle.std.proofs.lemmas.List.Sums.{sum_by_push}
use Rattle.std.proofs.lemmas.List.Folds.{list_all-append}
use Rattle.std.proofs.lemmas.Grind.{flat_map-append}
use Rattle.ot_model.specs.declared.op.Kind.{Kind}
use Rattle.std.proofs.lemmas.Bool.{or_cases, and_parts, and_from, le-leb, not-true, ltb-true}
use Rattle.fn_rules.specs.declared.guard.Sort.TheVariants.{Pos}
use Rattle.fn_rules.specs.declared.guard.Side.{Side}
use Rattle.fn_rules.specs.declared.function.Head.{Head}
use Rattle.fn_rules.specs.Functions.{is_declared}
use Rattle.fn_rules.specs.Functions.{is_declared_pair}
use Rattle.ot_model.specs.Kinds.{is_same_kind}
use Rattle.fn_rules.specs.Validity.{compares_chars}
use Rattle.fn_rules.specs.Building.{is_for, has_own_block}
use Rattle.fn_tokens.specs.declared.token.Token.{Token}
use Rattle.fn_tokens.specs.declared.token.Token.TheVariants.{Known, Number, Colon, LineEnd, FileEnd}
use Rattle.fn_tokens.specs.declared.token.Word.TheVariants as words
use Rattle.fn_tokens.specs.declared.token.Placed.{Placed}
use Rattle.fn_tokens.specs.declared.token.Sign.{Sign}
use Rattle.fn_tokens.specs.declared.control.Written.{Written}
use Rattle.fn_tokens.specs.declared.control.Written.TheVariants as written
use Rattle.fn_tokens.specs.declared.control.Want.TheVariants as wants
use Rattle.fn_tokens.specs.declared.control.Pairs.{Pairs}
use Rattle.fn_tokens.specs.declared.control.TokenMove.{TokenMove}
use Rattle.fn_tokens.specs.declared.control.TokenMove.TheVariants as moves
use Rattle.fn_tokens.specs.declared.language.Language.{Language}
use Rattle.fn_tokens.specs.Kinds.{has_seen, with_pair}
use Rattle.fn_tokens.specs.Meaning.{to_formulas}
use Rattle.fn_tokens.specs.Controls.{has_chars, lacks, lacks_with, lacks_block}
use Rattle.fn_tokens.specs.FixedMoves.{at_fixed}
use Rattle.fn_tokens.specs.LineMoves.{at_line, at_block_first, at_block_second}
use Rattle.fn_tokens.specs.GuardMoves.{at_result}
use Rattle.fn_grammar.specs.Print.{head_tokens}
use Rattle.fn_text.specs.Reader.{Nesting, blocks_of}
use Rattle.fn_grammar.specs.Grammar.{written_as, WrittenCase, WrittenBlock, result_written_as, case_written_as}
use Rattle.fn_grammar.specs.Grammar.{block_written_as, block_made, is_allowed_result, is_allowed_case, is_allowed_block}
use Rattle.fn_grammar.proofs.KindLists.{each_pair_from, kind_fails, same_pair}
use Rattle.fn_text.proofs.SeenPairs.{has_seen-with_pair}
use Rattle.fn_text.proofs.ReadIsWritten.Moves.{by_line, by_block_first, by_block_second, by_block_end, by_result}
use Rattle.fn_text.proofs.ReadIsWritten.Moves.{by_result_position, by_result_offset, by_result_number, by_result_end}
use Rattle.fn_text.proofs.ReadIsWritten.States.{to_phrases, Phrases, front_of, atoms_part, nots_front, level_front}
use Rattle.fn_text.proofs.ReadIsWritten.States.{levels_front, atoms_of_level, atoms_of_levels, here, AreNestings}
use Rattle.fn_text.proofs.ReadIsWritten.States.{IsGuard, IsQuiet, AreBlocks, lines_of, BehindColon, result_front}
use Rattle.fn_text.proofs.ReadIsWritten.States.{Reached, allowed_part, nesting_part}
use Rattle.fn_text.proofs.ReadIsWritten.Guards.{Steps}

-- where no guard was open, one begins
pub quiet_guard : (chars : Bool) (level : Nesting _) (outer : List (Nesting _)) → IsQuiet level outer
    → IsGuard chars level outer
quiet_guard chars level outer q =
    let outside = q.outside in
    let nots = q.nots in
    let any : nesting_part level.any ≡ 0 = ap (λ x. nesting_part x) q.any in
    let all : nesting_part level.all ≡ 0 = ap (λ x. nesting_part x) q.all in
    record {
      inner = record {
        any_allowed = ap (λ x. allowed_part chars x) q.any;
        all_allowed = ap (λ x. allowed_part chars x) q.all;
        any_nested = omega (arith, outside, any);
        all_nested = omega (arith, outside, all);
      };
      around = subst (λ x. AreNestings chars level.outside x) (sym q.outer_none) outside;
      depth = omega (arith, outside, nots);
    }

quiet_atoms : (level : Nesting _) (outer : List (Nesting _)) → IsQuiet level outer
    → 0 ≡ atoms_of_levels outer + atoms_of_level level
quiet_atoms level outer q =
    let any : atoms_part level.any ≡ 0 = ap (λ x. atoms_part x) q.any in
    let all : atoms_part level.all ≡ 0 = ap (λ x. atoms_part x) q.all in
    let around : atoms_of_levels outer ≡ 0 = ap (λ x. atoms_of_levels x) q.outer_none in
    omega (arith, any, all, around)

quiet_front : (level : Nesting _) (outer : List (Nesting _)) → IsQuiet level outer
    → levels_front outer ++ level_front level ≡ []
quiet_front level outer q =
    ap (λ x. levels_front x ++ level_front level) q.outer_none
    ∙ (ap (λ x. front_of (Known words.Or) x ++ front_of (Known words.And) level.all ++ nots_front level.nots) q.any
    ∙ (ap (λ x. front_of (Known words.And) x ++ nots_front level.nots) q.all ∙ ap (λ n. nots_front n) q.nots))

-- which pairs have a block, where none is missing
pub own_block : (count : ℕ) (seen declared : Bool) → count ≡ cond seen 1 0 → (seen ≡ true → declared ≡ true) →
    (declared && not seen) ≡ false → nat_eq count (cond declared 1 0) ≡ true
own_block count true true e h k = rw e refl
own_block count true false e h k = let no : false ≡ true = h refl in absurd (cc)
own_block count false true e h k = absurd (cc)
own_block count false false e h k = rw e refl

end_front : (ts head blocks : List Token) → ts ≡ head ++ blocks →
    (ts ++ Known words.End ∷ []) ++ LineEnd ∷ FileEnd ∷ [] ≡ head ++ blocks ++ Known words.End ∷ LineEnd ∷ FileEnd ∷ []
end_front ts head blocks e = rw e (simp append_assoc)

-- the word `end`, where no block is missing
end_steps : (s : Phrases) (ts : List Token) → Reached s wants.Line ts → lacks_block s.control ≡ false →
    Steps s ts (Known words.End) moves.End
end_steps s ts h full =
    let head = s.control.head in
    let seen = s.control.seen in
    let blocks = blocks_of to_phrases s in
    let known = h.0.0 in
    let own = each_pair_from (has_own_block head (map (block_made to_formulas) blocks))
    (λ k l. own_block _ (has_seen seen k l) (is_declared_pair head k l) (known.counts k l) (known.declared k l)
    (kind_fails (lacks s.control k) l (kind_fails (lacks_with s.control) k full))) in (
      and_from _ _ (and_from _ _ (and_from _ _ known.some_kind own) known.allowed) known.speaks,
      end_front ts (head_tokens s.control.language head) (flat_map block_written_as blocks) h.1,
    )

-- a token that goes on where a line begins
pub line_steps : (s : Phrases) (at : Placed) (ts : List Token) (t : Token) (move : TokenMove) → Reached s wants.Line ts
    → at_line s.control at t ≡ Some move → Steps s ts t move
line_steps s at ts t move h e =
    by_line (Steps s ts) s.control at t move e
    (λ test. (
      h.0,
      not-true _ (and_parts _ _ test).0,
      not-true _ (and_parts _ _ test).1,
      ap (λ x. x ++ Known words.Assume ∷ []) h.1,
    )) (h.0, ap (λ x. x ++ Known words.Block ∷ []) h.1)
    (λ test.
    let room : s.control.cases < 64 = ltb-true _ _ (and_parts _ _ test).1 in (
      (
        (
          h.0.0,
          record { begun_so = (and_parts _ _ test).0; counted = ap (λ n. n + 1) h.0.2; room = omega (arith, room) },
        ),
        quiet_guard (has_chars s.control) (here s) s.outer h.0.1,
        quiet_atoms (here s) s.outer h.0.1,
        omega arith,
      ),
      ap (λ x. x ++ Known words.Case ∷ []) h.1
          ∙ ap (λ x. lines_of s ++ Known words.Case ∷ x) (sym (quiet_front (here s) s.outer h.0.1)),
    ))
    (λ test. end_steps s ts h (not-true _ test))

pub block_first_steps : (s : Phrases) (ts : List Token) (t : Token) (move : TokenMove) → Reached s wants.BlockFirst ts →
    at_block_first s.control t ≡ Some move → Steps s ts t move
block_first_steps s ts t move h e =
    by_block_first (Steps s ts) s.control t move e
    (λ k declared. (
      h.0,
      declared,
      ap (λ x. x ++ Known (words.Kind k) ∷ []) h.1
          ∙ append_assoc (lines_of s) (Known words.Block ∷ []) (Known (words.Kind k) ∷ []),
    ))

-- a block more
pub counted_more : (k l : Kind) (blocks : List WrittenBlock) (block : WrittenBlock) →
    count_by (is_for k l) (map (block_made to_formulas) (blocks ++ block ∷ []))
    ≡ count_by (is_for k l) (map (block_made to_formulas) blocks) + cond (is_for k l (block_made to_formulas block)) 1 0
counted_more k l blocks block =
    ap (λ x. count_by (is_for k l) x) (map-append (block_made to_formulas) blocks (block ∷ []))
    ∙ sum_by_push (λ x. cond (is_for k l x) 1 0) (map (block_made to_formulas) blocks) (block_made to_formulas block)

counted_once : (here seen : Bool) → (here ≡ true → seen ≡ false)
    → cond seen 1 0 + cond here 1 0 ≡ cond (here || seen) 1 0
counted_once true true fresh = let no : true ≡ false = fresh refl in absurd (cc)
counted_once true false fresh = refl
counted_once false true fresh = refl
counted_once false false fresh = refl

pub pairs_more : (seen : Pairs) (k l i j : Kind) → has_seen seen k l ≡ false →
    cond (has_seen seen i j) 1 0 + cond (is_same_kind k i && is_same_kind l j) 1 0
    ≡ cond (has_seen (with_pair seen k l) i j) 1 0
pairs_more seen k l i j fresh =
    counted_once (is_same_kind k i && is_same_kind l j) (has_seen seen i j)
    (λ here. same_pair (λ x y. has_seen seen x y ≡ false) k l i j here fresh)
    ∙ ap (λ b. cond b 1 0) (sym (has_seen-with_pair seen k l i j))

pub seen_more : (head : Head) (seen : Pairs) (k l i j : Kind) → is_declared head k ≡ true → is_declared head l ≡ true →
    (has_seen seen i j ≡ true → is_declared_pair head i j ≡ true) → has_seen (with_pair seen k l) i j ≡ true →
    is_declared_pair head i j ≡ true
seen_more head seen k l i j first second before h =
    elim (or_cases (is_same_kind k i && is_same_kind l j) (has_seen seen i j)
    (sym (has_seen-with_pair seen k l i j) ∙ h)) [
      | inl here ↦ same_pair (λ x y. is_declared_pair head x y ≡ true) k l i j here (and_from _ _ first second)
      | inr earlier ↦ before earlier
    ]

allowed_more : (blocks : List WrittenBlock) (block : WrittenBlock) → list_all is_allowed_block blocks ≡ true →
    is_allowed_block block ≡ true → list_all is_allowed_block (blocks ++ block ∷ []) ≡ true
allowed_more blocks block before now =
    list_all-append is_allowed_block blocks (block ∷ []) ∙ and_from _ _ before (and_from _ _ now refl)

-- the blocks read so far, with a new one that has no case yet
begun_block : (language : Language) (head : Head) (begun : Bool) (seen : Pairs)
    (blocks : List WrittenBlock) (k l : Kind) →
    is_declared head k ≡ true → is_declared head l ≡ true → has_seen seen k l ≡ false
    → AreBlocks language head begun seen blocks →
    AreBlocks language head true (with_pair seen k l) (blocks ++ record { first = k; second = l; cases = [] } ∷ [])
begun_block language head begun seen blocks k l first second fresh h = record {
  some_kind = h.some_kind;
  speaks = h.speaks;
  counts = λ i j. counted_more i j blocks (record { first = k; second = l; cases = [] })
      ∙ (ap (λ n. n + cond (is_same_kind k i && is_same_kind l j) 1 0) (h.counts i j) ∙ pairs_more seen k l i j fresh);
  declared = λ i j. seen_more head seen k l i j first second (h.declared i j);
  allowed = allowed_more blocks (record { first = k; second = l; cases = [] }) h.allowed refl;
  none = λ no. absurd (cc);
}

pub block_front : (ts head : List Token) (blocks : List WrittenBlock) (k l : Kind) →
    ts ≡ (head ++ flat_map block_written_as blocks) ++ Known words.Block ∷ Known (words.Kind k) ∷ [] →
    (ts ++ Known (words.Kind l) ∷ []) ++ LineEnd ∷ []
    ≡ head ++ flat_map block_written_as (blocks ++ record { first = k; second = l; cases = [] } ∷ [])
block_front ts head blocks k l e =
    rw (e, flat_map-append block_written_as blocks (record { first = k; second = l; cases = [] } ∷ []))
    (simp append_assoc)

-- the second kind of a block
pub block_second_steps : (s : Phrases) (k : Kind) (ts : List Token) (t : Token) (move : TokenMove)
    → Reached s (wants.BlockSecond k) ts → at_block_second s.control k t ≡ Some move → Steps s ts t move
block_second_steps s k ts t move h e =
    by_block_second (Steps s ts) s.control k t move e
    (λ l declared fresh. (
      (
        begun_block s.control.language s.control.head s.control.begun s.control.seen (blocks_of to_phrases s) k l h.1
            declared (not-true _ fresh) h.0.0,
        h.0.1,
        refl,
      ),
      block_front ts (head_tokens s.control.language s.control.head) (blocks_of to_phrases s) k l h.2,
    ))

pub block_end_steps : (s : Phrases) (ts : List Token) (t : Token) (move : TokenMove) → Reached s wants.BlockEnd ts →
    at_fixed wants.BlockEnd t ≡ Some move → Steps s ts t move
block_end_steps s ts t move h e = by_block_end (Steps s ts) t move e h

-- more tokens of a result
pub in_result : (lines ts guard result more : List Token) → ts ≡ lines ++ Known words.Case ∷ (guard ++ Colon ∷ result) →
    ts ++ more ≡ lines ++ Known words.Case ∷ (guard ++ Colon ∷ (result ++ more))
in_result lines ts guard result more e = rw e (simp append_assoc)

-- a case more in the last block
abbrev pub with_cases : Kind → Kind → List WrittenCase → WrittenBlock
with_cases k l cases = record { first = k; second = l; cases = cases }

abbrev pub all_blocks : Bool → List WrittenBlock → WrittenBlock → List WrittenBlock
all_blocks begun done block = cond begun (done ++ block ∷ []) done

pub all_more : {X : Type 0} (test : X → Bool) (xs : List X) (x : X) → list_all test xs ≡ true → test x ≡ true →
    list_all test (xs ++ x ∷ []) ≡ true
all_more test xs x before now = list_all-append test xs (x ∷ []) ∙ and_from _ _ before (and_from _ _ now refl)

pub all_front : {X : Type 0} (test : X → Bool) (xs ys : List X) → list_all test (xs ++ ys) ≡ true
    → list_all test xs ≡ true
all_front test xs ys h = (and_parts _ _ (sym (list_all-append test xs ys) ∙ h)).0

pub all_back : {X : Type 0} (test : X → Bool) (xs ys : List X) → list_all test (xs ++ ys) ≡ true
    → list_all test ys ≡ true
all_back test xs ys h = (and_parts (list_all test xs) _ (sym (list_all-append test xs ys) ∙ h)).1

-- the blocks read so far, with one case more in the last of them
case_more : (language : Language) (head : Head) (begun : Bool) (seen : Pairs) (done : List WrittenBlock) (k l : Kind)
    (cases : List WrittenCase) (c : WrittenCase) → begun ≡ true → length cases + 1 ≤ 64 → is_allowed_case
    (compares_chars k l) c ≡ true → AreBlocks language head begun seen (all_blocks begun done (with_cases k l cases)) →
    AreBlocks language head begun seen (all_blocks begun done (with_cases k l (cases ++ c ∷ [])))
case_more language head false seen done k l cases c so room now h = absurd (cc)
case_more language head true seen done k l cases c so room now h =
    let old = with_cases k l cases in
    let new = with_cases k l (cases ++ c ∷ []) in
    let block : is_allowed_block old ≡ true = (and_parts _ _ (all_back is_allowed_block done (old ∷ []) h.allowed)).0 in
    let count : length (cases ++ c ∷ []) ≡ length cases + 1 = length-append cases (c ∷ []) in
    let few : length (cases ++ c ∷ []) ≤ 64 = omega (arith, count, room) in
    record {
      some_kind = h.some_kind;
      speaks = h.speaks;
      counts = λ i j. counted_more i j done new ∙ (sym (counted_more i j done old) ∙ h.counts i j);
      declared = h.declared;
      allowed = all_more is_allowed_block done new (all_front is_allowed_block done (old ∷ []) h.allowed)
          (and_from _ _ (le-leb _ _ few)
          (all_more (is_allowed_case (compares_chars k l)) cases c (and_parts _ _ block).1 now));
      none = λ no. absurd (cc);
    }

last_lines : (head done lines line : List Token) (a b c d : Token) →
    head ++ (done ++ (a ∷ b ∷ c ∷ d ∷ lines ++ [])) ++ line
    ≡ head ++ (done ++ (a ∷ b ∷ c ∷ d ∷ (lines ++ (line ++ [])) ++ []))
last_lines head done lines line a b c d = simp (append_assoc, append-nil)

-- the tokens of a case after those of the blocks read so far are those of the blocks with that case
pub case_front_more : (head : List Token) (begun : Bool) (done : List WrittenBlock) (k l : Kind)
    (cases : List WrittenCase) (c : WrittenCase) → begun ≡ true →
    (head ++ flat_map block_written_as (all_blocks begun done (with_cases k l cases))) ++ case_written_as k c
    ≡ head ++ flat_map block_written_as (all_blocks begun done (with_cases k l (cases ++ c ∷ [])))
case_front_more head false done k l cases c so = absurd (cc)
case_front_more head true done k l cases c so =
    let others = flat_map block_written_as done in
    let before = flat_map (case_written_as k) cases in
    ap (λ x. head ++ x ++ case_written_as k c) (flat_map-append block_written_as done (with_cases k l cases ∷ []))
    ∙ (last_lines head others before (case_written_as k c) (Known words.Block) (Known (words.Kind k))
    (Known (words.Kind l)) LineEnd
    ∙ (ap (λ x. head ++ (others ++ (Known words.Block ∷ Known (words.Kind k) ∷ Known (words.Kind l) ∷ LineEnd ∷ x
    ++ []))) (sym (flat_map-append (case_written_as k) cases (c ∷ [])))
    ∙ ap (λ x. head ++ x) (sym (flat_map-append block_written_as done (with_cases k l (cases ++ c ∷ []) ∷ [])))))

pub line_front : (ts lines guard result : List Token) → ts ≡ lines ++ Known words.Case ∷ (guard ++ Colon ∷ result) →
    ts ++ LineEnd ∷ [] ≡ lines ++ (Known words.Case ∷ guard ++ Colon ∷ result ++ LineEnd ∷ [])
line_front ts lines guard result e = rw e (simp append_assoc)

-- the end of the line of a case
pub end_case_steps : (s : Phrases) (w : Written) (ts : List Token) → BehindColon s → is_allowed_result w ≡ true →
    ts ≡ result_front s (result_written_as s.control.first w) → Steps s ts LineEnd (moves.EndCase w)
end_case_steps s w ts h ok e =
    let c : WrittenCase = record { guard = s.guard; result = w } in
    let counted = h.0.1.counted in
    let few = h.0.1.room in
    let room : length s.cases + 1 ≤ 64 = omega (arith, counted, few) in
    let read = h.2 in
    let valid : is_allowed_case (compares_chars s.control.first s.control.second) c ≡ true =
    and_from _ _ (and_from _ _ (and_from _ _ read.allowed (le-leb _ _ read.few)) (le-leb _ _ read.shallow)) ok in (
      (
        case_more s.control.language s.control.head s.control.begun s.control.seen s.done s.control.first
            s.control.second s.cases c h.0.1.begun_so room valid h.0.0,
        h.1,
        counted ∙ sym (length-append s.cases (c ∷ [])),
      ),
      line_front ts (lines_of s) (written_as s.guard) (result_written_as s.control.first w) e
          ∙ case_front_more (head_tokens s.control.language s.control.head) s.control.begun s.done s.control.first
          s.control.second s.cases c h.0.1.begun_so,
    )

pub result_steps : (s : Phrases) (ts : List Token) (t : Token) (move : TokenMove) → Reached s wants.Result ts →
    at_result s.control t ≡ Some move → Steps s ts t move
result_steps s ts t move h e =
    by_result (Steps s ts) s.control t move e
    (h.0, refl, in_result (lines_of s) ts (written_as s.guard) [] _ h.1)
    (h.0, in_result (lines_of s) ts (written_as s.guard) [] _ h.1)

pub result_position_steps : (s : Phrases) (ts : List Token) (t : Token) (move : TokenMove)
    → Reached s wants.ResultPosition ts → at_fixed wants.ResultPosition t ≡ Some move → Steps s ts t move
result_position_steps s ts t move h e =
    by_result_position (Steps s ts) t move e
    (λ side. (
      h.0,
      in_result (lines_of s) ts (written_as s.guard) (Known (words.Kind s.control.first) ∷ [])
          (Known (words.Thing Pos side) ∷ []) h.1,
    ))

pub result_offset_steps : (s : Phrases) (side : Side) (ts : List Token) (t : Token) (move : TokenMove) →
    Reached s (wants.ResultOffset side) ts → at_fixed (wants.ResultOffset side) t ≡ Some move → Steps s ts t move
result_offset_steps s side ts t move h e =
    by_result_offset (Steps s ts) side t move e
    (λ sign. (
      h.0,
      in_result (lines_of s) ts (written_as s.guard) (result_written_as s.control.first (written.At side))
          (tokens.Sign sign ∷ []) h.1,
    ))
    (end_case_steps s (written.At side) ts h.0 refl h.1)

pub result_number_steps : (s : Phrases) (side : Side) (sign : Sign) (ts : List Token) (t : Token) (move : TokenMove) →
    Reached s (wants.ResultNumber side sign) ts
    → at_fixed (wants.ResultNumber side sign) t ≡ Some move → Steps s ts t move
result_number_steps s side sign ts t move h e =
    by_result_number (Steps s ts) side sign t move e
    (λ n small. (
      h.0,
      small,
      in_result (lines_of s) ts (written_as s.guard)
          (result_written_as s.control.first (written.At side) ++ tokens.Sign sign ∷ []) (Number n ∷ []) h.1,
    ))

pub result_end_steps : (s : Phrases) (w : Written) (ts : List Token) (t : Token) (move : TokenMove)
    → Reached s (wants.ResultEnd w) ts → at_fixed (wants.ResultEnd w) t ≡ Some move → Steps s ts t move
result_end_steps s w ts t move h e =
    by_result_end (Steps s ts) w t move e (end_case_steps s w ts h.0 h.1 h.2)
