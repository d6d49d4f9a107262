-- Blocks that are read so far go on to a file: the missing blocks are written without cases.
use Rattle.std.proofs.Common.{◌≡◌, ℕ, ◌+◌, ◌≤◌, Bool, true, false, not, ◌&&◌, nat_le, List, [], ◌∷◌, ◌++◌, length, map}
use Rattle.std.proofs.Common.{count_by, cond, refl, sym, ap, ◌∙◌, subst, append_assoc, append-nil, length-append, arith}
use Rattle.std.proofs.Common.{nat_lt, zero, suc}
use Rattle.std.specs.List.{flat_map, list_all}
use Rattle.std.proofs.lemmas.Bool.Decides.{nat_tests}
use Rattle.std.proofs.lemmas.List.Sums.{sum_by-cons, sum_by-append, sum_by_push}
use Rattle.std.proofs.lemmas.Grind.{flat_map-append}
use Rattle.ot_model.specs.declared.op.Kind.{Kind}
use Rattle.std.proofs.lemmas.Bool.{not-true, and_parts, and_from, leb-true, le-leb}
use Rattle.ot_model.specs.Kinds.{kind_pairs}
use Rattle.fn_tokens.specs.declared.language.Language.{Language}
use Rattle.fn_tokens.specs.Languages.{has_words}
use Rattle.fn_tokens.specs.Kinds.{declares_some}
use Rattle.fn_rules.specs.declared.function.Head.{Head}
use Rattle.fn_rules.specs.Functions.{is_declared}
use Rattle.fn_rules.specs.Functions.{is_declared_pair}
use Rattle.ot_model.specs.Kinds.{is_same_kind}
use Rattle.fn_rules.specs.Validity.{compares_chars}
use Rattle.fn_rules.specs.Building.{is_for, has_own_block}
use Rattle.fn_tokens.specs.declared.token.Token.{Token}
use Rattle.fn_tokens.specs.declared.token.Token.TheVariants.{Known, LineEnd, FileEnd}
use Rattle.fn_tokens.specs.declared.token.Word.TheVariants as words
use Rattle.fn_tokens.specs.declared.control.Pairs.{Pairs}
use Rattle.fn_tokens.specs.Kinds.{has_seen, with_pair}
use Rattle.fn_tokens.specs.Meaning.{to_formulas}
use Rattle.fn_grammar.specs.Print.{head_tokens}
use Rattle.fn_grammar.specs.Grammar.{WrittenCase, WrittenBlock, block_written_as, block_made, atoms_in}
use Rattle.fn_text.specs.Continuing.{cases_above, is_allowed_case_with, is_allowed_block_with, is_allowed_file_with}
use Rattle.fn_text.specs.Continuing.{BeginsFileWithExtra}
use Rattle.fn_grammar.proofs.KindLists.{each_pair_from, listed_pair_true}
use Rattle.fn_text.proofs.SeenPairs.{has_seen-with_pair_itself, has_seen-still}
use Rattle.fn_text.proofs.ReadIsWritten.States.{AreBlocks}
use Rattle.fn_text.proofs.ReadIsWritten.Blocks.{own_block, counted_more, pairs_more, seen_more, all_more, all_front}
use Rattle.fn_text.proofs.ReadIsWritten.Blocks.{all_back, with_cases, all_blocks}

abbrev one_if : Bool → ℕ
one_if test = cond test 1 0

abbrev above : WrittenCase → Bool
above c = nat_lt 16 (atoms_in c.guard)

-- a head and blocks to which more blocks may come; so many cases may have so many atoms more
pub record IsOpen (extra : ℕ) (language : Language) (head : Head) (seen : Pairs)
    (blocks : List WrittenBlock) : Type 0 where
  pub some_kind : declares_some head ≡ true
  pub speaks : has_words language head ≡ true
  pub counts : (k l : Kind) → count_by (is_for k l) (map (block_made to_formulas) blocks) ≡ cond (has_seen seen k l) 1 0
  pub declared : (k l : Kind) → has_seen seen k l ≡ true → is_declared_pair head k l ≡ true
  pub allowed : list_all (is_allowed_block_with (16 + extra)) blocks ≡ true
  pub few : cases_above blocks ≤ extra

above_test : (a : ℕ) → nat_le a 16 ≡ true → one_if (nat_lt 16 a) ≡ 0
above_test a h = grind (arith, nat_tests)

-- cases within the limits are not above them
no_case_above : (chars : Bool) (cs : List WrittenCase)
    → list_all (is_allowed_case_with 16 chars) cs ≡ true → count_by above cs ≡ 0
no_case_above chars [] h = refl
no_case_above chars (c ∷ cs) h =
    let few : nat_le (atoms_in c.guard) 16 ≡ true =
    (and_parts _ _ (and_parts _ _ (and_parts _ _ (and_parts _ _ h).0).0).0).1 in
    let here : one_if (nat_lt 16 (atoms_in c.guard)) ≡ 0 = above_test (atoms_in c.guard) few in
    let others = no_case_above chars cs (and_parts (is_allowed_case_with 16 chars c) _ h).1 in
    let sum = sum_by-cons (λ x. cond (above x) 1 0) c cs in
    omega (arith, here, others, sum)

pub no_block_above : (blocks : List WrittenBlock)
    → list_all (is_allowed_block_with 16) blocks ≡ true → cases_above blocks ≡ 0
no_block_above [] h = refl
no_block_above (block ∷ blocks) h =
    let here = no_case_above _ block.cases (and_parts _ _ (and_parts _ _ h).0).1 in
    let others = no_block_above blocks (and_parts (is_allowed_block_with 16 block) _ h).1 in
    let sum = sum_by-append (λ x. cond (above x) 1 0) block.cases (flat_map (λ b. b.cases) blocks) in
    omega (arith, here, others, sum)

-- blocks within the limits are open, with no atom too many
pub blocks_are_open : (language : Language) (head : Head) (begun : Bool) (seen : Pairs) (blocks : List WrittenBlock) →
    AreBlocks language head begun seen blocks → IsOpen 0 language head seen blocks
blocks_are_open language head begun seen blocks h =
    let none = no_block_above blocks h.allowed in
    record {
      some_kind = h.some_kind;
      speaks = h.speaks;
      counts = h.counts;
      declared = h.declared;
      allowed = h.allowed;
      few = omega (arith, none);
    }

case_wider : (extra : ℕ) (chars : Bool) (c : WrittenCase) → is_allowed_case_with 16 chars c ≡ true →
    is_allowed_case_with (16 + extra) chars c ≡ true
case_wider extra chars c h =
    let front = (and_parts _ _ h).0 in
    let few : atoms_in c.guard ≤ 16 = leb-true (atoms_in c.guard) 16 (and_parts _ _ (and_parts _ _ front).0).1 in
    and_from _ _ (and_from _ _
    (and_from _ _ (and_parts _ _ (and_parts _ _ front).0).0
    (le-leb (atoms_in c.guard) (16 + extra) (omega (arith, few)))) (and_parts _ _ front).1) (and_parts _ _ h).1

cases_wider : (extra : ℕ) (chars : Bool) (cs : List WrittenCase) → list_all (is_allowed_case_with 16 chars) cs ≡ true →
    list_all (is_allowed_case_with (16 + extra) chars) cs ≡ true
cases_wider extra chars [] h = refl
cases_wider extra chars (c ∷ cs) h =
    and_from _ _ (case_wider extra chars c (and_parts _ _ h).0)
    (cases_wider extra chars cs (and_parts (is_allowed_case_with 16 chars c) _ h).1)

blocks_wider : (extra : ℕ) (blocks : List WrittenBlock) → list_all (is_allowed_block_with 16) blocks ≡ true →
    list_all (is_allowed_block_with (16 + extra)) blocks ≡ true
blocks_wider extra [] h = refl
blocks_wider extra (block ∷ blocks) h =
    let first = (and_parts _ _ h).0 in
    and_from _ _ (and_from _ _ (and_parts _ _ first).0 (cases_wider extra _ block.cases (and_parts _ _ first).1))
    (blocks_wider extra blocks (and_parts (is_allowed_block_with 16 block) _ h).1)

-- a block without cases more
pub open_block : (extra : ℕ) (language : Language) (head : Head) (seen : Pairs) (blocks : List WrittenBlock)
    (k l : Kind) → is_declared head k ≡ true → is_declared head l ≡ true → has_seen seen k l ≡ false → IsOpen extra
    language head seen blocks → IsOpen extra language head (with_pair seen k l) (blocks ++ with_cases k l [] ∷ [])
open_block extra language head seen blocks k l first second fresh h = record {
  some_kind = h.some_kind;
  speaks = h.speaks;
  counts = λ i j. counted_more i j blocks (with_cases k l [])
      ∙ (ap (λ n. n + cond (is_same_kind k i && is_same_kind l j) 1 0) (h.counts i j) ∙ pairs_more seen k l i j fresh);
  declared = λ i j. seen_more head seen k l i j first second (h.declared i j);
  allowed = all_more (is_allowed_block_with (16 + extra)) blocks (with_cases k l []) h.allowed refl;
  few = subst (λ x. count_by above x ≤ extra)
      (sym (flat_map-append (λ b. b.cases) blocks (with_cases k l [] ∷ [])
      ∙ append-nil (flat_map (λ b. b.cases) blocks))) h.few;
}

-- a case more in the last block
one_case_more : (done : List WrittenBlock) (k l : Kind) (cases : List WrittenCase) (c : WrittenCase) →
    flat_map (λ b. b.cases) (done ++ with_cases k l (cases ++ c ∷ []) ∷ [])
    ≡ flat_map (λ b. b.cases) (done ++ with_cases k l cases ∷ []) ++ c ∷ []
one_case_more done k l cases c =
    flat_map-append (λ b. b.cases) done (with_cases k l (cases ++ c ∷ []) ∷ [])
    ∙ (regrouped (flat_map (λ b. b.cases) done)
    ∙ sym (ap (λ x. x ++ c ∷ []) (flat_map-append (λ b. b.cases) done (with_cases k l cases ∷ []))))
  where
    regrouped : (before : List WrittenCase) → before ++ (cases ++ c ∷ [] ++ []) ≡ before ++ (cases ++ []) ++ c ∷ []
    regrouped before = simp (append_assoc, append-nil)

-- it may be the one that has so many atoms more
few_above : (extra a : ℕ) → a ≤ 16 + extra → one_if (nat_lt 16 a) ≤ extra
few_above zero a h =
    let none : one_if (nat_lt 16 a) ≡ 0 = above_test a (le-leb a 16 (omega (arith, h))) in omega (arith, none)
few_above (suc n) a h = let one = at_most_one (nat_lt 16 a) in omega (arith, one)
  where
    at_most_one : (test : Bool) → one_if test ≤ 1
    at_most_one true = omega arith
    at_most_one false = omega arith

-- open blocks stay open with one case more, whose guard may have so many atoms more
pub open_case : (extra : ℕ) (language : Language) (head : Head) (begun : Bool) (seen : Pairs) (done : List WrittenBlock)
    (k l : Kind) (cases : List WrittenCase) (c : WrittenCase) → begun ≡ true → length cases + 1 ≤ 64 →
    is_allowed_case_with (16 + extra) (compares_chars k l) c ≡ true → atoms_in c.guard ≤ 16 + extra →
    IsOpen 0 language head seen (all_blocks begun done (with_cases k l cases)) →
    IsOpen extra language head seen (all_blocks begun done (with_cases k l (cases ++ c ∷ [])))
open_case extra language head false seen done k l cases c so room now atoms h = absurd (cc)
open_case extra language head true seen done k l cases c so room now atoms h =
    let old = with_cases k l cases in
    let new = with_cases k l (cases ++ c ∷ []) in
    let wide : list_all (is_allowed_block_with (16 + extra)) (done ++ old ∷ []) ≡ true =
    blocks_wider extra (done ++ old ∷ []) h.allowed in
    let block : is_allowed_block_with (16 + extra) old ≡ true =
    (and_parts _ _ (all_back (is_allowed_block_with (16 + extra)) done (old ∷ []) wide)).0 in
    let count : length (cases ++ c ∷ []) ≡ length cases + 1 = length-append cases (c ∷ []) in
    let few : length (cases ++ c ∷ []) ≤ 64 = omega (arith, count, room) in
    let before = h.few in
    let one = few_above extra (atoms_in c.guard) atoms in
    let sum : count_by above (flat_map (λ b. b.cases) (done ++ old ∷ []) ++ c ∷ [])
    ≡ cases_above (done ++ old ∷ []) + one_if (above c) =
    sum_by_push (λ x. cond (above x) 1 0) (flat_map (λ b. b.cases) (done ++ old ∷ [])) c in
    let total : cases_above (done ++ new ∷ []) ≡ cases_above (done ++ old ∷ []) + one_if (above c) =
    ap (λ x. count_by above x) (one_case_more done k l cases c) ∙ sum in
    record {
      some_kind = h.some_kind;
      speaks = h.speaks;
      counts = λ i j. counted_more i j done new ∙ (sym (counted_more i j done old) ∙ h.counts i j);
      declared = h.declared;
      allowed = all_more (is_allowed_block_with (16 + extra)) done new
          (all_front (is_allowed_block_with (16 + extra)) done (old ∷ []) wide)
          (and_from _ _ (le-leb _ _ few)
          (all_more (is_allowed_case_with (16 + extra) (compares_chars k l)) cases c (and_parts _ _ block).1 now));
      few = omega (arith, before, one, total);
    }

-- the pair is declared and has no block
abbrev is_missing : Head → Pairs → Kind → Kind → Bool
is_missing head seen k l = is_declared_pair head k l && not (has_seen seen k l)

-- blocks that are open, with further ones, so that a pair is not missing
record Filled (extra : ℕ) (language : Language) (head : Head) (seen : Pairs) (blocks : List WrittenBlock)
    (k l : Kind) : Type 0 where
  now : Pairs
  more : List WrittenBlock
  opened : IsOpen extra language head now (blocks ++ more)
  full : is_missing head now k l ≡ false
  kept : (i j : Kind) → has_seen seen i j ≡ true → has_seen now i j ≡ true

not_missing : (declared seen : Bool) → seen ≡ true → (declared && not seen) ≡ false
not_missing true true h = refl
not_missing false true h = refl
not_missing declared false h = absurd (cc)

fill_by : (extra : ℕ) (language : Language) (head : Head) (seen : Pairs) (blocks : List WrittenBlock)
    (k l : Kind) (test : Bool) →
    is_missing head seen k l ≡ test → IsOpen extra language head seen blocks
    → Filled extra language head seen blocks k l
fill_by extra language head seen blocks k l false e h = record {
  now = seen;
  more = [];
  opened = subst (λ x. IsOpen extra language head seen x) (sym (append-nil blocks)) h;
  full = e;
  kept = λ i j seen_it. seen_it;
}
fill_by extra language head seen blocks k l true e h =
    let pair = (and_parts (is_declared_pair head k l) _ e).0 in
    record {
      now = with_pair seen k l;
      more = with_cases k l [] ∷ [];
      opened = open_block extra language head seen blocks k l (and_parts (is_declared head k) _ pair).0
          (and_parts (is_declared head k) _ pair).1 (not-true _ (and_parts (is_declared_pair head k l) _ e).1) h;
      full = not_missing (is_declared_pair head k l) _ (has_seen-with_pair_itself seen k l);
      kept = has_seen-still seen k l;
    }

fill : (extra : ℕ) (language : Language) (head : Head) (seen : Pairs) (blocks : List WrittenBlock) (k l : Kind) →
    IsOpen extra language head seen blocks → Filled extra language head seen blocks k l
fill extra language head seen blocks k l h =
    fill_by extra language head seen blocks k l (is_missing head seen k l) refl h

still_full : (declared seen now : Bool) → (declared && not seen) ≡ false → (seen ≡ true → now ≡ true)
    → (declared && not now) ≡ false
still_full false seen now h k = refl
still_full true true now h k = let so : now ≡ true = k refl in ap (λ x. not x) so
still_full true false now h k = absurd (cc)

full_file : (extra : ℕ) (language : Language) (head : Head) (seen : Pairs) (blocks : List WrittenBlock) →
    IsOpen extra language head seen blocks → ((k l : Kind) → is_missing head seen k l ≡ false)
    → is_allowed_file_with (16 + extra) language head blocks ≡ true
full_file extra language head seen blocks h full =
    and_from _ _ (and_from _ _
    (and_from _ _ h.some_kind (each_pair_from (has_own_block head (map (block_made to_formulas) blocks))
    (λ k l. own_block _ (has_seen seen k l) (is_declared_pair head k l) (h.counts k l) (h.declared k l) (full k l))))
    h.allowed) h.speaks

-- the same for each of a list of pairs
record AllFilled (extra : ℕ) (language : Language) (head : Head) (seen : Pairs) (blocks : List WrittenBlock)
    (pairs : List (Kind × Kind)) : Type 0 where
  now : Pairs
  more : List WrittenBlock
  opened : IsOpen extra language head now (blocks ++ more)
  full : list_all (λ p. not (is_missing head now p.0 p.1)) pairs ≡ true
  kept : (i j : Kind) → has_seen seen i j ≡ true → has_seen now i j ≡ true

fill_all : (extra : ℕ) (language : Language) (head : Head) (seen : Pairs) (blocks : List WrittenBlock)
    (pairs : List (Kind × Kind)) → IsOpen extra language head seen blocks →
    AllFilled extra language head seen blocks pairs
fill_all extra language head seen blocks [] h = record {
  now = seen;
  more = [];
  opened = subst (λ x. IsOpen extra language head seen x) (sym (append-nil blocks)) h;
  full = refl;
  kept = λ i j seen_it. seen_it;
}
fill_all extra language head seen blocks (p ∷ pairs) h =
    let one = fill extra language head seen blocks p.0 p.1 h in
    let others = fill_all extra language head one.now (blocks ++ one.more) pairs one.opened in
    record {
      now = others.now;
      more = one.more ++ others.more;
      opened =
          subst (λ x. IsOpen extra language head others.now x) (append_assoc blocks one.more others.more) others.opened;
      full = and_from _ _ (ap (λ b. not b)
          (still_full (is_declared_pair head p.0 p.1) (has_seen one.now p.0 p.1) (has_seen others.now p.0 p.1) one.full
          (others.kept p.0 p.1))) others.full;
      kept = λ i j seen_it. others.kept i j (one.kept i j seen_it);
    }

-- the blocks that make a file of those which are open
record Finished (extra : ℕ) (language : Language) (head : Head) (blocks : List WrittenBlock) : Type 0 where
  more : List WrittenBlock
  allowed : is_allowed_file_with (16 + extra) language head (blocks ++ more) ≡ true
  few : cases_above (blocks ++ more) ≤ extra

finish : (extra : ℕ) (language : Language) (head : Head) (seen : Pairs) (blocks : List WrittenBlock) →
    IsOpen extra language head seen blocks → Finished extra language head blocks
finish extra language head seen blocks h =
    let f = fill_all extra language head seen blocks kind_pairs h in
    record {
      more = f.more;
      allowed = full_file extra language head f.now (blocks ++ f.more) f.opened
          (λ k l. not-true _ (listed_pair_true (λ i j. not (is_missing head f.now i j)) k l f.full));
      few = f.opened.few;
    }

-- tokens that some further ones make into lines of the head and of blocks begin a file
pub lines_begin : (extra : ℕ) (ts more : List Token) (language : Language) (head : Head) (seen : Pairs)
    (blocks : List WrittenBlock) →
    IsOpen extra language head seen blocks → ts ++ more ≡ head_tokens language head ++ flat_map block_written_as blocks
    → BeginsFileWithExtra extra ts
lines_begin extra ts more language head seen blocks h e =
    let rest = finish extra language head seen blocks h in
    record {
      language = language;
      head = head;
      blocks = blocks ++ rest.more;
      rest = more ++ flat_map block_written_as rest.more ++ Known words.End ∷ LineEnd ∷ FileEnd ∷ [];
      allowed = rest.allowed;
      few = rest.few;
      written = regrouped ts more (flat_map block_written_as rest.more) (Known words.End ∷ LineEnd ∷ FileEnd ∷ [])
          ∙ (ap (λ x. x ++ flat_map block_written_as rest.more ++ Known words.End ∷ LineEnd ∷ FileEnd ∷ []) e
          ∙ (ap (λ x. x ++ Known words.End ∷ LineEnd ∷ FileEnd ∷ [])
          (append_assoc (head_tokens language head) (flat_map block_written_as blocks)
          (flat_map block_written_as rest.more))
          ∙ ap (λ x. head_tokens language head ++ x ++ Known words.End ∷ LineEnd ∷ FileEnd ∷ [])
          (sym (flat_map-append block_written_as blocks rest.more))));
    }
  where
    regrouped : (a b c d : List Token) → a ++ (b ++ c ++ d) ≡ (a ++ b) ++ c ++ d
    regrouped a b c d = simp append_assoc
