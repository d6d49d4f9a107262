-- Each token that goes on keeps what the state tells of the tokens before.
use Rattle.std.proofs.Common.{◌≡◌, ℕ, zero, suc, ◌+◌, nat_lt, ◌&&◌, ◌||◌, Bool, true, false, cond, List, [], ◌∷◌, drop}
use Rattle.std.proofs.Common.{Option, Some, None, refl, sym, ap, subst, ◌∙◌, arith, rules}
use Rattle.std.specs.List.{list_any}
use Rattle.std.proofs.lemmas.Bool.{and_parts, not-true}
use Rattle.std.proofs.lemmas.Bool.Decides.{nat_tests}
use Rattle.ot_model.specs.declared.op.Kind.{Kind}
use Rattle.ot_model.specs.declared.op.Kind.TheVariants as kinds
use Rattle.ot_model.specs.declared.op.Mode.{Mode}
use Rattle.ot_model.specs.Kinds.{is_same_kind}
use Rattle.fn_rules.specs.declared.function.Head.{Head}
use Rattle.fn_rules.specs.Functions.{is_declared}
use Rattle.fn_rules.specs.declared.guard.Sort.TheVariants.{Pos, Site, Char}
use Rattle.fn_rules.specs.Formulas.{other_side}
use Rattle.fn_rules.specs.declared.guard.Sort.{Sort}
use Rattle.fn_rules.specs.declared.guard.Side.{Side}
use Rattle.fn_rules.specs.declared.guard.Cmp.{Cmp}
use Rattle.fn_rules.specs.declared.guard.Tightness.{Tightness}
use Rattle.fn_tokens.specs.declared.token.Sign.{Sign}
use Rattle.fn_tokens.specs.declared.control.Written.{Written}
use Rattle.fn_tokens.specs.declared.token.Token.{Token}
use Rattle.fn_tokens.specs.declared.token.Token.TheVariants.{Known, Number, Open, Close}
use Rattle.fn_tokens.specs.declared.token.Word.TheVariants as words
use Rattle.fn_tokens.specs.declared.token.Placed.{Placed}
use Rattle.fn_tokens.specs.declared.control.AfterLine.{AfterLine}
use Rattle.fn_tokens.specs.declared.control.AfterLine.TheVariants as nexts
use Rattle.fn_tokens.specs.declared.control.Want.{Want}
use Rattle.fn_tokens.specs.declared.control.Want.TheVariants as wants
use Rattle.fn_tokens.specs.declared.control.TokenMove.{TokenMove}
use Rattle.fn_tokens.specs.declared.control.TokenMove.TheVariants as moves
use Rattle.fn_tokens.specs.declared.language.Language.{Language}
use Rattle.fn_tokens.specs.declared.language.Language.TheVariants.{One, Two}
use Rattle.fn_tokens.specs.Languages.{language_numbered, number_of}
use Rattle.fn_tokens.specs.Meaning.{Maker}
use Rattle.fn_text.specs.Reader.{State, Nesting, disjunction, left_for, closed_parentheses, moved}
use Rattle.fn_tokens.specs.Controls.{lacks_block}
use Rattle.fn_tokens.specs.Kinds.{with_kind, with_pair, has_seen}
use Rattle.fn_tokens.specs.Moves.{move_for}
use Rattle.fn_text.specs.Counting.{language_before, is_behind_otfn, is_behind_block, is_in_kinds, kinds_before}
use Rattle.fn_text.specs.Counting.{declares, first_of_block, is_behind_pair, blocks_before, has_block, this_block}
use Rattle.fn_text.specs.Counting.{cases_before, atoms_before, thing_compared, is_behind_operand, without_nots}
use Rattle.fn_text.specs.Counting.{opened_before}
use Rattle.fn_text.specs.Causes.{place_behind}
use Rattle.fn_text.proofs.SeenPairs.{has_seen-with_pair}
use Rattle.fn_text.proofs.Languages.{declared_more}
use Rattle.fn_text.proofs.Causes.States.{first_for, wants_version, Stands, nots_upon, opened_by, AreAround}
use Rattle.fn_text.proofs.ReadIsWritten.Moves.{by_otfn, by_version, by_text, by_mode, by_kinds, by_line_end, by_line}
use Rattle.fn_text.proofs.ReadIsWritten.Moves.{by_assumed, by_differ, by_next_kind, by_block_first, by_block_second}
use Rattle.fn_text.proofs.ReadIsWritten.Moves.{by_block_end, by_operand, by_comparison, by_right, by_operator}
use Rattle.fn_text.proofs.ReadIsWritten.Moves.{by_offset, by_number, by_result, by_result_position, by_result_offset}
use Rattle.fn_text.proofs.ReadIsWritten.Moves.{by_result_number, by_result_end, by_file_end}

-- what is counted behind one more kind
first_behind : (k : Kind) (before : List Token) (test : Bool) → is_behind_block before ≡ test →
    first_of_block (Known (words.Kind k) ∷ before) ≡ cond test (Some k) None
first_behind k before test e = ap (λ x. cond x (Some k) None) e

pair_behind : (l : Kind) (before : List Token) (first : Option Kind) → first_of_block before ≡ first →
    is_behind_pair (Known (words.Kind l) ∷ before) ≡ (elim first [ Some k ↦ true | None ↦ false ])
pair_behind l before first e = ap (λ (x : Option Kind). elim x as (λ y. Bool) [ Some k ↦ true | None ↦ false ]) e

blocks_behind : (l : Kind) (before : List Token) (first : Option Kind) → first_of_block before ≡ first →
    blocks_before (Known (words.Kind l) ∷ before)
    ≡ (elim first [ Some k ↦ (k, l) ∷ blocks_before before | None ↦ blocks_before before ])
blocks_behind l before first e =
    ap
    (λ (x : Option Kind). elim x as (λ y. List (Kind × Kind)) [
      | Some k ↦ (k, l) ∷ blocks_before before
      | None ↦ blocks_before before
    ])
    e

kinds_behind : (k : Kind) (before : List Token) (test : Bool) → is_in_kinds before ≡ test →
    kinds_before (Known (words.Kind k) ∷ before) ≡ cond test (k ∷ kinds_before before) (kinds_before before)
kinds_behind k before test e = ap (λ x. cond x (k ∷ kinds_before before) (kinds_before before)) e

operand_behind : (sort : Sort) (side : Side) (before : List Token) (first : Option (Sort × Side))
    → thing_compared before ≡ first →
    is_behind_operand (Known (words.Thing sort side) ∷ before) ≡ (elim first [ Some thing ↦ true | None ↦ false ])
operand_behind sort side before first e =
    ap (λ (x : Option (Sort × Side)). elim x as (λ y. Bool) [ Some thing ↦ true | None ↦ false ]) e

abbrev has_pair : Kind → Kind → List (Kind × Kind) → Bool
has_pair i j pairs = list_any (λ pair. is_same_kind pair.0 i && is_same_kind pair.1 j) pairs

-- the language behind one more number
language_behind : (n : ℕ) (before : List Token) (test : Bool) → is_behind_otfn before ≡ test →
    language_before (Number n ∷ before)
    ≡ cond test (elim (language_numbered n) [ Some language ↦ language | None ↦ One ]) (language_before before)
language_behind n before test e =
    ap (λ x. cond x (elim (language_numbered n) [ Some language ↦ language | None ↦ One ]) (language_before before)) e

number_named : (language : Language) (before : List Token) → is_behind_otfn before ≡ true →
    language_before (Number (number_of language) ∷ before) ≡ language
number_named One before e = language_behind 1 before true e
number_named Two before e = language_behind 2 before true e

-- what the head declares, when something else of it is told
declared_in_mode : (head : Head) (mode : Mode) (k : Kind)
    → is_declared (record head { mode = mode }) k ≡ is_declared head k
declared_in_mode head mode kinds.Ins = refl
declared_in_mode head mode kinds.Del = refl
declared_in_mode head mode kinds.Upd = refl

declared_over_sites : (head : Head) (k : Kind)
    → is_declared (record head { sites_differ = true }) k ≡ is_declared head k
declared_over_sites head kinds.Ins = refl
declared_over_sites head kinds.Del = refl
declared_over_sites head kinds.Upd = refl

declared_over_chars : (head : Head) (k : Kind)
    → is_declared (record head { chars_differ = true }) k ≡ is_declared head k
declared_over_chars head kinds.Ins = refl
declared_over_chars head kinds.Del = refl
declared_over_chars head kinds.Upd = refl

nots_more : (n : ℕ) (opened : List Token) → nots_upon (n + 1) opened ≡ Known words.Not ∷ nots_upon n opened
nots_more n opened = let e : n + 1 ≡ suc n = omega arith in ap (λ x. nots_upon x opened) e

pub closed_nots : {V : Tightness → Type 0} (n : ℕ) (outer : List (Nesting V)) →
    without_nots (nots_upon n (opened_by outer)) ≡ opened_by outer
closed_nots zero [] = refl
closed_nots zero (level ∷ levels) = refl
closed_nots (suc n) outer = closed_nots n outer

none_opened : {V : Tightness → Type 0} (n : ℕ) (outer : List (Nesting V)) → AreAround n outer
    → n ≡ 0 → [] ≡ opened_by outer
none_opened n [] h e = refl
none_opened n (level ∷ levels) h e = let one = h.0 in absurd (omega (arith, one, e))

module _ {V : Tightness → Type 0} {K B : Type 0} (m : Maker V K B) (s : State V K B) (at : Placed) (before : List Token)
    (place : ℕ × ℕ) where
  -- what the state tells where this is wanted, and what a token and its move then keep
  abbrev StandsAt : Want → Type 0
  StandsAt want = Stands s.control s.outer want before place

  abbrev Keeps : Token → TokenMove → Type 0
  Keeps t move =
      Stands (moved m s move).control (moved m s move).outer (moved m s move).control.want (t ∷ before)
      (place_behind t at place)

  -- each token that goes on there keeps it
  abbrev KeepsAt : Want → Type 0
  KeepsAt want = (t : Token) (move : TokenMove) → StandsAt want
      → move_for s.control at want t ≡ Some move → Keeps t move

  otfn_keeps : KeepsAt wants.Otfn
  otfn_keeps t move h e = by_otfn Keeps t move e assumption

  version_keeps : KeepsAt wants.Version
  version_keeps t move h e =
      by_version Keeps t move e (λ language. let named = number_named language before h.near.otfn in assumption)

  text_keeps : KeepsAt wants.Text
  text_keeps t move h e = by_text Keeps t move e assumption

  mode_keeps : KeepsAt wants.Mode
  mode_keeps t move h e = by_mode Keeps t move e (declared h)
    where
      declared : StandsAt wants.Mode → (mode : Mode) → Keeps (Known (words.Mode mode)) (moves.SetMode mode)
      declared h mode =
          let head : (k : Kind) → declares before k ≡ is_declared (record s.control.head { mode = mode }) k =
          λ k. h.declared k ∙ sym (declared_in_mode s.control.head mode k) in
          let none : (k : Kind) → is_declared (record s.control.head { mode = mode }) k ≡ false =
          λ k. declared_in_mode s.control.head mode k ∙ h.none k in
          assumption

  kinds_keeps : KeepsAt wants.Kinds
  kinds_keeps t move h e = by_kinds Keeps t move e assumption

  line_end_keeps : (following : AfterLine) → KeepsAt (wants.LineEnd following)
  line_end_keeps nexts.Text t move h e = by_line_end Keeps nexts.Text t move e assumption
  line_end_keeps nexts.Kinds t move h e = by_line_end Keeps nexts.Kinds t move e assumption
  line_end_keeps nexts.Line t move h e = by_line_end Keeps nexts.Line t move e assumption
  line_end_keeps nexts.File t move h e = by_line_end Keeps nexts.File t move e assumption

  differ_keeps : KeepsAt wants.Differ
  differ_keeps t move h e = by_differ Keeps t move e assumption

  assumed_keeps : KeepsAt wants.Assumed
  assumed_keeps t move h e =
      by_assumed Keeps s.control t move e
      (λ test.
      let head : (k : Kind) → declares before k ≡ is_declared (record s.control.head { sites_differ = true }) k =
      λ k. h.declared k ∙ sym (declared_over_sites s.control.head k) in
      assumption)
      (let head : (k : Kind) → declares before k ≡ is_declared (record s.control.head { chars_differ = true }) k =
      λ k. h.declared k ∙ sym (declared_over_chars s.control.head k) in
      assumption)

  -- where a line begins
  line_keeps : KeepsAt wants.Line
  line_keeps t move h e =
      by_line Keeps s.control at t move e
      (λ test. assumption)
      (assumption)
      (λ test.
      let begun : s.control.begun ≡ true = (and_parts _ _ test).0 in
      let some : s.control.begun ≡ false → 0 ≡ cases_before before + 1 = λ none. absurd (cc) in
      let more : s.control.cases + 1 ≡ cases_before before + 1 = ap (λ n. n + 1) h.cases in
      assumption)
      (λ test.
      let full : lacks_block s.control ≡ false = not-true _ test in
      let ended : false ≡ true → this_block (blocks_before before) ≡ Some (s.control.first, s.control.second) =
      λ begun. absurd (cc) in
      assumption)

  block_end_keeps : KeepsAt wants.BlockEnd
  block_end_keeps t move h e = by_block_end Keeps t move e assumption

  comparison_keeps : (sort : Sort) (left : Side) → KeepsAt (wants.Comparison sort left)
  comparison_keeps sort left t move h e = by_comparison Keeps sort left t move e (λ cmp. assumption)

  -- a number that names no language
  language_stays : (want : Want) → StandsAt want → wants_version want ≡ false → (n : ℕ) →
      language_before (Number n ∷ before) ≡ s.control.language
  language_stays want h other n = language_behind n before false (h.near.otfn ∙ other) ∙ h.language

  number_keeps : (left : Side) (cmp : Cmp) (sign : Sign) → KeepsAt (wants.Number left cmp sign)
  number_keeps left cmp sign t move h e =
      by_number Keeps left cmp sign t move e
      (λ n test. let named = language_stays (wants.Number left cmp sign) h refl n in assumption)

  result_position_keeps : KeepsAt wants.ResultPosition
  result_position_keeps t move h e = by_result_position Keeps t move e (λ side. assumption)

  result_offset_keeps : (side : Side) → KeepsAt (wants.ResultOffset side)
  result_offset_keeps side t move h e = by_result_offset Keeps side t move e (λ sign. assumption) assumption

  result_number_keeps : (side : Side) (sign : Sign) → KeepsAt (wants.ResultNumber side sign)
  result_number_keeps side sign t move h e =
      by_result_number Keeps side sign t move e
      (λ n test. let named = language_stays (wants.ResultNumber side sign) h refl n in assumption)

  result_end_keeps : (result : Written) → KeepsAt (wants.ResultEnd result)
  result_end_keeps result t move h e = by_result_end Keeps result t move e assumption

  file_end_keeps : KeepsAt wants.FileEnd
  file_end_keeps t move h e = by_file_end Keeps t move e assumption

  -- a kind more that does not end the pair of a block
  record EndsNoPair (k : Kind) : Type 0 where
    pair : is_behind_pair (Known (words.Kind k) ∷ before) ≡ false
    seen : (i j : Kind) → has_block (Known (words.Kind k) ∷ before) i j ≡ has_seen s.control.seen i j
    block : s.control.begun ≡ true →
        this_block (blocks_before (Known (words.Kind k) ∷ before)) ≡ Some (s.control.first, s.control.second)

  ends_no_pair : (want : Want) (k : Kind) → StandsAt want → first_for want ≡ None → EndsNoPair k
  ends_no_pair want k h none =
      let first = h.near.first ∙ none in
      let blocks = blocks_behind k before None first in
      record {
        pair = pair_behind k before None first;
        seen = λ i j. ap (λ pairs. has_pair i j pairs) blocks ∙ h.seen i j;
        block = λ begun. ap (λ pairs. this_block pairs) blocks ∙ h.block begun;
      }

  -- a kind more that is not declared by that
  declares_none : (want : Want) (k : Kind) → StandsAt want → is_in_kinds before ≡ false →
      (i : Kind) → declares (Known (words.Kind k) ∷ before) i ≡ is_declared s.control.head i
  declares_none want k h other i =
      ap (λ ks. list_any (is_same_kind i) ks) (kinds_behind k before false other) ∙ h.declared i

  -- after a kind of the head
  next_kind_keeps : KeepsAt wants.NextKind
  next_kind_keeps t move h e =
      by_next_kind Keeps s.control t move e
      (λ k word test.
      let declared : (i : Kind) → declares (Known (words.Kind k) ∷ before) i
      ≡ is_declared (with_kind s.control.head k) i =
      λ i. ap (λ ks. list_any (is_same_kind i) ks) (kinds_behind k before true h.near.kinds)
      ∙ (ap (λ b. is_same_kind i k || b) (h.declared i) ∙ sym (declared_more s.control.head k i)) in
      let first = first_behind k before false h.near.block_word in
      let blocks = ends_no_pair wants.NextKind k h refl in
      assumption)
      (λ test. assumption)

  block_first_keeps : KeepsAt wants.BlockFirst
  block_first_keeps t move h e =
      by_block_first Keeps s.control t move e
      (λ k test.
      let names = declares_none wants.BlockFirst k h h.near.kinds in
      let first = first_behind k before true h.near.block_word in
      let blocks = ends_no_pair wants.BlockFirst k h refl in
      assumption)

  -- at the second kind of a block
  block_second_keeps : (k : Kind) → KeepsAt (wants.BlockSecond k)
  block_second_keeps k t move h e =
      by_block_second Keeps s.control k t move e
      (λ l test new.
      let names = declares_none (wants.BlockSecond k) l h h.near.kinds in
      let first = first_behind l before false h.near.block_word in
      let pair = pair_behind l before (Some k) h.near.first in
      let blocks = blocks_behind l before (Some k) h.near.first in
      let seen : (i j : Kind) → has_block (Known (words.Kind l) ∷ before) i j
      ≡ has_seen (with_pair s.control.seen k l) i j =
      λ i j. ap (λ pairs. has_pair i j pairs) blocks
      ∙ (ap (λ b. (is_same_kind k i && is_same_kind l j) || b) (h.seen i j)
      ∙ sym (has_seen-with_pair s.control.seen k l i j)) in
      let some : true ≡ false → 0 ≡ cases_before before = λ none. absurd (cc) in
      let block : true ≡ true → this_block (blocks_before (Known (words.Kind l) ∷ before)) ≡ Some (k, l) =
      λ begun. ap (λ pairs. this_block pairs) blocks in
      assumption)

  result_keeps : KeepsAt wants.Result
  result_keeps t move h e =
      by_result Keeps s.control t move e
      (assumption)
      (let k = s.control.first in
      let names = declares_none wants.Result k h h.near.kinds in
      let first = first_behind k before false h.near.block_word in
      let blocks = ends_no_pair wants.Result k h refl in
      assumption)

  -- at `)` after an operand
  close_keeps : (outer : List (Nesting V)) → s.outer ≡ outer → StandsAt wants.Operator
      → nat_lt 0 s.control.outside ≡ true → Keeps Close moves.Close
  close_keeps [] same h test =
      let none : s.control.outside ≡ 0 = subst (λ x. AreAround s.control.outside x) same h.around in
      absurd (grind (arith, nat_tests))
  close_keeps (level ∷ levels) same h test =
      let around : AreAround s.control.outside (level ∷ levels) =
      subst (λ x. AreAround s.control.outside x) same h.around in
      let opened : drop 1 (without_nots (opened_before before)) ≡ nots_upon level.nots (opened_by levels) =
      ap (λ x. drop 1 (without_nots x)) h.opened
      ∙ (ap (λ x. drop 1 x) (closed_nots s.control.nots s.outer) ∙ ap (λ x. drop 1 (opened_by x)) same) in
      let left : State V K B = left_for (record s { last = m.round (disjunction m s) }) level levels in
      let there : Stands left.control levels wants.Operator (Close ∷ before) place = assumption in
      subst (λ x. Stands x.control x.outer x.control.want (Close ∷ before) place)
      (sym (ap (λ x. closed_parentheses m s x) same)) there

  -- after an operand
  operator_keeps : KeepsAt wants.Operator
  operator_keeps t move h e =
      let closed : without_nots (opened_before before) ≡ opened_by s.outer =
      ap (λ x. without_nots x) h.opened ∙ closed_nots s.control.nots s.outer in
      by_operator Keeps s.control t move e
      (assumption)
      (assumption)
      (λ test. close_keeps s.outer refl h test)
      (λ test.
      let unnested : s.control.outside ≡ 0 = search (rules, nat_tests) in
      let none = none_opened s.control.outside s.outer h.around unnested in
      assumption)

  offset_keeps : (left : Side) (cmp : Cmp) → KeepsAt (wants.Offset left cmp)
  offset_keeps left cmp t move h e =
      by_offset Keeps s.control left cmp t move e (λ sign. assumption) (operator_keeps t move assumption)

  -- where an operand is wanted
  operand_keeps : KeepsAt wants.Operand
  operand_keeps t move h e =
      let more : s.control.atoms + 1 ≡ atoms_before before + 1 = ap (λ n. n + 1) h.atoms in
      by_operand Keeps s.control t move e
      (λ test.
      let inner : Open ∷ opened_before before ≡ Open ∷ nots_upon s.control.nots (opened_by s.outer) =
      ap (λ x. Open ∷ x) h.opened in
      assumption)
      (λ test.
      let inner : Known words.Not ∷ opened_before before ≡ nots_upon (s.control.nots + 1) (opened_by s.outer) =
      ap (λ x. Known words.Not ∷ x) h.opened ∙ sym (nots_more s.control.nots (opened_by s.outer)) in
      assumption)
      (λ test. assumption)
      (λ sort side test may. let first = operand_behind sort side before None h.near.compared in assumption)

  right_keeps : (sort : Sort) (left : Side) (cmp : Cmp) → KeepsAt (wants.Right sort left cmp)
  right_keeps sort left cmp t move h e = by_right Keeps sort left cmp t move e (whole sort h)
    where
      whole : (sort : Sort) → StandsAt (wants.Right sort left cmp) →
          Keeps (Known (words.Thing sort (other_side left))) (moves.Compare sort left cmp)
      whole Pos h =
          let first = operand_behind Pos (other_side left) before (Some (Pos, left)) h.near.compared in assumption
      whole Site h =
          let first = operand_behind Site (other_side left) before (Some (Site, left)) h.near.compared in assumption
      whole Char h =
          let first = operand_behind Char (other_side left) before (Some (Char, left)) h.near.compared in assumption

  -- each token that goes on
  pub token_keeps : (want : Want) (move : TokenMove) → StandsAt want →
      move_for s.control at want at.token ≡ Some move → Keeps at.token move
  token_keeps wants.Otfn move h e = otfn_keeps at.token move h e
  token_keeps wants.Version move h e = version_keeps at.token move h e
  token_keeps wants.Text move h e = text_keeps at.token move h e
  token_keeps wants.Mode move h e = mode_keeps at.token move h e
  token_keeps wants.Kinds move h e = kinds_keeps at.token move h e
  token_keeps wants.NextKind move h e = next_kind_keeps at.token move h e
  token_keeps (wants.LineEnd following) move h e = line_end_keeps following at.token move h e
  token_keeps wants.Line move h e = line_keeps at.token move h e
  token_keeps wants.Assumed move h e = assumed_keeps at.token move h e
  token_keeps wants.Differ move h e = differ_keeps at.token move h e
  token_keeps wants.BlockFirst move h e = block_first_keeps at.token move h e
  token_keeps (wants.BlockSecond k) move h e = block_second_keeps k at.token move h e
  token_keeps wants.BlockEnd move h e = block_end_keeps at.token move h e
  token_keeps wants.Operand move h e = operand_keeps at.token move h e
  token_keeps (wants.Comparison sort left) move h e = comparison_keeps sort left at.token move h e
  token_keeps (wants.Right sort left cmp) move h e = right_keeps sort left cmp at.token move h e
  token_keeps (wants.Offset left cmp) move h e = offset_keeps left cmp at.token move h e
  token_keeps (wants.Number left cmp sign) move h e = number_keeps left cmp sign at.token move h e
  token_keeps wants.Operator move h e = operator_keeps at.token move h e
  token_keeps wants.Result move h e = result_keeps at.token move h e
  token_keeps wants.ResultPosition move h e = result_position_keeps at.token move h e
  token_keeps (wants.ResultOffset side) move h e = result_offset_keeps side at.token move h e
  token_keeps (wants.ResultNumber side sign) move h e = result_number_keeps side sign at.token move h e
  token_keeps (wants.ResultEnd result) move h e = result_end_keeps result at.token move h e
  token_keeps wants.FileEnd move h e = file_end_keeps at.token move h e
  token_keeps wants.Nothing move h e = absurd (cc)
