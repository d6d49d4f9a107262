-- The reader's table of causes is the one on tokens.
use Rattle.std.proofs.Common.{◌≡◌, ℕ, zero, suc, ◌+◌, ◌&&◌, ◌||◌, Bool, true, false, not, cond, arith, List, []}
use Rattle.std.proofs.Common.{◌∷◌, None, length, refl, sym, ap, subst, ◌∙◌}
use Rattle.std.specs.List.{list_any}
use Rattle.ot_model.specs.declared.op.Kind.{Kind}
use Rattle.ot_model.specs.declared.op.TheConstants.{KINDS}
use Rattle.fn_rules.specs.declared.guard.Sort.{Sort}
use Rattle.fn_rules.specs.declared.guard.Side.{Side}
use Rattle.fn_rules.specs.declared.guard.Tightness.{Tightness}
use Rattle.fn_rules.specs.Functions.{is_declared}
use Rattle.ot_model.specs.Kinds.{is_same_kind}
use Rattle.fn_tokens.specs.declared.token.Token.{Token}
use Rattle.fn_tokens.specs.declared.token.Token.TheVariants.{Known, Number, Open}
use Rattle.fn_tokens.specs.declared.token.Word.{Word}
use Rattle.fn_tokens.specs.declared.token.Word.TheVariants as words
use Rattle.fn_tokens.specs.declared.token.Placed.{Placed}
use Rattle.fn_tokens.specs.declared.fault.FaultKind.{FaultKind}
use Rattle.fn_tokens.specs.declared.fault.FaultKind.TheVariants as faults
use Rattle.fn_tokens.specs.declared.control.Want.{Want}
use Rattle.fn_tokens.specs.declared.control.Want.TheVariants as wants
use Rattle.fn_tokens.specs.declared.control.Control.{Control}
use Rattle.fn_tokens.specs.Languages.{has_word}
use Rattle.fn_tokens.specs.Kinds.{has_seen}
use Rattle.fn_tokens.specs.Meaning.{may_compare}
use Rattle.fn_tokens.specs.Controls.{has_chars, lacks, lacks_with, lacks_block, depth_of}
use Rattle.fn_tokens.specs.Moves.{move_for}
use Rattle.fn_tokens.specs.Faults.{region_of, number_fault, operand_fault, thing_fault, kind_fault, end_fault}
use Rattle.fn_tokens.specs.Faults.{case_fault, nesting_fault, word_fault, cause_in}
use Rattle.fn_text.specs.Reader.{Nesting}
use Rattle.fn_text.specs.Counting.{is_behind_otfn, is_in_block_line, is_in_guard, declares, blocks_before, has_block}
use Rattle.fn_text.specs.Counting.{lacks_pair, lacks_pair_with, lacks_some_pair, this_block, may_name_chars, transforms}
use Rattle.fn_text.specs.Counting.{cases_before, atoms_before, is_behind_operand, without_nots, opened_before}
use Rattle.fn_text.specs.Counting.{nesting_before, is_behind_result}
use Rattle.fn_text.specs.Causes.{cause_of, is_second_block, is_other_kind}
use Rattle.fn_grammar.proofs.KindLists.{no_kind_from}
use Rattle.fn_text.proofs.Causes.Steps.{closed_nots}
use Rattle.fn_text.proofs.Causes.States.{wants_line, wants_number, wants_in_guard}
use Rattle.fn_text.proofs.Causes.States.{wants_in_result, wants_behind_operand, wants_behind_result}
use Rattle.fn_text.proofs.Causes.States.{wants_head, wants_inside, Where, Stands, nots_upon}
use Rattle.fn_text.proofs.Causes.States.{opened_by, AreAround}
use Rattle.fn_text.proofs.Causes.Rows.{number_row, operand_row, kind_row, word_first, end_row, case_row, nesting_row}
use Rattle.fn_text.proofs.Causes.Rows.{number_told, true_told, thing_told, kind_told, end_told, case_told, nesting_told}

nots_length : (n : ℕ) (opened : List Token) → length (nots_upon n opened) ≡ n + length opened
nots_length zero opened = omega arith
nots_length (suc n) opened = let others = nots_length n opened in omega (arith, others)

opened_length : {V : Tightness → Type 0} (outside : ℕ) (outer : List (Nesting V)) → AreAround outside outer →
    length (opened_by outer) ≡ outside
opened_length outside [] h = sym h
opened_length outside (level ∷ levels) h =
    let others = opened_length level.outside levels h.1 in
    let nots = nots_length level.nots (opened_by levels) in
    let here = h.0 in
    omega (arith, others, nots, here)

inside_result : (want : Want) → wants_in_result want ≡ true → wants_inside want ≡ true
inside_result wants.Result e = refl
inside_result wants.ResultPosition e = refl
inside_result (wants.ResultOffset side) e = refl
inside_result (wants.ResultNumber side sign) e = refl
inside_result (wants.ResultEnd result) e = refl
inside_result _ e = absurd (cc)

-- where no kind is declared, no block is missing
not_lacking : (c : Control) (test : Bool) → Where test ((k : Kind) → is_declared c.head k ≡ false)
    → Where test (lacks_block c ≡ false)
not_lacking c true none =
    no_kind_from (lacks_with c) (λ k. no_kind_from (lacks c k)
    (λ l. ap (λ x. (x && is_declared c.head l) && not (has_seen c.seen k l)) (none k)))
not_lacking c false none = tt

-- a pair of kinds is declared and has no block, by the reader's word and by what is counted
lacks_told : (first second first' second' seen seen' : Bool) → first' ≡ first → second' ≡ second → seen' ≡ seen →
    ((first && second) && not seen) ≡ (first' && second' && not seen')
lacks_told true second first' second' seen seen' a b c = cc
lacks_told false second first' second' seen seen' a b c = cc

same_any : (p q : Kind → Bool) (ks : List Kind) → ((k : Kind) → p k ≡ q k) → list_any p ks ≡ list_any q ks
same_any p q [] same = refl
same_any p q (k ∷ ks) same = ap (λ x. x || list_any p ks) (same k) ∙ ap (λ x. q k || x) (same_any p q ks same)

module _ {V : Tightness → Type 0} (c : Control) (outer : List (Nesting V)) (want : Want)
    (before : List Token) (place : ℕ × ℕ)
    (h : Stands c outer want before place) where
  pair_lacks : (k l : Kind) → lacks c k l ≡ lacks_pair before k l
  pair_lacks k l =
      lacks_told (is_declared c.head k) (is_declared c.head l) (declares before k) (declares before l)
      (has_seen c.seen k l) (has_block before k l) (h.declared k) (h.declared l) (h.seen k l)

  pub pair_lacks_with : (k : Kind) → lacks_with c k ≡ lacks_pair_with before k
  pair_lacks_with k = same_any (lacks c k) (lacks_pair before k) KINDS (pair_lacks k)

  pub some_pair_lacks : lacks_block c ≡ lacks_some_pair before
  some_pair_lacks = same_any (lacks_with c) (lacks_pair_with before) KINDS pair_lacks_with

  -- what the block may compare, where the token stands in one
  chars_told : (inside : Bool) → wants_inside want ≡ inside → (sort : Sort) →
      (inside && not (may_compare (has_chars c) sort))
      ≡ (inside && not (may_compare (may_name_chars (this_block (blocks_before before))) sort))
  chars_told false e sort = refl
  chars_told true e sort =
      let begun : c.begun ≡ true = subst (λ x. Where x (c.begun ≡ true)) e h.inside in
      ap (λ x. not (may_compare (may_name_chars x) sort)) (sym (h.block begun))

  -- the kind of the block, where the token stands in a result
  result_told : (k : Kind) (inside : Bool) → wants_in_result want ≡ inside →
      (inside && not (wants_behind_result want) && not (is_same_kind c.first k))
      ≡ (inside && not (is_behind_result before) && not (transforms (this_block (blocks_before before)) k))
  result_told k false e = refl
  result_told k true e =
      let ended : is_behind_result before ≡ wants_behind_result want =
      subst (λ x. Where x (is_behind_result before ≡ wants_behind_result want)) e h.near.ended in
      let begun : c.begun ≡ true = subst (λ x. Where x (c.begun ≡ true)) (inside_result want e) h.inside in
      sym
      (ap (λ x. not x && not (transforms (this_block (blocks_before before)) k)) ended
      ∙ ap (λ x. not (wants_behind_result want) && not (transforms x k)) (h.block begun))

  -- the `(` and `not` around the next token are as many as the reader counts
  pub depth_by : (whole : Bool) → is_behind_operand before ≡ whole
      → nesting_before before ≡ cond whole c.outside (depth_of c)
  depth_by true e =
      ap (λ x. length (cond x (without_nots (opened_before before)) (opened_before before))) e
      ∙ (ap (λ x. length (without_nots x)) h.opened
      ∙ (ap (λ x. length x) (closed_nots c.nots outer) ∙ opened_length c.outside outer h.around))
  depth_by false e =
      let outside = opened_length c.outside outer h.around in
      let nots = nots_length c.nots (opened_by outer) in
      let all : length (nots_upon c.nots (opened_by outer)) ≡ c.outside + c.nots = omega (arith, outside, nots) in
      ap (λ x. length (cond x (without_nots (opened_before before)) (opened_before before))) e
      ∙ (ap (λ x. length x) h.opened ∙ all)

  depth_told : (guard : Bool) → Where guard (is_behind_operand before ≡ wants_behind_operand want) →
      Where guard (nesting_before before ≡ cond (wants_behind_operand want) c.outside (depth_of c))
  depth_told true e = depth_by (wants_behind_operand want) e
  depth_told false e = tt

  nesting_cause : nesting_fault c (region_of want) ≡ nesting_row (is_in_guard before) (nesting_before before)
  nesting_cause =
      nesting_told c want (nesting_before before) (depth_told (wants_in_guard want) h.near.whole)
      ∙ sym (ap (λ x. nesting_row x (nesting_before before)) h.near.guard)

  module _ (at : Placed) where
    number_cause : (n : ℕ) → move_for c at want (Number n) ≡ None
        → number_fault (region_of want) ≡ cause_of before (Number n)
    number_cause n none =
        number_told c at want n none
        ∙ sym (ap (λ x. number_row x (is_behind_otfn before) n) h.near.sign
        ∙ ap (λ x. number_row (wants_number want) x n) h.near.otfn)

    true_cause : move_for c at want (Known words.True) ≡ None
        → operand_fault (region_of want) ≡ cause_of before (Known words.True)
    true_cause none =
        true_told c at want (atoms_before before) h.atoms none
        ∙ sym (ap (λ x. operand_row x (atoms_before before)) h.near.operand)

    thing_cause : (sort : Sort) (side : Side) → move_for c at want (Known (words.Thing sort side)) ≡ None →
        thing_fault c sort (region_of want) ≡ cause_of before (Known (words.Thing sort side))
    thing_cause sort side none =
        let told = thing_told c at want sort side (atoms_before before) h.atoms none in
        let chars = chars_told (wants_inside want) refl sort in
        cc (told, chars, h.near.compared, h.near.pair, h.near.guard, h.near.result, h.near.operand)

    -- the rows of a kind behind that on words
    kind_cause : (k : Kind) → move_for c at want (Known (words.Kind k)) ≡ None →
        kind_fault c k (region_of want)
        ≡ kind_row (is_second_block before (Known (words.Kind k))) (is_in_block_line before) (declares before k)
        (is_other_kind before (Known (words.Kind k)))
    kind_cause k none =
        let told = kind_told c at want k before h.seen (h.declared k) none in
        let other = result_told k (wants_in_result want) refl in
        cc (told, other, h.near.first, h.near.block_line, h.near.result, h.declared k)

    kind_word_cause : (k : Kind) → move_for c at want (Known (words.Kind k)) ≡ None →
        word_fault c (region_of want) (words.Kind k) ≡ cause_of before (Known (words.Kind k))
    kind_word_cause k none =
        let rows : FaultKind = kind_row (is_second_block before (Known (words.Kind k))) (is_in_block_line before)
        (declares before k) (is_other_kind before (Known (words.Kind k))) in
        ap (λ x. cond (has_word c.language k) x faults.Word) (kind_cause k none)
        ∙ (word_first (has_word c.language k) rows
        ∙ sym (ap (λ x. cond (not (has_word x k)) faults.Word rows) h.language))

    end_cause : move_for c at want (Known words.End) ≡ None
        → end_fault (region_of want) ≡ cause_of before (Known words.End)
    end_cause none =
        let told = end_told c at want (not_lacking c (wants_head want) h.none) h.full none in
        told
        ∙ (ap (λ x. end_row (wants_line want) x) some_pair_lacks
        ∙ sym (ap (λ x. end_row x (lacks_some_pair before)) h.near.line_end))

    case_cause : move_for c at want (Known words.Case) ≡ None
        → case_fault c (region_of want) ≡ cause_of before (Known words.Case)
    case_cause none =
        case_told c at want (cases_before before) h.cases h.fresh h.no_cases none
        ∙ sym (ap (λ x. case_row x (cases_before before)) h.near.line_end)

    word_cause : (word : Word) → move_for c at want (Known word) ≡ None →
        word_fault c (region_of want) word ≡ cause_of before (Known word)
    word_cause words.Not none = nesting_cause
    word_cause words.True none = true_cause none
    word_cause (words.Thing sort side) none = thing_cause sort side none
    word_cause (words.Kind k) none = kind_word_cause k none
    word_cause words.End none = end_cause none
    word_cause words.Case none = case_cause none
    word_cause _ none = refl

    -- the reader's table is the one on tokens
    pub token_cause : (token : Token) → move_for c at want token ≡ None
        → cause_in c (region_of want) token ≡ cause_of before token
    token_cause (Known word) none = word_cause word none
    token_cause (Number n) none = number_cause n none
    token_cause Open none = nesting_cause
    token_cause _ none = refl
