-- A token that goes on in the lines of the head: what is known of the state behind it.
use Rattle.std.proofs.Common.{◌≡◌, Bool, true, false, ◌&&◌, List, [], ◌∷◌, ◌++◌, map, count_by, cond, Some, refl, sym}
use Rattle.std.proofs.Common.{ap, ◌∙◌, append_assoc, append-nil}
use Rattle.std.specs.List.{flat_map, list_all}
use Rattle.std.proofs.lemmas.Bool.{not-true}
use Rattle.ot_model.specs.declared.op.Kind.{Kind}
use Rattle.ot_model.specs.declared.op.Kind.TheVariants as kinds
use Rattle.ot_model.specs.declared.op.Mode.{Mode}
use Rattle.ot_model.specs.declared.op.TheConstants.{KINDS}
use Rattle.fn_rules.specs.Functions.{is_declared}
use Rattle.fn_rules.specs.declared.function.Head.{Head}
use Rattle.fn_rules.specs.Building.{is_for}
use Rattle.fn_tokens.specs.declared.token.Token.{Token}
use Rattle.fn_tokens.specs.declared.token.Token.TheVariants.{Known, Number, LineEnd, FileEnd}
use Rattle.fn_tokens.specs.declared.token.Word.TheVariants as words
use Rattle.fn_tokens.specs.declared.control.AfterLine.{AfterLine}
use Rattle.fn_tokens.specs.declared.control.AfterLine.TheVariants as nexts
use Rattle.fn_tokens.specs.declared.control.Want.TheVariants as wants
use Rattle.fn_tokens.specs.declared.control.Pairs.{Pairs}
use Rattle.fn_tokens.specs.declared.language.Language.{Language}
use Rattle.fn_tokens.specs.declared.control.TokenMove.{TokenMove}
use Rattle.fn_tokens.specs.declared.control.TokenMove.TheVariants as moves
use Rattle.fn_tokens.specs.Kinds.{with_kind, has_seen, declares_some, comes_next}
use Rattle.fn_tokens.specs.Languages.{number_of, has_word, has_words}
use Rattle.fn_tokens.specs.Meaning.{to_formulas}
use Rattle.fn_tokens.specs.FixedMoves.{at_fixed}
use Rattle.fn_tokens.specs.LineMoves.{at_next_kind, at_assumed}
use Rattle.fn_grammar.specs.Print.{kind_tokens, assumption_tokens, head_tokens, first_lines}
use Rattle.fn_text.specs.Reader.{blocks_of}
use Rattle.fn_grammar.specs.Grammar.{WrittenBlock, block_written_as, block_made, is_allowed_block}
use Rattle.fn_text.proofs.ReadIsWritten.Moves.{by_otfn, by_version, by_text, by_mode, by_kinds, by_next_kind}
use Rattle.fn_text.proofs.ReadIsWritten.Moves.{by_line_end, by_assumed, by_differ, by_file_end}
use Rattle.fn_text.proofs.ReadIsWritten.States.{to_phrases, Phrases, AreBlocks, NoBlocks, head_for, no_assumptions}
use Rattle.fn_text.proofs.ReadIsWritten.States.{Reached}
use Rattle.fn_text.proofs.Languages.{has_words-more}
use Rattle.fn_grammar.proofs.OwnBlocks.{head_of}
use Rattle.fn_text.proofs.ReadIsWritten.Guards.{Steps}

pub otfn_steps : (s : Phrases) (ts : List Token) (t : Token) (move : TokenMove) → Reached s wants.Otfn ts →
    at_fixed wants.Otfn t ≡ Some move → Steps s ts t move
otfn_steps s ts t move h e = by_otfn (Steps s ts) t move e (h.0, ap (λ x. x ++ Known words.Otfn ∷ []) h.1)

pub version_steps : (s : Phrases) (ts : List Token) (t : Token) (move : TokenMove) → Reached s wants.Version ts →
    at_fixed wants.Version t ≡ Some move → Steps s ts t move
version_steps s ts t move h e =
    by_version (Steps s ts) t move e (λ language. (h.0, ap (λ x. x ++ Number (number_of language) ∷ []) h.1))

pub text_steps : (s : Phrases) (ts : List Token) (t : Token) (move : TokenMove) → Reached s wants.Text ts →
    at_fixed wants.Text t ≡ Some move → Steps s ts t move
text_steps s ts t move h e = by_text (Steps s ts) t move e (h.0, ap (λ x. x ++ Known words.Text ∷ []) h.1)

pub mode_steps : (s : Phrases) (ts : List Token) (t : Token) (move : TokenMove) → Reached s wants.Mode ts
    → at_fixed wants.Mode t ≡ Some move → Steps s ts t move
mode_steps s ts t move h e =
    by_mode (Steps s ts) t move e
    (λ mode. (
      (h.0.0, h.0.1, ap (λ (x : Head). record x { mode = mode }) h.0.2),
      ap (λ x. x ++ Known (words.Mode mode) ∷ []) h.1,
    ))

-- the word that begins the line of the kinds
pub kinds_steps : (s : Phrases) (ts : List Token) (t : Token) (move : TokenMove) → Reached s wants.Kinds ts →
    at_fixed wants.Kinds t ≡ Some move → Steps s ts t move
kinds_steps s ts t move h e =
    let language = s.control.language in
    let mode = s.control.head.mode in
    by_kinds (Steps s ts) t move e (
      h.0.0,
      h.0.1,
      h.0.2 ∙ sym (ap no_assumptions h.0.2),
      ap (λ x. x ++ Known words.Kinds ∷ []) h.1
          ∙ ap (λ (x : Head). first_lines language mode ++ Known words.Kinds ∷ flat_map (kind_tokens x) KINDS)
          (sym h.0.2),
      ap (λ (x : Head). has_words language x) h.0.2,
    )

-- no block was begun
no_blocks : (begun : Bool) (done : List WrittenBlock) (block : WrittenBlock) → begun ≡ false → done ≡ [] →
    cond begun (done ++ block ∷ []) done ≡ []
no_blocks begun done block h k = ap (λ b. cond b (done ++ block ∷ []) done) h ∙ k

abbrev current : Phrases → WrittenBlock
current s = record { first = s.control.first; second = s.control.second; cases = s.cases }

pub none_of : (s : Phrases) → NoBlocks s → blocks_of to_phrases s ≡ []
none_of s h = no_blocks s.control.begun s.done (current s) h.begun_not h.done_none

pub begun_blocks : (language : Language) (head : Head) (begun : Bool) (seen : Pairs) (blocks : List WrittenBlock) →
    declares_some head ≡ true → has_words language head ≡ true → ((k l : Kind) → has_seen seen k l ≡ false)
    → blocks ≡ [] → AreBlocks language head begun seen blocks
begun_blocks language head begun seen blocks some speaks fresh none = record {
  some_kind = some;
  speaks = speaks;
  counts = λ k l. ap (λ x. count_by (is_for k l) (map (block_made to_formulas) x)) none
      ∙ sym (ap (λ b. cond b 1 0) (fresh k l));
  declared = λ k l h. let not_so : has_seen seen k l ≡ false = fresh k l in absurd (cc);
  allowed = ap (λ x. list_all is_allowed_block x) none;
  none = λ h. none;
}

-- the head's lines alone
pub head_alone : (front : List Token) (language : Language) (head : Head) (blocks : List WrittenBlock) → blocks ≡ [] →
    front ≡ head_tokens language head → front ≡ head_tokens language head ++ flat_map block_written_as blocks
head_alone front language head blocks none e = e
    ∙ (sym (append-nil (head_tokens language head))
    ∙ sym (ap (λ x. head_tokens language head ++ flat_map block_written_as x) none))

-- the line of one kind
pub ins_line : (language : Language) (mode : Mode) →
    first_lines language mode ++ Known words.Kinds ∷ Known (words.Kind kinds.Ins) ∷ LineEnd ∷ []
    ≡ head_tokens language (with_kind (head_for mode) kinds.Ins)
unfolding head_tokens
ins_line language mode = refl

abbrev kinds_line : Language → Head → List Token
kinds_line language head = first_lines language head.mode ++ Known words.Kinds ∷ flat_map (kind_tokens head) KINDS

-- the lines of a head that assumes nothing
plain_head : (language : Language) (head : Head) → head ≡ no_assumptions head →
    kinds_line language head ++ LineEnd ∷ [] ≡ head_tokens language head
unfolding head_tokens
plain_head language head e =
    let lines = kinds_line language head ++ LineEnd ∷ [] in
    sym (ap (λ (x : Head). lines ++ assumption_tokens x.sites_differ words.Sites
    ++ assumption_tokens x.chars_differ words.Chars) e
    ∙ (append-nil (lines ++ []) ∙ append-nil lines))

-- a kind behind those that are declared is the last of them
kinds_more : (k : Kind) (mode : Mode) (ins del upd sites chars : Bool) → comes_next (head_of mode ins del upd sites
    chars) k ≡ true → flat_map (kind_tokens (head_of mode ins del upd sites chars)) KINDS ++ Known (words.Kind k) ∷ []
    ≡ flat_map (kind_tokens (with_kind (head_of mode ins del upd sites chars) k)) KINDS
kinds_more kinds.Ins mode false false false sites chars h = refl
kinds_more kinds.Del mode false false false sites chars h = refl
kinds_more kinds.Del mode true false false sites chars h = refl
kinds_more kinds.Upd mode false false false sites chars h = refl
kinds_more kinds.Upd mode true false false sites chars h = refl
kinds_more kinds.Upd mode false true false sites chars h = refl
kinds_more kinds.Upd mode true true false sites chars h = refl
kinds_more k mode ins del upd sites chars h = absurd (cc)

with_kind-mode : (head : Head) (k : Kind) → (with_kind head k).mode ≡ head.mode
with_kind-mode head kinds.Ins = refl
with_kind-mode head kinds.Del = refl
with_kind-mode head kinds.Upd = refl

with_kind-plain : (head : Head) (k : Kind) → head ≡ no_assumptions head
    → with_kind head k ≡ no_assumptions (with_kind head k)
with_kind-plain head kinds.Ins e = ap (λ (x : Head). record x { ins = true }) e
with_kind-plain head kinds.Del e = ap (λ (x : Head). record x { del = true }) e
with_kind-plain head kinds.Upd e = ap (λ (x : Head). record x { upd = true }) e

-- a further kind
pub declared_steps : (s : Phrases) (ts : List Token) → Reached s wants.NextKind ts → (k : Kind)
    → has_word s.control.language k ≡ true →
    comes_next s.control.head k ≡ true → Steps s ts (Known (words.Kind k)) (moves.Declare k)
declared_steps s ts h k word next =
    let language = s.control.language in
    let head = s.control.head in (
      h.0,
      h.1,
      with_kind-plain head k h.2,
      ap (λ x. x ++ Known (words.Kind k) ∷ []) h.3
          ∙ (append_assoc (first_lines language head.mode) (Known words.Kinds ∷ flat_map (kind_tokens head) KINDS)
          (Known (words.Kind k) ∷ [])
          ∙ (ap (λ x. first_lines language head.mode ++ Known words.Kinds ∷ x)
          (kinds_more k head.mode head.ins head.del head.upd head.sites_differ head.chars_differ next)
          ∙ ap (λ x. first_lines language x ++ Known words.Kinds ∷ flat_map (kind_tokens (with_kind head k)) KINDS)
          (sym (with_kind-mode head k)))),
      has_words-more language head k word h.4,
    )

-- the end of the line of the kinds
pub kinds_end_steps : (s : Phrases) (ts : List Token) → Reached s wants.NextKind ts
    → declares_some s.control.head ≡ true → Steps s ts LineEnd (moves.Skip wants.Line)
kinds_end_steps s ts h some =
    let language = s.control.language in
    let head = s.control.head in
    let blocks = blocks_of to_phrases s in
    let none = none_of s h.0 in (
      (begun_blocks language head s.control.begun s.control.seen blocks some h.4 h.0.seen_none none, h.1, h.0.counted),
      ap (λ x. x ++ LineEnd ∷ []) h.3
          ∙ head_alone (kinds_line language head ++ LineEnd ∷ []) language head blocks none
          (plain_head language head h.2),
    )

pub next_kind_steps : (s : Phrases) (ts : List Token) (t : Token) (move : TokenMove) → Reached s wants.NextKind ts →
    at_next_kind s.control t ≡ Some move → Steps s ts t move
next_kind_steps s ts t move h e =
    by_next_kind (Steps s ts) s.control t move e (declared_steps s ts h) (kinds_end_steps s ts h)

pub line_end_steps : (s : Phrases) (following : AfterLine) (ts : List Token) (t : Token) (move : TokenMove) →
    Reached s (wants.LineEnd following) ts → at_fixed (wants.LineEnd following) t ≡ Some move → Steps s ts t move
line_end_steps s nexts.Text ts t move h e =
    by_line_end (Steps s ts) nexts.Text t move e (h.0, ap (λ x. x ++ LineEnd ∷ []) h.1)
line_end_steps s nexts.Kinds ts t move h e =
    by_line_end (Steps s ts) nexts.Kinds t move e (h.0, ap (λ x. x ++ LineEnd ∷ []) h.1)
line_end_steps s nexts.Line ts t move h e = by_line_end (Steps s ts) nexts.Line t move e h
line_end_steps s nexts.File ts t move h e =
    by_line_end (Steps s ts) nexts.File t move e (h.0, append_assoc ts (LineEnd ∷ []) (FileEnd ∷ []) ∙ h.1)

pub file_end_steps : (s : Phrases) (ts : List Token) (t : Token) (move : TokenMove) → Reached s wants.FileEnd ts →
    at_fixed wants.FileEnd t ≡ Some move → Steps s ts t move
file_end_steps s ts t move h e = by_file_end (Steps s ts) t move e h

-- the head with one assumption more
sites_plain : (language : Language) (head : Head) →
    head_tokens language (no_assumptions head) ++ Known words.Assume ∷ Known words.Sites
    ∷ Known words.Differ ∷ LineEnd ∷ []
    ≡ head_tokens language (record (no_assumptions head) { sites_differ = true })
unfolding head_tokens
sites_plain language head = simp (append_assoc, append-nil)

sites_line : (language : Language) (head : Head) → head.sites_differ ≡ false → head.chars_differ ≡ false →
    head_tokens language head ++ Known words.Assume ∷ Known words.Sites ∷ Known words.Differ ∷ LineEnd ∷ []
    ≡ head_tokens language (record head { sites_differ = true })
sites_line language head sites chars =
    let plain : head ≡ no_assumptions head =
    ap (λ x. record head { sites_differ = x }) sites
    ∙ ap (λ x. record head { sites_differ = false; chars_differ = x }) chars in
    ap (λ x. head_tokens language x ++ Known words.Assume ∷ Known words.Sites ∷ Known words.Differ ∷ LineEnd ∷ []) plain
    ∙ (sites_plain language head
    ∙ ap (λ x. head_tokens language (record head { sites_differ = true; chars_differ = x })) (sym chars))

chars_plain : (language : Language) (head : Head) →
    head_tokens language (record head { chars_differ = false })
    ++ Known words.Assume ∷ Known words.Chars ∷ Known words.Differ ∷ LineEnd ∷ []
    ≡ head_tokens language (record head { chars_differ = true })
unfolding head_tokens
chars_plain language head = simp append_assoc

pub chars_line : (language : Language) (head : Head) → head.chars_differ ≡ false →
    head_tokens language head ++ Known words.Assume ∷ Known words.Chars ∷ Known words.Differ ∷ LineEnd ∷ []
    ≡ head_tokens language (record head { chars_differ = true })
chars_line language head chars =
    ap (λ x. head_tokens language (record head { chars_differ = x })
    ++ Known words.Assume ∷ Known words.Chars ∷ Known words.Differ ∷ LineEnd ∷ []) chars ∙ chars_plain language head

-- what is assumed declares nothing
pub still_declared : (head : Head) (sites chars : Bool) (k : Kind) →
    is_declared (record head { sites_differ = sites; chars_differ = chars }) k ≡ is_declared head k
still_declared head sites chars kinds.Ins = refl
still_declared head sites chars kinds.Del = refl
still_declared head sites chars kinds.Upd = refl

-- nor does it touch the blocks
pub assuming : (language : Language) (old : Head) (sites chars : Bool) (begun : Bool) (seen : Pairs)
    (blocks : List WrittenBlock) → AreBlocks language old begun seen blocks →
    AreBlocks language (record old { sites_differ = sites; chars_differ = chars }) begun seen blocks
assuming language old sites chars begun seen blocks h =
    let new = record old { sites_differ = sites; chars_differ = chars } in
    record {
      some_kind = h.some_kind;
      speaks = h.speaks;
      counts = h.counts;
      declared = λ k l seen_it. ap (λ x. x && is_declared new l) (still_declared old sites chars k)
          ∙ (ap (λ x. is_declared old k && x) (still_declared old sites chars l) ∙ h.declared k l seen_it);
      allowed = h.allowed;
      none = h.none;
    }

-- an assumption before the first block
pub assumed_front : (ts : List Token) (language : Language) (old new : Head) (blocks : List WrittenBlock) (t : Token)
    → blocks ≡ [] → ts ≡ (head_tokens language old ++ flat_map block_written_as blocks) ++ Known words.Assume ∷ [] →
    head_tokens language old ++ Known words.Assume ∷ t ∷ Known words.Differ ∷ LineEnd ∷ [] ≡ head_tokens language new →
    (ts ++ t ∷ []) ++ Known words.Differ ∷ LineEnd ∷ [] ≡ head_tokens language new ++ flat_map block_written_as blocks
assumed_front ts language old new blocks t none e line =
    let alone : (head_tokens language old ++ flat_map block_written_as blocks) ++ Known words.Assume ∷ []
    ≡ head_tokens language old ++ Known words.Assume ∷ [] =
    ap (λ x. x ++ Known words.Assume ∷ [])
    (sym (head_alone (head_tokens language old) language old blocks none refl)) in
    ap (λ x. (x ++ t ∷ []) ++ Known words.Differ ∷ LineEnd ∷ []) (e ∙ alone)
    ∙ (regrouped (head_tokens language old) ∙ head_alone _ language new blocks none line)
  where
    regrouped : (front : List Token) →
        ((front ++ Known words.Assume ∷ []) ++ t ∷ []) ++ Known words.Differ ∷ LineEnd ∷ []
        ≡ front ++ Known words.Assume ∷ t ∷ Known words.Differ ∷ LineEnd ∷ []
    regrouped front = simp append_assoc

-- what is assumed, which the head then keeps
pub assumed_steps : (s : Phrases) (ts : List Token) (t : Token) (move : TokenMove) → Reached s wants.Assumed ts →
    at_assumed s.control t ≡ Some move → Steps s ts t move
assumed_steps s ts t move h e =
    let language = s.control.language in
    let head = s.control.head in
    let blocks = blocks_of to_phrases s in
    let none : blocks ≡ [] = h.0.0.none h.1 in
    by_assumed (Steps s ts) s.control t move e
    (λ test. (
      (assuming language head true head.chars_differ s.control.begun s.control.seen blocks h.0.0, h.0.1, h.0.2),
      assumed_front ts language head (record head { sites_differ = true }) blocks (Known words.Sites) none h.3
          (sites_line language head (not-true _ test) h.2),
    )) (
      (assuming language head head.sites_differ true s.control.begun s.control.seen blocks h.0.0, h.0.1, h.0.2),
      assumed_front ts language head (record head { chars_differ = true }) blocks (Known words.Chars) none h.3
          (chars_line language head h.2),
    )

pub differ_steps : (s : Phrases) (ts : List Token) (t : Token) (move : TokenMove) → Reached s wants.Differ ts →
    at_fixed wants.Differ t ≡ Some move → Steps s ts t move
differ_steps s ts t move h e =
    by_differ (Steps s ts) t move e (h.0, append_assoc ts (Known words.Differ ∷ []) (LineEnd ∷ []) ∙ h.1)
