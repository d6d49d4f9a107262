-- Tokens can go on exactly where the reader takes them. They stand nearest first.
use Rattle.std.proofs.Common.{◌≡◌, ℕ, ◌==◌, ◌&&◌, Bool, true, false, not, cond, nat_eq, nat_lt, List, [], ◌∷◌, ◌++◌}
use Rattle.std.proofs.Common.{reverse, Option, Some, None, Result, Ok, Err, inl, inr, refl, sym, ap, subst, ◌∙◌, arith}
use Rattle.std.proofs.Common.{rules}
use Rattle.std.proofs.lemmas.Bool.{and_parts, and_from}
use Rattle.std.proofs.lemmas.Bool.Decides.{nat_tests}
use Rattle.std.proofs.lemmas.List.{reverse-append, reverse-reverse}
use Rattle.ot_model.specs.declared.op.Kind.{Kind}
use Rattle.fn_rules.specs.declared.function.Head.{Head}
use Rattle.fn_rules.specs.Functions.{is_declared, GuardedCase}
use Rattle.fn_rules.specs.Building.{PairCases}
use Rattle.fn_tokens.specs.declared.token.Token.{Token}
use Rattle.fn_tokens.specs.declared.token.Token.TheVariants.{Known, Open, Close, Colon}
use Rattle.fn_tokens.specs.declared.token.Word.TheVariants as words
use Rattle.fn_tokens.specs.declared.token.Placed.{Placed}
use Rattle.fn_tokens.specs.Tokens.{bare}
use Rattle.fn_tokens.specs.declared.fault.TextFault.{TextFault}
use Rattle.fn_tokens.specs.declared.control.AfterLine.TheVariants as nexts
use Rattle.fn_tokens.specs.declared.control.Want.{Want}
use Rattle.fn_tokens.specs.declared.control.Want.TheVariants as wants
use Rattle.fn_tokens.specs.declared.control.Control.{Control}
use Rattle.fn_tokens.specs.declared.control.TokenMove.{TokenMove}
use Rattle.fn_tokens.specs.declared.control.TokenMove.TheVariants as moves
use Rattle.fn_tokens.specs.Meaning.{Formulas, to_formulas}
use Rattle.fn_tokens.specs.Controls.{depth_of, lacks_block, allowed}
use Rattle.fn_tokens.specs.Moves.{move_for}
use Rattle.fn_text.specs.Reader.{State, Nesting, moved, closed_parentheses, after_move, turn, read_from, first_state}
use Rattle.fn_grammar.specs.Grammar.{file_written_as}
use Rattle.fn_text.specs.Theorems.{state_behind}
use Rattle.fn_text.specs.Counting.{declares, is_behind_block, first_of_block, atoms_before, is_before_operand}
use Rattle.fn_text.specs.Counting.{nesting_before}
use Rattle.fn_text.specs.Causes.{block_place}
use Rattle.fn_text.specs.Continuing.{BeginsFileWithExtra, wants_atom_more, repeats_block}
use Rattle.fn_text.specs.GoingOn.{BeginsFile, EndsOperand, IsTakenAlso, CanGoOn, is_before_atom_more}
use Rattle.fn_text.specs.GoingOn.{repeats_some_block, GoingTokensBegin}
use Rattle.fn_text.proofs.WrittenIsRead.Guards.{going}
use Rattle.fn_text.proofs.WrittenIsRead.Files.{file_is_read}
use Rattle.fn_text.proofs.Refusals.NoneBegins.{going_on, placed, bare-placed, bare-append}
use Rattle.fn_text.proofs.Refusals.GoesOn.{taken_tokens_go_on}
use Rattle.fn_text.proofs.Causes.States.{Stands, wants_operand, wants_block_first, first_for, wants_behind_operand}
use Rattle.fn_text.proofs.Causes.States.{atoms_for}
use Rattle.fn_text.proofs.Causes.Told.{depth_by}
use Rattle.fn_text.proofs.Causes.FirstWrong.{StandsBehind, first_stands, stands_behind, atom_more_told, repeats_told}

abbrev Reading : Type 0
Reading = State Formulas GuardedCase PairCases

going_nothing : (read : Result Reading TextFault) → going_on to_formulas [] read ≡ read
going_nothing (Ok s) = refl
going_nothing (Err fault) = refl

-- one token more is one turn more
one_more_by : (s : Reading) (p at : Placed) (front : List Placed) (now : Reading) (next : Result Reading TextFault) →
    going_on to_formulas front next ≡ Ok now →
    ((after : Reading) → state_behind to_formulas after front ≡ Ok now →
    state_behind to_formulas after (front ++ at ∷ []) ≡ turn to_formulas now at) →
    going_on to_formulas (front ++ at ∷ []) next ≡ turn to_formulas now at
one_more_by s p at front now (Ok after) reads others = others after reads
one_more_by s p at front now (Err fault) reads others = absurd (cc)

one_more : (s : Reading) (front : List Placed) (at : Placed) (now : Reading) →
    state_behind to_formulas s front ≡ Ok now →
    state_behind to_formulas s (front ++ at ∷ []) ≡ turn to_formulas now at
one_more s [] at now reads =
    let same : s ≡ now = cc in
    going_nothing (turn to_formulas s at) ∙ ap (λ x. turn to_formulas x at) same
one_more s (p ∷ front) at now reads =
    one_more_by s p at front now (turn to_formulas s p) reads (λ after more. one_more after front at now more)

-- the state before the last token
record LastTurn (s : Reading) (front : List Placed) (at : Placed) (next : Reading) : Type 0 where
  now : Reading
  reads : state_behind to_formulas s front ≡ Ok now
  goes : turn to_formulas now at ≡ Ok next

last_by : (s : Reading) (p at : Placed) (front : List Placed) (next : Reading) (read : Result Reading TextFault) →
    turn to_formulas s p ≡ read → going_on to_formulas (front ++ at ∷ []) read ≡ Ok next →
    ((after : Reading) → state_behind to_formulas after (front ++ at ∷ []) ≡ Ok next → LastTurn after front at next) →
    LastTurn s (p ∷ front) at next
last_by s p at front next (Ok after) turns reads others =
    let last = others after reads in
    record { now = last.now; reads = ap (λ x. going_on to_formulas front x) turns ∙ last.reads; goes = last.goes }
last_by s p at front next (Err fault) turns reads others = absurd (cc)

last_turn : (s : Reading) (front : List Placed) (at : Placed) (next : Reading) →
    state_behind to_formulas s (front ++ at ∷ []) ≡ Ok next → LastTurn s front at next
last_turn s [] at next reads =
    record { now = s; reads = refl; goes = sym (going_nothing (turn to_formulas s at)) ∙ reads }
last_turn s (p ∷ front) at next reads =
    last_by s p at front next (turn to_formulas s p) refl reads (λ after more. last_turn after front at next more)

-- the reader takes these tokens, and then stands so
abbrev pub Leads : List Placed → Reading → Type 0
Leads before s = state_behind to_formulas (first_state to_formulas) (reverse before) ≡ Ok s

-- it takes a token behind others
pub record Takes (before : List Placed) (at : Placed) (t : Token) : Type 0 where
  pub now : Reading
  pub move : TokenMove
  pub leads : Leads before now
  pub goes : move_for now.control at now.control.want t ≡ Some move

in_order : (at : Placed) (before : List Placed) → reverse (at ∷ before) ≡ reverse before ++ at ∷ []
in_order at before = reverse-append (at ∷ []) before

pub leads_on : (before : List Placed) (at : Placed) (now : Reading) (move : TokenMove) → Leads before now →
    move_for now.control at now.control.want at.token ≡ Some move → Leads (at ∷ before) (moved to_formulas now move)
leads_on before at now move leads goes =
    ap (λ x. state_behind to_formulas (first_state to_formulas) x) (in_order at before)
    ∙ (one_more (first_state to_formulas) (reverse before) at now leads
    ∙ ap (λ x. after_move to_formulas now at x) goes)

-- the state behind tokens comes by the move of the last one
pub record LastMove (before : List Placed) (at : Placed) (next : Reading) : Type 0 where
  pub now : Reading
  pub move : TokenMove
  pub leads : Leads before now
  pub goes : move_for now.control at now.control.want at.token ≡ Some move
  pub is : moved to_formulas now move ≡ next

by_move : (before : List Placed) (at : Placed) (now next : Reading) (move : Option TokenMove) →
    move_for now.control at now.control.want at.token ≡ move → Leads before now →
    after_move to_formulas now at move ≡ Ok next →
    LastMove before at next
by_move before at now next None goes leads turns = absurd (cc)
by_move before at now next (Some move) goes leads turns =
    record { now = now; move = move; leads = leads; goes = goes; is = cc }

pub last_move : (before : List Placed) (at : Placed) (next : Reading) → Leads (at ∷ before) next →
    LastMove before at next
last_move before at next leads =
    let last = last_turn (first_state to_formulas) (reverse before) at next
    (sym (ap (λ x. state_behind to_formulas (first_state to_formulas) x) (in_order at before)) ∙ leads) in
    let move = move_for last.now.control at last.now.control.want at.token in
    by_move before at last.now next move refl last.reads last.goes

-- what the state tells of the tokens
pub stands : (before : List Placed) (s : Reading) → Leads before s → StandsBehind s before
stands before s leads =
    subst (λ x. StandsBehind s x) (reverse-reverse before)
    (stands_behind to_formulas (first_state to_formulas) (reverse before) [] s (first_stands to_formulas) leads)

-- tokens with which something is read are taken
record FrontTaken (s : Reading) (front : List Placed) : Type 0 where
  now : Reading
  reads : state_behind to_formulas s front ≡ Ok now

front_by : (s : Reading) (p : Placed) (front rest : List Placed) (parts : Head × List PairCases)
    (read : Result Reading TextFault) → turn to_formulas s p ≡ read →
    going to_formulas (front ++ rest) read ≡ Ok parts →
    ((after : Reading) → read_from to_formulas after (front ++ rest) ≡ Ok parts → FrontTaken after front) →
    FrontTaken s (p ∷ front)
front_by s p front rest parts (Ok after) turns reads others =
    let taken = others after reads in
    record { now = taken.now; reads = ap (λ x. going_on to_formulas front x) turns ∙ taken.reads }
front_by s p front rest parts (Err fault) turns reads others = absurd (cc)

front_taken : (s : Reading) (front rest : List Placed) (parts : Head × List PairCases) →
    read_from to_formulas s (front ++ rest) ≡ Ok parts → FrontTaken s front
front_taken s [] rest parts reads = record { now = s; reads = refl }
front_taken s (p ∷ front) rest parts reads =
    front_by s p front rest parts (turn to_formulas s p) refl reads
    (λ after more. front_taken after front rest parts more)

bare-reverse : (before : List Placed) → bare (reverse before) ≡ reverse (bare before)
bare-reverse [] = refl
bare-reverse (at ∷ before) =
    ap bare (in_order at before)
    ∙ (bare-append (reverse before) (at ∷ [])
    ∙ (ap (λ x. x ++ at.token ∷ []) (bare-reverse before) ∙ sym (reverse-append (at.token ∷ []) (bare before))))

-- the reader takes tokens
pub record Taken (before : List Placed) : Type 0 where
  pub now : Reading
  pub leads : Leads before now

file_taken : (before : List Placed) → BeginsFile (bare before) → Taken before
file_taken before file =
    let more = placed file.rest in
    let told : bare (reverse before ++ more) ≡ file_written_as file.language file.head file.blocks =
    bare-append (reverse before) more
    ∙ (ap (λ x. bare (reverse before) ++ x) (bare-placed file.rest)
    ∙ (ap (λ x. x ++ file.rest) (bare-reverse before) ∙ file.written)) in
    let front = front_taken (first_state to_formulas) (reverse before) more _
    (file_is_read to_formulas file.language file.head file.blocks (reverse before ++ more) file.allowed told) in
    record { now = front.now; leads = front.reads }

-- a token at any place
abbrev anywhere : Token → Placed
anywhere t = record { token = t; line = 1; column = 1 }

-- one that begins a file behind others is taken behind them
takes_of : (before : List Placed) (t : Token) → BeginsFile (t ∷ bare before) → Takes before (anywhere t) t
takes_of before t file =
    let taken = file_taken (anywhere t ∷ before) file in
    let last = last_move before (anywhere t) taken.now taken.leads in
    record { now = last.now; move = last.move; leads = last.leads; goes = last.goes }

-- `)` and `:` come where an operand is whole, and so do `and` and `or`
close_goes : (c : Control) (at : Placed) (want : Want) (move : TokenMove) → move_for c at want Close ≡ Some move →
    wants_behind_operand want ≡ true
close_goes c at wants.Operator move goes = refl
close_goes c at (wants.Offset left cmp) move goes = refl
close_goes c at _ move goes = absurd (cc)

colon_goes : (c : Control) (at : Placed) (want : Want) (move : TokenMove) → move_for c at want Colon ≡ Some move →
    wants_behind_operand want ≡ true
colon_goes c at wants.Operator move goes = refl
colon_goes c at (wants.Offset left cmp) move goes = refl
colon_goes c at _ move goes = absurd (cc)

and_goes : (c : Control) (at : Placed) (want : Want) → wants_behind_operand want ≡ true →
    move_for c at want (Known words.And) ≡ Some moves.And
and_goes c at wants.Operator whole = refl
and_goes c at (wants.Offset left cmp) whole = refl
and_goes c at _ whole = absurd (cc)

or_goes : (c : Control) (at : Placed) (want : Want) → wants_behind_operand want ≡ true →
    move_for c at want (Known words.Or) ≡ Some moves.Or
or_goes c at wants.Operator whole = refl
or_goes c at (wants.Offset left cmp) whole = refl
or_goes c at _ whole = absurd (cc)

-- a whole operand just before
record Whole (before : List Placed) : Type 0 where
  now : Reading
  leads : Leads before now
  whole : wants_behind_operand now.control.want ≡ true

-- tokens that end an operand lead to a state in which a whole operand was read
whole_of : (before : List Placed) → EndsOperand (bare before) → Whole before
whole_of before (inl file) =
    let takes = takes_of before Close file in
    let c = takes.now.control in
    let whole = close_goes c (anywhere Close) c.want takes.move takes.goes in
    record { now = takes.now; leads = takes.leads; whole = whole }
whole_of before (inr file) =
    let takes = takes_of before Colon file in
    let c = takes.now.control in
    let whole = colon_goes c (anywhere Colon) c.want takes.move takes.goes in
    record { now = takes.now; leads = takes.leads; whole = whole }

-- the word `block` comes where `end` comes
end_goes : (c : Control) (at : Placed) (want : Want) (move : TokenMove) →
    move_for c at want (Known words.End) ≡ Some move → want ≡ wants.Line
end_goes c at wants.Line move goes = refl
end_goes c at _ move goes = absurd (cc)

operand_wanted : (want : Want) → wants_operand want ≡ true → want ≡ wants.Operand
operand_wanted wants.Operand e = refl
operand_wanted _ e = absurd (cc)

first_wanted : (want : Want) → wants_block_first want ≡ true → want ≡ wants.BlockFirst
first_wanted wants.BlockFirst e = refl
first_wanted _ e = absurd (cc)

allowed_by : (test : Bool) (move : TokenMove) → test ≡ true → allowed test move ≡ Some move
allowed_by true move e = refl
allowed_by false move e = absurd (cc)

-- the `(` and `not` around an operand that comes next
depth_here : (before : List Placed) (now : Reading) → StandsBehind now before → now.control.want ≡ wants.Operand →
    nesting_before (bare before) ≡ depth_of now.control
depth_here before now h want =
    let place = block_place before in
    let here : Stands now.control now.outer wants.Operand (bare before) place =
    subst (λ w. Stands now.control now.outer w (bare before) place) want h in
    depth_by now.control now.outer wants.Operand (bare before) place here false here.near.whole

-- `not` and `(` are taken where an operand comes next
deeper : (before : List Placed) (at : Placed) (t : Token) (move : TokenMove) → Taken before →
    (is_before_operand (bare before) && nat_lt (nesting_before (bare before)) 32) ≡ true →
    ((c : Control) → move_for c at wants.Operand t ≡ allowed (nat_lt (depth_of c) 32) move) → Takes before at t
deeper before at t move taken test row =
    let now = taken.now in
    let h = stands before now taken.leads in
    let parts = and_parts (is_before_operand (bare before)) _ test in
    let want = operand_wanted now.control.want (sym h.near.operand ∙ parts.0) in
    let room : nat_lt (depth_of now.control) 32 ≡ true =
    ap (λ n. nat_lt n 32) (sym (depth_here before now h want)) ∙ parts.1 in
    record {
      now = now;
      move = move;
      leads = taken.leads;
      goes = ap (λ w. move_for now.control at w t) want ∙ (row now.control ∙ allowed_by _ move room);
    }

-- a declared kind is taken behind the word `block`
kind_taken : (before : List Placed) (at : Placed) (k : Kind) → Taken before →
    (is_behind_block (bare before) && declares (bare before) k) ≡ true → Takes before at (Known (words.Kind k))
kind_taken before at k taken test =
    let now = taken.now in
    let h = stands before now taken.leads in
    let parts = and_parts (is_behind_block (bare before)) _ test in
    let want = first_wanted now.control.want (sym h.near.block_word ∙ parts.0) in
    let declared : is_declared now.control.head k ≡ true = sym (h.declared k) ∙ parts.1 in
    record {
      now = now;
      move = moves.Skip (wants.BlockSecond k);
      leads = taken.leads;
      goes = ap (λ w. move_for now.control at w (Known (words.Kind k))) want ∙ allowed_by _ _ declared;
    }

-- what is taken besides what begins a file
also_taken : (before : List Placed) (at : Placed) (t : Token) → (CanGoOn (bare before) → Taken before) →
    IsTakenAlso (t ∷ bare before) →
    Takes before at t
also_taken before at (Known words.And) others also =
    let whole = whole_of before also in
    let goes = and_goes whole.now.control at whole.now.control.want whole.whole in
    record { now = whole.now; move = moves.And; leads = whole.leads; goes = goes }
also_taken before at (Known words.Or) others also =
    let whole = whole_of before also in
    let goes = or_goes whole.now.control at whole.now.control.want whole.whole in
    record { now = whole.now; move = moves.Or; leads = whole.leads; goes = goes }
also_taken before at (Known words.Not) others also =
    deeper before at (Known words.Not) moves.Negate (others (inr also.1)) also.0 (λ c. refl)
also_taken before at Open others also = deeper before at Open moves.Open (others (inr also.1)) also.0 (λ c. refl)
also_taken before at (Known words.Block) others also =
    let takes = takes_of before (Known words.End) also in
    let c = takes.now.control in
    let line = end_goes c (anywhere (Known words.End)) c.want takes.move takes.goes in
    record {
      now = takes.now;
      move = moves.BlockWord at.line at.column;
      leads = takes.leads;
      goes = ap (λ w. move_for c at w (Known words.Block)) line;
    }
also_taken before at (Known (words.Kind k)) others also = kind_taken before at k (others also.1) also.0
also_taken before at _ others also = absurd also

-- tokens that can go on are taken
pub taken : (before : List Placed) → CanGoOn (bare before) → Taken before
taken before (inl file) = file_taken before file
taken [] (inr also) = absurd also
taken (at ∷ before) (inr also) =
    let takes = also_taken before at at.token (λ goes. taken before goes) also in
    let leads = leads_on before at takes.now takes.move takes.leads takes.goes in
    record { now = moved to_formulas takes.now takes.move; leads = leads }

-- a file begins with taken tokens, where the state is no exception
file_begins : (before : List Placed) (s : Reading) → Leads before s → repeats_block s.control s.control.want ≡ false →
    wants_atom_more s.control s.control.want ≡ false → BeginsFile (bare before)
file_begins before s leads once few =
    subst (λ x. BeginsFileWithExtra 0 x) (bare-reverse before)
    (subst (λ x. BeginsFileWithExtra (cond x 1 0) (bare (reverse before))) few
    (taken_tokens_go_on (reverse before) s leads once))

-- it goes on with a token that is taken, where the state behind that one is no exception
file_goes : (before : List Placed) (at : Placed) (now : Reading) (move : TokenMove) (want : Want) → Leads before now →
    move_for now.control at now.control.want at.token ≡ Some move → (moved to_formulas now move).control.want ≡ want →
    ((c : Control) → repeats_block c want ≡ false) → ((c : Control) → wants_atom_more c want ≡ false) →
    BeginsFile (at.token ∷ bare before)
file_goes before at now move want leads goes is once few =
    let next = moved to_formulas now move in
    file_begins (at ∷ before) next (leads_on before at now move leads goes)
    (ap (λ w. repeats_block next.control w) is ∙ once next.control)
    (ap (λ w. wants_atom_more next.control w) is ∙ few next.control)

closed_wants : (s : Reading) (outer : List (Nesting Formulas)) →
    (closed_parentheses to_formulas s outer).control.want ≡ wants.Operator
closed_wants s [] = refl
closed_wants s (level ∷ levels) = refl

-- behind a whole operand `)` is taken, or `:`
close_row : (c : Control) (at : Placed) (want : Want) → wants_behind_operand want ≡ true → nat_lt 0 c.outside ≡ true →
    move_for c at want Close ≡ Some moves.Close
close_row c at wants.Operator whole some = allowed_by _ moves.Close some
close_row c at (wants.Offset left cmp) whole some = allowed_by _ moves.Close some
close_row c at _ whole some = absurd (cc)

colon_row : (c : Control) (at : Placed) (want : Want) → wants_behind_operand want ≡ true → (c.outside == 0) ≡ true →
    move_for c at want Colon ≡ Some moves.Colon
colon_row c at wants.Operator whole none = allowed_by _ moves.Colon none
colon_row c at (wants.Offset left cmp) whole none = allowed_by _ moves.Colon none
colon_row c at _ whole none = absurd (cc)

none_outside : (n : ℕ) → nat_lt 0 n ≡ false → (n == 0) ≡ true
none_outside n e = grind (arith, nat_tests)

-- a whole operand ends one in the grammar too: `)` may come after it in parentheses, `:` outside of them
whole_ends : (before : List Placed) (now : Reading) (some : Bool) → nat_lt 0 now.control.outside ≡ some →
    Leads before now →
    wants_behind_operand now.control.want ≡ true → EndsOperand (bare before)
whole_ends before now true some leads whole =
    let row = close_row now.control (anywhere Close) now.control.want whole some in
    inl (file_goes before (anywhere Close) now moves.Close wants.Operator leads row (closed_wants now now.outer)
    (λ c. refl) (λ c. refl))
whole_ends before now false none leads whole =
    let zero = none_outside now.control.outside none in
    let row = colon_row now.control (anywhere Colon) now.control.want whole zero in
    inr (file_goes before (anywhere Colon) now moves.Colon wants.Result leads row refl (λ c. refl) (λ c. refl))

and_wanted : (c : Control) (at : Placed) (want : Want) (move : TokenMove) →
    move_for c at want (Known words.And) ≡ Some move →
    wants_behind_operand want ≡ true
and_wanted c at wants.Operator move goes = refl
and_wanted c at (wants.Offset left cmp) move goes = refl
and_wanted c at _ move goes = absurd (cc)

or_wanted : (c : Control) (at : Placed) (want : Want) (move : TokenMove)
    → move_for c at want (Known words.Or) ≡ Some move → wants_behind_operand want ≡ true
or_wanted c at wants.Operator move goes = refl
or_wanted c at (wants.Offset left cmp) move goes = refl
or_wanted c at _ move goes = absurd (cc)

-- `not` and `(` come where an operand is wanted
not_wanted : (c : Control) (at : Placed) (want : Want) (move : TokenMove) →
    move_for c at want (Known words.Not) ≡ Some move → want ≡ wants.Operand
not_wanted c at wants.Operand move goes = refl
not_wanted c at _ move goes = absurd (cc)

open_wanted : (c : Control) (at : Placed) (want : Want) (move : TokenMove) → move_for c at want Open ≡ Some move →
    want ≡ wants.Operand
open_wanted c at wants.Operand move goes = refl
open_wanted c at _ move goes = absurd (cc)

block_wanted : (c : Control) (at : Placed) (want : Want) (move : TokenMove) →
    move_for c at want (Known words.Block) ≡ Some move → want ≡ wants.Line
block_wanted c at wants.Line move goes = refl
block_wanted c at _ move goes = absurd (cc)

allowed_test : (test : Bool) (there move : TokenMove) → allowed test there ≡ Some move → test ≡ true
allowed_test true there move goes = refl
allowed_test false there move goes = absurd (cc)

allowed_move : (test : Bool) (there move : TokenMove) → allowed test there ≡ Some move → move ≡ there
allowed_move true there move goes = cc
allowed_move false there move goes = absurd (cc)

-- `not` or `(` behind tokens that are taken also, with as many atoms
inner_also : (before : List Placed) (now : Reading) (there move : TokenMove) → Leads before now →
    now.control.want ≡ wants.Operand →
    allowed (nat_lt (depth_of now.control) 32) there ≡ Some move →
    (moved to_formulas now there).control.atoms ≡ now.control.atoms → (moved to_formulas now move).control.atoms ≡ 16 →
    (now.control.atoms ≡ 16 → IsTakenAlso (bare before)) →
    ((is_before_operand (bare before) && nat_lt (nesting_before (bare before)) 32) ≡ true) × IsTakenAlso (bare before)
inner_also before now there move leads want row same full others =
    let h = stands before now leads in
    let operand : is_before_operand (bare before) ≡ true = h.near.operand ∙ ap (λ w. wants_operand w) want in
    let room : nat_lt (nesting_before (bare before)) 32 ≡ true =
    ap (λ n. nat_lt n 32) (depth_here before now h want) ∙ allowed_test _ there move row in
    let kept : now.control.atoms ≡ 16 =
    sym same ∙ (ap (λ x. (moved to_formulas now x).control.atoms) (sym (allowed_move _ there move row)) ∙ full) in
    (and_from _ _ operand room, others kept)

-- where an operand is wanted behind 16 atoms, the tokens are taken also
operand_by : (before : List Placed) (at : Placed) (t : Token) (now : Reading) (move : TokenMove) → Leads before now →
    move_for now.control at now.control.want t ≡ Some move → is_before_operand (t ∷ bare before) ≡ true →
    atoms_before (t ∷ bare before) ≡ 16 → (moved to_formulas now move).control.atoms ≡ 16 →
    (now.control.want ≡ wants.Operand → now.control.atoms ≡ 16 → IsTakenAlso (bare before)) →
    IsTakenAlso (t ∷ bare before)
operand_by before at (Known words.Case) now move leads goes operand counted full others =
    absurd (omega (arith, counted))
operand_by before at (Known words.And) now move leads goes operand counted full others =
    let c = now.control in
    whole_ends before now (nat_lt 0 c.outside) refl leads (and_wanted c at c.want move goes)
operand_by before at (Known words.Or) now move leads goes operand counted full others =
    let c = now.control in
    whole_ends before now (nat_lt 0 c.outside) refl leads (or_wanted c at c.want move goes)
operand_by before at (Known words.Not) now move leads goes operand counted full others =
    let c = now.control in
    let want = not_wanted c at c.want move goes in
    let row = ap (λ w. move_for c at w (Known words.Not)) (sym want) ∙ goes in
    inner_also before now moves.Negate move leads want row refl full (others want)
operand_by before at Open now move leads goes operand counted full others =
    let c = now.control in
    let want = open_wanted c at c.want move goes in
    let row = ap (λ w. move_for c at w Open) (sym want) ∙ goes in
    inner_also before now moves.Open move leads want row refl full (others want)
operand_by before at _ now move leads goes operand counted full others = absurd (cc)

-- where an operand is wanted and 16 atoms were read, the tokens are taken also
operand_also : (before : List Placed) (s : Reading) → Leads before s → s.control.want ≡ wants.Operand →
    s.control.atoms ≡ 16 →
    IsTakenAlso (bare before)
operand_also [] s leads want full =
    let same : first_state to_formulas ≡ s = cc in
    let wanted : wants.Otfn ≡ wants.Operand = ap (λ x. x.control.want) same ∙ want in absurd (cc)
operand_also (at ∷ before) s leads want full =
    let last = last_move before at s leads in
    let h = stands (at ∷ before) s leads in
    operand_by before at at.token last.now last.move last.leads last.goes
    (h.near.operand ∙ ap (λ w. wants_operand w) want)
    (sym (h.atoms ∙ ap (λ w. atoms_for w (atoms_before (bare (at ∷ before)))) want) ∙ full)
    (ap (λ x. x.control.atoms) last.is ∙ full)
    (λ wanted more. operand_also before last.now last.leads wanted more)

-- the word `block` where no block is missing: `end` could stand in its place
block_by : (before : List Placed) (at : Placed) (t : Token) (now : Reading) (move : TokenMove) → Leads before now →
    move_for now.control at now.control.want t ≡ Some move → is_behind_block (t ∷ bare before) ≡ true →
    not (lacks_block (moved to_formulas now move).control) ≡ true → IsTakenAlso (t ∷ bare before)
block_by before at (Known words.Block) now move leads goes word none =
    let c = now.control in
    let want = block_wanted c at c.want move goes in
    let row : Some (moves.BlockWord at.line at.column) ≡ Some move =
    ap (λ w. move_for c at w (Known words.Block)) (sym want) ∙ goes in
    let is : move ≡ moves.BlockWord at.line at.column = cc in
    let full : not (lacks_block c) ≡ true =
    ap (λ x. not (lacks_block (moved to_formulas now x).control)) (sym is) ∙ none in
    file_goes before (anywhere (Known words.End)) now moves.End (wants.LineEnd nexts.File) leads
    (ap (λ w. move_for c (anywhere (Known words.End)) w (Known words.End)) want ∙ allowed_by _ moves.End full) refl
    (λ c. refl) (λ c. refl)
block_by before at _ now move leads goes word none = absurd (cc)

some_where : (test : Bool) (j k : Kind) → cond test (Some j) None ≡ Some k → test ≡ true
some_where true j k e = refl
some_where false j k e = absurd (cc)

-- the first kind of a block was declared
kind_by : (before : List Placed) (at : Placed) (t : Token) (k : Kind) (now : Reading) (move : TokenMove) → Leads before
    now → move_for now.control at now.control.want t ≡ Some move → first_of_block (t ∷ bare before) ≡ Some k →
    CanGoOn (bare before) →
    IsTakenAlso (t ∷ bare before)
kind_by before at (Known (words.Kind j)) k now move leads goes first others =
    let c = now.control in
    let h = stands before now leads in
    let word : is_behind_block (bare before) ≡ true = some_where (is_behind_block (bare before)) j k first in
    let want = first_wanted c.want (sym h.near.block_word ∙ word) in
    let row = ap (λ w. move_for c at w (Known (words.Kind j))) (sym want) ∙ goes in
    let declared : is_declared c.head j ≡ true = allowed_test _ (moves.Skip (wants.BlockSecond j)) move row in
    (and_from _ _ word (h.declared j ∙ declared), others)
kind_by before at _ k now move leads goes first others = absurd (cc)

-- where a block would be repeated, the tokens are taken also
repeated_by : (before : List Placed) (at : Placed) (s : Reading) (want : Want) → s.control.want ≡ want →
    Leads (at ∷ before) s →
    repeats_block s.control want ≡ true → ((now : Reading) → Leads before now → CanGoOn (bare before)) →
    IsTakenAlso (at.token ∷ bare before)
repeated_by before at s wants.BlockFirst is leads test others =
    let last = last_move before at s leads in
    let h = stands (at ∷ before) s leads in
    let word = h.near.block_word ∙ ap (λ w. wants_block_first w) is in
    block_by before at at.token last.now last.move last.leads last.goes word
    (ap (λ x. not (lacks_block x.control)) last.is ∙ test)
repeated_by before at s (wants.BlockSecond k) is leads test others =
    let last = last_move before at s leads in
    let h = stands (at ∷ before) s leads in
    kind_by before at at.token k last.now last.move last.leads last.goes (h.near.first ∙ ap (λ w. first_for w) is)
    (others last.now last.leads)
repeated_by before at s _ is leads test others = absurd (cc)

-- what a state tells that wants an atom more
record IsFull (c : Control) (want : Want) : Type 0 where
  operand : want ≡ wants.Operand
  atoms : c.atoms ≡ 16

full_of : (c : Control) (want : Want) → wants_atom_more c want ≡ true → IsFull c want
full_of c wants.Operand test =
    let sixteen : nat_eq c.atoms 16 ≡ true = test in record { operand = refl; atoms = search (rules, nat_tests) }
full_of c _ test = absurd (cc)

goes_by : (before : List Placed) (s : Reading) (repeats more : Bool) →
    repeats_block s.control s.control.want ≡ repeats →
    wants_atom_more s.control s.control.want ≡ more → Leads before s →
    (repeats_block s.control s.control.want ≡ true → IsTakenAlso (bare before)) → CanGoOn (bare before)
goes_by before s true more again few leads others = inr (others again)
goes_by before s false true once many leads others =
    let full = full_of s.control s.control.want many in
    inr (operand_also before s leads full.operand full.atoms)
goes_by before s false false once few leads others = inl (file_begins before s leads once few)

-- tokens that are taken can go on
pub goes_on : (before : List Placed) (s : Reading) → Leads before s → CanGoOn (bare before)
goes_on [] s leads =
    let same : first_state to_formulas ≡ s = cc in
    inl (file_begins [] s leads (ap (λ x. repeats_block x.control x.control.want) (sym same))
    (ap (λ x. wants_atom_more x.control x.control.want) (sym same)))
goes_on (at ∷ before) s leads =
    let c = s.control in
    goes_by (at ∷ before) s (repeats_block c c.want) (wants_atom_more c c.want) refl refl leads
    (λ again. repeated_by before at s s.control.want refl leads again (λ now more. goes_on before now more))

begins_for : (before : List Placed) → CanGoOn (bare before) → repeats_some_block (bare before) ≡ false →
    BeginsFileWithExtra (cond (is_before_atom_more (bare before)) 1 0) (reverse (bare before))
begins_for before goes once =
    let taken = taken before goes in
    let s = taken.now in
    let h = stands before s taken.leads in
    subst (λ x. BeginsFileWithExtra (cond (is_before_atom_more (bare before)) 1 0) x) (bare-reverse before)
    (subst (λ x. BeginsFileWithExtra (cond x 1 0) (bare (reverse before))) (atom_more_told s before h)
    (taken_tokens_go_on (reverse before) s taken.leads (repeats_told s before h ∙ once)))

-- a file begins with tokens that can go on
pub going_tokens_begin : GoingTokensBegin
going_tokens_begin before =
    subst (λ x. CanGoOn x → repeats_some_block x ≡ false →
    BeginsFileWithExtra (cond (is_before_atom_more x) 1 0) (reverse x)) (bare-placed before)
    (begins_for (placed before))
