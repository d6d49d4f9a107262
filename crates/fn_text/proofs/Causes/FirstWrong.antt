-- The first wrong token is refused for the cause that the table on tokens tells.
use Rattle.std.proofs.Common.{◌≡◌, ℕ, ◌&&◌, ◌||◌, Bool, true, false, not, nat_eq, List, [], ◌∷◌, Option, Some, None}
use Rattle.std.proofs.Common.{Result, Ok, Err, refl, sym, ap, subst, ◌∙◌}
use mathlib.Core.List.{reverse_aux}
use Rattle.ot_model.specs.declared.op.Kind.{Kind}
use Rattle.ot_model.specs.declared.op.Kind.TheVariants as kinds
use Rattle.fn_rules.specs.declared.guard.Tightness.{Tightness}
use Rattle.fn_tokens.specs.declared.token.Token.{Token}
use Rattle.fn_tokens.specs.declared.token.Placed.{Placed}
use Rattle.fn_tokens.specs.Tokens.{bare}
use Rattle.fn_tokens.specs.declared.fault.TextFault.{TextFault}
use Rattle.fn_tokens.specs.declared.fault.FaultKind.{FaultKind}
use Rattle.fn_tokens.specs.declared.fault.FaultKind.TheVariants as faults
use Rattle.fn_tokens.specs.declared.control.Want.{Want}
use Rattle.fn_tokens.specs.declared.control.Want.TheVariants as wants
use Rattle.fn_tokens.specs.declared.control.Control.{Control}
use Rattle.fn_tokens.specs.declared.control.TokenMove.{TokenMove}
use Rattle.fn_tokens.specs.Controls.{lacks_with, lacks_block}
use Rattle.fn_tokens.specs.Kinds.{has_seen}
use Rattle.fn_rules.specs.Functions.{is_declared}
use Rattle.fn_tokens.specs.Moves.{move_for}
use Rattle.fn_tokens.specs.Faults.{placed_fault, fault_of, cause_in, region_of}
use Rattle.fn_tokens.specs.Meaning.{Maker}
use Rattle.fn_text.specs.Reader.{no_pairs, State, moved, after_move, turn, first_control, first_state}
use Rattle.fn_text.specs.Theorems.{state_behind}
use Rattle.fn_text.specs.Continuing.{wants_atom_more, repeats_block}
use Rattle.fn_text.specs.Counting.{first_of_block, lacks_pair_with, lacks_some_pair, this_block, atoms_before}
use Rattle.fn_text.specs.Causes.{block_place, placed_cause, fault_behind}
use Rattle.fn_text.specs.GoingOn.{is_before_atom_more, has_each_block, repeats_some_block}
use Rattle.fn_text.proofs.SeenPairs.{has_seen-none}
use Rattle.fn_text.proofs.Refusals.NoneBegins.{going_on}
use Rattle.fn_text.proofs.Causes.States.{atoms_for, wants_operand, wants_block_first, first_for, Stands}
use Rattle.fn_text.proofs.Causes.Steps.{token_keeps}
use Rattle.fn_text.proofs.Causes.Told.{token_cause, pair_lacks_with, some_pair_lacks}

-- what a state tells of placed tokens, nearest first
abbrev pub StandsBehind : {V : Tightness → Type 0} {K B : Type 0} → State V K B → List Placed → Type 0
StandsBehind s before = Stands s.control s.outer s.control.want (bare before) (block_place before)

no_kind : (k : Kind) → is_declared first_control.head k ≡ false
no_kind kinds.Ins = refl
no_kind kinds.Del = refl
no_kind kinds.Upd = refl

module _ {V : Tightness → Type 0} {K B : Type 0} (m : Maker V K B) where
  pub first_stands : StandsBehind (first_state m) []
  first_stands =
      let declared : (k : Kind) → false ≡ is_declared first_control.head k = λ k. sym (no_kind k) in
      let none : (k : Kind) → is_declared first_control.head k ≡ false = no_kind in
      let seen : (k l : Kind) → false ≡ has_seen no_pairs k l = λ k l. sym (has_seen-none k l) in
      let block : false ≡ true → this_block [] ≡ Some (kinds.Ins, kinds.Ins) = λ begun. absurd (cc) in
      assumption

  step : (s : State V K B) (at : Placed) (before : List Placed) (after : State V K B) (move : Option TokenMove) →
      move_for s.control at s.control.want at.token ≡ move → after_move m s at move ≡ Ok after → StandsBehind s before →
      StandsBehind after (at ∷ before)
  step s at before after None goes e h = absurd (cc)
  step s at before after (Some move) goes e h =
      let same : moved m s move ≡ after = cc in
      subst (λ x. StandsBehind x (at ∷ before)) same
      (token_keeps m s at (bare before) (block_place before) s.control.want move h goes)

  by_turn : (P : Type 0) (s : State V K B) (at : Placed) (front : List Placed) (state : State V K B)
      (next : Result (State V K B) TextFault) → turn m s at ≡ next → going_on m front next ≡ Ok state →
      ((after : State V K B) → turn m s at ≡ Ok after → state_behind m after front ≡ Ok state → P) → P
  by_turn P s at front state (Ok after) goes e others = others after goes e
  by_turn P s at front state (Err fault) goes e others = absurd (cc)

  -- tokens that were all taken are told by the state behind them
  pub stands_behind : (s : State V K B) (front before : List Placed) (state : State V K B) → StandsBehind s before →
      state_behind m s front ≡ Ok state → StandsBehind state (reverse_aux front before)
  stands_behind s [] before state h e = let same : s ≡ state = cc in subst (λ x. StandsBehind x before) same h
  stands_behind s (at ∷ front) before state h e =
      by_turn (StandsBehind state (reverse_aux front (at ∷ before))) s at front state (turn m s at) refl e
      (λ after goes more.
      let here = step s at before after (move_for s.control at s.control.want at.token) refl goes h in
      stands_behind after front (at ∷ before) state here more)

placed_told : (c : Control) (before : List Placed) (at : Placed) (kind : FaultKind) → c.line ≡ (block_place before).0 →
    c.column ≡ (block_place before).1 → placed_fault c at kind ≡ placed_cause before at kind
placed_told c before at faults.Double line column = cc
placed_told c before at _ line column = refl

-- the reader's fault is the one that is told behind these tokens
pub fault_told : {V : Tightness → Type 0} {K B : Type 0} (s : State V K B) (before : List Placed) (at : Placed) →
    StandsBehind s before → move_for s.control at s.control.want at.token ≡ None
    → fault_of s.control at ≡ fault_behind before at
fault_told s before at h none =
    placed_told s.control before at (cause_in s.control (region_of s.control.want) at.token) h.line h.column
    ∙ ap (λ kind. placed_cause before at kind)
    (token_cause s.control s.outer s.control.want (bare before) (block_place before) h at at.token none)

atom_more : (c : Control) (want : Want) (atoms : ℕ) → c.atoms ≡ atoms_for want atoms →
    wants_atom_more c want ≡ (wants_operand want && nat_eq atoms 16)
atom_more c wants.Operand atoms e = ap (λ n. nat_eq n 16) e
atom_more c _ atoms e = refl

pub atom_more_told : {V : Tightness → Type 0} {K B : Type 0} (s : State V K B) (before : List Placed)
    → StandsBehind s before → wants_atom_more s.control s.control.want ≡ is_before_atom_more (bare before)
atom_more_told s before h =
    atom_more s.control s.control.want (atoms_before (bare before)) h.atoms
    ∙ sym (ap (λ x. x && nat_eq (atoms_before (bare before)) 16) h.near.operand)

with_none : (b : Bool) → b ≡ (b || false)
with_none true = refl
with_none false = refl

repeats : (c : Control) (want : Want) (before : List Token) → lacks_block c ≡ lacks_some_pair before →
    ((k : Kind) → lacks_with c k ≡ lacks_pair_with before k) →
    repeats_block c want
    ≡ ((wants_block_first want && not (lacks_some_pair before)) || has_each_block before (first_for want))
repeats c wants.BlockFirst before some pair = ap (λ x. not x) some ∙ with_none (not (lacks_some_pair before))
repeats c (wants.BlockSecond k) before some pair = ap (λ x. not x) (pair k)
repeats c _ before some pair = refl

pub repeats_told : {V : Tightness → Type 0} {K B : Type 0} (s : State V K B) (before : List Placed)
    → StandsBehind s before → repeats_block s.control s.control.want ≡ repeats_some_block (bare before)
repeats_told s before h =
    let tokens = bare before in
    let place = block_place before in
    let some = some_pair_lacks s.control s.outer s.control.want tokens place h in
    repeats s.control s.control.want tokens some (pair_lacks_with s.control s.outer s.control.want tokens place h)
    ∙ sym
    (ap (λ x. (x && not (lacks_some_pair tokens)) || has_each_block tokens (first_of_block tokens)) h.near.block_word
    ∙ ap (λ x. (wants_block_first s.control.want && not (lacks_some_pair tokens))
    || has_each_block tokens x) h.near.first)
