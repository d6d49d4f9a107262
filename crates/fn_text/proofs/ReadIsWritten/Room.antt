-- The tests of a move hold where the move was chosen.
use Rattle.std.proofs.Common.{◌≡◌, Some}
use Rattle.std.proofs.lemmas.Bool.{and_parts, ltb-true}
use Rattle.fn_tokens.specs.declared.token.Token.{Token}
use Rattle.fn_tokens.specs.declared.token.Placed.{Placed}
use Rattle.fn_tokens.specs.declared.control.Want.{Want}
use Rattle.fn_tokens.specs.declared.control.Want.TheVariants as wants
use Rattle.fn_tokens.specs.declared.control.Control.{Control}
use Rattle.fn_tokens.specs.declared.control.TokenMove.{TokenMove}
use Rattle.fn_tokens.specs.GuardMoves.{at_operator}
use Rattle.fn_tokens.specs.Moves.{HasRoom, move_for}
use Rattle.fn_text.proofs.ReadIsWritten.Moves.{by_otfn, by_text, by_kinds, by_differ, by_line_end, by_block_end}
use Rattle.fn_text.proofs.ReadIsWritten.Moves.{by_result_end, by_file_end, by_version, by_mode, by_next_kind, by_line}
use Rattle.fn_text.proofs.ReadIsWritten.Moves.{by_assumed, by_block_first, by_block_second, by_operand, by_comparison}
use Rattle.fn_text.proofs.ReadIsWritten.Moves.{by_right, by_operator, by_offset, by_number, by_result}
use Rattle.fn_text.proofs.ReadIsWritten.Moves.{by_result_position, by_result_offset, by_result_number}

module _ (c : Control) where
  -- the token does not matter
  abbrev Fit : Token → TokenMove → Type 0
  Fit token move = HasRoom c move

  operator_fits : (token : Token) (m : TokenMove) → at_operator c token ≡ Some m → HasRoom c m
  operator_fits token m e = by_operator Fit c token m e tt tt (λ _. tt) (λ _. tt)

  -- the tests of a move hold where a token was given that move
  pub move_fits : (at : Placed) (want : Want) (token : Token) (m : TokenMove)
      → move_for c at want token ≡ Some m → HasRoom c m
  move_fits at wants.Otfn token m e = by_otfn Fit token m e tt
  move_fits at wants.Version token m e = by_version Fit token m e (λ _. tt)
  move_fits at wants.Text token m e = by_text Fit token m e tt
  move_fits at wants.Mode token m e = by_mode Fit token m e (λ _. tt)
  move_fits at wants.Kinds token m e = by_kinds Fit token m e tt
  move_fits at wants.NextKind token m e = by_next_kind Fit c token m e (λ _ _ _. tt) (λ _. tt)
  move_fits at (wants.LineEnd following) token m e = by_line_end Fit following token m e tt
  move_fits at wants.Line token m e =
      by_line Fit c at token m e (λ _. tt) tt (λ test. ltb-true _ _ (and_parts c.begun _ test).1) (λ _. tt)
  move_fits at wants.Assumed token m e = by_assumed Fit c token m e (λ _. tt) tt
  move_fits at wants.Differ token m e = by_differ Fit token m e tt
  move_fits at wants.BlockFirst token m e = by_block_first Fit c token m e (λ _ _. tt)
  move_fits at (wants.BlockSecond k) token m e = by_block_second Fit c k token m e (λ _ _ _. tt)
  move_fits at wants.BlockEnd token m e = by_block_end Fit token m e tt
  move_fits at wants.Operand token m e =
      by_operand Fit c token m e (ltb-true _ _) (ltb-true _ _) (ltb-true _ _)
      (λ sort side room chars. ltb-true _ _ room)
  move_fits at (wants.Comparison sort left) token m e = by_comparison Fit sort left token m e (λ _. tt)
  move_fits at (wants.Right sort left cmp) token m e = by_right Fit sort left cmp token m e tt
  move_fits at (wants.Offset left cmp) token m e = by_offset Fit c left cmp token m e (λ _. tt) (operator_fits token m)
  move_fits at (wants.Number left cmp sign) token m e = by_number Fit left cmp sign token m e (λ _ _. tt)
  move_fits at wants.Operator token m e = operator_fits token m e
  move_fits at wants.Result token m e = by_result Fit c token m e tt tt
  move_fits at wants.ResultPosition token m e = by_result_position Fit token m e (λ _. tt)
  move_fits at (wants.ResultOffset side) token m e = by_result_offset Fit side token m e (λ _. tt) tt
  move_fits at (wants.ResultNumber side sign) token m e = by_result_number Fit side sign token m e (λ _ _. tt)
  move_fits at (wants.ResultEnd result) token m e = by_result_end Fit result token m e tt
  move_fits at wants.FileEnd token m e = by_file_end Fit token m e tt
  move_fits at wants.Nothing token m e = absurd (cc)
