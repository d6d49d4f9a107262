use Rattle.fn_text.proofs.Refusals.GoingOn.{going_tokens_begin}
use Rattle.fn_text.proofs.Refusals.Told.{refusals_are_final}
use Rattle.fn_text.proofs.theorems.refusals_are_final.Goals as goal

pub returns-clause-first_wrong : goal.returns-clause-first_wrong
returns-clause-first_wrong c = refusals_are_final

pub returns-clause-begins : goal.returns-clause-begins
returns-clause-begins c = going_tokens_begin
