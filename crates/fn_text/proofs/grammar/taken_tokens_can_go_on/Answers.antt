use Rattle.fn_text.proofs.Refusals.GoesOn.{taken_tokens_go_on}
use Rattle.fn_text.proofs.Refusals.DeadEnds.{exceptions_are_dead_ends}
use Rattle.fn_text.proofs.grammar.taken_tokens_can_go_on.Goals as goal

pub returns : goal.returns
returns c = record { go_on = taken_tokens_go_on; exceptions = exceptions_are_dead_ends }
