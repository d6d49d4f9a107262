use Rattle.std.proofs.Common.{map}
use Rattle.fn_rules.specs.Building.{block_of}
use Rattle.fn_text.proofs.ReadIsWritten.Functions.{answer_is_buildable}
use Rattle.fn_text.proofs.reading.parts.Goals as goal

pub returns-clause-within_limits : goal.returns-clause-within_limits
returns-clause-within_limits c =
    answer_is_buildable (λ x. (x.0, map block_of x.1.items)) c.args.bytes.now c.read_tokens.result
    (rw (c.new.ensures) at c.read_tokens.ensures)
