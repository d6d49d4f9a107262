use Rattle.fn_rules.specs.Rules.{function_of}
use Rattle.fn_text.proofs.Refusals.Told.{answered_for}
use Rattle.fn_text.proofs.reading.read.Goals as goal

pub returns-clause-text_or_first_wrong : goal.returns-clause-text_or_first_wrong
returns-clause-text_or_first_wrong c =
    answered_for function_of c.args.bytes.now c.function_read.result c.function_read.ensures
