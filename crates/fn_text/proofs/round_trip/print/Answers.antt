use Rattle.fn_rules.specs.Rules.{function_of}
use Rattle.fn_text.proofs.WrittenIsRead.Files.{text_is_read}
use Rattle.fn_text.proofs.round_trip.print.Goals as goal

pub returns-clause-reads_back : goal.returns-clause-reads_back
returns-clause-reads_back c =
    text_is_read c.in_ok-canonical_text.field-0.items (function_of c.args.rules.now)
    c.in_ok-canonical_text.ensures.of_function
