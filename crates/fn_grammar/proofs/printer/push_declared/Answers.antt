use Rattle.fn_rules.specs.Rules.{function_of}
use Rattle.fn_grammar.proofs.Printing.Offsets.{block_has_offsets}
use Rattle.fn_grammar.proofs.printer.push_declared.Goals as goal

pub push_block-requires : goal.push_block-requires
push_block-requires c =
    block_has_offsets (function_of c.args.rules.now) c.args.first c.args.second c.cases.result.now
    c.head-head.ensures.valid c.cases.ensures.cases
