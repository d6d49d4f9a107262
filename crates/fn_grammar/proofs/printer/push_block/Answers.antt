use Rattle.std.proofs.Common.{rules, append_assoc}
use Rattle.std.proofs.lemmas.List.Folds.{flat_map-map}
use Rattle.fn_grammar.proofs.printer.push_block.Goals as goal

pub returns : goal.returns
returns c = search (rules, append_assoc, flat_map-map)
