use Rattle.std.proofs.Common.{rules, append_assoc}
use Rattle.std.proofs.lemmas.Int.{to_z-of_z}
use Rattle.fn_grammar.proofs.printer.push_atom.Goals as goal

pub returns : goal.returns
returns c = search (rules, append_assoc, to_z-of_z)
