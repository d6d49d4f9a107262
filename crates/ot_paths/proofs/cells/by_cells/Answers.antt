use Rattle.std.proofs.Common.{[]}
use Rattle.std.proofs.lemmas.List.Elements.{All-nil, All-same}
use Rattle.fn_rules.specs.Rules.{function_of}
use Rattle.ot_terms.specs.Cells.{cell_tree}
use Rattle.ot_paths.specs.Sharing.{IsKeptRead}
use Rattle.ot_paths.proofs.cells.by_cells.Goals as goal

pub by_left-requires-clause-known : goal.by_left-requires-clause-known
by_left-requires-clause-known c =
    let kept = IsKeptRead (function_of c.args.rules.now) (cell_tree c.args.right) in
    All-same kept c.new-known.result.items [] c.new-known.ensures.items (All-nil kept)
