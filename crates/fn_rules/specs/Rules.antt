-- The function that checked rules stand for.
use Rattle.fn_rules.specs.declared.rules.Rules.{Rules}
use Rattle.std.specs.Prelude.{map}
use Rattle.fn_rules.specs.Functions.{Function}
use Rattle.fn_rules.specs.Building.{block_of, function_from}

-- the function that rules stand for
unfoldable pub function_of : Rules → Function
function_of rules = function_from rules.head (map block_of rules.blocks.items)
