use Rattle.fn_grammar.proofs.Printing.FewestParentheses.{fewest_parentheses}
use Rattle.fn_grammar.proofs.theorems.canonical_guards_have_the_fewest_parentheses.Goals as goal

pub returns : goal.returns
returns c = fewest_parentheses
