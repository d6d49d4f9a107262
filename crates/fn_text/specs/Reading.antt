-- What a file is read as: a function, or the fault of the first token that cannot go on.
use Rattle.std.specs.Prelude.{ℕ, List, Result, Ok, Err}
use Rattle.fn_rules.specs.declared.function.Head.{Head}
use Rattle.fn_rules.specs.Functions.{Function}
use Rattle.fn_rules.specs.Building.{PairCases, function_from}
use Rattle.fn_tokens.specs.declared.fault.TextFault.{TextFault}
use Rattle.fn_tokens.specs.Tokens.{tokens_in}
use Rattle.fn_tokens.specs.Meaning.{to_formulas}
use Rattle.fn_text.specs.Reader.{read_from, first_state}

-- the function that a head and blocks stand for
abbrev pub built_from : Result (Head × List PairCases) TextFault → Result Function TextFault
built_from (Ok parts) = Ok (function_from parts.0 parts.1)
built_from (Err fault) = Err fault

-- the function that bytes are read as, or the first fault
unfoldable pub function_in : List ℕ → Result Function TextFault
function_in bytes = built_from (read_from to_formulas (first_state to_formulas) (tokens_in bytes))
