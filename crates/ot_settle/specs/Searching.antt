-- What a search of a function's obligations says.
use Rattle.std.specs.Prelude.{List}
use Rattle.fn_rules.specs.declared.function.ObName.{ObName}
use Rattle.fn_rules.specs.Functions.{Function}
use Rattle.ot_settle.specs.declared.ended.FailingOb.{FailingOb}
use Rattle.ot_settle.specs.Outcomes.{IsFailing}

-- one of these obligations of the function fails
abbrev pub FailsAmong : Function → List ObName → FailingOb → Type 0
FailsAmong f obs e = IsFailing f obs e.ob e.end.answers.items e.end.why
