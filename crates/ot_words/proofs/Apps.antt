-- What a clap command is, argument by argument.
use Rattle.std.proofs.Common.{◌≡◌, false, ap, ◌∙◌, Result, IfOk}
use Rattle.std.proofs.lemmas.Result.{IfOk-weaker}
use Rattle.clap.specs.declared.builder.arg.Arg.{Arg}
use Rattle.clap.specs.declared.builder.command.Command.{Command}
use Rattle.clap.specs.Words.{AddsArg, App, Rule, app_of, rule_of, with_rule}

-- an argument that is not global adds its rule
pub with_argument :
    (old new : Command) (a : Arg) (app : App) (rule : Rule) → AddsArg old a new → a.global ≡ false
    → app_of old ≡ app → rule_of a ≡ rule
    → app_of new ≡ with_rule app rule
with_argument old new a app rule adds local is_app is_rule =
    adds.shape local ∙ (ap (λ (x : App). with_rule x (rule_of a)) is_app ∙ ap (λ (r : Rule). with_rule app r) is_rule)

-- and so does the last one
pub with_last_argument :
    {E : Type 0} (r : Result Command E) (old : Command) (a : Arg) (app : App) (rule : Rule)
    → IfOk r (λ new. AddsArg old a new)
    → a.global ≡ false → app_of old ≡ app → rule_of a ≡ rule → IfOk r (λ new. app_of new ≡ with_rule app rule)
with_last_argument r old a app rule adds local is_app is_rule =
    IfOk-weaker r (λ new. AddsArg old a new) (λ new. app_of new ≡ with_rule app rule)
    (λ new one. with_argument old new a app rule one local is_app is_rule) adds
