use Rattle.std.proofs.Common.{◌≡◌, ◌<◌, ◌^◌, sym, subst, length, rules}
use Rattle.fn_rules.specs.Rules.{function_of}
use Rattle.fn_grammar.specs.Grammar.{IsTextOf}
use Rattle.fn_grammar.specs.Print.{printed}
use Rattle.fn_grammar.proofs.Printing.Functions.{printed_is_text}
use Rattle.fn_grammar.proofs.Printing.Size.{printed_is_short}
use Rattle.fn_grammar.proofs.printer.canonical_text.Goals as goal

pub returns-clause-short : goal.returns-clause-short
returns-clause-short c =
    let text : c.in_ok-spell.field-0.items ≡ printed (function_of c.args.rules.now) = search rules in
    subst (λ x. length x < 2 ^ 31) (sym text)
    (printed_is_short (function_of c.args.rules.now) c.in_ok-push_function.ensures.valid)

pub returns-clause-of_function : goal.returns-clause-of_function
returns-clause-of_function c =
    let text : c.in_ok-spell.field-0.items ≡ printed (function_of c.args.rules.now) = search rules in
    subst (λ x. IsTextOf x (function_of c.args.rules.now)) (sym text)
    (printed_is_text (function_of c.args.rules.now) c.in_ok-push_function.ensures.valid)
