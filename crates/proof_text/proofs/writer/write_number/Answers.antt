use Rattle.std.proofs.Common.{◌≡◌, ℕ, ◌+◌, ◌<◌, [], ◌∷◌, sym, ap, ◌∙◌}
use Rattle.std.proofs.lemmas.Fmt.{decimal_digit}
use Rattle.std.specs.Fmt.{decimal}
use Rattle.proof_text.proofs.writer.write_number.Goals as goal

one_digit : (n digit : ℕ) → n < 10 → digit ≡ 48 + n → decimal n ≡ digit ∷ []
one_digit n digit below is = decimal_digit n below ∙ ap (λ (d : ℕ). d ∷ []) (sym is)

pub returns-then-number-lt10-clause-ok : goal.returns-then-number-lt10-clause-ok
returns-then-number-lt10-clause-ok c =
    rw (one_digit c.args.number c.digit_of.result c.if-number-lt10.true c.digit_of.ensures) c.append_byte.ensures.ok

pub returns-then-number-lt10-clause-err : goal.returns-then-number-lt10-clause-err
returns-then-number-lt10-clause-err c =
    rw (one_digit c.args.number c.digit_of.result c.if-number-lt10.true c.digit_of.ensures) c.append_byte.ensures.err
