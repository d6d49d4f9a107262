use Rattle.std.proofs.Common.{◌≡◌}
use Rattle.fn_rules.specs.Formulas.{formula_of}
use Rattle.fn_tokens.specs.Meaning.{to_formulas}
use Rattle.fn_text.specs.Reader.{negate}
use Rattle.fn_text.proofs.reader.negated.Given as goal

abbrev pub invariant-loop-i : goal.invariant-loop-i
invariant-loop-i l = formula_of l.negated ≡ negate to_formulas l._i (formula_of l.fn.guard)
