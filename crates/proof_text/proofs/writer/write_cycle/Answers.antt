use Rattle.std.proofs.Common.{◌∷◌, ◌++◌, []}
use Rattle.cert_text.specs.Numbers.{numbers_text}
use Rattle.proof_text.proofs.WriterLemmas.{both_pieces, error_behind, error_in_first, error_in_next}
use Rattle.proof_text.proofs.writer.write_cycle.Goals as goal

pub returns-in_err-append_byte-clause-err : goal.returns-in_err-append_byte-clause-err
returns-in_err-append_byte-clause-err c =
    error_in_first c.from_residual.result c.args.out.now.items c.append_byte.new.out.items (120 ∷ [])
    (numbers_text c.args.numbers.now ++ 59 ∷ []) c.in_err-append_byte.ensures.err

pub returns-in_err-write_numbers-clause-err : goal.returns-in_err-write_numbers-clause-err
returns-in_err-write_numbers-clause-err c =
    error_in_next c.from_residual-in_err-write_numbers.result c.args.out.now.items c.append_byte.new.out.items
    c.write_numbers.new.out.items (120 ∷ []) (numbers_text c.args.numbers.now) (59 ∷ []) c.in_ok-append_byte.ensures.ok
    c.in_err-write_numbers.ensures.err

pub returns-clause-err : goal.returns-clause-err
returns-clause-err c =
    error_behind c.append_byte-2.result c.args.out.now.items c.write_numbers.new.out.items c.append_byte-2.new.out.items
    (120 ∷ numbers_text c.args.numbers.now) (59 ∷ [])
    (both_pieces c.args.out.now.items c.append_byte.new.out.items c.write_numbers.new.out.items (120 ∷ [])
    (numbers_text c.args.numbers.now) c.in_ok-append_byte.ensures.ok c.in_ok-write_numbers.ensures.ok)
    c.append_byte-2.ensures.err
