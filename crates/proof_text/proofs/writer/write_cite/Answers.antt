use Rattle.std.proofs.Common.{◌∷◌, ◌++◌, []}
use Rattle.std.specs.Fmt.{decimal}
use Rattle.proof_text.proofs.WriterLemmas.{both_pieces, error_behind, error_in_first, error_in_next}
use Rattle.proof_text.proofs.writer.write_cite.Goals as goal

pub returns-in_err-append_byte-clause-err : goal.returns-in_err-append_byte-clause-err
returns-in_err-append_byte-clause-err c =
    error_in_first c.from_residual.result c.args.out.now.items c.append_byte.new.out.items (99 ∷ [])
    (decimal c.args.number ++ 59 ∷ []) c.in_err-append_byte.ensures.err

pub returns-in_err-write_number-clause-err : goal.returns-in_err-write_number-clause-err
returns-in_err-write_number-clause-err c =
    error_in_next c.from_residual-in_err-write_number.result c.args.out.now.items c.append_byte.new.out.items
    c.write_number.new.out.items (99 ∷ []) (decimal c.args.number) (59 ∷ []) c.in_ok-append_byte.ensures.ok
    c.in_err-write_number.ensures.err

pub returns-clause-err : goal.returns-clause-err
returns-clause-err c =
    error_behind c.append_byte-2.result c.args.out.now.items c.write_number.new.out.items c.append_byte-2.new.out.items
    (99 ∷ decimal c.args.number) (59 ∷ [])
    (both_pieces c.args.out.now.items c.append_byte.new.out.items c.write_number.new.out.items (99 ∷ [])
    (decimal c.args.number) c.in_ok-append_byte.ensures.ok c.in_ok-write_number.ensures.ok)
    c.append_byte-2.ensures.err
