use Rattle.std.proofs.Common.{◌∷◌, []}
use Rattle.std.specs.Fmt.{decimal}
use Rattle.proof_text.proofs.WriterLemmas.{error_behind, error_in_first}
use Rattle.proof_text.proofs.writer.write_minus.Goals as goal

pub returns-in_err-append_byte-clause-err : goal.returns-in_err-append_byte-clause-err
returns-in_err-append_byte-clause-err c =
    error_in_first c.from_residual.result c.args.out.now.items c.append_byte.new.out.items (45 ∷ [])
    (decimal c.args.amount) c.in_err-append_byte.ensures.err

pub returns-clause-err : goal.returns-clause-err
returns-clause-err c =
    error_behind c.write_number.result c.args.out.now.items c.append_byte.new.out.items c.write_number.new.out.items
    (45 ∷ []) (decimal c.args.amount) c.in_ok-append_byte.ensures.ok c.write_number.ensures.err
