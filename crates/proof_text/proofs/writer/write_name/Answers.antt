use Rattle.std.proofs.Common.{◌∷◌, []}
use Rattle.std.specs.Fmt.{decimal}
use Rattle.proof_text.proofs.WriterLemmas.{error_behind, error_in_first}
use Rattle.proof_text.proofs.writer.write_name.Goals as goal

pub returns-in_err-write_number-clause-err : goal.returns-in_err-write_number-clause-err
returns-in_err-write_number-clause-err c =
    error_in_first c.from_residual.result c.args.out.now.items c.write_number.new.out.items (decimal c.args.name)
    (44 ∷ []) c.in_err-write_number.ensures.err

pub returns-clause-err : goal.returns-clause-err
returns-clause-err c =
    error_behind c.append_byte.result c.args.out.now.items c.write_number.new.out.items c.append_byte.new.out.items
    (decimal c.args.name) (44 ∷ []) c.in_ok-write_number.ensures.ok c.append_byte.ensures.err
