use Rattle.std.proofs.Common.{◌∷◌, ◌++◌, []}
use Rattle.proof_text.specs.Spelling.{literals_text}
use Rattle.proof_text.proofs.WriterLemmas.{both_pieces, error_behind, error_in_first, error_in_next}
use Rattle.proof_text.proofs.writer.write_lemma.Goals as goal

pub returns-in_err-append_byte-clause-err : goal.returns-in_err-append_byte-clause-err
returns-in_err-append_byte-clause-err c =
    error_in_first c.from_residual.result c.args.out.now.items c.append_byte.new.out.items (108 ∷ [])
    (literals_text c.args.literals.now ++ 59 ∷ []) c.in_err-append_byte.ensures.err

pub returns-in_err-write_literals-clause-err : goal.returns-in_err-write_literals-clause-err
returns-in_err-write_literals-clause-err c =
    error_in_next c.from_residual-in_err-write_literals.result c.args.out.now.items c.append_byte.new.out.items
    c.write_literals.new.out.items (108 ∷ []) (literals_text c.args.literals.now) (59 ∷ [])
    c.in_ok-append_byte.ensures.ok c.in_err-write_literals.ensures.err

pub returns-clause-err : goal.returns-clause-err
returns-clause-err c =
    error_behind c.append_byte-2.result c.args.out.now.items c.write_literals.new.out.items
    c.append_byte-2.new.out.items (108 ∷ literals_text c.args.literals.now) (59 ∷ [])
    (both_pieces c.args.out.now.items c.append_byte.new.out.items c.write_literals.new.out.items (108 ∷ [])
    (literals_text c.args.literals.now) c.in_ok-append_byte.ensures.ok c.in_ok-write_literals.ensures.ok)
    c.append_byte-2.ensures.err
