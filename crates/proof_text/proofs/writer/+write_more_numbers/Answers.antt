use Rattle.std.proofs.Common.{◌≡◌, ◌∷◌, ◌++◌, []}
use Rattle.std.specs.Fmt.{decimal}
use Rattle.cert_text.specs.Numbers.{more_numbers_text}
use Rattle.proof_text.proofs.WriterLemmas.{both_pieces, error_behind, error_in_first, error_in_next}
use Rattle.proof_text.proofs.writer.+write_more_numbers.Goals as goal

pub returns-in_err-append_byte-clause-err : goal.returns-in_err-append_byte-clause-err
returns-in_err-append_byte-clause-err t c =
    let are : c.args.numbers.now ≡ c.in-Some.first.now ∷ c.in-Some.rest.now = c.in-Some.ensures.cases.0 in
    rw are
    (error_in_first c.from_residual.result c.args.out.now.items c.append_byte.new.out.items (44 ∷ [])
    (decimal c.in-Some.first.now ++ more_numbers_text c.in-Some.rest.now) c.in_err-append_byte.ensures.err)

pub returns-in_err-write_number-clause-err : goal.returns-in_err-write_number-clause-err
returns-in_err-write_number-clause-err t c =
    let are : c.args.numbers.now ≡ c.in-Some.first.now ∷ c.in-Some.rest.now = c.in-Some.ensures.cases.0 in
    rw are
    (error_in_next c.from_residual-in_err-write_number.result c.args.out.now.items c.append_byte.new.out.items
    c.write_number.new.out.items (44 ∷ [])
    (decimal c.in-Some.first.now) (more_numbers_text c.in-Some.rest.now) c.in_ok-append_byte.ensures.ok
    c.in_err-write_number.ensures.err)

pub returns-clause-err : goal.returns-clause-err
returns-clause-err t c =
    let are : c.args.numbers.now ≡ c.in-Some.first.now ∷ c.in-Some.rest.now = c.in-Some.ensures.cases.0 in
    rw are
    (error_behind c.write_more_numbers.result c.args.out.now.items c.write_number.new.out.items
    c.write_more_numbers.new.out.items (44 ∷ decimal c.in-Some.first.now) (more_numbers_text c.in-Some.rest.now)
    (both_pieces c.args.out.now.items c.append_byte.new.out.items c.write_number.new.out.items (44 ∷ [])
    (decimal c.in-Some.first.now) c.in_ok-append_byte.ensures.ok c.in_ok-write_number.ensures.ok)
    c.write_more_numbers.ensures.err)
