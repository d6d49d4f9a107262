use Rattle.std.proofs.Common.{◌≡◌, ◌∷◌}
use Rattle.std.specs.Fmt.{decimal}
use Rattle.cert_text.specs.Numbers.{more_numbers_text}
use Rattle.proof_text.proofs.WriterLemmas.{error_behind, error_in_first}
use Rattle.proof_text.proofs.writer.write_numbers.Goals as goal

pub returns-in_err-write_number-clause-err : goal.returns-in_err-write_number-clause-err
returns-in_err-write_number-clause-err c =
    let are : c.args.numbers.now ≡ c.in-Some.first.now ∷ c.in-Some.rest.now = c.in-Some.ensures.cases.0 in
    rw are
    (error_in_first c.from_residual.result c.args.out.now.items c.write_number.new.out.items
    (decimal c.in-Some.first.now) (more_numbers_text c.in-Some.rest.now) c.in_err-write_number.ensures.err)

pub returns-clause-err : goal.returns-clause-err
returns-clause-err c =
    let are : c.args.numbers.now ≡ c.in-Some.first.now ∷ c.in-Some.rest.now = c.in-Some.ensures.cases.0 in
    rw are
    (error_behind c.write_more_numbers.result c.args.out.now.items c.write_number.new.out.items
    c.write_more_numbers.new.out.items
    (decimal c.in-Some.first.now) (more_numbers_text c.in-Some.rest.now) c.in_ok-write_number.ensures.ok
    c.write_more_numbers.ensures.err)
