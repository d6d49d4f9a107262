use Rattle.std.proofs.Common.{◌≡◌, ◌∷◌}
use Rattle.proof_text.specs.Spelling.{literal_text, more_literals_text}
use Rattle.proof_text.proofs.WriterLemmas.{error_behind, error_in_first}
use Rattle.proof_text.proofs.writer.write_literals.Goals as goal

pub returns-in_err-write_literal-clause-err : goal.returns-in_err-write_literal-clause-err
returns-in_err-write_literal-clause-err c =
    let are : c.args.literals.now ≡ c.in-Some.first.now ∷ c.in-Some.rest.now = c.in-Some.ensures.cases.0 in
    rw are
    (error_in_first c.from_residual.result c.args.out.now.items c.write_literal.new.out.items
    (literal_text c.in-Some.first.now) (more_literals_text c.in-Some.rest.now) c.in_err-write_literal.ensures.err)

pub returns-clause-err : goal.returns-clause-err
returns-clause-err c =
    let are : c.args.literals.now ≡ c.in-Some.first.now ∷ c.in-Some.rest.now = c.in-Some.ensures.cases.0 in
    rw are
    (error_behind c.write_more_literals.result c.args.out.now.items c.write_literal.new.out.items
    c.write_more_literals.new.out.items
    (literal_text c.in-Some.first.now) (more_literals_text c.in-Some.rest.now) c.in_ok-write_literal.ensures.ok
    c.write_more_literals.ensures.err)
