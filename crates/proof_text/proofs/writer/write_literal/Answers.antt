use Rattle.std.proofs.Common.{◌++◌, ℕ, ℤ, FitsSigned, List, OnErr, Result, append_assoc, of_z, rules, subst, to_z}
use Rattle.std.proofs.Common.{to_z-of_z, w32}
use Rattle.ot_outside.specs.Whole.{AppendsFront}
use Rattle.proof_text.specs.Spelling.{literal_name_text, offset_text}
use Rattle.proof_text.proofs.WriterLemmas.{both_pieces, error_behind, error_in_first, error_in_next}
use Rattle.proof_text.proofs.writer.write_literal.Goals as goal

-- what is told of a number that fits is told of it
told :
    {T E : Type 0} (r : Result T E) (before after : List ℕ) (k : ℤ) → FitsSigned w32 k
    → OnErr r (AppendsFront before (offset_text (to_z w32 (of_z w32 k))) after)
    → OnErr r (AppendsFront before (offset_text k) after)
told r before after k fits h =
    subst (λ (x : ℤ). OnErr r (AppendsFront before (offset_text x) after)) (to_z-of_z fits) h

pub returns-in_err-write_name-clause-err : goal.returns-in_err-write_name-clause-err
returns-in_err-write_name-clause-err c =
    error_in_first c.from_residual.result c.args.out.now.items c.write_name.new.out.items
    (literal_name_text c.args.literal.now.x)
    (literal_name_text c.args.literal.now.y ++ offset_text c.args.literal.now.k) c.in_err-write_name.ensures.err

pub returns-in_err-write_name-2-clause-err : goal.returns-in_err-write_name-2-clause-err
returns-in_err-write_name-2-clause-err c =
    error_in_next c.from_residual-in_err-write_name-2.result c.args.out.now.items c.write_name.new.out.items
    c.write_name-2.new.out.items (literal_name_text c.args.literal.now.x) (literal_name_text c.args.literal.now.y)
    (offset_text c.args.literal.now.k) c.in_ok-write_name.ensures.ok c.in_err-write_name-2.ensures.err

pub returns-clause-err : goal.returns-clause-err
returns-clause-err c =
    let fits : FitsSigned w32 c.args.literal.now.k = search rules in
    rw (← append_assoc (literal_name_text c.args.literal.now.x) (literal_name_text c.args.literal.now.y)
    (offset_text c.args.literal.now.k))
    (error_behind c.write_offset.result c.args.out.now.items c.write_name-2.new.out.items c.write_offset.new.out.items
    (literal_name_text c.args.literal.now.x ++ literal_name_text c.args.literal.now.y)
    (offset_text c.args.literal.now.k)
    (both_pieces c.args.out.now.items c.write_name.new.out.items c.write_name-2.new.out.items
    (literal_name_text c.args.literal.now.x)
    (literal_name_text c.args.literal.now.y) c.in_ok-write_name.ensures.ok c.in_ok-write_name-2.ensures.ok)
    (told c.write_offset.result c.write_name-2.new.out.items c.write_offset.new.out.items c.args.literal.now.k fits
    c.write_offset.ensures.err))
