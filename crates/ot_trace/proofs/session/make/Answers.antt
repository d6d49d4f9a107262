use Rattle.std.proofs.Common.{◌++◌, [], List, ℕ, refl, sym, ap, ◌∙◌}
use Rattle.std.proofs.lemmas.List.{append-nil}
use Rattle.ot_model.specs.declared.cell.Cell.{Cell}
use Rattle.ot_session.specs.Views.{data_in, view_of}
use Rattle.ot_trace.specs.SessionTexts.{make_text}
use Rattle.ot_trace.proofs.SessionKeeping.{refused}
use Rattle.ot_trace.proofs.session.make.Goals as goal

-- it was made, and this is told of it
pub returns-in_ok-write_make-in-Ok : goal.returns-in_ok-write_make-in-Ok
returns-in_ok-write_make-in-Ok c =
    let line : List Cell → List ℕ = λ d. make_text c.args.number c.args.site c.in-Ok.made c.args.op d in
    let new = view_of c.make.new.self in (
      line ((data_in new).document c.args.site),
      (c.in-Ok.made, c.in-Ok.ensures.made, refl),
      c.in_ok-write_make-in-Ok.ensures ∙ ap (λ (d : List Cell). c.args.out.now.items ++ line d) c.doc.ensures.held,
    )

-- it was refused, and nothing is told
pub returns-in_ok-not_made-in-Err : goal.returns-in_ok-not_made-in-Err
returns-in_ok-not_made-in-Err c =
    let told = c.in-Err.ensures in (
      [],
      (
        c.in-Err.why,
        refused (view_of c.args.session.now) c.args.site c.args.op c.in-Err.why told.no_site told.wrong_site
            told.wrong_kind told.not_enabled told.full c.in_ok-not_made-in-Err.ensures,
        refl,
      ),
      sym (append-nil c.args.out.now.items),
    )
