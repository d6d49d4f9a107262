use Rattle.std.proofs.Common.{length, sym, ◌∙◌}
use Rattle.std.proofs.lemmas.Bool.{true≢false}
use Rattle.diff_tables.specs.Tables.{kept_of}
use Rattle.diff_bounds.proofs.Kept.{keeps-from_at_most}
use Rattle.diff_bounds.proofs.rows.insert.Goals as goal

pub returns-then-follows-clause-stands : goal.returns-then-follows-clause-stands
returns-then-follows-clause-stands g c = λ ps stands.
    let rows = c.args.rows.now in
    c.tables_stand_for_what_is_added.ensures.kept (length rows) (kept_of rows) ps c.args.number c.args.lit stands
    c.requires.named (sym c.follows.ensures ∙ c.if-follows.true)

pub returns-clause-stands : goal.returns-clause-stands
returns-clause-stands g c = λ ps stands.
    let rows = c.args.rows.now in
    c.tables_stand_for_what_is_added.ensures.added (length rows) (kept_of rows) (kept_of c.add.new.rows) ps
    c.args.number c.args.lit stands c.requires.named c.requires.allowed c.add.ensures.added

pub returns-clause-same : goal.returns-clause-same
returns-clause-same g c = λ most.
    absurd
    (true≢false
    (sym (keeps-from_at_most (kept_of c.args.rows.now c.args.lit.x c.args.lit.y) c.args.lit.k most)
    ∙ (sym c.follows.ensures ∙ c.if-follows.false)))
