use Rattle.std.proofs.Common.{◌≡◌, ◌↔◌, rules, subst, sym, Bool, IsTrue}
use Rattle.diff_tables.specs.Tables.{kept_of, literals_of, IsPossibleWith}
use Rattle.diff_bounds.specs.Kept.{has_room}
use Rattle.diff_bounds.proofs.Kept.{AreModest-from_bounds, IsNamed-from_bounds}
use Rattle.diff_bounds.proofs.bounds.Bounds.allows.Goals as goal

-- the table is square and its offsets are modest, and the literal is named and small
pub allows-requires : goal.allows-requires
allows-requires g c =
    let rows = c.self.inside.rows in (
      search rules,
      (
        c.self.invariant.square,
        (
          AreModest-from_bounds g.row.N rows c.self.invariant c.tables_tell_what_is_possible.ensures.modest,
          (IsNamed-from_bounds g.row.N rows c.self.invariant c.args.lit c.requires.named, c.requires.small),
        ),
      ),
    )

pub returns-clause-exact : goal.returns-clause-exact
returns-clause-exact g c = λ ps stands.
    let kept = kept_of c.args.self.now in
    let room : c.allows.result ≡ has_room kept c.args.lit = search rules in
    subst (λ (b : Bool). IsTrue b ↔ IsPossibleWith (literals_of ps) c.args.lit) (sym room)
    (c.tables_tell_what_is_possible.ensures.possible g.row.N kept ps c.args.lit stands c.requires.named)
