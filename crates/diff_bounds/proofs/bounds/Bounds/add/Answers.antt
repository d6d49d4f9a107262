use Rattle.std.proofs.Common.{List, Option, subst, sym, ◌∙◌, rules, arith}
use Rattle.diff_tables.specs.declared.hop.Hop.{Hop}
use Rattle.diff_tables.specs.Tables.{kept_of, IsAtMost}
use Rattle.diff_bounds.proofs.Kept.{AreModest-from_bounds, IsNamed-from_bounds}
use Rattle.diff_bounds.proofs.bounds.Bounds.add.Goals as goal

-- the table is square and its offsets are modest, and the literal is named and small
pub insert-requires : goal.insert-requires
insert-requires g c = (
  search rules,
  (
    omega (arith, c.self.invariant.few, c.self.invariant.len),
    (
      c.self.invariant.square,
      (
        AreModest-from_bounds g.row.N c.self.inside.rows c.self.invariant c.tables_tell_what_is_possible.ensures.modest,
        (
          IsNamed-from_bounds g.row.N c.self.inside.rows c.self.invariant c.args.lit c.requires.named,
          (c.requires.small, (search rules, search rules)),
        ),
      ),
    ),
  ),
)

pub returns-clause-same : goal.returns-clause-same
returns-clause-same g c = λ ps stands follows.
    let lit = c.args.lit in
    let most : IsAtMost (kept_of c.args.self.now lit.x lit.y) lit.k =
    (stands.tight lit.x lit.y c.requires.named.0 c.requires.named.1 lit.k).1 follows in
    let kept = subst (λ (rows : List (List (Option Hop))). IsAtMost (kept_of rows lit.x lit.y) lit.k)
    (sym c.self.view_is) most in
    c.insert.ensures.same kept ∙ c.self.view_is
