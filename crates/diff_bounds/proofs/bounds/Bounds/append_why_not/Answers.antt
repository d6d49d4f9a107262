use Rattle.std.proofs.Common.{◌≡◌, rules, subst, List, ℕ, ◌∷◌, ◌++◌, Option, length}
use Rattle.diff_tables.specs.declared.hop.Hop.{Hop}
use Rattle.diff_tables.specs.Tables.{kept_of}
use Rattle.diff_tables.specs.Steps.{numbers_along}
use Rattle.diff_bounds.proofs.bounds.Bounds.append_why_not.Goals as goal

-- the literal's number and those of the chain that leads back name a negative cycle
pub returns-clause-ok : goal.returns-clause-ok
returns-clause-ok g c =
    let rows = c.args.self.now in
    let lit = c.args.lit in
    let names : length rows ≡ g.row.N =
    subst (λ (rows : List (List (Option Hop))). length rows ≡ g.row.N) c.self.view_is c.self.invariant.len in
    let picks : c.append_cycle.new.picks.items
    ≡ c.args.picks.now.items ++ c.args.number ∷ numbers_along (λ x. kept_of rows x lit.x) (length rows) lit.y lit.x =
    search rules in
    let picks' =
    subst (λ (n : ℕ). c.append_cycle.new.picks.items
    ≡ c.args.picks.now.items ++ c.args.number ∷ numbers_along (λ x. kept_of rows x lit.x) n lit.y lit.x)
    names picks in (
      c.args.number ∷ numbers_along (λ x. kept_of rows x lit.x) g.row.N lit.y lit.x,
      picks',
      λ ps stands.
          c.tables_tell_what_is_possible.ensures.cycle g.row.N (kept_of rows) ps c.args.number lit stands
          c.requires.named c.requires.not_allowed,
    )
