use Rattle.std.proofs.Common.{◌≡◌, rules, option_map, sym, subst, ◌∙◌, ap, Option, ℤ, List}
use Rattle.diff_tables.specs.declared.hop.Hop.{Hop}
use Rattle.diff_tables.specs.Tables.{kept_of, literals_of}
use Rattle.diff_bounds.specs.Kept.{IsTightest}
use Rattle.diff_bounds.proofs.Kept.{IsTightest-kept}
use Rattle.diff_bounds.proofs.bounds.Bounds.tightest.Goals as goal

pub returns : goal.returns
returns g c = λ ps stands.
    let is_kept = sym (ap (λ (rows : List (List (Option Hop))). kept_of rows c.args.x c.args.y) c.self.view_is)
    ∙ sym c.kept.ensures in
    let same : c.map.result ≡ option_map (λ (h : Hop). h.k) c.kept.result = search rules in
    subst (λ (o : Option ℤ). IsTightest (literals_of ps) c.args.x c.args.y o) (sym same)
    (IsTightest-kept g.row.N
    (kept_of c.args.self.now) ps stands c.args.x c.args.y c.requires.x_below c.requires.y_below c.kept.result is_kept)
