use Rattle.std.proofs.Common.{arith, ◌∙◌, ap, sym, subst, length, get_or, List, [], None, Option}
use Rattle.std.proofs.lemmas.Int.{ints}
use Rattle.std.proofs.lemmas.List.{get_or_read}
use Rattle.diff_tables.specs.declared.hop.Hop.{Hop}
use Rattle.diff_tables.specs.Steps.{low_of, IsModest}
use Rattle.diff_tables.proofs.solver.low_at.Goals as goal

pub low_of-requires : goal.low_of-requires
low_of-requires c = λ x.
    let e = c.cells.ensures
    ∙ get_or_read c.args.rows.now c.args.x c.index-rows-x.result c.requires.below c.index-rows-x.is [] in
    subst (λ (row : List (Option Hop)). IsModest 1000000 (get_or row x None)) (sym e) (c.requires.modest x c.args.x)

pub returns-clause-low : goal.returns-clause-low
returns-clause-low c =
    let e = c.cells.ensures
    ∙ get_or_read c.args.rows.now c.args.x c.index-rows-x.result c.requires.below c.index-rows-x.is [] in
    let low = c.low_of.ensures.low
    ∙ ap (λ row. low_of (λ j. get_or row j None) (length row)) e
    ∙ ap (low_of (λ j. get_or (get_or c.args.rows.now c.args.x []) j None))
    (c.requires.square c.args.x c.requires.below) in
    omega (arith, ints)
