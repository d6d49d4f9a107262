use Rattle.std.proofs.Common.{◌≡◌, ℤ, ◌++◌, ◌∙◌, ap, sym, subst, length, drop, List}
use Rattle.std.proofs.lemmas.Bool.{true≢false}
use Rattle.diff_tables.specs.Solutions.{valuation_of, AreLeast}
use Rattle.diff_tables.proofs.FloorsBeyond.{AreLeast-with_floors}
use Rattle.diff_tables.proofs.floors.least.Goals as goal

pub split_at-requires : goal.split_at-requires
split_at-requires c = c.name_count.ensures.fewest (length c.args.floors.now) c.requires.names c.requires.named

pub returns-clause-least : goal.returns-clause-least
returns-clause-least c =
    let first : AreLeast c.args.lits.now c.split_at.result.0.now c.in-Some.values.items =
    rw c.in-Some.is at c.in_ok-values.ensures.least in
    let whole : c.in-Some.values.items ++ drop c.name_count.result c.args.floors.now
    ≡ c.extend_from_slice.new.self.items =
    ap (λ xs. c.in-Some.values.items ++ xs) (sym c.split_at.ensures.back)
    ∙ sym c.in_ok-extend_from_slice.ensures.items in
    subst (λ (xs : List ℤ). AreLeast c.args.lits.now c.args.floors.now xs) whole
    (AreLeast-with_floors c.args.lits.now c.args.floors.now c.in-Some.values.items c.name_count.result
    c.name_count.ensures.some
    (c.name_count.ensures.fewest (length c.args.floors.now) c.requires.names c.requires.named)
    c.name_count.ensures.named
    (subst (λ (fs : List ℤ). AreLeast c.args.lits.now fs c.in-Some.values.items) c.split_at.ensures.front first))

pub returns-clause-none : goal.returns-clause-none
returns-clause-none c =
    let least = returns-clause-least c in (
      λ no. absurd (true≢false no),
      λ not. absurd (not (valuation_of c.extend_from_slice.new.self.items, least.zero_first, least.met, least.above)),
    )
