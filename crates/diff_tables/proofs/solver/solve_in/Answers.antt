use Rattle.std.proofs.Common.{◌≡◌, ◌≤◌, ℕ, ℤ, List, [], Ok, refl, sym, subst, length}
use Rattle.std.proofs.lemmas.Bool.{false≢true}
use Rattle.diff_graph.specs.Cycles.{pick_verdict}
use Rattle.diff_tables.specs.Tables.{kept_of}
use Rattle.diff_tables.specs.Solutions.{valuation_of, AreSolution}
use Rattle.diff_graph.proofs.Walks.{no_values_on_picks}
use Rattle.diff_tables.proofs.AddingSteps.{IsSquare-new, StandsFor-new_rows, AreSolution-from_stands, cycle-from_stands}
use Rattle.diff_tables.proofs.solver.solve_in.Goals as goal

pub add_all-requires-clause-square : goal.add_all-requires-clause-square
add_all-requires-clause-square c = IsSquare-new (length c.args.rows.now) c.args.rows.now c.requires.new

pub add_all-requires-clause-stands : goal.add_all-requires-clause-stands
add_all-requires-clause-stands c = ([], StandsFor-new_rows (length c.args.rows.now) c.args.rows.now c.requires.new, tt)

pub returns-in_ok-values_of-in-None-clause-solved : goal.returns-in_ok-values_of-in-None-clause-solved
returns-in_ok-values_of-in-None-clause-solved c =
    subst (λ (values : List ℤ). AreSolution (length c.args.rows.now) c.args.lits.now values) (sym c.from_vec.ensures)
    (AreSolution-from_stands (length c.args.rows.now) (length c.add_all.new.rows)
    (kept_of c.add_all.new.rows) c.args.lits.now c.in_ok-values_of-in-None.field-0.items
    (c.in-None.ensures.stands [] (StandsFor-new_rows (length c.args.rows.now) c.args.rows.now c.requires.new))
    c.add_all.auto.rows c.requires.names c.in_ok-values_of-in-None.ensures.len c.in_ok-values_of-in-None.ensures.value)

pub returns-in_ok-values_of-in-None-clause-cycle : goal.returns-in_ok-values_of-in-None-clause-cycle
returns-in_ok-values_of-in-None-clause-cycle c =
    let solution = returns-in_ok-values_of-in-None-clause-solved c in
    (λ no. absurd (false≢true no), λ not. absurd (not (valuation_of c.from_vec.result, solution.1, solution.2)))

pub returns-in_ok-cycle_at-in-Some-clause-solved : goal.returns-in_ok-cycle_at-in-Some-clause-solved
returns-in_ok-cycle_at-in-Some-clause-solved c =
    subst (λ (picks : List ℕ). (pick_verdict c.args.lits.now picks ≡ Ok tt) × (length picks ≤ length c.args.rows.now))
    (sym c.from_vec-in-Some.ensures)
    (cycle-from_stands (length c.args.rows.now) (length c.add_all.new.rows)
    (kept_of c.add_all.new.rows) c.args.lits.now c.in-Some.place c.in_ok-cycle_at-in-Some.field-0.items
    (c.in-Some.ensures.stands [] (StandsFor-new_rows (length c.args.rows.now) c.args.rows.now c.requires.new))
    c.add_all.auto.rows c.requires.named c.in-Some.ensures.refused.0 c.in-Some.ensures.refused.1
    c.in_ok-cycle_at-in-Some.ensures)

pub returns-in_ok-cycle_at-in-Some-clause-cycle : goal.returns-in_ok-cycle_at-in-Some-clause-cycle
returns-in_ok-cycle_at-in-Some-clause-cycle c = (
  λ yes possible. no_values_on_picks possible.0 c.args.lits.now c.from_vec-in-Some.result
      (returns-in_ok-cycle_at-in-Some-clause-solved c).0 possible.2,
  λ not. refl,
)
