use Rattle.std.proofs.Common.{ℕ, [], ◌++◌, ◌∙◌, sym, refl, subst, length}
use Rattle.std.proofs.lemmas.Bool.{true≢false}
use Rattle.diff_graph.specs.Literals.{Meets}
use Rattle.diff_graph.specs.Limits.{AreNamed}
use Rattle.diff_tables.specs.Tables.{kept_of, numbered_from, StandsFor}
use Rattle.diff_tables.specs.Solutions.{valuation_of}
use Rattle.diff_tables.proofs.AddingSteps.{StandsFor-new_rows}
use Rattle.diff_tables.proofs.FloorSteps.{no_values_at_stop, All-first, All-second, StandsFor-first}
use Rattle.diff_tables.proofs.FloorSteps.{AreSmall-numbered_from, AreMet-numbered_from, AreLeastMeeting-from_stands}
use Rattle.diff_tables.proofs.floors.least_in.Goals as goal

pub add_all-requires-clause-stands : goal.add_all-requires-clause-stands
add_all-requires-clause-stands c = ([], StandsFor-new_rows (length c.args.rows.now) c.args.rows.now c.requires.new, tt)

pub returns-in-Some-clause-none : goal.returns-in-Some-clause-none
returns-in-Some-clause-none c = (
  λ none possible.
      no_values_at_stop (length c.args.rows.now) (kept_of c.add_all.new.rows) [] c.args.lits.now c.in-Some.field-0
      (c.in-Some.ensures.stands [] (StandsFor-new_rows (length c.args.rows.now) c.args.rows.now c.requires.new))
      c.requires.named c.in-Some.ensures.refused.0 c.in-Some.ensures.refused.1 possible.0 tt
      (All-first (λ m. Meets possible.0 m) c.args.lits.now c.args.bounds.now possible.2),
  λ not. refl,
)

pub add_all-requires-2-clause-stands : goal.add_all-requires-2-clause-stands
add_all-requires-2-clause-stands c = (
  numbered_from 0 c.args.lits.now,
  StandsFor-first (length c.args.rows.now)
      (length c.add_all.new.rows) c.args.rows.now c.add_all.new.rows c.args.lits.now c.requires.new c.add_all.auto.rows
      c.in_default.ensures.stands,
  AreSmall-numbered_from c.args.lits.now c.requires.small,
)

-- where a bound can't be added, no integers meet the literals and the bounds
pub returns-in-Some-add_all-clause-none : goal.returns-in-Some-add_all-clause-none
returns-in-Some-add_all-clause-none c = (
  λ none possible.
      no_values_at_stop (length c.add_all.new.rows) (kept_of c.add_all-2.new.rows)
      (numbered_from 0 c.args.lits.now) c.args.bounds.now c.in-Some-add_all.field-0
      (c.in-Some-add_all.ensures.stands (numbered_from 0 c.args.lits.now)
      (StandsFor-first (length c.args.rows.now)
      (length c.add_all.new.rows) c.args.rows.now c.add_all.new.rows c.args.lits.now c.requires.new c.add_all.auto.rows
      c.in_default.ensures.stands))
      (subst (λ (n : ℕ). AreNamed n c.args.bounds.now) (sym c.add_all.auto.rows) c.requires.bounds_named)
      c.in-Some-add_all.ensures.refused.0 c.in-Some-add_all.ensures.refused.1 possible.0
      (AreMet-numbered_from possible.0 c.args.lits.now
      (All-first (λ m. Meets possible.0 m) c.args.lits.now c.args.bounds.now possible.2))
      (All-second (λ m. Meets possible.0 m) c.args.lits.now c.args.bounds.now possible.2),
  λ not. refl,
)

-- the values of the table are the least that meet the literals and the bounds
pub returns-clause-least : goal.returns-clause-least
returns-clause-least c =
    AreLeastMeeting-from_stands (length c.args.rows.now) (length c.add_all-2.new.rows)
    (kept_of c.add_all-2.new.rows) c.args.lits.now c.args.bounds.now c.in_ok-values.values.items
    (subst (λ (n : ℕ). StandsFor n (kept_of c.add_all-2.new.rows)
    (numbered_from 0 c.args.lits.now ++ numbered_from 0 c.args.bounds.now)) c.add_all.auto.rows
    (c.in_default-add_all.ensures.stands (numbered_from 0 c.args.lits.now)
    (StandsFor-first (length c.args.rows.now)
    (length c.add_all.new.rows) c.args.rows.now c.add_all.new.rows c.args.lits.now c.requires.new c.add_all.auto.rows
    c.in_default.ensures.stands)))
    (c.add_all-2.auto.rows ∙ c.add_all.auto.rows) c.requires.names c.requires.bounded c.in_ok-values.ensures.len
    c.in_ok-values.ensures.value

pub returns-clause-none : goal.returns-clause-none
returns-clause-none c =
    let least = returns-clause-least c in (
      λ no. absurd (true≢false no),
      λ not.
          absurd (not (valuation_of c.in_ok-values.values.items, least.zero_first, least.met)),
    )
