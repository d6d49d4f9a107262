-- The operations and the length are read off the least values.
use Rattle.std.proofs.Common.{List, ℤ, ap, lit<, sym, subst, ◌∙◌}
use Rattle.diff_tables.specs.Solutions.{valuation_of}
use Rattle.ot_questions.specs.declared.name.Who.TheVariants.{A, B}
use Rattle.ot_questions.specs.Meaning.{op_at}
use Rattle.ot_questions.specs.Names.{length_name}
use Rattle.ot_questions.specs.Places.{sym_op}
use Rattle.ot_values.specs.Values.{IsSmallAt}
use Rattle.ot_audit.proofs.finding.least_instance.Goals as goal

pub op_at-requires-2 : goal.op_at-requires-2
op_at-requires-2 c =
    subst (λ (values : List ℤ). IsSmallAt values B) (sym c.deref-3.ensures.value)
    (c.in_ok-values.ensures.small B (lit< tt))

pub returns-clause-least : goal.returns-clause-least
returns-clause-least c = record {
  ops = record {
    values = c.in_ok-values.values.items;
    least = c.in_ok-values.ensures.least;
    first = c.op_at.ensures.value
        ∙ ap (λ (vs : List ℤ). op_at (valuation_of vs) (sym_op c.args.first A)) c.deref-2.ensures.value;
    second = c.op_at-2.ensures.value
        ∙ ap (λ (vs : List ℤ). op_at (valuation_of vs) (sym_op c.args.second B)) c.deref-3.ensures.value;
  };
  length = c.cells_at.ensures ∙ ap (λ (vs : List ℤ). valuation_of vs length_name) c.deref.ensures.value;
}
