use Rattle.std.proofs.Common.{sym, subst}
use Rattle.fn_rules.specs.Formulas.{formula_of}
use Rattle.ot_terms.specs.Belonging.{HasPlaces}
use Rattle.ot_terms.proofs.GuardPlaces.{guard_form_has_places}
use Rattle.ot_terms.proofs.placing.place_form.Goals as goal

-- src/placing.rt:86:1
pub returns-clause-places : goal.returns-clause-places
returns-clause-places c = λ count some ha hb na nb.
    subst (HasPlaces count) (sym c.in_ok-place_part.ensures)
    (guard_form_has_places (formula_of c.args.guard.now) count c.args.a c.args.b c.requires.atoms_near some ha hb na nb)
