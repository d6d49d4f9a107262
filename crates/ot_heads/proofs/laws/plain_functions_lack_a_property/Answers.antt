use Rattle.fn_rules.specs.Transformation.{transform_of}
use Rattle.ot_heads.proofs.laws.plain_functions_lack_a_property.Goals as goal

pub returns : goal.returns
returns c =
    λ f is both.
    let are = c.properties_are_those_of_transformations.ensures in
    c.plain_text_has_no_transformation.ensures f.head (transform_of f) is (are.keeps f)
    ((are.tp1 f).0 both.0, (are.tp2 f).0 both.1)
