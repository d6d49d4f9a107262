use Rattle.ot_top.proofs.Barred.{no_evidence}
use Rattle.ot_top.proofs.Confirmed.{confirmed_level}
use Rattle.ot_top.proofs.Proving.{evidence_level}
use Rattle.ot_top.proofs.Showing.{has_level}
use Rattle.ot_top.proofs.laws.plain_functions_have_no_evidence.Goals as goal

pub returns : goal.returns
returns c =
    let laws = c.certificates_show_the_properties.ensures in
    let confirms = c.proofs_show_the_properties.ensures in
    no_evidence c.plain_functions_lack_a_property.ensures
    (evidence_level (has_level laws.tp1 laws.tp2 laws.one_outcome)
    (confirmed_level confirms.tp1 confirms.tp2 confirms.one_outcome))
