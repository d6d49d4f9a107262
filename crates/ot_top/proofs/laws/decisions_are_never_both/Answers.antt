use Rattle.ot_top.proofs.Confirmed.{confirmed_level}
use Rattle.ot_top.proofs.OneDecision.{never_both}
use Rattle.ot_top.proofs.Proving.{counter_found, evidence_level}
use Rattle.ot_top.proofs.Showing.{has_level}
use Rattle.ot_top.proofs.laws.decisions_are_never_both.Goals as goal

pub returns : goal.returns
returns c =
    let laws = c.certificates_show_the_properties.ensures in
    let confirms = c.proofs_show_the_properties.ensures in
    let grammar = c.what_is_read_is_in_the_grammar.ensures in
    let counters = c.failing_ends_have_counterexamples.ensures in
    never_both (λ bytes f read. grammar.valid bytes f (grammar.text bytes f read))
    (evidence_level (has_level laws.tp1 laws.tp2 laws.one_outcome)
    (confirmed_level confirms.tp1 confirms.tp2 confirms.one_outcome))
    (counter_found grammar.text grammar.valid counters.broken counters.by_the_cause c.failing_triples_show_tp1.ensures)
