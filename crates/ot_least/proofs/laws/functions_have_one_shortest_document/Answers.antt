use Rattle.ot_least.proofs.OneShort.{short_once}
use Rattle.ot_least.proofs.laws.functions_have_one_shortest_document.Goals as goal

pub returns : goal.returns
returns c f budget =
    short_once c.obligations_have_one_question_list.ensures.one_below f budget
    (c.obligations_have_one_question_list.ensures.one f)
