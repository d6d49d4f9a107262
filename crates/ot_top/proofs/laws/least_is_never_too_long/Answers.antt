use Rattle.ot_words.specs.Words.{most_questions}
use Rattle.ot_top.proofs.NeverLong.{never_too_long}
use Rattle.ot_top.proofs.laws.least_is_never_too_long.Goals as goal

pub returns : goal.returns
returns c =
    let grammar = c.what_is_read_is_in_the_grammar.ensures in
    never_too_long
    (λ f bytes short read. c.first_documents_are_never_too_long.ensures f most_questions short
    (grammar.valid bytes f (grammar.text bytes f read)))
