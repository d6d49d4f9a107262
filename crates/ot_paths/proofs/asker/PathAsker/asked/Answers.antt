use Rattle.std.proofs.Common.{refl, ap}
use Rattle.ot_terms.specs.Forms.{form_tree}
use Rattle.ot_paths.proofs.Questions.{no_question, question_begins}
use Rattle.ot_paths.proofs.asker.PathAsker.asked.Goals as goal

pub returns-in-True : goal.returns-in-True
returns-in-True c = absurd (no_question _ _ c.in-True.is refl c.requires.question)

pub returns-in-Lt : goal.returns-in-Lt
returns-in-Lt c = absurd (no_question _ _ c.in-Lt.is refl c.requires.question)

pub returns-in-Eq : goal.returns-in-Eq
returns-in-Eq c = absurd (no_question _ _ c.in-Eq.is refl c.requires.question)

pub returns-in-And : goal.returns-in-And
returns-in-And c = absurd (no_question _ _ c.in-And.is refl c.requires.question)

pub returns-in-Or : goal.returns-in-Or
returns-in-Or c = absurd (no_question _ _ c.in-Or.is refl c.requires.question)

pub returns-in-Not : goal.returns-in-Not
returns-in-Not c = absurd (no_question _ _ c.in-Not.is refl c.requires.question)

pub returns-in-Le : goal.returns-in-Le
returns-in-Le c =
    question_begins _ _ _ _ _ _ _ _ (ap form_tree c.in-Le.is) c.literal.ensures c.requires.question c.requires.node
