use Rattle.ot_questions.proofs.Laws.{short_by_atoms, few_questions}
use Rattle.ot_questions.proofs.meaning.atoms_bound_questions.Goals as goal

pub returns-clause-paths : goal.returns-clause-paths
returns-clause-paths c = short_by_atoms

pub returns-clause-lists : goal.returns-clause-lists
returns-clause-lists c f ob w q valid list = few_questions f ob w q c.paths_bound_question_lists.ensures valid list
