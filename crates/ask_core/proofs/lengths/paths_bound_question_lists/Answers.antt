use Rattle.ask_core.proofs.ShorterLists.{list_is_shorter}
use Rattle.ask_core.proofs.lengths.paths_bound_question_lists.Goals as goal

pub returns : goal.returns
returns g c = list_is_shorter
