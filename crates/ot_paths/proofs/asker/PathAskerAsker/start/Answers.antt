use Rattle.ot_paths.proofs.GivenGoals.{given_begins}
use Rattle.ot_paths.proofs.asker.PathAskerAsker.start.Goals as goal

pub returns-in-Some-clause-begins : goal.returns-in-Some-clause-begins
returns-in-Some-clause-begins c =
    given_begins _ _ c.args.self.now.goal c.in-Some.goal c.in-Some.is c.args.self.now.given
