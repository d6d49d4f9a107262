use Rattle.ot_settle.proofs.searching.search_by.Goals as goal

pub returns-in-Fails-clause-cause : goal.returns-in-Fails-clause-cause
returns-in-Fails-clause-cause g c = c.failed.ensures.cause c.args.budget _
