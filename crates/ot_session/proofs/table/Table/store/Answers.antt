use Rattle.ot_session.proofs.table.Table.store.Goals as goal

pub returns-clause-ok : goal.returns-clause-ok
returns-clause-ok c = rw (← c.self.view_is) c.in_ok-insert.ensures.entries
