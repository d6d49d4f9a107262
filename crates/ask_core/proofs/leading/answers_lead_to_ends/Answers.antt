use Rattle.ask_core.proofs.Leads.{end_of_lead, short_lead, fine_lead}
use Rattle.ask_core.proofs.leading.answers_lead_to_ends.Goals as goal

pub returns-clause-ends : goal.returns-clause-ends
returns-clause-ends g c = end_of_lead

pub returns-clause-few : goal.returns-clause-few
returns-clause-few g c = short_lead

pub returns-clause-named : goal.returns-clause-named
returns-clause-named g c = λ count why p w fine lead. (fine_lead count why p w fine.literals lead).0

pub returns-clause-small : goal.returns-clause-small
returns-clause-small g c = λ count why p w fine lead. (fine_lead count why p w fine.literals lead).1
