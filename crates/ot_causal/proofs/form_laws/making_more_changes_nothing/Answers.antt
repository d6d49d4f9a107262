use Rattle.ot_causal.proofs.Frames.{IsNext-extended, IsClosed-extended, IsClosed-among_made, newest_open-extended}
use Rattle.ot_causal.proofs.Frames.{form-extended, state-extended, sought-extended, counted-extended}
use Rattle.ot_causal.proofs.form_laws.making_more_changes_nothing.Goals as goal

pub returns-clause-next : goal.returns-clause-next
returns-clause-next c = λ old new l o extends. IsNext-extended old new extends l o

pub returns-clause-closed : goal.returns-clause-closed
returns-clause-closed c = λ old new l extends. IsClosed-extended old new extends l

pub returns-clause-closed_before : goal.returns-clause-closed_before
returns-clause-closed_before c = λ old new l extends. IsClosed-among_made old new extends l

pub returns-clause-newest : goal.returns-clause-newest
returns-clause-newest c = λ old new o l extends. newest_open-extended old new extends o l

pub returns-clause-forms : goal.returns-clause-forms
returns-clause-forms c = λ f old new o l extends. form-extended old new extends f o l

pub returns-clause-states : goal.returns-clause-states
returns-clause-states c = λ f old new first l extends. state-extended old new extends f first l

pub returns-clause-sought : goal.returns-clause-sought
returns-clause-sought c = λ old new o l extends. sought-extended old new extends o l

pub returns-clause-counted : goal.returns-clause-counted
returns-clause-counted c = λ old new l extends. counted-extended old new extends l
