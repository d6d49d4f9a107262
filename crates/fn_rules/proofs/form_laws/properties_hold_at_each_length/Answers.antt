use Rattle.std.proofs.Common.{length, refl}
use Rattle.fn_rules.proofs.form_laws.properties_hold_at_each_length.Goals as goal

pub returns-clause-tp1 : goal.returns-clause-tp1
returns-clause-tp1 c = λ f. (λ has n d a b of_length. has d a b, λ each d a b. each (length d) d a b refl)

pub returns-clause-tp2 : goal.returns-clause-tp2
returns-clause-tp2 c = λ f. (λ has n d a b c of_length. has d a b c, λ each d a b c. each (length d) d a b c refl)
