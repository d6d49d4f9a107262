use Rattle.cert_check.proofs.Completing.{Completes-step, Completes-refused}
use Rattle.cert_check.proofs.laws.tokens_are_taken_one_by_one.Goals as goal

pub returns-clause-taken : goal.returns-clause-taken
returns-clause-taken g c t tokens branches next few taken =
    Completes-step c.trees_are_judged_token_by_token.ensures t branches next tokens few taken

pub returns-clause-refused : goal.returns-clause-refused
returns-clause-refused g c t tokens branches why refused =
    Completes-refused c.trees_are_judged_token_by_token.ensures t branches why tokens refused
