use Rattle.std.proofs.lemmas.Result.{on_ok_weaker}
use Rattle.proof_search.proofs.open.ask_at.Goals as goal

pub returns : goal.returns
returns g c =
    on_ok_weaker c.ask.result (λ asked. (c.begin_level.new.search, c.in_ok-begin_level.ensures, asked)) c.ask.ensures
