-- Where the test fails, the functions are of different modes or for different kinds.
use Rattle.std.proofs.Common.{inl, refl, sym, ◌∙◌}
use Rattle.std.proofs.lemmas.Bool.{false≢true}
use Rattle.ot_commands.proofs.reverse.ReversingPairCommand.reply.Goals as goal

pub returns : goal.returns
returns c = inl ((λ alike. false≢true (sym c.if-are_alike.false ∙ c.are_alike.ensures.1 alike)), refl)
