-- What words ask for is within its bounds.
use Rattle.std.proofs.Common.{Option, map, sym, ap, ◌∙◌}
use Rattle.std.specs.Prelude.{string_bytes, option_map}
use Rattle.ot_words.specs.declared.command.Command.{Command}
use Rattle.ot_words.specs.Commands.{asked_of}
use Rattle.ot_words.proofs.Bounds.{within_bounds}
use Rattle.ot_top.proofs.answer.answer.Goals as goal

pub reply_to-requires-clause-within : goal.reply_to-requires-clause-within
reply_to-requires-clause-within g c =
    within_bounds (map string_bytes c.args.words.now) (asked_of c.in-Some.command)
    (sym c.in_ok-command.ensures ∙ ap (λ (o : Option Command). option_map asked_of o) c.in-Some.is)
