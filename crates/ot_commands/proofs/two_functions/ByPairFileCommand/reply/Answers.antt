-- What the second function gets is the reply to its file.
use Rattle.std.proofs.lemmas.Result.{IfErr-at_err, IfOk-at_ok}
use Rattle.fn_rules.specs.Rules.{function_of}
use Rattle.ot_replies.specs.declared.reply.Subject.TheVariants.{Second}
use Rattle.ot_commands.proofs.Called.{function_replies, function_told, refused_told}
use Rattle.ot_commands.proofs.two_functions.ByPairFileCommand.reply.Goals as goal

pub returns-in-Err-clause-given : goal.returns-in-Err-clause-given
returns-in-Err-clause-given g c =
    refused_told Second (g.H.Shelf.reads c.load_function.new.shelf).bytes c.in-Err.reply
    (λ e. g.C.PairCommand.gets (function_of c.args.rules.now) e c.in-Err.reply)
    (IfErr-at_err _ c.in-Err.is c.in_ok-others.ensures.given_replied)

pub returns-in-Ok-clause-ok : goal.returns-in-Ok-clause-ok
returns-in-Ok-clause-ok g c =
    function_replies Second (function_of c.in-Ok.others) (g.C.PairCommand.gets (function_of c.args.rules.now))
    c.reply.result c.reply_or_stop.result c.reply.ensures c.reply_or_stop.ensures.ok
    (g.H.Shelf.holds c.args.shelf.now c.args.name.now) (IfOk-at_ok _ c.in-Ok.is c.in_ok-others.ensures.ok)

pub returns-in-Ok-clause-given : goal.returns-in-Ok-clause-given
returns-in-Ok-clause-given g c =
    function_told Second (function_of c.in-Ok.others) (g.C.PairCommand.gets (function_of c.args.rules.now))
    c.reply.result c.reply_or_stop.result c.reply.ensures c.reply_or_stop.ensures.ok
    (g.H.Shelf.reads c.load_function.new.shelf).bytes (IfOk-at_ok _ c.in-Ok.is c.in_ok-others.ensures.given)
