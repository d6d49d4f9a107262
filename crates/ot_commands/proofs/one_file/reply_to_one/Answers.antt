-- The function's file is refused, or its function gets the reply.
use Rattle.std.proofs.lemmas.Result.{IfErr-at_err, IfOk-at_ok, IfOk-weaker}
use Rattle.fn_rules.specs.Rules.{function_of}
use Rattle.ot_replies.specs.declared.reply.Subject.TheVariants.{First}
use Rattle.ot_commands.proofs.Called.{function_replies, function_told, one_given, refused_told}
use Rattle.ot_commands.proofs.one_file.reply_to_one.Goals as goal

pub returns-in-Err-clause-given : goal.returns-in-Err-clause-given
returns-in-Err-clause-given g c =
    let new = g.H.Shelf.reads c.load_function.new.shelf in
    let Gets = g.C.FunctionCommand.gets c.args.command.now in
    one_given (g.H.Shelf.reads c.args.shelf.now) new c.args.function.now Gets
    c.load_function.ensures.read c.in-Err.reply
    (refused_told First new.bytes c.in-Err.reply (λ f. Gets f c.in-Err.reply)
    (IfErr-at_err _ c.in-Err.is c.in_ok-rules.ensures.given_replied))

pub returns-in-Ok-clause-ok : goal.returns-in-Ok-clause-ok
returns-in-Ok-clause-ok g c =
    function_replies First (function_of c.in-Ok.rules) (g.C.FunctionCommand.gets c.args.command.now)
    c.reply.result c.reply_or_stop.result
    c.reply.ensures c.reply_or_stop.ensures.ok (g.H.Shelf.holds c.args.shelf.now c.args.function.now)
    (IfOk-at_ok _ c.in-Ok.is c.in_ok-rules.ensures.ok)

pub returns-in-Ok-clause-given : goal.returns-in-Ok-clause-given
returns-in-Ok-clause-given g c =
    let old = g.H.Shelf.reads c.args.shelf.now in
    let new = g.H.Shelf.reads c.load_function.new.shelf in
    let Gets = g.C.FunctionCommand.gets c.args.command.now in
    IfOk-weaker c.reply_or_stop.result _ _ (λ r. one_given old new c.args.function.now Gets c.load_function.ensures.read
    r) (function_told First (function_of c.in-Ok.rules) Gets c.reply.result c.reply_or_stop.result c.reply.ensures
    c.reply_or_stop.ensures.ok new.bytes (IfOk-at_ok _ c.in-Ok.is c.in_ok-rules.ensures.given))
