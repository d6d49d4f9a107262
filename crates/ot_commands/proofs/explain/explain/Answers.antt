-- What the bytes of the file get is the reply to the command.
use Rattle.std.proofs.Common.{inl}
use Rattle.std.proofs.lemmas.Result.{IfErr-at_err, IfOk-at_ok, IfOk-weaker}
use Rattle.ot_replies.specs.declared.reply.FileKind.TheVariants as files
use Rattle.ot_commands.specs.Explain.{IsReplyToText}
use Rattle.ot_commands.proofs.Called.{file_replies, file_told, text_given}
use Rattle.ot_commands.proofs.Given.{long_told}
use Rattle.ot_commands.proofs.explain.explain.Goals as goal

pub returns-in-Err-clause-ok : goal.returns-in-Err-clause-ok
returns-in-Err-clause-ok g c = inl (IfErr-at_err _ c.in-Err.is c.in_ok-bytes.ensures.replied)

pub returns-in-Err-clause-given : goal.returns-in-Err-clause-given
returns-in-Err-clause-given g c =
    let new = g.H.Shelf.reads c.read_file.new.shelf in
    text_given (g.H.Shelf.reads c.args.shelf.now) new c.args.function.now (IsReplyToText c.args.level)
    c.read_file.ensures.read c.in-Err.reply
    (λ told agrees. inl (long_told told new.bytes agrees files.Function c.in-Err.reply
    (IfErr-at_err _ c.in-Err.is c.in_ok-bytes.ensures.given_replied)))

pub returns-in-Ok-clause-ok : goal.returns-in-Ok-clause-ok
returns-in-Ok-clause-ok g c =
    file_replies files.Function c.in-Ok.bytes.items c.deref.result.now c.deref.ensures.value (IsReplyToText
    c.args.level) c.reply_to_text.result c.reply_or_stop.result c.reply_to_text.ensures c.reply_or_stop.ensures.ok
    (g.H.Shelf.holds c.args.shelf.now c.args.function.now) (IfOk-at_ok _ c.in-Ok.is c.in_ok-bytes.ensures.ok)

pub returns-in-Ok-clause-given : goal.returns-in-Ok-clause-given
returns-in-Ok-clause-given g c =
    let old = g.H.Shelf.reads c.args.shelf.now in
    let new = g.H.Shelf.reads c.read_file.new.shelf in
    let Gets = IsReplyToText c.args.level in
    IfOk-weaker c.reply_or_stop.result _ _ (λ r. text_given old new c.args.function.now Gets c.read_file.ensures.read r)
    (file_told files.Function c.in-Ok.bytes.items c.deref.result.now c.deref.ensures.value Gets c.reply_to_text.result
    c.reply_or_stop.result c.reply_to_text.ensures c.reply_or_stop.ensures.ok new.bytes
    (IfOk-at_ok _ c.in-Ok.is c.in_ok-bytes.ensures.given))
