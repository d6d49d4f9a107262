-- What the bytes of the file get is the reply to the file.
use Rattle.std.proofs.Common.{inl}
use Rattle.std.proofs.lemmas.Result.{IfErr-at_err, IfOk-at_ok}
use Rattle.fn_rules.specs.Rules.{function_of}
use Rattle.ot_replies.specs.declared.reply.FileKind.TheVariants as files
use Rattle.ot_commands.proofs.Called.{file_replies, file_told}
use Rattle.ot_commands.proofs.Given.{long_told}
use Rattle.ot_commands.proofs.case_file.ByCaseFileCommand.reply.Goals as goal

pub returns-in-Err-clause-given : goal.returns-in-Err-clause-given
returns-in-Err-clause-given g c =
    λ told agrees. inl (long_told told _ agrees files.Case c.in-Err.reply
    (IfErr-at_err _ c.in-Err.is c.in_ok-bytes.ensures.given_replied))

pub returns-in-Ok-clause-ok : goal.returns-in-Ok-clause-ok
returns-in-Ok-clause-ok g c =
    file_replies files.Case c.in-Ok.bytes.items c.deref.result.now c.deref.ensures.value
    (g.C.CaseCommand.gets (function_of c.args.rules.now))
    c.reply.result c.reply_or_stop.result c.reply.ensures.reply c.reply_or_stop.ensures.ok
    (g.H.Shelf.holds c.args.shelf.now c.args.name.now) (IfOk-at_ok _ c.in-Ok.is c.in_ok-bytes.ensures.ok)

pub returns-in-Ok-clause-given : goal.returns-in-Ok-clause-given
returns-in-Ok-clause-given g c =
    file_told files.Case c.in-Ok.bytes.items c.deref.result.now c.deref.ensures.value
    (g.C.CaseCommand.gets (function_of c.args.rules.now))
    c.reply.result c.reply_or_stop.result c.reply.ensures.reply c.reply_or_stop.ensures.ok
    (g.H.Shelf.reads c.read_file.new.shelf).bytes (IfOk-at_ok _ c.in-Ok.is c.in_ok-bytes.ensures.given)
