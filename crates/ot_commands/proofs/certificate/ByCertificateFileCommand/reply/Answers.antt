-- The reply to the bytes that were given is that to those that are told.
use Rattle.std.proofs.lemmas.Result.{IfOk-weaker}
use Rattle.fn_rules.specs.Rules.{function_of}
use Rattle.ot_commands.proofs.Given.{certificate_told}
use Rattle.ot_commands.proofs.certificate.ByCertificateFileCommand.reply.Goals as goal

pub returns-clause-ok : goal.returns-clause-ok
returns-clause-ok g c = c.reply_to_certificate.ensures.ok

pub returns-clause-given : goal.returns-clause-given
returns-clause-given g c =
    IfOk-weaker c.reply_to_certificate.result _ _
    (λ r. certificate_told (g.T.Finding.judges (function_of c.args.rules.now)) g.T.Finding.accepts
    (g.H.Shelf.reads c.reply_to_certificate.new.shelf).bytes r) c.reply_to_certificate.ensures.given
