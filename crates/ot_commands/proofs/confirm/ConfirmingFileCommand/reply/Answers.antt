-- What was read of the proof is judged.
use Rattle.std.proofs.lemmas.Result.{IfOk-weaker}
use Rattle.fn_rules.specs.Rules.{function_of}
use Rattle.ot_commands.specs.Confirm.{IsReplyBy}
use Rattle.ot_commands.proofs.Confirming.{reply_given, reply_told, when_ok}
use Rattle.ot_commands.proofs.confirm.ConfirmingFileCommand.reply.Goals as goal

-- the reply tells of the file what was read of it and how that was judged
pub returns-clause-ok : goal.returns-clause-ok
returns-clause-ok g c =
    let read = c.read_all-read in
    let judged = c.judge_proof-judgement in
    let f = function_of c.args.rules.now in
    IfOk-weaker c.reply_by.result (IsReplyBy read.result judged.result) _
    (reply_told f c.limit.result c.limit.ensures read.new.into.items c.deref.result.now c.deref.ensures.value
    read.result judged.result
    (c.refusals_stand.ensures f) judged.ensures.judged read.ensures.within read.ensures.full
    (g.H.Shelf.holds c.args.shelf.now c.args.name.now)
    (when_ok read.result read.ensures.ok) read.ensures.front read.ensures.too_long) c.reply_by.ensures.ok

-- the reply is that of the bytes that the shelf's calls gave
pub returns-clause-given : goal.returns-clause-given
returns-clause-given g c =
    let read = c.read_all-read in
    let judged = c.judge_proof-judgement in
    let f = function_of c.args.rules.now in
    IfOk-weaker c.reply_by.result (IsReplyBy read.result judged.result) _
    (reply_given f c.limit.result c.limit.ensures read.new.into.items c.deref.result.now c.deref.ensures.value
    read.result judged.result
    (c.refusals_stand.ensures f) judged.ensures.judged read.ensures.within read.ensures.full
    (g.H.Shelf.reads read.new.shelf).bytes
    (when_ok read.result read.ensures.given) read.ensures.given_front read.ensures.given_more) c.reply_by.ensures.ok
