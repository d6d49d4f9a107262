-- The function's file is refused, or the other one is opened behind it.
use Rattle.std.proofs.lemmas.Result.{IfErr-at_err, IfOk-at_ok}
use Rattle.fn_rules.specs.Rules.{function_of}
use Rattle.ot_replies.specs.declared.reply.Subject.TheVariants.{First}
use Rattle.ot_commands.proofs.Called.{both_given, goes_on, refused_given, rose_on, steady_replies, then_replies}
use Rattle.ot_commands.proofs.Feeding.{unchanged_on}
use Rattle.ot_commands.proofs.Steady.{function_refused-steady}
use Rattle.ot_commands.proofs.two_files.reply_to_both.Goals as goal

pub returns-in-Err-clause-given : goal.returns-in-Err-clause-given
returns-in-Err-clause-given g c =
    refused_given g.C.FileCommand.gets g.C.FileCommand.agrees c.args.function.now c.args.other.now (g.H.Shelf.reads
    c.args.shelf.now) (g.H.Shelf.reads c.load_function.new.shelf) c.load_function.ensures.read c.in-Err.reply
    (IfErr-at_err _ c.in-Err.is c.in_ok-rules.ensures.given_replied)

pub returns-in-Err-clause-steady : goal.returns-in-Err-clause-steady
returns-in-Err-clause-steady g c =
    λ bytes f told is agree.
    function_refused-steady First (g.H.Shelf.holds c.args.shelf.now c.args.function.now) c.in-Err.reply
    (IfErr-at_err _ c.in-Err.is c.in_ok-rules.ensures.replied)

pub returns-in-Ok-clause-ok : goal.returns-in-Ok-clause-ok
returns-in-Ok-clause-ok g c =
    then_replies g.C.FileCommand.gets (function_of c.in-Ok.rules) c.reply.result
    (g.H.Shelf.holds c.args.shelf.now c.args.function.now)
    (g.H.Shelf.holds c.args.shelf.now c.args.other.now) (g.H.Shelf.holds c.load_function.new.shelf c.args.other.now)
    (c.load_function.ensures.unchanged.same_files c.args.other.now)
    (IfOk-at_ok _ c.in-Ok.is c.in_ok-rules.ensures.ok) c.reply.ensures.ok

-- of what the shelf's calls gave, both files were read
pub returns-in-Ok-clause-given : goal.returns-in-Ok-clause-given
returns-in-Ok-clause-given g c =
    both_given g.C.FileCommand.gets g.C.FileCommand.agrees c.args.function.now c.args.other.now
    (g.H.Shelf.reads c.args.shelf.now)
    (g.H.Shelf.reads c.load_function.new.shelf) (g.H.Shelf.reads c.reply.new.shelf)
    c.load_function.ensures.read c.reply.ensures.read
    (function_of c.in-Ok.rules) (IfOk-at_ok _ c.in-Ok.is c.in_ok-rules.ensures.given) c.reply.result
    c.reply.ensures.given c.reply.ensures.steady

pub returns-in-Ok-clause-steady : goal.returns-in-Ok-clause-steady
returns-in-Ok-clause-steady g c =
    steady_replies g.C.FileCommand.agrees (function_of c.in-Ok.rules) c.args.function.now (g.H.Shelf.holds
    c.args.shelf.now) (IfOk-at_ok _ c.in-Ok.is c.in_ok-rules.ensures.ok) c.reply.result c.reply.ensures.steady

pub returns-in-Ok-clause-shelf : goal.returns-in-Ok-clause-shelf
returns-in-Ok-clause-shelf g c is =
    rose_on _ _ _ c.load_function.ensures.unchanged.more_faults (c.reply.ensures.shelf is)

pub returns-in-Ok-clause-unchanged : goal.returns-in-Ok-clause-unchanged
returns-in-Ok-clause-unchanged g c = unchanged_on _ _ _ c.load_function.ensures.unchanged c.reply.ensures.unchanged

-- the second name is on offer behind a function
pub reply-requires : goal.reply-requires
reply-requires g c =
    (c.load_function.ensures.unchanged.same_offer c.args.other.now).0
    (c.requires.other (goes_on _ (function_of c.in-Ok.rules) (IfOk-at_ok _ c.in-Ok.is c.in_ok-rules.ensures.ok)))
