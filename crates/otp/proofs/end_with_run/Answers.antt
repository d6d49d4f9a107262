use Rattle.std.proofs.Common.{map}
use Rattle.std.specs.Prelude.{string_bytes}
use Rattle.std.specs.Process.{exit_status}
use Rattle.ot_outside.specs.Reads.{reads_of}
use Rattle.otp.proofs.Ending.{ended}
use Rattle.otp.proofs.end_with_run.Goals as goal

pub returns : goal.returns
returns g c =
    ended (map string_bytes c.args.words.now) (reads_of c.new-shelf.result.noted) (reads_of c.run.new.shelf.noted)
    c.new-out.result.noted.bytes
    c.run.new.out.noted.bytes c.new-shelf.result.faults c.run.new.shelf.faults c.new-out.result.faults
    c.run.new.out.faults c.run.result
    (exit_status c.from.result) c.new-shelf.ensures.reads c.new-out.ensures.took c.new-shelf.ensures.faults
    c.new-out.ensures.faults c.from.ensures c.run.ensures.answered c.run.ensures.shows c.run.ensures.faults
