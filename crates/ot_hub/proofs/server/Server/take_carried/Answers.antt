use Rattle.std.proofs.Common.{◌≡◌, List, Result, length, refl, ap, arith}
use Rattle.std.specs.Prelude.{IsErrAnd}
use Rattle.std.proofs.lemmas.List.{length-map}
use Rattle.ot_model.specs.declared.cell.Cell.{Cell}
use Rattle.fn_rules.specs.Rules.{function_of}
use Rattle.ot_hub.specs.declared.answer.Move.{Move}
use Rattle.ot_hub.specs.declared.answer.Move.TheVariants.{NoMemory}
use Rattle.ot_hub.specs.declared.server.Server.{Server}
use Rattle.ot_hub.specs.Steps.{To, server_after, HasStepped}
use Rattle.ot_hub.proofs.Stepping.{HasStepped-lacked}
use Rattle.ot_hub.proofs.server.Server.take_carried.Goals.{After-len-place}
use Rattle.ot_hub.proofs.server.Server.take_carried.Goals as goal

-- memory was wanting, and the server is as it was
lacked :
    (c : After-len-place) (new : Server) (result : Result (Unit {0}) Move)
    → IsErrAnd result (λ e. e ≡ NoMemory) → new ≡ c.args.self.now
    → HasStepped c.args.self.now new
    (To (server_after (function_of c.args.rules.now).head.mode c.args.client
    (record { op = c.args.form; list = c.args.own }) c.args.self.now)) result
lacked c new result lacks same =
    HasStepped-lacked c.args.self.now new
    (To (server_after (function_of c.args.rules.now).head.mode c.args.client
    (record { op = c.args.form; list = c.args.own }) c.args.self.now)) result lacks tt same

pub overflow_cast-place : goal.overflow_cast-place
overflow_cast-place c = omega (arith, c.len-place.ensures, c.requires.few)

pub returns-in_err-lists : goal.returns-in_err-lists
returns-in_err-lists c =
    lacked (goal.at.returns-in_err-lists c).After-len-place c.args.self.now c.from_residual.result
    c.from_residual.ensures.1 refl

pub set-requires : goal.set-requires
set-requires c =
    omega (
      arith,
      simp length-map at (ap length c.in_ok-lists.ensures),
      ap length c.as_slice.ensures,
      c.requires.low,
      c.requires.high,
    )

pub returns-in_err-log : goal.returns-in_err-log
returns-in_err-log c =
    lacked (goal.at.returns-in_err-log c).After-len-place c.args.self.now c.from_residual-in_err-log.result
    c.from_residual-in_err-log.ensures.1 refl

pub returns-in_err-execute : goal.returns-in_err-execute
returns-in_err-execute c =
    let server : Server = c.args.self.now in
    lacked (goal.at.returns-in_err-execute c).After-len-place (record server { doc = c.execute.new.doc })
    c.from_residual-in_err-execute.result
    c.from_residual-in_err-execute.ensures.1 (ap (λ (d : List Cell). record server { doc = d })
    c.in_err-execute.ensures.err)

-- what the message became was executed, put at the end of the log, and told to the other clients
pub returns : goal.returns
returns c = rw (
  c.in_ok-log.ensures,
  c.in_ok-execute.ensures.ok,
  c.set.ensures,
  c.in_ok-lists.ensures,
  c.as_slice.ensures,
  c.len-place.ensures,
) refl
