use Rattle.std.proofs.Common.{◌≡◌, Ok, refl}
use Rattle.fn_rules.specs.Rules.{function_of}
use Rattle.case_json.specs.Cases.{case_in, tested, trial_in}
use Rattle.case_json.specs.Tests.{case_fault_of}
use Rattle.case_json.proofs.Readings.{error_passed_on, case_in-few}
use Rattle.case_json.proofs.case.trial_read.Goals as goal

pub returns-in_err-trial-clause-reading : goal.returns-in_err-trial-clause-reading
unfolding trial_in
returns-in_err-trial-clause-reading c =
    error_passed_on c.from_residual.result c.in_err-trial.field-0.0 (case_in c.args.bytes.now)
    (λ trial. tested (case_fault_of (function_of c.args.rules.now) trial) trial)
    c.from_residual.ensures.1 c.in_err-trial.ensures

pub fault_of-requires-clause-ops : goal.fault_of-requires-clause-ops
fault_of-requires-clause-ops c =
    (case_in-few c.args.bytes.now c.in_ok-trial.trial c.in_ok-trial.ensures).1

pub fault_of-requires-clause-orders : goal.fault_of-requires-clause-orders
fault_of-requires-clause-orders c =
    (case_in-few c.args.bytes.now c.in_ok-trial.trial c.in_ok-trial.ensures).2

pub returns-in-Some-clause-reading : goal.returns-in-Some-clause-reading
unfolding trial_in
returns-in-Some-clause-reading c =
    rw (c.in_ok-trial.ensures, ← c.in-Some.ensures) refl

pub returns-in-None : goal.returns-in-None
unfolding trial_in
returns-in-None c =
    let is : trial_in (function_of c.args.rules.now) c.args.bytes.now ≡ Ok c.in_ok-trial.trial =
    rw (c.in_ok-trial.ensures, ← c.in-None.ensures) refl in
    record {
      reading = is;
      ready = c.read_trials_are_ready.ensures (function_of c.args.rules.now) c.args.bytes.now c.in_ok-trial.trial is;
    }
