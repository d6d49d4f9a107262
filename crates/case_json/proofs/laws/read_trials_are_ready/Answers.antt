use Rattle.case_json.proofs.FirstFault.{TestsDecide}
use Rattle.case_json.proofs.Readings.{read_trial_is_ready}
use Rattle.case_json.proofs.laws.read_trials_are_ready.Goals as goal

pub returns : goal.returns
returns c =
    let decide : TestsDecide = record {
      allowed = c.tests_decide_their_facts.ensures.allowed;
      integrable = c.tests_decide_their_facts.ensures.integrable;
      once = c.tests_decide_their_facts.ensures.once;
    } in
    read_trial_is_ready decide
