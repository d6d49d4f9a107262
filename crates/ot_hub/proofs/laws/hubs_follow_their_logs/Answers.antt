use Rattle.ot_hub.proofs.Leading.{FollowsLog-led, KeepsLog-led}
use Rattle.ot_hub.proofs.laws.hubs_follow_their_logs.Goals as goal

pub returns-clause-log : goal.returns-clause-log
returns-clause-log c =
    KeepsLog-led c.functions_keep_forms.ensures c.tp1_holds_of_forms.ensures
    c.transform_keeps_all_but_the_position.ensures

pub returns-clause-clients : goal.returns-clause-clients
returns-clause-clients c =
    FollowsLog-led c.functions_keep_forms.ensures c.tp1_holds_of_forms.ensures
    c.transform_keeps_all_but_the_position.ensures
