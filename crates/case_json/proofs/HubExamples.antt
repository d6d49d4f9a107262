-- The reading of scripts of hubs, computed on small ones.
use Rattle.std.specs.Prelude.{◌≡◌, pos, [], ◌∷◌, Ok, Err, codes, refl}
use Rattle.serde_json.proofs.OnLiterals.{serde_json_on_literals}
use Rattle.std.specs.Str.{chars, is_utf8}
use Rattle.ot_model.specs.Cells.{live_cell}
use Rattle.ot_model.specs.declared.op.Op.TheVariants.{Ins}
use Rattle.case_json.specs.DocText.{cells_within}
use Rattle.case_json.specs.declared.fault.CaseFault.TheVariants.{Field, Limit}
use Rattle.case_json.specs.declared.fault.Name.TheVariants.{Sites, Events}
use Rattle.case_json.specs.declared.hub.HubEvent.TheVariants.{Edit, Up, Down}
use Rattle.case_json.specs.Hubs.{hub_script_in}

-- a whole script, from its bytes
two_clients : hub_script_in
    (codes "{\"doc\":\"y\",\"sites\":2,\"events\":[[\"edit\",1,[\"ins\",1,\"a\",1]],[\"up\",3],[\"down\",0]]}")
    ≡ Ok (record { doc = live_cell 121 ∷ []; clients = 2; events = Edit 1 (Ins (pos 1) 97 1) ∷ Up 3 ∷ Down 0 ∷ [] })
unfolding serde_json_on_literals chars is_utf8 cells_within
two_clients = refl

clients_before_events : hub_script_in (codes "{\"doc\":\"\",\"sites\":17,\"events\":[7]}") ≡ Err (Limit Sites)
unfolding serde_json_on_literals chars is_utf8 cells_within
clients_before_events = refl

-- what has three elements is an edit alone
no_operation_goes_up : hub_script_in (codes "{\"doc\":\"\",\"sites\":1,\"events\":[[\"up\",1,[\"del\",0,1]]]}")
    ≡ Err (Field Events)
unfolding serde_json_on_literals chars is_utf8 cells_within
no_operation_goes_up = refl

-- and what has two is none
no_edit_without_operation :
    hub_script_in (codes "{\"doc\":\"\",\"sites\":1,\"events\":[[\"edit\",1]]}") ≡ Err (Field Events)
unfolding serde_json_on_literals chars is_utf8 cells_within
no_edit_without_operation = refl
