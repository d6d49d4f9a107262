-- The reading of scripts of sessions, computed on small ones.
use Rattle.std.specs.Prelude.{◌≡◌, pos, [], ◌∷◌, Some, Ok, Err, codes, refl}
use Rattle.serde_json.proofs.OnLiterals.{serde_json_on_literals}
use Rattle.std.specs.Str.{chars, is_utf8}
use Rattle.ot_model.specs.Cells.{live_cell}
use Rattle.ot_model.specs.declared.op.Op.TheVariants.{Upd}
use Rattle.case_json.specs.DocText.{cells_within}
use Rattle.case_json.specs.declared.fault.CaseFault.TheVariants.{Json, Field, Limit}
use Rattle.case_json.specs.declared.fault.Name.TheVariants.{Doc, Sites, Events}
use Rattle.case_json.specs.declared.script.Event.TheVariants.{Make, Take}
use Rattle.case_json.specs.Parts.{sites_from}
use Rattle.case_json.specs.Scripts.{script_in}

one_site : sites_from (Some 1) ≡ Ok 1
one_site = refl

sixteen : sites_from (Some 16) ≡ Ok 16
sixteen = refl

seventeen : sites_from (Some 17) ≡ Err (Limit Sites)
seventeen = refl

no_site : sites_from (Some 0) ≡ Err (Field Sites)
no_site = refl

-- whole scripts, from their bytes
two_sites : script_in (codes "{\"doc\":\"y\",\"sites\":2,\"events\":[[\"make\",3,[\"upd\",1,\"a\",2]],[\"take\",0,7]]}")
    ≡ Ok (record { doc = live_cell 121 ∷ []; sites = 2; events = Make 3 (Upd (pos 1) 97 2) ∷ Take 0 7 ∷ [] })
unfolding serde_json_on_literals chars is_utf8 cells_within
two_sites = refl

no_json : script_in (codes "{\"doc\":\"\"") ≡ Err Json
unfolding serde_json_on_literals chars is_utf8
no_json = refl

no_object : script_in (codes "7") ≡ Err (Field Doc)
unfolding serde_json_on_literals chars is_utf8
no_object = refl

no_whole_number : script_in (codes "{\"doc\":\"\",\"sites\":1.0,\"events\":[]}") ≡ Err (Field Sites)
unfolding serde_json_on_literals chars is_utf8 cells_within
no_whole_number = refl

sites_before_events : script_in (codes "{\"doc\":\"\",\"sites\":17,\"events\":[7]}") ≡ Err (Limit Sites)
unfolding serde_json_on_literals chars is_utf8 cells_within
sites_before_events = refl

no_operation : script_in (codes "{\"doc\":\"\",\"sites\":1,\"events\":[[\"make\",1,[\"ins\",0,\"ab\",1]]]}")
    ≡ Err (Field Events)
unfolding serde_json_on_literals chars is_utf8 cells_within
no_operation = refl

no_event : script_in (codes "{\"doc\":\"\",\"sites\":1,\"events\":[[\"take\",1]]}") ≡ Err (Field Events)
unfolding serde_json_on_literals chars is_utf8 cells_within
no_event = refl
