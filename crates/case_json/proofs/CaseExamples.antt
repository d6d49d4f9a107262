-- The reading of cases, computed on small ones.
use Rattle.std.specs.Prelude.{◌≡◌, ℕ, pos, false, List, [], ◌∷◌, Some, None, Ok, Err, codes, refl}
use Rattle.serde_json.specs.Data.{Data, Items, unsigned, null, number, string, array, no_items, item}
use Rattle.serde_json.proofs.OnLiterals.{serde_json_on_literals}
use Rattle.std.specs.Str.{chars, is_utf8}
use Rattle.ot_model.specs.Cells.{live_cell}
use Rattle.ot_model.specs.declared.op.Op.{Op}
use Rattle.ot_model.specs.declared.op.Op.TheVariants.{Ins, Del}
use Rattle.fn_rules.specs.Shipped.{sites}
use Rattle.case_json.specs.DocText.{cells_within}
use Rattle.case_json.specs.declared.fault.CaseFault.TheVariants.{Json, Field, Kind, Enabled, Pair, Order, Limit}
use Rattle.case_json.specs.declared.fault.Name.TheVariants.{Doc, Orders}
use Rattle.case_json.specs.declared.trial.Trial.{Trial}
use Rattle.case_json.specs.Operations.{number_in, operation_in}
use Rattle.case_json.specs.Tests.{case_fault_of}
use Rattle.case_json.specs.Cases.{elements_from, trial_in}

-- an array of a word and of other values
abbrev with_word : List ℕ → Items → Data
with_word word values = array (item (string word) values)

abbrev numbers : List ℕ → Items
numbers [] = no_items
numbers (n ∷ others) = item (number (unsigned n)) (numbers others)

-- 1, "a", 2
abbrev with_letter : Items
with_letter = item (number (unsigned 1)) (item (string (codes "a")) (numbers (2 ∷ [])))

reads_an_insertion : operation_in (with_word (codes "ins") with_letter) ≡ Some (Ins (pos 1) 97 2)
unfolding chars
reads_an_insertion = refl

reads_a_deletion : operation_in (with_word (codes "del") (numbers (0 ∷ 2 ∷ []))) ≡ Some (Del (pos 0) 2)
reads_a_deletion = refl

insertions_have_a_character : operation_in (with_word (codes "ins") (numbers (0 ∷ 2 ∷ []))) ≡ None
insertions_have_a_character = refl

deletions_have_none : operation_in (with_word (codes "del") with_letter) ≡ None
unfolding chars
deletions_have_none = refl

no_such_word : operation_in (with_word (codes "nop") (numbers (0 ∷ 2 ∷ []))) ≡ None
no_such_word = refl

no_such_position : operation_in (with_word (codes "del") (numbers (2147483648 ∷ 2 ∷ []))) ≡ None
no_such_position = refl

-- elements that cannot be read, and too many
malformed : elements_from Orders 2 number_in (Some (null ∷ null ∷ [])) ≡ Err (Field Orders)
malformed = refl

too_many_come_first : elements_from Orders 2 number_in (Some (null ∷ null ∷ null ∷ [])) ≡ Err (Limit Orders)
too_many_come_first = refl

-- a case with one live cell, these operations and these orders
abbrev trial : List Op → List (List ℕ) → Trial
trial ops orders = record { doc = live_cell 121 ∷ []; ops = ops; orders = orders }

faultless : case_fault_of sites (trial (Ins (pos 1) 97 1 ∷ Del (pos 0) 2 ∷ []) ((1 ∷ 0 ∷ []) ∷ (0 ∷ 1 ∷ []) ∷ []))
    ≡ None
faultless = refl

kind_before_position : case_fault_of (record sites { head = record sites.head { del = false } })
    (trial (Del (pos 1) 1 ∷ []) []) ≡ Some (Kind 0)
kind_before_position = refl

position_before_the_next_operation :
    case_fault_of sites (trial (Del (pos 1) 1 ∷ Del (pos 2) 1 ∷ []) ((7 ∷ []) ∷ [])) ≡ Some (Enabled 0)
position_before_the_next_operation = refl

pairs_by_their_first : case_fault_of sites
    (trial (Del (pos 0) 1 ∷ Del (pos 0) 2 ∷ Del (pos 0) 2 ∷ Del (pos 0) 1 ∷ []) ((7 ∷ []) ∷ []))
    ≡ Some (Pair 0 3)
pairs_by_their_first = refl

names_twice : case_fault_of sites (trial (Del (pos 0) 1 ∷ Del (pos 0) 2 ∷ []) ((0 ∷ 1 ∷ []) ∷ (1 ∷ 1 ∷ []) ∷ []))
    ≡ Some (Order 1)
names_twice = refl

-- whole cases, from their bytes
three : trial_in sites
    (codes
    "{\"doc\":\"y\",\"ops\":[[\"ins\",1,\"a\",1],[\"del\",0,2],[\"ins\",0,\"c\",3]],\"orders\":[[0,1,2],[1,0,2]]}")
    ≡ Ok (trial (Ins (pos 1) 97 1 ∷ Del (pos 0) 2 ∷ Ins (pos 0) 99 3 ∷ []) ((0 ∷ 1 ∷ 2 ∷ []) ∷ (1 ∷ 0 ∷ 2 ∷ []) ∷ []))
unfolding serde_json_on_literals trial_in chars is_utf8 cells_within
three = refl

last_of_one_key : trial_in sites (codes "{\"doc\":7,\"ops\":[],\"orders\":[],\"doc\":\"y\"}") ≡ Ok (trial [] [])
unfolding serde_json_on_literals trial_in chars is_utf8 cells_within
last_of_one_key = refl

no_json : trial_in sites (codes "{\"doc\":") ≡ Err Json
unfolding serde_json_on_literals trial_in chars is_utf8
no_json = refl

no_object : trial_in sites (codes "[]") ≡ Err (Field Doc)
unfolding serde_json_on_literals trial_in chars is_utf8
no_object = refl

no_orders : trial_in sites (codes "{\"doc\":\"\",\"ops\":[]}") ≡ Err (Field Orders)
unfolding serde_json_on_literals trial_in chars is_utf8 cells_within
no_orders = refl

behind_the_end : trial_in sites (codes "{\"doc\":\"y\",\"ops\":[[\"ins\",5,\"a\",1]],\"orders\":[[0]]}")
    ≡ Err (Enabled 0)
unfolding serde_json_on_literals trial_in chars is_utf8 cells_within
behind_the_end = refl

one_site : trial_in sites (codes "{\"doc\":\"y\",\"ops\":[[\"ins\",0,\"a\",1],[\"ins\",1,\"b\",1]],\"orders\":[[0,1]]}")
    ≡ Err (Pair 0 1)
unfolding serde_json_on_literals trial_in chars is_utf8 cells_within
one_site = refl

names_another : trial_in sites (codes "{\"doc\":\"y\",\"ops\":[[\"ins\",0,\"a\",1]],\"orders\":[[1]]}") ≡ Err (Order 0)
unfolding serde_json_on_literals trial_in chars is_utf8 cells_within
names_another = refl
