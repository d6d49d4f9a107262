-- The value of JSON that a case is: it has no float, and nests three deep at most.
use Rattle.std.proofs.Common.{◌≡◌, ◌≤◌, ℕ, pos, negsuc, false, List, [], ◌∷◌, map, IsUtf8, Some, refl, ap, ◌∙◌, lit≤}
use Rattle.std.proofs.Common.{arith}
use Rattle.std.proofs.lemmas.Str.{is_utf8-from_IsUtf8}
use Rattle.case_json.specs.Json.{json_in}
use Rattle.serde_json.specs.Read.{read}
use Rattle.serde_json.specs.Data.{Data, depth, items_depth}
use Rattle.serde_json.specs.View.{items_of}
use Rattle.serde_json.specs.Written.{compact_text, has_float, items_have_float}
use Rattle.ot_model.specs.declared.cell.Cell.{Cell}
use Rattle.ot_model.specs.declared.op.Op.{Op}
use Rattle.ot_model.specs.declared.op.Op.TheVariants.{Ins, Del, Upd, Nop}
use Rattle.fn_rules.specs.declared.function.Level.{Level}
use Rattle.fn_rules.specs.declared.function.Level.TheVariants.{Tp1, Tp2}
use Rattle.ot_steps.specs.CaseLines.{op_data, orders_data, case_data}

op_no_float : (o : Op) → has_float (op_data o) ≡ false
op_no_float (Ins (pos n) ch site) = refl
op_no_float (Ins (negsuc n) ch site) = refl
op_no_float (Del (pos n) site) = refl
op_no_float (Del (negsuc n) site) = refl
op_no_float (Upd (pos n) ch site) = refl
op_no_float (Upd (negsuc n) ch site) = refl
op_no_float Nop = refl

ops_no_float : (os : List Op) → items_have_float (items_of (map op_data os)) ≡ false
ops_no_float [] = refl
ops_no_float (o ∷ os) = rw (op_no_float o) (ops_no_float os)

orders_no_float : (level : Level) → has_float (orders_data level) ≡ false
orders_no_float Tp1 = refl
orders_no_float Tp2 = refl

pub case_no_float : (level : Level) (d : List Cell) (ops : List Op) → has_float (case_data level d ops) ≡ false
case_no_float level d ops = rw (ops_no_float ops, orders_no_float level) refl

op_shallow : (o : Op) → depth (op_data o) ≤ 1
op_shallow (Ins at ch site) = lit≤ tt
op_shallow (Del at site) = lit≤ tt
op_shallow (Upd at ch site) = lit≤ tt
op_shallow Nop = lit≤ tt

ops_shallow : (os : List Op) → items_depth (items_of (map op_data os)) ≤ 1
ops_shallow [] = lit≤ tt
ops_shallow (o ∷ os) =
    let here : depth (op_data o) ≤ 1 = op_shallow o in
    let rest : items_depth (items_of (map op_data os)) ≤ 1 = ops_shallow os in
    omega (arith, here, rest)

orders_shallow : (level : Level) → depth (orders_data level) ≤ 2
orders_shallow Tp1 = lit≤ tt
orders_shallow Tp2 = lit≤ tt

pub case_shallow : (level : Level) (d : List Cell) (ops : List Op) → depth (case_data level d ops) ≤ 127
case_shallow level d ops =
    let os : items_depth (items_of (map op_data ops)) ≤ 1 = ops_shallow ops in
    let orders : depth (orders_data level) ≤ 2 = orders_shallow level in
    omega (arith, os, orders)

-- the text that is written of a value without floats that is equal to this one
pub text_of_data :
    (value json : Data) (text : List ℕ) → value ≡ json → has_float json ≡ false
    → (has_float value ≡ false → text ≡ compact_text value)
    → text ≡ compact_text json
text_of_data value json text same none is = is (rw same none) ∙ ap compact_text same

-- and it is read as that value
pub data_read :
    (value json : Data) (text : List ℕ) → value ≡ json → depth json ≤ 127 → IsUtf8 text
    → (depth value ≤ 127 → read text ≡ Some value)
    → json_in text ≡ Some json
data_read value json text same shallow utf8 is =
    rw (is_utf8-from_IsUtf8 text utf8) (is (rw same shallow) ∙ ap Some same)
