-- A counterexample as a case for `integrate`, in one line. Texts are bytes.
use Rattle.std.specs.Prelude.{ℕ, ℤ, List, [], ◌∷◌, ◌++◌, map, codes, encode_utf8_all}
use Rattle.serde_json.specs.Data.{Data, no_members, member, null, number, unsigned, string, array, object}
use Rattle.serde_json.specs.Find.{of_integer}
use Rattle.serde_json.specs.View.{items_of}
use Rattle.serde_json.specs.Written.{compact_text}
use Rattle.ot_model.specs.declared.cell.Cell.{Cell}
use Rattle.ot_model.specs.declared.op.Op.{Op}
use Rattle.ot_model.specs.declared.op.Op.TheVariants as ops
use Rattle.ot_model.specs.declared.op.Kind.{Kind}
use Rattle.ot_model.specs.declared.op.Kind.TheVariants as kinds
use Rattle.fn_rules.specs.declared.function.Level.{Level}
use Rattle.fn_rules.specs.declared.function.Level.TheVariants.{Tp1, Tp2}
use Rattle.case_json.specs.DocText.{doc_text}
use Rattle.case_json.specs.Operations.{operation_word}

-- an operation with a character: the word of its kind, its position, the character and its site
abbrev pub with_char_data : Kind → ℤ → ℕ → ℕ → Data
with_char_data k at ch site =
    array (items_of (string (operation_word k) ∷ number (of_integer at) ∷ string (encode_utf8_all (ch ∷ []))
    ∷ number (unsigned site) ∷ []))

-- a deletion: the word of its kind, its position and its site
abbrev pub deletion_data : ℤ → ℕ → Data
deletion_data at site =
    array (items_of (string (operation_word kinds.Del) ∷ number (of_integer at) ∷ number (unsigned site) ∷ []))

-- an operation as a value of JSON
abbrev pub op_data : Op → Data
op_data (ops.Ins at ch site) = with_char_data kinds.Ins at ch site
op_data (ops.Del at site) = deletion_data at site
op_data (ops.Upd at ch site) = with_char_data kinds.Upd at ch site
op_data ops.Nop = null

-- an order as a value of JSON
abbrev pub order_data : List ℕ → Data
order_data order = array (items_of (map (λ n. number (unsigned n)) order))

-- the two orders in which the ways of a property take the operations
abbrev pub both_orders : Level → List (List ℕ)
both_orders Tp1 = (0 ∷ 1 ∷ []) ∷ (1 ∷ 0 ∷ []) ∷ []
both_orders Tp2 = (0 ∷ 1 ∷ 2 ∷ []) ∷ (1 ∷ 0 ∷ 2 ∷ []) ∷ []

-- these orders as a value of JSON
abbrev pub orders_data : Level → Data
orders_data level = array (items_of (map order_data (both_orders level)))

-- the case as a value of JSON
abbrev pub case_data : Level → List Cell → List Op → Data
case_data level d ops =
    object (member (codes "doc") (string (encode_utf8_all (doc_text d)))
    (member (codes "ops") (array (items_of (map op_data ops)))
    (member (codes "orders") (orders_data level) no_members)))

-- the line of the case
abbrev pub case_line : Level → List Cell → List Op → List ℕ
case_line level d ops = codes "case " ++ compact_text (case_data level d ops) ++ 10 ∷ []
