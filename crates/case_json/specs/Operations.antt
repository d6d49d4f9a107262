-- Operations as JSON: `["ins", AT, CH, SITE]`, `["del", AT, SITE]` and `["upd", AT, CH, SITE]`. A kind has a row in two
-- definitions, for its word and for its operations; whether it has a character says how many values stand behind the
-- word.
use Rattle.std.specs.Prelude.{ℕ, ℤ, pos, List, [], ◌∷◌, Option, Some, None, if◌then◌else◌, codes}
use Rattle.std.specs.List.{find}
use Rattle.std.specs.Option.{option_map, option_and_then}
use Rattle.serde_json.specs.Data.{Data}
use Rattle.ot_model.specs.declared.op.Op.{Op}
use Rattle.ot_model.specs.declared.op.Op.TheVariants.{Ins, Del, Upd}
use Rattle.ot_model.specs.declared.op.Kind.{Kind}
use Rattle.ot_model.specs.declared.op.Kind.TheVariants as kinds
use Rattle.ot_model.specs.declared.op.TheConstants.{KINDS}
use Rattle.ot_model.specs.Kinds.{has_char}
use Rattle.case_json.specs.declared.limits.TheConstants.{MAX_POSITION, MAX_NUMBER}
use Rattle.case_json.specs.Json.{elements_of, number_up_to, char_in, is_word}

-- the word for the operations of a kind
abbrev pub operation_word : Kind → List ℕ
operation_word kinds.Ins = codes "ins"
operation_word kinds.Del = codes "del"
operation_word kinds.Upd = codes "upd"

-- the operation of a kind at a position, with a character where the kind has one, by a site
abbrev pub with_parts : Kind → ℤ → Option ℕ → ℕ → Option Op
with_parts kinds.Ins at ch site = option_map (λ letter. Ins at letter site) ch
with_parts kinds.Del at ch site = Some (Del at site)
with_parts kinds.Upd at ch site = option_map (λ c. Upd at c site) ch

-- a position of an operation
abbrev pub position_in : Data → Option ℤ
position_in json = option_map pos (number_up_to MAX_POSITION json)

-- a site, or a number that names an operation
abbrev pub number_in : Data → Option ℕ
number_in json = number_up_to MAX_NUMBER json

-- the kind that a word stands for
abbrev pub kind_in : Data → Option Kind
kind_in json = find (λ k. is_word (operation_word k) json) KINDS

-- an operation with a character, of the values behind its word: a position, a character and a site
abbrev pub with_char : Kind → List Data → Option Op
with_char k (at ∷ ch ∷ site ∷ []) =
    option_and_then (λ place.
    option_and_then (λ letter.
    option_and_then (with_parts k place (Some letter)) (number_in site)) (char_in ch)) (position_in at)
with_char k others = None

-- an operation without one: of a position and a site
abbrev pub without_char : Kind → List Data → Option Op
without_char k (at ∷ site ∷ []) =
    option_and_then (λ place. option_and_then (with_parts k place None) (number_in site)) (position_in at)
without_char k others = None

-- an operation of a kind, of the values behind its word
abbrev pub operation_of : Kind → List Data → Option Op
operation_of k values = if has_char k then with_char k values else without_char k values

-- an operation, of the elements of its array
abbrev pub operation_from : List Data → Option Op
operation_from [] = None
operation_from (word ∷ values) = option_and_then (λ k. operation_of k values) (kind_in word)

-- the operation that a value is
abbrev pub operation_in : Data → Option Op
operation_in json = option_and_then operation_from (elements_of json)
