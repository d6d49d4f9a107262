-- The lines that say where a fault is. Texts are bytes.
use Rattle.std.specs.Prelude.{ℕ, List, [], ◌∷◌, ◌++◌, Option, Some, None, codes}
use Rattle.std.specs.Fmt.{decimal}
use Rattle.case_json.specs.declared.fault.CaseFault.{CaseFault}
use Rattle.case_json.specs.declared.fault.CaseFault.TheVariants as faults
use Rattle.case_json.specs.declared.fault.Name.{Name}
use Rattle.case_json.specs.declared.fault.Name.TheVariants as names
use Rattle.json_places.specs.declared.line.LineColumn.{LineColumn}
use Rattle.case_json.specs.declared.path.EventCause.{EventCause}
use Rattle.case_json.specs.declared.path.EventCause.TheVariants as causes
use Rattle.case_json.specs.declared.path.FaultPath.{FaultPath}
use Rattle.json_places.specs.declared.places.Places.{Places}
use Rattle.case_json.specs.Paths.{key_of}

-- a place in an array
abbrev pub place_text : ℕ → List ℕ
place_text i = codes "[" ++ decimal i ++ codes "]"

-- a place, if there is one
abbrev pub some_place_text : Option ℕ → List ℕ
some_place_text None = []
some_place_text (Some i) = place_text i

-- places, outermost first
abbrev pub places_text : Places → List ℕ
places_text places = some_place_text places.first ++ some_place_text places.second ++ some_place_text places.third

-- a path: the key of its part and its places, `ops[2][1]`
abbrev pub path_text : FaultPath → List ℕ
path_text path = key_of path.part ++ places_text path.places

-- a line and a column
abbrev pub line_column_text : LineColumn → List ℕ
line_column_text at = codes "line " ++ decimal at.line ++ codes ", column " ++ decimal at.column

-- where a fault is: its path, and the line and the column of the value there, if there is one
abbrev pub at_line : FaultPath → Option LineColumn → List ℕ
at_line path None = codes "at " ++ path_text path ++ 10 ∷ []
at_line path (Some at) = codes "at " ++ path_text path ++ codes ", " ++ line_column_text at ++ 10 ∷ []

-- what a part is to be
abbrev pub wanted_text : Name → List ℕ
wanted_text names.Doc =
    codes "`doc` is a string: each `~` stands before a cell, each backslash before a backslash, `~`, `n` or `r`."
wanted_text names.Ops =
    codes "`ops` is an array of operations: [\"ins\", AT, CH, SITE], [\"del\", AT, SITE] or [\"upd\", AT, CH, SITE]."
wanted_text names.Orders = codes "`orders` is an array of orders, each an array of whole numbers."
wanted_text names.Sites = codes "`sites` is a whole number of at least 1."
wanted_text names.Events = codes "`events` is an array of events."
wanted_text names.Cells = codes "`doc` is a string."

-- what is too many
abbrev pub limit_text : Name → List ℕ
limit_text names.Doc = codes "The document has too many cells."
limit_text names.Ops = codes "There are too many operations."
limit_text names.Orders = codes "There are more than 16 orders."
limit_text names.Sites = codes "There are more than 16 sites."
limit_text names.Events = codes "There are more than 65536 events."
limit_text names.Cells = codes "The document has more than 1000000 cells."

-- an operation may not be with another one
abbrev pub pair_sentence : ℕ → List ℕ
pair_sentence i =
    codes "This operation may not be with ops" ++ place_text i
    ++ codes ": they agree in what the function assumes to differ."

-- the cause of a fault, in a sentence
abbrev pub sentence : CaseFault → List ℕ
sentence faults.Json = codes "The file is not UTF-8, or no JSON."
sentence (faults.Field part) = wanted_text part
sentence (faults.Kind i) = codes "The function declares no operations of this kind."
sentence (faults.Enabled i) = codes "The document has no such position for this operation."
sentence (faults.Pair i j) = pair_sentence i
sentence (faults.Order i) = codes "The order does not name each operation exactly once."
sentence (faults.Limit part) = limit_text part

-- where the fault is, if it has a path, and its cause
abbrev pub fault_lines : Option FaultPath → Option LineColumn → CaseFault → List ℕ
fault_lines None at fault = sentence fault ++ 10 ∷ []
fault_lines (Some path) at fault = at_line path at ++ sentence fault ++ 10 ∷ []

-- the cause for which an event is refused, in a sentence
abbrev pub cause_sentence : EventCause → List ℕ
cause_sentence causes.Site = codes "There is no site, or no client, with this number."
cause_sentence causes.Owner = codes "The operation names another site than the event."
cause_sentence causes.Kind = codes "The function declares no operations of this kind."
cause_sentence causes.Enabled = codes "The document has no such position for this operation."
cause_sentence causes.Number = codes "No operation with this number was made yet."

-- where what is wrong with an event is, and its cause
abbrev pub cause_lines : FaultPath → Option LineColumn → EventCause → List ℕ
cause_lines path at cause = at_line path at ++ cause_sentence cause ++ 10 ∷ []
