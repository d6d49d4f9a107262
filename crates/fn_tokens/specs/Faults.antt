-- The cause for which a token that cannot go on is refused: the first row of the table that fits.
use Rattle.std.specs.Prelude.{ℕ, Bool, true, false, not, ◌&&◌, if◌then◌else◌, nat_le}
use Rattle.ot_model.specs.declared.op.Kind.{Kind}
use Rattle.fn_rules.specs.declared.guard.Sort.{Sort}
use Rattle.fn_rules.specs.Functions.{is_declared}
use Rattle.ot_model.specs.Kinds.{is_same_kind}
use Rattle.fn_rules.specs.declared.limits.TheConstants.{MAX_NESTING}
use Rattle.fn_tokens.specs.declared.token.Token.{Token}
use Rattle.fn_tokens.specs.declared.token.Token.TheVariants as tokens
use Rattle.fn_tokens.specs.declared.token.Word.{Word}
use Rattle.fn_tokens.specs.declared.token.Word.TheVariants as words
use Rattle.fn_tokens.specs.declared.token.Placed.{Placed}
use Rattle.fn_tokens.specs.declared.control.Region.{Region}
use Rattle.fn_tokens.specs.declared.control.Region.TheVariants.{Elsewhere, AtVersion, AtLine, AtBlockFirst}
use Rattle.fn_tokens.specs.declared.control.Region.TheVariants.{AtBlockSecond, AtBlockEnd}
use Rattle.fn_tokens.specs.declared.control.Region.TheVariants.{AtOperand, InAtom, AtRight, AtNumber, BehindOperand}
use Rattle.fn_tokens.specs.declared.control.Region.TheVariants.{InResult}
use Rattle.fn_tokens.specs.declared.control.Region.TheVariants.{AtResultNumber, BehindResult}
use Rattle.fn_tokens.specs.declared.control.Want.{Want}
use Rattle.fn_tokens.specs.declared.control.Want.TheVariants as wants
use Rattle.fn_tokens.specs.declared.control.Control.{Control}
use Rattle.fn_tokens.specs.declared.fault.TextFault.{TextFault}
use Rattle.fn_tokens.specs.declared.fault.FaultKind.{FaultKind}
use Rattle.fn_tokens.specs.declared.fault.FaultKind.TheVariants as faults
use Rattle.fn_tokens.specs.declared.fault.FaultKind.TheVariants.{Expected}
use Rattle.fn_tokens.specs.Meaning.{may_compare}
use Rattle.fn_tokens.specs.Languages.{has_word}
use Rattle.fn_tokens.specs.Controls.{has_chars, depth_of}

-- where a token stands, as far as the table asks
abbrev pub region_of : Want → Region
region_of wants.Otfn = Elsewhere
region_of wants.Version = AtVersion
region_of wants.Text = Elsewhere
region_of wants.Mode = Elsewhere
region_of wants.Kinds = Elsewhere
region_of wants.NextKind = Elsewhere
region_of (wants.LineEnd following) = Elsewhere
region_of wants.Line = AtLine
region_of wants.Assumed = Elsewhere
region_of wants.Differ = Elsewhere
region_of wants.BlockFirst = AtBlockFirst
region_of (wants.BlockSecond k) = AtBlockSecond
region_of wants.BlockEnd = AtBlockEnd
region_of wants.Operand = AtOperand
region_of (wants.Comparison sort left) = InAtom
region_of (wants.Right sort left cmp) = AtRight
region_of (wants.Offset left cmp) = BehindOperand
region_of (wants.Number left cmp sign) = AtNumber
region_of wants.Operator = BehindOperand
region_of wants.Result = InResult
region_of wants.ResultPosition = InResult
region_of (wants.ResultOffset side) = BehindResult
region_of (wants.ResultNumber side sign) = AtResultNumber
region_of (wants.ResultEnd result) = BehindResult
region_of wants.FileEnd = Elsewhere
region_of wants.Nothing = Elsewhere

-- a number that is wanted is too great, or it is not the version
abbrev pub number_fault : Region → FaultKind
number_fault AtVersion = faults.Version
number_fault AtNumber = faults.Offset
number_fault AtResultNumber = faults.Offset
number_fault _ = Expected

-- `true` or a thing as an operand is one too many
abbrev pub operand_fault : Region → FaultKind
operand_fault AtOperand = faults.Atoms
operand_fault _ = Expected

-- a thing as a second side is another one than the first side asks for
abbrev pub side_fault : Region → FaultKind
side_fault AtRight = faults.Sort
side_fault region = operand_fault region

-- the place is behind the kinds of a block or behind the word `case`
abbrev pub is_behind_kinds : Region → Bool
is_behind_kinds Elsewhere = false
is_behind_kinds AtVersion = false
is_behind_kinds AtLine = false
is_behind_kinds AtBlockFirst = false
is_behind_kinds AtBlockSecond = false
is_behind_kinds _ = true

-- a thing, first where it may not be compared
abbrev pub thing_fault : Control → Sort → Region → FaultKind
thing_fault c sort region =
    if is_behind_kinds region && not (may_compare (has_chars c) sort) then faults.Sort else side_fault region

abbrev pub end_fault : Region → FaultKind
end_fault AtLine = faults.Missing
end_fault _ = Expected

abbrev pub case_fault : Control → Region → FaultKind
case_fault c AtLine = if c.begun then faults.Cases else Expected
case_fault c _ = Expected

-- a kind in a `block` line is not declared, or else its block is there
abbrev pub declared_fault : Control → Kind → FaultKind → FaultKind
declared_fault c k otherwise = if is_declared c.head k then otherwise else faults.Kind

-- a kind in a result is another one than the first of the block
abbrev pub kept_fault : Control → Kind → FaultKind
kept_fault c k = if is_same_kind c.first k then Expected else faults.Outcome

abbrev pub kind_fault : Control → Kind → Region → FaultKind
kind_fault c k AtBlockFirst = declared_fault c k Expected
kind_fault c k AtBlockSecond = declared_fault c k faults.Double
kind_fault c k AtBlockEnd = declared_fault c k Expected
kind_fault c k InResult = kept_fault c k
kind_fault c k AtResultNumber = kept_fault c k
kind_fault c k _ = Expected

-- so many `(` and `not` are around the token
abbrev pub nested_fault : ℕ → FaultKind
nested_fault depth = if nat_le MAX_NESTING depth then faults.Nesting else Expected

-- `(` or `not`; the `not` before an operand are around it until it is whole
abbrev pub nesting_fault : Control → Region → FaultKind
nesting_fault c AtOperand = nested_fault (depth_of c)
nesting_fault c InAtom = nested_fault (depth_of c)
nesting_fault c AtRight = nested_fault (depth_of c)
nesting_fault c AtNumber = nested_fault (depth_of c)
nesting_fault c BehindOperand = nested_fault c.outside
nesting_fault c _ = Expected

-- a word; those of the language that the table does not speak of are `expected`
abbrev pub word_fault : Control → Region → Word → FaultKind
word_fault c region words.Not = nesting_fault c region
word_fault c region words.True = operand_fault region
word_fault c region (words.Thing sort side) = thing_fault c sort region
word_fault c region (words.Kind k) = if has_word c.language k then kind_fault c k region else faults.Word
word_fault c region words.End = end_fault region
word_fault c region words.Case = case_fault c region
word_fault c region _ = Expected

-- the cause, by the token and where it stands
abbrev pub cause_in : Control → Region → Token → FaultKind
cause_in c region tokens.Byte = faults.Byte
cause_in c region tokens.Unknown = faults.Word
cause_in c region (tokens.Known word) = word_fault c region word
cause_in c region (tokens.Number n) = number_fault region
cause_in c region (tokens.Comparison cmp) = Expected
cause_in c region (tokens.Sign sign) = Expected
cause_in c region tokens.Open = nesting_fault c region
cause_in c region tokens.Close = Expected
cause_in c region tokens.Colon = Expected
cause_in c region tokens.LineEnd = Expected
cause_in c region tokens.FileEnd = Expected

-- the fault stands at the token; that of a block which is there already, at its word `block`
abbrev pub placed_fault : Control → Placed → FaultKind → TextFault
placed_fault c at faults.Double = record { line = c.line; column = c.column; kind = faults.Double }
placed_fault c at kind = record { line = at.line; column = at.column; kind = kind }

-- the fault of a token that cannot go on
abbrev pub fault_of : Control → Placed → TextFault
fault_of c at = placed_fault c at (cause_in c (region_of c.want) at.token)
