-- What the reader's control tells of the function so far.
use Rattle.std.specs.Prelude.{ℕ, ◌+◌, Bool, not, ◌&&◌, if◌then◌else◌, Option, Some, None}
use Rattle.std.specs.List.{list_any}
use Rattle.ot_model.specs.declared.op.Kind.{Kind}
use Rattle.ot_model.specs.declared.op.TheConstants.{KINDS}
use Rattle.fn_rules.specs.Functions.{is_declared_pair}
use Rattle.fn_rules.specs.Validity.{compares_chars}
use Rattle.fn_tokens.specs.declared.control.Control.{Control}
use Rattle.fn_tokens.specs.declared.control.TokenMove.{TokenMove}
use Rattle.fn_tokens.specs.Kinds.{has_seen}

-- the block may compare characters
abbrev pub has_chars : Control → Bool
has_chars c = compares_chars c.first c.second

-- the pair of kinds is declared and has no block
abbrev pub lacks : Control → Kind → Kind → Bool
lacks c k l = is_declared_pair c.head k l && not (has_seen c.seen k l)

-- some block whose first kind this is is missing
abbrev pub lacks_with : Control → Kind → Bool
lacks_with c k = list_any (lacks c k) KINDS

-- some block is missing
abbrev pub lacks_block : Control → Bool
lacks_block c = list_any (lacks_with c) KINDS

-- the `(` and `not` around the next operand
abbrev pub depth_of : Control → ℕ
depth_of c = c.outside + c.nots

-- the move, where the test is true
abbrev pub allowed : Bool → TokenMove → Option TokenMove
allowed test move = if test then Some move else None
