-- Reading tokens one after another, over anything that phrases may be made into: the phrases themselves,
-- or the formulas that they mean.
use Rattle.std.specs.Prelude.{ℕ, zero, suc, ◌+◌, true, false, if◌then◌else◌, List, [], ◌∷◌, ◌++◌, Option, Some, None}
use Rattle.std.specs.Prelude.{Result, Ok, Err}
use Rattle.ot_model.specs.declared.op.Kind.TheVariants as kinds
use Rattle.ot_model.specs.declared.op.Mode.TheVariants as modes
use Rattle.fn_rules.specs.declared.guard.Sort.{Sort}
use Rattle.fn_rules.specs.declared.guard.Sort.TheVariants.{Pos, Site, Char}
use Rattle.fn_rules.specs.declared.guard.Side.{Side}
use Rattle.fn_rules.specs.declared.guard.Cmp.{Cmp}
use Rattle.fn_rules.specs.declared.guard.Tightness.{Tightness}
use Rattle.fn_rules.specs.declared.guard.Tightness.TheVariants.{Loose, Joined, Tight}
use Rattle.fn_rules.specs.declared.function.Head.{Head}
use Rattle.fn_tokens.specs.declared.token.Placed.{Placed}
use Rattle.fn_tokens.specs.declared.control.AfterLine.TheVariants as nexts
use Rattle.fn_tokens.specs.declared.control.Want.{Want}
use Rattle.fn_tokens.specs.declared.control.Want.TheVariants as wants
use Rattle.fn_tokens.specs.declared.control.Seconds.{Seconds}
use Rattle.fn_tokens.specs.declared.control.Pairs.{Pairs}
use Rattle.fn_tokens.specs.declared.control.Control.{Control}
use Rattle.fn_tokens.specs.declared.control.TokenMove.{TokenMove}
use Rattle.fn_tokens.specs.declared.control.TokenMove.TheVariants as moves
use Rattle.fn_tokens.specs.declared.language.Language.TheVariants as languages
use Rattle.fn_tokens.specs.declared.fault.TextFault.{TextFault}
use Rattle.fn_tokens.specs.declared.fault.FaultKind.TheVariants as faults
use Rattle.fn_tokens.specs.Kinds.{with_kind, with_pair}
use Rattle.fn_tokens.specs.Meaning.{Maker}
use Rattle.fn_tokens.specs.Moves.{move_for}
use Rattle.fn_tokens.specs.Faults.{fault_of}

-- what was read in parentheses that are still open: what stands before the last `or`, what stands behind
-- that and before the last `and`, and how many `not` stand behind that; and what stands around them
pub record Nesting (V : Tightness → Type 0) : Type 0 where
  pub outside : ℕ
  pub nots : ℕ
  pub any : Option (V Loose)
  pub all : Option (V Joined)

-- what was read
pub record State (V : Tightness → Type 0) (K B : Type 0) : Type 0 where
  pub control : Control
  pub any : Option (V Loose)
  pub all : Option (V Joined)
  pub last : V Tight
  pub outer : List (Nesting V)
  pub guard : V Loose
  pub cases : List K
  pub done : List B

-- an operand behind so many `not`
abbrev pub negate : {V : Tightness → Type 0} {K B : Type 0} → Maker V K B → ℕ → V Tight → V Tight
negate m zero u = u
negate m (suc n) u = m.negated (negate m n u)

-- an operand behind what stands before the last `and`
abbrev pub join : {V : Tightness → Type 0} {K B : Type 0} → Maker V K B → Option (V Joined) → V Tight → V Joined
join m None u = m.one u
join m (Some c) u = m.both c u

-- a conjunction behind what stands before the last `or`
abbrev pub choose : {V : Tightness → Type 0} {K B : Type 0} → Maker V K B → Option (V Loose) → V Joined → V Loose
choose m None c = m.single c
choose m (Some d) c = m.either d c

-- the conjunction that ends with the last operand
abbrev pub conjunction : {V : Tightness → Type 0} {K B : Type 0} → Maker V K B → State V K B → V Joined
conjunction m s = join m s.all (negate m s.control.nots s.last)

-- all that was read in the innermost parentheses
abbrev pub disjunction : {V : Tightness → Type 0} {K B : Type 0} → Maker V K B → State V K B → V Loose
disjunction m s = choose m s.any (conjunction m s)

-- the blocks that were begun
abbrev pub blocks_of : {V : Tightness → Type 0} {K B : Type 0} → Maker V K B → State V K B → List B
blocks_of m s =
    if s.control.begun then s.done ++ m.blocked s.control.first s.control.second s.cases ∷ [] else s.done

abbrev pub with_want : Control → Want → Control
with_want c want = record c { want = want }

-- what may follow an atom: an offset only over positions
abbrev pub want_behind : Sort → Side → Cmp → Want
want_behind Pos left cmp = wants.Offset left cmp
want_behind Site left cmp = wants.Operator
want_behind Char left cmp = wants.Operator

-- what stands around the innermost parentheses goes on
abbrev pub left_for : {V : Tightness → Type 0} {K B : Type 0} → State V K B → Nesting V → List (Nesting V) → State V K B
left_for s nesting nestings = record s {
  control = record s.control { want = wants.Operator; outside = nesting.outside; nots = nesting.nots };
  any = nesting.any;
  all = nesting.all;
  outer = nestings;
}

-- parentheses are closed: what stands around them goes on
abbrev pub closed_parentheses : {V : Tightness → Type 0} {K B : Type 0} → Maker V K B → State V K B → List (Nesting V)
    → State V K B
closed_parentheses m s [] = record s { control = with_want s.control wants.Operator }
closed_parentheses m s (nesting ∷ nestings) = left_for (record s { last = m.round (disjunction m s) }) nesting nestings

-- what a token makes of the control; where parentheses are closed, what stands around them is told by their nesting
abbrev pub control_behind : Control → TokenMove → Control
control_behind c (moves.Skip want) = with_want c want
control_behind c (moves.SetLanguage language) = record c { want = wants.LineEnd nexts.Text; language = language }
control_behind c (moves.SetMode mode) = record c {
  want = wants.LineEnd nexts.Kinds;
  head = record c.head { mode = mode };
}
control_behind c (moves.Declare kind) = record c { want = wants.NextKind; head = with_kind c.head kind }
control_behind c moves.AssumeSites = record c { want = wants.Differ; head = record c.head { sites_differ = true } }
control_behind c moves.AssumeChars = record c { want = wants.Differ; head = record c.head { chars_differ = true } }
control_behind c (moves.BlockWord line column) = record c { want = wants.BlockFirst; line = line; column = column }
control_behind c (moves.BeginBlock k l) =
    record c { want = wants.BlockEnd; begun = true; first = k; second = l; seen = with_pair c.seen k l; cases = 0 }
control_behind c moves.BeginCase = record c { want = wants.Operand; cases = c.cases + 1; atoms = 0 }
control_behind c moves.Open = record c { want = wants.Operand; outside = c.outside + c.nots + 1; nots = 0 }
control_behind c moves.Negate = record c { want = wants.Operand; nots = c.nots + 1 }
control_behind c moves.Always = record c { want = wants.Operator; atoms = c.atoms + 1 }
control_behind c (moves.BeginAtom sort left) = record c { want = wants.Comparison sort left; atoms = c.atoms + 1 }
control_behind c (moves.Compare sort left cmp) = with_want c (want_behind sort left cmp)
control_behind c (moves.Shift left cmp sign n) = with_want c wants.Operator
control_behind c moves.And = record c { want = wants.Operand; nots = 0 }
control_behind c moves.Or = record c { want = wants.Operand; nots = 0 }
control_behind c moves.Close = with_want c wants.Operator
control_behind c moves.Colon = record c { want = wants.Result; nots = 0 }
control_behind c (moves.EndCase result) = with_want c wants.Line
control_behind c moves.End = record c { want = wants.LineEnd nexts.File; begun = false }

-- what a token does of which only the control keeps something
abbrev pub told : {V : Tightness → Type 0} {K B : Type 0} → State V K B → TokenMove → State V K B
told s move = record s { control = control_behind s.control move }

-- what a token does
abbrev pub moved : {V : Tightness → Type 0} {K B : Type 0} → Maker V K B → State V K B → TokenMove → State V K B
moved m s (moves.Skip want) = told s (moves.Skip want)
moved m s (moves.SetLanguage language) = told s (moves.SetLanguage language)
moved m s (moves.SetMode mode) = told s (moves.SetMode mode)
moved m s (moves.Declare kind) = told s (moves.Declare kind)
moved m s moves.AssumeSites = told s moves.AssumeSites
moved m s moves.AssumeChars = told s moves.AssumeChars
moved m s (moves.BlockWord line column) = told s (moves.BlockWord line column)
moved m s (moves.BeginBlock k l) = record (told s (moves.BeginBlock k l)) { cases = []; done = blocks_of m s }
moved m s moves.BeginCase = told s moves.BeginCase
moved m s moves.Open = record (told s moves.Open) {
  any = None;
  all = None;
  outer = record { outside = s.control.outside; nots = s.control.nots; any = s.any; all = s.all } ∷ s.outer;
}
moved m s moves.Negate = told s moves.Negate
moved m s moves.Always = record (told s moves.Always) { last = m.always }
moved m s (moves.BeginAtom sort left) = told s (moves.BeginAtom sort left)
moved m s (moves.Compare sort left cmp) = record (told s (moves.Compare sort left cmp))
    { last = m.compared sort left cmp }
moved m s (moves.Shift left cmp sign n) = record (told s (moves.Shift left cmp sign n))
    { last = m.shifted left cmp sign n }
moved m s moves.And = record (told s moves.And) { all = Some (conjunction m s); last = m.always }
moved m s moves.Or = record (told s moves.Or) { any = Some (disjunction m s); all = None; last = m.always }
moved m s moves.Close = closed_parentheses m s s.outer
moved m s moves.Colon = record (told s moves.Colon) { any = None; all = None; last = m.always; guard = disjunction m s }
moved m s (moves.EndCase result) = record (told s (moves.EndCase result)) {
  guard = m.single (m.one m.always);
  cases = s.cases ++ m.cased s.guard result ∷ [];
}
moved m s moves.End = record (told s moves.End) { cases = []; done = blocks_of m s }

-- the state after a token, or its fault
abbrev pub after_move : {V : Tightness → Type 0} {K B : Type 0} → Maker V K B → State V K B → Placed
    → Option TokenMove → Result (State V K B) TextFault
after_move m s at None = Err (fault_of s.control at)
after_move m s at (Some move) = Ok (moved m s move)

abbrev pub turn : {V : Tightness → Type 0} {K B : Type 0} → Maker V K B → State V K B → Placed
    → Result (State V K B) TextFault
turn m s at = after_move m s at (move_for s.control at s.control.want at.token)

-- the head and the blocks, once the file has ended; tokens that have no end of the file end nothing
abbrev pub ended : {V : Tightness → Type 0} {K B : Type 0} → State V K B → Want → Result (Head × List B) TextFault
ended s wants.Nothing = Ok (s.control.head, s.done)
ended s _ = Err record { line = 1; column = 1; kind = faults.Expected }

-- the head and the blocks that tokens give from a state on, or the first fault
abbrev pub read_from : {V : Tightness → Type 0} {K B : Type 0} → Maker V K B → State V K B → List Placed
    → Result (Head × List B) TextFault
read_from m s [] = ended s s.control.want
read_from m s (at ∷ rest) = elim (turn m s at) [ Ok after ↦ read_from m after rest | Err fault ↦ Err fault ]

abbrev pub no_seconds : Seconds
no_seconds = record { ins = false; del = false; upd = false }

abbrev pub no_pairs : Pairs
no_pairs = record { ins = no_seconds; del = no_seconds; upd = no_seconds }

abbrev pub first_control : Control
first_control = record {
  want = wants.Otfn;
  language = languages.One;
  head = record {
    mode = modes.Plain;
    ins = false;
    del = false;
    upd = false;
    sites_differ = false;
    chars_differ = false;
  };
  line = 0;
  column = 0;
  begun = false;
  first = kinds.Ins;
  second = kinds.Ins;
  seen = no_pairs;
  cases = 0;
  atoms = 0;
  outside = 0;
  nots = 0;
}

abbrev pub first_state : {V : Tightness → Type 0} {K B : Type 0} → Maker V K B → State V K B
first_state m = record {
  control = first_control;
  any = None;
  all = None;
  last = m.always;
  outer = [];
  guard = m.single (m.one m.always);
  cases = [];
  done = [];
}
