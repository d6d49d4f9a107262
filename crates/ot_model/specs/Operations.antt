-- What an operation is, kind by kind: each has a row in these definitions, and no other one tells the
-- operations of two kinds apart but those of the effect on a document.
use Rattle.std.specs.Prelude.{◌≡◌, ℕ, ℤ, pos, Option, Some, None}
use Rattle.ot_model.specs.declared.op.Op.{Op}
use Rattle.ot_model.specs.declared.op.Op.TheVariants.{Ins, Del, Upd, Nop}
use Rattle.ot_model.specs.declared.op.Kind.{Kind}
use Rattle.ot_model.specs.declared.op.Kind.TheVariants as kinds

-- the kind of an operation, which nop has not
abbrev pub kind_of : Op → Option Kind
kind_of (Ins at ch site) = Some kinds.Ins
kind_of (Del at site) = Some kinds.Del
kind_of (Upd at ch site) = Some kinds.Upd
kind_of Nop = None

-- the operation is an insertion
abbrev pub IsInsert : Op → Type 0
IsInsert o = kind_of o ≡ Some kinds.Ins

-- the position of an operation, which nop has not
abbrev pub at_of : Op → ℤ
at_of (Ins at ch site) = at
at_of (Del at site) = at
at_of (Upd at ch site) = at
at_of Nop = pos 0

-- the site that made the operation
abbrev pub site_of : Op → Option ℕ
site_of (Ins at ch site) = Some site
site_of (Del at site) = Some site
site_of (Upd at ch site) = Some site
site_of Nop = None

-- the character that the operation puts into the document
abbrev pub char_of : Op → Option ℕ
char_of (Ins at ch site) = Some ch
char_of (Del at site) = None
char_of (Upd at ch site) = Some ch
char_of Nop = None

-- the same operation at another position
abbrev pub placed : Op → ℤ → Op
placed (Ins at ch site) to = Ins to ch site
placed (Del at site) to = Del to site
placed (Upd at ch site) to = Upd to ch site
placed Nop to = Nop
