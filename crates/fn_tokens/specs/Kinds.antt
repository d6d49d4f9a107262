-- What the reader keeps of kinds: a row for each, and nothing else of the reader tells kinds apart.
use Rattle.std.specs.Prelude.{Bool, true, not, ◌||◌, nat_lt}
use Rattle.std.specs.List.{list_all, list_any}
use Rattle.ot_model.specs.declared.op.Kind.{Kind}
use Rattle.ot_model.specs.declared.op.Kind.TheVariants.{Ins, Del, Upd}
use Rattle.ot_model.specs.declared.op.TheConstants.{KINDS}
use Rattle.ot_model.specs.Kinds.{kind_rank}
use Rattle.fn_rules.specs.declared.function.Head.{Head}
use Rattle.fn_rules.specs.Functions.{is_declared}
use Rattle.fn_tokens.specs.declared.control.Seconds.{Seconds}
use Rattle.fn_tokens.specs.declared.control.Pairs.{Pairs}

-- the head with a further kind
abbrev pub with_kind : Head → Kind → Head
with_kind head Ins = record head { ins = true }
with_kind head Del = record head { del = true }
with_kind head Upd = record head { upd = true }

-- the second kinds of blocks, by their first kind
abbrev pub seconds_of : Pairs → Kind → Seconds
seconds_of seen Ins = seen.ins
seconds_of seen Del = seen.del
seconds_of seen Upd = seen.upd

abbrev pub with_seconds : Pairs → Kind → Seconds → Pairs
with_seconds seen Ins seconds = record seen { ins = seconds }
with_seconds seen Del seconds = record seen { del = seconds }
with_seconds seen Upd seconds = record seen { upd = seconds }

abbrev pub has_second : Seconds → Kind → Bool
has_second seconds Ins = seconds.ins
has_second seconds Del = seconds.del
has_second seconds Upd = seconds.upd

abbrev pub with_second : Seconds → Kind → Seconds
with_second seconds Ins = record seconds { ins = true }
with_second seconds Del = record seconds { del = true }
with_second seconds Upd = record seconds { upd = true }

-- the pair of kinds has a block
unfoldable pub has_seen : Pairs → Kind → Kind → Bool
has_seen seen k l = has_second (seconds_of seen k) l

abbrev pub with_pair : Pairs → Kind → Kind → Pairs
with_pair seen k l = with_seconds seen k (with_second (seconds_of seen k) l)

-- some kind is declared
abbrev pub declares_some : Head → Bool
declares_some head = list_any (is_declared head) KINDS

-- the kind comes behind each kind that is declared
abbrev pub comes_next : Head → Kind → Bool
comes_next head k = list_all (λ l. not (is_declared head l) || nat_lt (kind_rank l) (kind_rank k)) KINDS
