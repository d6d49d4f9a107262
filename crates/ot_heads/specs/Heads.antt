-- Heads by what they can have.
use Rattle.std.specs.Prelude.{◌≡◌, Bool, true, false, ◌&&◌}
use Rattle.ot_model.specs.declared.op.Mode.{Mode}
use Rattle.ot_model.specs.declared.op.Mode.TheVariants.{Plain, Tomb}
use Rattle.fn_rules.specs.declared.function.Head.{Head}

-- the head is of plain text, and has insertions and deletions
pub record InsertsAndDeletesOnPlain (head : Head) : Type 0 where
  pub plain : head.mode ≡ Plain
  pub inserts : head.ins ≡ true
  pub deletes : head.del ≡ true

-- the same as a test
abbrev pub is_plain : Mode → Bool
is_plain Plain = true
is_plain Tomb = false

abbrev pub inserts_and_deletes_on_plain : Head → Bool
inserts_and_deletes_on_plain head = is_plain head.mode && head.ins && head.del
