-- The test of a head decides what it says.
use Rattle.std.proofs.Common.{◌≡◌, true, ◌&&◌, refl}
use Rattle.std.proofs.lemmas.Bool.{and_parts}
use Rattle.ot_model.specs.declared.op.Mode.{Mode}
use Rattle.ot_model.specs.declared.op.Mode.TheVariants.{Plain, Tomb}
use Rattle.fn_rules.specs.declared.function.Head.{Head}
use Rattle.ot_heads.specs.Heads.{InsertsAndDeletesOnPlain, inserts_and_deletes_on_plain, is_plain}

plain_by : (mode : Mode) → is_plain mode ≡ true → mode ≡ Plain
plain_by Plain is = refl
plain_by Tomb is = absurd (cc)

pub passed : (head : Head) → inserts_and_deletes_on_plain head ≡ true → InsertsAndDeletesOnPlain head
passed head test =
    let both = and_parts (is_plain head.mode && head.ins) head.del test in
    let first = and_parts (is_plain head.mode) head.ins both.0 in
    record { plain = plain_by head.mode first.0; inserts = first.1; deletes = both.1 }

pub passes : (head : Head) → InsertsAndDeletesOnPlain head → inserts_and_deletes_on_plain head ≡ true
passes head is = rw (is.plain, is.inserts, is.deletes) refl
