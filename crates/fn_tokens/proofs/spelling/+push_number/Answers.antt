use Rattle.std.proofs.Common.{rules, arith, append_assoc}
use Rattle.std.proofs.lemmas.Fmt.{decimal_step}
use Rattle.fn_tokens.proofs.spelling.+push_number.Goals as goal

pub returns-in_ok-push-2 : goal.returns-in_ok-push-2
returns-in_ok-push-2 t c =
    let e = decimal_step c.args.number (omega arith) (omega arith) in
    rw e (search (rules, append_assoc))
