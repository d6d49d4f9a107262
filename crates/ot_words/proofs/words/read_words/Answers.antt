use Rattle.std.proofs.Common.{◌≡◌, Option, IfOk, subst}
use Rattle.std.specs.Prelude.{option_map, string_bytes}
use Rattle.ot_words.specs.Commands.{Asked, asked_of}
use Rattle.ot_words.proofs.Naming.{two_named}
use Rattle.ot_words.proofs.words.read_words.Goals as goal

-- a name that is none of the others asks for a command of two files
pub returns-in_default-as_str : goal.returns-in_default-as_str
returns-in_default-as_str c =
    let other = c.in_default-as_str in
    subst (λ (o : Option Asked). IfOk c.two_in.result (λ command. option_map asked_of command ≡ o))
    (two_named string_bytes c.args.words.now c.name-item.result c.as_str.result.now
    c.in-len1-up.len_at_least c.name-item.is
    c.as_str.ensures.value other.not-prove other.not-settle other.not-mend other.not-explain other.not-trace
    other.not-audit
    other.not-least other.not-template other.not-drill) c.two_in.ensures
