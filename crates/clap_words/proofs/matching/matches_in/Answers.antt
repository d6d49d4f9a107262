-- Where clap takes the words, no kind of error comes; where one comes that is not want of memory, it refuses them.
use Rattle.std.proofs.Common.{map, sym, ◌∙◌}
use Rattle.std.specs.Prelude.{string_bytes}
use Rattle.std.proofs.lemmas.Bool.{and_parts}
use Rattle.clap.specs.Words.{app_of}
use Rattle.clap_words.proofs.NamesRead.{found_by-refused, found_by-taken, only_memory}
use Rattle.clap_words.proofs.matching.matches_in.Goals as goal

pub returns-in-Ok : goal.returns-in-Ok
returns-in-Ok c =
    found_by-taken (app_of c.args.command) (map string_bytes c.args.words.now) _
    (c.in-Ok.ensures.kinds c.requires) (c.in-Ok.ensures.matches (and_parts _ _ c.requires).0).0

pub returns : goal.returns
returns c = sym (found_by-refused (app_of c.args.command) (map string_bytes c.args.words.now)
    (λ none. c.in_default.not-OutOfMemory (c.kind.ensures
    ∙ only_memory _ c.in-Err.error none (c.in-Err.ensures.kinds c.requires))))
