-- Which reply a head gets of which a function to begin with is asked for.
use Rattle.std.specs.Prelude.{◌≡◌, ◌⊎◌, Bool, true, false, Ok}
use Rattle.fn_rules.specs.declared.function.Head.{Head}
use Rattle.fn_rules.specs.declared.function.Level.{Level}
use Rattle.fn_rules.specs.declared.function.Level.TheVariants.{Tp1, Tp2}
use Rattle.fn_grammar.specs.Print.{printed}
use Rattle.fn_text.specs.Reading.{function_in}
use Rattle.ot_heads.specs.Heads.{inserts_and_deletes_on_plain}
use Rattle.ot_heads.specs.Templates.{template_of}
use Rattle.ot_replies.specs.declared.reply.Reply.{Reply}
use Rattle.ot_replies.specs.declared.reply.Reply.TheVariants.{NoTemplate, Templated}
use Rattle.ot_commands.specs.Facts.{Facts, NoFile, NothingMore}

-- no function of the head has the level
abbrev pub has_none : Level → Head → Bool
has_none Tp1 head = false
has_none Tp2 head = inserts_and_deletes_on_plain head

-- the reply to a level and a head: that there is none, or the canonical text of the template, which is read as the
-- template again
abbrev pub IsReplyToTemplate : Level → Head → Reply → Type 0
IsReplyToTemplate level head r =
    ((has_none level head ≡ true) × (r ≡ NoTemplate))
    ⊎ ((has_none level head ≡ false) × (function_in (printed (template_of head)) ≡ Ok (template_of head))
    × (r ≡ Templated (printed (template_of head))))

-- the facts of the command
abbrev pub template_facts : Level → Head → Facts
template_facts level head = record { opens = NoFile (IsReplyToTemplate level head); steady = NothingMore }
