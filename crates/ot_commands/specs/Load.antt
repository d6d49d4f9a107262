-- What holds of a file that is loaded, and which reply it gets where it is refused.
use Rattle.std.specs.Prelude.{◌≡◌, ℕ, ◌≤◌, ◌⊎◌, true, List, length, Option, Result, Ok, Err, is_ok}
use Rattle.std.specs.Option.{ForSome}
use Rattle.fn_rules.specs.Functions.{Function}
use Rattle.fn_tokens.specs.declared.fault.TextFault.{TextFault}
use Rattle.fn_text.specs.Reading.{function_in}
use Rattle.ot_replies.specs.declared.reply.FileKind.{FileKind}
use Rattle.ot_replies.specs.declared.reply.FileKind.TheVariants as files
use Rattle.ot_replies.specs.declared.reply.Reply.{Reply}
use Rattle.ot_replies.specs.declared.reply.Reply.TheVariants.{FunctionRefused}
use Rattle.ot_replies.specs.declared.reply.Subject.{Subject}
use Rattle.ot_replies.specs.Limits.{limit_of, IsTooLong}

-- In what follows `told` is what a file holds, where the shelf tells it.

-- the file is within its limit and holds these bytes
abbrev pub Holds : FileKind → List ℕ → Option (List ℕ) → Type 0
Holds kind bytes told = (length bytes ≤ limit_of kind) × ForSome told (λ contents. bytes ≡ contents)

-- the file is within its limit and is read as this function, or with this fault
abbrev pub IsReadAs : Result Function TextFault → Option (List ℕ) → Type 0
IsReadAs read told = ForSome told (λ contents. (length contents ≤ limit_of files.Function)
    × (function_in contents ≡ read))

-- the reply to a function's file that is refused, which says which one is meant: the limit first, and then the first
-- fault of its text
abbrev pub IsFunctionRefusal : Subject → Option (List ℕ) → Reply → Type 0
IsFunctionRefusal subject told r =
    IsTooLong files.Function told r ⊎ ((fault : TextFault) × IsReadAs (Err fault) told
    × (r ≡ FunctionRefused subject fault))

-- the reply to a function's file, and then the one that its function gets
abbrev pub IsReplyToFunction : Subject → Option (List ℕ) → (Function → Type 0) → Reply → Type 0
IsReplyToFunction subject told Gets r = IsFunctionRefusal subject told r
    ⊎ ((f : Function) × IsReadAs (Ok f) told × Gets f)

-- the reply to another file, and then the one that its bytes get
abbrev pub IsReplyToFile : FileKind → Option (List ℕ) → (List ℕ → Type 0) → Reply → Type 0
IsReplyToFile kind told Gets r = IsTooLong kind told r ⊎ ((bytes : List ℕ) × Holds kind bytes told × Gets bytes)

-- a command goes on behind a function's file: where that is told, it is within its limit and is read as a function
abbrev pub GoesOnBehind : Option (List ℕ) → Type 0
GoesOnBehind told = ForSome told (λ contents. (length contents ≤ limit_of files.Function)
    × (is_ok (function_in contents) ≡ true))
