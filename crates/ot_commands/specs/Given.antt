-- What a command is answered of the bytes that the calls on a shelf gave of its files.
use Rattle.std.specs.Prelude.{◌≡◌, ◌⊎◌, ℕ, List, Option, IfSome}
use Rattle.std.specs.Option.{ForSome}
use Rattle.ot_outside.specs.Reads.{Reads, after_reading}
use Rattle.ot_replies.specs.declared.reply.Reply.{Reply}
use Rattle.ot_words.specs.Commands.{Asked}
use Rattle.ot_words.specs.Words.{asked_by}
use Rattle.ot_commands.specs.Facts.{FunctionAnd, FunctionText, NoFile, OneFunction, Opens, TwoFunctions}
use Rattle.ot_commands.specs.Replies.{IsReply, IsReplyToOpened, facts_of}
use Rattle.ot_commands.specs.Steady.{AreSteady}

-- In what follows `old` and `new` are what the calls had given before a command and behind it, and `holds` says what
-- names hold.

-- the first file that was opened has this name, and these bytes were given of it
abbrev pub IsReadFirst : Reads → Reads → List ℕ → List ℕ → Type 0
IsReadFirst old new name bytes =
    (new ≡ after_reading name bytes old)
    ⊎ ((other given : List ℕ) × (new ≡ after_reading other given (after_reading name bytes old)))

-- the same of the second
abbrev pub IsReadSecond : Reads → Reads → List ℕ → List ℕ → Type 0
IsReadSecond old new name bytes = (first given : List ℕ)
    × (new ≡ after_reading name bytes (after_reading first given old))

-- the first of two files was opened first, and behind it no other than the second, or none
abbrev pub HaveRead : Reads → Reads → List ℕ → List ℕ → Type 0
HaveRead old new first second =
    (bytes : List ℕ)
    × ((new ≡ after_reading first bytes old) ⊎ ((given : List ℕ)
    × (new ≡ after_reading second given (after_reading first bytes old))))

-- the files were opened in their order, each once, the second one only behind the function's
abbrev pub WereOpened : Reads → Reads → Opens → Type 0
WereOpened old new (NoFile Gets) = Unit {0}
WereOpened old new (OneFunction function Gets) = new ≡ after_reading function new.bytes old
WereOpened old new (FunctionText function Gets) = new ≡ after_reading function new.bytes old
WereOpened old new (FunctionAnd function other Gets) = HaveRead old new function other
WereOpened old new (TwoFunctions function other Gets) = HaveRead old new function other

-- a command has opened its files so
abbrev pub HasRead : Reads → Reads → Asked → Type 0
HasRead old new asked = WereOpened old new (facts_of asked).opens

-- of two files `holds` tells nothing but the bytes that were given
abbrev pub TellBoth : Reads → Reads → (List ℕ → Option (List ℕ)) → List ℕ → List ℕ → Type 0
TellBoth old new holds first second =
    ForSome (holds first) (IsReadFirst old new first) × ForSome (holds second) (IsReadSecond old new second)

-- of the files that are opened `holds` tells nothing but the bytes that were given
abbrev pub TellsOpened : Reads → Reads → (List ℕ → Option (List ℕ)) → Opens → Type 0
TellsOpened old new holds (NoFile Gets) = Unit {0}
TellsOpened old new holds (OneFunction function Gets) = ForSome (holds function) (IsReadFirst old new function)
TellsOpened old new holds (FunctionText function Gets) = ForSome (holds function) (IsReadFirst old new function)
TellsOpened old new holds (FunctionAnd function other Gets) = TellBoth old new holds function other
TellsOpened old new holds (TwoFunctions function other Gets) = TellBoth old new holds function other

-- the same of the files of a command
abbrev pub TellsGiven : Reads → Reads → (List ℕ → Option (List ℕ)) → Asked → Type 0
TellsGiven old new holds asked = TellsOpened old new holds (facts_of asked).opens

-- the files were opened so, and this is the reply to them, whatever is told of what was given; `steady` is what is said
-- of its status
abbrev pub IsReplyOfOpened :
    Reads → Reads → Opens → ((List ℕ → Option (List ℕ)) → Reply → Type 0) → Reply → Type 0
IsReplyOfOpened old new opens steady r =
    WereOpened old new opens
    × ((holds : List ℕ → Option (List ℕ)) → TellsOpened old new holds opens → IsReplyToOpened holds opens r
    × steady holds r)

-- the command has read its files, and this is the reply to it, whatever is told of what was given
abbrev pub IsReplyOfGiven : Reads → Reads → Asked → Reply → Type 0
IsReplyOfGiven old new asked r = IsReplyOfOpened old new (facts_of asked).opens (facts_of asked).steady r

-- this holds whatever is told of a file of which these bytes were given
abbrev pub ForTold : List ℕ → (Option (List ℕ) → Type 0) → Type 0
ForTold given P = (told : Option (List ℕ)) → ForSome told (λ bytes. bytes ≡ given) → P told

-- the same of words
abbrev pub TellsGivenOf : List (List ℕ) → Reads → Reads → (List ℕ → Option (List ℕ)) → Type 0
TellsGivenOf words old new holds = IfSome (asked_by words) (TellsGiven old new holds)

abbrev pub IsAnswerOfGiven : List (List ℕ) → Reads → Reads → Reply → Type 0
IsAnswerOfGiven words old new r =
    IfSome (asked_by words) (HasRead old new)
    × ((holds : List ℕ → Option (List ℕ)) → TellsGivenOf words old new holds → IsReply words holds r
    × AreSteady words holds r)
