-- What a reader makes of a piece of bytes that it takes one after another, up to the end of the next part.
use Rattle.std.specs.Prelude.{◌≡◌, ℕ, ◌≤◌, List, [], ◌∷◌, ◌++◌, length, take, Option, Some, None, Result, Ok, Err}
use Rattle.cert_text.specs.declared.item.Item.{Item}
use Rattle.cert_text.specs.declared.item.CertError.{CertError}
use Rattle.cert_text.specs.Reading.{ReaderState, Reading, Refused, Gives, IsFrontOfPart}

-- what came of the part that is being read is a proper front of one that may stand there
abbrev pub IsReaderUnderWay : ReaderState → Type 0
IsReaderUnderWay (Reading place offset begun) = IsFrontOfPart place begun
IsReaderUnderWay (Refused refusal) = Unit {0}

-- one after another the bytes end no part, and each leaves the front of one
abbrev pub GoesOn : ReaderState → List ℕ → ReaderState → Type 0
GoesOn was [] now = now ≡ was
GoesOn was (byte ∷ bytes) now =
    (between : ReaderState) × Gives was byte (Ok None) between × IsReaderUnderWay between × GoesOn between bytes now

-- the last of so many bytes of the piece gives this, and those before it nothing
abbrev pub EndsWithin : ReaderState → List ℕ → ℕ → Result (Option Item) CertError → ReaderState → Type 0
EndsWithin was piece taken result now =
    (taken ≤ length piece)
    × ((front : List ℕ) × (byte : ℕ) × (between : ReaderState) × (take taken piece ≡ front ++ byte ∷ [])
    × GoesOn was front between × Gives between byte result now)

-- fed with the bytes of a piece one after another, a reader takes so many of them and gives this: nothing where it
-- takes all and none of them ends a part, and otherwise what the last one that it takes gives
abbrev pub GivesOf : ReaderState → List ℕ → ℕ → Result (Option Item) CertError → ReaderState → Type 0
GivesOf was piece taken (Ok None) now = (taken ≡ length piece) × GoesOn was piece now
GivesOf was piece taken (Ok (Some item)) now = EndsWithin was piece taken (Ok (Some item)) now
GivesOf was piece taken (Err refusal) now = EndsWithin was piece taken (Err refusal) now
