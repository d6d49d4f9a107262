-- What a reader makes of the bytes that are still to come: which parts they give, and where they end.
use Rattle.std.specs.Prelude.{◌≡◌, ◌≢◌, ℕ, ◌+◌, ◌<◌, List, [], ◌∷◌, ◌++◌, length, Option, Some, None, Result, Ok, Err}
use Rattle.std.specs.Prelude.{◌⊎◌}
use Rattle.cert_text.specs.declared.item.Part.{Part}
use Rattle.cert_text.specs.declared.item.Item.{Item}
use Rattle.cert_text.specs.declared.item.CertError.{CertError}
use Rattle.cert_text.specs.declared.item.CertError.TheVariants as cert
use Rattle.cert_text.specs.Places.{PartPlace, Finish, Stands, part_text, place_after}

-- a reader: it reads a token at a place, which begins behind so many bytes of the file and of which these bytes
-- came; or it has refused
pub data ReaderState : Type 0 where
  Reading : PartPlace → ℕ → List ℕ → ReaderState
  Refused : CertError → ReaderState

-- the bytes are a proper front of a part that may stand at the place. The empty front counts
abbrev pub IsFrontOfPart : PartPlace → List ℕ → Type 0
IsFrontOfPart place bytes =
    (bytes ≡ [])
    ⊎ ((p : Part) × (more : List ℕ) × Stands place p × (0 < length more) × (part_text place p ≡ bytes ++ more))

-- no part that may stand at the place begins with the bytes, and they begin with none
abbrev pub HasNoPart : PartPlace → List ℕ → Type 0
HasNoPart place bytes =
    (p : Part) (more : List ℕ) → Stands place p
    → (part_text place p ≡ bytes ++ more → ⊥) × (bytes ≡ part_text place p ++ more → ⊥)

-- no further part is read from the place, behind so many bytes, since the bytes that are left end so
abbrev pub EndsThere : PartPlace → ℕ → List ℕ → Result (Unit {0}) CertError → Type 0
EndsThere place offset bytes (Ok x) = (place ≡ Finish) × (bytes ≡ [])
EndsThere place offset bytes (Err (cert.BadToken at)) =
    (at ≡ offset) × (place ≢ Finish) × (0 < length bytes) × HasNoPart place bytes
EndsThere place offset bytes (Err (cert.Truncated at)) =
    (at ≡ offset + length bytes) × (place ≢ Finish) × IsFrontOfPart place bytes
EndsThere place offset bytes (Err (cert.Trailing at)) = (at ≡ offset) × (place ≡ Finish) × (0 < length bytes)

-- from the place on, behind so many bytes, the bytes give these parts, each with its offset, and end so
abbrev pub ReadsFrom : PartPlace → ℕ → List ℕ → List Item → Result (Unit {0}) CertError → Type 0
ReadsFrom place offset bytes [] end = EndsThere place offset bytes end
ReadsFrom place offset bytes (item ∷ items) end =
    (item.offset ≡ offset) × Stands place item.part
    × ((rest : List ℕ) × (bytes ≡ part_text place item.part ++ rest)
    × ReadsFrom (place_after place item.part) (offset + length (part_text place item.part)) rest items end)

-- the bytes that are still to come give a reader these parts, and end so
abbrev pub ReadsParts : ReaderState → List ℕ → List Item → Result (Unit {0}) CertError → Type 0
ReadsParts (Reading place offset begun) bytes items end = ReadsFrom place offset (begun ++ bytes) items end
ReadsParts (Refused refusal) bytes items end = (items ≡ []) × (end ≡ Err refusal)

-- the same of what a reader gave for a byte and the bytes behind it
abbrev pub ReadsOn : Result (Option Item) CertError → ReaderState → List ℕ → List Item → Result (Unit {0}) CertError
    → Type 0
ReadsOn (Ok None) now rest items end = ReadsParts now rest items end
ReadsOn (Ok (Some item)) now rest [] end = ⊥
ReadsOn (Ok (Some item)) now rest (first ∷ items) end = (first ≡ item) × ReadsParts now rest items end
ReadsOn (Err refusal) now rest items end = (items ≡ []) × (end ≡ Err refusal)

-- what a reader at a place gives for a byte: nothing while it goes on in a token, the part that the byte ends,
-- with its offset, or the refusal
abbrev pub Gives : ReaderState → ℕ → Result (Option Item) CertError → ReaderState → Type 0
Gives (Reading place offset begun) byte (Ok None) now = now ≡ Reading place offset (begun ++ byte ∷ [])
Gives (Reading place offset begun) byte (Ok (Some item)) now =
    (item.offset ≡ offset) × Stands place item.part × (begun ++ byte ∷ [] ≡ part_text place item.part)
    × (now ≡ Reading (place_after place item.part) (offset + length begun + 1) [])
Gives (Reading place offset begun) byte (Err (cert.Truncated at)) now = ⊥
Gives (Reading place offset begun) byte (Err refusal) now =
    (now ≡ Refused refusal) × EndsThere place offset (begun ++ byte ∷ []) (Err refusal)
Gives (Refused refusal) byte result now = (result ≡ Err refusal) × (now ≡ Refused refusal)

-- how many bytes it was fed, where it goes on
abbrev pub fed_to : ReaderState → ℕ
fed_to (Reading place offset begun) = offset + length begun
fed_to (Refused refusal) = 0
