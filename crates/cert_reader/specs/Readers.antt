-- A reader, as its callers see it.
use Rattle.cert_reader.specs.declared.reader.Reader.TheInside.{Inside}
use Rattle.cert_text.specs.Reading.{ReaderState}
use Rattle.cert_text.specs.Stages.{IsHeld, begun_text, place_of, state_at}

abbrev pub reader_state_of : Inside → ReaderState
reader_state_of a = state_at a.refused (place_of a.tp1.items a.tp2.items a.stage) a.offset (begun_text a.begun)

abbrev pub HeldIn : Inside → Type 0
HeldIn a = IsHeld a.tp1.items a.tp2.items a.stage a.offset a.begun
