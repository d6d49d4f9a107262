-- Pieces of bytes that a reader takes one after another.
use Rattle.std.proofs.Common.{◌≡◌, ℕ, ◌+◌, ◌≤◌, ◌<◌, ◌↔◌, inr, List, [], ◌∷◌, ◌++◌, length, get_or, take, drop, Option}
use Rattle.std.proofs.Common.{Some, None, Result, Ok, Err, refl, sym, ap, ◌∙◌, arith, subst, append_assoc}
use Rattle.std.proofs.Common.{length-append}
use Rattle.std.proofs.lemmas.List.{append-nil, length-take-le, take_more}
use Rattle.std.proofs.Math.Seq.{take-length}
use Rattle.fn_rules.specs.declared.function.Level.{Level}
use Rattle.fn_rules.specs.declared.function.ObName.{ObName}
use Rattle.ask_core.specs.declared.tree.Tok.{Tok}
use Rattle.cert_text.specs.declared.item.Part.{Part}
use Rattle.cert_text.specs.declared.item.Part.TheVariants as part
use Rattle.cert_text.specs.declared.item.Item.{Item}
use Rattle.cert_text.specs.declared.item.CertError.{CertError}
use Rattle.cert_text.specs.declared.stage.Stage.{Stage}
use Rattle.cert_text.specs.declared.stage.Stage.TheVariants as stage
use Rattle.cert_text.specs.declared.step.PartFront.{PartFront}
use Rattle.cert_text.specs.declared.step.PartFront.TheVariants as begun
use Rattle.cert_text.specs.Spelling.{IsSpellable, token_text}
use Rattle.cert_text.specs.Stages.{IsSoundFront, begun_text, place_of, state_at}
use Rattle.cert_text.specs.Places.{PartPlace, Stands, Tree, names_of, open_after, part_text, place_after}
use Rattle.cert_text.specs.Reading.{ReaderState, Reading, Gives, IsFrontOfPart, ReadsParts, ReadsOn}
use Rattle.cert_text.specs.Pieces.{IsReaderUnderWay, GoesOn, EndsWithin, GivesOf}
use Rattle.cert_text.proofs.ReadingLemmas.{reads_on, some_text}

-- bytes that are not empty end with a byte
last_of : (bytes : List ℕ) → 0 < length bytes → (front : List ℕ) × (byte : ℕ) × (bytes ≡ front ++ byte ∷ [])
last_of [] some = absurd (omega arith)
last_of (b ∷ []) some = ([], b, refl)
last_of (b ∷ c ∷ bytes) some =
    let more = last_of (c ∷ bytes) (omega arith) in
    (b ∷ more.0, more.1, ap (λ (l : List ℕ). b ∷ l) more.2)

-- through the bytes of a part that stands there, where more of it comes behind them
through_part :
    (place : PartPlace) (offset : ℕ) (p : Part) (begun bytes more : List ℕ) → Stands place p → 0 < length more
    → part_text place p ≡ (begun ++ bytes) ++ more
    → GoesOn (Reading place offset begun) bytes (Reading place offset (begun ++ bytes))
through_part place offset p begun [] more stands some text = ap (Reading place offset) (append-nil begun)
through_part place offset p begun (b ∷ bytes) more stands some text =
    let joined : (begun ++ b ∷ []) ++ bytes ≡ begun ++ b ∷ bytes = append_assoc begun (b ∷ []) bytes in
    let shorter : part_text place p ≡ ((begun ++ b ∷ []) ++ bytes) ++ more = text
    ∙ ap (λ (l : List ℕ). l ++ more) (sym joined) in
    let front : IsFrontOfPart place (begun ++ b ∷ []) =
    inr (
      p,
      bytes ++ more,
      stands,
      omega (arith, length-append bytes more),
      shorter
          ∙ append_assoc (begun ++ b ∷ []) bytes more,
    ) in (
      Reading place offset (begun ++ b ∷ []),
      refl,
      front,
      subst (λ (l : List ℕ). GoesOn (Reading place offset (begun ++ b ∷ [])) bytes (Reading place offset l)) joined
          (through_part place offset p (begun ++ b ∷ []) bytes more stands some shorter),
    )

-- a whole part at the front of a piece, of which nothing came before: fed byte by byte, each byte but the last one
-- leaves a front of it, and the last one ends it
pub whole_part :
    (place : PartPlace) (offset taken : ℕ) (p : Part) (piece : List ℕ) → Stands place p → taken ≤ length piece
    → part_text place p ≡ take taken piece
    → EndsWithin (Reading place offset []) piece taken (Ok (Some (record { offset = offset; part = p })))
    (Reading (place_after place p) (offset + taken) [])
whole_part place offset taken p piece stands within text =
    let last = last_of (part_text place p) (some_text place p stands) in
    let len : offset + taken ≡ offset + length last.0 + 1 =
    omega (
      arith,
      ap length last.2,
      ap length text,
      length-append last.0 (last.1 ∷ []),
      length-take-le taken piece within,
    ) in (
      within,
      (
        last.0,
        last.1,
        Reading place offset last.0,
        sym text ∙ last.2,
        through_part place offset p [] last.0 (last.1 ∷ []) stands (omega arith) last.2,
        (refl, stands, sym last.2, ap (λ n. Reading (place_after place p) n []) len),
      ),
    )

-- one byte further
pub goes_on_more :
    (was between now : ReaderState) (bytes : List ℕ) (byte : ℕ) → GoesOn was bytes between
    → Gives between byte (Ok None) now
    → IsReaderUnderWay now → GoesOn was (bytes ++ byte ∷ []) now
goes_on_more was between now [] byte goes gives way =
    (now, subst (λ (p : ReaderState). Gives p byte (Ok None) now) goes gives, way, refl)
goes_on_more was between now (b ∷ bytes) byte goes gives way =
    (goes.0, goes.1, goes.2, goes_on_more goes.0 between now bytes byte goes.3 gives way)

-- bytes that end no part leave what those behind them give
goes_on_reads :
    (was now : ReaderState) (bytes : List ℕ) → GoesOn was bytes now
    → (rest : List ℕ) (items : List Item) (end : Result (Unit {0}) CertError)
    → ReadsParts was (bytes ++ rest) items end ↔ ReadsParts now rest items end
goes_on_reads was now [] goes rest items end =
    subst (λ (p : ReaderState). ReadsParts was rest items end ↔ ReadsParts p rest items end) (sym goes) (λ h. h, λ h. h)
goes_on_reads was now (b ∷ bytes) goes rest items end =
    let one = reads_on was b (Ok None) goes.0 goes.1 (bytes ++ rest) items end in
    let more = goes_on_reads goes.0 now bytes goes.3 rest items end in
    (λ h. more.0 (one.0 h), λ h. one.1 (more.1 h))

-- bytes up to the end of a part give what their last byte gives, and then what those behind them give
ends_reads :
    (was now : ReaderState) (piece : List ℕ) (taken : ℕ) (result : Result (Option Item) CertError)
    → EndsWithin was piece taken result now
    → (rest : List ℕ) (items : List Item) (end : Result (Unit {0}) CertError)
    → ReadsParts was (take taken piece ++ rest) items end ↔ ReadsOn result now rest items end
ends_reads was now piece taken result (within, (front, byte, between, text, goes, gives)) rest items end =
    let bytes : take taken piece ++ rest ≡ front ++ byte ∷ rest =
    ap (λ (l : List ℕ). l ++ rest) text ∙ append_assoc front (byte ∷ []) rest in
    let before = goes_on_reads was between front goes (byte ∷ rest) items end in
    let last = reads_on between byte result now gives rest items end in
    subst (λ (l : List ℕ). ReadsParts was l items end ↔ ReadsOn result now rest items end) (sym bytes)
    (λ h. last.0 (before.0 h), λ h. before.1 (last.1 h))

-- of a piece that is not empty some bytes are taken, and none behind it
pub ends_within :
    (was now : ReaderState) (piece : List ℕ) (taken : ℕ) (result : Result (Option Item) CertError)
    → EndsWithin was piece taken result now → (taken ≤ length piece) × (0 < taken)
ends_within was now piece taken result (within, (front, byte, between, text, goes, gives)) =
    (within, omega (arith, ap length text, length-append front (byte ∷ []), length-take-le taken piece within))

pub piece_within :
    (was now : ReaderState) (piece : List ℕ) (taken : ℕ) (result : Result (Option Item) CertError)
    → GivesOf was piece taken result now → (taken ≤ length piece) × (0 < length piece → 0 < taken)
piece_within was now piece taken (Ok None) g = (omega (arith, g.0), λ some. omega (arith, g.0))
piece_within was now piece taken (Ok (Some item)) g =
    let h = ends_within was now piece taken (Ok (Some item)) g in (h.0, λ some. h.1)
piece_within was now piece taken (Err refusal) g =
    let h = ends_within was now piece taken (Err refusal) g in (h.0, λ some. h.1)

-- what a piece gives and what is behind the bytes that were taken of it
pub piece_reads :
    (was now : ReaderState) (piece : List ℕ) (taken : ℕ) (result : Result (Option Item) CertError)
    → GivesOf was piece taken result now
    → (rest : List ℕ) (items : List Item) (end : Result (Unit {0}) CertError)
    → ReadsParts was (take taken piece ++ rest) items end ↔ ReadsOn result now rest items end
piece_reads was now piece taken (Ok None) g rest items end =
    let all : take taken piece ≡ piece = rw g.0 (take-length piece) in
    subst (λ (l : List ℕ). ReadsParts was (l ++ rest) items end ↔ ReadsParts now rest items end) (sym all)
    (goes_on_reads was now piece g.1 rest items end)
piece_reads was now piece taken (Ok (Some item)) g rest items end =
    ends_reads was now piece taken (Ok (Some item)) g rest items end
piece_reads was now piece taken (Err refusal) g rest items end =
    ends_reads was now piece taken (Err refusal) g rest items end

-- a front of a cycle grows by the next byte
pub front_grows :
    (bytes : List ℕ) (i b : ℕ) (text longer : List ℕ) → i < length bytes → get_or bytes i 0 ≡ b
    → text ≡ 120 ∷ take i bytes
    → longer ≡ text ++ b ∷ [] → longer ≡ 120 ∷ take (i + 1) bytes
front_grows bytes i b text longer within byte text_is longer_is =
    longer_is ∙ ap (λ (l : List ℕ). l ++ b ∷ []) text_is
    ∙ ap (λ (l : List ℕ). 120 ∷ l)
    (subst (λ (x : ℕ). take i bytes ++ x ∷ [] ≡ take (i + 1) bytes) byte (sym (take_more bytes i 0 within)))

-- digits of a number grow by the next byte
pub digits_grow :
    (bytes : List ℕ) (i b : ℕ) (text longer : List ℕ) → i < length bytes → get_or bytes i 0 ≡ b → text ≡ take i bytes
    → 120 ∷ longer ≡ 120 ∷ (text ++ b ∷ []) → longer ≡ take (i + 1) bytes
digits_grow bytes i b text longer within byte text_is longer_is =
    let same : longer ≡ text ++ b ∷ [] = cc in
    same ∙ ap (λ (l : List ℕ). l ++ b ∷ []) text_is
    ∙ subst (λ (x : ℕ). take i bytes ++ x ∷ [] ≡ take (i + 1) bytes) byte (sym (take_more bytes i 0 within))

-- a whole token ends at a reader that stands between tokens in a tree
pub token_ends :
    (tp1 tp2 : List ObName) (at : Stage) (level : Level) (came branches behind offset taken : ℕ) (b : PartFront)
    (line : List ℕ) (refused : Option CertError) (was : ReaderState) (t : Tok) (piece : List ℕ)
    → state_at refused (place_of tp1 tp2 at) offset (begun_text b) ≡ was → refused ≡ None
    → at ≡ stage.Tree level came branches → b ≡ begun.Line line → IsSoundFront (place_of tp1 tp2 at) b → 0 < branches
    → behind ≡ open_after branches t → IsSpellable t → taken ≤ length piece → token_text t ≡ take taken piece
    → EndsWithin was piece taken (Ok (Some (record { offset = offset; part = part.Tok t })))
    (state_at refused (place_of tp1 tp2 (stage.Tree level came behind)) (offset + taken) (begun_text b))
token_ends tp1 tp2 at level came branches behind offset taken b line refused was t piece is none at_is b_is sound some
    behind_is spellable within text =
    let none_came : line ≡ [] = rw (at_is, b_is) at sound in
    let empty : begun_text b ≡ [] = ap begun_text b_is ∙ none_came in
    let was_is : Reading (Tree came (drop came (names_of tp1 tp2 level)) branches) offset [] ≡ was =
    rw (none, at_is, empty) at is in
    subst
    (λ (p : ReaderState). EndsWithin p piece taken (Ok (Some (record { offset = offset; part = part.Tok t })))
    (state_at refused (place_of tp1 tp2 (stage.Tree level came behind)) (offset + taken) (begun_text b)))
    was_is
    (rw (none, empty, behind_is)
    (whole_part (Tree came (drop came (names_of tp1 tp2 level)) branches) offset taken (part.Tok t) piece
    (some, spellable) within text))
