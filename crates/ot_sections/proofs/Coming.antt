-- What comes of a reader that is fed pieces of bytes.
use Rattle.std.specs.Prelude.{◌↔◌}
use Rattle.std.specs.Option.{ForSome}
use Rattle.std.specs.Io.KnownBytes.{prepend_known, IsAtEnd}
use Rattle.std.proofs.lemmas.List.{append-nil, length-take-le}
use Rattle.std.proofs.Math.Seq.{take-length}
use Rattle.std.proofs.Common.{◌≡◌, ℕ, true, ◌+◌, ◌≤◌, List, [], ◌∷◌, ◌++◌, length, take, Option, Some, None, Result, Ok}
use Rattle.std.proofs.Common.{Err, arith, refl, sym, ap, subst, ◌∙◌, append_assoc, length-append}
use Rattle.cert_text.specs.declared.item.Item.{Item}
use Rattle.cert_text.specs.declared.item.Part.{Part}
use Rattle.cert_text.specs.declared.item.CertError.{CertError}
use Rattle.cert_text.specs.declared.item.CertError.TheVariants as cert
use Rattle.cert_text.specs.Places.{PartPlace, Finish, Stands, part_text, place_after}
use Rattle.cert_text.specs.Reading.{ReaderState, Reading, Refused, EndsThere, Gives, ReadsParts, ReadsOn}
use Rattle.cert_text.specs.Pieces.{EndsWithin, GivesOf, GoesOn}
use Rattle.refusals.specs.declared.refusal.JudgeError.{JudgeError}
use Rattle.refusals.specs.Spelling.{end_of_spelling}
use Rattle.ot_outside.specs.declared.feed.Feed.{Ghosts}
use Rattle.ot_sections.specs.Feeding.{Fed, Has, IsSpent, IsTruncated, MayGive, MayGiveOf, Whole, Yields, fed}
use Rattle.ot_sections.specs.Stands.{Came, IsBetween, IsMisspeltBehind, IsOver, begun_of, reader_offset_of}
use Rattle.ot_sections.specs.Stands.{reader_place_of}

-- told bytes begin with those that are given
told_behind :
    (given rest : List ℕ) (told left : Option (List ℕ)) → told ≡ prepend_known given left
    → ForSome left (λ known. rest ≡ known) → ForSome told (λ known. given ++ rest ≡ known)
told_behind given rest told None took are known is = absurd (cc)
told_behind given rest told (Some bytes) took are known is =
    let whole : given ++ bytes ≡ known = cc in ap (λ (l : List ℕ). given ++ l) (are bytes refl) ∙ whole

untold_behind : (given : List ℕ) (told left : Option (List ℕ)) → told ≡ prepend_known given left
    → told ≡ None → left ≡ None
untold_behind given told None took is = refl
untold_behind given told (Some bytes) took is = absurd (cc)

-- a feed gives these bytes next, and they are taken
pub record Took {F : Type 0} (feeds : Ghosts F) (old new : F) (bytes : List ℕ) : Type 0 where
  pub left : feeds.left old ≡ prepend_known bytes (feeds.left new)
  pub bound : feeds.bound old ≡ feeds.bound new + length bytes
  pub gave : feeds.gave new ≡ feeds.gave old ++ bytes

-- it was asked for a further byte, and gave none yet
pub record IsAsked {F : Type 0} (feeds : Ghosts F) (old new : F) : Type 0 where
  pub left : feeds.left new ≡ feeds.left old
  pub bound : feeds.bound new ≡ feeds.bound old
  pub gave : feeds.gave new ≡ feeds.gave old

-- so many of the bytes at hand are consumed
pub record Consumes {F : Type 0} (feeds : Ghosts F) (old new : F) (count : ℕ) : Type 0 where
  pub left : feeds.left old ≡ prepend_known (take count (feeds.hand old)) (feeds.left new)
  pub bound : feeds.bound old ≡ feeds.bound new + count
  pub gave : feeds.gave new ≡ feeds.gave old ++ take count (feeds.hand old)

module _ {F : Type 0} (feeds : Ghosts F) where
  -- they are taken of the bytes that the feed had before it was asked
  pub took_of :
      (old asked new : F) (piece : List ℕ) (count : ℕ) → (piece ≡ feeds.hand asked) × (count ≤ length piece)
      → IsAsked feeds old asked → Consumes feeds asked new count → Took feeds old new (take count piece)
  took_of old asked new piece count (at_hand, within) same took =
      let text : take count (feeds.hand asked) ≡ take count piece = ap (take count) (sym at_hand) in
      record {
        left =
            sym same.left ∙ took.left ∙ ap (λ (l : List ℕ). prepend_known l (feeds.left new)) text;
        bound = omega (arith, same.bound, took.bound, length-take-le count piece within);
        gave = took.gave ∙ ap (λ (l : List ℕ). l ++ take count (feeds.hand asked)) same.gave
            ∙ ap (λ (l : List ℕ). feeds.gave old ++ l) text;
      }

  given :
      (old new : F) (bytes : List ℕ) → Took feeds old new bytes
      → (rest : List ℕ) → MayGive feeds.left feeds.bound new rest → MayGive feeds.left feeds.bound old (bytes ++ rest)
  unfolding MayGive
  given old new bytes took rest may = (
    told_behind bytes rest (feeds.left old) (feeds.left new) took.left may.0,
    λ none.
        let few = may.1 (untold_behind bytes (feeds.left old) (feeds.left new) took.left none) in
        omega (arith, took.bound, few, length-append bytes rest),
  )

  -- before them it might give these and then what it may give behind them
  pub given_of :
      (old new : F) (bytes : List ℕ) → Took feeds old new bytes
      → (all : Whole) (rest : List ℕ) → Yields feeds new all rest → Yields feeds old all (bytes ++ rest)
  unfolding MayGiveOf
  given_of old new bytes took all rest may = (
    λ t. given old new bytes took rest (may.0 t),
    may.1 ∙ ap (λ (l : List ℕ). l ++ rest) took.gave ∙ append_assoc (feeds.gave old) bytes rest,
  )

  -- a feed that stands as before may give what it might
  same_given : (old new : F) → IsAsked feeds old new → (all : Whole) (rest : List ℕ) → Yields feeds new all rest
      → Yields feeds old all rest
  unfolding MayGiveOf MayGive
  same_given old new same all rest may = rw (← same.left, ← same.bound, ← same.gave) may

  -- where nothing is left, what the feed gave is all
  pub over_by : (was : Fed F) (new : F) → IsAsked feeds was.feed new
      → IsSpent feeds.left feeds.hand new → IsOver feeds was new
  over_by was new same spent all have =
      same_given was.feed new same all []
      (subst (λ (l : List ℕ). Yields feeds new all l) (have.2 spent) have.1)

  -- nothing is left where no further byte was there
  pub spent_by : (old new : F) → IsAsked feeds old new → IsAtEnd (feeds.left old) → feeds.hand new ≡ []
      → IsSpent feeds.left feeds.hand new
  spent_by old new same over none = record { end = rw same.left over; none = none }

none_known : (told : Option (List ℕ)) (bytes : List ℕ) → IsAtEnd told → told ≡ Some bytes → bytes ≡ []
none_known None bytes over is = cc
none_known (Some known) bytes over is = let same : known ≡ bytes = cc in sym same ∙ over

module _ {F : Type 0} (feeds : Ghosts F) where
  -- each feed may have some bytes that it may give
  some_all_of : (feed : F) (told : Option (List ℕ)) → feeds.left feed ≡ told
      → (all : Whole) × (all.may ≡ true) × Has feeds feed all
  unfolding MayGiveOf MayGive
  some_all_of feed None is = (
    record { bytes = feeds.gave feed ++ []; may = true },
    refl,
    ([], (λ t. (λ known told. absurd (cc), λ none. omega arith), refl), λ spent. refl),
  )
  some_all_of feed (Some bytes) is = (
    record { bytes = feeds.gave feed ++ bytes; may = true },
    refl,
    (
      bytes,
      (λ t. (λ known told. cc, λ none. absurd (cc)), refl),
      λ spent. none_known (feeds.left feed) bytes spent.end is,
    ),
  )

  pub some_all : (feed : F) → (all : Whole) × (all.may ≡ true) × Has feeds feed all
  some_all feed = some_all_of feed (feeds.left feed) refl

-- a reader that reads a part, behind an earlier state of it and of its feed
pub record ReadsAt {F : Type 0} (feeds : Ghosts F) (was now : Fed F) : Type 0 where
  pub at : now.reader ≡ Reading (reader_place_of was.reader) (reader_offset_of was.reader) (begun_of now.reader)
  pub bytes :
      (all : Whole) (rest : List ℕ) → Yields feeds now.feed all rest
      → Yields feeds was.feed all (begun_of now.reader ++ rest)

-- between two parts nothing came of the next one
pub not_begun : {F : Type 0} (feeds : Ghosts F) (was : Fed F) → IsBetween was.reader → ReadsAt feeds was was
not_begun feeds was between =
    let none : begun_of was.reader ≡ [] = ap begun_of between in
    record {
      at = between
          ∙ ap (λ (l : List ℕ). Reading (reader_place_of was.reader) (reader_offset_of was.reader) l) (sym none);
      bytes = λ all rest may. subst (λ (l : List ℕ). Yields feeds was.feed all (l ++ rest)) (sym none) may;
    }

-- what comes of a feed that was asked for a further byte comes of the feed before
module _ {F : Type 0} (feeds : Ghosts F) (reader : ReaderState) (old asked : F) (same : IsAsked feeds old asked) where
  pub came_asked : (now : Fed F) (item : Item) → Came feeds (fed reader asked) now item
      → Came feeds (fed reader old) now item
  came_asked now item came =
      record {
        part = came.part;
        bytes =
            λ all rest may.
            same_given feeds old asked same all (part_text (reader_place_of reader) item.part ++ rest)
            (came.bytes all rest may);
      }

  pub misspelt_asked :
      (new : F) (e : JudgeError) → IsMisspeltBehind feeds (fed reader asked) new e
      → IsMisspeltBehind feeds (fed reader old) new e
  misspelt_asked new e misspelt all have refused =
      let bytes = misspelt all have refused in
      (bytes.0, same_given feeds old asked same all bytes.0 bytes.1, bytes.2)

-- it goes on
goes_on_by :
    (old now : ReaderState) (place : PartPlace) (offset byte : ℕ) → old ≡ Reading place offset (begun_of old)
    → Gives old byte (Ok None) now → now ≡ Reading place offset (begun_of old ++ byte ∷ [])
goes_on_by (Reading p o begun) now place offset byte at gives =
    let same_place : p ≡ place = cc in let same_offset : o ≡ offset = cc in
    gives ∙ (cc)
goes_on_by (Refused e) now place offset byte at gives = absurd (cc)

-- bytes within a part leave its place and offset, and are put behind those that came of it
goes_on :
    (old now : ReaderState) (place : PartPlace) (offset : ℕ) (bytes : List ℕ)
    → old ≡ Reading place offset (begun_of old)
    → GoesOn old bytes now → now ≡ Reading place offset (begun_of old ++ bytes)
goes_on old now place offset [] at goes =
    goes ∙ at ∙ ap (λ (l : List ℕ). Reading place offset l) (sym (append-nil (begun_of old)))
goes_on old now place offset (byte ∷ bytes) at (between, gives, way, goes) =
    let is = goes_on_by old between place offset byte at gives in
    let begun : begun_of between ≡ begun_of old ++ byte ∷ [] = ap begun_of is in
    let there : between ≡ Reading place offset (begun_of between) = is
    ∙ ap (λ (l : List ℕ). Reading place offset l) (sym begun) in
    goes_on between now place offset bytes there goes
    ∙ ap (λ (l : List ℕ). Reading place offset l)
    (ap (λ (l : List ℕ). l ++ bytes) begun ∙ append_assoc (begun_of old) (byte ∷ []) bytes)

-- the part that a byte ends stands at its place and offset, and its text is the bytes that came
part_given :
    (old now : ReaderState) (place : PartPlace) (offset byte : ℕ) (item : Item)
    → old ≡ Reading place offset (begun_of old)
    → Gives old byte (Ok (Some item)) now
    → (item.offset ≡ offset) × Stands place item.part × (begun_of old ++ byte ∷ [] ≡ part_text place item.part)
    × (now ≡ Reading (place_after place item.part) (offset + length (begun_of old) + 1) [])
part_given (Reading p o begun) now place offset byte item at gives =
    let same_place : p ≡ place = cc in let same_offset : o ≡ offset = cc in
    subst (λ (x : PartPlace). (item.offset ≡ offset) × Stands x item.part × (begun ++ byte ∷ [] ≡ part_text x item.part)
    × (now ≡ Reading (place_after x item.part) (offset + length begun + 1) [])) same_place
    (subst (λ (n : ℕ). (item.offset ≡ n) × Stands p item.part × (begun ++ byte ∷ [] ≡ part_text p item.part)
    × (now ≡ Reading (place_after p item.part) (n + length begun + 1) [])) same_offset gives)
part_given (Refused e) now place offset byte item at gives = absurd (cc)

module _ {F : Type 0} (feeds : Ghosts F) (was old now : Fed F) (reads : ReadsAt feeds was old) where
  -- a piece in which no part ends
  pub reads_more :
      (piece : List ℕ) (taken : ℕ) → Took feeds old.feed now.feed (take taken piece)
      → GivesOf old.reader piece taken (Ok None) now.reader → ReadsAt feeds was now
  reads_more piece taken took gives =
      let all : take taken piece ≡ piece = rw gives.0 (take-length piece) in
      let is = goes_on old.reader now.reader (reader_place_of was.reader) (reader_offset_of was.reader)
      piece reads.at gives.1 in
      let begun : begun_of now.reader ≡ begun_of old.reader ++ take taken piece =
      ap begun_of is ∙ ap (λ (l : List ℕ). begun_of old.reader ++ l) (sym all) in
      record {
        at = is ∙ ap (λ (l : List ℕ). Reading (reader_place_of was.reader) (reader_offset_of was.reader) l)
            (sym (ap begun_of is));
        bytes =
            λ every rest may.
            subst (λ (l : List ℕ). Yields feeds was.feed every l)
            (sym (append_assoc (begun_of old.reader) (take taken piece) rest)
            ∙ ap (λ (l : List ℕ). l ++ rest) (sym begun))
            (reads.bytes every (take taken piece ++ rest)
            (given_of feeds old.feed now.feed (take taken piece) took every rest may));
      }

  -- bytes of which the last one ends a part
  pub part_comes :
      (piece : List ℕ) (taken : ℕ) (item : Item) → Took feeds old.feed now.feed (take taken piece)
      → EndsWithin old.reader piece taken (Ok (Some item)) now.reader → Came feeds was now item
  part_comes piece taken item took (within, (front, byte, between, text, goes, gives)) =
      let is = goes_on old.reader between (reader_place_of was.reader)
      (reader_offset_of was.reader) front reads.at goes in
      let begun : begun_of between ≡ begun_of old.reader ++ front = ap begun_of is in
      let there : between ≡ Reading (reader_place_of was.reader) (reader_offset_of was.reader) (begun_of between) =
      is ∙ ap (λ (l : List ℕ). Reading (reader_place_of was.reader) (reader_offset_of was.reader) l) (sym begun) in
      let given = part_given between now.reader (reader_place_of was.reader)
      (reader_offset_of was.reader) byte item there gives in
      let count : length (part_text (reader_place_of was.reader) item.part) ≡ length (begun_of between) + 1 =
      sym (ap length given.2) ∙ length-append (begun_of between) (byte ∷ []) in
      let here : reader_offset_of was.reader + length (begun_of between) + 1
      ≡ reader_offset_of was.reader + length (part_text (reader_place_of was.reader) item.part) =
      omega (arith, count) in
      let spelled : begun_of old.reader ++ take taken piece ≡ part_text (reader_place_of was.reader) item.part =
      ap (λ (l : List ℕ). begun_of old.reader ++ l) text ∙ sym (append_assoc (begun_of old.reader) front (byte ∷ []))
      ∙ ap (λ (l : List ℕ). l ++ byte ∷ []) (sym begun) ∙ given.2 in
      record {
        part = record {
          offset = given.0;
          stands = given.1;
          behind = given.3 ∙ ap (λ (n : ℕ). Reading (place_after (reader_place_of was.reader) item.part) n []) here;
        };
        bytes =
            λ every rest may.
            subst (λ (l : List ℕ). Yields feeds was.feed every l)
            (sym (append_assoc (begun_of old.reader) (take taken piece) rest) ∙ ap (λ (l : List ℕ). l ++ rest) spelled)
            (reads.bytes every (take taken piece ++ rest)
            (given_of feeds old.feed now.feed (take taken piece) took every rest may));
      }

-- a part that came is another one by name
pub came_as :
    {F : Type 0} (feeds : Ghosts F) (was now : Fed F) (item : Item) (p : Part) → item.part ≡ p → Came feeds was now item
    → Came feeds was now (record { offset = item.offset; part = p })
came_as feeds was now item p is came =
    let make : Part → Item = λ q. record { offset = item.offset; part = q } in
    subst (λ (q : Part). Came feeds was now (make q)) is came

-- the bytes that are still to come end there
ends_there :
    (old : ReaderState) (place : PartPlace) (offset : ℕ) (bytes : List ℕ) (end : Result (Unit {0}) CertError)
    → old ≡ Reading place offset (begun_of old) → ReadsParts old bytes [] end
    → EndsThere place offset (begun_of old ++ bytes) end
ends_there (Reading p o begun) place offset bytes end at reads =
    let same_place : p ≡ place = cc in let same_offset : o ≡ offset = cc in
    subst (λ (x : PartPlace). EndsThere x offset (begun ++ bytes) end) same_place
    (subst (λ (n : ℕ). EndsThere p n (begun ++ bytes) end) same_offset reads)
ends_there (Refused e) place offset bytes end at reads = absurd (cc)

-- what a reader says of the bytes that are still to come where it refuses one of these
abbrev pub RefusesBytes : ReaderState → List ℕ → CertError → ReaderState → Type 0
RefusesBytes old bytes e now =
    (rest : List ℕ) (items : List Item) (end : Result (Unit {0}) CertError)
    → ReadsParts old (bytes ++ rest) items end ↔ ReadsOn (Err e) now rest items end

-- bytes do not end too early whatever follows them
not_truncated :
    (place : PartPlace) (offset : ℕ) (begun bytes : List ℕ) (e : CertError) (end : JudgeError)
    → ((rest : List ℕ) → EndsThere place offset (begun ++ (bytes ++ rest)) (Err e)) → end ≡ end_of_spelling e
    → IsTruncated end → ⊥
not_truncated place offset begun bytes (cert.BadToken n) end there named (at, is) = cc
not_truncated place offset begun bytes (cert.Trailing n) end there named (at, is) = cc
not_truncated place offset begun bytes (cert.Truncated n) end there named truncated =
    omega (
      arith,
      (there []).0,
      (there (0 ∷ [])).0,
      length-append begun (bytes ++ []),
      length-append begun (bytes ++ 0 ∷ []),
      length-append bytes [],
      length-append bytes (0 ∷ []),
    )

-- at the end of the bytes
abbrev pub Finishes : ReaderState → Result (Unit {0}) CertError → Type 0
Finishes old result =
    (items : List Item) (end : Result (Unit {0}) CertError)
    → ReadsParts old [] items end ↔ ((items ≡ []) × (end ≡ result))

module _ {F : Type 0} (feeds : Ghosts F) (was old : Fed F) (reads : ReadsAt feeds was old) where
  -- bytes of which the last one is refused
  module _ (bytes : List ℕ) (e : CertError) (now : ReaderState) (refuses : RefusesBytes old.reader bytes e now) where
    refused_there :
        (rest : List ℕ) → EndsThere (reader_place_of was.reader) (reader_offset_of was.reader)
        (begun_of old.reader ++ (bytes ++ rest)) (Err e)
    refused_there rest =
        ends_there old.reader (reader_place_of was.reader) (reader_offset_of was.reader) (bytes ++ rest) (Err e)
        reads.at ((refuses rest [] (Err e)).1 (refl, refl))

    pub bytes_misspelt :
        (end : JudgeError) (new : F) → Took feeds old.feed new bytes → end ≡ end_of_spelling e
        → IsMisspeltBehind feeds was new end
    bytes_misspelt end new took named all have refused = (
      begun_of old.reader ++ (bytes ++ have.0),
      reads.bytes all (bytes ++ have.0) (given_of feeds old.feed new bytes took all have.0 have.1),
      (e, refused_there have.0, named),
    )

    pub refused_early : (end : JudgeError) → end ≡ end_of_spelling e → IsTruncated end → ⊥
    refused_early end =
        not_truncated (reader_place_of was.reader) (reader_offset_of was.reader) (begun_of old.reader)
        bytes e end refused_there

  -- the end of the bytes
  module _ (result : Result (Unit {0}) CertError) (new : F) (over : IsOver feeds old new)
      (finishes : Finishes old.reader result) where
    finished : EndsThere (reader_place_of was.reader) (reader_offset_of was.reader) (begun_of old.reader ++ []) result
    finished =
        ends_there old.reader (reader_place_of was.reader) (reader_offset_of was.reader) [] result reads.at
        ((finishes [] result).1 (refl, refl))

    pub finished_whole : result ≡ Ok tt → (reader_place_of was.reader ≡ Finish) × IsOver feeds was new
    finished_whole ok =
        let end = subst
        (λ (r : Result (Unit {0}) CertError). EndsThere (reader_place_of was.reader) (reader_offset_of was.reader)
        (begun_of old.reader ++ []) r) ok finished in (
          end.0,
          λ all have. subst (λ (l : List ℕ). Yields feeds was.feed all l) end.1
              (reads.bytes all [] (over all have)),
        )

    pub end_misspelt : (e : CertError) (end : JudgeError) → result ≡ Err e → end ≡ end_of_spelling e
        → IsMisspeltBehind feeds was new end
    end_misspelt e end err named all have refused =
        let stops = subst
        (λ (r : Result (Unit {0}) CertError). EndsThere (reader_place_of was.reader) (reader_offset_of was.reader)
        (begun_of old.reader ++ []) r) err finished in
        (begun_of old.reader ++ [], reads.bytes all [] (over all have), (e, stops, named))
