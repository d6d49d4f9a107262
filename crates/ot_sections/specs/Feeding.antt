-- What a judge gets of a feed through a reader, and what no call does to a feed.
use Rattle.std.specs.Prelude.{◌≡◌, ℕ, Bool, true, ◌+◌, ◌≤◌, List, [], ◌++◌, length, Option, Result, IfOk, IfErr}
use Rattle.std.specs.Option.{ForSome, ForNone}
use Rattle.std.specs.Io.KnownBytes.{IsAtEnd}
use Rattle.cert_text.specs.Reading.{ReaderState, fed_to}
use Rattle.ot_outside.specs.Faults.{Rose}
use Rattle.ot_outside.specs.declared.feed.Feed.{Ghosts}
use Rattle.refusals.specs.declared.refusal.Refusal.TheVariants as why
use Rattle.refusals.specs.declared.refusal.JudgeError.{JudgeError}
use Rattle.refusals.specs.declared.refusal.JudgeError.TheVariants as judge

-- no call lets the count of a feed's faults fall, or its bound rise, or puts another object in the place of the
-- one that it holds, or gives up what the feed kept until then
pub record IsKeptFeed {F : Type 0} (faults bound : F → ℕ) (held : F → Option ℕ) (keeps : F → F → Type 0) (old new : F) :
    Type 0 where
  pub more_faults : faults old ≤ faults new
  pub no_more_bytes : bound new ≤ bound old
  pub same_object : held new ≡ held old
  pub still_keeps : (before : F) → keeps before old → keeps before new

-- a feed may give these bytes and then end: they are those that it tells, where it tells them, and otherwise no more
-- than it can give
unfoldable pub MayGive : {F : Type 0} → (F → Option (List ℕ)) → (F → ℕ) → F → List ℕ → Type 0
MayGive left bound feed bytes =
    ForSome (left feed) (λ told. bytes ≡ told) × ForNone (left feed) (length bytes ≤ bound feed)

-- nothing is left of a feed, and nothing stands at hand
pub record IsSpent {F : Type 0} (left : F → Option (List ℕ)) (hand : F → List ℕ) (feed : F) : Type 0 where
  pub end : IsAtEnd (left feed)
  pub none : hand feed ≡ []

-- bytes that a feed is taken to have in all, and whether those that it has not given are ones that it may give
pub record Whole : Type 0 where
  pub bytes : List ℕ
  pub may : Bool

-- a feed is taken to give these bytes and then to end: what it gave until then and these are all of it
unfoldable pub MayGiveOf : {F : Type 0} → (F → Option (List ℕ)) → (F → ℕ) → (F → List ℕ) → F → Whole → List ℕ → Type 0
MayGiveOf left bound gave feed all bytes = (all.may ≡ true → MayGive left bound feed bytes)
    × (all.bytes ≡ gave feed ++ bytes)

-- these are all of a feed: what it gave, and then some bytes, of which there are none where nothing is left
abbrev pub MayHave :
    {F : Type 0} → (F → Option (List ℕ)) → (F → ℕ) → (F → List ℕ) → (F → List ℕ) → F → Whole → Type 0
MayHave left bound gave hand feed all =
    (rest : List ℕ) × MayGiveOf left bound gave feed all rest × (IsSpent left hand feed → rest ≡ [])

-- the same two of a feed by its ghosts
abbrev pub Yields : {F : Type 0} → Ghosts F → F → Whole → List ℕ → Type 0
Yields feeds feed all bytes = MayGiveOf feeds.left feeds.bound feeds.gave feed all bytes

abbrev pub Has : {F : Type 0} → Ghosts F → F → Whole → Type 0
Has feeds feed all = MayHave feeds.left feeds.bound feeds.gave feeds.hand feed all

-- the error says that the bytes end too early
abbrev pub IsTruncated : JudgeError → Type 0
IsTruncated e = (offset : ℕ) × (e ≡ judge.Refused offset why.Truncated)

-- a reader, and the feed whose bytes it is fed
pub record Fed (F : Type 0) : Type 0 where
  pub reader : ReaderState
  pub feed : F

abbrev pub fed : {F : Type 0} → ReaderState → F → Fed F
fed reader feed = record { reader = reader; feed = feed }

-- the bytes that came and those that may still come are few enough to be counted
abbrev pub count_of : {F : Type 0} → Ghosts F → Fed F → ℕ
count_of feeds at = fed_to at.reader + feeds.bound at.feed

-- how a call leaves a reader and its feed, whatever it judges: nothing is given up, what is still to come is no more,
-- bytes that end too early are all that there are, and it says that the feed failed only where that did
pub record Leaves {F T : Type 0} (feeds : Ghosts F) (was now : Fed F) (answer : Result T JudgeError) : Type 0 where
  pub kept : IsKeptFeed feeds.faults feeds.bound feeds.held feeds.keeps was.feed now.feed
  pub room : IfOk answer (λ _. count_of feeds now ≤ count_of feeds was)
  pub spent : IfErr answer (λ e. IsTruncated e → IsSpent feeds.left feeds.hand now.feed)
  pub failed : IfErr answer (λ e. e ≡ judge.Failed → Rose (feeds.faults was.feed) (feeds.faults now.feed))
