-- Where a judge stands in the bytes of a feed, and what it knows there of what it judged before.
use Rattle.std.specs.Prelude.{◌≡◌, ℕ, ◌+◌, List, [], ◌∷◌, ◌++◌, length, Option, Some, None, Result, Err}
use Rattle.diff_graph.specs.declared.lit.Lit.{Lit}
use Rattle.fn_rules.specs.declared.function.ObName.{ObName}
use Rattle.ask_core.specs.Plans.{Plan, premised}
use Rattle.ask_core.specs.Trees.{Branch}
use Rattle.cert_text.specs.declared.item.Item.{Item}
use Rattle.cert_text.specs.declared.item.CertError.{CertError}
use Rattle.cert_text.specs.Places.{PartPlace, Start, Line, Tree, Finish, Stands, part_text, place_after}
use Rattle.cert_text.specs.Reading.{ReaderState, Reading, Refused, EndsThere}
use Rattle.ot_outside.specs.declared.feed.Feed.{Ghosts}
use Rattle.refusals.specs.declared.refusal.JudgeError.{JudgeError}
use Rattle.ot_sections.specs.Feeding.{Fed, Has, Whole, Yields}
use Rattle.ot_sections.specs.Parts.{IsJudged, IsRefused, Point}
use Rattle.refusals.specs.Spelling.{end_of_spelling}

-- the place of a reader, how many bytes stand before the part that it reads, and what came of that part
abbrev pub reader_place_of : ReaderState → PartPlace
reader_place_of (Reading place offset begun) = place
reader_place_of (Refused refusal) = Finish

abbrev pub reader_offset_of : ReaderState → ℕ
reader_offset_of (Reading place offset begun) = offset
reader_offset_of (Refused refusal) = 0

abbrev pub begun_of : ReaderState → List ℕ
begun_of (Reading place offset begun) = begun
begun_of (Refused refusal) = []

-- a reader between two parts
abbrev pub IsBetween : ReaderState → Type 0
IsBetween r = r ≡ Reading (reader_place_of r) (reader_offset_of r) []

-- a place in a tree of which so many branches are open
abbrev pub IsTreeOf : ℕ → PartPlace → Type 0
IsTreeOf count (Tree came names branches) = branches ≡ count
IsTreeOf count (Start tp1 tp2) = ⊥
IsTreeOf count (Line came names) = ⊥
IsTreeOf count Finish = ⊥

-- the place in the same tree where so many branches are open
abbrev pub tree_with : ℕ → PartPlace → PartPlace
tree_with count (Tree came names branches) = Tree came names count
tree_with count (Start tp1 tp2) = Start tp1 tp2
tree_with count (Line came names) = Line came names
tree_with count Finish = Finish

-- the one branch that an obligation with this plan opens
abbrev pub opened : {W : Type 0} → Plan W → List (Branch W)
opened p = record { plan = p; answers = [] } ∷ []

-- the plan behind the premise, if there is one
abbrev pub plan_behind : {W : Type 0} → Option Lit → Plan W → Plan W
plan_behind None p = p
plan_behind (Some premise) p = premised premise p

-- a judge between two parts: its reader, its feed, and the open branches
pub record Stand (F W : Type 0) : Type 0 where
  pub at : Fed F
  pub branches : List (Branch W)

abbrev pub stand : {F W : Type 0} → Fed F → List (Branch W) → Stand F W
stand at branches = record { at = at; branches = branches }

-- its point of the certificate
abbrev pub point_of : {F W : Type 0} → Stand F W → Point W
point_of s =
    record { place = reader_place_of s.at.reader; offset = reader_offset_of s.at.reader; branches = s.branches }

-- a part comes of a reader between two parts: it stands there, and the reader is behind it
pub record ComesOfReader (was : ReaderState) (item : Item) (now : ReaderState) : Type 0 where
  pub offset : item.offset ≡ reader_offset_of was
  pub stands : Stands (reader_place_of was) item.part
  pub behind :
      now ≡ Reading (place_after (reader_place_of was) item.part)
      (reader_offset_of was + length (part_text (reader_place_of was) item.part)) []

-- and its bytes are taken of the feed: before them it might give these and then what it may give behind them
pub record Came {F : Type 0} (feeds : Ghosts F) (was now : Fed F) (item : Item) : Type 0 where
  pub part : ComesOfReader was.reader item now.reader
  pub bytes :
      (all : Whole) (rest : List ℕ) → Yields feeds now.feed all rest
      → Yields feeds was.feed all (part_text (reader_place_of was.reader) item.part ++ rest)

-- nothing is left, and nothing was before
abbrev pub IsOver : {F : Type 0} → Ghosts F → Fed F → F → Type 0
IsOver feeds was now = (all : Whole) → Has feeds now all → Yields feeds was.feed all []

-- some bytes that the feed might give behind a reader between two parts are refused by their spelling
abbrev pub IsMisspeltBehind : {F : Type 0} → Ghosts F → Fed F → F → JudgeError → Type 0
IsMisspeltBehind feeds was now e =
    (all : Whole) → Has feeds now all → IsRefused e
    → (bytes : List ℕ) × Yields feeds was.feed all bytes
    × ((c : CertError) × EndsThere (reader_place_of was.reader) (reader_offset_of was.reader) bytes (Err c)
    × (e ≡ end_of_spelling c))

-- what is judged at a later stand, of bytes that the feed may give there, is judged at the earlier one, of bytes that
-- it might give
abbrev pub StandLeads : {F W : Type 0} → Ghosts F → (ObName → Plan W) → Stand F W → Stand F W → Type 0
StandLeads feeds plan was now =
    (all : Whole) (rest : List ℕ) → Yields feeds now.at.feed all rest
    → (bytes : List ℕ) × Yields feeds was.at.feed all bytes
    × ((end : Result (Unit {0}) JudgeError) → IsJudged plan end (point_of now) rest
    → IsJudged plan end (point_of was) bytes)

-- some bytes that the feed might give behind a stand are judged so
abbrev pub IsJudgedBehind :
    {F W : Type 0} → Ghosts F → (ObName → Plan W) → Stand F W → F → Result (Unit {0}) JudgeError → Type 0
IsJudgedBehind feeds plan was now end =
    (all : Whole) → Has feeds now all → (bytes : List ℕ) × Yields feeds was.at.feed all bytes
    × IsJudged plan end (point_of was) bytes

-- they are refused so, if that is a refusal
abbrev pub IsRefusedBehind : {F W : Type 0} → Ghosts F → (ObName → Plan W) → Stand F W → F → JudgeError → Type 0
IsRefusedBehind feeds plan was now e = IsRefused e → IsJudgedBehind feeds plan was now (Err e)

-- the same of a part of a certificate in which no obligation's line stands, whatever the plans of the obligations are
abbrev pub LeadsAnyway : {F W : Type 0} → Ghosts F → Stand F W → Stand F W → Type 0
LeadsAnyway {W = W} feeds was now = (plan : ObName → Plan W) → StandLeads feeds plan was now

abbrev pub IsRefusedAnyway : {F W : Type 0} → Ghosts F → Stand F W → F → JudgeError → Type 0
IsRefusedAnyway {W = W} feeds was now e = (plan : ObName → Plan W) → IsRefusedBehind feeds plan was now e
