-- A feed of a shelf's open file, as its callers see it.
use Rattle.std.specs.Prelude.{◌≡◌, ℕ, ◌+◌, List, length, Option, Some, ◌++◌, option_map, take, drop}
use Rattle.std.specs.Io.KnownBytes.{prepend_known}
use Rattle.ot_outside.specs.declared.shelf.Shelf.{Ghosts}
use Rattle.ot_outside.specs.declared.shelf_feed.ShelfFeed.{ShelfFeed}
use Rattle.ot_outside.specs.Reads.{IsSameReading}
use Rattle.ot_outside.specs.Unchanged.{Unchanged}

-- the shelf as it stands, of which no other call can be made while the feed holds it
abbrev pub shelf_of : {S : Type 0} {shelf : Ghosts S} → ShelfFeed S shelf → S
shelf_of feed = feed.shelf.now

-- the reference by which it is held
abbrev pub held_by : {S : Type 0} {shelf : Ghosts S} → ShelfFeed S shelf → Option ℕ
held_by feed = Some feed.shelf.ghost_name

-- how many bytes may still be given: the limit less those that were given
abbrev pub room_of : {S : Type 0} {shelf : Ghosts S} → ShelfFeed S shelf → ℕ
room_of feed = feed.room

-- the bytes that it gave so far
abbrev pub gave_by : {S : Type 0} {shelf : Ghosts S} → ShelfFeed S shelf → List ℕ
gave_by feed = feed.given.bytes

-- those that were read and not given yet
abbrev pub unread_of : {S : Type 0} {shelf : Ghosts S} → ShelfFeed S shelf → List ℕ
unread_of feed = drop feed.at (take feed.filled feed.piece)

-- the bytes that the shelf's calls gave of the open file are those that it gave, and then those that it has not given
-- yet
abbrev pub IsAllOfReads : {S : Type 0} {shelf : Ghosts S} → ShelfFeed S shelf → Type 0
IsAllOfReads {shelf = shelf} feed = (shelf.reads feed.shelf.now).bytes ≡ gave_by feed ++ unread_of feed

-- what is left of the open file: what was read and not given yet, and then what is left of the shelf
abbrev pub file_left : {S : Type 0} {shelf : Ghosts S} → ShelfFeed S shelf → Option (List ℕ)
file_left {shelf = shelf} feed = prepend_known (drop feed.at (take feed.filled feed.piece)) (shelf.left feed.shelf.now)

-- of that, what the feed still gives
abbrev pub feed_left : {S : Type 0} {shelf : Ghosts S} → ShelfFeed S shelf → Option (List ℕ)
feed_left feed = option_map (take feed.room) (file_left feed)

-- those of them that were read: the bytes at hand
abbrev pub hand_of : {S : Type 0} {shelf : Ghosts S} → ShelfFeed S shelf → List ℕ
hand_of feed = take feed.room (drop feed.at (take feed.filled feed.piece))

-- and what stands behind what it gives: the bytes of the file beyond the limit
abbrev pub beyond_limit : {S : Type 0} {shelf : Ghosts S} → ShelfFeed S shelf → Option (List ℕ)
beyond_limit feed = option_map (drop feed.room) (file_left feed)

-- between two states of a feed: its shelf holds and offers what it did and opened no other file, what was read of the
-- open one is still what it gave and has not given yet, and the limit and the bytes beyond it are the same
pub record KeepsShelf {S : Type 0} {shelf : Ghosts S} (old new : ShelfFeed S shelf) : Type 0 where
  pub unchanged : Unchanged shelf.holds shelf.offered shelf.faults (shelf_of old) (shelf_of new)
  pub reading : IsSameReading (shelf.reads (shelf_of old)) (shelf.reads (shelf_of new))
  pub read : IsAllOfReads old → IsAllOfReads new
  pub same_limit : length (gave_by new) + room_of new ≡ length (gave_by old) + room_of old
  pub beyond : beyond_limit new ≡ beyond_limit old
