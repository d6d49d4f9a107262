-- What a feed of a shelf's file keeps over calls.
use Rattle.std.proofs.Common.{◌≡◌, ℕ, ◌+◌, List, length, Option, refl, ◌∙◌, arith}
use Rattle.ot_outside.specs.declared.shelf.Shelf.{Ghosts}
use Rattle.ot_outside.specs.declared.shelf_feed.ShelfFeed.{ShelfFeed}
use Rattle.ot_outside.specs.Reads.{IsSameReading, Reads}
use Rattle.ot_outside.specs.Unchanged.{Unchanged}
use Rattle.ot_outside.specs.ShelfFeed.{KeepsShelf, IsAllOfReads, beyond_limit, gave_by, room_of, shelf_of}

-- a call that leaves the shelf unchanged and reads on keeps what was kept before it
pub kept_on :
    {S : Type 0} {shelf : Ghosts S} (before old new : ShelfFeed S shelf) → KeepsShelf before old
    → Unchanged shelf.holds shelf.offered shelf.faults (shelf_of old) (shelf_of new)
    → IsSameReading (shelf.reads (shelf_of old)) (shelf.reads (shelf_of new)) → (IsAllOfReads old → IsAllOfReads new)
    → length (gave_by new) + room_of new ≡ length (gave_by old) + room_of old
    → beyond_limit new ≡ beyond_limit old → KeepsShelf before new
kept_on before old new kept unchanged reading read limit beyond =
    record {
      unchanged = record {
        same_files = λ n. unchanged.same_files n ∙ kept.unchanged.same_files n;
        same_offer = λ n. (
          λ h. (unchanged.same_offer n).0 ((kept.unchanged.same_offer n).0 h),
          λ h. (kept.unchanged.same_offer n).1 ((unchanged.same_offer n).1 h),
        );
        more_faults = omega (arith, unchanged.more_faults, kept.unchanged.more_faults);
      };
      reading = record {
        same_name = reading.same_name ∙ kept.reading.same_name;
        same_before = reading.same_before ∙ kept.reading.same_before;
      };
      read = λ all. read (kept.read all);
      same_limit = limit ∙ kept.same_limit;
      beyond = beyond ∙ kept.beyond;
    }

-- a shelf that no call was made of
pub unchanged_shelf :
    {S : Type 0} (holds : S → List ℕ → Option (List ℕ)) (offered : S → List ℕ → Type 0) (faults : S → ℕ) (s : S)
    → Unchanged holds offered faults s s
unchanged_shelf holds offered faults s =
    record { same_files = λ n. refl; same_offer = λ n. (λ h. h, λ h. h); more_faults = omega arith }

pub same_reading : (reads : Reads) → IsSameReading reads reads
same_reading reads = record { same_name = refl; same_before = refl }
