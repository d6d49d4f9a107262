-- What a feed keeps of the shelf that it holds.
use Rattle.std.proofs.Common.{ℕ, List, Option, ◌∙◌, refl, arith}
use Rattle.ot_outside.specs.declared.shelf.Shelf.{Ghosts}
use Rattle.ot_outside.specs.declared.shelf_feed.ShelfFeed.{ShelfFeed}
use Rattle.ot_outside.specs.Reads.{IsSameReading, Reads}
use Rattle.ot_outside.specs.ShelfFeed.{KeepsShelf}
use Rattle.ot_outside.specs.Unchanged.{Unchanged}

-- a feed that still keeps what it kept keeps how it stood
pub kept_since :
    {S : Type 0} {shelf : Ghosts S} (old new : ShelfFeed S shelf)
    → ((before : ShelfFeed S shelf) → KeepsShelf before old → KeepsShelf before new) → KeepsShelf old new
kept_since old new still =
    still old (record {
      unchanged = record { same_files = λ n. refl; same_offer = λ n. (λ h. h, λ h. h); more_faults = omega arith };
      reading = record { same_name = refl; same_before = refl };
      read = λ all. all;
      same_limit = refl;
      beyond = refl;
    })

pub reading_on : (one two three : Reads) → IsSameReading one two → IsSameReading two three → IsSameReading one three
reading_on one two three a b =
    record { same_name = b.same_name ∙ a.same_name; same_before = b.same_before ∙ a.same_before }

-- what two calls do not change
pub unchanged_on :
    {S : Type 0} {holds : S → List ℕ → Option (List ℕ)} {offered : S → List ℕ → Type 0}
    {faults : S → ℕ} (one two three : S)
    → Unchanged holds offered faults one two → Unchanged holds offered faults two three
    → Unchanged holds offered faults one three
unchanged_on one two three a b =
    record {
      same_files = λ n. b.same_files n ∙ a.same_files n;
      same_offer =
          λ n. (λ h. (b.same_offer n).0 ((a.same_offer n).0 h), λ h. (a.same_offer n).1 ((b.same_offer n).1 h));
      more_faults = omega (arith, a.more_faults, b.more_faults);
    }
