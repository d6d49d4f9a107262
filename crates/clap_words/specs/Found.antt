-- What clap finds in words, by what it states of a simple command.
use Rattle.std.specs.Prelude.{ℕ, List, [], ◌∷◌, Option, Some, None}
use Rattle.clap.specs.Words.{App, Row, Kinds, matches_of, fault_of}

-- what clap finds, where it refuses for no kind of error
abbrev pub unless_refused : Kinds → List Row → Option (List Row)
unless_refused [] rows = Some rows
unless_refused (kind ∷ kinds) rows = None

-- what clap finds in the words, unless it refuses them
unfoldable pub found_by : App → List (List ℕ) → Option (List Row)
found_by app words = unless_refused (fault_of app words) (matches_of app words)
