-- What the calls on a shelf gave.
use Rattle.std.specs.Prelude.{◌≡◌, ℕ, List, [], ◌∷◌, ◌++◌}
use Rattle.ot_outside.specs.declared.record.Record.{Record}

-- the name that was opened last and the bytes that were given of it since, and the same of each earlier opening, the
-- last one first
pub record Reads : Type 0 where
  pub name : List ℕ
  pub bytes : List ℕ
  pub before : List (List ℕ × List ℕ)

-- a name was opened, and these bytes were given of it
abbrev pub after_reading : List ℕ → List ℕ → Reads → Reads
after_reading name bytes reads = record {
  name = name;
  bytes = bytes;
  before = (reads.name, reads.bytes)
      ∷ reads.before;
}

-- these bytes were given behind the others
abbrev pub gone_on : List ℕ → Reads → Reads
gone_on piece reads = record { name = reads.name; bytes = reads.bytes ++ piece; before = reads.before }

-- no name was opened between, and of the earlier openings nothing is lost
pub record IsSameReading (old new : Reads) : Type 0 where
  pub same_name : new.name ≡ old.name
  pub same_before : new.before ≡ old.before

-- nothing was opened
abbrev pub no_reads : Reads
no_reads = record { name = []; bytes = []; before = [] }

-- what a record says
abbrev pub reads_of : Record → Reads
reads_of r = record { name = r.name; bytes = r.bytes; before = r.before }
