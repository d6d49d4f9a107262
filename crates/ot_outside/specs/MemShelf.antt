-- A shelf in memory, as its callers see it.
use Rattle.std.specs.Prelude.{ℕ, Bool, List, [], Option, Some, None, drop}
use Rattle.ot_outside.specs.declared.mem_shelf.MemShelf.{MemShelf}
use Rattle.ot_outside.specs.declared.mem_shelf.OpenFile.{OpenFile}
use Rattle.ot_outside.specs.Counts.{next_is_listed}
use Rattle.ot_outside.specs.Files.{Files, contents_at, held}
use Rattle.ot_outside.specs.Reads.{Reads, reads_of}

-- what a name holds
abbrev pub shelf_holds : MemShelf → List ℕ → Option (List ℕ)
shelf_holds shelf name = held shelf.files.items name

-- what is left of the file at a place
abbrev pub left_in_file : Files → Option OpenFile → List ℕ
left_in_file files None = []
left_in_file files (Some place) = drop place.taken (contents_at files place.file)

-- what is left of the open file
abbrev pub shelf_left : MemShelf → List ℕ
shelf_left shelf = left_in_file shelf.files.items shelf.opened

-- the numbers of the calls that fail
abbrev pub failing_calls : MemShelf → List ℕ
failing_calls shelf = shelf.counts.failing.items

-- how many calls there were, up to the last value of a u64
abbrev pub call_count : MemShelf → ℕ
call_count shelf = shelf.counts.calls

-- how many of them failed, up to the last value of a u64
abbrev pub fault_count : MemShelf → ℕ
fault_count shelf = shelf.counts.faults

-- the next call is listed as one that fails
abbrev pub fails_next : MemShelf → Bool
fails_next shelf = next_is_listed shelf.counts

-- what its calls gave
abbrev pub reads_by : MemShelf → Reads
reads_by shelf = reads_of shelf.noted
