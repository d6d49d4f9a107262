-- Files in memory: their names and what they hold.
use Rattle.std.specs.Prelude.{ℕ, List, [], Option, String, Vec, option_map, slice_get, find, bytes_eq, string_bytes}
use Rattle.std.specs.Prelude.{unwrap_or}
use Rattle.std.specs.declared.alloc.Global.{Global}

-- a list of files
abbrev pub Files : Type 0
Files = List (String Global × Vec ℕ Global)

-- what the first file of this name holds
abbrev pub held : Files → List ℕ → Option (List ℕ)
held files name = option_map (λ file. file.1.items) (find (λ file. bytes_eq (string_bytes file.0) name) files)

-- what the file with this number holds, and nothing where there is none
abbrev pub contents_at : Files → ℕ → List ℕ
contents_at files i = unwrap_or (option_map (λ file. file.1.items) (slice_get files i)) []
