-- The files of the machine, which tell nothing of what they hold.
use Rattle.std.specs.Prelude.{ℕ, List, [], Option, Some, None, if◌then◌else◌, is_none}

-- what a name holds is not told
abbrev pub machine_holds : List ℕ → Option (List ℕ)
machine_holds name = None

-- where no file is open nothing is left; what is left of an open one is not told
abbrev pub left_of : {F : Type 0} → Option F → Option (List ℕ)
left_of file = if is_none file then Some [] else None
