-- Bounds on the number of cells of the documents on which obligations are searched.
use Rattle.std.specs.Prelude.{ℕ, ◌≤◌, Option, Some, None}
use Rattle.ot_sections.specs.declared.premise.TheConstants.{MAX_BOUND}

-- there is no bound, or one that a question may have
abbrev pub IsBound : Option ℕ → Type 0
IsBound None = Unit {0}
IsBound (Some bound) = bound ≤ MAX_BOUND
