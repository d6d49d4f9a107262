-- The line that no function of those that edits lead to is right.
use Rattle.std.specs.Prelude.{ℕ, List, ◌++◌, codes, Option, Some, None}
use Rattle.std.specs.Fmt.{decimal}
use Rattle.ot_replies.specs.CounterTexts.{line_of}

-- of no function that so many edits lead to, or of any number of edits
abbrev pub not_mended_text : Option ℕ → List ℕ
not_mended_text (Some edits) = line_of (codes "none " ++ decimal edits)
not_mended_text None = line_of (codes "none")
