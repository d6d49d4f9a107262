-- The lines of a workload. Texts are ASCII.
use Rattle.std.specs.Prelude.{ℕ, List, ◌++◌, codes}
use Rattle.std.specs.Fmt.{decimal}
use Rattle.ot_replies.specs.declared.reply.Drilled.{Drilled}
use Rattle.ot_replies.specs.CounterTexts.{line_of}
use Rattle.ot_replies.specs.LevelTexts.{accepted_text}
use Rattle.ot_replies.specs.SessionTexts.{last_line}

-- a word and a number
abbrev pub count_line : List ℕ → ℕ → List ℕ
count_line word n = line_of (word ++ codes " " ++ decimal n)

-- what came of a workload, a line each, and whether two sites differ
abbrev pub drill_text : Drilled → List ℕ
drill_text d =
    count_line (codes "drill") d.number ++ count_line (codes "cases") d.cases ++ accepted_text d.level
    ++ count_line (codes "operations") d.tally.made ++ count_line (codes "held") d.tally.held
    ++ count_line (codes "repeated") d.tally.repeated ++ count_line (codes "cells") d.cells ++ last_line d.differ
