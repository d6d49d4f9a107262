-- The lines of the shortest documents that break a function, and of a certificate that none is shorter.
use Rattle.std.specs.Prelude.{ℕ, List, ◌++◌, codes}
use Rattle.std.specs.Fmt.{decimal}
use Rattle.fn_rules.specs.declared.function.Level.{Level}
use Rattle.cert_text.specs.Spelling.{level_text}
use Rattle.ot_counter.specs.declared.counter.Counter.{Counter}
use Rattle.ot_replies.specs.CounterTexts.{counter_text, line_of}

-- no document breaks a property
abbrev pub unbroken_text : List ℕ
unbroken_text = line_of (codes "none")

-- the lines of the counterexample, and how many cells its document has
abbrev pub shortest_text : Counter → ℕ → List ℕ
shortest_text counter cells = counter_text counter ++ line_of (codes "least " ++ decimal cells)

-- the document has too many cells
abbrev pub bound_limit_text : List ℕ
bound_limit_text = line_of (codes "limit bound")

-- no document of fewer cells breaks the property
abbrev pub at_least_text : Level → ℕ → List ℕ
at_least_text level cells = line_of (codes "at least " ++ decimal cells ++ codes " " ++ level_text level)
