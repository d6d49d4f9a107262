use Rattle.std.proofs.Common.{◌≡◌, drop}
use Rattle.json_places.specs.Values.{behind_blanks}
use Rattle.json_places.proofs.walk.behind_blanks.Given as goal

-- what was passed is blank
abbrev pub invariant-loop-index : goal.invariant-loop-index
invariant-loop-index l = behind_blanks (drop l.index l.text) ≡ behind_blanks l.text
