use Rattle.std.proofs.Common.{◌≡◌, ◌≤◌, ◌-◌, length}
use denote.Text.{Utf8}
use denote.Shadow.{shadow}
use Rattle.std.specs.Str.{chars}
use Rattle.ot_model.specs.declared.limits.TheConstants.{MAX_CELLS}
use Rattle.case_json.specs.DocText.{cells_within}
use Rattle.case_json.proofs.Reading.{with_all}
use Rattle.case_json.proofs.doc_text.doc_read.Given as goal

-- what was read stands before the reading of the rest
abbrev pub invariant-loop-rest : goal.invariant-loop-rest
invariant-loop-rest l = record {
  text : shadow (Utf8 l.rest);
  room : length l.doc ≤ MAX_CELLS;
  read : cells_within MAX_CELLS (chars l.text)
      ≡ with_all l.doc (cells_within (MAX_CELLS - length l.doc) (chars l.rest));
}

abbrev pub decreases-loop-rest : goal.decreases-loop-rest
decreases-loop-rest l = length l.rest
