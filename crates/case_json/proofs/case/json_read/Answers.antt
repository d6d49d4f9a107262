use Rattle.serde_json.specs.View.{view}
use Rattle.case_json.proofs.Readings.{json_value, json_fault}
use Rattle.case_json.proofs.case.json_read.Goals as goal

pub returns-in_err-from_slice : goal.returns-in_err-from_slice
returns-in_err-from_slice c =
    json_fault c.args.bytes.now c.in_err-from_slice.field-0.0 c.from_residual.result c.from_residual.ensures.1
    c.in_err-from_slice.ensures.err

pub returns : goal.returns
returns c =
    let ok = c.in_ok-from_slice.ensures.ok in
    json_value c.args.bytes.now (view c.in_ok-from_slice.field-0) ok.0 ok.1
