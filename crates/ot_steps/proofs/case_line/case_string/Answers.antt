use Rattle.std.proofs.Common.{string_bytes}
use Rattle.std.proofs.lemmas.Str.{IsUtf8-string_bytes}
use Rattle.serde_json.specs.View.{view}
use Rattle.ot_steps.specs.CaseLines.{case_data}
use Rattle.ot_steps.proofs.CaseData.{case_no_float, case_shallow, text_of_data, data_read}
use Rattle.ot_steps.proofs.case_line.case_string.Goals as goal

pub returns-clause-text : goal.returns-clause-text
returns-clause-text c =
    text_of_data (view c.in_ok-value.value) (case_data c.args.level c.args.doc.now c.args.ops.now)
    (string_bytes c.in_ok-text.text)
    c.in_ok-value.ensures (case_no_float c.args.level c.args.doc.now c.args.ops.now) c.in_ok-text.ensures.text

pub returns-clause-reads_back : goal.returns-clause-reads_back
returns-clause-reads_back c =
    data_read (view c.in_ok-value.value) (case_data c.args.level c.args.doc.now c.args.ops.now)
    (string_bytes c.in_ok-text.text)
    c.in_ok-value.ensures (case_shallow c.args.level c.args.doc.now c.args.ops.now)
    (IsUtf8-string_bytes c.in_ok-text.text) c.in_ok-text.ensures.reads_back
