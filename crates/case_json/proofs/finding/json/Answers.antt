use Rattle.std.proofs.Common.{◌≡◌, true, false}
use Rattle.serde_json.specs.View.{view}
use Rattle.case_json.proofs.JsonRead.{json-read, json-unread}
use Rattle.case_json.proofs.finding.json.Goals as goal

pub returns-in-Ok : goal.returns-in-Ok
returns-in-Ok c =
    let ok = c.in-Ok.ensures.ok in
    json-read c.args.bytes.now (view c.in-Ok.json) ok.0 ok.1

pub returns-else-is_memory : goal.returns-else-is_memory
returns-else-is_memory c =
    json-unread c.args.bytes.now
    (c.in-Err.ensures.err (λ memory. let wrong : false ≡ true = c.if-is_memory.ensures.1 memory in cc))
