use Rattle.std.proofs.Common.{◌∙◌, arith, refl}
use Rattle.fn_rules.specs.Rules.{function_of}
use Rattle.ot_counter.proofs.Instances.{for_kind, pair_kinds, document_way-there, two_there, two_enabled}
use Rattle.ot_counter.proofs.building.of_pair.Goals as goal

pub document_at-requires : goal.document_at-requires
document_at-requires c = record { within = (let h = c.requires.first.within in omega arith); cells = c.requires.cells }

-- the first way: its first operation is enabled, and both are declared and near
pub document_way-requires : goal.document_way-requires
document_way-requires c =
    let head = (function_of c.args.rules.now).head in
    let kinds = pair_kinds head c.args.k c.args.l c.requires.declared in
    let both =
    two_enabled (function_of c.args.rules.now) _ _ _ _ _ _ c.in_ok-doc.ensures c.op_at-a.ensures.value
    c.op_at-b.ensures.value c.requires.concurrent in
    record {
      enabled = both.0;
      first_declared = for_kind head c.args.k c.op_at-a.result kinds.0 c.op_at-a.ensures.kind;
      other_declared = for_kind head c.args.l c.op_at-b.result kinds.1 c.op_at-b.ensures.kind;
      first_near = c.op_at-a.ensures.near;
      other_near = c.op_at-b.ensures.near;
    }

-- the second way: its first operation is enabled, and both are declared and near
pub document_way-requires-2 : goal.document_way-requires-2
document_way-requires-2 c =
    let head = (function_of c.args.rules.now).head in
    let kinds = pair_kinds head c.args.k c.args.l c.requires.declared in
    let both =
    two_enabled (function_of c.args.rules.now) _ _ _ _ _ _ c.in_ok-doc.ensures c.op_at-a.ensures.value
    c.op_at-b.ensures.value c.requires.concurrent in
    record {
      enabled = both.1;
      first_declared = for_kind head c.args.l c.op_at-b.result kinds.1 c.op_at-b.ensures.kind;
      other_declared = for_kind head c.args.k c.op_at-a.result kinds.0 c.op_at-a.ensures.kind;
      first_near = c.op_at-b.ensures.near;
      other_near = c.op_at-a.ensures.near;
    }

-- the document, the two operations and both ways are those that the values name
pub returns : goal.returns
returns c =
    let f = function_of c.args.rules.now in
    let a = c.op_at-a.ensures.value in
    let b = c.op_at-b.ensures.value in
    record {
      level = refl;
      doc = c.in_ok-doc.ensures;
      ops = c.in_ok-ops.ensures ∙ two_there _ _ _ _ a b;
      cause = refl;
      left = c.in_ok-left.ensures ∙ document_way-there f _ _ _ _ _ _ c.in_ok-doc.ensures a b;
      right = c.in_ok-right.ensures ∙ document_way-there f _ _ _ _ _ _ c.in_ok-doc.ensures b a;
    }
