use Rattle.std.proofs.Common.{◌∙◌, arith, refl}
use Rattle.fn_rules.specs.Rules.{function_of}
use Rattle.ot_counter.proofs.Instances.{for_kind, triple_kinds, form_behind-there, three_there}
use Rattle.ot_counter.proofs.building.of_triple.Goals as goal

pub document_at-requires : goal.document_at-requires
document_at-requires c = record { within = (let h = c.requires.first.within in omega arith); cells = c.requires.cells }

-- the first way: the three operations are declared and near
pub operation_way-left-requires : goal.operation_way-left-requires
operation_way-left-requires c =
    let head = (function_of c.args.rules.now).head in
    let kinds = triple_kinds head c.args.k c.args.l c.args.m c.requires.declared in
    record {
      a_declared = for_kind head c.args.k c.op_at-a.result kinds.0 c.op_at-a.ensures.kind;
      b_declared = for_kind head c.args.l c.op_at-b.result kinds.1 c.op_at-b.ensures.kind;
      c_declared = for_kind head c.args.m c.op_at-c.result kinds.2 c.op_at-c.ensures.kind;
      a_near = c.op_at-a.ensures.near;
      b_near = c.op_at-b.ensures.near;
      c_near = c.op_at-c.ensures.near;
    }

-- the second way, with the first two exchanged
pub operation_way-right-requires : goal.operation_way-right-requires
operation_way-right-requires c =
    let head = (function_of c.args.rules.now).head in
    let kinds = triple_kinds head c.args.k c.args.l c.args.m c.requires.declared in
    record {
      a_declared = for_kind head c.args.l c.op_at-b.result kinds.1 c.op_at-b.ensures.kind;
      b_declared = for_kind head c.args.k c.op_at-a.result kinds.0 c.op_at-a.ensures.kind;
      c_declared = for_kind head c.args.m c.op_at-c.result kinds.2 c.op_at-c.ensures.kind;
      a_near = c.op_at-b.ensures.near;
      b_near = c.op_at-a.ensures.near;
      c_near = c.op_at-c.ensures.near;
    }

-- the document, the three operations and both forms are those that the values name
pub returns : goal.returns
returns c =
    let f = function_of c.args.rules.now in
    let a = c.op_at-a.ensures.value in
    let b = c.op_at-b.ensures.value in
    let third = c.op_at-c.ensures.value in
    record {
      level = refl;
      doc = c.in_ok-doc.ensures;
      ops = c.in_ok-ops.ensures ∙ three_there _ _ _ _ _ _ a b third;
      cause = refl;
      left = c.operation_way-left.ensures ∙ form_behind-there f _ _ _ _ _ _ a b third;
      right = c.operation_way-right.ensures ∙ form_behind-there f _ _ _ _ _ _ b a third;
    }
