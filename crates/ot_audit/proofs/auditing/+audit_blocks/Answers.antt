-- By what is found of the first block.
use Rattle.std.proofs.Common.{rules}
use Rattle.std.proofs.lemmas.Result.{on_ok_weaker}
use Rattle.ot_model.specs.declared.op.Kind.TheVariants.{Ins}
use Rattle.fn_rules.specs.Rules.{function_of}
use Rattle.ot_audit.proofs.Behind.{audits_from_first, behind_declared, first_declared, long_behind}
use Rattle.ot_audit.proofs.auditing.+audit_blocks.Goals as goal

pub audit_block-requires : goal.audit_block-requires
audit_block-requires t c = record {
  declared = first_declared (function_of c.args.rules.now).head c.args.names.now (Ins, Ins) c.requires.declared
      c.in-len1-up.len_at_least;
}

pub audit_blocks-requires : goal.audit_blocks-requires
audit_blocks-requires t c = (
  search rules,
  behind_declared (function_of c.args.rules.now).head c.args.names.now c.requires.declared c.in-len1-up.len_at_least,
)

pub returns-in_ok-push-in-len1-up-clause-ok : goal.returns-in_ok-push-in-len1-up-clause-ok
returns-in_ok-push-in-len1-up-clause-ok t c =
    on_ok_weaker c.audit_blocks.result
    (audits_from_first (function_of c.args.rules.now) c.args.budget c.args.names.now (Ins, Ins)
    c.in_ok-audit-in-len1-up.audit c.args.audits.now c.push.new.self c.audit_blocks.new.audits c.in-len1-up.len_at_least
    c.in_ok-audit-in-len1-up.ensures.ok c.in_ok-push-in-len1-up.ensures.ok)
    c.audit_blocks.ensures.ok

pub returns-in_ok-push-in-len1-up-clause-spent : goal.returns-in_ok-push-in-len1-up-clause-spent
returns-in_ok-push-in-len1-up-clause-spent t c spent =
    long_behind (function_of c.args.rules.now) c.args.budget c.args.names.now c.in-len1-up.len_at_least
    (c.audit_blocks.ensures.spent spent)
