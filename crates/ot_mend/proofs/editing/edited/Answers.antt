use Rattle.std.proofs.Common.{map, ap, sym, ◌∙◌}
use Rattle.fn_rules.specs.Building.{block_of}
use Rattle.fn_rules.specs.Rules.{function_of}
use Rattle.ot_mend.specs.Edits.{head_after}
use Rattle.ot_mend.proofs.Buildable.{limits_decide}
use Rattle.ot_mend.proofs.editing.edited.Goals as goal

pub returns-then-is_within_limits-clause-valid : goal.returns-then-is_within_limits-clause-valid
returns-then-is_within_limits-clause-valid c =
    sym (limits_decide c.args.edit.now (function_of c.args.rules.now) c.head_after-head.result
    (map block_of c.deref.result.now) c.is_within_limits.result
    (c.head_after-head.ensures ∙ ap (λ h. head_after c.args.edit.now h) c.head.ensures.head)
    (ap (λ bs. map block_of bs) c.deref.ensures.value ∙ c.in_ok-blocks.ensures) c.is_within_limits.ensures)
    ∙ c.if-is_within_limits.true

pub returns-else-is_within_limits-clause-some : goal.returns-else-is_within_limits-clause-some
returns-else-is_within_limits-clause-some c =
    sym (limits_decide c.args.edit.now (function_of c.args.rules.now) c.head_after-head.result
    (map block_of c.deref.result.now) c.is_within_limits.result
    (c.head_after-head.ensures ∙ ap (λ h. head_after c.args.edit.now h) c.head.ensures.head)
    (ap (λ bs. map block_of bs) c.deref.ensures.value ∙ c.in_ok-blocks.ensures) c.is_within_limits.ensures)
    ∙ c.if-is_within_limits.false
