-- No more is pending than a client may make.
use Rattle.std.proofs.Common.{◌∙◌, ◌-◌, arith, length, ap}
use Rattle.fn_rules.specs.Rules.{function_of}
use Rattle.ot_hub.specs.declared.client.Client.{Client}
use Rattle.ot_hub.proofs.Acting.{inside_of}
use Rattle.ot_hub.proofs.Keeping.{one-kept}
use Rattle.ot_hub.proofs.hub.Hub.pending.Goals as goal

pub overflow_cast-result : goal.overflow_cast-result
overflow_cast-result c =
    let s = c.args.self.now in
    let kept = one-kept (function_of s.rules) s.made s.server s.clients.items s.kept (c.args.client - 1)
    (inside_of s.clients.items c.args.client c.requires) in
    omega (arith, c.len.ensures ∙ ap (λ (one : Client). length one.pending) c.at.ensures, kept.short, kept.few)

pub returns : goal.returns
returns c = c.len.ensures ∙ ap (λ (one : Client). length one.pending) c.at.ensures
