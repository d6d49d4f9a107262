use Rattle.std.proofs.Common.{◌<◌, ◌-◌, ℕ, List, length, sym, ap, ◌∙◌, subst, reverse, arith}
use Rattle.std.proofs.Math.Logic.{∥∥₁_map}
use Rattle.std.proofs.lemmas.List.{length-map}
use Rattle.ot_causal.specs.Past.{IsClosed}
use Rattle.ot_session.specs.Past.{past_of}
use Rattle.ot_session.specs.Sites.{view_site, seen_in}
use Rattle.ot_session.proofs.Views.{viewed}
use Rattle.ot_session.proofs.session.Session.seen.Goals as goal

pub returns-clause-closed : goal.returns-clause-closed
returns-clause-closed c =
    let s = c.args.self.now in
    let t : ℕ = c.args.site in
    let inside : t - 1 < length s.sites.items =
    omega (arith, c.requires.low, c.requires.high, length-map s.sites.items view_site) in
    ∥∥₁_map s.kept
    (λ k. subst (λ (l : List ℕ). IsClosed (past_of s.made.items) l)
    (ap seen_in (viewed s.sites.items (t - 1) c.index.result.now inside c.index.ensures)
    ∙ ap reverse (sym c.deref.ensures.value)) (k.sound.closed t c.requires))

pub returns-clause-seen : goal.returns-clause-seen
returns-clause-seen c =
    let s = c.args.self.now in
    let t : ℕ = c.args.site in
    let inside : t - 1 < length s.sites.items =
    omega (arith, c.requires.low, c.requires.high, length-map s.sites.items view_site) in
    ap reverse c.deref.ensures.value
    ∙ sym (ap seen_in (viewed s.sites.items (t - 1) c.index.result.now inside c.index.ensures))
