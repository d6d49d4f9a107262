use Rattle.std.proofs.Common.{◌<◌, ◌-◌, ℕ, length, refl, arith}
use Rattle.std.proofs.Math.Logic.{∥∥₁_map}
use Rattle.std.proofs.lemmas.List.{length-map}
use Rattle.std.proofs.lemmas.Option.{slice_get_read}
use Rattle.fn_rules.specs.Functions.{Function}
use Rattle.fn_rules.specs.Rules.{function_of}
use Rattle.ot_causal.specs.Past.{Past}
use Rattle.ot_session.specs.Past.{past_of}
use Rattle.ot_session.specs.Sites.{view_site, CanTake}
use Rattle.ot_session.proofs.AfterTake.{can-take}
use Rattle.ot_session.proofs.Lists.{AllByRecursion-at}
use Rattle.ot_session.proofs.session.Session.form_pairs.Goals as goal

-- each site of an open session can take operations, so its table has all forms that it counted
pub pairs_at-requires-clause-can : goal.pairs_at-requires-clause-can
pairs_at-requires-clause-can c =
    let s = c.args.self.now in
    let f : Function = function_of s.rules in
    let past : Past = past_of s.made.items in
    let t : ℕ = c.args.site in
    let inside : t - 1 < length s.sites.items =
    omega (arith, c.requires.site.low, c.requires.site.high, length-map s.sites.items view_site) in
    rw c.deref.ensures.value
    (∥∥₁_map (can-take s c.documents_grow_by_one_cell_at_most.ensures
    (c.members_were_made.ensures.few past)
    (c.open_members_may_be_taken_out.ensures.order f past s.first) c.requires.open)
    (λ all. AllByRecursion-at (CanTake f past) s.sites.items (t - 1) c.index.result.now all
    (slice_get_read s.sites.items (length s.sites.items) (t - 1) c.index.result.now refl inside c.index.ensures)))
