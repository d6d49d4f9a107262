-- Under both properties, where characters need not differ, sites that have integrated the same agree.
use Rattle.std.proofs.Common.{◌≡◌, List, sym, subst, ◌∙◌, map, false}
use Rattle.fn_rules.specs.Functions.{Function}
use Rattle.fn_rules.specs.Properties.{HasTp1, HasTp2}
use Rattle.ot_session.specs.Sites.{site_end_of}
use Rattle.ot_session.specs.Views.{view_of}
use Rattle.ot_session.specs.declared.ending.SiteEnd.{SiteEnd}
use Rattle.ot_commands.specs.Replay.{IsFirstPair}
use Rattle.ot_commands.proofs.Agreeing.{none_differ}
use Rattle.ot_commands.proofs.drill.gone_through.Goals as goal

-- the function of a workload has both properties, so no two sites differ
pub returns-clause-agree : goal.returns-clause-agree
returns-clause-agree c =
    let v = view_of c.in_ok-played.played.session in
    let is : v.function ≡ _ = c.in_ok-played.ensures.function in
    let laws = c.drill_functions_have_both_properties.ensures in
    let pair : IsFirstPair 1 (map site_end_of v.sites) c.first_pair.result =
    subst (λ (l : List SiteEnd). IsFirstPair 1 l c.first_pair.result) (c.as_slice.ensures
    ∙ c.in_ok-ends.ensures) c.first_pair.ensures in
    none_differ v.sites c.first_pair.result
    (c.sites_agree.ensures (subst (λ (f : Function). HasTp1 f) (sym is) (laws.tp1 c.args.number))
    (subst (λ (f : Function). HasTp2 f) (sym is) (laws.tp2 c.args.number))
    (subst (λ (f : Function). f.head.chars_differ ≡ false) (sym is) (laws.chars c.args.number))) pair
