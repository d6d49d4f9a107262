use Rattle.std.proofs.Common.{arith, ◌≢◌, ◌≡◌, ℕ, List, Option, None, map, subst, ◌∙◌}
use Rattle.ot_session.specs.Sites.{site_end_of}
use Rattle.ot_session.specs.Views.{view_of}
use Rattle.ot_session.specs.declared.ending.SiteEnd.{SiteEnd}
use Rattle.ot_replies.specs.declared.reply.Reply.TheVariants.{Replayed}
use Rattle.ot_commands.specs.Replay.{IsFirstPair}
use Rattle.ot_replies.specs.Texts.{status_of}
use Rattle.ot_commands.proofs.Agreeing.{none_differ}
use Rattle.ot_commands.proofs.replay.ended.Goals as goal

none_is_zero : (ends : List SiteEnd) (found : Option (ℕ × ℕ)) → found ≡ None → status_of (Replayed ends found) ≢ 1
none_is_zero ends found none is =
    let zero : status_of (Replayed ends None) ≡ 1 =
    subst (λ (o : Option (ℕ × ℕ)). status_of (Replayed ends o) ≡ 1) none is in
    absurd (omega (arith, zero))

pub returns-clause-steady : goal.returns-clause-steady
returns-clause-steady c f =
    let sites = (view_of c.args.session).sites in
    let is : IsFirstPair 1 (map site_end_of sites) c.first_pair-differ.result =
    subst (λ (l : List SiteEnd). IsFirstPair 1 l c.first_pair-differ.result) (c.as_slice.ensures ∙ c.in_ok-ends.ensures)
    c.first_pair-differ.ensures in
    none_is_zero c.in_ok-ends.ends c.first_pair-differ.result
    (none_differ sites c.first_pair-differ.result (c.sites_agree.ensures f.tp1 f.tp2 f.chars) is)
