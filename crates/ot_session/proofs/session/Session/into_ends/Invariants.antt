use Rattle.std.proofs.Common.{◌≡◌, map}
use Rattle.ot_session.specs.Sites.{view_site, site_end_of}
use Rattle.ot_session.proofs.session.Session.into_ends.Given as goal

abbrev pub invariant-loop-site : goal.invariant-loop-site
invariant-loop-site l = l.ends ≡ map site_end_of (map view_site l.yielded)
