-- What is kept in a session is more than a fact, but that a number is at most another one is no more than that.
use Rattle.std.proofs.Common.{map}
use Rattle.std.specs.Coded.{le_prop}
use Rattle.std.proofs.Math.Logic.{∥∥₁_elim}
use Rattle.fn_rules.specs.Rules.{function_of}
use Rattle.ot_session.specs.Sites.{view_site, data_of}
use Rattle.ot_session.proofs.session.Session.sites_count_few_forms.Goals as goal

pub returns : goal.returns
returns c s site =
    let session = c.args.self.now in
    ∥∥₁_elim session.kept le_prop (λ k.
    c.sites_count_no_more_than_the_bound.ensures.whole
    (function_of session.rules) (data_of session.first session.made.items (map view_site session.sites.items)) s k.sound
    site)
