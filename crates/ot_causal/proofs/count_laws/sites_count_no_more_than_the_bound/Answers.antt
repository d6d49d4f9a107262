use Rattle.ot_causal.proofs.Born.{IsOrderly-sound}
use Rattle.ot_causal.proofs.Bound.{length-counted, length-counted_within}
use Rattle.ot_causal.proofs.count_laws.sites_count_no_more_than_the_bound.Goals as goal

pub returns-clause-whole : goal.returns-clause-whole
returns-clause-whole c = λ f session s sound site.
    length-counted session.past (IsOrderly-sound f session.past session.first sound.past) session.sites sound.sites
    (session.seen s) (sound.closed s site)

pub returns-clause-within : goal.returns-clause-within
returns-clause-within c = λ f session s o names more sound site next.
    length-counted_within session.past (IsOrderly-sound f session.past session.first sound.past) session.sites
    sound.sites (session.seen s) o names more (next, sound.closed s site)
