use Rattle.std.proofs.Common.{◌≡◌, List, map, refl, sym, subst, arith}
use Rattle.std.specs.Vec.{with_items}
use Rattle.std.proofs.lemmas.Bool.{false≢true}
use Rattle.std.proofs.lemmas.List.{length-map}
use Rattle.fn_rules.specs.Rules.{function_of}
use Rattle.ot_causal.specs.Sessions.{all_counted}
use Rattle.ot_session.specs.declared.site.Site.{Site}
use Rattle.ot_session.specs.Past.{past_of}
use Rattle.ot_session.specs.Sites.{view_site, data_of}
use Rattle.ot_session.proofs.AfterTake.{no_site-not_stuck, no_site-not_spent, no_op-not_stuck, no_op-not_spent}
use Rattle.ot_session.proofs.AfterTake.{can-take, counted-before, items, few-sites, taken, forms-taken, kept-taken}
use Rattle.ot_session.proofs.AfterTake.{counts-taken, never-stuck, never-spent}
use Rattle.ot_session.proofs.session.Session.take.Goals as goal

pub take_at-taken-requires-clause-can : goal.take_at-taken-requires-clause-can
take_at-taken-requires-clause-can c =
    let s = c.args.self.now in
    rw (c.deref.ensures.value, c.deref_mut.ensures.value)
    (can-take s c.documents_grow_by_one_cell_at_most.ensures (c.members_were_made.ensures.few (past_of s.made.items))
    (c.open_members_may_be_taken_out.ensures.order (function_of s.rules) (past_of s.made.items) s.first) c.requires)

pub take_at-taken-requires-clause-total : goal.take_at-taken-requires-clause-total
take_at-taken-requires-clause-total c =
    rw (c.deref.ensures.value, c.deref_mut.ensures.value)
    (counted-before c.args.self.now c.args.site (c.if-not-has_site.ensures.0 refl) c.requires)

-- the session is kept, with its forms and their count as long as it is open
pub invariant_of-self-2 : goal.invariant_of-self-2
invariant_of-self-2 c =
    let s = c.args.self.now in
    let f = function_of s.rules in
    let new = c.take_at-taken.new in
    let answer = c.take_at-taken.result in
    let there = c.if-not-has_site.ensures.0 refl in
    let made = c.deref.result.now in
    let sites = c.deref_mut.result.now in
    let takes = c.take_at-taken.ensures.takes in
    let is : (with_items s.sites new.sites).items ≡ new.sites =
    items s c.args.site there c.args.number made sites new.sites new.total answer c.deref.ensures.value
    c.deref_mut.ensures.value takes in
    record {
      few = s.few;
      small = s.small;
      most = rw is (few-sites s c.args.site there c.args.number made sites new.sites new.total answer
          c.deref.ensures.value c.deref_mut.ensures.value takes);
      within = c.take_at-taken.ensures.within;
      kept = rw is (kept-taken s c.args.site there c.args.number made sites new.sites new.total answer
          c.deref.ensures.value c.deref_mut.ensures.value takes (c.steps_keep_sessions_sound.ensures.integrated f)
          (c.steps_count_what_they_seek.ensures.all_integrated f) c.take_at-taken.ensures.sorted);
      forms = λ opened. rw is
          (forms-taken s c.args.site there c.args.number made sites new.sites new.total answer c.deref.ensures.value
          c.deref_mut.ensures.value takes c.is_ok-self.result c.is_ok-self.ensures.value
          c.take_at-taken.ensures.can opened);
      counts = λ opened.
          subst (λ (ss : List Site). new.total ≡ all_counted (data_of s.first s.made.items (map view_site ss))) (sym is)
          (counts-taken s c.args.site there c.args.number made sites new.sites new.total answer c.deref.ensures.value
          c.deref_mut.ensures.value
          takes (c.steps_keep_sessions_sound.ensures.integrated f) (c.steps_count_what_they_seek.ensures.all_integrated
          f) c.is_ok-self.result c.is_ok-self.ensures.value c.requires opened);
    }

pub returns-clause-taken : goal.returns-clause-taken
returns-clause-taken c =
    let s = c.args.self.now in
    taken s c.args.site (c.if-not-has_site.ensures.0 refl) c.args.number c.deref.result.now c.deref_mut.result.now
    c.take_at-taken.new.sites
    c.take_at-taken.new.total c.take_at-taken.result c.deref.ensures.value c.deref_mut.ensures.value
    c.take_at-taken.ensures.takes
    c.is_ok-self.result c.is_ok-self.ensures.value (omega (arith, c.if-number-len.false, c.len.ensures, s.made.ok.0))

pub returns-clause-never_stuck : goal.returns-clause-never_stuck
returns-clause-never_stuck c = λ tp1 tp2 chars.
    let s = c.args.self.now in
    let f = function_of s.rules in
    never-stuck s c.args.site (c.if-not-has_site.ensures.0 refl) c.args.number c.deref.result.now c.deref_mut.result.now
    c.take_at-taken.new.sites
    c.take_at-taken.new.total c.take_at-taken.result c.deref.ensures.value c.deref_mut.ensures.value
    c.take_at-taken.ensures.takes
    (c.steps_keep_sessions_sound.ensures.integrated f) (c.steps_count_what_they_seek.ensures.all_integrated f)
    (λ session. c.both_properties_give_one_document.ensures f session tp1 tp2 chars)
    (λ cells p. (c.tests_decide_their_facts.ensures.enabled cells p).1)

pub returns-clause-never_spent : goal.returns-clause-never_spent
returns-clause-never_spent c = λ enough.
    let s = c.args.self.now in
    let f = function_of s.rules in
    never-spent s c.args.site (c.if-not-has_site.ensures.0 refl) c.args.number c.deref.result.now c.deref_mut.result.now
    c.take_at-taken.new.sites
    c.take_at-taken.new.total c.take_at-taken.result c.deref.ensures.value c.deref_mut.ensures.value
    c.take_at-taken.ensures.takes
    (c.steps_keep_sessions_sound.ensures.integrated f) (c.steps_count_what_they_seek.ensures.all_integrated f)
    (c.sites_count_no_more_than_the_bound.ensures.whole f) (c.sites_count_no_more_than_the_bound.ensures.within f)
    (omega (arith, c.if-number-len.false, c.len.ensures, s.made.ok.0)) c.requires enough

-- there is no such site
pub returns-then-not-has_site : goal.returns-then-not-has_site
returns-then-not-has_site c = record {
  taken = (λ there. false≢true (c.if-not-has_site.ensures.1 there), refl);
  never_stuck = λ tp1 tp2 chars. no_site-not_stuck;
  never_spent = λ enough. no_site-not_spent;
  more = omega arith;
}

-- no such operation was made
pub returns-then-number-len : goal.returns-then-number-len
returns-then-number-len c = record {
  taken = (
    c.if-not-has_site.ensures.0 refl,
    omega (arith, c.if-number-len.true, c.len.ensures, c.args.self.now.made.ok.0),
    refl,
  );
  never_stuck = λ tp1 tp2 chars. no_op-not_stuck;
  never_spent = λ enough. no_op-not_spent;
  more = omega arith;
}

pub take_at-taken-requires-clause-place : goal.take_at-taken-requires-clause-place
take_at-taken-requires-clause-place c =
    let sites = c.args.self.now.sites.items in
    let there = c.if-not-has_site.ensures.0 refl in
    rw c.deref_mut.ensures.value (omega (arith, there.low, there.high, length-map sites view_site))

pub take_at-taken-requires-clause-made : goal.take_at-taken-requires-clause-made
take_at-taken-requires-clause-made c =
    rw c.deref.ensures.value (omega (arith, c.if-number-len.false, c.len.ensures, c.args.self.now.made.ok.0))

pub take_at-taken-requires-clause-few : goal.take_at-taken-requires-clause-few
take_at-taken-requires-clause-few c = rw c.deref.ensures.value c.args.self.now.few

pub take_at-taken-requires-clause-within : goal.take_at-taken-requires-clause-within
take_at-taken-requires-clause-within c = c.args.self.now.within

pub returns-clause-more : goal.returns-clause-more
returns-clause-more c = c.take_at-taken.ensures.more
