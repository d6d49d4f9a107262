use Rattle.std.proofs.Common.{length, refl, sym, ap, ◌∙◌, arith}
use Rattle.std.proofs.lemmas.List.{length-map}
use Rattle.fn_rules.specs.Rules.{function_of}
use Rattle.ot_session.specs.Sites.{view_site}
use Rattle.ot_session.specs.Past.{past_of}
use Rattle.ot_session.proofs.Beginning.{fresh-viewed, SiteKeepsForms-fresh, IsKeptSession-fresh, all_counted-fresh}
use Rattle.ot_session.proofs.session.Session.new.Goals as goal

-- a new session is kept, and nothing is counted
pub invariant_of-result : goal.invariant_of-result
invariant_of-result c = record {
  few = omega (arith, ap length c.new.ensures.items);
  small = omega (arith, ap length c.in_ok-try_clone-2.ensures, c.requires.cells);
  most = omega (arith, c.in_ok-fresh_sites.ensures.count, c.requires.sites);
  within = omega arith;
  forms =
      λ _. ∣ SiteKeepsForms-fresh c.args.doc.now (function_of c.in_ok-try_clone.field-0) (past_of c.new.result.items)
      (c.forms_are_sought_before_they_are_made.ensures.counted_none (past_of c.new.result.items))
      c.in_ok-fresh_sites.field-0.items c.in_ok-fresh_sites.ensures.fresh ∣₁;
  counts = λ _. sym (all_counted-fresh c.args.doc.now c.in_ok-try_clone-2.field-0 c.new.result.items
      c.in_ok-fresh_sites.field-0.items
      c.forms_are_sought_before_they_are_made.ensures.counted_none c.in_ok-fresh_sites.ensures.fresh);
  kept = ∣ IsKeptSession-fresh c.args.doc.now (function_of c.in_ok-try_clone.field-0)
      c.in_ok-try_clone-2.field-0 c.new.result.items
      c.in_ok-fresh_sites.field-0.items (λ s.
      c.steps_keep_sessions_sound.ensures.begun (function_of c.in_ok-try_clone.field-0) c.args.doc.now s)
      c.in_ok-try_clone-2.ensures c.new.ensures.items c.in_ok-fresh_sites.ensures.fresh ∣₁;
}

pub returns : goal.returns
returns c = record {
  function = c.in_ok-try_clone.ensures;
  first = c.in_ok-try_clone-2.ensures;
  made = c.new.ensures.items;
  count = length-map c.in_ok-fresh_sites.field-0.items view_site ∙ c.in_ok-fresh_sites.ensures.count;
  fresh = fresh-viewed c.args.doc.now c.in_ok-fresh_sites.field-0.items c.in_ok-fresh_sites.ensures.fresh;
  counted = refl;
  is_open = refl;
}
