-- The events are those of the workload, and none of them is refused.
use Rattle.std.proofs.Common.{List, length, [], subst, sym, ◌∙◌}
use Rattle.case_json.specs.declared.script.Event.{Event}
use Rattle.std.proofs.Math.Nat.{le_trans}
use Rattle.ot_model.specs.declared.cell.Cell.{Cell}
use Rattle.fn_rules.specs.Functions.{Function}
use Rattle.fn_rules.specs.Rules.{function_of}
use Rattle.ot_session.specs.Views.{view_of, IsBegun}
use Rattle.ot_causal.specs.Sessions.{IsSite}
use Rattle.ot_drill.specs.declared.limits.TheConstants.{SITES}
use Rattle.ot_drill.specs.Playing.{ArePlayed}
use Rattle.ot_drill.proofs.Generated.{events_are_fine}
use Rattle.ot_drill.proofs.playing.play.Goals as goal

pub play_all-requires-clause-fine : goal.play_all-requires-clause-fine
play_all-requires-clause-fine c =
    rw (c.deref.ensures.value, c.in_ok-events.ensures) (events_are_fine c.args.n c.requires.n)

-- all events were done in a new session, whose sites count few forms
pub returns : goal.returns
returns c =
    let begun = view_of c.in_ok-session.session in
    let end = view_of c.play_all.new.session in
    let done = c.in_ok-tally.ensures in record {
      begun = begun;
      is_begun = subst (λ (f : Function). IsBegun f [] SITES begun) c.requires.function
          (subst (λ (d : List Cell). IsBegun (function_of c.args.rules.now) d SITES begun) c.new.ensures
          c.in_ok-session.ensures);
      all = subst (λ (l : List Event). ArePlayed begun l end c.in_ok-tally.tally) (c.deref.ensures.value
          ∙ c.in_ok-events.ensures) done.played;
      sites = done.sites;
      function = done.function ∙ c.in_ok-session.ensures.function ∙ c.requires.function;
      few = record {
        at = λ s is.
            let at_site : IsSite (length end.sites) s = subst (λ n. IsSite n s) (sym done.sites) is in
            let few = c.sites_count_few_forms.ensures s at_site in
            let most = done.few.most in
            le_trans few most;
      };
    }
