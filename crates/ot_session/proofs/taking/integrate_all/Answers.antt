use Rattle.std.proofs.Common.{◌≡◌, ◌<◌, ◌≤◌, ◌-◌, ◌++◌, ◌∷◌, [], ℕ, Bool, List, Err, length, length-append, Option}
use Rattle.std.proofs.Common.{refl, sym, ap, subst, arith, reverse, IfSome}
use Rattle.std.specs.Coded.{le_prop}
use Rattle.std.proofs.Math.Logic.{∥∥₁_elim, ∥∥₁_map}
use Rattle.fn_rules.specs.Rules.{function_of}
use Rattle.fn_rules.specs.Functions.{Function}
use Rattle.ot_causal.specs.Past.{Past, IsNext}
use Rattle.ot_session.specs.declared.form.FormError.{FormError}
use Rattle.ot_session.specs.declared.site.Site.{Site}
use Rattle.ot_session.specs.Past.{is_marked, past_of}
use Rattle.ot_session.specs.Sites.{SiteView, view_site, IsSorted}
use Rattle.ot_session.specs.Taking.{standing, HasIntegrated, IsTurn, IsCourse, start, then, IsDueByMarks}
use Rattle.ot_session.specs.Taking.{IsLeastByMarks}
use Rattle.ot_session.proofs.Views.{view_site-same}
use Rattle.ot_session.proofs.Turns.{Takes-lacked, IsTurn-later, IsNext-unknown, IsSorted-same, IsLeastDue-marked}
use Rattle.ot_session.proofs.Turns.{IsNext-due, NoneIsDue-marked}
use Rattle.ot_session.proofs.taking.integrate_all.Goals as goal

-- the course begins with the operation itself
pub loop-next-init : goal.loop-next-init
loop-next-init c =
    let f : Function = function_of c.args.rules.now in
    let past : Past = past_of c.args.made.now in
    let n : ℕ = c.args.number in
    let old : Site = c.args.site.now in
    let view : SiteView = view_site old in
    record {
      course = subst (λ (done : List ℕ). IsCourse f past n (standing old c.args.total.now) done
          (standing old c.args.total.now)) (sym c.new-done.ensures) start;
      can = c.requires.can;
      some = c.requires.total;
      within = c.requires.within;
      more = omega arith;
      turn = λ o is. (let same : n ≡ o = cc in (
        subst (λ (done : List ℕ). IsTurn past n done view o) (sym c.new-done.ensures) (sym same),
        subst (λ (m : ℕ). IsNext past (reverse old.seen.items) m) same
            (IsNext-unknown past view n c.requires.made c.requires.unknown c.requires.ready),
      ));
      over = λ none. cc;
    }

pub returns-in_err-push-clause-sorted : goal.returns-in_err-push-clause-sorted
returns-in_err-push-clause-sorted c = ∥∥₁_map c.loop-next.invariant.can (λ k. k.sorted)

pub integrate-requires-clause-next : goal.integrate-requires-clause-next
integrate-requires-clause-next c = (c.loop-next.invariant.turn c.in-Some.one c.in-Some.is).1

-- there is no memory for the number of one more
pub returns-in_err-push-clause-takes : goal.returns-in_err-push-clause-takes
returns-in_err-push-clause-takes c =
    let old = standing c.args.site.now c.args.total.now in
    let mid = standing c.loop-next.site c.loop-next.total in
    Takes-lacked (function_of c.args.rules.now) (past_of c.args.made.now) c.args.number old mid c.from_residual.result
    c.from_residual.ensures.1 (record {
      done = c.loop-next.done;
      mid = mid;
      integrates =
          record { unknown = c.requires.unknown; ready = c.requires.ready; course = c.loop-next.invariant.course };
      site = refl;
      counted = omega arith;
    })

-- the one whose turn it is is not integrated
pub returns-in-Err-NoForm-clause-takes : goal.returns-in-Err-NoForm-clause-takes
returns-in-Err-NoForm-clause-takes c = record {
  done = c.loop-next.done;
  mid = standing c.loop-next.site c.loop-next.total;
  integrates = record { unknown = c.requires.unknown; ready = c.requires.ready; course = c.loop-next.invariant.course };
  turn = (c.loop-next.invariant.turn c.in-Some.one c.in-Some.is).0;
  stuck = c.in-Err-NoForm.ensures.stuck (ap (λ (e : FormError). Err e) c.in-Err-NoForm.field-0-is);
  site = view_site-same c.loop-next.site c.integrate.new.site c.in-Err-NoForm.ensures.err;
  counted = c.in-Err-NoForm.ensures.stuck_at (ap (λ (e : FormError). Err e) c.in-Err-NoForm.field-0-is);
}

pub returns-in-Err-Spent-clause-takes : goal.returns-in-Err-Spent-clause-takes
returns-in-Err-Spent-clause-takes c = record {
  done = c.loop-next.done;
  mid = standing c.loop-next.site c.loop-next.total;
  integrates = record { unknown = c.requires.unknown; ready = c.requires.ready; course = c.loop-next.invariant.course };
  o = c.in-Some.one;
  turn = (c.loop-next.invariant.turn c.in-Some.one c.in-Some.is).0;
  spent = c.in-Err-Spent.ensures.spent (ap (λ (e : FormError). Err e) c.in-Err-Spent.field-0-is);
  site = view_site-same c.loop-next.site c.integrate.new.site c.in-Err-Spent.ensures.err;
  counted = c.in-Err-Spent.ensures.spent_at (ap (λ (e : FormError). Err e) c.in-Err-Spent.field-0-is);
}

pub returns-in-Err-NoMemory-clause-takes : goal.returns-in-Err-NoMemory-clause-takes
returns-in-Err-NoMemory-clause-takes c = record {
  done = c.loop-next.done;
  mid = standing c.loop-next.site c.loop-next.total;
  integrates = record { unknown = c.requires.unknown; ready = c.requires.ready; course = c.loop-next.invariant.course };
  site = view_site-same c.loop-next.site c.integrate.new.site c.in-Err-NoMemory.ensures.err;
  counted = c.integrate.ensures.more;
}

pub returns-in-Err-NoForm-clause-sorted : goal.returns-in-Err-NoForm-clause-sorted
returns-in-Err-NoForm-clause-sorted c = ∥∥₁_map c.loop-next.invariant.can
    (λ k. IsSorted-same (length c.args.made.now) c.loop-next.site c.integrate.new.site
    c.in-Err-NoForm.ensures.err k.sorted)

pub returns-in-Err-Spent-clause-sorted : goal.returns-in-Err-Spent-clause-sorted
returns-in-Err-Spent-clause-sorted c = ∥∥₁_map c.loop-next.invariant.can
    (λ k. IsSorted-same (length c.args.made.now) c.loop-next.site c.integrate.new.site
    c.in-Err-Spent.ensures.err k.sorted)

pub returns-in-Err-NoMemory-clause-sorted : goal.returns-in-Err-NoMemory-clause-sorted
returns-in-Err-NoMemory-clause-sorted c = ∥∥₁_map c.loop-next.invariant.can
    (λ k. IsSorted-same (length c.args.made.now) c.loop-next.site c.integrate.new.site
    c.in-Err-NoMemory.ensures.err k.sorted)

-- one operation more is integrated, of those that were made
pub loop-next-smaller : goal.loop-next-smaller
loop-next-smaller c =
    let f : Function = function_of c.args.rules.now in
    let past : Past = past_of c.args.made.now in
    let old : Site = c.loop-next.site in
    let new : Site = c.integrate.new.site in
    let one : ℕ = c.in-Some.one in
    let step : HasIntegrated f past one (standing old c.loop-next.total) (standing new c.integrate.new.total) =
    c.in-Ok.ensures.ok in
    let longer : length (reverse new.seen.items) ≡ length (one ∷ reverse old.seen.items) = ap length step.seen in
    let less : length c.args.made.now - length (reverse new.seen.items)
    < length c.args.made.now - length (reverse old.seen.items) =
    ∥∥₁_elim c.loop-next.invariant.can le_prop (λ k.
    let few : length (one ∷ reverse old.seen.items) ≤ length c.args.made.now =
    c.members_were_made.ensures.few past (one ∷ reverse old.seen.items) (step.next, k.closed) in
    omega (arith, longer, few)) in
    less

-- one operation more of the course, and the least of those held that are due is next
pub loop-next-preserved : goal.loop-next-preserved
loop-next-preserved c =
    let f : Function = function_of c.args.rules.now in
    let past : Past = past_of c.args.made.now in
    let n : ℕ = c.args.number in
    let old : Site = c.loop-next.site in
    let new : Site = c.integrate.new.site in
    let view : SiteView = view_site new in
    let one : ℕ = c.in-Some.one in
    let done : List ℕ = c.loop-next.done in
    let step : HasIntegrated f past one (standing old c.loop-next.total) (standing new c.integrate.new.total) =
    c.in-Ok.ensures.ok in
    let pushed : c.push.new.self ≡ done ++ one ∷ [] = c.in_ok-push.ensures.ok in
    let sorted : ∥ IsSorted past.count new ∥₁ = ∥∥₁_map c.in-Ok.ensures.can (λ k. k.sorted) in
    let some : IfSome c.least_due-next.result
    (λ o. IsLeastByMarks past (is_marked new.integrated) (is_marked new.held) o) =
    subst (λ (held : List Bool). IfSome c.least_due-next.result
    (λ o. IsLeastByMarks past (is_marked new.integrated) (is_marked held) o)) c.as_slice-in-Some.ensures
    (subst (λ (integrated : List Bool). IfSome c.least_due-next.result
    (λ o. IsLeastByMarks past (is_marked integrated) (is_marked c.as_slice-in-Some.result.now) o))
    c.as_slice.ensures c.least_due-next.ensures.some) in
    record {
      course = subst (λ (d : List ℕ). IsCourse f past n (standing c.args.site.now c.args.total.now)
          d (standing new c.integrate.new.total)) (sym pushed) (then done (standing old c.loop-next.total) (standing new
          c.integrate.new.total) one c.loop-next.invariant.course (c.loop-next.invariant.turn one c.in-Some.is).0 step);
      can = c.in-Ok.ensures.can;
      some = omega (arith, step.counted, c.loop-next.invariant.some);
      within = c.integrate.ensures.within;
      more = omega (arith, c.loop-next.invariant.more, c.integrate.ensures.more);
      turn = λ o is. (
          let least : IsLeastByMarks past (is_marked new.integrated) (is_marked new.held) o =
          subst (λ (r : Option ℕ). IfSome r
          (λ m. IsLeastByMarks past (is_marked new.integrated) (is_marked new.held) m)) is some in (
            subst (λ (d : List ℕ). IsTurn past n d view o) (sym pushed)
                (IsTurn-later past n done one view o (IsLeastDue-marked past new sorted o least)),
            IsNext-due past new sorted o least,
          ));
      over = λ none. (
        omega (arith, ap length pushed, length-append done (one ∷ [])),
        NoneIsDue-marked past new sorted (λ x made due.
            c.least_due-next.ensures.none none x made
            (subst (λ (held : List Bool). IsDueByMarks past (is_marked c.as_slice.result.now) (is_marked held) x)
            (sym c.as_slice-in-Some.ensures)
            (subst (λ (integrated : List Bool). IsDueByMarks past (is_marked integrated) (is_marked new.held) x)
            (sym c.as_slice.ensures) due))),
      );
    }

pub returns-clause-sorted : goal.returns-clause-sorted
returns-clause-sorted c = ∥∥₁_map c.loop-next.invariant.can (λ k. k.sorted)
