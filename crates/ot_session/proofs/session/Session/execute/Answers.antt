use Rattle.std.proofs.Common.{◌≡◌, ◌<◌, ◌-◌, ◌∷◌, [], ℕ, List, length, length-append, map, Vec, Global, Option, Some}
use Rattle.std.proofs.Common.{None, refl, sym, ap, ◌∙◌, subst, reverse, arith}
use Rattle.std.specs.Prelude.{slice_get, IfSome}
use Rattle.std.specs.Option.{option_map}
use Rattle.std.specs.Coded.{Coded-set, coded_bool, coded_ℕ}
use Rattle.std.specs.Vec.{with_items}
use Rattle.std.proofs.lemmas.Bool.{false≢true}
use Rattle.std.proofs.Math.Logic.{∥∥₁_elim, ∥∥₁_map, ∥∥₁_map₂}
use Rattle.std.proofs.lemmas.List.{length-map, length-set, with_items_is}
use Rattle.std.proofs.lemmas.Option.{slice_get-map}
use Rattle.ot_model.specs.declared.cell.Cell.{Cell}
use Rattle.ot_model.specs.declared.op.Mode.{Mode}
use Rattle.ot_model.specs.declared.op.Op.{Op}
use Rattle.ot_model.specs.Operations.{kind_of, site_of}
use Rattle.ot_model.specs.Effect.{IsEnabled}
use Rattle.fn_rules.specs.declared.function.Head.{Head}
use Rattle.fn_rules.specs.Functions.{Function, HasDeclaredKind}
use Rattle.fn_rules.specs.Rules.{function_of}
use Rattle.ot_causal.specs.Members.{has}
use Rattle.ot_causal.specs.Past.{Past, Extends}
use Rattle.ot_causal.specs.Sessions.{SessionData, IsSite, IsSound, Makes, MayMake, all_counted}
use Rattle.ot_session.specs.declared.made.Made.{Made}
use Rattle.ot_session.specs.declared.site.Site.{Site}
use Rattle.ot_session.specs.declared.limits.TheConstants.{MAX_MADE}
use Rattle.ot_session.specs.Sites.{SiteView, view_site, site_document, data_of, ExecutesAt, IsSorted, IsKeptSession}
use Rattle.ot_session.specs.Past.{is_marked, past_of}
use Rattle.ot_session.specs.Views.{View, HasMade, closed_session, view_of}
use Rattle.ot_session.proofs.Lists.{AllByRecursion-at}
use Rattle.ot_session.proofs.Making.{all-marked, extends-executed, Makes-executed, known-executed, held-executed}
use Rattle.ot_session.proofs.Making.{may_make, makes, IsKeptSession-executed, counts-executed, SiteKeepsForms-executed}
use Rattle.ot_session.proofs.session.Session.execute.Goals.{In-Err}
use Rattle.ot_session.proofs.session.Session.execute.Goals as goal

-- a fact of what is found, if something is
IfSome-from : (P : Site → Type 0) (found : Option Site) → ((site : Site) → found ≡ Some site → P site) → IfSome found P
IfSome-from P None all = tt
IfSome-from P (Some site) all = all site refl

-- where memory was wanting, the sites are as they were
same_views : (c : In-Err) → map view_site c.execute_at.new.sites ≡ map view_site c.args.self.now.sites.items
same_views c = c.in-Err.ensures.sites ∙ ap (λ (ss : List Site). map view_site ss) c.deref_mut.ensures.value

same_count : (c : In-Err) → length c.execute_at.new.sites ≡ length c.args.self.now.sites.items
same_count c =
    sym (length-map c.execute_at.new.sites view_site) ∙ ap length (same_views c)
    ∙ length-map c.args.self.now.sites.items view_site

sites_back : (c : In-Err) → (with_items c.args.self.now.sites c.execute_at.new.sites).items ≡ c.execute_at.new.sites
sites_back c =
    with_items_is c.args.self.now.sites c.execute_at.new.sites (same_count c ∙ sym c.args.self.now.sites.ok.0)

-- where one of the sites executed the operation, they are as many
sites_set :
    (mode : Mode) (o : Op) (i : ℕ) (made new_made : List Made) (sites : Vec Site Global) (new : List Site)
    → ExecutesAt mode o i made new_made sites.items new
    → (length new ≡ length sites.items) × ((with_items sites new).items ≡ new)
sites_set mode o i made new_made sites new step =
    let count : length new ≡ length sites.items = ap length step.is ∙ length-set sites.items i step.after in
    (count, with_items_is sites new (count ∙ sym sites.ok.0))

pub execute_at-requires-clause-room : goal.execute_at-requires-clause-room
execute_at-requires-clause-room c =
    let s = c.args.self.now in
    ∥∥₁_map s.kept (λ k. rw c.deref_mut.ensures.value (all-marked (length s.made.items) s.sites.items k.sorted))

pub execute_at-requires-clause-enabled : goal.execute_at-requires-clause-enabled
execute_at-requires-clause-enabled c =
    let s = c.args.self.now in
    let sites : List Site = s.sites.items in
    let i : ℕ = c.args.site - 1 in
    let enabled = c.requires.may.enabled in
    rw c.deref_mut.ensures.value
    (IfSome-from (λ site. IsEnabled c.args.op (length site.doc)) (slice_get sites i)
    (λ site is.
    subst (λ (d : List Cell). IsEnabled c.args.op (length d))
    (ap site_document (slice_get-map view_site sites i ∙ ap (option_map view_site) is)) enabled))

-- memory was wanting, and the session is not open
pub returns-in-Err-clause-lacked : goal.returns-in-Err-clause-lacked
returns-in-Err-clause-lacked c =
    let s = c.args.self.now in
    let v : View = view_of s in
    let err : In-Err = (goal.at.returns-in-Err-clause-lacked c).In-Err in
    let new : View = record (closed_session v) {
      made = c.execute_at.new.made.items;
      sites = map view_site (with_items s.sites c.execute_at.new.sites).items;
    } in (
      refl,
      ap (λ (ms : List Made). record new { made = ms }) c.in-Err.ensures.made
          ∙ ap (λ (ss : List SiteView). record (closed_session v) { sites = ss })
          (ap (λ (ss : List Site). map view_site ss) (sites_back err) ∙ same_views err),
    )

pub invariant_of-self-in-Err : goal.invariant_of-self-in-Err
invariant_of-self-in-Err c =
    let s = c.args.self.now in
    let err : In-Err = (goal.at.invariant_of-self-in-Err c).In-Err in
    let items = sites_back err in
    let views = same_views err in
    record {
      few = rw c.in-Err.ensures.made s.few;
      small = s.small;
      most = rw items (omega (arith, same_count err, s.most));
      within = s.within;
      kept = ∥∥₁_map s.kept (λ k. record {
        sound = rw (items, views, c.in-Err.ensures.made) k.sound;
        sorted = rw (items, c.in-Err.ensures.made)
            (c.in-Err.ensures.sorted (length s.made.items) (rw c.deref_mut.ensures.value k.sorted));
      });
      forms = λ is. absurd (false≢true is);
      counts = λ is. absurd (false≢true is);
    }

-- the session is kept, with its forms and their count, where the site executed the operation
pub invariant_of-self : goal.invariant_of-self
invariant_of-self c =
    let s = c.args.self.now in
    let f : Function = function_of s.rules in
    let t : ℕ = c.args.site in
    let o : Op = c.args.op in
    let made : List Made = s.made.items in
    let new_made : List Made = c.execute_at.new.made.items in
    let sites : List Site = s.sites.items in
    let new_sites : List Site = c.execute_at.new.sites in
    let step : ExecutesAt f.head.mode o (t - 1) made new_made sites new_sites =
    subst (λ (ss : List Site). ExecutesAt f.head.mode o (t - 1) made new_made ss new_sites) c.deref_mut.ensures.value
    (subst (λ (h : Head). ExecutesAt h.mode o (t - 1) made new_made c.deref_mut.result.now new_sites)
    c.head-mode.ensures.head c.in-Ok.ensures.ok) in
    let at : IsSite (length sites) t = subst (λ (n : ℕ). IsSite n t) (length-map sites view_site) c.requires.may.site in
    let set = sites_set f.head.mode o (t - 1) made new_made s.sites new_sites step in
    let items : (with_items s.sites new_sites).items ≡ new_sites = set.1 in
    let few : length made < MAX_MADE = c.requires.few in
    let own : site_of o ≡ Some t = c.requires.may.own in
    let declared : HasDeclaredKind f.head (kind_of o) = c.requires.may.declared in
    let past : Past = past_of made in
    let new_past : Past = past_of new_made in
    let extends : Extends past new_past = extends-executed f s.first t o made new_made sites new_sites at step in
    let law : (old new : SessionData) → IsSound f old → MayMake f old t o → Makes f old new t o → IsSound f new =
    λ old new. c.steps_keep_sessions_sound.ensures.made f old new t o in
    record {
      few = omega (
        arith,
        few,
        ap length step.made
            ∙ length-append made (record { op = o; known = step.before.integrated } ∷ []),
      );
      small = s.small;
      most = rw items (omega (arith, set.0, s.most));
      within = s.within;
      kept = ∥∥₁_map s.kept (λ k. rw items
          (IsKeptSession-executed f s.first t o made new_made sites new_sites at step few own declared k law));
      forms = λ is. ∥∥₁_map₂ s.kept (s.forms is) (λ k forms. rw items
          (SiteKeepsForms-executed f s.first t o made new_made sites new_sites at step few own declared k law
          (c.members_were_made.ensures.made past)
          (λ l. c.making_more_changes_nothing.ensures.closed past new_past l extends)
          (λ n l. c.making_more_changes_nothing.ensures.forms f past new_past n l extends)
          (λ l. c.counted_forms_need_not_be_sought.ensures.counted new_past l
          (c.open_members_may_be_taken_out.ensures.order f new_past s.first
          (IsKeptSession-executed f s.first t o made new_made sites new_sites at step few own
          declared k law).sound.past))
          (c.steps_count_what_they_seek.ensures.made f (data_of s.first made (map view_site sites)) (data_of s.first
          new_made (map view_site new_sites)) t o k.sound (may_make f s.first t o made new_made sites new_sites at step
          own declared) (makes f s.first t o made new_made sites new_sites at step few own declared k law))
          (λ l. c.making_more_changes_nothing.ensures.counted past new_past l extends)
          forms));
      counts = λ is. subst (λ (ss : List Site). s.counted ≡ all_counted (data_of s.first new_made (map view_site ss)))
          (sym items) (∥∥₁_elim s.kept (Coded-set coded_ℕ _ _) (λ k.
          counts-executed f s.first t o made new_made sites new_sites at step few own declared k law
          (λ old new. c.steps_count_what_they_seek.ensures.all_made f old new t o) s.counted (s.counts is)));
    }

-- the operation is the last one made, and its site alone has executed it
pub returns-in-Ok-clause-made : goal.returns-in-Ok-clause-made
returns-in-Ok-clause-made c =
    let s = c.args.self.now in
    let f : Function = function_of s.rules in
    let t : ℕ = c.args.site in
    let o : Op = c.args.op in
    let made : List Made = s.made.items in
    let new_made : List Made = c.execute_at.new.made.items in
    let sites : List Site = s.sites.items in
    let new_sites : List Site = c.execute_at.new.sites in
    let step : ExecutesAt f.head.mode o (t - 1) made new_made sites new_sites =
    subst (λ (ss : List Site). ExecutesAt f.head.mode o (t - 1) made new_made ss new_sites) c.deref_mut.ensures.value
    (subst (λ (h : Head). ExecutesAt h.mode o (t - 1) made new_made c.deref_mut.result.now new_sites)
    c.head-mode.ensures.head c.in-Ok.ensures.ok) in
    let at : IsSite (length sites) t = subst (λ (n : ℕ). IsSite n t) (length-map sites view_site) c.requires.may.site in
    let items : new_sites ≡ (with_items s.sites new_sites).items =
    sym (sites_set f.head.mode o (t - 1) made new_made s.sites new_sites step).1 in
    let sorted : IsKeptSession f s.first made sites → IsSorted (length made) step.before =
    λ k. AllByRecursion-at (IsSorted (length made)) sites (t - 1) step.before k.sorted step.was in
    let marks : (x : ℕ) → is_marked step.before.integrated x ≡ has (reverse step.before.seen.items) x =
    λ x. ∥∥₁_elim s.kept (Coded-set coded_bool _ _) (λ k. (sorted k).marked.marks x) in
    let before : View = record {
      function = f;
      first = s.first;
      made = made;
      sites = map view_site sites;
      counted = s.counted;
      is_open = s.is_open;
    } in
    subst (λ (ss : List Site).
    HasMade before (record {
      function = f;
      first = s.first;
      made = new_made;
      sites = map view_site ss;
      counted = s.counted;
      is_open = s.is_open;
    }) t o c.in-Ok.number)
    items
    (record {
      number = c.in-Ok.ensures.number;
      made = record {
        known = step.before.integrated;
        is = step.made;
        marks = known-executed f s.first t o made new_made sites new_sites at step marks;
        room = ∥∥₁_elim s.kept (Coded-set coded_ℕ _ _) (λ k. (sorted k).marked.integrated);
      };
      makes = Makes-executed f s.first t o made new_made sites new_sites at step marks;
      function = refl;
      held = held-executed f s.first t o made new_made sites new_sites at step;
      counted = refl;
      is_open = refl;
    })
