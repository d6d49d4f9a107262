use Rattle.std.proofs.Common.{◌≡◌, ℕ, Bool, false, List, length, inl, inr, refl, sym, ap, ◌∙◌, arith, reverse}
use Rattle.std.specs.Coded.{le_prop}
use Rattle.std.proofs.Math.Logic.{∥∥₁_elim, ∥∥₁_map}
use Rattle.std.proofs.lemmas.Bool.{false≢true}
use Rattle.ot_causal.specs.Past.{Past}
use Rattle.ot_session.specs.declared.site.Site.{Site}
use Rattle.ot_session.specs.Past.{is_marked, past_of}
use Rattle.ot_session.specs.Sites.{IsSorted}
use Rattle.ot_session.proofs.Turns.{marks, unknown-unmarked, Holds, IsSorted-held}
use Rattle.ot_session.proofs.taking.take_here.Goals as goal

-- the operation is integrated already
pub returns-then-is_marked-clause-takes : goal.returns-then-is_marked-clause-takes
returns-then-is_marked-clause-takes c =
    let site : Site = c.args.site.now in
    let n : ℕ = c.args.number in
    record {
      known = inl (sym (marks (past_of c.args.made.now) site (∥∥₁_map c.requires.can (λ k. k.sorted)) n)
          ∙ ap (λ (m : List Bool). is_marked m n) (sym c.as_slice.ensures)
          ∙ sym c.is_marked.ensures ∙ c.if-is_marked.true);
      same = refl;
    }

-- it is held already
pub returns-then-is_marked-2-clause-takes : goal.returns-then-is_marked-2-clause-takes
returns-then-is_marked-2-clause-takes c =
    let n : ℕ = c.args.number in
    record {
      known = inr (ap (λ (m : List Bool). is_marked m n) (sym c.as_slice-2.ensures) ∙ sym c.is_marked-2.ensures
          ∙ c.if-is_marked-2.true);
      same = refl;
    }

pub returns-then-is_marked-clause-sorted : goal.returns-then-is_marked-clause-sorted
returns-then-is_marked-clause-sorted c = ∥∥₁_map c.requires.can (λ k. k.sorted)

pub returns-then-is_marked-2-clause-sorted : goal.returns-then-is_marked-2-clause-sorted
returns-then-is_marked-2-clause-sorted c = ∥∥₁_map c.requires.can (λ k. k.sorted)

pub set-requires : goal.set-requires
set-requires c =
    ∥∥₁_elim c.requires.can le_prop (λ k. omega (arith, k.sorted.marked.held, c.requires.made, c.requires.few))

-- something before the operation is missing, so it is held
pub returns-then-not-knows_all-clause-takes : goal.returns-then-not-knows_all-clause-takes
returns-then-not-knows_all-clause-takes c =
    let past : Past = past_of c.args.made.now in
    let site : Site = c.args.site.now in
    let n : ℕ = c.args.number in
    let sorted : ∥ IsSorted past.count site ∥₁ = ∥∥₁_map c.requires.can (λ k. k.sorted) in
    let unmarked : is_marked site.integrated n ≡ false =
    ap (λ (m : List Bool). is_marked m n) (sym c.as_slice.ensures) ∙ sym c.is_marked.ensures ∙ c.if-is_marked.false in
    let unheld : is_marked site.held n ≡ false =
    ap (λ (m : List Bool). is_marked m n) (sym c.as_slice-2.ensures) ∙ sym c.is_marked-2.ensures
    ∙ c.if-is_marked-2.false in
    record {
      unknown = unknown-unmarked past site sorted n unmarked unheld;
      missing = λ all. false≢true (sym c.if-not-knows_all.true ∙ c.knows_all.ensures.1 (record {
        at = λ x before. ap (λ (m : List Bool). is_marked m x) c.as_slice-3.ensures
            ∙ marks past site sorted x ∙ all.at x before;
      }));
      is = ap (λ (m : List Bool). record {
        site = record { document = site.doc; seen = reverse site.seen.items; held = m };
        counted = c.args.total.now;
      }) c.set.ensures;
    }

pub returns-then-not-knows_all-clause-sorted : goal.returns-then-not-knows_all-clause-sorted
returns-then-not-knows_all-clause-sorted c =
    let site : Site = c.args.site.now in
    let n : ℕ = c.args.number in
    let unmarked : is_marked site.integrated n ≡ false =
    ap (λ (m : List Bool). is_marked m n) (sym c.as_slice.ensures) ∙ sym c.is_marked.ensures ∙ c.if-is_marked.false in
    let new : Site = record {
      doc = site.doc;
      seen = site.seen;
      integrated = site.integrated;
      held = c.set.new.self;
      table = site.table;
    } in
    let holds : Holds n site new = record { seen = refl; integrated = refl; held = c.set.ensures } in
    ∥∥₁_map c.requires.can (λ k. IsSorted-held (length c.args.made.now) n site new holds c.requires.made
    (omega (arith, k.sorted.marked.held, c.requires.made, c.requires.few)) unmarked k.sorted)

-- a site that holds one operation more can take further ones
pub returns-then-not-knows_all-clause-can : goal.returns-then-not-knows_all-clause-can
returns-then-not-knows_all-clause-can c =
    let site : Site = c.args.site.now in
    let n : ℕ = c.args.number in
    let unmarked : is_marked site.integrated n ≡ false =
    ap (λ (m : List Bool). is_marked m n) (sym c.as_slice.ensures) ∙ sym c.is_marked.ensures ∙ c.if-is_marked.false in
    let new : Site = record {
      doc = site.doc;
      seen = site.seen;
      integrated = site.integrated;
      held = c.set.new.self;
      table = site.table;
    } in
    let holds : Holds n site new = record { seen = refl; integrated = refl; held = c.set.ensures } in
    ∥∥₁_map c.requires.can (λ k. record {
      orderly = k.orderly;
      usable = k.usable;
      closed = k.closed;
      sorted = IsSorted-held (length c.args.made.now) n site new holds c.requires.made
          (omega (arith, k.sorted.marked.held, c.requires.made, c.requires.few)) unmarked k.sorted;
      forms = record { has = k.forms.has };
    })

pub integrate_all-requires-clause-unknown : goal.integrate_all-requires-clause-unknown
integrate_all-requires-clause-unknown c =
    let past : Past = past_of c.args.made.now in
    let site : Site = c.args.site.now in
    let n : ℕ = c.args.number in
    unknown-unmarked past site (∥∥₁_map c.requires.can (λ k. k.sorted)) n
    (ap (λ (m : List Bool). is_marked m n) (sym c.as_slice.ensures) ∙ sym c.is_marked.ensures ∙ c.if-is_marked.false)
    (ap (λ (m : List Bool). is_marked m n) (sym c.as_slice-2.ensures) ∙ sym c.is_marked-2.ensures
    ∙ c.if-is_marked-2.false)

pub integrate_all-requires-clause-ready : goal.integrate_all-requires-clause-ready
integrate_all-requires-clause-ready c =
    let past : Past = past_of c.args.made.now in
    let site : Site = c.args.site.now in
    let all = c.knows_all.ensures.0 c.if-not-knows_all.false in
    record {
      at = λ x before. sym (marks past site (∥∥₁_map c.requires.can (λ k. k.sorted)) x)
          ∙ ap (λ (m : List Bool). is_marked m x) (sym c.as_slice-3.ensures) ∙ all.at x before;
    }
