use Rattle.std.proofs.Common.{◌≡◌, ◌≤◌, ◌++◌, ℕ, Bool, true, List, length, sym, ap, ◌∙◌, subst, reverse, arith}
use Rattle.std.specs.Coded.{Coded-set, coded_bool, le_prop}
use Rattle.std.specs.List.{All}
use Rattle.std.proofs.Math.Logic.{∥∥₁_elim, ∥∥₁_map}
use Rattle.fn_rules.specs.Functions.{Function}
use Rattle.fn_rules.specs.Rules.{function_of}
use Rattle.ot_causal.specs.Counting.{counted}
use Rattle.ot_causal.specs.Members.{has}
use Rattle.ot_causal.specs.Past.{Past}
use Rattle.ot_session.specs.declared.limits.TheConstants.{MAX_MADE}
use Rattle.ot_session.specs.declared.pairs.FormPair.{FormPair}
use Rattle.ot_session.specs.Entries.{HasForms, MaySeek}
use Rattle.ot_session.specs.FormPairs.{form_pairs, older_than, CanMove}
use Rattle.ot_session.specs.Past.{is_marked, past_of}
use Rattle.ot_session.proofs.FormPairs.{older_than-none, older_than-ready, older_than-sublist}
use Rattle.ot_session.proofs.pairs.pairs_at.Goals.{After-is_marked, After-older_than-list}
use Rattle.ot_session.proofs.pairs.pairs_at.Goals as goal

-- the mark tells whether the operation is integrated
marked :
    (c : After-is_marked) → has (reverse c.args.site.now.seen.items) c.args.number ≡ c.is_marked.result
marked c =
    ∥∥₁_elim c.requires.can (Coded-set coded_bool _ _) (λ k.
    sym (k.sorted.marked.marks c.args.number)
    ∙ sym (c.is_marked.ensures ∙ ap (λ (marks : List Bool). is_marked marks c.args.number) c.as_slice.ensures))

pub returns-then-not-is_marked-clause-pairs : goal.returns-then-not-is_marked-clause-pairs
returns-then-not-is_marked-clause-pairs c =
    let f : Function = function_of c.args.rules.now in
    let past : Past = past_of c.args.made.now in
    let seen : List ℕ = reverse c.args.site.now.seen.items in
    let before = (goal.at.returns-then-not-is_marked-clause-pairs c).After-is_marked in
    c.new-pairs.ensures
    ∙ sym (ap (λ (l : List ℕ). form_pairs f past c.args.number l)
    (older_than-none c.args.number seen (marked before ∙ c.if-not-is_marked.true)))

-- what is older than the operation at the site
list_is :
    (c : After-older_than-list)
    → c.older_than-list.result.now ≡ older_than c.args.number (reverse c.args.site.now.seen.items)
list_is c =
    c.older_than-list.ensures
    ∙ ap (λ (l : List ℕ). older_than c.args.number l)
    (c.deref-2.ensures.value ∙ c.in_ok-seen.ensures ∙ ap reverse c.deref.ensures.value)

few : (c : After-older_than-list) → length c.older_than-list.result.now ≤ MAX_MADE
few c =
    let past : Past = past_of c.args.made.now in
    let seen : List ℕ = reverse c.args.site.now.seen.items in
    let member : has seen c.args.number ≡ true =
    marked (goal.at.After-older_than-list c).After-is_marked ∙ c.if-not-is_marked.false in
    ∥∥₁_elim c.requires.can le_prop (λ k. omega (
      arith,
      ap length (list_is c),
      c.requires.few,
      c.members_were_made.ensures.few past (older_than c.args.number seen)
          (older_than-ready past c.args.number seen member k.closed).1,
    ))

pub counts_of-counts-requires : goal.counts_of-counts-requires
counts_of-counts-requires c = few (goal.at.counts_of-counts-requires c).After-older_than-list

pub pairs_behind-requires-clause-few : goal.pairs_behind-requires-clause-few
pairs_behind-requires-clause-few c = few (goal.at.pairs_behind-requires-clause-few c).After-older_than-list

-- the operation's form can be sought behind what is older
pub pairs_behind-requires-clause-may : goal.pairs_behind-requires-clause-may
pairs_behind-requires-clause-may c =
    let f : Function = function_of c.args.rules.now in
    let past : Past = past_of c.args.made.now in
    let o : ℕ = c.args.number in
    let seen : List ℕ = reverse c.args.site.now.seen.items in
    let items : c.deref-3.result.now ≡ seen =
    c.deref-3.ensures.value ∙ c.in_ok-seen.ensures ∙ ap reverse c.deref.ensures.value in
    let after = (goal.at.pairs_behind-requires-clause-may c).After-older_than-list in
    let before = (goal.at.pairs_behind-requires-clause-may c).After-is_marked in
    let member : has seen o ≡ true = marked before ∙ c.if-not-is_marked.false in
    ∥∥₁_map c.requires.can (λ k.
    subst (λ (l : List ℕ). MaySeek f past l o c.older_than-list.result.now) (sym items)
    (subst (λ (l : List ℕ). MaySeek f past seen o l) (sym (list_is after)) (record {
      orderly = k.orderly;
      closed = k.closed;
      usable = k.usable;
      sought = record {
        ready = older_than-ready past o seen member k.closed;
        sublist = older_than-sublist o seen c.sublists_are_told_by_their_sets.ensures.whole;
      };
    })))

-- the table has the forms that the site has counted
pub pairs_behind-requires-clause-table : goal.pairs_behind-requires-clause-table
pairs_behind-requires-clause-table c =
    let f : Function = function_of c.args.rules.now in
    let past : Past = past_of c.args.made.now in
    let items : c.deref-3.result.now ≡ reverse c.args.site.now.seen.items =
    c.deref-3.ensures.value ∙ c.in_ok-seen.ensures ∙ ap reverse c.deref.ensures.value in
    ∥∥₁_map c.requires.can (λ k.
    subst (λ (l : List ℕ). HasForms f past l (counted past l) c.args.site.now.table) (sym items) k.forms.has)

pub returns-clause-usable : goal.returns-clause-usable
returns-clause-usable c =
    let f : Function = function_of c.args.rules.now in
    let past : Past = past_of c.args.made.now in
    subst (λ (ps : List FormPair). All (CanMove f) ps)
    (sym (c.in_ok-pairs_behind.ensures.pairs
    ∙ ap (λ (ps : List FormPair). ps ++ form_pairs f past c.args.number c.older_than-list.result.now)
    c.new-pairs.ensures))
    c.in_ok-pairs_behind.ensures.usable
