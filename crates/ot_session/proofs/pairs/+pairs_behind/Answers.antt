use Rattle.std.proofs.Common.{rules, ◌≡◌, ◌≤◌, ◌<◌, ◌-◌, ◌++◌, ℕ, List, length, Option, Some, refl, sym, ap, ◌∙◌, subst}
use Rattle.std.proofs.Common.{get_or, arith}
use Rattle.std.specs.Coded.{Coded-set, coded_list, coded_ℕ, le_prop}
use Rattle.std.specs.List.{All}
use Rattle.std.proofs.Math.Logic.{∥∥₁_elim, ∥∥₁_map, ∥∥₁_map₂}
use Rattle.std.proofs.lemmas.List.Elements.{All-nil}
use Rattle.ot_model.specs.declared.op.Op.{Op}
use Rattle.fn_rules.specs.Functions.{Function}
use Rattle.fn_rules.specs.Rules.{function_of}
use Rattle.ot_causal.specs.Members.{without}
use Rattle.ot_causal.specs.Past.{Past, maker, IsReady, IsOrderly, IsOpening}
use Rattle.ot_causal.specs.Forms.{form}
use Rattle.ot_causal.specs.Counting.{from_site, counted}
use Rattle.ot_session.specs.declared.pairs.FormPair.{FormPair}
use Rattle.ot_session.specs.Past.{past_of, most_session_cells}
use Rattle.ot_session.specs.Lists.{clock}
use Rattle.ot_session.specs.Entries.{MaySeek}
use Rattle.ot_session.specs.FormPairs.{form_pairs, CanMove}
use Rattle.ot_session.proofs.Clocks.{get_or-clock, clock-without}
use Rattle.ot_session.proofs.FormPairs.{Movable, OnOk-holds, form_pairs-none, form-next, pairs-next, pairs-usable}
use Rattle.ot_session.proofs.FormPairs.{movable}
use Rattle.ot_session.proofs.Sought.{form_code, MaySeek-own, MaySeek-member}
use Rattle.ot_session.proofs.Tables.{form_under-form}
use Rattle.ot_session.proofs.pairs.+pairs_behind.Goals.{After-with_one_less-fewer, In_ok-own, In_ok-by, In-Some-find}
use Rattle.ot_session.proofs.pairs.+pairs_behind.Goals as goal

-- there are none where all of the list is before the operation
pub returns-in_default-clause-usable : goal.returns-in_default-clause-usable
returns-in_default-clause-usable t c =
    subst (λ (ps : List FormPair). All (CanMove (function_of c.args.seeking.rules.now)) ps)
    (sym (form_pairs-none (function_of c.args.seeking.rules.now) (past_of c.args.seeking.made.now) c.args.number
    c.args.list.now (sym c.newest_open.ensures ∙ c.in_default.is)))
    (All-nil (CanMove (function_of c.args.seeking.rules.now)))

pub without-requires : goal.without-requires
without-requires t c = ∥∥₁_map c.requires.may (λ m. m.sought.ready.1)

pub with_one_less-fewer-requires-clause-site : goal.with_one_less-fewer-requires-clause-site
with_one_less-fewer-requires-clause-site t c =
    let past : Past = past_of c.args.seeking.made.now in
    let x : ℕ = c.in-Some.other in
    let site : ∥ (1 ≤ maker past x) × (maker past x ≤ 16) ∥₁ =
    ∥∥₁_map c.requires.may (λ m.
    m.usable.makers x (c.open_members_may_be_taken_out.ensures.opening past c.args.number c.args.list.now x m.orderly
    m.sought.ready (sym c.in-Some.ensures)).made) in
    rw c.maker.ensures (∥∥₁_elim site le_prop (λ s. s.0), ∥∥₁_elim site le_prop (λ s. s.1))

-- the site of the member that is taken out made at least one of the list
pub with_one_less-fewer-requires-clause-some : goal.with_one_less-fewer-requires-clause-some
with_one_less-fewer-requires-clause-some t c =
    let past : Past = past_of c.args.seeking.made.now in
    let l : List ℕ = c.args.list.now in
    let x : ℕ = c.in-Some.other in
    ∥∥₁_elim c.requires.may le_prop (λ m.
    let opening : IsOpening past c.args.number l x =
    c.open_members_may_be_taken_out.ensures.opening past c.args.number l x m.orderly m.sought.ready
    (sym c.in-Some.ensures) in
    let site = m.usable.makers x opening.made in
    let count : get_or c.args.counts (c.maker.result - 1) 0 ≡ from_site past (maker past x) l =
    ap (λ (cs : List ℕ). get_or cs (c.maker.result - 1) 0) c.requires.counts
    ∙ ap (λ (s : ℕ). get_or (clock past l) (s - 1) 0) c.maker.ensures
    ∙ get_or-clock past l (maker past x) site.0 site.1 in
    omega (
      arith,
      count,
      c.closed_lists_are_told_by_their_counts.ensures.taken_out past (maker past x)
          x l opening.member refl,
    ))

-- the shorter list, and its counts
shorter :
    (t : ℕ) (c : After-with_one_less-fewer t) (older : List ℕ) → older ≡ without c.in-Some.other c.args.list.now
    → (length older < length c.args.list.now)
    × (c.with_one_less-fewer.result ≡ clock (past_of c.args.seeking.made.now) older)
shorter t c older is =
    let past : Past = past_of c.args.seeking.made.now in
    let l : List ℕ = c.args.list.now in
    let x : ℕ = c.in-Some.other in
    let both : ∥ MaySeek (function_of c.args.seeking.rules.now) past c.args.seeking.seen.now c.args.number l
    × IsOpening past c.args.number l x ∥₁ =
    ∥∥₁_map c.requires.may (λ m. (
      m,
      c.open_members_may_be_taken_out.ensures.opening past c.args.number l x m.orderly m.sought.ready
          (sym c.in-Some.ensures),
    )) in (
      ∥∥₁_elim both le_prop (λ b. omega (arith, ap length is, b.1.shorter)),
      ∥∥₁_elim both (Coded-set (coded_list coded_ℕ) _ _) (λ b.
          let site = b.0.usable.makers x b.1.made in
          c.with_one_less-fewer.ensures
          ∙ rw (c.maker.ensures, c.requires.counts, is) (clock-without past x l
          (λ s y m. c.closed_lists_are_told_by_their_counts.ensures.taken_out past s y m)
          (λ s y m. c.closed_lists_are_told_by_their_counts.ensures.others past s y m)
          b.1.member site.0 site.1)),
    )

-- the operation may be sought behind the shorter list
pub pairs_behind-requires : goal.pairs_behind-requires
pairs_behind-requires t c =
    let f : Function = function_of c.args.seeking.rules.now in
    let past : Past = past_of c.args.seeking.made.now in
    let seen : List ℕ = c.args.seeking.seen.now in
    let o : ℕ = c.args.number in
    let l : List ℕ = c.args.list.now in
    let x : ℕ = c.in-Some.other in
    let older : c.deref.result.now ≡ without x l = c.deref.ensures.value ∙ c.in_ok-older.ensures in
    let less = shorter t (goal.at.pairs_behind-requires t c).After-with_one_less-fewer c.deref.result.now older in
    let below : length c.deref.result.now < length l = less.0 in
    let may : ∥ MaySeek f past seen o c.deref.result.now ∥₁ =
    ∥∥₁_map c.requires.may (λ m. subst (λ (k : List ℕ). MaySeek f past seen o k) (sym older)
    (MaySeek-own f past seen o x l (λ k n. c.sublists_are_told_by_their_sets.ensures.without x k n) m
    (c.open_members_may_be_taken_out.ensures.opening past o l x m.orderly m.sought.ready (sym c.in-Some.ensures)))) in (
      search (rules, below),
      (may, (less.1, (omega (arith, below, c.requires.few), c.requires.table))),
    )

-- the member that is taken out may be sought there too
pub pairs_behind-requires-2 : goal.pairs_behind-requires-2
pairs_behind-requires-2 t c =
    let f : Function = function_of c.args.seeking.rules.now in
    let past : Past = past_of c.args.seeking.made.now in
    let seen : List ℕ = c.args.seeking.seen.now in
    let o : ℕ = c.args.number in
    let l : List ℕ = c.args.list.now in
    let x : ℕ = c.in-Some.other in
    let older : c.deref-2.result.now ≡ without x l = c.deref-2.ensures.value ∙ c.in_ok-older.ensures in
    let less = shorter t (goal.at.pairs_behind-requires-2 t c).After-with_one_less-fewer c.deref-2.result.now older in
    let below : length c.deref-2.result.now < length l = less.0 in
    let may : ∥ MaySeek f past seen x c.deref-2.result.now ∥₁ =
    ∥∥₁_map c.requires.may (λ m. subst (λ (k : List ℕ). MaySeek f past seen x k) (sym older)
    (MaySeek-member f past seen o x l (λ k n. c.sublists_are_told_by_their_sets.ensures.without x k n) m
    (c.open_members_may_be_taken_out.ensures.opening past o l x m.orderly m.sought.ready (sym c.in-Some.ensures)))) in (
      search (rules, below),
      (may, (less.1, (omega (arith, below, c.requires.few), c.requires.table))),
    )

-- the form so far, behind the shorter list
own_is :
    (t : ℕ) (c : In_ok-own t)
    → c.in_ok-own.own
    ≡ form (function_of c.args.seeking.rules.now) (past_of c.args.seeking.made.now) c.args.number
    (without c.in-Some.other c.args.list.now)
own_is t c =
    c.in_ok-own.ensures.form
    ∙ ap (λ (m : List ℕ). form (function_of c.args.seeking.rules.now) (past_of c.args.seeking.made.now) c.args.number m)
    (c.deref.ensures.value ∙ c.in_ok-older.ensures)

-- the transformations up to there
own_pairs :
    (t : ℕ) (c : In_ok-own t)
    → c.pairs_behind.new.pairs
    ≡ c.args.pairs.now
    ++ form_pairs (function_of c.args.seeking.rules.now) (past_of c.args.seeking.made.now) c.args.number
    (without c.in-Some.other c.args.list.now)
own_pairs t c =
    c.in_ok-own.ensures.pairs
    ∙ ap (λ (m : List ℕ). c.args.pairs.now ++ form_pairs (function_of c.args.seeking.rules.now)
    (past_of c.args.seeking.made.now) c.args.number m)
    (c.deref.ensures.value ∙ c.in_ok-older.ensures)

own_pairs_usable :
    (t : ℕ) (c : In_ok-own t)
    → All (CanMove (function_of c.args.seeking.rules.now))
    (form_pairs (function_of c.args.seeking.rules.now) (past_of c.args.seeking.made.now) c.args.number
    (without c.in-Some.other c.args.list.now))
own_pairs_usable t c =
    subst (λ (m : List ℕ). All (CanMove (function_of c.args.seeking.rules.now))
    (form_pairs (function_of c.args.seeking.rules.now) (past_of c.args.seeking.made.now) c.args.number m))
    (c.deref.ensures.value ∙ c.in_ok-older.ensures) c.in_ok-own.ensures.usable

-- the member that is taken out is neither before nor behind the operation
opens :
    (t : ℕ) (c : In_ok-own t)
    → IsOrderly (past_of c.args.seeking.made.now)
    → IsReady (past_of c.args.seeking.made.now) c.args.number c.args.list.now
    → IsOpening (past_of c.args.seeking.made.now) c.args.number c.args.list.now c.in-Some.other
opens t c orderly ready =
    c.open_members_may_be_taken_out.ensures.opening (past_of c.args.seeking.made.now) c.args.number c.args.list.now
    c.in-Some.other orderly ready (sym c.in-Some.ensures)

-- a form behind the shorter list can be transformed
can_move :
    (t : ℕ) (c : In_ok-own t) (k : ℕ)
    → (IsOpening (past_of c.args.seeking.made.now) c.args.number c.args.list.now c.in-Some.other
    → k < (past_of c.args.seeking.made.now).count)
    → (p : Option Op)
    → p ≡ form (function_of c.args.seeking.rules.now) (past_of c.args.seeking.made.now) k
    (without c.in-Some.other c.args.list.now)
    → Movable (function_of c.args.seeking.rules.now) p
can_move t c =
    let f : Function = function_of c.args.seeking.rules.now in
    let past : Past = past_of c.args.seeking.made.now in
    let o : ℕ = c.args.number in
    let l : List ℕ = c.args.list.now in
    let x : ℕ = c.in-Some.other in
    movable f past c.args.seeking.seen.now o x l (sym c.in-Some.ensures)
    (opens t c) c.requires.may c.requires.few
    (λ k p is. c.forms_keep_all_but_the_position.ensures.kept f past k (without x l) p is)
    (λ k p usable made closed is. c.forms_keep_all_but_the_position.ensures.near f past most_session_cells k
    (without x l) p c.rules_are_valid.ensures (λ y _. usable.near y) made
    (c.members_were_made.ensures.made past (without x l) closed) is)

-- a form that is found in the table is the one behind the shorter list
found :
    (t : ℕ) (c : In-Some-find t)
    → Some c.in-Some-find.by
    ≡ form (function_of c.args.seeking.rules.now) (past_of c.args.seeking.made.now) c.in-Some.other
    (without c.in-Some.other c.args.list.now)
found t c =
    let f : Function = function_of c.args.seeking.rules.now in
    let past : Past = past_of c.args.seeking.made.now in
    let seen : List ℕ = c.args.seeking.seen.now in
    let o : ℕ = c.args.number in
    let l : List ℕ = c.args.list.now in
    let x : ℕ = c.in-Some.other in
    let counts = (shorter t (goal.at.In-Some-find t c).After-with_one_less-fewer (without x l) refl).1 in
    ∥∥₁_elim (∥∥₁_map₂ c.requires.may c.requires.table (λ m has.
    (form_under-form f past seen (counted past seen) m.usable
    (λ k n. c.closed_lists_are_told_by_their_counts.ensures.told past k n m.orderly)
    (λ k n. c.sublists_are_told_by_their_sets.ensures.told past seen k n m.closed)
    (record { number = x; counts = c.with_one_less-fewer.result }) (without x l) c.in-Some-find.by c.args.table.now
    has.forms (sym c.find.ensures ∙ c.in-Some-find.is)
    (MaySeek-member f past seen o x l (λ k n. c.sublists_are_told_by_their_sets.ensures.without x k n) m
    (c.open_members_may_be_taken_out.ensures.opening past o l x m.orderly m.sought.ready
    (sym c.in-Some.ensures))).sought counts).0))
    (Coded-set form_code _ _) (λ is. sym is)

-- so is one that is made anew
made_anew :
    (t : ℕ) (c : In_ok-by t)
    → c.in_ok-by.by
    ≡ form (function_of c.args.seeking.rules.now) (past_of c.args.seeking.made.now) c.in-Some.other
    (without c.in-Some.other c.args.list.now)
made_anew t c =
    c.in_ok-by.ensures.form
    ∙ ap (λ (m : List ℕ). form (function_of c.args.seeking.rules.now) (past_of c.args.seeking.made.now) c.in-Some.other
    m)
    (c.deref-2.ensures.value ∙ c.in_ok-older.ensures)

-- over a form that is found
pub carry_over-requires-clause-own : goal.carry_over-requires-clause-own
carry_over-requires-clause-own t c =
    let own = (goal.at.carry_over-requires-clause-own t c).In_ok-own in
    can_move t own c.args.number (λ opening. opening.next.made) c.in_ok-own.own (own_is t own)

pub carry_over-requires-clause-by : goal.carry_over-requires-clause-by
carry_over-requires-clause-by t c =
    can_move t (goal.at.carry_over-requires-clause-by t c).In_ok-own c.in-Some.other
    (λ opening. opening.made) (Some c.in-Some-find.by)
    (found t (goal.at.carry_over-requires-clause-by t c).In-Some-find)

pub returns-in-Some-find-clause-form : goal.returns-in-Some-find-clause-form
returns-in-Some-find-clause-form t c =
    let own = (goal.at.returns-in-Some-find-clause-form t c).In_ok-own in
    let f : Function = function_of c.args.seeking.rules.now in
    let past : Past = past_of c.args.seeking.made.now in
    let o : ℕ = c.args.number in
    let l : List ℕ = c.args.list.now in
    let x : ℕ = c.in-Some.other in
    form-next f past c.args.seeking.seen.now o x l (sym c.in-Some.ensures) (opens t own) c.requires.may
    c.in_ok-own.own (Some c.in-Some-find.by)
    (own_is t own) (found t (goal.at.returns-in-Some-find-clause-form t c).In-Some-find)
    (c.forms_are_made_from_shorter_ones.ensures.moved f past o l x (sym c.in-Some.ensures)) c.carry_over.result
    c.carry_over.ensures.form

pub returns-in-Some-find-clause-pairs : goal.returns-in-Some-find-clause-pairs
returns-in-Some-find-clause-pairs t c =
    let f : Function = function_of c.args.seeking.rules.now in
    let past : Past = past_of c.args.seeking.made.now in
    let o : ℕ = c.args.number in
    let l : List ℕ = c.args.list.now in
    let x : ℕ = c.in-Some.other in
    let own = (goal.at.returns-in-Some-find-clause-pairs t c).In_ok-own in
    pairs-next f past c.args.seeking.seen.now o x l (sym c.in-Some.ensures) (opens t own) c.requires.may
    c.in_ok-own.own (Some c.in-Some-find.by)
    (own_is t own) (found t (goal.at.returns-in-Some-find-clause-pairs t c).In-Some-find)
    c.carry_over.result
    c.args.pairs.now c.pairs_behind.new.pairs
    c.carry_over.new.pairs (own_pairs t own) c.carry_over.ensures.pairs

pub returns-in-Some-find-clause-usable : goal.returns-in-Some-find-clause-usable
returns-in-Some-find-clause-usable t c =
    let f : Function = function_of c.args.seeking.rules.now in
    let past : Past = past_of c.args.seeking.made.now in
    let o : ℕ = c.args.number in
    let l : List ℕ = c.args.list.now in
    let x : ℕ = c.in-Some.other in
    let own = (goal.at.returns-in-Some-find-clause-usable t c).In_ok-own in
    let by_is = (found t (goal.at.returns-in-Some-find-clause-usable t c).In-Some-find) in
    OnOk-holds c.carry_over.result
    (pairs-usable f past c.args.seeking.seen.now o x l (sym c.in-Some.ensures) (opens t own) c.requires.may
    c.in_ok-own.own (Some c.in-Some-find.by)
    (own_is t own) by_is (can_move t own o (λ opening. opening.next.made) c.in_ok-own.own (own_is t own))
    (can_move t own x (λ opening. opening.made) (Some c.in-Some-find.by) by_is) (own_pairs_usable t own))

-- over one that is made anew
pub carry_over-requires-2-clause-own : goal.carry_over-requires-2-clause-own
carry_over-requires-2-clause-own t c =
    let own = (goal.at.carry_over-requires-2-clause-own t c).In_ok-own in
    can_move t own c.args.number (λ opening. opening.next.made) c.in_ok-own.own (own_is t own)

pub carry_over-requires-2-clause-by : goal.carry_over-requires-2-clause-by
carry_over-requires-2-clause-by t c =
    can_move t (goal.at.carry_over-requires-2-clause-by t c).In_ok-own c.in-Some.other
    (λ opening. opening.made) c.in_ok-by.by
    (made_anew t (goal.at.carry_over-requires-2-clause-by t c).In_ok-by)

pub returns-clause-form : goal.returns-clause-form
returns-clause-form t c =
    let own = (goal.at.returns-clause-form t c).In_ok-own in
    let f : Function = function_of c.args.seeking.rules.now in
    let past : Past = past_of c.args.seeking.made.now in
    let o : ℕ = c.args.number in
    let l : List ℕ = c.args.list.now in
    let x : ℕ = c.in-Some.other in
    form-next f past c.args.seeking.seen.now o x l (sym c.in-Some.ensures) (opens t own) c.requires.may
    c.in_ok-own.own c.in_ok-by.by
    (own_is t own) (made_anew t (goal.at.returns-clause-form t c).In_ok-by)
    (c.forms_are_made_from_shorter_ones.ensures.moved f past o l x (sym c.in-Some.ensures)) c.carry_over-2.result
    c.carry_over-2.ensures.form

pub returns-clause-pairs : goal.returns-clause-pairs
returns-clause-pairs t c =
    let f : Function = function_of c.args.seeking.rules.now in
    let past : Past = past_of c.args.seeking.made.now in
    let o : ℕ = c.args.number in
    let l : List ℕ = c.args.list.now in
    let x : ℕ = c.in-Some.other in
    let own = (goal.at.returns-clause-pairs t c).In_ok-own in
    pairs-next f past c.args.seeking.seen.now o x l (sym c.in-Some.ensures) (opens t own) c.requires.may
    c.in_ok-own.own c.in_ok-by.by
    (own_is t own) (made_anew t (goal.at.returns-clause-pairs t c).In_ok-by) c.carry_over-2.result
    c.args.pairs.now c.pairs_behind.new.pairs
    c.carry_over-2.new.pairs (own_pairs t own) c.carry_over-2.ensures.pairs

pub returns-clause-usable : goal.returns-clause-usable
returns-clause-usable t c =
    let f : Function = function_of c.args.seeking.rules.now in
    let past : Past = past_of c.args.seeking.made.now in
    let o : ℕ = c.args.number in
    let l : List ℕ = c.args.list.now in
    let x : ℕ = c.in-Some.other in
    let own = (goal.at.returns-clause-usable t c).In_ok-own in
    let by_is = (made_anew t (goal.at.returns-clause-usable t c).In_ok-by) in
    OnOk-holds c.carry_over-2.result
    (pairs-usable f past c.args.seeking.seen.now o x l (sym c.in-Some.ensures) (opens t own) c.requires.may
    c.in_ok-own.own c.in_ok-by.by
    (own_is t own) by_is (can_move t own o (λ opening. opening.next.made) c.in_ok-own.own (own_is t own))
    (can_move t own x (λ opening. opening.made) c.in_ok-by.by by_is) (own_pairs_usable t own))
