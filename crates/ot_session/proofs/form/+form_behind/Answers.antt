use Rattle.std.proofs.Common.{rules, ◌≡◌, ◌<◌, ◌≤◌, ◌+◌, ◌-◌, ◌++◌, ◌∷◌, [], ℕ, List, length, Some, Ok, Err, IfOk}
use Rattle.std.proofs.Common.{Result, refl, sym, ap, ◌∙◌, subst, get_or, arith}
use Rattle.std.specs.Coded.{Coded-set, coded_list, coded_ℕ, le_prop}
use Rattle.std.proofs.Math.Logic.{∥∥₁_elim, ∥∥₁_map, ∥∥₁_map₂, ∥∥₁_prop}
use Rattle.std.proofs.Props.{props}
use Rattle.std.proofs.lemmas.Result.{IfOk-weaker}
use Rattle.ot_model.specs.declared.op.Op.{Op}
use Rattle.fn_rules.specs.Rules.{function_of}
use Rattle.ot_model.specs.Operations.{kind_of}
use Rattle.fn_rules.specs.Conditions.{IsInRange}
use Rattle.fn_rules.specs.Functions.{Function, IsForKind}
use Rattle.fn_rules.specs.Transformation.{transform_of}
use Rattle.ot_causal.specs.Members.{without}
use Rattle.ot_causal.specs.Past.{Past, maker, IsOpening}
use Rattle.ot_causal.specs.Forms.{form, transformed}
use Rattle.ot_causal.specs.Counting.{FormName, name_of, sought, count_sought, from_site}
use Rattle.ot_session.specs.declared.form.FormError.{FormError}
use Rattle.ot_session.specs.declared.form.FormError.TheVariants.{NoForm, Spent, NoMemory}
use Rattle.ot_session.specs.declared.table.Key.{Key}
use Rattle.ot_session.specs.Seeking.{Missing, Exhausted, first_obstacle}
use Rattle.ot_session.specs.Past.{past_of, most_session_cells}
use Rattle.ot_session.specs.Lists.{clock}
use Rattle.ot_session.specs.Entries.{HasForms, IsTable, MaySeek, Seeks, HasSought}
use Rattle.ot_session.proofs.BothParts.{new-unstored, exhausted, missing, stored}
use Rattle.ot_session.proofs.Clocks.{get_or-clock, clock-without}
use Rattle.ot_session.proofs.Seeking.{obstacle_code, first_obstacle-counted}
use Rattle.ot_session.proofs.Tables.{form_under-form}
use Rattle.ot_session.proofs.Reaches.{form-usable}
use Rattle.ot_session.proofs.Sought.{form_code, MaySeek-own, MaySeek-member, HasSought-own, HasSought-by}
use Rattle.ot_session.proofs.form.+form_behind.Goals.{After-with_one_less-fewer, In_ok-own, In_ok-by}
use Rattle.ot_session.proofs.form.+form_behind.Goals as goal

-- a form by those of its two parts
by_parts :
    (f : Function) (past : Past) (o x : ℕ) (l : List ℕ) (own by : Op)
    → form f past o l ≡ transformed f (form f past o (without x l)) (form f past x (without x l))
    → (older again : List ℕ) → older ≡ without x l → again ≡ without x l → form f past o older ≡ Some own
    → form f past x again ≡ Some by
    → form f past o l ≡ transform_of f own by
by_parts f past o x l own by moved older again is_older is_again own_is by_is =
    let first : form f past o (without x l) ≡ Some own =
    subst (λ (m : List ℕ). form f past o m ≡ Some own) is_older own_is in
    let second : form f past x (without x l) ≡ Some by =
    subst (λ (m : List ℕ). form f past x m ≡ Some by) is_again by_is in
    moved ∙ rw (first, second) refl

-- what seeking comes to, by the answer
last_sought :
    (f : Function) (past : Past) (seen : List ℕ) (names : List FormName) (others o : ℕ) (l : List ℕ) (entries : List
    (Key × Op)) (total : ℕ) (r : Result Op FormError) → IfOk r (λ _. Seeks f past seen names others o l entries total)
    → (r ≡ Err NoForm → first_obstacle f past (others + length names) names (sought past o l) ≡ Some (Missing total))
    → (r ≡ Err Spent → first_obstacle f past (others + length names) names (sought past o l) ≡ Some Exhausted)
    → HasSought f past seen names others o l entries total r
last_sought f past seen names others o l entries total (Ok p) ok none spent = ok
last_sought f past seen names others o l entries total (Err NoForm) ok none spent = none refl
last_sought f past seen names others o l entries total (Err Spent) ok none spent = spent refl
last_sought f past seen names others o l entries total (Err NoMemory) ok none spent = tt

-- the shorter list, and its counts
shorter :
    (t : ℕ) (c : After-with_one_less-fewer t) (older : List ℕ) → older ≡ without c.in-Some.other c.args.list.now
    → (length older < length c.args.list.now)
    × (c.with_one_less-fewer.result ≡ clock (past_of c.args.seeking.made.now) older)
shorter t c older is =
    let past : Past = past_of c.args.seeking.made.now in
    let l : List ℕ = c.args.list.now in
    let x : ℕ = c.in-Some.other in
    let both : ∥ MaySeek (function_of c.args.seeking.rules.now) past c.args.seeking.seen.now c.args.number l
    × IsOpening past c.args.number l x ∥₁ =
    ∥∥₁_map c.requires.may (λ m. (
      m,
      c.open_members_may_be_taken_out.ensures.opening past c.args.number l x m.orderly m.sought.ready
          (sym c.in-Some.ensures),
    )) in (
      ∥∥₁_elim both le_prop (λ b. omega (arith, ap length is, b.1.shorter)),
      ∥∥₁_elim both (Coded-set (coded_list coded_ℕ) _ _) (λ b.
          let site = b.0.usable.makers x b.1.made in
          c.with_one_less-fewer.ensures
          ∙ rw (c.maker.ensures, c.requires.counts, is) (clock-without past x l
          (λ s y m. c.closed_lists_are_told_by_their_counts.ensures.taken_out past s y m)
          (λ s y m. c.closed_lists_are_told_by_their_counts.ensures.others past s y m)
          b.1.member site.0 site.1)),
    )

-- a form behind it is of a declared kind and in range
usable :
    (t : ℕ) (c : After-with_one_less-fewer t) (k : ℕ) (p : Op)
    → form (function_of c.args.seeking.rules.now) (past_of c.args.seeking.made.now) k
    (without c.in-Some.other c.args.list.now) ≡ Some p
    → (IsOpening (past_of c.args.seeking.made.now) c.args.number c.args.list.now c.in-Some.other
    → k < (past_of c.args.seeking.made.now).count)
    → IsForKind (function_of c.args.seeking.rules.now).head (kind_of p) × IsInRange p
usable t c k p is made =
    let f : Function = function_of c.args.seeking.rules.now in
    let past : Past = past_of c.args.seeking.made.now in
    let l : List ℕ = c.args.list.now in
    let x : ℕ = c.in-Some.other in
    ∥∥₁_elim c.requires.may (hlevel props) (λ m.
    let opening : IsOpening past c.args.number l x =
    c.open_members_may_be_taken_out.ensures.opening past c.args.number l x m.orderly m.sought.ready
    (sym c.in-Some.ensures) in
    form-usable f past k (without x l) p m.usable (made opening) (omega (arith, opening.shorter, c.requires.few)) is
    (c.forms_keep_all_but_the_position.ensures.kept f past k (without x l) p is)
    (c.forms_keep_all_but_the_position.ensures.near f past most_session_cells k (without x l) p
    c.rules_are_valid.ensures
    (λ y _. m.usable.near y) (made opening) (c.members_were_made.ensures.made past (without x l) opening.closed) is))

-- a form that is found in the table is the one that is sought
pub returns-in-Some-find-clause-ok : goal.returns-in-Some-find-clause-ok
returns-in-Some-find-clause-ok t c =
    let f : Function = function_of c.args.seeking.rules.now in
    let past : Past = past_of c.args.seeking.made.now in
    let seen : List ℕ = c.args.seeking.seen.now in
    ∥∥₁_elim (∥∥₁_map₂ c.requires.may c.requires.table (λ m table.
    (form_under-form f past seen table.names m.usable
    (λ k n. c.closed_lists_are_told_by_their_counts.ensures.told past k n m.orderly)
    (λ k n. c.sublists_are_told_by_their_sets.ensures.told past seen k n m.closed)
    (record { number = c.args.number; counts = c.args.counts }) c.args.list.now c.in-Some-find.form c.args.table.now
    table.has.forms (sym c.find.ensures ∙ c.in-Some-find.is) m.sought c.requires.counts).0))
    (Coded-set form_code _ _) (λ is. is)

-- a form that is found in the table was counted before, so nothing changes
pub returns-in-Some-find-clause-sought : goal.returns-in-Some-find-clause-sought
returns-in-Some-find-clause-sought t c = λ names others has total.
    let f : Function = function_of c.args.seeking.rules.now in
    let past : Past = past_of c.args.seeking.made.now in
    let seen : List ℕ = c.args.seeking.seen.now in
    let o : ℕ = c.args.number in
    let l : List ℕ = c.args.list.now in
    let same : ∥ HasForms f past seen names c.args.table.now × (count_sought names (sought past o l) ≡ names) ∥₁ =
    ∥∥₁_map₂ c.requires.may has (λ m table. (
      table,
      c.counted_forms_need_not_be_sought.ensures.again past seen names o l m.closed m.sought.sublist table.counted
          (form_under-form f past seen names m.usable
          (λ k n. c.closed_lists_are_told_by_their_counts.ensures.told past k n m.orderly)
          (λ k n. c.sublists_are_told_by_their_sets.ensures.told past seen k n m.closed)
          (record { number = o; counts = c.args.counts }) l c.in-Some-find.form c.args.table.now
          table.forms (sym c.find.ensures ∙ c.in-Some-find.is) m.sought c.requires.counts).1,
    )) in
    record {
      free = ∥∥₁_elim same (Coded-set obstacle_code _ _)
          (λ s. first_obstacle-counted f past (others + length names) names (sought past o l) s.1);
      table = ∥∥₁_map same
          (λ s. subst (λ (more : List FormName). HasForms f past seen more c.args.table.now) (sym s.1) s.0);
      count = ∥∥₁_elim same (Coded-set coded_ℕ _ _) (λ s. total
          ∙ ap (λ (more : List FormName). others + length more) (sym s.1));
    }

pub without-requires : goal.without-requires
without-requires t c = ∥∥₁_map c.requires.may (λ m. m.sought.ready.1)

pub with_one_less-fewer-requires-clause-site : goal.with_one_less-fewer-requires-clause-site
with_one_less-fewer-requires-clause-site t c =
    let past : Past = past_of c.args.seeking.made.now in
    let x : ℕ = c.in-Some.other in
    let site : ∥ (1 ≤ maker past x) × (maker past x ≤ 16) ∥₁ =
    ∥∥₁_map c.requires.may (λ m.
    m.usable.makers x (c.open_members_may_be_taken_out.ensures.opening past c.args.number c.args.list.now x m.orderly
    m.sought.ready (sym c.in-Some.ensures)).made) in
    rw c.maker.ensures (∥∥₁_elim site le_prop (λ s. s.0), ∥∥₁_elim site le_prop (λ s. s.1))

-- the site of the member that is taken out made at least one of the list
pub with_one_less-fewer-requires-clause-some : goal.with_one_less-fewer-requires-clause-some
with_one_less-fewer-requires-clause-some t c =
    let past : Past = past_of c.args.seeking.made.now in
    let l : List ℕ = c.args.list.now in
    let x : ℕ = c.in-Some.other in
    ∥∥₁_elim c.requires.may le_prop (λ m.
    let opening : IsOpening past c.args.number l x =
    c.open_members_may_be_taken_out.ensures.opening past c.args.number l x m.orderly m.sought.ready
    (sym c.in-Some.ensures) in
    let site = m.usable.makers x opening.made in
    let count : get_or c.args.counts (c.maker.result - 1) 0 ≡ from_site past (maker past x) l =
    ap (λ (cs : List ℕ). get_or cs (c.maker.result - 1) 0) c.requires.counts
    ∙ ap (λ (s : ℕ). get_or (clock past l) (s - 1) 0) c.maker.ensures
    ∙ get_or-clock past l (maker past x) site.0 site.1 in
    omega (
      arith,
      count,
      c.closed_lists_are_told_by_their_counts.ensures.taken_out past (maker past x)
          x l opening.member refl,
    ))

-- the operation may be sought behind the shorter list
pub form_behind-requires : goal.form_behind-requires
form_behind-requires t c =
    let f : Function = function_of c.args.seeking.rules.now in
    let past : Past = past_of c.args.seeking.made.now in
    let seen : List ℕ = c.args.seeking.seen.now in
    let o : ℕ = c.args.number in
    let l : List ℕ = c.args.list.now in
    let x : ℕ = c.in-Some.other in
    let older : c.deref.result.now ≡ without x l = c.deref.ensures.value ∙ c.in_ok-older.ensures in
    let less = shorter t (goal.at.form_behind-requires t c).After-with_one_less-fewer c.deref.result.now older in
    let below : length c.deref.result.now < length l = less.0 in
    let may : ∥ MaySeek f past seen o c.deref.result.now ∥₁ =
    ∥∥₁_map c.requires.may (λ m. subst (λ (k : List ℕ). MaySeek f past seen o k) (sym older)
    (MaySeek-own f past seen o x l (λ k n. c.sublists_are_told_by_their_sets.ensures.without x k n) m
    (c.open_members_may_be_taken_out.ensures.opening past o l x m.orderly m.sought.ready (sym c.in-Some.ensures)))) in (
      search (rules, below),
      (may, (less.1, (omega (arith, below, c.requires.few), (c.requires.table, c.requires.counted)))),
    )

-- the search of the operation's own form stopped
pub returns-in_err-own-clause-sought : goal.returns-in_err-own-clause-sought
returns-in_err-own-clause-sought t c = λ names others has total.
    let f : Function = function_of c.args.seeking.rules.now in
    let past : Past = past_of c.args.seeking.made.now in
    let seen : List ℕ = c.args.seeking.seen.now in
    let o : ℕ = c.args.number in
    let l : List ℕ = c.args.list.now in
    let x : ℕ = c.in-Some.other in
    let split : sought past o l ≡ sought past o (without x l) ++ sought past x (without x l) ++ name_of o l ∷ [] =
    c.forms_are_sought_before_they_are_made.ensures.some past o l x (sym c.in-Some.ensures) in
    let e : FormError = c.in_err-own.field-0.0 in
    let same : c.from_residual-in_err-own.result ≡ Err e = search rules in
    let stopped : HasSought f past seen names others o (without x l) c.form_behind.new.table
    c.form_behind.new.counted (Err e) =
    subst (λ (m : List ℕ). HasSought f past seen names others o m c.form_behind.new.table c.form_behind.new.counted
    (Err e)) (c.deref.ensures.value ∙ c.in_ok-older.ensures) (c.in_err-own.ensures.sought names others has total) in
    subst (λ (r : Result Op FormError).
    HasSought f past seen names others o l c.form_behind.new.table c.form_behind.new.counted r) (sym same)
    (HasSought-own f past seen o x l split names others c.form_behind.new.table c.form_behind.new.table
    c.form_behind.new.counted e stopped)

-- the member that is taken out may be sought behind the shorter list, with the table as it is now
pub form_behind-requires-2 : goal.form_behind-requires-2
form_behind-requires-2 t c =
    let f : Function = function_of c.args.seeking.rules.now in
    let past : Past = past_of c.args.seeking.made.now in
    let seen : List ℕ = c.args.seeking.seen.now in
    let o : ℕ = c.args.number in
    let l : List ℕ = c.args.list.now in
    let x : ℕ = c.in-Some.other in
    let older : c.deref-2.result.now ≡ without x l = c.deref-2.ensures.value ∙ c.in_ok-older.ensures in
    let less = shorter t (goal.at.form_behind-requires-2 t c).After-with_one_less-fewer c.deref-2.result.now older in
    let below : length c.deref-2.result.now < length l = less.0 in
    let may : ∥ MaySeek f past seen x c.deref-2.result.now ∥₁ =
    ∥∥₁_map c.requires.may (λ m. subst (λ (k : List ℕ). MaySeek f past seen x k) (sym older)
    (MaySeek-member f past seen o x l (λ k n. c.sublists_are_told_by_their_sets.ensures.without x k n) m
    (c.open_members_may_be_taken_out.ensures.opening past o l x m.orderly m.sought.ready (sym c.in-Some.ensures)))) in
    let table : ∥ IsTable f past seen c.form_behind.new.table c.form_behind.new.counted ∥₁ =
    ∥∥₁_elim c.requires.table ∥∥₁_prop (λ old.
    let own : Seeks f past seen old.names old.others o c.deref.result.now c.form_behind.new.table
    c.form_behind.new.counted =
    c.in_ok-own.ensures.sought old.names old.others ∣ old.has ∣₁ old.count in
    ∥∥₁_map own.table (λ h. record {
      names = count_sought old.names (sought past o c.deref.result.now);
      others = old.others;
      has = h;
      count = own.count;
    })) in (
      search (rules, below),
      (may, (less.1, (omega (arith, below, c.requires.few), (table, c.in_ok-own.ensures.counted)))),
    )

-- the operation's own form, and that of the member that is taken out
own_usable :
    (t : ℕ) (c : In_ok-own t)
    → IsForKind (function_of c.args.seeking.rules.now).head (kind_of c.in_ok-own.own) × IsInRange c.in_ok-own.own
own_usable t c =
    usable t (goal.at.In_ok-own t c).After-with_one_less-fewer c.args.number c.in_ok-own.own
    (subst (λ (m : List ℕ). form (function_of c.args.seeking.rules.now) (past_of c.args.seeking.made.now) c.args.number
    m ≡ Some c.in_ok-own.own)
    (c.deref.ensures.value ∙ c.in_ok-older.ensures) c.in_ok-own.ensures.ok) (λ opening. opening.next.made)

by_usable :
    (t : ℕ) (c : In_ok-by t)
    → IsForKind (function_of c.args.seeking.rules.now).head (kind_of c.in_ok-by.by) × IsInRange c.in_ok-by.by
by_usable t c =
    usable t (goal.at.In_ok-by t c).After-with_one_less-fewer c.in-Some.other c.in_ok-by.by
    (subst (λ (m : List ℕ). form (function_of c.args.seeking.rules.now) (past_of c.args.seeking.made.now)
    c.in-Some.other m ≡ Some c.in_ok-by.by)
    (c.deref-2.ensures.value ∙ c.in_ok-older.ensures) c.in_ok-by.ensures.ok) (λ opening. opening.made)

pub store_moved-requires-clause-own_declared : goal.store_moved-requires-clause-own_declared
store_moved-requires-clause-own_declared t c =
    (own_usable t (goal.at.store_moved-requires-clause-own_declared t c).In_ok-own).0

pub store_moved-requires-clause-own_in_range : goal.store_moved-requires-clause-own_in_range
store_moved-requires-clause-own_in_range t c =
    (own_usable t (goal.at.store_moved-requires-clause-own_in_range t c).In_ok-own).1

pub store_moved-requires-clause-by_declared : goal.store_moved-requires-clause-by_declared
store_moved-requires-clause-by_declared t c =
    (by_usable t (goal.at.store_moved-requires-clause-by_declared t c).In_ok-by).0

pub store_moved-requires-clause-by_in_range : goal.store_moved-requires-clause-by_in_range
store_moved-requires-clause-by_in_range t c =
    (by_usable t (goal.at.store_moved-requires-clause-by_in_range t c).In_ok-by).1

-- the search of the form of the member that is taken out stopped
pub returns-in_err-by-clause-sought : goal.returns-in_err-by-clause-sought
returns-in_err-by-clause-sought t c = λ names others has total.
    let f : Function = function_of c.args.seeking.rules.now in
    let past : Past = past_of c.args.seeking.made.now in
    let seen : List ℕ = c.args.seeking.seen.now in
    let o : ℕ = c.args.number in
    let l : List ℕ = c.args.list.now in
    let x : ℕ = c.in-Some.other in
    let split : sought past o l ≡ sought past o (without x l) ++ sought past x (without x l) ++ name_of o l ∷ [] =
    c.forms_are_sought_before_they_are_made.ensures.some past o l x (sym c.in-Some.ensures) in
    let own : Seeks f past seen names others o (without x l) c.form_behind.new.table c.form_behind.new.counted =
    subst (λ (m : List ℕ). Seeks f past seen names others o m c.form_behind.new.table c.form_behind.new.counted)
    (c.deref.ensures.value ∙ c.in_ok-older.ensures) (c.in_ok-own.ensures.sought names others has total) in
    let first : List FormName = count_sought names (sought past o (without x l)) in
    let e : FormError = c.in_err-by.field-0.0 in
    let same : c.from_residual-in_err-by.result ≡ Err e = search rules in
    let stopped : HasSought f past seen first others x (without x l) c.form_behind-2.new.table
    c.form_behind-2.new.counted (Err e) =
    subst (λ (m : List ℕ). HasSought f past seen first others x m c.form_behind-2.new.table
    c.form_behind-2.new.counted (Err e))
    (c.deref-2.ensures.value ∙ c.in_ok-older.ensures) (c.in_err-by.ensures.sought first others own.table own.count) in
    subst (λ (r : Result Op FormError). HasSought f past seen names others o l c.form_behind-2.new.table
    c.form_behind-2.new.counted r) (sym same) (HasSought-by f past seen o x l split names others own.free
    c.form_behind-2.new.table c.form_behind-2.new.table c.form_behind-2.new.counted e stopped)

-- both forms are there, and the form that they make is the one that is sought
pub returns-clause-ok : goal.returns-clause-ok
returns-clause-ok t c =
    let f : Function = function_of c.args.seeking.rules.now in
    let past : Past = past_of c.args.seeking.made.now in
    let o : ℕ = c.args.number in
    let l : List ℕ = c.args.list.now in
    let x : ℕ = c.in-Some.other in
    let made = by_parts f past o x l c.in_ok-own.own c.in_ok-by.by
    (c.forms_are_made_from_shorter_ones.ensures.moved f past o l x (sym c.in-Some.ensures))
    c.deref.result.now c.deref-2.result.now (c.deref.ensures.value ∙ c.in_ok-older.ensures) (c.deref-2.ensures.value
    ∙ c.in_ok-older.ensures) c.in_ok-own.ensures.ok c.in_ok-by.ensures.ok in
    IfOk-weaker c.store_moved.result _ (λ p. form f past o l ≡ Some p) (λ p is. made ∙ is.0) c.store_moved.ensures.ok

pub returns-clause-no_form : goal.returns-clause-no_form
returns-clause-no_form t c = λ none.
    let f : Function = function_of c.args.seeking.rules.now in
    let past : Past = past_of c.args.seeking.made.now in
    let o : ℕ = c.args.number in
    let l : List ℕ = c.args.list.now in
    let x : ℕ = c.in-Some.other in
    by_parts f past o x l c.in_ok-own.own c.in_ok-by.by (c.forms_are_made_from_shorter_ones.ensures.moved f past o l
    x (sym c.in-Some.ensures)) c.deref.result.now c.deref-2.result.now (c.deref.ensures.value ∙ c.in_ok-older.ensures)
    (c.deref-2.ensures.value ∙ c.in_ok-older.ensures) c.in_ok-own.ensures.ok c.in_ok-by.ensures.ok
    ∙ (c.store_moved.ensures.no_form none).0

-- the form that they make is counted and stored, or does not exist, or no more forms may be counted
pub returns-clause-sought : goal.returns-clause-sought
returns-clause-sought t c = λ names others has total.
    let f : Function = function_of c.args.seeking.rules.now in
    let past : Past = past_of c.args.seeking.made.now in
    let seen : List ℕ = c.args.seeking.seen.now in
    let o : ℕ = c.args.number in
    let l : List ℕ = c.args.list.now in
    let x : ℕ = c.in-Some.other in
    let joined = c.counted_forms_need_not_be_sought.ensures.joined names in
    let new = new-unstored f past seen o x l names others joined
    (c.closed_lists_are_told_by_their_counts.ensures.counts past) c.closed_lists_are_told_by_their_counts.ensures.tested
    (λ orderly ready. c.counted_forms_need_not_be_sought.ensures.last past names o l x orderly
    ready (sym c.in-Some.ensures))
    c.args.counts c.args.table.now c.requires.counts (sym c.find.ensures ∙ c.in_default-find.is) c.requires.may has in
    let split = c.forms_are_sought_before_they_are_made.ensures.some past o l x (sym c.in-Some.ensures) in
    let older = c.deref.ensures.value ∙ c.in_ok-older.ensures in
    let again = c.deref-2.ensures.value ∙ c.in_ok-older.ensures in
    let own = c.in_ok-own.ensures.sought names others has total in
    let made = by_parts f past o x l c.in_ok-own.own c.in_ok-by.by
    (c.forms_are_made_from_shorter_ones.ensures.moved f past o l x (sym c.in-Some.ensures))
    c.deref.result.now c.deref-2.result.now older again c.in_ok-own.ensures.ok c.in_ok-by.ensures.ok in
    last_sought f past seen names others o l c.store_moved.new.table c.store_moved.new.counted c.store_moved.result
    (IfOk-weaker c.store_moved.result _
    (λ p. Seeks f past seen names others o l c.store_moved.new.table c.store_moved.new.counted)
    (λ p is. stored f past seen o x l names others joined split c.deref.result.now c.deref-2.result.now older again
    c.form_behind.new.table c.form_behind-2.new.table c.form_behind.new.counted c.form_behind-2.new.counted own
    c.in_ok-by.ensures.sought new
    c.store_moved.new.counted is.1 c.store_moved.ensures.within c.closed_lists_are_told_by_their_counts.ensures.tested
    (λ m. c.counted_forms_need_not_be_sought.ensures.kept past seen names o l m.orderly m.sought.ready m.sought.sublist)
    p c.args.counts c.args.table.now c.store_moved.new.table (made ∙ is.0) c.requires.counts is.2 c.requires.may has)
    c.store_moved.ensures.ok)
    (λ none.
    let is = c.store_moved.ensures.no_form none in
    missing f past seen o x l names others joined split c.deref.result.now c.deref-2.result.now older again
    c.form_behind.new.table c.form_behind-2.new.table c.form_behind.new.counted c.form_behind-2.new.counted own
    c.in_ok-by.ensures.sought new c.store_moved.new.counted is.1 c.store_moved.ensures.within (made ∙ is.0))
    (λ spent.
    exhausted f past seen o x l names others joined split c.deref.result.now c.deref-2.result.now older again
    c.form_behind.new.table c.form_behind-2.new.table c.form_behind.new.counted c.form_behind-2.new.counted own
    c.in_ok-by.ensures.sought new (c.store_moved.ensures.spent spent).0)
