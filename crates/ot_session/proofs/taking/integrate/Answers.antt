use Rattle.std.proofs.Common.{rules, ◌≡◌, ℕ, Bool, List, length, Err, refl, sym, ap, ◌∙◌, subst, arith, reverse}
use Rattle.std.specs.Coded.{le_prop}
use Rattle.std.proofs.Math.Logic.{∥∥₁_elim, ∥∥₁_map}
use Rattle.ot_model.specs.declared.op.Op.{Op}
use Rattle.ot_model.specs.Effect.{IsEnabled, is_enabled}
use Rattle.ot_model.specs.declared.op.Apply.{Apply}
use Rattle.std.proofs.lemmas.Result.{IfOk-from_err}
use Rattle.fn_rules.specs.Rules.{function_of}
use Rattle.fn_rules.specs.Functions.{Function}
use Rattle.ot_causal.specs.Past.{Past}
use Rattle.ot_session.specs.declared.form.FormError.{FormError}
use Rattle.ot_session.specs.declared.form.FormError.TheVariants.{NoForm, Spent}
use Rattle.ot_session.specs.declared.site.Site.{Site}
use Rattle.ot_session.specs.Past.{past_of}
use Rattle.ot_session.specs.Entries.{IsTable, MaySeek}
use Rattle.ot_session.proofs.Views.{OnErr-always}
use Rattle.ot_session.proofs.Integrating.{done-not_refused, no_form-not_spent, no_memory-not_stuck, no_memory-not_spent}
use Rattle.ot_session.proofs.Integrating.{lacked-not_stuck, lacked-not_spent, Changes, Changes-executed, MaySeek-next}
use Rattle.ot_session.proofs.Integrating.{IsTable-kept, IsStuck-missing, count_behind-missing, IsCountSpent-sought}
use Rattle.ot_session.proofs.Integrating.{IsStuck-refused, count_behind-sought, HasIntegrated-sought, CanTake-sought}
use Rattle.ot_session.proofs.taking.integrate.Goals as goal

-- the operation may be sought behind what the site has integrated
pub form_behind-requires-clause-may : goal.form_behind-requires-clause-may
form_behind-requires-clause-may c =
    let f : Function = function_of c.args.rules.now in
    let past : Past = past_of c.args.made.now in
    let seen : List ℕ = reverse c.args.site.now.seen.items in
    let items : c.in_ok-seen.seen.items ≡ seen = c.in_ok-seen.ensures ∙ ap reverse c.deref.ensures.value in
    let first : c.deref-2.result.now ≡ seen = c.deref-2.ensures.value ∙ items in
    let second : c.deref-4.result.now ≡ seen = c.deref-4.ensures.value ∙ items in
    ∥∥₁_map c.requires.can (λ k.
    subst (λ (l : List ℕ). MaySeek f past l c.args.number c.deref-4.result.now) (sym first)
    (subst (λ (l : List ℕ). MaySeek f past seen c.args.number l) (sym second)
    (MaySeek-next f past c.args.site.now c.args.number
    c.sublists_are_told_by_their_sets.ensures.whole k c.requires.next)))

pub form_behind-requires-clause-counts : goal.form_behind-requires-clause-counts
form_behind-requires-clause-counts c =
    let same : c.deref-3.result.now ≡ c.deref-4.result.now = c.deref-3.ensures.value ∙ sym c.deref-4.ensures.value in
    rw (← same) c.counts_of-counts.ensures

pub form_behind-requires-clause-few : goal.form_behind-requires-clause-few
form_behind-requires-clause-few c =
    let past : Past = past_of c.args.made.now in
    let second : c.deref-4.result.now ≡ reverse c.args.site.now.seen.items =
    c.deref-4.ensures.value ∙ c.in_ok-seen.ensures ∙ ap reverse c.deref.ensures.value in
    ∥∥₁_elim c.requires.can le_prop (λ k. omega (
      arith,
      ap length second,
      c.requires.few,
      c.members_were_made.ensures.few past (reverse c.args.site.now.seen.items) k.closed,
    ))

pub counts_of-counts-requires : goal.counts_of-counts-requires
counts_of-counts-requires c =
    let past : Past = past_of c.args.made.now in
    let third : c.deref-3.result.now ≡ reverse c.args.site.now.seen.items =
    c.deref-3.ensures.value ∙ c.in_ok-seen.ensures ∙ ap reverse c.deref.ensures.value in
    ∥∥₁_elim c.requires.can le_prop (λ k. omega (
      arith,
      ap length third,
      c.requires.few,
      c.members_were_made.ensures.few past (reverse c.args.site.now.seen.items) k.closed,
    ))

pub form_behind-requires-clause-table : goal.form_behind-requires-clause-table
form_behind-requires-clause-table c =
    let f : Function = function_of c.args.rules.now in
    let past : Past = past_of c.args.made.now in
    let first : c.deref-2.result.now ≡ reverse c.args.site.now.seen.items =
    c.deref-2.ensures.value ∙ c.in_ok-seen.ensures ∙ ap reverse c.deref.ensures.value in
    ∥∥₁_map c.requires.can (λ k.
    subst (λ (l : List ℕ). IsTable f past l c.args.site.now.table c.args.total.now) (sym first)
    (IsTable-kept f past c.args.site.now c.args.total.now c.requires.total k))

pub returns-in_err-form-clause-stuck : goal.returns-in_err-form-clause-stuck
returns-in_err-form-clause-stuck c = λ none.
    let items : c.in_ok-seen.seen.items ≡ reverse c.args.site.now.seen.items = c.in_ok-seen.ensures
    ∙ ap reverse c.deref.ensures.value in
    let e : FormError = c.in_err-form.field-0.0 in
    let same : c.from_residual-in_err-form.result ≡ Err e = search rules in
    let is : e ≡ NoForm = let errs : Err e ≡ Err NoForm = sym same ∙ none in cc in
    IsStuck-missing (function_of c.args.rules.now) (past_of c.args.made.now) c.args.site.now c.args.number
    c.args.total.now c.form_behind.new.counted c.form_behind.new.table c.deref-2.result.now c.deref-4.result.now
    (c.deref-2.ensures.value ∙ items) (c.deref-4.ensures.value ∙ items) c.requires.total c.requires.can c.requires.next
    e is c.in_err-form.ensures.sought (c.in_err-form.ensures.no_form (ap (λ (x : FormError). Err x) is))

pub returns-in_err-form-clause-stuck_at : goal.returns-in_err-form-clause-stuck_at
returns-in_err-form-clause-stuck_at c = λ none.
    let items : c.in_ok-seen.seen.items ≡ reverse c.args.site.now.seen.items = c.in_ok-seen.ensures
    ∙ ap reverse c.deref.ensures.value in
    let e : FormError = c.in_err-form.field-0.0 in
    let same : c.from_residual-in_err-form.result ≡ Err e = search rules in
    let is : e ≡ NoForm = let errs : Err e ≡ Err NoForm = sym same ∙ none in cc in
    count_behind-missing (function_of c.args.rules.now) (past_of c.args.made.now) c.args.site.now c.args.number
    c.args.total.now c.form_behind.new.counted
    c.form_behind.new.table c.deref-2.result.now c.deref-4.result.now (c.deref-2.ensures.value ∙ items)
    (c.deref-4.ensures.value ∙ items) c.requires.total c.requires.can c.requires.next e is c.in_err-form.ensures.sought

pub returns-in_err-form-clause-spent : goal.returns-in_err-form-clause-spent
returns-in_err-form-clause-spent c = λ none.
    let items : c.in_ok-seen.seen.items ≡ reverse c.args.site.now.seen.items = c.in_ok-seen.ensures
    ∙ ap reverse c.deref.ensures.value in
    let e : FormError = c.in_err-form.field-0.0 in
    let same : c.from_residual-in_err-form.result ≡ Err e = search rules in
    let is : e ≡ Spent = let errs : Err e ≡ Err Spent = sym same ∙ none in cc in
    IsCountSpent-sought (function_of c.args.rules.now) (past_of c.args.made.now) c.args.site.now c.args.number
    c.args.total.now c.form_behind.new.counted
    c.form_behind.new.table c.deref-2.result.now c.deref-4.result.now (c.deref-2.ensures.value ∙ items)
    (c.deref-4.ensures.value ∙ items) c.requires.total c.requires.can c.requires.next e is c.in_err-form.ensures.sought

pub returns-then-not-enabled-clause-stuck : goal.returns-then-not-enabled-clause-stuck
returns-then-not-enabled-clause-stuck c = λ _.
    let items : c.in_ok-seen.seen.items ≡ reverse c.args.site.now.seen.items = c.in_ok-seen.ensures
    ∙ ap reverse c.deref.ensures.value in
    let p : Op = c.in_ok-form.form in
    IsStuck-refused (function_of c.args.rules.now) (past_of c.args.made.now) c.args.site.now c.args.number
    c.args.total.now c.form_behind.new.counted
    c.form_behind.new.table c.deref-2.result.now c.deref-4.result.now (c.deref-2.ensures.value ∙ items)
    (c.deref-4.ensures.value ∙ items)
    c.requires.total c.requires.can c.requires.next p c.in_ok-form.ensures.sought c.in_ok-form.ensures.ok
    (ap (λ (cells : ℕ). is_enabled p cells) (sym c.len.ensures) ∙ sym c.enabled.ensures.test ∙ c.if-not-enabled.true)

pub returns-then-not-enabled-clause-stuck_at : goal.returns-then-not-enabled-clause-stuck_at
returns-then-not-enabled-clause-stuck_at c = λ _.
    let items : c.in_ok-seen.seen.items ≡ reverse c.args.site.now.seen.items = c.in_ok-seen.ensures
    ∙ ap reverse c.deref.ensures.value in
    let p : Op = c.in_ok-form.form in
    count_behind-sought (function_of c.args.rules.now) (past_of c.args.made.now) c.args.site.now c.args.number
    c.args.total.now c.form_behind.new.counted
    c.form_behind.new.table c.deref-2.result.now c.deref-4.result.now (c.deref-2.ensures.value ∙ items)
    (c.deref-4.ensures.value ∙ items) c.requires.total c.requires.can c.requires.next p c.in_ok-form.ensures.sought
    c.in_ok-form.ensures.ok (c.forms_are_sought_before_they_are_made.ensures.counted_next (past_of c.args.made.now))

pub execute-requires : goal.execute-requires
execute-requires c =
    ∥∥₁_elim c.requires.can le_prop
    (λ k. omega (arith, k.sorted.marked.integrated, c.requires.next.made, c.requires.few))

pub set-requires : goal.set-requires
set-requires c =
    ∥∥₁_elim c.requires.can le_prop (λ k.
    omega (
      arith,
      k.sorted.marked.held,
      c.requires.next.made,
      c.requires.few,
      ap (λ (marks : List Bool). length marks) c.in-Ok.ensures.ok.held,
    ))

-- the operation's form was sought, is enabled, and was executed
pub returns-in-Ok-clause-ok : goal.returns-in-Ok-clause-ok
returns-in-Ok-clause-ok c =
    let items : c.in_ok-seen.seen.items ≡ reverse c.args.site.now.seen.items = c.in_ok-seen.ensures
    ∙ ap reverse c.deref.ensures.value in
    let p : Op = c.in_ok-form.form in
    let new : Site = record (c.execute.new.self) { held = c.set.new.self } in
    let change : Changes (function_of c.args.rules.now) c.args.number p c.form_behind.new.table c.args.site.now new =
    Changes-executed (function_of c.args.rules.now) c.args.number p c.head.result c.form_behind.new.table
    c.args.site.now c.execute.new.self c.set.new.self c.in-Ok.ensures.ok c.head.ensures.head c.set.ensures in
    HasIntegrated-sought (function_of c.args.rules.now) (past_of c.args.made.now) c.args.site.now c.args.number
    c.args.total.now c.form_behind.new.counted
    c.form_behind.new.table c.deref-2.result.now c.deref-4.result.now (c.deref-2.ensures.value ∙ items)
    (c.deref-4.ensures.value ∙ items)
    c.requires.total c.requires.can c.requires.next p c.in_ok-form.ensures.sought c.in_ok-form.ensures.ok
    (c.forms_are_sought_before_they_are_made.ensures.counted_next (past_of c.args.made.now)) new change
    (ap (λ (cells : ℕ). is_enabled p cells) (sym c.len.ensures) ∙ sym c.enabled.ensures.test ∙ c.if-not-enabled.false)

-- a site that executed the form can take further operations
pub returns-in-Ok-clause-can : goal.returns-in-Ok-clause-can
returns-in-Ok-clause-can c =
    let items : c.in_ok-seen.seen.items ≡ reverse c.args.site.now.seen.items = c.in_ok-seen.ensures
    ∙ ap reverse c.deref.ensures.value in
    let p : Op = c.in_ok-form.form in
    let new : Site = record (c.execute.new.self) { held = c.set.new.self } in
    let change : Changes (function_of c.args.rules.now) c.args.number p c.form_behind.new.table c.args.site.now new =
    Changes-executed (function_of c.args.rules.now) c.args.number p c.head.result c.form_behind.new.table
    c.args.site.now c.execute.new.self c.set.new.self c.in-Ok.ensures.ok c.head.ensures.head c.set.ensures in
    CanTake-sought (function_of c.args.rules.now) (past_of c.args.made.now) c.args.site.now c.args.number
    c.args.total.now c.form_behind.new.counted
    c.form_behind.new.table c.deref-2.result.now c.deref-4.result.now (c.deref-2.ensures.value ∙ items)
    (c.deref-4.ensures.value ∙ items)
    c.requires.total c.requires.can c.requires.next p c.in_ok-form.ensures.sought c.in_ok-form.ensures.ok
    (c.forms_are_sought_before_they_are_made.ensures.counted_next (past_of c.args.made.now)) new change c.requires.few
    (λ names. c.counted_forms_need_not_be_sought.ensures.longer (past_of c.args.made.now)
    (reverse c.args.site.now.seen.items) names c.args.number)

pub unreachable-requires : goal.unreachable-requires
unreachable-requires c =
    c.in-Err-NotEnabled.ensures.not_enabled (ap (λ (e : Apply). Err e) c.in-Err-NotEnabled.field-0-is)
    (subst (λ (cells : ℕ). IsEnabled c.in_ok-form.form cells) c.len.ensures (c.if-not-enabled.ensures.fact.0 refl))

-- there is no memory for the list that is turned round
pub returns-in_err-seen : goal.returns-in_err-seen
returns-in_err-seen c =
    let r = c.from_residual.result in
    let err = c.from_residual.ensures in
    record {
      ok = IfOk-from_err r _ err.0;
      can = IfOk-from_err r _ err.0;
      stuck = λ is. absurd (lacked-not_stuck r err.1 is);
      stuck_at = λ is. absurd (lacked-not_stuck r err.1 is);
      spent = λ is. absurd (lacked-not_spent r err.1 is);
      spent_at = λ is. absurd (lacked-not_spent r err.1 is);
      err = OnErr-always r (record { document = refl; seen = refl; integrated = refl; held = refl });
      within = c.requires.within;
      more = omega arith;
    }

pub returns-in_err-form-clause-ok : goal.returns-in_err-form-clause-ok
returns-in_err-form-clause-ok c =
    IfOk-from_err c.from_residual-in_err-form.result _ c.from_residual-in_err-form.ensures.0

pub returns-in_err-form-clause-can : goal.returns-in_err-form-clause-can
returns-in_err-form-clause-can c =
    IfOk-from_err c.from_residual-in_err-form.result _ c.from_residual-in_err-form.ensures.0

pub returns-in_err-form-clause-err : goal.returns-in_err-form-clause-err
returns-in_err-form-clause-err c =
    OnErr-always c.from_residual-in_err-form.result
    (record { document = refl; seen = refl; integrated = refl; held = refl })

pub returns-in_err-form-clause-spent_at : goal.returns-in_err-form-clause-spent_at
returns-in_err-form-clause-spent_at c = λ spent.
    let e : FormError = c.in_err-form.field-0.0 in
    let same : c.from_residual-in_err-form.result ≡ Err e = search rules in
    let is : e ≡ Spent = let errs : Err e ≡ Err Spent = sym same ∙ spent in cc in
    c.in_err-form.ensures.spent (ap (λ (x : FormError). Err x) is)

-- no answer is another one
pub returns-then-not-enabled-clause-spent : goal.returns-then-not-enabled-clause-spent
returns-then-not-enabled-clause-spent c = λ is. absurd (no_form-not_spent is)

pub returns-then-not-enabled-clause-spent_at : goal.returns-then-not-enabled-clause-spent_at
returns-then-not-enabled-clause-spent_at c = λ is. absurd (no_form-not_spent is)

pub returns-in-Ok-clause-stuck : goal.returns-in-Ok-clause-stuck
returns-in-Ok-clause-stuck c = λ is. absurd (done-not_refused _ NoForm is)

pub returns-in-Err-NoMemory-clause-stuck : goal.returns-in-Err-NoMemory-clause-stuck
returns-in-Err-NoMemory-clause-stuck c = λ is. absurd (no_memory-not_stuck is)

pub returns-in-Ok-clause-stuck_at : goal.returns-in-Ok-clause-stuck_at
returns-in-Ok-clause-stuck_at c = λ is. absurd (done-not_refused _ NoForm is)

pub returns-in-Err-NoMemory-clause-stuck_at : goal.returns-in-Err-NoMemory-clause-stuck_at
returns-in-Err-NoMemory-clause-stuck_at c = λ is. absurd (no_memory-not_stuck is)

pub returns-in-Ok-clause-spent : goal.returns-in-Ok-clause-spent
returns-in-Ok-clause-spent c = λ is. absurd (done-not_refused _ Spent is)

pub returns-in-Err-NoMemory-clause-spent : goal.returns-in-Err-NoMemory-clause-spent
returns-in-Err-NoMemory-clause-spent c = λ is. absurd (no_memory-not_spent is)

pub returns-in-Ok-clause-spent_at : goal.returns-in-Ok-clause-spent_at
returns-in-Ok-clause-spent_at c = λ is. absurd (done-not_refused _ Spent is)

pub returns-in-Err-NoMemory-clause-spent_at : goal.returns-in-Err-NoMemory-clause-spent_at
returns-in-Err-NoMemory-clause-spent_at c = λ is. absurd (no_memory-not_spent is)

pub returns-in-Ok-clause-within : goal.returns-in-Ok-clause-within
returns-in-Ok-clause-within c = c.form_behind.ensures.counted

pub returns-in-Ok-clause-more : goal.returns-in-Ok-clause-more
returns-in-Ok-clause-more c = c.form_behind.ensures.more

pub returns-in-Err-NoMemory-clause-within : goal.returns-in-Err-NoMemory-clause-within
returns-in-Err-NoMemory-clause-within c = c.form_behind.ensures.counted

pub returns-in-Err-NoMemory-clause-more : goal.returns-in-Err-NoMemory-clause-more
returns-in-Err-NoMemory-clause-more c = c.form_behind.ensures.more

pub returns-then-not-enabled-clause-within : goal.returns-then-not-enabled-clause-within
returns-then-not-enabled-clause-within c = c.form_behind.ensures.counted

pub returns-then-not-enabled-clause-more : goal.returns-then-not-enabled-clause-more
returns-then-not-enabled-clause-more c = c.form_behind.ensures.more

pub returns-then-not-enabled-clause-err : goal.returns-then-not-enabled-clause-err
returns-then-not-enabled-clause-err c = record { document = refl; seen = refl; integrated = refl; held = refl }

pub returns-in-Err-NoMemory-clause-err : goal.returns-in-Err-NoMemory-clause-err
returns-in-Err-NoMemory-clause-err c =
    let same = c.in-Err-NoMemory.ensures.err in
    record { document = same.document; seen = same.seen; integrated = same.integrated; held = same.held }
