-- The transformations that led to a form.
use Rattle.std.proofs.Common.{◌≡◌, ◌<◌, ◌≤◌, ◌+◌, ◌*◌, ◌++◌, ℕ, zero, suc, true, false, List, [], ◌∷◌, length}
use Rattle.std.proofs.Common.{Option, Some, None, Result, Ok, Err, refl, sym, ap, ◌∙◌, subst, inl, inr, arith}
use Rattle.std.proofs.Common.{append_assoc}
use Rattle.std.specs.Prelude.{nat_eq, IfSome, IfOk, OnOk}
use Rattle.std.specs.List.{All}
use Rattle.std.specs.Coded.{Coded-set, coded_ℕ}
use Rattle.std.proofs.Math.Logic.{∥∥₁_elim}
use Rattle.std.proofs.Props.{props}
use Rattle.std.proofs.lemmas.Bool.{cases_eq, eq-eqb, ne_eqb, false≢true}
use Rattle.std.proofs.lemmas.Result.{IfOk-weaker}
use Rattle.std.proofs.lemmas.List.Elements.{All-nil, All-push, All-append}
use Rattle.ot_model.specs.declared.op.Op.{Op}
use Rattle.ot_model.specs.Operations.{kind_of}
use Rattle.fn_rules.specs.Conditions.{IsInRange, IsWithin, IsFormOf}
use Rattle.fn_rules.specs.Functions.{Function, IsForKind}
use Rattle.ot_causal.specs.Members.{has, without, IsSublist, skip}
use Rattle.ot_causal.specs.Past.{Past, IsClosed, IsReady, IsOrderly, IsOpening}
use Rattle.ot_causal.specs.Forms.{newest_open, form, transformed}
use Rattle.ot_session.specs.declared.limits.TheConstants.{MAX_MADE}
use Rattle.ot_session.specs.declared.pairs.FormPair.{FormPair}
use Rattle.ot_session.specs.Past.{most_session_cells, IsUsablePast}
use Rattle.ot_session.specs.Entries.{MaySeek}
use Rattle.ot_session.specs.FormPairs.{pair_of, form_pairs_within, form_pairs, older_than, CanMove}
use Rattle.ot_session.proofs.Reaches.{form-usable}

-- there are none where all of the list is before the operation
pub form_pairs-none : (f : Function) (past : Past) (o : ℕ) (l : List ℕ) → newest_open past o l ≡ None
    → form_pairs f past o l ≡ []
form_pairs-none f past o l none = within (length l)
  where
    within : (depth : ℕ) → form_pairs_within depth f past o l ≡ []
    within zero = refl
    within (suc depth) = rw none refl

-- otherwise the last one is that against the newest member that is not before it
pub form_pairs-moved : (f : Function) (past : Past) (o x : ℕ) (l : List ℕ) → newest_open past o l ≡ Some x
    → length l ≡ suc (length (without x l))
    → form_pairs f past o l
    ≡ form_pairs f past o (without x l) ++ pair_of (form f past o (without x l)) x (form f past x (without x l))
form_pairs-moved f past o x l newest shorter = rw (shorter, newest) refl

-- a member of a closed list can be sought behind those that are older
pub older_than-ready : (past : Past) (o : ℕ) (l : List ℕ) → has l o ≡ true → IsClosed past l
    → IsReady past o (older_than o l)
older_than-ready past o [] member closed = absurd (false≢true member)
older_than-ready past o (x ∷ l) member closed = elim (cases_eq o x) [
  | inl same ↦ rw (eq-eqb o x same, same) closed
  | inr differ ↦
      let no : nat_eq o x ≡ false = ne_eqb o x differ in
      let rest : has l o ≡ true = rw no at member in
      rw no (older_than-ready past o l rest closed.1)
]

pub older_than-sublist : (o : ℕ) (l : List ℕ) → ((m : List ℕ) → IsSublist m m) → IsSublist (older_than o l) l
older_than-sublist o [] whole = whole []
older_than-sublist o (x ∷ l) whole = elim (cases_eq o x) [
  | inl same ↦ rw (eq-eqb o x same) (skip x l l (whole l))
  | inr differ ↦ rw (ne_eqb o x differ) (skip x (older_than o l) l (older_than-sublist o l whole))
]

-- there are none where it is no member
pub older_than-none : (o : ℕ) (l : List ℕ) → has l o ≡ false → older_than o l ≡ []
older_than-none o [] other = refl
older_than-none o (x ∷ l) other = elim (cases_eq o x) [
  | inl same ↦ absurd (false≢true (sym other ∙ rw (eq-eqb o x same) refl))
  | inr differ ↦
      let no : nat_eq o x ≡ false = ne_eqb o x differ in
      let rest : has l o ≡ false = rw no at other in
      rw no (older_than-none o l rest)
]

-- the form can be transformed, if there is one
abbrev pub Movable : Function → Option Op → Type 0
Movable f p = IfSome p (λ q. IsForKind f.head (kind_of q) × IsInRange q)

pair_of-usable : (f : Function) (own : Option Op) (x : ℕ) (by : Option Op) → Movable f own → Movable f by
    → All (CanMove f) (pair_of own x by)
pair_of-usable f None x by one other = All-nil (CanMove f)
pair_of-usable f (Some own) x None one other = All-nil (CanMove f)
pair_of-usable f (Some own) x (Some by) one other =
    All-push (CanMove f) [] (record { form = own; number = x; against = by }) (All-nil (CanMove f)) (record {
      form_declared = one.0;
      form_in_range = one.1;
      against_declared = other.0;
      against_in_range = other.1;
    })

-- what holds once something is done
OnOk-when : {T E P Q : Type 0} (r : Result T E) → (P → Q) → OnOk r P → OnOk r Q
OnOk-when (Ok x) then holds = then holds
OnOk-when (Err e) then holds = tt

pub OnOk-holds : {T E P : Type 0} (r : Result T E) → P → OnOk r P
OnOk-holds (Ok x) holds = holds
OnOk-holds (Err e) holds = tt

-- the newest open member of a list behind which an operation can be sought
module _ (f : Function) (past : Past) (seen : List ℕ) (o x : ℕ) (l : List ℕ) (newest : newest_open past o l ≡ Some x)
    (opens : IsOrderly past → IsReady past o l → IsOpening past o l x) (may : ∥ MaySeek f past seen o l ∥₁) where
  opening : MaySeek f past seen o l → IsOpening past o l x
  opening m = opens m.orderly m.sought.ready

  moved : form_pairs f past o l
      ≡ form_pairs f past o (without x l) ++ pair_of (form f past o (without x l)) x (form f past x (without x l))
  moved = form_pairs-moved f past o x l newest (∥∥₁_elim may (Coded-set coded_ℕ _ _) (λ m. (opening m).shorter))

  -- the transformation against it is the last one
  pub pairs-next : {E : Type 0} (own by : Option Op) → own ≡ form f past o (without x l)
      → by ≡ form f past x (without x l)
      → (r : Result (Option Op) E) (old mid new : List FormPair)
      → mid ≡ old ++ form_pairs f past o (without x l) → OnOk r (new ≡ mid ++ pair_of own x by)
      → OnOk r (new ≡ old ++ form_pairs f past o l)
  pairs-next own by own_is by_is r old mid new before = OnOk-when r (λ done.
      done
      ∙ ap (λ (ps : List FormPair). ps ++ pair_of own x by) before
      ∙ append_assoc old (form_pairs f past o (without x l)) (pair_of own x by)
      ∙ ap (λ (ps : List FormPair). old ++ ps) (
      ap (λ (p : Option Op). form_pairs f past o (without x l) ++ pair_of p x by) own_is
      ∙ ap (λ (p : Option Op). form_pairs f past o (without x l) ++ pair_of (form f past o (without x l)) x p) by_is
      ∙ sym moved))

  -- and gives the form
  pub form-next : {E : Type 0} (own by : Option Op) → own ≡ form f past o (without x l)
      → by ≡ form f past x (without x l)
      → form f past o l ≡ transformed f (form f past o (without x l)) (form f past x (without x l))
      → (r : Result (Option Op) E) → IfOk r (λ p. p ≡ transformed f own by) → IfOk r (λ p. p ≡ form f past o l)
  form-next own by own_is by_is law r made =
      IfOk-weaker r _ (λ p. p ≡ form f past o l) (λ p is.
      is ∙ ap (λ (q : Option Op). transformed f q by) own_is
      ∙ ap (λ (q : Option Op). transformed f (form f past o (without x l)) q) by_is ∙ sym law) made

  -- and all of them can be made again
  pub pairs-usable : (own by : Option Op) → own ≡ form f past o (without x l) → by ≡ form f past x (without x l)
      → Movable f own → Movable f by → All (CanMove f) (form_pairs f past o (without x l))
      → All (CanMove f) (form_pairs f past o l)
  pairs-usable own by own_is by_is one other before =
      subst (λ (ps : List FormPair). All (CanMove f) ps)
      (ap (λ (p : Option Op). form_pairs f past o (without x l) ++ pair_of p x by) own_is
      ∙ ap (λ (p : Option Op). form_pairs f past o (without x l) ++ pair_of (form f past o (without x l)) x p) by_is
      ∙ sym moved)
      (All-append (CanMove f) (form_pairs f past o (without x l)) (pair_of own x by) before
      (pair_of-usable f own x by one other))

  -- a form behind the shorter list can be transformed
  pub movable : length l ≤ MAX_MADE
      → ((k : ℕ) (p : Op) → form f past k (without x l) ≡ Some p → IsFormOf (past.operation k) p)
      → ((k : ℕ) (p : Op) → IsUsablePast f past → k < past.count → IsClosed past (without x l)
      → form f past k (without x l) ≡ Some p → IsWithin (most_session_cells + 99 * length (without x l)) p)
      → (k : ℕ) → (IsOpening past o l x → k < past.count) → (p : Option Op) → p ≡ form f past k (without x l)
      → Movable f p
  movable few kept near k made None is = tt
  movable few kept near k made (Some p) is =
      ∥∥₁_elim may (hlevel props) (λ m.
      let here : IsOpening past o l x = opening m in
      form-usable f past k (without x l) p m.usable (made here) (omega (arith, here.shorter, few)) (sym is)
      (kept k p (sym is)) (near k p m.usable (made here) here.closed (sym is)))
