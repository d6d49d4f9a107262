-- What always holds of a session holds of a new one, and each step keeps it.
use Rattle.std.proofs.Common.{◌≡◌, ◌≢◌, ◌⊎◌, ℕ, ◌<◌, true, List, ◌∷◌, length, Some, sym, ap, ◌∙◌, subst, inl, inr}
use Rattle.std.proofs.Common.{arith}
use Rattle.std.specs.Prelude.{unwrap_or}
use Rattle.std.proofs.lemmas.Bool.{cases_eq, false_from_ne_true}
use Rattle.ot_model.specs.declared.cell.Cell.{Cell}
use Rattle.ot_model.specs.declared.op.Op.{Op}
use Rattle.ot_model.specs.Operations.{kind_of, site_of}
use Rattle.ot_model.specs.Effect.{IsEnabled, is_enabled}
use Rattle.fn_rules.specs.Functions.{Function, HasDeclaredKind}
use Rattle.ot_causal.specs.Members.{has}
use Rattle.ot_causal.specs.Past.{Past, maker, IsNext, IsClosed, AreMade, Extends}
use Rattle.ot_causal.specs.Forms.{executed, state}
use Rattle.ot_causal.specs.Sessions.{IsBorn, SessionData, IsSite, IsSound, IsNew, KeepsOthers, Makes, MayMake}
use Rattle.ot_causal.specs.Sessions.{Integrates}
use Rattle.ot_causal.proofs.Members.{has-itself, has-older}
use Rattle.ot_causal.proofs.Closed.{AreMade-closed, newest_open-none}
use Rattle.ot_causal.proofs.Forms.{form-none_open, state-nil, state-cons}
use Rattle.ot_causal.proofs.Frames.{IsNext-extended, IsClosed-extended, form-extended, state-extended}

-- a new session is sound
pub IsSound-new : (f : Function) (d : List Cell) (session : SessionData) → IsNew d session → IsSound f session
IsSound-new f d session is_new = record {
  past = record {
    born = λ o made. absurd (omega (arith, made, is_new.nothing));
    ordered = λ x y made. absurd (omega (arith, made, is_new.nothing));
  };
  closed = λ s site. subst (λ (l : List ℕ). IsClosed session.past l) (sym (is_new.seen s site)) tt;
  documents = λ s site.
      ap (state f session.past session.first) (is_new.seen s site) ∙ state-nil f session.past session.first ∙ ap Some
      (is_new.first ∙ sym (is_new.documents s site));
  sites = λ o made. absurd (omega (arith, made, is_new.nothing));
  own = λ o made. absurd (omega (arith, made, is_new.nothing));
}

-- an operation is born where it was, whatever was made since
IsBorn-extended : (f : Function) (old new : Past) (first : List Cell) (o : ℕ) → Extends old new
    → o < old.count → IsBorn f old first o
    → IsBorn f new first o
IsBorn-extended f old new first o extends made born = record {
  known = born.known;
  closed = IsClosed-extended old new extends born.known born.closed;
  befores = λ x. born.befores x ∙ sym (extends.befores x o made);
  document = born.document;
  is = state-extended old new extends f first born.known (AreMade-closed old born.known born.closed) ∙ born.is;
  enabled = subst (λ (p : Op). IsEnabled p (length born.document)) (sym (extends.operations o made)) born.enabled;
  declared = subst (λ (p : Op). HasDeclaredKind f.head (kind_of p)) (sym (extends.operations o made)) born.declared;
}

maker-extended : (old new : Past) (o : ℕ) → Extends old new → o < old.count → maker new o ≡ maker old o
maker-extended old new o extends made = ap (λ p. unwrap_or (site_of p) 0) (extends.operations o made)

-- what a step at one site leaves of the others
module _ (f : Function) (old new : SessionData) (s : ℕ) (keeps : KeepsOthers old new s)
    (extends : Extends old.past new.past)
    (sound : IsSound f old) where
  site_before : (u : ℕ) → IsSite new.sites u → IsSite old.sites u
  site_before u site = subst (λ (sites : ℕ). IsSite sites u) keeps.sites site

  born_before : (o : ℕ) → o < old.past.count → IsBorn f new.past new.first o
  born_before o made = subst (λ (d : List Cell). IsBorn f new.past d o) (sym keeps.first)
      (IsBorn-extended f old.past new.past old.first o extends made (sound.past.born o made))

  ordered_before : (x y : ℕ) → x < old.past.count → y < old.past.count → maker new.past x ≡ maker new.past y → x ≢ y
      → (new.past.before x y ≡ true) ⊎ (new.past.before y x ≡ true)
  ordered_before x y made_x made_y one_site differ =
      elim (sound.past.ordered x y made_x made_y
      (sym (maker-extended old.past new.past x extends made_x) ∙ one_site
      ∙ maker-extended old.past new.past y extends made_y) differ) [
        | inl before ↦ inl (extends.befores x y made_y ∙ before)
        | inr behind ↦ inr (extends.befores y x made_x ∙ behind)
      ]

  site_of_made : (o : ℕ) → o < old.past.count → IsSite new.sites (maker new.past o)
  site_of_made o made = rw (keeps.sites, maker-extended old.past new.past o extends made) (sound.sites o made)

  closed_other : (u : ℕ) → IsSite new.sites u → u ≢ s → IsClosed new.past (new.seen u)
  closed_other u site other = rw (keeps.seen u (site_before u site) other)
      (IsClosed-extended old.past new.past extends (old.seen u) (sound.closed u (site_before u site)))

  -- the list of a site leads where it led
  state_before : (u : ℕ) → IsSite new.sites u → state f new.past new.first (old.seen u) ≡ Some (old.document u)
  state_before u site =
      ap (λ d. state f new.past d (old.seen u)) keeps.first
      ∙ state-extended old.past new.past extends f old.first (old.seen u)
      (AreMade-closed old.past (old.seen u) (sound.closed u (site_before u site)))
      ∙ sound.documents u (site_before u site)

  documents_other : (u : ℕ) → IsSite new.sites u → u ≢ s
      → state f new.past new.first (new.seen u) ≡ Some (new.document u)
  documents_other u site other =
      ap (state f new.past new.first) (keeps.seen u (site_before u site) other)
      ∙ state_before u site
      ∙ ap Some (sym (keeps.documents u (site_before u site) other))

  -- a site that integrated one more has what it had
  own_before : (newest o : ℕ) → new.seen s ≡ newest ∷ old.seen s → o < old.past.count
      → has (new.seen (maker new.past o)) o ≡ true
  own_before newest o seen made =
      rw (maker-extended old.past new.past o extends made) (elim (cases_eq (maker old.past o) s) [
        | inl here ↦ rw here (rw seen (has-older newest (old.seen s) o (rw here at (sound.own o made))))
        | inr other ↦ rw (keeps.seen (maker old.past o) (sound.sites o made) other) (sound.own o made)
      ])

-- making an operation
module _ (f : Function) (tested : (n : ℕ) (o : Op) → IsEnabled o n → is_enabled o n ≡ true)
    (old new : SessionData) (s : ℕ) (a : Op) (may : MayMake f old s a) (makes : Makes f old new s a)
    (sound : IsSound f old) where
  abbrev number : ℕ
  number = old.past.count

  is_old_or_newest : (x : ℕ) → x < new.past.count → (x < number) ⊎ (x ≡ number)
  is_old_or_newest x made = elim (cases_eq x number) [
    | inl newest ↦ inr newest
    | inr other ↦ inl (omega (arith, made, makes.count, other))
  ]

  all_known : AreMade old.past (old.seen s)
  all_known = AreMade-closed old.past (old.seen s) (sound.closed s may.site)

  next_newest : IsNext new.past (old.seen s) number
  next_newest = record {
    made = omega (arith, makes.count);
    new = false_from_ne_true (has (old.seen s) number) (λ member. omega (arith, all_known.at number member));
    knows = λ x before. sym (makes.befores x) ∙ before;
  }

  newest_maker : maker new.past number ≡ s
  newest_maker = ap (λ p. unwrap_or (site_of p) 0) makes.operation ∙ ap (λ site. unwrap_or site 0) may.own

  site_now : IsSite new.sites s
  site_now = subst (λ (sites : ℕ). IsSite sites s) (sym makes.keeps.sites) may.site

  leads_before : state f new.past new.first (old.seen s) ≡ Some (old.document s)
  leads_before = state_before f old new s makes.keeps makes.extends sound s site_now

  known_closed : IsClosed new.past (old.seen s)
  known_closed = IsClosed-extended old.past new.past makes.extends (old.seen s) (sound.closed s may.site)

  born_newest : IsBorn f new.past new.first number
  born_newest = record {
    known = old.seen s;
    closed = known_closed;
    befores = λ x. sym (makes.befores x);
    document = old.document s;
    is = leads_before;
    enabled = subst (λ (p : Op). IsEnabled p (length (old.document s))) (sym makes.operation) may.enabled;
    declared = subst (λ (p : Op). HasDeclaredKind f.head (kind_of p)) (sym makes.operation) may.declared;
  }

  -- it is executed as it is
  document_newest : state f new.past new.first (number ∷ old.seen s) ≡ Some (new.document s)
  document_newest =
      state-cons f new.past new.first number (old.seen s) (old.document s) leads_before
      ∙ ap (λ p. executed f p (old.document s)) (form-none_open f new.past number (old.seen s)
      (newest_open-none new.past number (old.seen s) (λ x member. makes.befores x ∙ member)) ∙ ap Some makes.operation)
      ∙ rw (tested (length (old.document s)) a may.enabled) (ap Some (sym makes.document))

  -- its site knows each operation that it made itself
  knows_own : (x : ℕ) → x < number → maker new.past x ≡ s → new.past.before x number ≡ true
  knows_own x made at_site =
      let site_is : maker old.past x ≡ s = sym (maker-extended old.past new.past x makes.extends made) ∙ at_site in
      makes.befores x ∙ (rw site_is at (sound.own x made))

  -- of two operations of one site one is before the other
  ordered_all : (x y : ℕ) → x < new.past.count → y < new.past.count → maker new.past x ≡ maker new.past y → x ≢ y
      → (new.past.before x y ≡ true) ⊎ (new.past.before y x ≡ true)
  ordered_all x y made_x made_y one_site differ = elim (is_old_or_newest x made_x) [
    | inl old_x ↦ elim (is_old_or_newest y made_y) [
      | inl old_y ↦ ordered_before f old new s makes.keeps makes.extends sound x y old_x old_y one_site differ
      | inr newest ↦ inl (subst (λ (z : ℕ). new.past.before x z ≡ true) (sym newest)
          (knows_own x old_x (one_site ∙ ap (maker new.past) newest ∙ newest_maker)))
    ]
    | inr newest ↦ elim (is_old_or_newest y made_y) [
      | inl old_y ↦ inr (subst (λ (z : ℕ). new.past.before y z ≡ true) (sym newest)
          (knows_own y old_y (sym one_site ∙ ap (maker new.past) newest ∙ newest_maker)))
      | inr also ↦ absurd (differ (newest ∙ sym also))
    ]
  ]

  -- making an operation keeps a session sound
  pub IsSound-makes : IsSound f new
  IsSound-makes = record {
    past = record {
      born = λ x made. elim (is_old_or_newest x made) [
        | inl before ↦ born_before f old new s makes.keeps makes.extends sound x before
        | inr newest ↦ subst (λ (z : ℕ). IsBorn f new.past new.first z) (sym newest) born_newest
      ];
      ordered = ordered_all;
    };
    closed = λ u site. elim (cases_eq u s) [
      | inl here ↦ subst (λ (z : ℕ). IsClosed new.past (new.seen z)) (sym here)
          (subst (λ (l : List ℕ). IsClosed new.past l) (sym makes.seen) (next_newest, known_closed))
      | inr other ↦ closed_other f old new s makes.keeps makes.extends sound u site other
    ];
    documents = λ u site. elim (cases_eq u s) [
      | inl here ↦ subst (λ (z : ℕ). state f new.past new.first (new.seen z) ≡ Some (new.document z)) (sym here)
          (ap (state f new.past new.first) makes.seen ∙ document_newest)
      | inr other ↦ documents_other f old new s makes.keeps makes.extends sound u site other
    ];
    sites = λ x made. elim (is_old_or_newest x made) [
      | inl before ↦ site_of_made f old new s makes.keeps makes.extends sound x before
      | inr newest ↦ subst (λ (z : ℕ). IsSite new.sites (maker new.past z)) (sym newest)
          (subst (λ (z : ℕ). IsSite new.sites z) (sym newest_maker) site_now)
    ];
    own = λ x made. elim (is_old_or_newest x made) [
      | inl before ↦ own_before f old new s makes.keeps makes.extends sound number x makes.seen before
      | inr newest ↦ subst (λ (z : ℕ). has (new.seen (maker new.past z)) z ≡ true) (sym newest)
          (ap (λ u. has (new.seen u) number) newest_maker ∙ ap (λ l. has l number) makes.seen
          ∙ has-itself number (old.seen s))
    ];
  }

-- integrating an operation
module _ (f : Function) (old new : SessionData) (s o : ℕ) (integrates : Integrates f old new s o)
    (sound : IsSound f old) where
  made_before : (x : ℕ) → x < new.past.count → x < old.past.count
  made_before x made = omega (arith, made, integrates.count)

  site_there : IsSite new.sites s
  site_there = subst (λ (sites : ℕ). IsSite sites s) (sym integrates.keeps.sites) integrates.site

  document_integrated : state f new.past new.first (o ∷ old.seen s) ≡ Some (new.document s)
  document_integrated =
      state-cons f new.past new.first o (old.seen s) (old.document s)
      (state_before f old new s integrates.keeps integrates.extends sound s site_there)
      ∙ ap (λ p. executed f p (old.document s)) (form-extended old.past new.past integrates.extends f o (old.seen s)
      integrates.next.made (AreMade-closed old.past (old.seen s) (sound.closed s integrates.site)))
      ∙ integrates.document

  -- integrating an operation keeps a session sound
  pub IsSound-integrates : IsSound f new
  IsSound-integrates = record {
    past = record {
      born = λ x made. born_before f old new s integrates.keeps integrates.extends sound x (made_before x made);
      ordered = λ x y made_x made_y.
          ordered_before f old new s integrates.keeps integrates.extends sound x y
          (made_before x made_x) (made_before y made_y);
    };
    closed = λ u site. elim (cases_eq u s) [
      | inl here ↦ subst (λ (z : ℕ). IsClosed new.past (new.seen z)) (sym here)
          (subst (λ (l : List ℕ). IsClosed new.past l) (sym integrates.seen) (
            IsNext-extended old.past new.past integrates.extends (old.seen s) o integrates.next,
            IsClosed-extended old.past new.past integrates.extends (old.seen s) (sound.closed s integrates.site),
          ))
      | inr other ↦ closed_other f old new s integrates.keeps integrates.extends sound u site other
    ];
    documents = λ u site. elim (cases_eq u s) [
      | inl here ↦ subst (λ (z : ℕ). state f new.past new.first (new.seen z) ≡ Some (new.document z)) (sym here)
          (ap (state f new.past new.first) integrates.seen ∙ document_integrated)
      | inr other ↦ documents_other f old new s integrates.keeps integrates.extends sound u site other
    ];
    sites = λ x made. site_of_made f old new s integrates.keeps integrates.extends sound x (made_before x made);
    own = λ x made. own_before f old new s integrates.keeps integrates.extends sound o x
        integrates.seen (made_before x made);
  }
