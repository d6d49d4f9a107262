-- What each step of a hub makes of the two ways that meet.
use Rattle.std.proofs.Common.{◌≡◌, ◌≢◌, ◌≤◌, ◌+◌, ℕ, true, false, List, [], ◌∷◌, ◌++◌, length, Some, refl, sym, ap, ◌∙◌}
use Rattle.std.proofs.Common.{subst, arith, inl, inr}
use Rattle.std.specs.Prelude.{nat_le}
use Rattle.std.specs.List.{AllByRecursion}
use Rattle.std.proofs.lemmas.Bool.{cases_Bool, leb-true}
use Rattle.ot_model.specs.declared.op.Op.{Op}
use Rattle.fn_rules.specs.Functions.{Function}
use Rattle.ot_hub.specs.declared.placed.PlacedOp.{PlacedOp}
use Rattle.ot_hub.specs.declared.placed.Entry.{Entry}
use Rattle.ot_hub.specs.Carry.{Carried, carry, crossed, from_place}
use Rattle.ot_hub.specs.Meeting.{Ups, IsTakenEntry, Downs}
use Rattle.ot_hub.proofs.Carrying.{from_true, CarriesOn, carries_on, carried_over_nothing, carry-one_more}
use Rattle.ot_hub.proofs.Carrying.{crossed-exchanged}

-- an operation with a place
abbrev pub item : ℕ → Op → PlacedOp
item place o = record { place = place; op = o }

-- what holds of each holds of one more
pub all-push : (P : PlacedOp → Type 0) (xs : List PlacedOp) (x : PlacedOp) → AllByRecursion P xs → P x
    → AllByRecursion P (xs ++ x ∷ [])
all-push P [] x all holds = (holds, tt)
all-push P (y ∷ ys) x all holds = (all.0, all-push P ys x all.1 holds)

pub all-weaker : (P Q : PlacedOp → Type 0) → ((x : PlacedOp) → P x → Q x) → (xs : List PlacedOp)
    → AllByRecursion P xs → AllByRecursion Q xs
all-weaker P Q weaker [] all = tt
all-weaker P Q weaker (x ∷ xs) all = (weaker x all.0, all-weaker P Q weaker xs all.1)

-- those from a place on, where one more stands there or later
pub from_place-push : (place : ℕ) (list : List PlacedOp) (b : PlacedOp) → place ≤ b.place
    → from_place place (list ++ b ∷ []) ≡ from_place place list ++ b ∷ []
from_place-push place [] b later = rw (from_true place b.place later) refl
from_place-push place (a ∷ list) b later = elim (cases_Bool (nat_le place a.place)) [
  | inl after ↦ rw (after) (ap (λ (l : List PlacedOp). a ∷ l) (from_place-push place list b later))
  | inr before ↦ rw (before) (from_place-push place list b later)
]

-- where all stand there or later
pub from_place-same : (place : ℕ) (list : List PlacedOp) → AllByRecursion (λ b. place ≤ b.place) list
    → from_place place list ≡ list
from_place-same place [] all = refl
from_place-same place (a ∷ list) all =
    rw (from_true place a.place all.0) (ap (λ (l : List PlacedOp). a ∷ l) (from_place-same place list all.1))

-- those from a later place on
pub from_place-later : (place later : ℕ) (list : List PlacedOp) → place ≤ later
    → from_place later list ≡ from_place later (from_place place list)
from_place-later place later [] sooner = refl
from_place-later place later (a ∷ list) sooner = elim (cases_Bool (nat_le place a.place)) [
  | inl after ↦ elim (cases_Bool (nat_le later a.place)) [
    | inl well ↦ rw (after, well) (ap (λ (l : List PlacedOp). a ∷ l) (from_place-later place later list sooner))
    | inr between ↦ rw (after, between) (from_place-later place later list sooner)
  ]
  | inr before ↦
      (let well_before : nat_le later a.place ≡ false = elim (cases_Bool (nat_le later a.place)) [
        | inl well ↦ absurd (let is : nat_le place a.place ≡ true =
            from_true place a.place (omega (arith, sooner, leb-true later a.place well)) in cc)
        | inr is ↦ is
      ] in
      rw (before, well_before) (from_place-later place later list sooner))
]

-- what is sent, where the server keeps one more entry for the client, or the client makes one more
module _ (f : Function) where
  -- an entry that the server keeps for the client crosses what is sent, and comes after what was kept
  pub ups-more_ahead : (y : Op) (n : ℕ) (messages ahead forms kept : List PlacedOp) (k : Carried)
      → Ups f messages ahead forms kept
      → AllByRecursion (λ message. message.place ≤ n) messages → carry f y forms ≡ Some k
      → Ups f messages (ahead ++ item n y ∷ []) k.list (kept ++ item n k.op ∷ [])
  ups-more_ahead y n [] ahead [] kept k ups made is =
      subst (λ (c : Carried). Ups f [] (ahead ++ item n y ∷ []) c.list (kept ++ item n c.op ∷ []))
      (carried_over_nothing f y k is) (ap (λ (l : List PlacedOp). l ++ item n y ∷ []) ups)
  ups-more_ahead y n [] ahead (w ∷ forms) kept k ups made is = absurd ups
  ups-more_ahead y n (m ∷ messages) ahead [] kept k ups made is = absurd ups
  ups-more_ahead y n (m ∷ messages) ahead (w ∷ forms) kept k ups made is =
      let on : CarriesOn f y w forms k = carries_on f y w forms k is in
      let same : w.op ≡ ups.carried.op = ap (λ (p : PlacedOp). p.op) ups.form_is in
      let back : crossed f ups.carried.op y ≡ Some (record { own = on.both.other; other = on.both.own }) =
      crossed-exchanged f y ups.carried.op on.both (rw (← same) on.is) in
      subst (λ (c : Carried). Ups f (m ∷ messages) (ahead ++ item n y ∷ []) c.list (kept ++ item n c.op ∷ [])) on.k_is
      (record {
        carried = record { op = on.both.other; list = ups.carried.list ++ item n on.both.own ∷ [] };
        is = ap (carry f m.op) (from_place-push m.place ahead (item n y) made.0)
            ∙ carry-one_more f m.op (from_place m.place ahead) (item n y) ups.carried
            (record { own = on.both.other; other = on.both.own }) ups.is back;
        form_is = ap (λ (p : PlacedOp). record p { op = on.both.other }) ups.form_is;
        rest = ups-more_ahead on.both.own n messages ups.carried.list forms kept on.rest ups.rest made.1 on.rest_is;
      })

  pub ups-more_messages : (o : Op) (n : ℕ) (messages ahead forms kept : List PlacedOp) (k : Carried)
      → Ups f messages ahead forms kept
      → carry f o (from_place n kept) ≡ Some k
      → Ups f (messages ++ item n o ∷ []) ahead (forms ++ item n k.op ∷ []) k.list
  ups-more_messages o n [] ahead [] kept k ups is = record {
    carried = k;
    is = subst (λ (l : List PlacedOp). carry f o (from_place n l) ≡ Some k) (sym ups) is;
    form_is = refl;
    rest = refl;
  }
  ups-more_messages o n [] ahead (w ∷ forms) kept k ups is = absurd ups
  ups-more_messages o n (m ∷ messages) ahead [] kept k ups is = absurd ups
  ups-more_messages o n (m ∷ messages) ahead (w ∷ forms) kept k ups is = record {
    carried = ups.carried;
    is = ups.is;
    form_is = ups.form_is;
    rest = ups-more_messages o n messages ups.carried.list forms kept k ups.rest is;
  }

-- what is received
module _ (f : Function) (c : ℕ) where
  -- where the client makes one more
  pub downs-more_pending : (o : Op) (n place : ℕ) (pending : List PlacedOp) (entries : List Entry)
      (forms taken : List PlacedOp) (k : Carried)
      → Downs f c place pending entries forms taken → carry f o taken ≡ Some k
      → Downs f c place (pending ++ item n o ∷ []) entries (forms ++ item n k.op ∷ []) k.list
  downs-more_pending o n place pending [] forms taken k downs is =
      let nothing : carry f o [] ≡ Some k = subst (λ (l : List PlacedOp). carry f o l ≡ Some k) downs.1 is in
      subst (λ (x : Carried). Downs f c place (pending ++ item n o ∷ []) [] (forms ++ item n x.op ∷ []) x.list)
      (carried_over_nothing f o k nothing) (ap (λ (l : List PlacedOp). l ++ item n o ∷ []) downs.0, refl)
  downs-more_pending o n place pending (entry ∷ entries) forms taken k downs is = elim downs [
    | inl own ↦ inl (record {
      own = own.own;
      oldest = own.oldest;
      younger = own.younger ++ item n o ∷ [];
      pending_is = ap (λ (l : List PlacedOp). l ++ item n o ∷ []) own.pending_is;
      same = own.same;
      rest = downs-more_pending o n (place + 1) own.younger entries forms taken k own.rest is;
    })
    | inr other ↦ inr (
        let here : carry f o (item place other.carried.op ∷ other.later) ≡ Some k =
        subst (λ (l : List PlacedOp). carry f o l ≡ Some k) other.taken_is is in
        let on : CarriesOn f o (item place other.carried.op) other.later k =
        carries_on f o (item place other.carried.op) other.later k here in
        let back = crossed-exchanged f o other.carried.op on.both on.is in
        subst (λ (x : Carried). IsTakenEntry f c place entry (pending ++ item n o ∷ []) x.list
        (λ behind later. Downs f c (place + 1) behind entries (forms ++ item n x.op ∷ []) later)) on.k_is (record {
          other = other.other;
          carried = record { op = on.both.other; list = other.carried.list ++ item n on.both.own ∷ [] };
          later = on.rest.list;
          is = carry-one_more f entry.op pending (item n o) other.carried
              (record { own = on.both.other; other = on.both.own }) other.is back;
          taken_is = refl;
          rest = downs-more_pending on.both.own n (place + 1) other.carried.list entries forms other.later
              on.rest other.rest on.rest_is;
        })
        )
  ]

  -- where the log has one more of its own
  pub downs-more_own : (e : Entry) (place : ℕ) (pending : List PlacedOp) (entries : List Entry) (w : PlacedOp)
      (forms taken : List PlacedOp)
      → e.client ≡ c → w.op ≡ e.op → Downs f c place pending entries (w ∷ forms) taken
      → Downs f c place pending (entries ++ e ∷ []) forms taken
  downs-more_own e place pending [] w forms taken own same downs = inl (record {
    own = own;
    oldest = w;
    younger = forms;
    pending_is = downs.0;
    same = same;
    rest = (refl, downs.1);
  })
  downs-more_own e place pending (entry ∷ entries) w forms taken own same downs = elim downs [
    | inl mine ↦ inl (record {
      own = mine.own;
      oldest = mine.oldest;
      younger = mine.younger;
      pending_is = mine.pending_is;
      same = mine.same;
      rest = downs-more_own e (place + 1) mine.younger entries w forms taken own same mine.rest;
    })
    | inr other ↦ inr (record {
      other = other.other;
      carried = other.carried;
      later = other.later;
      is = other.is;
      taken_is = other.taken_is;
      rest = downs-more_own e (place + 1) other.carried.list entries w forms other.later own same other.rest;
    })
  ]

  -- and where it has one more of another client
  pub downs-more_others : (e : Entry) (n place : ℕ) (pending : List PlacedOp) (entries : List Entry)
      (forms taken : List PlacedOp) (k : Carried)
      → e.client ≢ c → carry f e.op forms ≡ Some k → place + length entries ≡ n
      → Downs f c place pending entries forms taken
      → Downs f c place pending (entries ++ e ∷ []) k.list (taken ++ item n k.op ∷ [])
  downs-more_others e n place pending [] forms taken k other is there downs = inr (
      let here : place ≡ n = omega (arith, there) in
      record {
        other = other;
        carried = k;
        later = [];
        is = subst (λ (l : List PlacedOp). carry f e.op l ≡ Some k) (sym downs.0) is;
        taken_is = ap (λ (l : List PlacedOp). l ++ item n k.op ∷ []) downs.1
            ∙ ap (λ (m : ℕ). item m k.op ∷ []) (sym here);
        rest = (refl, refl);
      })
  downs-more_others e n place pending (entry ∷ entries) forms taken k other is there downs =
      let next : place + 1 + length entries ≡ n = omega (arith, there) in
      elim downs [
        | inl mine ↦ inl (record {
          own = mine.own;
          oldest = mine.oldest;
          younger = mine.younger;
          pending_is = mine.pending_is;
          same = mine.same;
          rest = downs-more_others e n (place + 1) mine.younger entries forms taken k other is next mine.rest;
        })
        | inr theirs ↦ inr (record {
          other = theirs.other;
          carried = theirs.carried;
          later = theirs.later ++ item n k.op ∷ [];
          is = theirs.is;
          taken_is = ap (λ (l : List PlacedOp). l ++ item n k.op ∷ []) theirs.taken_is;
          rest = downs-more_others e n (place + 1) theirs.carried.list entries forms theirs.later k
              other is next theirs.rest;
        })
      ]

  -- what is taken stands at the entries' places
  pub downs-places : (place : ℕ) (pending : List PlacedOp) (entries : List Entry) (forms taken : List PlacedOp)
      → Downs f c place pending entries forms taken
      → AllByRecursion (λ b. place ≤ b.place) taken
  downs-places place pending [] forms taken downs = subst (AllByRecursion (λ b. place ≤ b.place)) (sym downs.1) tt
  downs-places place pending (entry ∷ entries) forms taken downs = elim downs [
    | inl mine ↦ sooner taken (downs-places (place + 1) mine.younger entries forms taken mine.rest)
    | inr theirs ↦ subst (AllByRecursion (λ b. place ≤ b.place)) (sym theirs.taken_is) (
      omega arith,
      sooner theirs.later (downs-places (place + 1) theirs.carried.list entries forms theirs.later theirs.rest),
    )
  ]
    where
      sooner : (list : List PlacedOp) → AllByRecursion (λ b. place + 1 ≤ b.place) list
          → AllByRecursion (λ b. place ≤ b.place) list
      sooner = all-weaker (λ b. place + 1 ≤ b.place) (λ b. place ≤ b.place) (λ b later. omega (arith, later))
