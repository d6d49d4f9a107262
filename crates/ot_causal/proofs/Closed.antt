-- Closed lists, and taking a member out of one.
use Rattle.std.proofs.Common.{◌≡◌, ℕ, ◌<◌, true, false, List, [], ◌∷◌, Some, None, refl, sym, ◌∙◌, subst, inl, inr}
use Rattle.std.proofs.lemmas.Bool.{cases_Bool, cases_eq, false≢true, both_ways}
use Rattle.ot_causal.specs.Members.{has, without}
use Rattle.ot_causal.specs.Past.{Past, IsNext, IsClosed, AreMade, IsOrderly, IsFree}
use Rattle.ot_causal.specs.Forms.{newest_open}
use Rattle.ot_causal.proofs.Members.{IsDistinct, has-itself, has-older, has-cases, without-newest, without-older}
use Rattle.ot_causal.proofs.Members.{has-without, has-without_none, has-from_without, has-without_itself}

module _ (past : Past) where
  pub IsDistinct-closed : (l : List ℕ) → IsClosed past l → IsDistinct l
  IsDistinct-closed [] closed = tt
  IsDistinct-closed (x ∷ l) closed = (closed.0.new, IsDistinct-closed l closed.1)

  -- members were made
  pub made-member : (l : List ℕ) (o : ℕ) → IsClosed past l → has l o ≡ true → o < past.count
  made-member [] o closed is = absurd (false≢true is)
  made-member (x ∷ l) o closed is = elim (has-cases x l o is) [
    | inl same ↦ subst (λ (z : ℕ). z < past.count) (sym same) closed.0.made
    | inr older ↦ made-member l o closed.1 older
  ]

  pub AreMade-closed : (l : List ℕ) → IsClosed past l → AreMade past l
  AreMade-closed l closed = record { at = λ o member. made-member l o closed member }

  pub AreMade-without : (x : ℕ) (l : List ℕ) → AreMade past l → AreMade past (without x l)
  AreMade-without x l all = record { at = λ o member. all.at o (has-from_without x l o member) }

  pub AreMade-older : (x : ℕ) (l : List ℕ) → AreMade past (x ∷ l) → AreMade past l
  AreMade-older x l all = record { at = λ o member. all.at o (has-older x l o member) }

  -- what is before a member is a member
  pub has-before : (l : List ℕ) (x o : ℕ) → IsClosed past l → has l o ≡ true → past.before x o ≡ true → has l x ≡ true
  has-before [] x o closed is before = absurd (false≢true is)
  has-before (y ∷ l) x o closed is before = has-older y l x (elim (has-cases y l o is) [
    | inl same ↦ closed.0.knows x (subst (λ (z : ℕ). past.before x z ≡ true) same before)
    | inr older ↦ has-before l x o closed.1 older before
  ])

  -- an operation that is no member is before no member
  pub IsFree-other : (l : List ℕ) (o : ℕ) → IsClosed past l → has l o ≡ false → IsFree past o l
  IsFree-other l o closed other = record {
    at = λ z member. elim (cases_Bool (past.before o z)) [
      | inl before ↦ absurd (both_ways (has l o) other (has-before l o z closed member before))
      | inr apart ↦ apart
    ];
  }

  -- all of the list is before the operation
  pub before-none_open : (o : ℕ) (l : List ℕ) (z : ℕ) → newest_open past o l ≡ None
      → has l z ≡ true → past.before z o ≡ true
  before-none_open o [] z none is = absurd (false≢true is)
  before-none_open o (y ∷ l) z none is = elim (cases_Bool (past.before y o)) [
    | inl before ↦ elim (has-cases y l z is) [
      | inl same ↦ subst (λ (w : ℕ). past.before w o ≡ true) (sym same) before
      | inr older ↦ before-none_open o l z (rw before at none) older
    ]
    | inr apart ↦ (let found : Some y ≡ None = rw apart at none in cc)
  ]

  pub newest_open-none : (o : ℕ) (l : List ℕ) → ((z : ℕ) → has l z ≡ true → past.before z o ≡ true)
      → newest_open past o l ≡ None
  newest_open-none o [] all = refl
  newest_open-none o (y ∷ l) all =
      rw (all y (has-itself y l)) (newest_open-none o l (λ z member. all z (has-older y l z member)))

  -- the newest open member is a member, and open
  pub has-newest_open : (o : ℕ) (l : List ℕ) (x : ℕ) → newest_open past o l ≡ Some x → has l x ≡ true
  has-newest_open o [] x found = cc
  has-newest_open o (y ∷ l) x found = elim (cases_Bool (past.before y o)) [
    | inl before ↦ has-older y l x (has-newest_open o l x (rw before at found))
    | inr apart ↦ (let here : Some y ≡ Some x = rw apart at found in
        let same : y ≡ x = cc in
        subst (λ (w : ℕ). has (y ∷ l) w ≡ true) same (has-itself y l))
  ]

  pub before-newest_open : (o : ℕ) (l : List ℕ) (x : ℕ) → newest_open past o l ≡ Some x → past.before x o ≡ false
  before-newest_open o [] x found = cc
  before-newest_open o (y ∷ l) x found = elim (cases_Bool (past.before y o)) [
    | inl before ↦ before-newest_open o l x (rw before at found)
    | inr apart ↦ (let here : Some y ≡ Some x = rw apart at found in
        let same : y ≡ x = cc in
        subst (λ (w : ℕ). past.before w o ≡ false) same apart)
  ]

  -- without a member that is not before it, the list is still ready for the operation
  pub IsNext-without : (x : ℕ) (l : List ℕ) (o : ℕ) → IsNext past l o → past.before x o ≡ false
      → IsNext past (without x l) o
  IsNext-without x l o next apart = record {
    made = next.made;
    new = has-without_none x l o next.new;
    knows = λ z before. has-without x l z
        (λ same. both_ways (past.before x o) apart (subst (λ (w : ℕ). past.before w o ≡ true) same before))
        ∙ next.knows z before;
  }

  -- without a member that is before no other, the list is still closed
  pub IsClosed-without : (x : ℕ) (l : List ℕ) → IsClosed past l → IsFree past x l → IsClosed past (without x l)
  IsClosed-without x [] closed free = tt
  IsClosed-without x (y ∷ l) closed free = elim (cases_eq x y) [
    | inl same ↦ subst (λ (z : ℕ). IsClosed past (without z (y ∷ l))) (sym same) (rw (without-newest y l) closed.1)
    | inr other ↦ rw (without-older x y l other) (
      IsNext-without x l y closed.0 (free.at y (has-itself y l)),
      IsClosed-without x l closed.1 (record { at = λ z member. free.at z (has-older y l z member) }),
    )
  ]

module _ (past : Past) (order : IsOrderly past) where
  -- the newest open member is before no member: it is before none that is before the operation, and all that
  -- are newer are so
  pub IsFree-newest_open : (o : ℕ) (l : List ℕ) (x : ℕ) → o < past.count → IsClosed past l
      → newest_open past o l ≡ Some x → IsFree past x l
  IsFree-newest_open o [] x made closed found = cc
  IsFree-newest_open o (y ∷ l) x made closed found = record {
    at = λ z member. elim (cases_Bool (past.before x z)) [
      | inr apart ↦ apart
      | inl behind ↦ absurd (elim (cases_Bool (past.before y o)) [
        | inl before ↦ elim (has-cases y l z member) [
          | inl newest ↦ both_ways (past.before x o) (before-newest_open past o (y ∷ l) x found)
              (order.through x y o made (subst (λ (w : ℕ). past.before x w ≡ true) newest behind) before)
          | inr older ↦ both_ways (past.before x z)
              ((IsFree-newest_open o l x made closed.1 (rw before at found)).at z older) behind
        ]
        | inr apart ↦ (let here : Some y ≡ Some x = rw apart at found in
            let same : y ≡ x = cc in
            let from_newest : past.before y z ≡ true = subst (λ (w : ℕ). past.before w z ≡ true) (sym same) behind in
            elim (has-cases y l z member) [
              | inl newest ↦ both_ways (past.before y y) (order.itself y closed.0.made)
                  (subst (λ (w : ℕ). past.before y w ≡ true) newest from_newest)
              | inr older ↦ both_ways (has l y) closed.0.new (has-before past l y z closed.1 older from_newest)
            ])
      ])
    ];
  }

  -- a member may be integrated again behind the list without it
  pub IsNext-taken_out : (x : ℕ) (l : List ℕ) → IsClosed past l → has l x ≡ true → IsNext past (without x l) x
  IsNext-taken_out x l closed member = record {
    made = made-member past l x closed member;
    new = has-without_itself x l (IsDistinct-closed past l closed);
    knows = λ z before. has-without x l z
        (λ same. both_ways (past.before x x) (order.itself x (made-member past l x closed member))
        (subst (λ (w : ℕ). past.before w x ≡ true) same before))
        ∙ has-before past l z x closed member before;
  }
