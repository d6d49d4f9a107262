-- The member that a form is transformed by, taken out of its list; and two members taken out of lists of one
-- set.
use Rattle.std.proofs.Common.{◌≡◌, ◌≢◌, ℕ, suc, true, false, List, ◌∷◌, length, Some, sym, ◌∙◌, subst, inl, inr}
use Rattle.std.proofs.lemmas.Bool.{cases_eq}
use Rattle.ot_causal.specs.Members.{has, without, HaveOneSet}
use Rattle.ot_causal.specs.Past.{Past, IsNext, IsClosed, IsReady, IsOrderly, IsFree, IsOpening}
use Rattle.ot_causal.specs.Forms.{newest_open}
use Rattle.ot_causal.proofs.Members.{has-itself, has-older, has-other, has-cases, differ-has, has-without}
use Rattle.ot_causal.proofs.Members.{has-without_itself, has-from_without, length-without, HaveOneSet-taken_out}
use Rattle.ot_causal.proofs.Closed.{IsDistinct-closed, made-member, IsFree-other, has-newest_open, before-newest_open}
use Rattle.ot_causal.proofs.Closed.{IsNext-without, IsClosed-without, IsFree-newest_open, IsNext-taken_out}

-- two members x and y, taken out of two lists of one set: both are next behind the list without both
pub record IsDiamond (past : Past) (x y : ℕ) (l m both : List ℕ) : Type 0 where
  pub closed : IsClosed past both
  pub next_x : IsNext past both x
  pub next_y : IsNext past both y
  pub apart : past.before x y ≡ false
  pub apart_back : past.before y x ≡ false
  pub left : HaveOneSet (without x l) (y ∷ both)
  pub right : HaveOneSet (x ∷ both) (without y m)
  pub shorter : length (without x l) ≡ suc (length both)

-- what is next behind a list is next behind the list with another newest member
pub IsNext-newer : (past : Past) (x : ℕ) (l : List ℕ) (o : ℕ) → o ≢ x → IsNext past l o → IsNext past (x ∷ l) o
IsNext-newer past x l o differ next = record {
  made = next.made;
  new = has-other x l o differ ∙ next.new;
  knows = λ z before. has-older x l z (next.knows z before);
}

module _ (past : Past) (order : IsOrderly past) where
  -- the newest member that is not before an operation is an opening of its list
  pub IsOpening-newest_open : (o : ℕ) (l : List ℕ) (x : ℕ) → IsReady past o l
      → newest_open past o l ≡ Some x → IsOpening past o l x
  IsOpening-newest_open o l x ready found = record {
    made = made-member past l x ready.1 member;
    member = member;
    differ = differ-has l x o member ready.0.new;
    apart = before-newest_open past o l x found;
    apart_back = (IsFree-other past l o ready.1 ready.0.new).at x member;
    free = free;
    closed = IsClosed-without past x l ready.1 free;
    next = IsNext-without past x l o ready.0 (before-newest_open past o l x found);
    next_member = IsNext-taken_out past order x l ready.1 member;
    shorter = length-without x l member;
  }
    where
      member : has l x ≡ true
      member = has-newest_open past o l x found

      free : IsFree past x l
      free = IsFree-newest_open past order o l x ready.0.made ready.1 found

  -- the newest member is before no member
  pub IsFree-newest : (x : ℕ) (l : List ℕ) → IsClosed past (x ∷ l) → IsFree past x (x ∷ l)
  IsFree-newest x l closed = record {
    at = λ z member. elim (has-cases x l z member) [
      | inl newest ↦ subst (λ (w : ℕ). past.before x w ≡ false) (sym newest) (order.itself x closed.0.made)
      | inr older ↦ (IsFree-other past l x closed.1 closed.0.new).at z older
    ];
  }

  -- two operations that are each before no member can be taken out in either order
  pub IsDiamond-free : (x y : ℕ) (l m : List ℕ) → x ≢ y → IsClosed past l → IsClosed past m → HaveOneSet l m
      → has l x ≡ true → has m y ≡ true → IsFree past x l → IsFree past y m
      → IsDiamond past x y l m (without y (without x l))
  IsDiamond-free x y l m differ closed_l closed_m same x_in_l y_in_m free_x free_y = record {
    closed = IsClosed-without past y (without x l) closed free_y_there;
    next_x = IsNext-without past y (without x l) x (IsNext-taken_out past order x l closed_l x_in_l)
        (free_y.at x (sym (same.at x) ∙ x_in_l));
    next_y = IsNext-taken_out past order y (without x l) closed y_there;
    apart = free_x.at y (same.at y ∙ y_in_m);
    apart_back = free_y.at x (sym (same.at x) ∙ x_in_l);
    left = HaveOneSet-taken_out y (without x l) y_there;
    right = record { at = right_at };
    shorter = length-without y (without x l) y_there;
  }
    where
      closed : IsClosed past (without x l)
      closed = IsClosed-without past x l closed_l free_x

      y_there : has (without x l) y ≡ true
      y_there = has-without x l y (λ same_member. differ (sym same_member)) ∙ same.at y ∙ y_in_m

      free_y_there : IsFree past y (without x l)
      free_y_there = record { at = λ z member. free_y.at z (sym (same.at z) ∙ has-from_without x l z member) }

      right_at : (z : ℕ) → has (x ∷ without y (without x l)) z ≡ has (without y m) z
      right_at z = elim (cases_eq z x) [
        | inl is ↦ subst (λ (w : ℕ). has (x ∷ without y (without x l)) w ≡ has (without y m) w) (sym is)
            (has-itself x (without y (without x l)) ∙ sym (has-without y m x differ ∙ sym (same.at x) ∙ x_in_l))
        | inr not_x ↦ has-other x (without y (without x l)) z not_x ∙ elim (cases_eq z y) [
          | inl is ↦ subst (λ (w : ℕ). has (without y (without x l)) w ≡ has (without y m) w) (sym is)
              (has-without_itself y (without x l) (IsDistinct-closed past (without x l) closed)
              ∙ sym (has-without_itself y m (IsDistinct-closed past m closed_m)))
          | inr not_y ↦ has-without y (without x l) z not_y ∙ has-without x l z not_x ∙ same.at z
              ∙ sym (has-without y m z not_y)
        ]
      ]
