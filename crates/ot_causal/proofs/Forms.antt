-- What a form is made from, and that it stays when more is made.
use Rattle.std.proofs.Common.{◌≡◌, ℕ, false, List, [], ◌∷◌, ◌++◌, length, Option, Some, None, refl, ap, ◌∙◌, arith}
use Rattle.std.specs.Option.{option_map_or}
use Rattle.ot_model.specs.declared.cell.Cell.{Cell}
use Rattle.fn_rules.specs.Functions.{Function}
use Rattle.ot_causal.specs.Members.{without}
use Rattle.ot_causal.specs.Past.{Past}
use Rattle.ot_causal.specs.Forms.{newest_open, transformed, form_within, form, executed, state}
use Rattle.ot_causal.specs.Counting.{name_of, sought_within, sought, counted, count_sought}
use Rattle.ot_causal.proofs.Members.{without-newest, length-without}
use Rattle.ot_causal.proofs.Closed.{has-newest_open}

pub option_map_or-none : {T U : Type 0} (h : T → U) (found : Option T) (other : U) → found ≡ None
    → option_map_or h found other ≡ other
option_map_or-none h found other is = rw is refl

pub option_map_or-some : {T U : Type 0} (h : T → U) (found : Option T) (x : T) (other : U) → found ≡ Some x
    → option_map_or h found other ≡ h x
option_map_or-some h found x other is = rw is refl

-- without its newest open member the list is as long as its older members
length-without_open : (past : Past) (o y : ℕ) (l : List ℕ) (x : ℕ) → newest_open past o (y ∷ l) ≡ Some x
    → length l ≡ length (without x (y ∷ l))
length-without_open past o y l x found =
    omega (arith, length-without x (y ∷ l) (has-newest_open past o (y ∷ l) x found))

module _ (f : Function) (past : Past) where
  -- where all of the list is before it, the operation is its own form
  pub form-none_open : (o : ℕ) (l : List ℕ) → newest_open past o l ≡ None → form f past o l ≡ Some (past.operation o)
  unfolding form form_within
  form-none_open o [] none = refl
  form-none_open o (y ∷ l) none = option_map_or-none _ (newest_open past o (y ∷ l)) (Some (past.operation o)) none

  -- otherwise it is transformed by the newest open member, both behind the list without that member
  pub form-newest_open : (o : ℕ) (l : List ℕ) (x : ℕ) → newest_open past o l ≡ Some x
      → form f past o l ≡ transformed f (form f past o (without x l)) (form f past x (without x l))
  unfolding form form_within
  form-newest_open o [] x found = cc
  form-newest_open o (y ∷ l) x found =
      option_map_or-some
      (λ z. transformed f (form_within (length l) f past o (without z (y ∷ l))) (form_within (length l) f past z
      (without z (y ∷ l)))) (newest_open past o (y ∷ l)) x (Some (past.operation o)) found
      ∙ ap (λ depth. transformed f (form_within depth f past o (without x (y ∷ l)))
      (form_within depth f past x (without x (y ∷ l)))) (length-without_open past o y l x found)

  -- so it is behind a newest member that is not before it
  pub form-cons : (o x : ℕ) (l : List ℕ) → past.before x o ≡ false
      → form f past o (x ∷ l) ≡ transformed f (form f past o l) (form f past x l)
  form-cons o x l apart =
      form-newest_open o (x ∷ l) x (rw apart refl)
      ∙ ap (λ m. transformed f (form f past o m) (form f past x m)) (without-newest x l)

  -- a closed list leads to what its newest member's form leads to from what the older ones lead to
  pub state-cons : (first : List Cell) (o : ℕ) (l : List ℕ) (d : List Cell) → state f past first l ≡ Some d
      → state f past first (o ∷ l) ≡ executed f (form f past o l) d
  unfolding state
  state-cons first o l d is = rw is refl

  pub state-nil : (first : List Cell) → state f past first [] ≡ Some first
  unfolding state
  state-nil first = refl

-- nothing is sought where all of the list is before the operation
pub sought-none_open : (past : Past) (o : ℕ) (l : List ℕ) → newest_open past o l ≡ None → sought past o l ≡ []
unfolding sought sought_within
sought-none_open past o [] none = refl
sought-none_open past o (y ∷ l) none = option_map_or-none _ (newest_open past o (y ∷ l)) [] none

-- otherwise the forms of the operation and of the newest open member behind the list without that member,
-- and then the form itself
pub sought-newest_open : (past : Past) (o : ℕ) (l : List ℕ) (x : ℕ) → newest_open past o l ≡ Some x
    → sought past o l ≡ sought past o (without x l) ++ sought past x (without x l) ++ name_of o l ∷ []
unfolding sought sought_within
sought-newest_open past o [] x found = cc
sought-newest_open past o (y ∷ l) x found =
    option_map_or-some
    (λ z. sought_within (length l) past o (without z (y ∷ l)) ++ sought_within (length l) past z (without z (y ∷ l))
    ++ record { of = o; behind = y ∷ l } ∷ []) (newest_open past o (y ∷ l)) x [] found
    ∙ ap (λ depth. sought_within depth past o (without x (y ∷ l)) ++ sought_within depth past x (without x (y ∷ l))
    ++ record { of = o; behind = y ∷ l } ∷ []) (length-without_open past o y l x found)

pub counted-nil : (past : Past) → counted past [] ≡ []
unfolding counted
counted-nil past = refl

pub counted-cons : (past : Past) (o : ℕ) (l : List ℕ)
    → counted past (o ∷ l) ≡ count_sought (counted past l) (sought past o l)
unfolding counted
counted-cons past o l = refl
