-- Seeking a form by its two parts.
use Rattle.std.proofs.Common.{◌≡◌, ◌+◌, ℕ, zero, suc, false, List, [], ◌∷◌, ◌++◌, length, Option, Some, None, Err, refl}
use Rattle.std.proofs.Common.{◌∙◌}
use Rattle.std.specs.Coded.{Coded, code_by, coded×, coded_ℕ, coded_ℤ, coded_option}
use Rattle.std.specs.Prelude.{ℤ, pos}
use Rattle.ot_model.specs.declared.op.Op.{Op}
use Rattle.ot_model.specs.declared.op.Op.TheVariants.{Ins, Del, Upd, Nop}
use Rattle.fn_rules.specs.Functions.{Function}
use Rattle.ot_causal.specs.Members.{without, IsSublist}
use Rattle.ot_causal.specs.Past.{Past, IsOpening}
use Rattle.ot_causal.specs.Counting.{FormName, name_of, is_among, sought, count_sought}
use Rattle.ot_session.specs.declared.table.Key.{Key}
use Rattle.ot_session.specs.declared.form.FormError.{FormError}
use Rattle.ot_session.specs.declared.form.FormError.TheVariants.{NoForm, Spent, NoMemory}
use Rattle.ot_session.specs.Seeking.{Obstacle, Missing, Exhausted, first_obstacle}
use Rattle.ot_session.specs.Entries.{MaySeek, HasSought}
use Rattle.ot_session.proofs.Seeking.{first_obstacle-stops, first_obstacle-goes_on}

abbrev parts_of : Op → (ℕ × ℤ) × (ℕ × ℕ)
parts_of (Ins at ch site) = ((0, at), (ch, site))
parts_of (Del at site) = ((1, at), (0, site))
parts_of (Upd at ch site) = ((2, at), (ch, site))
parts_of Nop = ((3, pos 0), (0, 0))

abbrev op_of : ℕ → ℤ → ℕ → ℕ → Op
op_of zero at ch site = Ins at ch site
op_of (suc zero) at ch site = Del at site
op_of (suc (suc zero)) at ch site = Upd at ch site
op_of (suc (suc (suc n))) at ch site = Nop

op_of-parts : (o : Op) → op_of (parts_of o).0.0 (parts_of o).0.1 (parts_of o).1.0 (parts_of o).1.1 ≡ o
op_of-parts (Ins at ch site) = refl
op_of-parts (Del at site) = refl
op_of-parts (Upd at ch site) = refl
op_of-parts Nop = refl

-- operations are told apart by their parts
pub form_code : Coded (Option Op)
form_code =
    coded_option (code_by ((ℕ × ℤ) × (ℕ × ℕ)) (coded× (coded× coded_ℕ coded_ℤ) (coded× coded_ℕ coded_ℕ)) parts_of
    (λ p. op_of p.0.0 p.0.1 p.1.0 p.1.1) op_of-parts)

module _ (f : Function) (past : Past) (seen : List ℕ) (o x : ℕ) (l : List ℕ) where
  -- the parts of a form can be sought where it can
  pub MaySeek-own : ((l m : List ℕ) → IsSublist l m → IsSublist (without x l) m)
      → MaySeek f past seen o l → IsOpening past o l x
      → MaySeek f past seen o (without x l)
  MaySeek-own sublist may opening = record {
    orderly = may.orderly;
    closed = may.closed;
    usable = may.usable;
    sought = record { ready = (opening.next, opening.closed); sublist = sublist l seen may.sought.sublist };
  }

  pub MaySeek-member : ((l m : List ℕ) → IsSublist l m → IsSublist (without x l) m)
      → MaySeek f past seen o l → IsOpening past o l x
      → MaySeek f past seen x (without x l)
  MaySeek-member sublist may opening = record {
    orderly = may.orderly;
    closed = may.closed;
    usable = may.usable;
    sought = record { ready = (opening.next_member, opening.closed); sublist = sublist l seen may.sought.sublist };
  }

module _ (f : Function) (past : Past) (seen : List ℕ) (o x : ℕ) (l : List ℕ)
    (split : sought past o l ≡ sought past o (without x l) ++ sought past x (without x l) ++ name_of o l ∷ []) where
  abbrev of_o : List FormName
  of_o = sought past o (without x l)

  abbrev of_x : List FormName
  of_x = sought past x (without x l)

  -- what is in the way of the operation's own form is in the way
  stops_own : (names : List FormName) (others : ℕ) (r : Obstacle)
      → first_obstacle f past (others + length names) names of_o ≡ Some r
      → first_obstacle f past (others + length names) names (sought past o l) ≡ Some r
  stops_own names others r is = rw split
      (first_obstacle-stops f past (others + length names) names (of_o ++ of_x) (name_of o l ∷ []) r
      (first_obstacle-stops f past (others + length names) names of_o of_x r is))

  pub HasSought-own : (names : List FormName) (others : ℕ) (es fs : List (Key × Op)) (n : ℕ) (e : FormError)
      → HasSought f past seen names others o (without x l) es n (Err e)
      → HasSought f past seen names others o l fs n (Err e)
  HasSought-own names others es fs n NoForm is = stops_own names others (Missing n) is
  HasSought-own names others es fs n Spent is = stops_own names others Exhausted is
  HasSought-own names others es fs n NoMemory is = tt

  module _ (names : List FormName) (others : ℕ)
      (free : first_obstacle f past (others + length names) names of_o ≡ None) where
    -- so is what is in the way of the member's form
    stops_by : (r : Obstacle)
        → first_obstacle f past (others + length (count_sought names of_o)) (count_sought names of_o) of_x ≡ Some r
        → first_obstacle f past (others + length names) names (sought past o l) ≡ Some r
    stops_by r is = rw split
        (first_obstacle-stops f past (others + length names) names (of_o ++ of_x) (name_of o l ∷ []) r
        (first_obstacle-goes_on f past others names of_o of_x free ∙ is))

    pub HasSought-by : (es fs : List (Key × Op)) (n : ℕ) (e : FormError)
        → HasSought f past seen (count_sought names of_o) others x (without x l) es n (Err e)
        → HasSought f past seen names others o l fs n (Err e)
    HasSought-by es fs n NoForm is = stops_by (Missing n) is
    HasSought-by es fs n Spent is = stops_by Exhausted is
    HasSought-by es fs n NoMemory is = tt

    -- what was counted before the form itself
    abbrev before : List FormName
    before = count_sought (count_sought names of_o) of_x

    module _ (joined : (first more : List FormName)
        → count_sought names (first ++ more) ≡ count_sought (count_sought names first) more)
        (free_by : first_obstacle f past (others + length (count_sought names of_o))
        (count_sought names of_o) of_x ≡ None) where
      -- what is in the way of the form itself
      pub first_obstacle-itself : (found : Option Obstacle)
          → first_obstacle f past (others + length before) before (name_of o l ∷ []) ≡ found
          → first_obstacle f past (others + length names) names (sought past o l) ≡ found
      first_obstacle-itself found is = rw split
          (first_obstacle-goes_on f past others names (of_o ++ of_x) (name_of o l ∷ [])
          (first_obstacle-goes_on f past others names of_o of_x free ∙ free_by)
          ∙ rw (joined of_o of_x) is)

      -- it is counted last
      pub count_sought-itself : is_among before (name_of o l) ≡ false
          → count_sought names (sought past o l) ≡ name_of o l ∷ before
      count_sought-itself new = rw split (joined (of_o ++ of_x) (name_of o l ∷ []) ∙ rw (joined of_o of_x, new) refl)
