-- What is sought and counted: lists that are ready for their operations, and each form once.
use Rattle.std.proofs.Common.{◌≡◌, ℕ, zero, suc, ◌<◌, ◌≤◌, false, cond, List, [], ◌∷◌, ◌++◌, length, Option, Some, None}
use Rattle.std.proofs.Common.{refl, inl, inr, arith}
use Rattle.std.specs.List.{AllByRecursion}
use Rattle.std.proofs.lemmas.Bool.{cases_Bool}
use Rattle.ot_causal.specs.Members.{without}
use Rattle.ot_causal.specs.Past.{Past, IsClosed, IsReady, IsOrderly, IsOpening}
use Rattle.ot_causal.specs.Forms.{newest_open}
use Rattle.ot_causal.specs.Counting.{FormName, name_of, sought, is_among, count_sought, counted}
use Rattle.ot_causal.proofs.Openings.{IsOpening-newest_open}
use Rattle.ot_causal.proofs.Forms.{sought-none_open, sought-newest_open, counted-nil, counted-cons}

-- no form is one of those behind it
abbrev pub IsApart : List FormName → Type 0
IsApart [] = Unit {0}
IsApart (name ∷ names) = (is_among names name ≡ false) × IsApart names

IsApart-count_sought : (names more : List FormName) → IsApart names → IsApart (count_sought names more)
IsApart-count_sought names [] apart = apart
IsApart-count_sought names (name ∷ more) apart = elim (cases_Bool (is_among names name)) [
  | inl among ↦ rw among (IsApart-count_sought names more apart)
  | inr other ↦ rw other (IsApart-count_sought (name ∷ names) more (other, apart))
]

pub AllByRecursion-append : (P : FormName → Type 0) (names more : List FormName)
    → AllByRecursion P names → AllByRecursion P more
    → AllByRecursion P (names ++ more)
AllByRecursion-append P [] more all all_more = all_more
AllByRecursion-append P (name ∷ names) more all all_more = (all.0, AllByRecursion-append P names more all.1 all_more)

pub AllByRecursion-count_sought : (P : FormName → Type 0) (names more : List FormName)
    → AllByRecursion P names → AllByRecursion P more
    → AllByRecursion P (count_sought names more)
AllByRecursion-count_sought P names [] all all_more = all
AllByRecursion-count_sought P names (name ∷ more) all all_more = elim (cases_Bool (is_among names name)) [
  | inl among ↦ rw among (AllByRecursion-count_sought P names more all all_more.1)
  | inr other ↦ rw other (AllByRecursion-count_sought P (name ∷ names) more (all_more.0, all) all_more.1)
]

-- counting more counts no less
pub length-count_sought : (names more : List FormName) → length names ≤ length (count_sought names more)
length-count_sought names [] = omega arith
length-count_sought names (name ∷ more) = elim (cases_Bool (is_among names name)) [
  | inl among ↦ rw among (length-count_sought names more)
  | inr other ↦ rw other (omega (arith, length-count_sought (name ∷ names) more))
]

pub count_sought-append : (names first more : List FormName)
    → count_sought names (first ++ more) ≡ count_sought (count_sought names first) more
count_sought-append names [] more = refl
count_sought-append names (name ∷ first) more =
    count_sought-append (cond (is_among names name) names (name ∷ names)) first more

-- the form's list is ready for its operation
abbrev pub IsReadyName : Past → FormName → Type 0
IsReadyName past name = IsReady past name.of name.behind

module _ (past : Past) (order : IsOrderly past) where
  -- what holds of each form behind a list of no more members holds of all that is sought
  sought-all_within : (P : FormName → Type 0) (k : ℕ)
      → ((o : ℕ) (l : List ℕ) → length l ≤ k → IsReady past o l → P (name_of o l))
      → (n o : ℕ) (l : List ℕ) → length l < n → length l ≤ k → IsReady past o l → AllByRecursion P (sought past o l)
  sought-all_within P k each zero o l below_n small ready = absurd (omega (arith, below_n))
  sought-all_within P k each (suc n) o l below_n small ready =
      by (newest_open past o l) refl (λ p m. sought-all_within P k each n p m)
    where
      by : (found : Option ℕ) → newest_open past o l ≡ found
          → ((p : ℕ) (m : List ℕ) → length m < n → length m ≤ k → IsReady past p m → AllByRecursion P (sought past p m))
          → AllByRecursion P (sought past o l)
      by None none below = rw (sought-none_open past o l none) tt
      by (Some x) found below =
          let opening : IsOpening past o l x = IsOpening-newest_open past order o l x ready found in
          rw (sought-newest_open past o l x found)
          (AllByRecursion-append P (sought past o (without x l) ++ sought past x (without x l)) (name_of o l ∷ [])
          (AllByRecursion-append P (sought past o (without x l)) (sought past x (without x l))
          (below o (without x l) (omega (arith, below_n, opening.shorter)) (omega (arith, small, opening.shorter))
          (opening.next, opening.closed)) (below x (without x l) (omega (arith, below_n, opening.shorter))
          (omega (arith, small, opening.shorter)) (opening.next_member, opening.closed))) (each o l small ready, tt))

  pub sought-all : (P : FormName → Type 0) (o : ℕ) (l : List ℕ)
      → ((p : ℕ) (m : List ℕ) → length m ≤ length l → IsReady past p m → P (name_of p m))
      → IsReady past o l → AllByRecursion P (sought past o l)
  sought-all P o l each = sought-all_within P (length l) each (suc (length l)) o l (omega arith) (omega arith)

  ready-sought : (o : ℕ) (l : List ℕ) → IsReady past o l → AllByRecursion (IsReadyName past) (sought past o l)
  ready-sought o l = sought-all (IsReadyName past) o l (λ p m _ ready. ready)

  pub ready-counted : (l : List ℕ) → IsClosed past l → AllByRecursion (IsReadyName past) (counted past l)
  ready-counted [] closed = rw (counted-nil past) tt
  ready-counted (o ∷ l) closed = rw (counted-cons past o l)
      (AllByRecursion-count_sought (IsReadyName past) (counted past l) (sought past o l) (ready-counted l closed.1)
      (ready-sought o l closed))

pub IsApart-counted : (past : Past) (l : List ℕ) → IsApart (counted past l)
IsApart-counted past [] = rw (counted-nil past) tt
IsApart-counted past (o ∷ l) =
    rw (counted-cons past o l) (IsApart-count_sought (counted past l) (sought past o l) (IsApart-counted past l))
