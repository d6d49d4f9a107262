-- A table is copied behind itself, and then both are written to.
use Rattle.std.proofs.Common.{◌≡◌, ℕ, ◌+◌, ◌<◌, List, [], ◌∷◌, ◌++◌, length, set, get_or, arith, refl, sym, ap, ◌∙◌}
use Rattle.std.proofs.Common.{subst}
use Rattle.std.proofs.lemmas.List.{get_or_append_left, get_or_push, get_or_read_under, length-append, length-set}
use Rattle.std.proofs.lemmas.List.{set-append_left}
use Rattle.std.proofs.Math.Seq.{set-append_seam}

module _ {X : Type 0} (before pushed : List X) (last : ℕ) (x d : X) (size : last + 1 ≡ length before) where
  -- what is read at the old place is what stood there
  pub first_read : (first : X) → pushed ≡ before ++ x ∷ [] → first ≡ get_or pushed last first
      → first ≡ get_or before last d
  first_read first is read =
      let within : last < length pushed = omega (arith, size, ap length is, length-append before (x ∷ [])) in
      get_or_read_under pushed last (length pushed) first d read within refl
      ∙ ap (λ (l : List X). get_or l last d) is
      ∙ get_or_append_left before (x ∷ []) d last (omega (arith, size))

  -- writing to the old place leaves the copy behind it
  first_written : (of_no : X) → pushed ≡ before ++ x ∷ [] → set pushed last of_no ≡ set before last of_no ++ x ∷ []
  first_written of_no is =
      ap (λ (l : List X). set l last of_no) is ∙ set-append_left before (x ∷ []) last of_no (omega (arith, size))

  long : (of_no : X) → length (set before last of_no) ≡ last + 1
  long of_no = length-set before last of_no ∙ sym size

  -- what is read at the new place is the copy
  pub second_read :
      (of_no second : X) → pushed ≡ before ++ x ∷ [] → x ≡ get_or before last x
      → second ≡ get_or (set pushed last of_no) (last + 1) second → second ≡ get_or before last d
  second_read of_no second is copied read =
      let there : set pushed last of_no ≡ set before last of_no ++ x ∷ [] = first_written of_no is in
      let within : last + 1 < length (set pushed last of_no) =
      omega (arith, ap length there, length-append (set before last of_no) (x ∷ []), long of_no) in
      get_or_read_under (set pushed last of_no) (last + 1) (length (set pushed last of_no)) second x read within refl
      ∙ ap (λ (l : List X). get_or l (last + 1) x) there
      ∙ get_or_push (set before last of_no) x x (last + 1) (long of_no)
      ∙ get_or_read_under before last (length before) x d copied (omega (arith, size)) refl

  -- both are written to
  pub both_written :
      (of_no of_yes : X) → pushed ≡ before ++ x ∷ []
      → set (set pushed last of_no) (last + 1) of_yes ≡ set before last of_no ++ of_yes ∷ []
  both_written of_no of_yes is =
      ap (λ (l : List X). set l (last + 1) of_yes) (first_written of_no is)
      ∙ subst (λ (n : ℕ). set (set before last of_no ++ x ∷ []) n of_yes ≡ set before last of_no ++ of_yes ∷ [])
      (long of_no) (set-append_seam (set before last of_no) x [] of_yes)
