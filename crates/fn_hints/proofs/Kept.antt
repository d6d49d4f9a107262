-- What a filter keeps.
use Rattle.std.proofs.Common.{◌≡◌, ◌<◌, ℕ, zero, suc, Bool, true, cond, List, [], ◌∷◌, length, filter, Contains, ap}
use Rattle.std.proofs.Common.{sym, ◌∙◌, subst, arith, slice_index_or}
use Rattle.std.proofs.lemmas.Bool.{cond_both}
use Rattle.std.proofs.lemmas.List.Elements.{All-contains, Contains-append_right, filter_passes}

module _ {X : Type 0} (p : X → Bool) where
  kept_from : (xs : List X) (x : X) (i : ℕ) → i < length xs → slice_index_or xs i x ≡ x → p x ≡ true →
      Contains (filter p xs) x
  kept_from [] x i below is passes = absurd (omega arith)
  kept_from (y ∷ ys) x zero below is passes =
      subst (λ b. Contains (cond b (y ∷ filter p ys) (filter p ys)) x) (sym (ap p is ∙ passes)) (0, omega arith, is)
  kept_from (y ∷ ys) x (suc i) below is passes =
      let kept = kept_from ys x i (omega arith) is passes in
      cond_both (p y) (y ∷ filter p ys) (filter p ys) (λ zs. Contains zs x)
      (λ _. Contains-append_right (y ∷ []) (filter p ys) x kept)
      (λ _. kept)

  -- an element that passes is kept
  pub is_kept : (xs : List X) (x : X) → Contains xs x → p x ≡ true → Contains (filter p xs) x
  is_kept xs x held passes = kept_from xs x held.0 held.1 held.2 passes

  -- one that is kept passes
  pub kept_passes : (xs : List X) (x : X) → Contains (filter p xs) x → p x ≡ true
  kept_passes xs x held = All-contains (λ y. p y ≡ true) (filter p xs) x (filter_passes p xs) held
