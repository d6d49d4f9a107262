-- Answers that no integers meet have a cycle of at most as many picks as names.
use Rattle.std.proofs.Common.{◌≡◌, ℕ, zero, suc, ◌≤◌, false, List, [], ◌∷◌, ◌++◌, length, Option, Some, None, slice_get}
use Rattle.std.proofs.Common.{Ok, refl, sym, subst, inl, inr}
use Rattle.std.proofs.lemmas.Bool.{cases_Bool}
use Rattle.std.proofs.lemmas.List.{append_assoc, append-nil}
use Rattle.diff_graph.specs.declared.lit.Lit.{Lit}
use Rattle.diff_tables.specs.declared.hop.Hop.{Hop}
use Rattle.diff_graph.specs.Literals.{IsPossible}
use Rattle.diff_graph.specs.Cycles.{picked, pick_verdict}
use Rattle.diff_graph.specs.Limits.{IsNamed, AreNamed}
use Rattle.diff_tables.specs.Tables.{Numbered, numbered_from, AreAmong, StandsFor, IsCycleOf}
use Rattle.diff_tables.specs.Steps.{added, leaves_room, numbers_along}
use Rattle.search_places.proofs.Possible.{IsPossible-by_table, numbered_from-next, picked-from_among, got_at}
use Rattle.search_places.proofs.Possible.{TellsPossible}
use Rattle.ot_prove.proofs.OneList.{AddedStands, stands-with}

abbrev pub TellsCycle : Type 0
TellsCycle =
    (n : ℕ) (t : ℕ → ℕ → Option Hop) (ps : List Numbered) (number : ℕ) (l : Lit)
    → StandsFor n t ps → IsNamed n l → leaves_room (t l.y l.x) l.k ≡ false
    → IsCycleOf n (ps ++ record { number = number; lit = l } ∷ []) (number ∷ numbers_along (λ x. t x l.x) n l.y l.x)

slice_get-longer : (ls more : List Lit) (i : ℕ) (l : Lit) → slice_get ls i ≡ Some l → slice_get (ls ++ more) i ≡ Some l
slice_get-longer [] more i l got = absurd (let none : None ≡ Some l = got in cc)
slice_get-longer (m ∷ ls) more zero l got = got
slice_get-longer (m ∷ ls) more (suc i) l got = slice_get-longer ls more i l got

-- a cycle of the first answers is one of all
cycle_of_all :
    (n : ℕ) (done rest : List Lit) (l : Lit) (picks : List ℕ)
    → IsCycleOf n (numbered_from 0 done ++ record { number = length done; lit = l } ∷ []) picks
    → pick_verdict (done ++ (l ∷ rest)) picks ≡ Ok tt
cycle_of_all n done rest l picks cycle =
    let named =
    subst (λ (ps : List Numbered). AreAmong ps picks cycle.literals)
    (numbered_from-next done l (length done) refl) cycle.named in
    let got : picked ((done ++ l ∷ []) ++ rest) picks ≡ Some cycle.literals =
    picked-from_among ((done ++ l ∷ []) ++ rest) (numbered_from 0 (done ++ l ∷ []))
    (λ number m among. slice_get-longer (done ++ l ∷ []) rest number m (got_at (done ++ l ∷ []) number m among)) picks
    cycle.literals named in
    let ok : pick_verdict ((done ++ l ∷ []) ++ rest) picks ≡ Ok tt = rw got cycle.negative in
    subst (λ (ls : List Lit). pick_verdict ls picks ≡ Ok tt) (append_assoc done (l ∷ []) rest) ok

module _ (adds : AddedStands) (tells : TellsPossible) (cycles : TellsCycle) where
  -- answer by answer, the table has room, or there is a cycle
  pub short_cycle :
      (n : ℕ) (rest done : List Lit) (t : ℕ → ℕ → Option Hop) → StandsFor n t (numbered_from 0 done) → AreNamed n rest
      → ¬ IsPossible (done ++ rest)
      → (picks : List ℕ) × (pick_verdict (done ++ rest) picks ≡ Ok tt) × (length picks ≤ n)
  short_cycle n [] done t stands named never =
      absurd (never (subst (λ (ls : List Lit). IsPossible ls) (sym (append-nil done))
      (IsPossible-by_table done stands)))
  short_cycle n (l ∷ rest) done t stands named never =
      elim (cases_Bool (leaves_room (t l.y l.x) l.k)) [
        | inl room ↦
            (let onward : (done ++ l ∷ []) ++ rest ≡ done ++ (l ∷ rest) = append_assoc done (l ∷ []) rest in
            let found =
            short_cycle n rest (done ++ l ∷ []) (added t (length done) l) (stands-with adds tells n t done l stands
            named.0 room) named.1 (subst (λ (ls : List Lit). ¬ IsPossible ls) (sym onward) never) in
            subst (λ (ls : List Lit). (picks : List ℕ) × (pick_verdict ls picks ≡ Ok tt)
            × (length picks ≤ n)) onward found)
        | inr no_room ↦
            (let cycle = cycles n t (numbered_from 0 done) (length done) l stands named.0 no_room in
            (length done ∷ numbers_along (λ x. t x l.x) n l.y l.x, cycle_of_all n done rest l _ cycle, cycle.few))
      ]
