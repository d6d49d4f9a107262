-- The first fault of a list, as a loop over its members comes to it.
use Rattle.std.proofs.Common.{◌≡◌, ℕ, ◌+◌, ◌<◌, ◌≤◌, true, false, List, length, drop, get_or, Option, Some, None}
use Rattle.std.proofs.Common.{is_some, refl, sym, ap, ◌∙◌}
use Rattle.std.specs.Option.{option_or}
use Rattle.std.proofs.lemmas.List.{drop_all, drop_more}
use Rattle.case_json.specs.declared.fault.CaseFault.{CaseFault}
use Rattle.case_json.specs.Tests.{first_fault}

pub here : (found rest : Option CaseFault) → is_some found ≡ true → option_or found rest ≡ found
here None rest some = cc
here (Some fault) rest some = refl

pub behind : (found rest : Option CaseFault) → is_some found ≡ false → option_or found rest ≡ rest
behind None rest none = refl
behind (Some fault) rest none = cc

module _ {A : Type 0} (test : ℕ → A → Option CaseFault) (start i : ℕ) (xs : List A) (whole : Option CaseFault)
    (so_far : whole ≡ first_fault test start (drop i xs)) where
  -- no member is left
  pub no_fault : length xs ≤ i → None ≡ whole
  no_fault all = sym (so_far ∙ ap (λ (l : List A). first_fault test start l) (drop_all i xs all))

  module _ (d : A) (inside : i < length xs) (found : Option CaseFault) (is : found ≡ test start (get_or xs i d)) where
    at_member : whole ≡ option_or found (first_fault test (start + 1) (drop (i + 1) xs))
    at_member =
        so_far ∙ ap (λ (l : List A). first_fault test start l) (drop_more xs i d inside)
        ∙ ap (λ (fault : Option CaseFault). option_or fault (first_fault test (start + 1) (drop (i + 1) xs))) (sym is)

    -- the next member has the fault that was found
    pub fault_here : is_some found ≡ true → found ≡ whole
    fault_here some = sym (at_member ∙ here found (first_fault test (start + 1) (drop (i + 1) xs)) some)

    -- the next member has none
    pub fault_behind : is_some found ≡ false → whole ≡ first_fault test (start + 1) (drop (i + 1) xs)
    fault_behind none = at_member ∙ behind found (first_fault test (start + 1) (drop (i + 1) xs)) none
