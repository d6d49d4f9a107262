-- What is known of places that wait, the innermost one first: where its cycle starts in one list of numbers.
use Rattle.std.specs.Prelude.{◌≡◌, ℕ, ◌-◌, ◌≤◌, Bool, true, false, List, [], ◌∷◌, length, take, drop, Option}
use Rattle.std.specs.Prelude.{Some, None}
use Rattle.ask_core.specs.declared.picks.TheConstants.{MAX_PICKS}
use Rattle.ask_core.specs.declared.tree.Tok.TheVariants as token
use Rattle.cert_text.specs.TreeTexts.{Written, with_token}

-- a cycle has the numbers from its start on, and the places outside of its own have those before it
abbrev pub cycles_of_starts : List (Option ℕ) → List ℕ → List (Option (List ℕ))
cycles_of_starts [] numbers = []
cycles_of_starts (None ∷ starts) numbers = None ∷ cycles_of_starts starts numbers
cycles_of_starts (Some start ∷ starts) numbers =
    Some (drop start numbers) ∷ cycles_of_starts starts (take start numbers)

-- each cycle starts within the numbers, and has no more than a token may have
abbrev pub HaveCycles : List (Option ℕ) → List ℕ → Type 0
HaveCycles [] numbers = Unit {0}
HaveCycles (None ∷ starts) numbers = HaveCycles starts numbers
HaveCycles (Some start ∷ starts) numbers =
    (start ≤ length numbers) × (length numbers - start ≤ MAX_PICKS) × HaveCycles starts (take start numbers)

-- what was known of the innermost place is taken: its cycle is put behind the tree, or there is none
abbrev pub IsTakenCycle : List (Option (List ℕ)) → List (Option (List ℕ)) → Written → Written → Bool → Type 0
IsTakenCycle before after tree new_tree true =
    (picks : List ℕ) × (before ≡ Some picks ∷ after) × (new_tree ≡ with_token tree (token.Cycle picks))
IsTakenCycle before after tree new_tree false = (before ≡ None ∷ after) × (new_tree ≡ tree)
