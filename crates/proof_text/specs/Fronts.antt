-- What is found at the front of some bytes.
use Rattle.std.specs.Prelude.{ℕ, zero, suc, nat_eq, if◌then◌else◌, List, [], ◌∷◌}
use Rattle.proof_text.specs.declared.unread.Unread.{Unread}
use Rattle.proof_text.specs.declared.unread.Unread.TheVariants.{Misspelt, Cut}

-- a value whose spelling stands there, and the bytes after it; or nothing, and why
pub data Parsed (A : Type 0) : Type 0 where
  Found : A → List ℕ → Parsed A
  Missing : Unread → Parsed A

-- what is found next, after what was found
abbrev pub and_then : {A B : Type 0} → Parsed A → (A → List ℕ → Parsed B) → Parsed B
and_then (Found a rest) next = next a rest
and_then (Missing why) next = Missing why

-- what was found, as another value
abbrev pub found_as : {A B : Type 0} → (A → B) → Parsed A → Parsed B
found_as f (Found a rest) = Found (f a) rest
found_as f (Missing why) = Missing why

-- the first; and where no spelling of the first begins so, the second
abbrev pub either_front : {A : Type 0} → Parsed A → Parsed A → Parsed A
either_front (Found a rest) other = Found a rest
either_front (Missing Misspelt) other = other
either_front (Missing Cut) other = Missing Cut

-- exactly these bytes
abbrev pub fixed_front : List ℕ → List ℕ → Parsed (Unit {0})
fixed_front [] bytes = Found tt bytes
fixed_front (b ∷ text) [] = Missing Cut
fixed_front (b ∷ text) (c ∷ bytes) = if nat_eq b c then fixed_front text bytes else Missing Misspelt

-- behind an item of a list, whose others are found by `others`: the byte that ends the list, or the one between items
abbrev pub after_item : {A : Type 0} → ℕ → ℕ → (List ℕ → Parsed (List A)) → A → List ℕ → Parsed (List A)
after_item between stop others a [] = Missing Cut
after_item between stop others a (b ∷ rest) =
    if nat_eq b stop then Found (a ∷ []) rest
    else (if nat_eq b between then found_as (λ more. a ∷ more) (others rest) else Missing Misspelt)

-- at least one item and at most so many, with a byte between any two and one that ends them
unfoldable pub items_front : {A : Type 0} → (List ℕ → Parsed A) → ℕ → ℕ → ℕ → List ℕ → Parsed (List A)
items_front item between stop zero bytes = Missing Misspelt
items_front item between stop (suc room) bytes =
    and_then (item bytes) (after_item between stop (items_front item between stop room))
