-- What a loop puts behind a list, element by element.
use Rattle.std.proofs.Common.{◌≡◌, ℕ, ◌+◌, ◌<◌, ◌≤◌, Bool, true, false, cond, List, [], ◌∷◌, ◌++◌, length, map, take}
use Rattle.std.proofs.Common.{get_or, sym, ap, ◌∙◌, append_assoc}
use Rattle.std.specs.Prelude.{filter}
use Rattle.std.proofs.lemmas.List.{append-nil, map-append, take_all, take_more}
use Rattle.std.proofs.lemmas.List.Elements.{filter-append}

-- the images of the elements so far, and that of the next one
map-take_more :
    {A B : Type 0} (f : A → B) (xs : List A) (i : ℕ) (d : A) → i < length xs
    → map f (take (i + 1) xs) ≡ map f (take i xs) ++ f (get_or xs i d) ∷ []
map-take_more f xs i d inside = ap (map f) (take_more xs i d inside) ∙ map-append f (take i xs) (get_or xs i d ∷ [])

-- the next one is put behind those so far
pub pushed_more :
    {A B : Type 0} (f : A → B) (old now new : List B) (xs : List A) (i : ℕ) (d : A) → i < length xs
    → now ≡ old ++ map f (take i xs) → new ≡ now ++ f (get_or xs i d) ∷ [] → new ≡ old ++ map f (take (i + 1) xs)
pushed_more f old now new xs i d inside so_far is =
    is ∙ ap (λ (l : List _). l ++ f (get_or xs i d) ∷ []) so_far
    ∙ append_assoc old (map f (take i xs)) (f (get_or xs i d) ∷ [])
    ∙ ap (λ (l : List _). old ++ l) (sym (map-take_more f xs i d inside))

-- behind the last one all are there
pub pushed_all :
    {A B : Type 0} (f : A → B) (old now : List B) (xs : List A) (i : ℕ) → length xs ≤ i → now ≡ old ++ map f (take i xs)
    → now ≡ old ++ map f xs
pushed_all f old now xs i all so_far = so_far ∙ ap (λ (l : List _). old ++ map f l) (take_all i xs all)

-- the images so far that pass a test, and the next one where it does
chosen-take_more :
    {A B : Type 0} (p : B → Bool) (f : A → B) (xs : List A) (i : ℕ) (d : A) → i < length xs
    → filter p (map f (take (i + 1) xs))
    ≡ filter p (map f (take i xs)) ++ cond (p (f (get_or xs i d))) (f (get_or xs i d) ∷ []) []
chosen-take_more p f xs i d inside =
    ap (filter p) (map-take_more f xs i d inside) ∙ filter-append p (map f (take i xs)) (f (get_or xs i d) ∷ [])

-- one that passes is put behind those so far
pub chosen_more :
    {A B : Type 0} (p : B → Bool) (f : A → B) (old now new : List B) (xs : List A) (i : ℕ) (d : A) → i < length xs
    → now ≡ old ++ filter p (map f (take i xs)) → p (f (get_or xs i d)) ≡ true → new ≡ now ++ f (get_or xs i d) ∷ []
    → new ≡ old ++ filter p (map f (take (i + 1) xs))
chosen_more p f old now new xs i d inside so_far passes is =
    let next = chosen-take_more p f xs i d inside in
    is ∙ ap (λ (l : List _). l ++ f (get_or xs i d) ∷ []) so_far
    ∙ append_assoc old (filter p (map f (take i xs))) (f (get_or xs i d) ∷ [])
    ∙ ap (λ (l : List _). old ++ l) (sym (rw passes at next))

-- one that does not is left out
pub chosen_same :
    {A B : Type 0} (p : B → Bool) (f : A → B) (old now : List B) (xs : List A) (i : ℕ) (d : A) → i < length xs
    → now ≡ old ++ filter p (map f (take i xs)) → p (f (get_or xs i d)) ≡ false
    → now ≡ old ++ filter p (map f (take (i + 1) xs))
chosen_same p f old now xs i d inside so_far fails =
    let next = chosen-take_more p f xs i d inside in
    so_far ∙ ap (λ (l : List _). old ++ l) (sym (rw fails at next ∙ append-nil (filter p (map f (take i xs)))))

-- behind the last one all are there that pass
pub chosen_all :
    {A B : Type 0} (p : B → Bool) (f : A → B) (old now : List B) (xs : List A) (i : ℕ) → length xs ≤ i
    → now ≡ old ++ filter p (map f (take i xs)) → now ≡ old ++ filter p (map f xs)
chosen_all p f old now xs i all so_far = so_far ∙ ap (λ (l : List _). old ++ filter p (map f l)) (take_all i xs all)
