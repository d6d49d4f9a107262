-- The elements of arrays, and what a reader makes of them one by one.
use Rattle.std.proofs.Common.{◌≡◌, ◌≤◌, ◌<◌, ℕ, suc, Bool, true, false, List, [], ◌∷◌, ◌++◌, length, Option, Some, None}
use Rattle.std.proofs.Common.{MatchOption, Ok, Err, refl, sym, ap, ◌∙◌, append_assoc, arith, nat_le, if◌then◌else◌}
use Rattle.std.specs.Option.{option_map, option_and_then, ok_or}
use Rattle.std.proofs.lemmas.Bool.{false_from_ne_true, le-leb, leb-true}
use Rattle.serde_json.specs.Data.{Data, Items}
use Rattle.serde_json.specs.View.{items_of}
use Rattle.case_json.specs.declared.fault.CaseFault.TheVariants.{Field, Limit}
use Rattle.case_json.specs.declared.fault.Name.{Name}
use Rattle.case_json.specs.Json.{list_of, each, elements_of}
use Rattle.case_json.specs.Cases.{elements_from}

pub list_of-items_of : (ds : List Data) → list_of (items_of ds) ≡ ds
list_of-items_of [] = refl
list_of-items_of (d ∷ ds) = ap (λ (others : List Data). d ∷ others) (list_of-items_of ds)

-- the elements of items that are known
pub elements-seen : (ds : List Data) (found : Option Items) → Some (items_of ds) ≡ found
    → Some ds ≡ option_map list_of found
elements-seen ds found is = ap Some (sym (list_of-items_of ds)) ∙ ap (λ (o : Option Items). option_map list_of o) is

-- elements in front of what a reader makes of others
abbrev pub found_before : {A : Type 0} → List A → Option (List A) → Option (List A)
found_before front found = option_map (λ others. front ++ others) found

pub found_before-nothing : {A : Type 0} (found : Option (List A)) → found_before [] found ≡ found
found_before-nothing None = refl
found_before-nothing (Some others) = refl

-- one element more in front, and none
module _ {A B : Type 0} (reader : A → Option B) (front : List B) (x : A) (xs : List A) where
  joined : (y : B) (others : Option (List B))
      → found_before front (option_map (λ list. y ∷ list) others) ≡ found_before (front ++ y ∷ []) others
  joined y None = refl
  joined y (Some list) = ap Some (sym (append_assoc front (y ∷ []) list))

  pub found-one_more : (y : B) → reader x ≡ Some y
      → found_before front (each reader (x ∷ xs)) ≡ found_before (front ++ y ∷ []) (each reader xs)
  found-one_more y is = rw is (joined y (each reader xs))

  pub found-none : reader x ≡ None → found_before front (each reader (x ∷ xs)) ≡ None
  found-none is = rw is refl

-- a reader makes one element of each
pub each-length : {A B : Type 0} (reader : A → Option B) (xs : List A) (ys : List B)
    → each reader xs ≡ Some ys → length ys ≡ length xs
each-length {A} {B} reader [] ys is = let none : [] ≡ ys = cc in sym (ap length none)
each-length {A} {B} reader (x ∷ xs) ys is = found (reader x) (each reader xs) (each-length reader xs) is
  where
    found : (first : Option B) (others : Option (List B))
        → ((list : List B) → others ≡ Some list → length list ≡ length xs)
        → option_and_then (λ y. option_map (λ list. y ∷ list) others) first ≡ Some ys → length ys ≡ suc (length xs)
    found None others count is = cc
    found (Some y) None count is = cc
    found (Some y) (Some list) count is = let same : y ∷ list ≡ ys = cc in
        sym (ap length same) ∙ ap suc (count list refl)

-- no more elements than are allowed
pub elements_from-few : {A : Type 0} (part : Name) (most : ℕ) (reader : Data → Option A)
    (found : Option (List Data)) (list : List A)
    → elements_from part most reader found ≡ Ok list → length list ≤ most
elements_from-few {A} part most reader None list is = cc
elements_from-few {A} part most reader (Some elements) list is =
    within (nat_le (length elements) most) (each reader elements) refl (each-length reader elements) is
  where
    within : (few : Bool) (others : Option (List A)) → nat_le (length elements) most ≡ few
        → ((list : List A) → others ≡ Some list → length list ≡ length elements)
        → (if few then ok_or others (Field part) else Err (Limit part)) ≡ Ok list → length list ≤ most
    within false others few count is = cc
    within true None few count is = cc
    within true (Some read) few count is =
        let same : read ≡ list = cc in
        let bound : length elements ≤ most = leb-true (length elements) most few in
        omega (arith, ap length same, count read refl, bound)

-- the elements of what was found, if anything was
pub elements-found : {A B : Type 0} (seen : A → Data) (many : B → List Data) (found : Option A)
    (json : Option Data) (answer : Option B)
    → option_map seen found ≡ json
    → MatchOption found (answer ≡ None) (λ value. option_map many answer ≡ elements_of (seen value))
    → option_and_then elements_of json ≡ option_map many answer
elements-found seen many None json answer is none = rw (← is, none) refl
elements-found seen many (Some value) json answer is some = rw (← is) (sym some)

module _ {A : Type 0} (part : Name) (most : ℕ) (reader : Data → Option A) (elements : List Data) where
  pub too_many : most < length elements → elements_from part most reader (Some elements) ≡ Err (Limit part)
  too_many more =
      rw (false_from_ne_true (nat_le (length elements) most)
      (λ few. absurd (omega (arith, more, leb-true (length elements) most few)))) refl

  pub not_too_many : length elements ≤ most
      → elements_from part most reader (Some elements) ≡ ok_or (each reader elements) (Field part)
  not_too_many few = rw (le-leb (length elements) most few) refl
