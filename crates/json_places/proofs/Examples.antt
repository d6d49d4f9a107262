-- Where values begin in small texts.
use Rattle.std.specs.Prelude.{◌≡◌, ℕ, Some, None, codes, refl}
use Rattle.json_places.specs.declared.places.Places.{Places}
use Rattle.json_places.specs.Values.{value_at}

abbrev here : Places
here = record { first = None; second = None; third = None }

abbrev at_first : ℕ → Places
at_first i = record { first = Some i; second = None; third = None }

abbrev at_second : ℕ → ℕ → Places
at_second i j = record { first = Some i; second = Some j; third = None }

abbrev at_third : ℕ → ℕ → ℕ → Places
at_third i j k = record { first = Some i; second = Some j; third = Some k }

-- the value under a key, behind blanks
under_a_key : value_at (codes " { \"a\" :\n 7}") (codes "a") here ≡ Some 10
under_a_key = refl

-- a key that is a value, or a key of a member within, is none of the object
of_the_object : value_at (codes "{\"a\":\"b\",\"c\":{\"b\":1},\"b\":2}") (codes "b") here ≡ Some 25
of_the_object = refl

no_member : value_at (codes "{\"a\":1}") (codes "b") here ≡ None
no_member = refl

no_object : value_at (codes "[\"a\",1]") (codes "a") here ≡ None
no_object = refl

-- of two members with one key the second counts
last_member : value_at (codes "{\"a\":1,\"a\":2}") (codes "a") here ≡ Some 11
last_member = refl

-- also where the first alone has such an element
of_the_last_member : value_at (codes "{\"a\":[1],\"a\":2}") (codes "a") (at_first 0) ≡ None
of_the_last_member = refl

-- a key that is spelled with an escape is not found
escaped_key : value_at (codes "{\"\\u0061\":1}") (codes "a") here ≡ None
escaped_key = refl

-- a bracket, a comma and an escaped quote in a string count for nothing
in_strings : value_at (codes "{\"a\":[\"],\\\",[\",7]}") (codes "a") (at_first 1) ≡ Some 15
in_strings = refl

-- a string that ends with a backslash, which is escaped itself
ends_with_a_backslash : value_at (codes "{\"a\":[\"\\\\\",7]}") (codes "a") (at_first 1) ≡ Some 11
ends_with_a_backslash = refl

-- an array within an array is one element
within_arrays : value_at (codes "{\"a\":[[1,2],[3,[4,5],6]]}") (codes "a") (at_third 1 1 1) ≡ Some 18
within_arrays = refl

behind_an_array : value_at (codes "{\"a\":[[1,2],[3,[4,5],6]]}") (codes "a") (at_second 1 2) ≡ Some 21
behind_an_array = refl

no_element : value_at (codes "{\"a\":[1]}") (codes "a") (at_first 1) ≡ None
no_element = refl

none_of_an_empty_array : value_at (codes "{\"a\":[ ]}") (codes "a") (at_first 0) ≡ None
none_of_an_empty_array = refl

none_of_a_number : value_at (codes "{\"a\":1}") (codes "a") (at_first 0) ≡ None
none_of_a_number = refl
