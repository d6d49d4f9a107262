-- What is in the way of forms, and what led to them, on small lists.
use Rattle.std.proofs.Common.{◌≡◌, true, false, [], ◌∷◌, Some, None, refl}
use Rattle.fn_rules.specs.Functions.{Function}
use Rattle.ot_causal.specs.Past.{Past}
use Rattle.ot_causal.specs.Forms.{form, form_within}
use Rattle.ot_causal.specs.Counting.{name_of, sought_within, sought, counted}
use Rattle.ot_session.specs.FormPairs.{form_pairs, older_than}
use Rattle.ot_session.specs.Seeking.{Missing, Exhausted, first_obstacle, count_behind}

module _ (f : Function) (past : Past) where
  -- nothing is sought
  nothing_is_in_the_way : first_obstacle f past 7 [] [] ≡ None
  nothing_is_in_the_way = refl

  -- form 500,001 is wanted
  one_form_too_many : first_obstacle f past 500000 [] (name_of 1 (0 ∷ []) ∷ []) ≡ Some Exhausted
  one_form_too_many = refl

  -- a form that was counted, behind its list in another order, is not counted again
  a_form_that_was_counted : first_obstacle f past 500000 (name_of 2 (0 ∷ 1 ∷ []) ∷ [])
      (name_of 2 (1 ∷ 0 ∷ []) ∷ []) ≡ None
  a_form_that_was_counted = refl

  -- a form that does not exist is counted, and none behind it
  a_form_that_is_missing : form f past 1 (0 ∷ []) ≡ None
      → first_obstacle f past 7 [] (name_of 1 (0 ∷ []) ∷ name_of 2 (0 ∷ []) ∷ []) ≡ Some (Missing 8)
  a_form_that_is_missing none = rw none refl

  -- an operation behind nothing has no form to be counted
  nothing_to_count : count_behind f past 7 [] 3 ≡ 7
  unfolding counted sought sought_within
  nothing_to_count = refl

  -- an operation was carried over one that is not before it
  over_one_operation : past.before 0 1 ≡ false
      → form_pairs f past 1 (0 ∷ [])
      ≡ record { form = past.operation 1; number = 0; against = past.operation 0 } ∷ []
  unfolding form form_within
  over_one_operation apart = rw apart refl

  -- and over none that is
  over_none : past.before 0 1 ≡ true → form_pairs f past 1 (0 ∷ []) ≡ []
  over_none before = rw before refl

  -- what was integrated before an operation
  older_members : older_than 1 (2 ∷ 1 ∷ 0 ∷ []) ≡ 0 ∷ []
  older_members = refl
