-- Forms, documents and counts, computed on two sessions, and that the definitions can be met.
use Rattle.std.proofs.Common.{◌≡◌, ℕ, zero, suc, ◌<◌, false, List, [], ◌∷◌, length, Some, refl, arith}
use Rattle.std.specs.Prelude.{pos, unwrap_or, slice_get}
use Rattle.std.proofs.lemmas.Bool.{false≢true}
use Rattle.std.proofs.lemmas.Int.{ints}
use Rattle.ot_model.specs.declared.cell.Cell.{Cell}
use Rattle.ot_model.specs.declared.op.Op.{Op}
use Rattle.ot_model.specs.declared.op.Op.TheVariants.{Ins, Del}
use Rattle.ot_model.specs.Cells.{live_cell, dead_cell}
use Rattle.ot_model.specs.Operations.{kind_of}
use Rattle.ot_model.specs.Effect.{IsEnabled}
use Rattle.fn_rules.specs.Functions.{HasDeclaredKind}
use Rattle.fn_rules.specs.Shipped.{ttf, sites}
use Rattle.fn_rules.specs.Orders.{operation_at}
use Rattle.ot_causal.specs.Members.{has}
use Rattle.ot_causal.specs.Past.{Past, maker, IsNext, IsClosed}
use Rattle.ot_causal.specs.Forms.{form_within, form, state}
use Rattle.ot_causal.specs.Counting.{FormName, sought_within, sought, counted, most_forms}
use Rattle.ot_causal.specs.Sessions.{IsBorn, IsSoundPast}
use Rattle.ot_causal.proofs.Forms.{state-nil}

-- operations, with what each one's site had integrated when it was made
abbrev past_of : List Op → List (List ℕ) → Past
past_of operations known = record {
  count = length operations;
  operation = operation_at operations;
  before = λ x o. has (unwrap_or (slice_get known o) []) x;
}

abbrev a : Cell
a = live_cell 97

abbrev b : Cell
b = live_cell 98

abbrev c : Cell
c = live_cell 99

abbrev y : Cell
y = live_cell 121

abbrev name : ℕ → List ℕ → FormName
name o l = record { of = o; behind = l }

-- two sites insert into the empty document; the second integrates the other insertion and deletes its own
-- character
abbrev deleted_behind_both : Past
deleted_behind_both = past_of (Ins (pos 0) 97 1 ∷ Ins (pos 0) 98 2 ∷ Del (pos 1) 2 ∷ []) ([] ∷ [] ∷ (0 ∷ 1 ∷ []) ∷ [])

insertion_stays : form ttf deleted_behind_both 0 (1 ∷ []) ≡ Some (Ins (pos 0) 97 1)
unfolding form form_within
insertion_stays = refl

insertion_moves : form ttf deleted_behind_both 1 (0 ∷ []) ≡ Some (Ins (pos 1) 98 2)
unfolding form form_within
insertion_moves = refl

deletion_is_as_it_was_made : form ttf deleted_behind_both 2 (1 ∷ 0 ∷ []) ≡ Some (Del (pos 1) 2)
unfolding form form_within
deletion_is_as_it_was_made = refl

first_site : state ttf deleted_behind_both [] (2 ∷ 1 ∷ 0 ∷ []) ≡ Some (a ∷ dead_cell b ∷ [])
unfolding state form form_within
first_site = refl

second_site : state ttf deleted_behind_both [] (2 ∷ 0 ∷ 1 ∷ []) ≡ Some (a ∷ dead_cell b ∷ [])
unfolding state form form_within
second_site = refl

each_site_counts_one_form : counted deleted_behind_both (2 ∷ 1 ∷ 0 ∷ []) ≡ name 1 (0 ∷ []) ∷ []
unfolding counted sought sought_within
each_site_counts_one_form = refl

-- three sites change a document of one cell, and none knew of another
abbrev all_concurrent : Past
all_concurrent = past_of (Ins (pos 1) 97 1 ∷ Del (pos 0) 2 ∷ Ins (pos 0) 99 3 ∷ []) ([] ∷ [] ∷ [] ∷ [])

-- the function `sites` has not the second property, and the sites end with two documents
deleted_last_but_one : state sites all_concurrent (y ∷ []) (2 ∷ 1 ∷ 0 ∷ []) ≡ Some (c ∷ a ∷ [])
unfolding state form form_within
deleted_last_but_one = refl

deleted_first : state sites all_concurrent (y ∷ []) (2 ∷ 0 ∷ 1 ∷ []) ≡ Some (a ∷ c ∷ [])
unfolding state form form_within
deleted_first = refl

-- the forms of the operation come before those of the member that it is transformed by
sought_in_order : sought all_concurrent 2 (1 ∷ 0 ∷ []) ≡ name 2 (0 ∷ []) ∷ name 1 (0 ∷ []) ∷ name 2 (1 ∷ 0 ∷ []) ∷ []
unfolding sought sought_within
sought_in_order = refl

-- the form of the second behind the first was counted when the second was integrated
counted_once : counted all_concurrent (2 ∷ 1 ∷ 0 ∷ []) ≡ name 2 (1 ∷ 0 ∷ []) ∷ name 2 (0 ∷ []) ∷ name 1 (0 ∷ []) ∷ []
unfolding counted sought sought_within
counted_once = refl

most_counted : most_forms all_concurrent 3 ≡ 12
most_counted = refl

-- two sites make two insertions each, and the first site integrates those of the second. Of n at each site and k
-- integrated ones it is n (2k - 1) forms: each of the k moves behind n, and each of the n behind k - 1
abbrev two_and_two : Past
two_and_two =
    past_of (Ins (pos 0) 97 1 ∷ Ins (pos 0) 97 1 ∷ Ins (pos 0) 98 2 ∷ Ins (pos 0) 98 2 ∷ [])
    ([] ∷ (0 ∷ []) ∷ [] ∷ (2 ∷ []) ∷ [])

first_of_two_counts : length (counted two_and_two (2 ∷ 1 ∷ 0 ∷ [])) ≡ 2
unfolding counted sought sought_within
first_of_two_counts = refl

both_of_two_count : length (counted two_and_two (3 ∷ 2 ∷ 1 ∷ 0 ∷ [])) ≡ 6
unfolding counted sought sought_within
both_of_two_count = refl

most_of_two_and_two : most_forms two_and_two 2 ≡ 12
most_of_two_and_two = refl

-- the concurrent operations were made by the sites 1, 2 and 3
maker_is : (o : ℕ) → o < 3 → maker all_concurrent o ≡ suc o
maker_is zero below = refl
maker_is (suc zero) below = refl
maker_is (suc (suc zero)) below = refl
maker_is (suc (suc (suc o))) below = absurd (omega (arith, below))

-- an operation that nothing is before was made on the first document
born_on_the_first : (o : ℕ) → ((x : ℕ) → false ≡ all_concurrent.before x o) → IsEnabled (all_concurrent.operation o) 1
    → HasDeclaredKind sites.head (kind_of (all_concurrent.operation o)) → IsBorn sites all_concurrent (y ∷ []) o
born_on_the_first o befores enabled declared = record {
  known = [];
  closed = tt;
  befores = befores;
  document = y ∷ [];
  is = state-nil sites all_concurrent (y ∷ []);
  enabled = enabled;
  declared = declared;
}

each_is_born : (o : ℕ) → o < 3 → IsBorn sites all_concurrent (y ∷ []) o
each_is_born zero below = born_on_the_first 0 (λ x. refl) (omega (arith, ints), omega (arith, ints)) refl
each_is_born (suc zero) below = born_on_the_first 1 (λ x. refl) (omega (arith, ints), omega (arith, ints)) refl
each_is_born (suc (suc zero)) below = born_on_the_first 2 (λ x. refl) (omega (arith, ints), omega (arith, ints)) refl
each_is_born (suc (suc (suc o))) below = absurd (omega (arith, below))

such_a_past_is_sound : IsSoundPast sites all_concurrent (y ∷ [])
such_a_past_is_sound = record {
  born = each_is_born;
  ordered = λ x o below_x below_o one_site differ.
      absurd (differ (omega (arith, maker_is x below_x, maker_is o below_o, one_site)));
}

-- its lists are closed in any order
such_a_list_is_closed : IsClosed all_concurrent (2 ∷ 0 ∷ 1 ∷ [])
such_a_list_is_closed = (next_two, (next_zero, (next_one, tt)))
  where
    next_one : IsNext all_concurrent [] 1
    next_one = record { made = omega arith; new = refl; knows = λ x before. absurd (false≢true before) }

    next_zero : IsNext all_concurrent (1 ∷ []) 0
    next_zero = record { made = omega arith; new = refl; knows = λ x before. absurd (false≢true before) }

    next_two : IsNext all_concurrent (0 ∷ 1 ∷ []) 2
    next_two = record { made = omega arith; new = refl; knows = λ x before. absurd (false≢true before) }
