-- What is left of a file that is read in pieces.
use Rattle.std.proofs.Common.{◌≡◌, ℕ, ◌+◌, ◌-◌, ◌≤◌, ◌<◌, zero, suc, List, [], ◌∷◌, ◌++◌, take, drop, length, get_or}
use Rattle.std.proofs.Common.{Bool, true, false, ◌↔◌, IsTrue, Option, Some, None, Result, Ok, Err, IfOk, refl, sym, ap}
use Rattle.std.proofs.Common.{◌∙◌, arith, subst, drop-cons, add-one, append_assoc, length-append}
use Rattle.std.proofs.lemmas.List.{drop-drop, drop-take, length-drop, length-take, length-take-le, get_or-take}
use Rattle.std.proofs.lemmas.List.{take_all, take-append-drop}
use Rattle.std.specs.Prelude.{option_map}
use Rattle.std.specs.Option.{ForSome}
use Rattle.std.specs.Io.KnownBytes.{IsAtEnd, prepend_known}

-- nothing of the piece is left behind its last byte
pub drop-take_same : (n : ℕ) (piece : List ℕ) → drop n (take n piece) ≡ []
drop-take_same zero piece = refl
drop-take_same (suc n) [] = refl
drop-take_same (suc n) (b ∷ piece) = drop-take_same n piece

prepend_known-nil : (left : Option (List ℕ)) → prepend_known [] left ≡ left
prepend_known-nil None = refl
prepend_known-nil (Some bytes) = refl

-- where the piece was given whole, what is left of the file is what is left of the shelf
pub used_up : (at filled : ℕ) (piece : List ℕ) (left : Option (List ℕ)) → at ≡ filled
    → prepend_known (drop at (take filled piece)) left ≡ left
used_up at filled piece left e = rw (e, drop-take_same, prepend_known-nil) refl

-- the next byte of the piece, and those behind it
next_of_piece :
    (at filled : ℕ) (piece : List ℕ) → at < filled → filled ≤ length piece
    → drop at (take filled piece) ≡ get_or piece at 0 ∷ drop (at + 1) (take filled piece)
next_of_piece at filled piece below within =
    let len : length (take filled piece) ≡ filled = length-take-le filled piece within in
    let there : at < length (take filled piece) = omega arith in
    rw add-one (drop-cons (take filled piece) at 0 there
    ∙ ap (λ b. b ∷ drop (suc at) (take filled piece)) (get_or-take filled piece at 0 below))

-- a byte at the front of what is given
give_first :
    (room b : ℕ) (bytes : List ℕ) (left : Option (List ℕ)) → 0 < room
    → option_map (take room) (prepend_known (b ∷ bytes) left)
    ≡ prepend_known (b ∷ []) (option_map (take (room - 1)) (prepend_known bytes left))
give_first zero b bytes left some = absurd (omega arith)
give_first (suc n) b bytes None some = refl
give_first (suc n) b bytes (Some more) some = let one : suc n - 1 ≡ n = omega arith in rw one refl

-- the feed gives the next byte of its piece
pub next_given :
    (room at filled : ℕ) (piece : List ℕ) (left : Option (List ℕ)) → 0 < room → at < filled → filled ≤ length piece
    → option_map (take room) (prepend_known (drop at (take filled piece)) left)
    ≡ prepend_known (get_or piece at 0 ∷ [])
    (option_map (take (room - 1)) (prepend_known (drop (at + 1) (take filled piece)) left))
next_given room at filled piece left some below within =
    rw (next_of_piece at filled piece below within)
    (give_first room (get_or piece at 0) (drop (at + 1) (take filled piece)) left some)

-- a byte that is given was not beyond the limit
beyond_first :
    (room b : ℕ) (bytes : List ℕ) (left : Option (List ℕ)) → 0 < room
    → option_map (drop (room - 1)) (prepend_known bytes left) ≡ option_map (drop room) (prepend_known (b ∷ bytes) left)
beyond_first zero b bytes left some = absurd (omega arith)
beyond_first (suc n) b bytes None some = refl
beyond_first (suc n) b bytes (Some more) some = let one : suc n - 1 ≡ n = omega arith in rw one refl

pub beyond_given :
    (room at filled : ℕ) (piece : List ℕ) (left : Option (List ℕ)) → 0 < room → at < filled → filled ≤ length piece
    → option_map (drop (room - 1)) (prepend_known (drop (at + 1) (take filled piece)) left)
    ≡ option_map (drop room) (prepend_known (drop at (take filled piece)) left)
beyond_given room at filled piece left some below within =
    rw (next_of_piece at filled piece below within)
    (beyond_first room (get_or piece at 0) (drop (at + 1) (take filled piece)) left some)

-- a feed with no room left is at its end
pub no_room : (room : ℕ) (file : Option (List ℕ)) → room ≡ 0 → IsAtEnd (option_map (take room) file)
no_room room None none = tt
no_room room (Some bytes) none = rw none refl

-- where the file is at its end, the feed is
pub at_end : (room : ℕ) (file : Option (List ℕ)) → IsAtEnd file → IsAtEnd (option_map (take room) file)
at_end room None end = tt
at_end zero (Some bytes) end = refl
at_end (suc n) (Some bytes) end = rw end refl

-- a byte of the piece is a byte of the file
some_left :
    (at filled : ℕ) (piece : List ℕ) (left : Option (List ℕ)) (bytes : List ℕ) → at < filled → filled ≤ length piece
    → prepend_known (drop at (take filled piece)) left ≡ Some bytes → 0 < length bytes
some_left at filled piece None bytes below within is = cc
some_left at filled piece (Some more) bytes below within is =
    let all : drop at (take filled piece) ++ more ≡ bytes = cc in
    rw (← all) (rw (next_of_piece at filled piece below within) (omega arith))

-- whether a byte is left of a file whose limit was reached
told :
    (room : ℕ) (more : Bool) (bytes : List ℕ) → room ≡ 0 → (more ≡ true → 0 < length bytes)
    → (more ≡ false → bytes ≡ [])
    → IsTrue more ↔ ((room ≡ 0) × (0 < length bytes))
told room true bytes none some end = (λ t. (none, some refl), λ h. refl)
told room false bytes none some end = (λ t. cc, λ h. absurd (omega (arith, h.1, ap length (end refl))))

-- the same for what a call answers, where a byte that is left stands in the piece
pub told_by_piece :
    {E : Type 0} (room at filled : ℕ) (piece : List ℕ) (left file : Option (List ℕ)) (answer : Result Bool E) → room ≡ 0
    → prepend_known (drop at (take filled piece)) left ≡ file → filled ≤ length piece
    → IfOk answer (λ more. more ≡ true → at < filled) → IfOk answer (λ more. more ≡ false → IsAtEnd file)
    → IfOk answer (λ more. ForSome file (λ bytes. IsTrue more ↔ ((room ≡ 0) × (0 < length bytes))))
told_by_piece room at filled piece left file (Ok more) none is within there end =
    λ bytes file_is.
    told room more bytes none (λ t. some_left at filled piece left bytes (there t) within (is ∙ file_is))
    (λ e. subst IsAtEnd file_is (end e))
told_by_piece room at filled piece left file (Err e) none is within there end = tt

-- one that is answered to follow was read
pub follows_by_piece :
    {E : Type 0} (room at filled : ℕ) (piece : List ℕ) (answer : Result Bool E) → room ≡ 0 → filled ≤ length piece
    → IfOk answer (λ more. more ≡ true → at < filled)
    → IfOk answer (λ more. more ≡ true → (room ≡ 0) × (0 < length (drop at (take filled piece))))
follows_by_piece room at filled piece (Ok more) none within there =
    λ t. (none, omega (arith, there t, length-drop at (take filled piece), length-take-le filled piece within))
follows_by_piece room at filled piece (Err e) none within there = tt

-- the first bytes of two lists
take-over : (room : ℕ) (a b : List ℕ) → take room (a ++ b) ≡ take room a ++ take (room - length a) b
take-over zero a b = let none : zero - length a ≡ 0 = omega arith in rw none refl
take-over (suc n) [] b = let all : suc n - length {A = ℕ} [] ≡ suc n = omega arith in rw all refl
take-over (suc n) (x ∷ a) b =
    let one : suc n - length (x ∷ a) ≡ n - length a = omega arith in
    rw one (ap (λ (l : List ℕ). x ∷ l) (take-over n a b))

-- the first bytes are taken in two steps
taken_in_two :
    (room count : ℕ) (a b : List ℕ) → count ≤ length (take room a)
    → take room (a ++ b) ≡ take count (take room a) ++ take (room - count) (drop count a ++ b)
taken_in_two room zero a b within = let all : room - zero ≡ room = omega arith in rw all refl
taken_in_two zero (suc n) a b within = absurd (omega arith)
taken_in_two (suc r) (suc n) [] b within = absurd (omega arith)
taken_in_two (suc r) (suc n) (x ∷ a) b within =
    let one : suc r - suc n ≡ r - n = omega arith in
    rw one (ap (λ (l : List ℕ). x ∷ l) (taken_in_two r n a b (omega arith)))

dropped_in_two :
    (room count : ℕ) (a b : List ℕ) → count ≤ length (take room a)
    → drop (room - count) (drop count a ++ b) ≡ drop room (a ++ b)
dropped_in_two room zero a b within = let all : room - zero ≡ room = omega arith in rw all refl
dropped_in_two zero (suc n) a b within = absurd (omega arith)
dropped_in_two (suc r) (suc n) [] b within = absurd (omega arith)
dropped_in_two (suc r) (suc n) (x ∷ a) b within =
    let one : suc r - suc n ≡ r - n = omega arith in rw one (dropped_in_two r n a b (omega arith))

-- the bytes at hand are the next ones
pub hand_first :
    (room : ℕ) (hand : List ℕ) (left : Option (List ℕ))
    → (rest : Option (List ℕ))
    × (option_map (take room) (prepend_known hand left) ≡ prepend_known (take room hand) rest)
hand_first room hand None = (None, refl)
hand_first room hand (Some more) = (Some (take (room - length hand) more), ap Some (take-over room hand more))

-- where some of them are taken, the others and those behind them are left
pub hand_taken :
    (room count at filled : ℕ) (piece : List ℕ) (left : Option (List ℕ))
    → count ≤ length (take room (drop at (take filled piece)))
    → option_map (take room) (prepend_known (drop at (take filled piece)) left)
    ≡ prepend_known (take count (take room (drop at (take filled piece))))
    (option_map (take (room - count)) (prepend_known (drop (at + count) (take filled piece)) left))
hand_taken room count at filled piece None within = refl
hand_taken room count at filled piece (Some more) within =
    rw (← drop-drop count at (take filled piece))
    (ap Some (taken_in_two room count (drop at (take filled piece)) more within))

-- and none of them was beyond the limit
pub beyond_taken :
    (room count at filled : ℕ) (piece : List ℕ) (left : Option (List ℕ))
    → count ≤ length (take room (drop at (take filled piece)))
    → option_map (drop (room - count)) (prepend_known (drop (at + count) (take filled piece)) left)
    ≡ option_map (drop room) (prepend_known (drop at (take filled piece)) left)
beyond_taken room count at filled piece None within = refl
beyond_taken room count at filled piece (Some more) within =
    rw (← drop-drop count at (take filled piece))
    (ap Some (dropped_in_two room count (drop at (take filled piece)) more within))

-- the part of the piece that was read and not given yet
pub hand_is_part :
    (at filled : ℕ) (piece : List ℕ) → at ≤ filled → take (filled - at) (drop at piece) ≡ drop at (take filled piece)
hand_is_part at filled piece ordered =
    let e : at + (filled - at) ≡ filled = omega arith in
    sym (drop-take at (filled - at) piece) ∙ ap (λ n. drop at (take n piece)) e

-- within the limit it is all at hand
pub hand_is_all :
    (room at filled : ℕ) (piece : List ℕ) → at ≤ filled → filled ≤ length piece → filled - at ≤ room
    → take (filled - at) (drop at piece) ≡ take room (drop at (take filled piece))
hand_is_all room at filled piece ordered within below =
    hand_is_part at filled piece ordered
    ∙ sym (take_all room (drop at (take filled piece))
    (omega (arith, length-drop at (take filled piece), length-take-le filled piece within)))

-- beyond it a front of it is
pub hand_is_front :
    (room at filled : ℕ) (piece : List ℕ) → at ≤ filled
    → take room (take (filled - at) (drop at piece)) ≡ take room (drop at (take filled piece))
hand_is_front room at filled piece ordered = ap (take room) (hand_is_part at filled piece ordered)

-- bytes that are those at hand are the next ones
pub front_of_hand :
    (room : ℕ) (bytes hand : List ℕ) (left : Option (List ℕ)) → bytes ≡ take room hand
    → (rest : Option (List ℕ)) × (option_map (take room) (prepend_known hand left) ≡ prepend_known bytes rest)
front_of_hand room bytes hand left is = rw is (hand_first room hand left)

-- the bytes at hand once some were taken
pub hand_behind :
    (room count at filled : ℕ) (piece : List ℕ) → count ≤ length (take room (drop at (take filled piece)))
    → take (room - count) (drop (at + count) (take filled piece)) ≡ drop count (take room (drop at (take filled piece)))
hand_behind room count at filled piece within =
    let few : count ≤ room = omega (arith, length-take room (drop at (take filled piece))) in
    let e : count + (room - count) ≡ room = omega arith in
    ap (take (room - count)) (sym (drop-drop count at (take filled piece)))
    ∙ sym (drop-take count (room - count) (drop at (take filled piece)))
    ∙ ap (λ n. drop count (take n (drop at (take filled piece)))) e

-- fewer of the first bytes are the first bytes
take_first : (n m : ℕ) (bytes : List ℕ) → n ≤ m → take n (take m bytes) ≡ take n bytes
take_first zero m bytes few = refl
take_first (suc n) zero bytes few = absurd (omega arith)
take_first (suc n) (suc m) [] few = refl
take_first (suc n) (suc m) (b ∷ bytes) few = ap (λ (l : List ℕ). b ∷ l) (take_first n m bytes (omega arith))

-- so many of the bytes at hand are so many of the piece
pub slice_of_hand :
    (room count at filled : ℕ) (piece : List ℕ) → at ≤ filled → filled ≤ length piece
    → count ≤ length (take room (drop at (take filled piece)))
    → take count (take room (drop at (take filled piece))) ≡ take count (drop at piece)
slice_of_hand room count at filled piece ordered within few =
    let read : length (drop at (take filled piece)) ≡ filled - at = length-drop at (take filled piece)
    ∙ ap (λ n. n - at) (length-take-le filled piece within)
    in
    let taken = length-take room (drop at (take filled piece)) in
    take_first count room (drop at (take filled piece)) (omega (arith, few, taken))
    ∙ ap (take count) (sym (hand_is_part at filled piece ordered))
    ∙ take_first count (filled - at) (drop at piece) (omega (arith, few, taken, read))

-- what was read is what was given and what was not given yet: behind a byte that is given,
pub read_given :
    (at filled : ℕ) (piece given read : List ℕ) → at < filled → filled ≤ length piece
    → read ≡ given ++ drop at (take filled piece)
    → read ≡ (given ++ get_or piece at 0 ∷ []) ++ drop (at + 1) (take filled piece)
read_given at filled piece given read below within is =
    is ∙ ap (λ (l : List ℕ). given ++ l) (next_of_piece at filled piece below within)
    ∙ sym (append_assoc given (get_or piece at 0 ∷ []) (drop (at + 1) (take filled piece)))

-- and behind some of those at hand
pub read_taken :
    (room count at filled : ℕ) (piece given read : List ℕ) → count ≤ length (take room (drop at (take filled piece)))
    → read ≡ given ++ drop at (take filled piece)
    → read ≡ (given ++ take count (take room (drop at (take filled piece)))) ++ drop (at + count) (take filled piece)
read_taken room count at filled piece given read few is =
    is ∙ ap (λ (l : List ℕ). given ++ l)
    (sym (take-append-drop count (drop at (take filled piece)))
    ∙ ap (λ (l : List ℕ). l ++ drop count (drop at (take filled piece)))
    (sym (take_first count room (drop at (take filled piece))
    (omega (arith, few, length-take room (drop at (take filled piece))))))
    ∙ ap (λ (l : List ℕ). take count (take room (drop at (take filled piece))) ++ l)
    (drop-drop count at (take filled piece)))
    ∙ sym (append_assoc given (take count (take room (drop at (take filled piece))))
    (drop (at + count) (take filled piece)))

-- what was given and what may be given make up the limit: behind a byte that is given,
pub limit_given :
    (before given after : List ℕ) (b was room : ℕ) → after ≡ given ++ b ∷ [] → given ≡ before → room ≡ was → 0 < room
    → length after + (room - 1) ≡ length before + was
limit_given before given after b was room more same left some =
    omega (arith, ap length more, length-append given (b ∷ []), ap length same, left, some)

-- and behind some of those at hand
pub limit_taken :
    (given after bytes : List ℕ) (count room : ℕ) → after ≡ given ++ take count (take room bytes)
    → count ≤ length (take room bytes)
    → length after + (room - count) ≡ length given + room
limit_taken given after bytes count room more few =
    omega (
      arith,
      ap length more,
      length-append given (take count (take room bytes)),
      length-take-le count (take room bytes) few,
      few,
      length-take room bytes,
    )
