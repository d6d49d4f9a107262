-- The places of a proof after each change of its path.
use Rattle.std.proofs.Common.{get_or, ◌≡◌, ℕ, ◌+◌, ◌<◌, ◌≤◌, ◌-◌, List, [], ◌∷◌, ◌++◌, length, take, drop, map, reverse}
use Rattle.std.proofs.Common.{Option, Some, None, true, false, arith, refl, sym, ◌∙◌, ap, subst, append_assoc, zero}
use Rattle.std.proofs.Common.{suc}
use Rattle.std.specs.Prelude.{slice_get, MatchOption}
use Rattle.std.proofs.lemmas.List.{reverse-append, map-append, take-take, take-append-le, take_at, drop-append-le}
use Rattle.std.proofs.lemmas.List.{drop-take, length-append, length-take-le, drop_at, length-drop, length-map}
use Rattle.std.proofs.lemmas.List.{length-reverse, reverse-reverse, take-append-drop}
use Rattle.std.proofs.Math.Seq.{take-length}
use Rattle.std.proofs.lemmas.Option.{slice_get_read, slice_get_within, slice_get-get_or}
use Rattle.diff_graph.specs.declared.lit.Lit.{Lit}
use Rattle.diff_graph.specs.Literals.{answered_of}
use Rattle.open_places.specs.declared.places.At.{At}
use Rattle.open_places.specs.declared.places.At.TheVariants as at
use Rattle.open_places.specs.declared.places.Known.{Known}
use Rattle.open_places.specs.declared.places.WaitingPlace.{WaitingPlace}
use Rattle.open_places.specs.declared.places.WaitingPlace.TheVariants as waiting
use Rattle.open_places.specs.Parts.{AreCycles, cycle_part, without_cycles}
use Rattle.open_places.specs.Places.{WantedAt, Tree, OpenProof, first_list, settled_at, closed, asked, begun, cited}
use Rattle.open_places.specs.Places.{cycles_at, literals_at, place_at, behind, AreNestedParts, open_proof, IsOpenPath}

-- a list, cut before its last element
pushed_at :
    {X : Type 0} (xs : List X) (x : X) (n : ℕ) → suc n ≡ length xs → slice_get xs n ≡ Some x → xs ≡ take n xs ++ x ∷ []
pushed_at [] x n long found = absurd (omega (arith, long))
pushed_at (y ∷ []) x zero long found = let same : y ≡ x = cc in ap (λ (z : _). z ∷ []) same
pushed_at (y ∷ z ∷ xs) x zero long found = absurd (omega (arith, long))
pushed_at (y ∷ xs) x (suc n) long found = ap (λ (u : List _). y ∷ u) (pushed_at xs x n (omega (arith, long)) found)

pub last_part :
    {X : Type 0} (xs : List X) (last : Option X) → last ≡ slice_get xs (length xs - 1)
    → MatchOption last (xs ≡ []) (λ x. xs ≡ take (length xs - 1) xs ++ x ∷ [])
last_part [] None none = refl
last_part (x ∷ xs) None none =
    let some = slice_get-get_or (x ∷ xs) (length (x ∷ xs) - 1) x (omega arith) in absurd (cc)
last_part xs (Some x) found =
    let within : length xs - 1 < length xs = slice_get_within xs (length xs - 1) x (sym found) in
    pushed_at xs x (length xs - 1) (omega (arith, within)) (sym found)

-- the same, of a list from which the last element was taken
pub popped :
    {X : Type 0} (xs rest : List X) (x : X) (n : ℕ) → n ≡ length xs → xs ≡ take (length xs - 1) xs ++ x ∷ []
    → rest ≡ take (n - 1) xs → xs ≡ rest ++ x ∷ []
popped xs rest x n long whole cut =
    let front : rest ≡ take (length xs - 1) xs = subst (λ (m : ℕ). rest ≡ take (m - 1) xs) long cut in
    whole ∙ ap (λ (u : List _). u ++ x ∷ []) (sym front)

-- the last elements are the first from behind
reverse-take : {X : Type 0} (xs : List X) (n : ℕ) → n ≤ length xs
    → reverse (take (length xs - n) xs) ≡ drop n (reverse xs)
reverse-take xs n few =
    let front : ℕ = length xs - n in
    let whole : reverse xs ≡ reverse (drop front xs) ++ reverse (take front xs) =
    ap (λ (u : List _). reverse u) (sym (take-append-drop front xs)) ∙ reverse-append (take front xs) (drop front xs) in
    let long : length (reverse (drop front xs)) ≡ n =
    length-reverse (drop front xs) ∙ length-drop front xs ∙ omega (arith, few) in
    sym (ap (λ (u : List _). drop n u) whole ∙ drop_at (reverse (drop front xs)) (reverse (take front xs)) n long)

-- a last element is the first from behind
reverse-push : {X : Type 0} (xs : List X) (x : X) → reverse (xs ++ x ∷ []) ≡ x ∷ reverse xs
reverse-push xs x = reverse-append xs (x ∷ [])

module _ {N : Type 0} where
  -- a higher limit is kept too
  pub AreNestedParts-more :
      (base low high : ℕ) (parts : List (WaitingPlace N)) → low ≤ high → AreNestedParts base low parts
      → AreNestedParts base high parts
  AreNestedParts-more base low high [] less nested = tt
  AreNestedParts-more base low high (waiting.Place place depth answer ∷ parts) less nested =
      (nested.0, omega (arith, nested.1), nested.2)
  AreNestedParts-more base low high (waiting.Lemma n below count ∷ parts) less nested =
      (nested.0, omega (arith, nested.1), nested.2)

  -- parts that wait see the shared literals alone
  behind-same :
      (base limit : ℕ) (u w : List Lit) (parts : List (WaitingPlace N)) → ((k : ℕ) → k ≤ limit → take k u ≡ take k w)
      → AreNestedParts base limit parts → behind base u parts ≡ behind base w parts
  behind-same base limit u w [] same nested = refl
  behind-same base limit u w (waiting.Place place depth answer ∷ parts) same nested =
      let here : take depth u ≡ take depth w = same depth nested.1 in
      let later : behind base u parts ≡ behind base w parts =
      behind-same base depth u w parts (λ k below. same k (omega (arith, nested.1))) nested.2 in
      rw (here, later) refl
  behind-same base limit u w (waiting.Lemma n below count ∷ parts) same nested =
      let whole : take (base + count) u ≡ take (base + count) w = same (base + count) nested.1 in
      let literals : take count (drop base u) ≡ take count (drop base w) =
      sym (drop-take base count u) ∙ ap (λ (x : List Lit). drop base x) whole ∙ drop-take base count w in
      let list : take base u ≡ take base w = same base (omega (arith, nested.1)) in
      let later : behind below u parts ≡ behind below w parts =
      behind-same below base u w parts (λ k less. same k (omega (arith, nested.1))) nested.2 in
      rw (literals, list, later) refl

  literals_found :
      (known : List (Known N)) (number : ℕ) (k : Known N) → slice_get known number ≡ Some k
      → k.literals ≡ literals_at known number
  literals_found [] number k found = absurd (cc)
  literals_found (x ∷ known) zero k found = let same : x ≡ k = cc in ap (λ (y : Known N). y.literals) (sym same)
  literals_found (x ∷ known) (suc number) k found = literals_found known number k found

  first_list-place_at : (place : At N) (w : List Lit) (wanted : List (WantedAt N))
      → first_list (place_at place w ∷ wanted) ≡ w
  first_list-place_at (at.Tree n) w wanted = refl
  first_list-place_at at.Cycle w wanted = refl

  settled_at-place_at :
      (known : List (Known N)) (place : At N) (w : List Lit) (wanted : List (WantedAt N))
      → settled_at known (place_at place w ∷ wanted) ≡ record { known = known; wanted = place_at place w ∷ wanted }
  settled_at-place_at known (at.Tree n) w wanted = refl
  settled_at-place_at known at.Cycle w wanted = refl

  -- one literal more
  pub longer_path :
      (base : ℕ) (list u : List Lit) (l : Lit) (parts : List (WaitingPlace N)) → IsOpenPath base list parts
      → u ≡ list ++ l ∷ [] → IsOpenPath base u parts
  longer_path base list u l parts path longer =
      let more : length u ≡ length list + 1 = rw (longer, length-append) refl in
      record {
        within = omega (arith, more, path.within);
        nested = AreNestedParts-more base (length list) (length u) (reverse parts) (omega (arith, more)) path.nested;
      }

  -- the innermost part that waits is taken out
  pub shorter_path :
      (base : ℕ) (list : List Lit) (parts rest : List (WaitingPlace N)) (place : At N) (depth : ℕ) (answer : Lit)
      → IsOpenPath base list parts → parts ≡ rest ++ waiting.Place place depth answer ∷ []
      → IsOpenPath base (take depth list) rest
  shorter_path base list parts rest place depth answer path same =
      let nested = rw (same, reverse-push) at path.nested in
      let long : length (take depth list) ≡ depth = length-take-le depth list nested.1 in
      record {
        within = omega (arith, long, nested.0);
        nested =
            AreNestedParts-more base depth (length (take depth list)) (reverse rest) (omega (arith, long)) nested.2;
      }

  -- the path around a lemma has the list as it was when the lemma began
  pub outer_path :
      (base : ℕ) (list : List Lit) (parts rest : List (WaitingPlace N)) (n : N) (below count : ℕ)
      → IsOpenPath base list parts → parts ≡ rest ++ waiting.Lemma n below count ∷ []
      → IsOpenPath below (take base list) rest
  outer_path base list parts rest n below count path same =
      let nested = rw (same, reverse-push) at path.nested in
      let long : length (take base list) ≡ base = length-take-le base list (omega (arith, nested.1)) in
      record {
        within = omega (arith, long, nested.0);
        nested = AreNestedParts-more below base (length (take base list)) (reverse rest) (omega (arith, long)) nested.2;
      }

  -- a lemma's literals more, and its place waits
  pub lemma_path :
      (base : ℕ) (list u : List Lit) (ls : List Lit) (parts later : List (WaitingPlace N)) (n : N)
      → IsOpenPath base list parts
      → u ≡ list ++ ls → later ≡ parts ++ waiting.Lemma n base (length ls) ∷ [] → IsOpenPath (length list) u later
  lemma_path base list u ls parts later n path longer deeper =
      let more : length u ≡ length list + length ls = rw (longer, length-append) refl in
      record {
        within = omega (arith, more);
        nested = rw (deeper, reverse-push) (path.within, omega (arith, more), path.nested);
      }

  pub appended_path :
      (base : ℕ) (list u : List Lit) (ls : List Lit) (parts : List (WaitingPlace N)) → IsOpenPath base list parts
      → u ≡ list ++ ls → IsOpenPath base u parts
  appended_path base list u ls parts path longer =
      let more : length u ≡ length list + length ls = rw (longer, length-append) refl in
      record {
        within = omega (arith, more, path.within);
        nested = AreNestedParts-more base (length list) (length u) (reverse parts) (omega (arith, more)) path.nested;
      }

  -- a lemma is begun: its tree is wanted after its own literals, and the place where it was begun waits
  pub begun_places :
      (known : List (Known N)) (current : Option (At N)) (base : ℕ) (list u ls : List Lit)
      (parts later : List (WaitingPlace N)) (n : N) (p : OpenProof N)
      → open_proof known current base list parts ≡ p → 0 < length p.wanted → IsOpenPath base list parts
      → u ≡ list ++ ls → later ≡ parts ++ waiting.Lemma n base (length ls) ∷ []
      → record { known = known; wanted = Tree n (drop (length list) u) ∷ behind (length list) u (reverse later) }
      ≡ begun n ls p
  begun_places known None base list u ls parts later n p shown opened path longer deeper =
      absurd (omega (arith, opened, ap (λ (x : OpenProof N). length x.wanted) shown))
  begun_places known (Some place) base list u ls parts later n p shown opened path longer deeper =
      let own : drop (length list) (list ++ ls) ≡ ls = drop_at list ls (length list) refl in
      let whole : take (length ls) ls ≡ ls = take-length ls in
      let full : take (length list) (list ++ ls) ≡ list = take_at list ls (length list) refl in
      let others : behind base (list ++ ls) (reverse parts) ≡ behind base list (reverse parts) =
      behind-same base (length list) (list ++ ls) list (reverse parts)
      (λ k below. take-append-le k list ls below) path.nested in
      rw (longer, deeper, ← shown, reverse-push, own, whole, full, others, first_list-place_at) refl

  -- a question puts the part for yes first and the part for no second
  pub asked_places :
      (known : List (Known N)) (current : Option (At N)) (base : ℕ) (list u : List Lit)
      (parts later : List (WaitingPlace N)) (l : Lit) (on_yes on_no : N) (p : OpenProof N)
      → open_proof known current base list parts ≡ p → 0 < length p.wanted → IsOpenPath base list parts
      → u ≡ list ++ answered_of l true ∷ []
      → later ≡ parts ++ waiting.Place (at.Tree on_no) (length list) (answered_of l false) ∷ []
      → record { known = known; wanted = Tree on_yes (drop base u) ∷ behind base u (reverse later) }
      ≡ asked l on_yes on_no p
  asked_places known None base list u parts later l on_yes on_no p shown opened path longer deeper =
      absurd (omega (arith, opened, ap (λ (x : OpenProof N). length x.wanted) shown))
  asked_places known (Some place) base list u parts later l on_yes on_no p shown opened path longer deeper =
      let here : drop base (list ++ answered_of l true ∷ []) ≡ drop base list ++ answered_of l true ∷ [] =
      drop-append-le base list (answered_of l true ∷ []) path.within in
      let full : take (length list) (list ++ answered_of l true ∷ []) ≡ list =
      take_at list (answered_of l true ∷ []) (length list) refl in
      let others : behind base (list ++ answered_of l true ∷ []) (reverse parts) ≡ behind base list (reverse parts) =
      behind-same base (length list) (list ++ answered_of l true ∷ []) list (reverse parts)
      (λ k below. take-append-le k list (answered_of l true ∷ []) below ∙ refl) path.nested in
      rw (longer, deeper, ← shown, reverse-push, here, full, others, first_list-place_at) refl

  -- the part for no is first where that for yes is closed at once
  pub denied_places :
      (known : List (Known N)) (current : Option (At N)) (base : ℕ) (list u : List Lit) (parts : List (WaitingPlace N))
      (l : Lit) (on_yes on_no : N) (p : OpenProof N)
      → open_proof known current base list parts ≡ p → 0 < length p.wanted → IsOpenPath base list parts
      → u ≡ list ++ answered_of l false ∷ []
      → record { known = known; wanted = Tree on_no (drop base u) ∷ behind base u (reverse parts) }
      ≡ closed (asked l on_yes on_no p)
  denied_places known None base list u parts l on_yes on_no p shown opened path longer =
      absurd (omega (arith, opened, ap (λ (x : OpenProof N). length x.wanted) shown))
  denied_places known (Some place) base list u parts l on_yes on_no p shown opened path longer =
      let here : drop base (list ++ answered_of l false ∷ []) ≡ drop base list ++ answered_of l false ∷ [] =
      drop-append-le base list (answered_of l false ∷ []) path.within in
      let others : behind base (list ++ answered_of l false ∷ []) (reverse parts) ≡ behind base list (reverse parts) =
      behind-same base (length list) (list ++ answered_of l false ∷ []) list (reverse parts)
      (λ k below. take-append-le k list (answered_of l false ∷ []) below) path.nested in
      rw (longer, ← shown, here, others, first_list-place_at) refl

  -- where nothing waits, nothing is wanted any more
  pub closed_last :
      (known : List (Known N)) (current : Option (At N)) (base : ℕ) (list : List Lit)
      (parts : List (WaitingPlace N)) (p : OpenProof N)
      → open_proof known current base list parts ≡ p → parts ≡ [] → record { known = known; wanted = [] } ≡ closed p
  closed_last known None base list parts p shown none = rw (← shown) refl
  closed_last known (Some place) base list parts p shown none = rw (← shown, none) refl

  -- the literals of a lemma are in the list
  pub lemma_inside :
      (base : ℕ) (list : List Lit) (parts rest : List (WaitingPlace N)) (n : N) (below count : ℕ)
      → IsOpenPath base list parts → parts ≡ rest ++ waiting.Lemma n below count ∷ [] → base + count ≤ length list
  lemma_inside base list parts rest n below count path same =
      let nested = rw (same, reverse-push) at path.nested in nested.1

  -- the innermost part that waits is next
  pub closed_places :
      (known : List (Known N)) (current : Option (At N)) (base : ℕ) (list u : List Lit)
      (parts rest : List (WaitingPlace N)) (place : At N) (depth : ℕ) (answer : Lit) (p : OpenProof N)
      → open_proof known current base list parts ≡ p → 0 < length p.wanted → IsOpenPath base list parts
      → parts ≡ rest ++ waiting.Place place depth answer ∷ [] → u ≡ take depth list ++ answer ∷ []
      → record { known = known; wanted = place_at place (drop base u) ∷ behind base u (reverse rest) } ≡ closed p
  closed_places known None base list u parts rest place depth answer p shown opened path same next =
      absurd (omega (arith, opened, ap (λ (x : OpenProof N). length x.wanted) shown))
  closed_places known (Some first) base list u parts rest place depth answer p shown opened path same next =
      let nested = rw (same, reverse-push) at path.nested in
      let long : length (take depth list) ≡ depth = length-take-le depth list nested.1 in
      let here : drop base (take depth list ++ answer ∷ []) ≡ drop base (take depth list) ++ answer ∷ [] =
      drop-append-le base (take depth list) (answer ∷ []) (omega (arith, long, nested.0)) in
      let others : behind base (take depth list ++ answer ∷ []) (reverse rest) ≡ behind base list (reverse rest) =
      behind-same base depth (take depth list ++ answer ∷ []) list (reverse rest)
      (λ k below. take-append-le k (take depth list) (answer ∷ []) (omega (arith, long))
      ∙ take-take k depth list below) nested.2 in
      rw (next, ← shown, same, reverse-push, here, others, settled_at-place_at) refl

  -- a lemma whose tree has ended is known, and its place is next
  pub learned_places :
      (known later : List (Known N)) (current : Option (At N)) (base : ℕ) (list u : List Lit)
      (parts rest : List (WaitingPlace N)) (n : N) (below count : ℕ) (p : OpenProof N)
      → open_proof known current base list parts ≡ p → 0 < length p.wanted → IsOpenPath base list parts
      → parts ≡ rest ++ waiting.Lemma n below count ∷ [] → u ≡ take base list
      → later ≡ known ++ record { node = n; literals = take count (drop base list) } ∷ []
      → record { known = later; wanted = Tree n (drop below u) ∷ behind below u (reverse rest) } ≡ closed p
  learned_places known later None base list u parts rest n below count p shown opened path same next more =
      absurd (omega (arith, opened, ap (λ (x : OpenProof N). length x.wanted) shown))
  learned_places known later (Some first) base list u parts rest n below count p shown opened path same next more =
      let nested = rw (same, reverse-push) at path.nested in
      let others : behind below (take base list) (reverse rest) ≡ behind below list (reverse rest) =
      behind-same below base (take base list) list (reverse rest) (λ k less. take-take k base list less) nested.2 in
      rw (next, more, ← shown, same, reverse-push, others) refl

  -- parts that wait for cycles of the present list
  cycle_parts_nested :
      (base limit : ℕ) (ls : List Lit) (parts : List (WaitingPlace N)) → base ≤ limit → AreNestedParts base limit parts
      → AreNestedParts base limit (map (cycle_part limit) ls ++ parts)
  cycle_parts_nested base limit [] parts within nested = nested
  cycle_parts_nested base limit (l ∷ ls) parts within nested =
      (within, omega arith, cycle_parts_nested base limit ls parts within nested)

  cycle_parts_behind :
      (base : ℕ) (list ls : List Lit) (parts : List (WaitingPlace N))
      → behind base list (map (cycle_part (length list)) ls ++ parts)
      ≡ cycles_at (drop base list) ls ++ behind base list parts
  cycle_parts_behind base list [] parts = refl
  cycle_parts_behind base list (l ∷ ls) parts =
      let whole : take (length list) list ≡ list = take-length list in
      rw (whole, cycle_parts_behind base list ls parts) refl

  pub cycles_path :
      (base : ℕ) (list ls : List Lit) (parts later : List (WaitingPlace N)) → IsOpenPath base list parts
      → reverse later ≡ map (cycle_part (length list)) ls ++ reverse parts → IsOpenPath base list later
  cycles_path base list ls parts later path same =
      record {
        within = path.within;
        nested = rw same (cycle_parts_nested base (length list) ls (reverse parts) path.within path.nested);
      }

  -- what is wanted where cycles for literals wait behind the first place
  pub cycles_wait :
      (known : List (Known N)) (current : Option (At N)) (base : ℕ) (list ls : List Lit)
      (parts later : List (WaitingPlace N)) (p : OpenProof N)
      → open_proof known current base list parts ≡ p → 0 < length p.wanted
      → reverse later ≡ map (cycle_part (length list)) ls ++ reverse parts
      → (0 < length (open_proof known current base list later).wanted)
      × (closed (open_proof known current base list later) ≡ cited ls p)
  cycles_wait known None base list ls parts later p shown opened same =
      absurd (omega (arith, opened, ap (λ (x : OpenProof N). length x.wanted) shown))
  cycles_wait known (Some place) base list ls parts later p shown opened same =
      (omega arith, rw (← shown, same, cycle_parts_behind, first_list-place_at) refl)

  -- the cycles of two lists wait behind one another
  pub cycles_joined :
      (depth : ℕ) (ls es : List Lit) (parts between later : List (WaitingPlace N))
      → reverse later ≡ map (cycle_part depth) ls ++ reverse between
      → reverse between ≡ map (cycle_part depth) es ++ reverse parts
      → reverse later ≡ map (cycle_part depth) (ls ++ es) ++ reverse parts
  cycles_joined depth ls es parts between later second first =
      rw (second, first, map-append, append_assoc) refl

  -- how many parts wait then, and what waited before
  pub cycles_more :
      (depth : ℕ) (ls : List Lit) (parts later : List (WaitingPlace N))
      → reverse later ≡ map (cycle_part depth) ls ++ reverse parts → length later ≡ length ls + length parts
  cycles_more depth ls parts later same =
      sym (length-reverse later) ∙ ap (λ (x : List (WaitingPlace N)). length x) same
      ∙ rw (length-append, length-map, length-reverse) refl

  pub cycles_cut :
      (depth : ℕ) (ls : List Lit) (parts later : List (WaitingPlace N))
      → reverse later ≡ map (cycle_part depth) ls ++ reverse parts → take (length parts) later ≡ parts
  cycles_cut depth ls parts later same =
      let whole : later ≡ parts ++ reverse (map (cycle_part depth) ls) =
      sym (reverse-reverse later) ∙ ap (λ (x : List (WaitingPlace N)). reverse x) same
      ∙ reverse-append (map (cycle_part depth) ls) (reverse parts)
      ∙ ap (λ (x : List (WaitingPlace N)). x ++ reverse (map (cycle_part depth) ls)) (reverse-reverse parts) in
      ap (λ (x : List (WaitingPlace N)). take (length parts) x) whole
      ∙ take_at parts (reverse (map (cycle_part depth) ls)) (length parts) refl

  -- wanted cycles, and what is wanted behind them
  cycles_at_cut :
      (w ls : List Lit) (wanted : List (WantedAt N))
      → AreCycles (length ls) (cycles_at w ls ++ wanted) × (drop (length ls) (cycles_at w ls ++ wanted) ≡ wanted)
  cycles_at_cut w [] wanted = (tt, refl)
  cycles_at_cut w (l ∷ ls) wanted = cycles_at_cut w ls wanted

  -- cycles that wait innermost, one for each literal, are wanted next, and without them all is as before
  pub cycles_waiting :
      (known : List (Known N)) (current : Option (At N)) (base : ℕ) (list ls : List Lit)
      (parts later : List (WaitingPlace N)) (p : OpenProof N)
      → open_proof known current base list parts ≡ p → 0 < length p.wanted
      → reverse later ≡ map (cycle_part (length list)) ls ++ reverse parts
      → AreCycles (length ls) (drop 1 (open_proof known current base list later).wanted)
      × (without_cycles (length ls) (open_proof known current base list later) ≡ p)
  cycles_waiting known None base list ls parts later p shown opened same =
      absurd (omega (arith, opened, ap (λ (x : OpenProof N). length x.wanted) shown))
  cycles_waiting known (Some place) base list ls parts later p shown opened same =
      let waits : behind base list (reverse later) ≡ cycles_at (drop base list) ls ++ behind base list (reverse parts) =
      ap (λ (x : List (WaitingPlace N)). behind base list x) same ∙ cycle_parts_behind base list ls (reverse parts) in
      let cut = cycles_at_cut (drop base list) ls (behind base list (reverse parts)) in
      (rw waits cut.0, rw (waits, cut.1, ← shown) refl)

  -- parts that wait for cycles are forgotten
  cycles_dropped :
      (base limit count : ℕ) (list : List Lit) (parts : List (WaitingPlace N))
      → AreCycles count (behind base list parts)
      → AreNestedParts base limit parts
      → (count ≤ length parts) × (behind base list (drop count parts) ≡ drop count (behind base list parts))
      × AreNestedParts base limit (drop count parts)
  cycles_dropped base limit zero list parts cycles nested = (omega arith, refl, nested)
  cycles_dropped base limit (suc count) list [] cycles nested = absurd cycles
  cycles_dropped base limit (suc count) list (waiting.Place (at.Tree n) depth answer ∷ parts) cycles nested =
      absurd cycles
  cycles_dropped base limit (suc count) list (waiting.Place at.Cycle depth answer ∷ parts) cycles nested =
      let later = cycles_dropped base limit count list parts cycles
      (AreNestedParts-more base depth limit parts nested.1 nested.2) in
      (omega (arith, later.0), later.1, later.2)
  cycles_dropped base limit (suc count) list (waiting.Lemma n below size ∷ parts) cycles nested = absurd cycles

  -- innermost parts that wait for cycles may be forgotten: without them the path has the other places
  pub forgotten_places :
      (known : List (Known N)) (current : Option (At N)) (base : ℕ) (list : List Lit) (parts : List (WaitingPlace N))
      (count : ℕ) (p : OpenProof N)
      → open_proof known current base list parts ≡ p → AreCycles count (drop 1 p.wanted) → IsOpenPath base list parts
      → (count ≤ length parts)
      × (open_proof known current base list (take (length parts - count) parts) ≡ without_cycles count p)
      × IsOpenPath base list (take (length parts - count) parts)
  forgotten_places known current base list parts count p shown cycles path =
      let first = subst (λ (x : OpenProof N). AreCycles count (drop 1 x.wanted)) (sym shown) cycles in
      let all = by_place current count first in
      (all.0, all.1 ∙ ap (λ (x : OpenProof N). without_cycles count x) shown, all.2)
    where
      by_place :
          (place : Option (At N)) (n : ℕ) → AreCycles n (drop 1 (open_proof known place base list parts).wanted)
          → (n ≤ length parts)
          × (open_proof known place base list (take (length parts - n) parts)
          ≡ without_cycles n (open_proof known place base list parts))
          × IsOpenPath base list (take (length parts - n) parts)
      by_place None zero none =
          let all : take (length parts - 0) parts ≡ parts =
          ap (λ (n : ℕ). take n parts) (omega arith) ∙ take-length parts in
          (omega arith, refl, subst (λ (x : List (WaitingPlace N)). IsOpenPath base list x) (sym all) path)
      by_place None (suc n) none = absurd none
      by_place (Some place) n first =
          let cut = cycles_dropped base (length list) n list (reverse parts) first path.nested in
          let few : n ≤ length parts = omega (arith, cut.0, length-reverse parts) in
          let back : reverse (take (length parts - n) parts) ≡ drop n (reverse parts) = reverse-take parts n few in
          (few, rw (back, cut.1) refl, record { within = path.within; nested = rw back cut.2 })

  -- the literals of a lemma that is known
  known_places :
      (known : List (Known N)) (current : Option (At N)) (base : ℕ) (list : List Lit) (parts : List (WaitingPlace N))
      → (open_proof known current base list parts).known ≡ known
  known_places known None base list parts = refl
  known_places known (Some place) base list parts = refl

  pub literals_known :
      (known : List (Known N)) (current : Option (At N)) (base : ℕ) (list : List Lit) (parts : List (WaitingPlace N))
      (p : OpenProof N) (number : ℕ) (k : Known N) → open_proof known current base list parts ≡ p
      → number < length p.known → k ≡ get_or known number k → k.literals ≡ literals_at p.known number
  literals_known known current base list parts p number k shown few read =
      let same : known ≡ p.known = sym (known_places known current base list parts)
      ∙ ap (λ (x : OpenProof N). x.known) shown in
      let less : number < length known = omega (arith, few, ap (λ (x : List (Known N)). length x) same) in
      let found : k.literals ≡ literals_at known number =
      literals_found known number k (slice_get_read known (length known) number k refl less read) in
      subst (λ (x : List (Known N)). k.literals ≡ literals_at x number) same found
