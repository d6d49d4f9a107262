-- The places of a path after a question and after a close.
use Rattle.std.proofs.Common.{◌≡◌, ℕ, ◌+◌, ◌<◌, ◌≤◌, List, [], ◌∷◌, ◌++◌, length, take, drop, set, map, reverse, Option}
use Rattle.std.proofs.Common.{Some, None, true, false, arith, refl, ◌∙◌, ap}
use Rattle.std.proofs.lemmas.List.{reverse-append, length-append, take-take, take-append-le, take_at, take-set-le}
use Rattle.std.proofs.lemmas.List.{take_more_set, length-set, length-take}
use Rattle.diff_graph.specs.declared.lit.Lit.{Lit}
use Rattle.diff_graph.specs.Literals.{answered_of}
use Rattle.ask_core.specs.declared.path.Waiting.{Waiting}
use Rattle.ask_core.specs.Paths.{OpenPlace, places_of, waiting_place, after_question, IsNested}

-- a last element is the first from behind
reverse-push : {X : Type 0} (xs : List X) (x : X) → reverse (xs ++ x ∷ []) ≡ x ∷ reverse xs
reverse-push xs x = reverse-append xs (x ∷ [])

-- a higher limit is kept too
pub IsNested-more :
    {N : Type 0} (low high : ℕ) (waiting : List (Waiting N))
    → low ≤ high → IsNested low waiting → IsNested high waiting
IsNested-more low high [] less nested = tt
IsNested-more low high (x ∷ waiting) less nested = (omega (arith, nested.0), nested.1)

-- parts that wait see the shared answers alone
waiting_places-same :
    {N : Type 0} (limit : ℕ) (u w : List Lit) (waiting : List (Waiting N))
    → ((k : ℕ) → k ≤ limit → take k u ≡ take k w) → IsNested limit waiting
    → map (waiting_place u) waiting ≡ map (waiting_place w) waiting
waiting_places-same limit u w [] same nested = refl
waiting_places-same limit u w (x ∷ waiting) same nested =
    let here : take x.depth u ≡ take x.depth w = same x.depth (omega (arith, nested.0)) in
    let later : map (waiting_place u) waiting ≡ map (waiting_place w) waiting =
    waiting_places-same x.depth u w waiting (λ k below. same k (omega (arith, nested.0))) nested.1
    in
    cc

-- a question puts the part for yes first and the part for no second
pub places_of-question :
    {N : Type 0} (current : Option N) (on_yes on_no : N) (l : Lit) (w : List Lit) (waiting : List (Waiting N))
    → 0 < length (places_of current w waiting) → IsNested (length w) (reverse waiting)
    → places_of (Some on_yes) (w ++ answered_of l true ∷ [])
    (waiting ++ record { node = on_no; depth = length w; answer = answered_of l false } ∷ [])
    ≡ after_question l on_yes on_no (places_of current w waiting)
places_of-question None on_yes on_no l w waiting opened nested = absurd (omega arith)
places_of-question (Some n) on_yes on_no l w waiting opened nested =
    rw reverse-push
    (let here : take (length w) (w ++ answered_of l true ∷ []) ≡ w =
    take_at w (answered_of l true ∷ []) (length w) refl in
    let later =
    waiting_places-same (length w) (w ++ answered_of l true ∷ []) w (reverse waiting)
    (λ k below. take-append-le k w (answered_of l true ∷ []) below) nested in
    cc)

-- a question whose part for yes is closed puts the part for no first
pub answered_no :
    {N : Type 0} (current : Option N) (on_yes on_no : N) (l : Lit) (w u : List Lit) (waiting : List (Waiting N))
    (places : List (OpenPlace N)) → places_of current w waiting ≡ places → 0 < length places
    → IsNested (length w) (reverse waiting)
    → u ≡ w ++ answered_of l false ∷ []
    → places_of (Some on_no) u waiting ≡ drop 1 (after_question l on_yes on_no places)
answered_no None on_yes on_no l w u waiting places shown opened nested longer =
    absurd (omega (arith, ap length shown))
answered_no (Some n) on_yes on_no l w u waiting places shown opened nested longer =
    let later =
    waiting_places-same (length w) (w ++ answered_of l false ∷ []) w (reverse waiting)
    (λ k below. take-append-le k w (answered_of l false ∷ []) below) nested in
    rw (longer, ← shown, later) refl

-- a longer path still nests what waits
pub IsNested-longer :
    {N : Type 0} (w u : List Lit) (l : Lit) (waiting : List (Waiting N)) → IsNested (length w) waiting → u ≡ w ++ l ∷ []
    → IsNested (length u) waiting
IsNested-longer w u l waiting nested longer =
    IsNested-more (length w) (length u) waiting (rw (longer, length-append w (l ∷ [])) (omega arith)) nested

-- where the innermost part that waits is next, the others still share fewer answers
pub IsNested-close :
    {N : Type 0} (w : List Lit) (waiting rest : List (Waiting N)) (x : Waiting N)
    → waiting ≡ rest ++ x ∷ [] → IsNested (length w) (reverse waiting)
    → (x.depth < length w) × IsNested x.depth (reverse rest)
IsNested-close w waiting rest x same nested = rw (same, reverse-push) at nested

-- where the open place is closed, the innermost part that waits is next, and the others stay
pub places_of-close :
    {N : Type 0} (current : Option N) (w : List Lit) (waiting rest : List (Waiting N)) (x : Waiting N)
    → 0 < length (places_of current w waiting) → waiting ≡ rest ++ x ∷ []
    → IsNested (length w) (reverse waiting)
    → places_of (Some x.node) (take (x.depth + 1) (set w x.depth x.answer)) rest ≡ drop 1 (places_of current w waiting)
places_of-close None w waiting rest x opened same nested = absurd (omega arith)
places_of-close (Some n) w waiting rest x opened same nested =
    let parts = IsNested-close w waiting rest x same nested in
    let here : take (x.depth + 1) (set w x.depth x.answer) ≡ take x.depth w ++ x.answer ∷ [] =
    take_more_set w x.depth x.answer parts.0 in
    let later : map (waiting_place (take (x.depth + 1) (set w x.depth x.answer))) (reverse rest)
    ≡ map (waiting_place w) (reverse rest) =
    waiting_places-same x.depth (take (x.depth + 1) (set w x.depth x.answer)) w (reverse rest)
    (λ k below. take-take k (x.depth + 1) (set w x.depth x.answer) (omega arith)
    ∙ take-set-le k w x.depth x.answer below) parts.1
    in
    let shown : reverse waiting ≡ x ∷ reverse rest = rw same (reverse-push rest x) in
    rw (shown, later, here)

-- the same, the new vectors and the places being given by equations
pub asked_places :
    {N : Type 0} (current : Option N) (on_yes on_no : N) (l : Lit) (w u : List Lit) (waiting later : List (Waiting N))
    (places : List (OpenPlace N))
    → places_of current w waiting ≡ places → 0 < length places → IsNested (length w) (reverse waiting)
    → u ≡ w ++ answered_of l true ∷ []
    → later ≡ waiting ++ record { node = on_no; depth = length w; answer = answered_of l false } ∷ []
    → places_of (Some on_yes) u later ≡ after_question l on_yes on_no places
asked_places current on_yes on_no l w u waiting later places shown opened nested longer deeper =
    let opened' : 0 < length (places_of current w waiting) = omega (arith, ap length shown) in
    let e = places_of-question current on_yes on_no l w waiting opened' nested in
    rw (longer, deeper, ← shown) e

pub closed_places :
    {N : Type 0} (current : Option N) (w u : List Lit) (waiting rest : List (Waiting N)) (x : Waiting N)
    (places : List (OpenPlace N))
    → places_of current w waiting ≡ places → 0 < length places → waiting ≡ rest ++ x ∷ []
    → IsNested (length w) (reverse waiting) → u ≡ take (x.depth + 1) (set w x.depth x.answer)
    → places_of (Some x.node) u rest ≡ drop 1 places
closed_places current w u waiting rest x places shown opened same nested shorter =
    let opened' : 0 < length (places_of current w waiting) = omega (arith, ap length shown) in
    let e = places_of-close current w waiting rest x opened' same nested in
    rw (shorter, ← shown) e

-- the answer of the innermost part that waits comes in place of one that is there
pub closed_depth :
    {N : Type 0} (w : List Lit) (waiting rest : List (Waiting N)) (x : Waiting N) (count : ℕ) → count ≡ length w
    → waiting ≡ rest ++ x ∷ [] → IsNested (length w) (reverse waiting) → x.depth < count
closed_depth w waiting rest x count counted same nested =
    omega (arith, counted, (IsNested-close w waiting rest x same nested).0)

-- where none waits, no place is left
pub closed_last :
    {N : Type 0} (current : Option N) (w : List Lit) (waiting : List (Waiting N)) (places : List (OpenPlace N))
    → places_of current w waiting ≡ places → 0 < length places → length waiting ≡ 0 → [] ≡ drop 1 places
closed_last None w waiting places shown opened none = absurd (omega (arith, ap length shown))
closed_last (Some n) w [] places shown opened none = rw (← shown) refl
closed_last (Some n) w (x ∷ waiting) places shown opened none = absurd (omega arith)

pub closed_nested :
    {N : Type 0} (w u : List Lit) (waiting rest : List (Waiting N)) (x : Waiting N)
    → waiting ≡ rest ++ x ∷ [] → IsNested (length w) (reverse waiting) → u ≡ take (x.depth + 1) (set w x.depth x.answer)
    → IsNested (length u) (reverse rest)
closed_nested w u waiting rest x same nested shorter =
    let parts = IsNested-close w waiting rest x same nested in
    let long : length u ≡ x.depth + 1 = rw (shorter, length-take, length-set) (omega (arith, parts.0)) in
    IsNested-more x.depth (length u) (reverse rest) (omega (arith, long)) parts.1
