-- The open places of an asker whose nodes keep their plans.
use Rattle.std.proofs.Common.{◌≡◌, List, [], ◌∷◌, Some, refl, ap, subst, slice_get}
use Rattle.std.specs.Option.{option_map}
use Rattle.ask_core.specs.Plans.{Plan}
use Rattle.ask_core.specs.Askers.{SamePlans}
use Rattle.ask_core.specs.Paths.{OpenPlace, AreOwn, branches_at, first_plan}

-- the node of the first place is the asker's own
pub is_own-first :
    {N : Type 0} (is_own : N → Type 0) (places : List (OpenPlace N)) (n : N)
    → option_map (λ p. p.node) (slice_get places 0) ≡ Some n → AreOwn is_own places → is_own n
is_own-first is_own [] n first own = cc
is_own-first is_own (p ∷ places) n first own =
    let same : p.node ≡ n = cc in
    subst is_own same own.0

-- what it stands for is the plan at the first place
pub plan-first :
    {N W : Type 0} (plan : N → Plan W) (places : List (OpenPlace N)) (n : N)
    → option_map (λ p. p.node) (slice_get places 0) ≡ Some n → plan n ≡ first_plan plan places
plan-first plan [] n first = cc
plan-first plan (p ∷ places) n first =
    let same : n ≡ p.node = cc in
    ap plan same

-- places of own nodes stay so where own nodes do
pub AreOwn-same :
    {N W : Type 0} (was_own is_own : N → Type 0) (old new : N → Plan W) (places : List (OpenPlace N))
    → SamePlans was_own is_own old new → AreOwn was_own places → AreOwn is_own places
AreOwn-same was_own is_own old new [] same own = tt
AreOwn-same was_own is_own old new (p ∷ places) same own =
    ((same.own p.node).0 own.0, AreOwn-same was_own is_own old new places same own.1)

-- the same plans give the same branches
pub branches_at-same :
    {N W : Type 0} (was_own is_own : N → Type 0) (old new : N → Plan W) (places : List (OpenPlace N))
    → SamePlans was_own is_own old new → AreOwn was_own places
    → branches_at new places ≡ branches_at old places
branches_at-same was_own is_own old new [] same own = refl
branches_at-same was_own is_own old new (p ∷ places) same own =
    let here : new p.node ≡ old p.node = same.plans p.node own.0 in
    let later : branches_at new places ≡ branches_at old places =
    branches_at-same was_own is_own old new places same own.1 in
    cc
