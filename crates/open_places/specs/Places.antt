-- The open places of a proof, by node: what is wanted, and the lemmas that are known.
use Rattle.std.specs.Prelude.{ℕ, ◌+◌, ◌≤◌, ⊤, List, [], ◌∷◌, ◌++◌, zero, suc, Option, Some, None, length, reverse}
use Rattle.std.specs.Prelude.{take, drop, true, false}
use Rattle.std.specs.List.{AllByRecursion}
use Rattle.diff_graph.specs.declared.lit.Lit.{Lit}
use Rattle.ask_core.specs.Trees.{with_answer}
use Rattle.open_places.specs.declared.places.At.{At}
use Rattle.open_places.specs.declared.places.At.TheVariants as at
use Rattle.open_places.specs.declared.places.Known.{Known}
use Rattle.open_places.specs.declared.places.WaitingPlace.{WaitingPlace}
use Rattle.open_places.specs.declared.places.WaitingPlace.TheVariants as waiting

-- what is wanted at a place, by node
pub data WantedAt (N : Type 0) : Type 0 where
  Tree : N → List Lit → WantedAt N
  Cycle : List Lit → WantedAt N
  Learn : N → List Lit → WantedAt N

pub record OpenProof (N : Type 0) : Type 0 where
  pub known : List (Known N)
  pub wanted : List (WantedAt N)

-- the nodes are the asker's own
abbrev pub IsOwnPlace : {N : Type 0} → (N → Type 0) → WantedAt N → Type 0
IsOwnPlace is_own (Tree n w) = is_own n
IsOwnPlace is_own (Cycle w) = ⊤
IsOwnPlace is_own (Learn n ls) = is_own n

abbrev pub AreOwnPlaces : {N : Type 0} → (N → Type 0) → OpenProof N → Type 0
AreOwnPlaces is_own p =
    AllByRecursion (λ k. is_own k.node) p.known × AllByRecursion (λ x. IsOwnPlace is_own x) p.wanted

-- the list of the first place, and its node where a tree is wanted there
abbrev pub first_list : {N : Type 0} → List (WantedAt N) → List Lit
first_list [] = []
first_list (Tree n w ∷ wanted) = w
first_list (Cycle w ∷ wanted) = w
first_list (Learn n ls ∷ wanted) = ls

abbrev pub first_node : {N : Type 0} → List (WantedAt N) → Option N
first_node [] = None
first_node (Tree n w ∷ wanted) = Some n
first_node (Cycle w ∷ wanted) = None
first_node (Learn n ls ∷ wanted) = None

-- the first place takes a token: no lemma whose tree has ended stands first
abbrev pub AreSettledPlaces : {N : Type 0} → List (WantedAt N) → Type 0
AreSettledPlaces [] = ⊤
AreSettledPlaces (Tree n w ∷ wanted) = ⊤
AreSettledPlaces (Cycle w ∷ wanted) = ⊤
AreSettledPlaces (Learn n ls ∷ wanted) = ⊥

-- a lemma whose tree has ended is known
abbrev pub settled_at : {N : Type 0} → List (Known N) → List (WantedAt N) → OpenProof N
settled_at known [] = record { known = known; wanted = [] }
settled_at known (Tree n w ∷ wanted) = record { known = known; wanted = Tree n w ∷ wanted }
settled_at known (Cycle w ∷ wanted) = record { known = known; wanted = Cycle w ∷ wanted }
settled_at known (Learn n ls ∷ wanted) = settled_at (known ++ record { node = n; literals = ls } ∷ []) wanted

-- the first place is closed
abbrev pub closed : {N : Type 0} → OpenProof N → OpenProof N
closed p = settled_at p.known (drop 1 p.wanted)

-- the literal is asked at the first place
abbrev pub asked : {N : Type 0} → Lit → N → N → OpenProof N → OpenProof N
asked l on_yes on_no p =
    record {
      known = p.known;
      wanted =
          Tree on_yes (with_answer (first_list p.wanted) l true)
          ∷ Tree on_no (with_answer (first_list p.wanted) l false)
          ∷ drop 1 p.wanted;
    }

-- a lemma of the node is begun there
abbrev pub begun : {N : Type 0} → N → List Lit → OpenProof N → OpenProof N
begun n ls p =
    record { known = p.known; wanted = Tree n ls ∷ Learn n ls ∷ Tree n (first_list p.wanted) ∷ drop 1 p.wanted }

-- a cycle is wanted for each literal
abbrev pub cycles_at : {N : Type 0} → List Lit → List Lit → List (WantedAt N)
cycles_at w [] = []
cycles_at w (l ∷ ls) = Cycle (with_answer w l false) ∷ cycles_at w ls

-- cycles for these literals are wanted in place of the first place
abbrev pub cited : {N : Type 0} → List Lit → OpenProof N → OpenProof N
cited ls p = settled_at p.known (cycles_at (first_list p.wanted) ls ++ drop 1 p.wanted)

-- the literals of a lemma
abbrev pub literals_at : {N : Type 0} → List (Known N) → ℕ → List Lit
literals_at [] number = []
literals_at (k ∷ known) zero = k.literals
literals_at (k ∷ known) (suc number) = literals_at known number

-- a place of a path
abbrev pub place_at : {N : Type 0} → At N → List Lit → WantedAt N
place_at (at.Tree n) w = Tree n w
place_at at.Cycle w = Cycle w

-- what waits, the innermost part first. A part shares the first literals of the list, of which the present ones begin
-- at the base. Behind a lemma the list is the one that it was begun in
abbrev pub behind : {N : Type 0} → ℕ → List Lit → List (WaitingPlace N) → List (WantedAt N)
behind base list [] = []
behind base list (waiting.Place place depth answer ∷ parts) =
    place_at place (drop base (take depth list) ++ answer ∷ []) ∷ behind base list parts
behind base list (waiting.Lemma n below count ∷ parts) =
    Learn n (take count (drop base list)) ∷ Tree n (drop below (take base list)) ∷ behind below list parts

-- each part shares no more literals than the limit and than the one before it, and none before its base
abbrev pub AreNestedParts : {N : Type 0} → ℕ → ℕ → List (WaitingPlace N) → Type 0
AreNestedParts base limit [] = ⊤
AreNestedParts base limit (waiting.Place place depth answer ∷ parts) = (base ≤ depth) × (depth ≤ limit)
    × AreNestedParts base depth parts
AreNestedParts base limit (waiting.Lemma n below count ∷ parts) = (below ≤ base) × (base + count ≤ limit)
    × AreNestedParts below base parts

-- the open places of a path, the parts that wait being listed with the innermost one last
abbrev pub open_proof : {N : Type 0} → List (Known N) → Option (At N) → ℕ → List Lit → List (WaitingPlace N)
    → OpenProof N
open_proof known None base list parts = record { known = known; wanted = [] }
open_proof known (Some place) base list parts =
    record { known = known; wanted = place_at place (drop base list) ∷ behind base list (reverse parts) }

pub record IsOpenPath {N : Type 0} (base : ℕ) (list : List Lit) (parts : List (WaitingPlace N)) : Type 0 where
  pub within : base ≤ length list
  pub nested : AreNestedParts base (length list) (reverse parts)
