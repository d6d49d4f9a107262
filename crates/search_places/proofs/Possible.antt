-- Whether some integers meet answers, by a table or by a cycle, and how a table gets one more answer.
use Rattle.std.proofs.Common.{◌≡◌, ◌↔◌, ℕ, suc, ◌+◌, ◌-◌, ◌≤◌, ℤ, pos, negsuc, ◌-ℤ◌, ◌+ℤ◌, ◌≤ℤ◌, Bool, true, false}
use Rattle.std.proofs.Common.{List, [], ◌∷◌, ◌++◌, length, Option, None, Some, slice_get, Ok, IsTrue, arith, refl, sym}
use Rattle.std.proofs.Common.{ap, ◌∙◌, subst, inl, inr}
use Rattle.std.proofs.lemmas.Int.{ints}
use Rattle.diff_graph.specs.declared.lit.Lit.{Lit}
use Rattle.diff_tables.specs.declared.hop.Hop.{Hop}
use Rattle.diff_graph.specs.Literals.{AreMet, IsPossible, answered_of}
use Rattle.diff_graph.specs.Cycles.{picked, pick_verdict}
use Rattle.diff_graph.specs.Limits.{IsNamed}
use Rattle.diff_tables.specs.Tables.{Numbered, literals_of, numbered_from, IsAmong, AreAmong, kept_of, StandsFor}
use Rattle.diff_tables.specs.Tables.{IsPossibleWith, IsCycleOf}
use Rattle.diff_tables.specs.Steps.{keeps, leaves_room}
use Rattle.ask_core.specs.Trees.{IsCycleAmong, with_answer}
use Rattle.ask_core.specs.declared.asker.TheConstants.{MAX_NAMES}
use Rattle.diff_bounds.specs.Kept.{Rows}
use Rattle.search_places.specs.Sides.{IsTableOf, AddsAnswer, ClosesCycle}

-- ---- literals under their places
pub literals_of-numbered_from : (place : ℕ) (ls : List Lit) → literals_of (numbered_from place ls) ≡ ls
literals_of-numbered_from place [] = refl
literals_of-numbered_from place (l ∷ ls) = ap (λ rest. l ∷ rest) (literals_of-numbered_from (place + 1) ls)

numbered_from-push :
    (place : ℕ) (ls : List Lit) (l : Lit)
    → numbered_from place (ls ++ l ∷ []) ≡ numbered_from place ls ++ record { number = place + length ls; lit = l } ∷ []
numbered_from-push place [] l =
    let e : place ≡ place + 0 = omega arith in
    ap (λ n. record { number = n; lit = l } ∷ []) e
numbered_from-push place (m ∷ ls) l =
    let e : place + 1 + length ls ≡ place + suc (length ls) = omega arith in
    ap (λ rest. record { number = place; lit = m } ∷ rest)
    (numbered_from-push (place + 1) ls l
    ∙ ap (λ n. numbered_from (place + 1) ls ++ record { number = n; lit = l } ∷ []) e)

-- one more answer under its place
pub numbered_from-next :
    (w : List Lit) (l : Lit) (number : ℕ) → length w ≡ number
    → numbered_from 0 w ++ record { number = number; lit = l } ∷ [] ≡ numbered_from 0 (w ++ l ∷ [])
numbered_from-next w l number long =
    let e : number ≡ 0 + length w = omega (arith, long) in
    ap (λ n. numbered_from 0 w ++ record { number = n; lit = l } ∷ []) e ∙ sym (numbered_from-push 0 w l)

-- ---- some integers meet the answers
-- values may be shifted, so that name 0 has 0
AreMet-shifted : (v : ℕ → ℤ) (by : ℤ) (ls : List Lit) → AreMet v ls → AreMet (λ x. v x -ℤ by) ls
AreMet-shifted v by [] met = tt
AreMet-shifted v by (l ∷ ls) met =
    (let here : v l.x ≤ℤ (v l.y +ℤ l.k) = met.0 in omega (arith, ints), AreMet-shifted v by ls met.1)

IsPossible-met : (v : ℕ → ℤ) (ls : List Lit) → AreMet v ls → IsPossible ls
IsPossible-met v ls met =
    let zero_is_0 : (v 0 -ℤ v 0) ≡ pos 0 = omega (arith, ints) in
    (λ x. v x -ℤ v 0, zero_is_0, AreMet-shifted v (v 0) ls met)

-- a table that stands for them shows it
pub IsPossible-by_table :
    {n : ℕ} {t : ℕ → ℕ → Option Hop} (w : List Lit) → StandsFor n t (numbered_from 0 w) → IsPossible w
IsPossible-by_table w stands =
    IsPossible-met stands.possible.0 w
    (subst (λ (ls : List Lit). AreMet stands.possible.0 ls) (literals_of-numbered_from 0 w) stands.possible.1)

-- no integers meet a negative cycle
abbrev pub AreNeverMet : Type 0
AreNeverMet = (v : ℕ → ℤ) (ls : List Lit) (picks : List ℕ) → pick_verdict ls picks ≡ Ok tt → ¬ AreMet v ls

pub impossible_by_cycle : AreNeverMet → (w : List Lit) (picks : List ℕ) → IsCycleAmong w picks → ¬ IsPossible w
impossible_by_cycle never w picks cycle possible = never possible.0 w picks cycle.2 possible.2

-- ---- one more answer
-- the table that stands for the answers with one more at their end
pub IsTableOf-push :
    (w : List Lit) (l : Lit) (number : ℕ) (rows : Rows)
    → length w ≡ number
    → StandsFor MAX_NAMES (kept_of rows) (numbered_from 0 w ++ record { number = number; lit = l } ∷ [])
    → IsTableOf (w ++ l ∷ []) rows
IsTableOf-push w l number rows long stands =
    subst (λ (ps : List Numbered). StandsFor MAX_NAMES (kept_of rows) ps) (numbered_from-next w l number long) stands

-- the same where the literal is given by an equation
pub IsTableOf-answered :
    (w : List Lit) (l given : Lit) (number : ℕ) (rows new : Rows) → given ≡ l → length w ≡ number
    → ((ps : List Numbered) → StandsFor MAX_NAMES (kept_of rows) ps
    → StandsFor MAX_NAMES (kept_of new) (ps ++ record { number = number; lit = given } ∷ []))
    → IsTableOf w rows → IsTableOf (w ++ l ∷ []) new
IsTableOf-answered w l given number rows new is long adds stands =
    subst (λ (x : Lit). IsTableOf (w ++ x ∷ []) new) is
    (IsTableOf-push w given number new long (adds (numbered_from 0 w) stands))

-- where a number of the list stands
place_of :
    (place : ℕ) (ls : List Lit) (number : ℕ) (l : Lit) → IsAmong (numbered_from place ls) number l
    → (place ≤ number) × (slice_get ls (number - place) ≡ Some l)
place_of place [] number l among = absurd among
place_of place (m ∷ ls) number l among =
    elim among [
      | inl here ↦
          (let same : place ≡ number = here.0 in
          let e : number - place ≡ 0 = omega arith in
          (omega arith, rw (e, here.1) refl))
      | inr there ↦
          (let rest : (place + 1 ≤ number) × (slice_get ls (number - (place + 1)) ≡ Some l) =
          place_of (place + 1) ls number l there in
          let e : number - place ≡ suc (number - (place + 1)) = omega (arith, rest.0) in
          (omega (arith, rest.0), rw e rest.1))
    ]

pub got_at : (ls : List Lit) (number : ℕ) (l : Lit) → IsAmong (numbered_from 0 ls) number l
    → slice_get ls number ≡ Some l
got_at ls number l among =
    let e : number - 0 ≡ number = omega arith in
    subst (λ (i : ℕ). slice_get ls i ≡ Some l) e (place_of 0 ls number l among).1

pub picked-from_among :
    (ls : List Lit) (ps : List Numbered) → ((number : ℕ) (l : Lit) → IsAmong ps number l → slice_get ls number ≡ Some l)
    → (numbers : List ℕ) (found : List Lit) → AreAmong ps numbers found → picked ls numbers ≡ Some found
picked-from_among ls ps at [] [] among = refl
picked-from_among ls ps at [] (l ∷ found) among = absurd among
picked-from_among ls ps at (number ∷ numbers) [] among = absurd among
picked-from_among ls ps at (number ∷ numbers) (l ∷ found) among =
    rw (at number l among.0, picked-from_among ls ps at numbers found among.1) refl

cycle_has_picks : (w : List Lit) (picks : List ℕ) → pick_verdict w picks ≡ Ok tt → 1 ≤ length picks
cycle_has_picks w [] ok = absurd (cc)
cycle_has_picks w (n ∷ picks) ok = omega arith

-- numbers of a negative cycle of the answers and one more are a cycle among them
pub IsCycleAmong-push :
    (w : List Lit) (l : Lit) (number : ℕ) (picks : List ℕ) → length w ≡ number
    → IsCycleOf MAX_NAMES (numbered_from 0 w ++ record { number = number; lit = l } ∷ []) picks
    → IsCycleAmong (w ++ l ∷ []) picks
IsCycleAmong-push w l number picks long cycle =
    let named = subst (λ (ps : List Numbered). AreAmong ps picks cycle.literals)
    (numbered_from-next w l number long) cycle.named in
    let got : picked (w ++ l ∷ []) picks ≡ Some cycle.literals =
    picked-from_among (w ++ l ∷ []) (numbered_from 0 (w ++ l ∷ [])) (got_at (w ++ l ∷ [])) picks cycle.literals named in
    let ok : pick_verdict (w ++ l ∷ []) picks ≡ Ok tt = rw got cycle.negative in
    (cycle_has_picks (w ++ l ∷ []) picks ok, cycle.few, ok)

-- a cycle that an answer closes is one among the answers with it
pub IsCycleAmong-closed :
    (w : List Lit) (l : Lit) (said : Bool) (number : ℕ) (rows : Rows) (picks : List ℕ) → length w ≡ number
    → ClosesCycle (kept_of rows) number (answered_of l said) picks → IsTableOf w rows
    → IsCycleAmong (with_answer w l said) picks
IsCycleAmong-closed w l said number rows picks long closes stands =
    IsCycleAmong-push w (answered_of l said) number picks long (closes (numbered_from 0 w) stands)

-- ---- the two answers to a literal
abbrev pub TellsPossible : Type 0
TellsPossible =
    (n : ℕ) (t : ℕ → ℕ → Option Hop) (ps : List Numbered) (l : Lit)
    → StandsFor n t ps → IsNamed n l → (IsTrue (leaves_room (t l.y l.x) l.k) ↔ IsPossibleWith (literals_of ps) l)

-- what a table keeps already may be added
abbrev pub StandsForKept : Type 0
StandsForKept =
    (n : ℕ) (t : ℕ → ℕ → Option Hop) (ps : List Numbered) (number : ℕ) (l : Lit)
    → StandsFor n t ps → IsNamed n l → keeps (t l.x l.y) l.k ≡ true
    → StandsFor n t (ps ++ record { number = number; lit = l } ∷ [])

-- where a table has no room for an answer, it keeps the other one
pub keeps-yes : (o : Option Hop) (k : ℤ) → leaves_room o (negsuc 0 -ℤ k) ≡ false → keeps o k ≡ true
keeps-yes None k none = absurd (cc)
keeps-yes (Some h) k none = grind (arith, ints)

pub keeps-no : (o : Option Hop) (k : ℤ) → leaves_room o k ≡ false → keeps o (negsuc 0 -ℤ k) ≡ true
keeps-no None k none = absurd (cc)
keeps-no (Some h) k none = grind (arith, ints)

-- then it stands for the answers with that one
pub AddsAnswer-kept :
    StandsForKept → (rows : Rows) (l : Lit) (said : Bool) (number : ℕ) → IsNamed MAX_NAMES (answered_of l said)
    → keeps (kept_of rows (answered_of l said).x (answered_of l said).y) (answered_of l said).k ≡ true
    → AddsAnswer number l said rows rows
AddsAnswer-kept adds rows l said number named kept w long stands =
    IsTableOf-push w (answered_of l said) number rows long
    (adds MAX_NAMES (kept_of rows) (numbered_from 0 w) number (answered_of l said) stands named kept)
