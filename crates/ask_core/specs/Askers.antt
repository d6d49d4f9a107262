-- What an asker answers at a node, seen as a plan, and the limits of every plan.
use Rattle.std.specs.Prelude.{◌≡◌, ◌↔◌, ℕ, ◌+◌, ◌≤◌, neg_ℤ, max, Bool, true, not, ◌&&◌, nat_eq, nat_lt, int_le, IsTrue}
use Rattle.diff_graph.specs.declared.lit.Lit.{Lit}
use Rattle.diff_graph.specs.declared.lit.TheConstants.{MAX_LITERAL_OFFSET}
use Rattle.ask_core.specs.declared.asker.TheConstants.{MAX_QUESTIONS}
use Rattle.ask_core.specs.declared.turn.Turn.{Turn}
use Rattle.ask_core.specs.declared.turn.Turn.TheVariants as turn
use Rattle.ask_core.specs.Plans.{Plan, Ask, Holds, Fails}

-- the plan begins as the turn says: it asks the literal and goes on with the plans of the two nodes,
-- which are the asker's own, or it ends
abbrev pub Begins : {N W : Type 0} → (N → Type 0) → (N → Plan W) → Turn N W → Plan W → Type 0
Begins is_own plan (turn.Ask lit on_yes on_no) p =
    is_own on_yes × is_own on_no × (p ≡ Ask lit (plan on_yes) (plan on_no))
Begins is_own plan turn.Holds p = p ≡ Holds
Begins is_own plan (turn.Fails why) p = p ≡ Fails why

-- the plan begins with a question: the literal is asked, and its part for no is the plan of an own node
abbrev pub AsksFirst : {N W : Type 0} → (N → Type 0) → (N → Plan W) → Lit → N → Plan W → Type 0
AsksFirst {N = N} is_own plan lit on_no p = (on_yes : N) × Begins is_own plan (turn.Ask lit on_yes on_no) p

-- own nodes stay own, and stand for the same plans
pub record SamePlans {N W : Type 0} (was_own is_own : N → Type 0) (old new : N → Plan W) : Type 0 where
  pub own : (n : N) → was_own n ↔ is_own n
  pub plans : (n : N) → was_own n → new n ≡ old n

-- a literal over two different names below the count, with an offset that may be asked
abbrev pub is_fine_literal : ℕ → Lit → Bool
is_fine_literal count l =
    not (nat_eq l.x l.y) && nat_lt l.x count && nat_lt l.y count && int_le (neg_ℤ MAX_LITERAL_OFFSET) l.k
    && int_le l.k MAX_LITERAL_OFFSET

-- each literal of the plan is so
abbrev pub has_fine_literals : {W : Type 0} → ℕ → Plan W → Bool
has_fine_literals count (Ask l on_yes on_no) =
    is_fine_literal count l && has_fine_literals count on_yes && has_fine_literals count on_no
has_fine_literals count Holds = true
has_fine_literals count (Fails why) = true

-- how many questions the longest path has
abbrev pub longest_path : {W : Type 0} → Plan W → ℕ
longest_path (Ask l on_yes on_no) = 1 + max (longest_path on_yes) (longest_path on_no)
longest_path Holds = 0
longest_path (Fails why) = 0

-- the plan keeps the limits: its literals, and the questions on a path
pub record IsFine {W : Type 0} (count : ℕ) (p : Plan W) : Type 0 where
  pub literals : IsTrue (has_fine_literals count p)
  pub paths : longest_path p ≤ MAX_QUESTIONS
