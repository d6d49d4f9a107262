-- Which events no session of three sites refuses: a test that computes, and what it rests on.
use Rattle.std.specs.Prelude.{◌≡◌, ℕ, pos, ◌+◌, ◌*◌, ◌<◌, ◌≤◌, Bool, true, false, not, ◌&&◌, if◌then◌else◌, nat_eq}
use Rattle.std.specs.Prelude.{nat_le, nat_lt, List, [], ◌∷◌, length}
use Rattle.std.specs.Ordering.{int_eq}
use Rattle.ot_model.specs.declared.op.Op.{Op}
use Rattle.ot_model.specs.declared.op.Op.TheVariants.{Ins, Del, Upd, Nop}
use Rattle.case_json.specs.declared.script.Event.{Event}
use Rattle.case_json.specs.declared.script.Event.TheVariants.{Make, Take}
use Rattle.ot_causal.specs.Counting.{made_at, most_forms}
use Rattle.ot_causal.specs.Past.{maker}
use Rattle.ot_causal.specs.Sessions.{IsSite, MayMake}
use Rattle.fn_rules.specs.declared.limits.TheConstants.{MOST_ROUNDS}
use Rattle.fn_rules.specs.Functions.{Function}
use Rattle.ot_session.specs.declared.limits.TheConstants.{MAX_FORMS, MAX_MADE}
use Rattle.ot_session.specs.Past.{past_of}
use Rattle.ot_session.specs.Views.{View, data_in}
use Rattle.ot_drill.specs.declared.limits.TheConstants.{SITES}
use Rattle.ot_drill.specs.Workload.{drill_function}

-- how many operations each site made, how many were made in all, and whether one was taken since
pub record MadeCounts : Type 0 where
  pub made : ℕ → ℕ
  pub total : ℕ
  pub taking : Bool

-- nothing was made
abbrev pub none_made : MadeCounts
none_made = record { made = λ s. 0; total = 0; taking = false }

-- the number is that of a site
abbrev pub is_site : ℕ → Bool
is_site s = nat_le 1 s && nat_le s SITES

-- an insertion at the front of a document, or a deletion there behind an insertion at this site
abbrev pub is_front_operation : MadeCounts → ℕ → Op → Bool
is_front_operation c s (Ins at ch site) = int_eq at (pos 0) && nat_eq site s
is_front_operation c s (Del at site) = int_eq at (pos 0) && nat_eq site s && nat_lt 0 (c.made s)
is_front_operation c s (Upd at ch site) = false
is_front_operation c s Nop = false

-- an operation may be made before any is taken, and taken once it was made
abbrev pub is_fine : MadeCounts → Event → Bool
is_fine c (Make s op) =
    not c.taking && is_site s && nat_lt (c.made s) MOST_ROUNDS && nat_lt c.total 48 && is_front_operation c s op
is_fine c (Take s number) = is_site s && nat_lt number c.total

abbrev pub counts_behind : MadeCounts → Event → MadeCounts
counts_behind c (Make s op) =
    record { made = λ t. c.made t + (if nat_eq s t then 1 else 0); total = c.total + 1; taking = c.taking }
counts_behind c (Take s number) = record { made = c.made; total = c.total; taking = true }

-- each event may be done behind those before it
abbrev pub are_fine : MadeCounts → List Event → Bool
are_fine c [] = true
are_fine c (event ∷ events) = is_fine c event && are_fine (counts_behind c event) events

-- the session is open, and its counts are these, which are small; before an operation is taken, sites that made one
-- have cells
pub record SessionStands (v : View) (c : MadeCounts) : Type 0 where
  pub is_open : v.is_open ≡ true
  pub sites : length v.sites ≡ SITES
  pub total : length v.made ≡ c.total
  pub made : (s : ℕ) → made_at (past_of v.made) s ≡ c.made s
  pub makers : (o : ℕ) → o < length v.made → IsSite SITES (maker (past_of v.made) o)
  pub few : c.total ≤ 48
  pub few_at : (s : ℕ) → c.made s ≤ MOST_ROUNDS
  pub filled : c.taking ≡ false → (s : ℕ) → IsSite SITES s → 0 < c.made s → 0 < length ((data_in v).document s)

-- the function is that of a workload
abbrev pub IsDrillFunction : Function → Type 0
IsDrillFunction f = (n : ℕ) × (f ≡ drill_function n)

-- the forms that the operations made can have
pub record HasFewForms (v : View) : Type 0 where
  pub most : most_forms (past_of v.made) (length v.sites) ≤ 48 * 17 * 17

-- no test refuses the event, and no count of forms
abbrev pub CanBeDone : View → Event → Type 0
CanBeDone v (Make site op) = MayMake v.function (data_in v) site op × (length v.made < MAX_MADE)
CanBeDone v (Take site number) =
    IsSite (length v.sites) site × (number < length v.made)
    × (length v.sites * most_forms (past_of v.made) (length v.sites) ≤ MAX_FORMS)
