-- What layers come to, from the scan of one to the answer of all.
use Rattle.std.proofs.Common.{◌≡◌, ◌⊎◌, inl, inr, ℕ, ◌+◌, ◌<◌, ◌≤◌, [], length, Option, Some}
use Rattle.std.proofs.Common.{None as NoneSo, sym, subst, arith}
use Rattle.fn_rules.specs.Functions.{Function}
use Rattle.fn_rules.specs.Rules.{function_of}
use Rattle.ot_mend.specs.Members.{Member, layer, member, members_after}
use Rattle.fewest_edits.specs.declared.decision.Decision.{Decision}
use Rattle.fewest_edits.specs.declared.decision.Decision.TheVariants.{Yes}
use Rattle.fewest_edits.specs.declared.mending.Mending.{Mending}
use Rattle.fewest_edits.specs.declared.mending.Mending.TheVariants.{Found, None, Spent}
use Rattle.fewest_edits.specs.declared.scanning.Best.{Best}
use Rattle.fewest_edits.specs.declared.scanning.Scan.{Scan}
use Rattle.fewest_edits.specs.Firsts.{IsFirst}
use Rattle.fewest_edits.specs.Mendings.{ArePassed, IsAnswerAt, IsMendedBy, IsPassed}
use Rattle.fewest_edits.specs.Scans.{GoesOver, IsBestOf, Tells}

-- what the best one of a layer tells is the layer's answer
told : (decides : Function → Decision → Type 0) (f : Function) (budget n : ℕ) (best : Option Best)
    (answer : Option Mending) → length (layer f n) ≤ budget → IsBestOf decides (layer f n) best → Tells best answer
    → IsAnswerAt decides f budget n answer
told decides f budget n NoneSo NoneSo within refused tells = (within, refused)
told decides f budget n NoneSo (Some m) within refused tells = absurd tells
told decides f budget n (Some b) NoneSo within best tells = absurd tells
told decides f budget n (Some b) (Some (Found rules edits)) within best tells = (
  within,
  subst (λ (m : Member). IsFirst decides (layer f n) m) (sym tells.1) best.0,
  subst (λ (m : Member). decides m.function Yes) (sym tells.1) (rw tells.0 at best.2),
)
told decides f budget n (Some b) (Some None) within best tells = absurd tells
told decides f budget n (Some b) (Some Spent) within best tells =
    inr (member b.candidate.edits.items (function_of b.candidate.rules), (within, best.0, rw tells at best.2))

pub answered : (decides : Function → Decision → Type 0) (f : Function) (budget n : ℕ) (start : Member) (s t : Scan)
    (answer : Option Mending) → s.left ≡ budget → s.best ≡ NoneSo → start ≡ member [] f
    → GoesOver decides (members_after n 0 start) s t → Tells t.best answer → IsAnswerAt decides f budget n answer
answered decides f budget n start s t answer left none is goes tells =
    let over = subst (λ (m : Member). GoesOver decides (members_after n 0 m) s t) is goes in
    told decides f budget n t.best answer (omega (arith, over.0, left))
    (over.1 [] (subst (λ (b : Option Best). IsBestOf decides [] b) (sym none) tt)) tells

below_or_last : (k n : ℕ) → k < n + 1 → (k < n) ⊎ (k ≡ n)
below_or_last k n below = grind arith

-- one layer more
pub passed_more : (decides : Function → Decision → Type 0) (f : Function) (budget n more : ℕ) → more ≡ n + 1
    → ArePassed decides f budget n → IsPassed decides f budget n → ArePassed decides f budget more
passed_more decides f budget n more next passed last fewer below =
    elim (below_or_last fewer n (omega (arith, below, next))) [
      | inl less ↦ passed fewer less
      | inr same ↦ subst (λ (k : ℕ). IsPassed decides f budget k) (sym same) last
    ]

-- a layer's answer is what mending comes to
pub mended : (decides : Function → Decision → Type 0) (f : Function) (most budget n : ℕ) (answer : Option Mending)
    (m : Mending) → n ≤ most → ArePassed decides f budget n → answer ≡ Some m → IsAnswerAt decides f budget n answer
    → IsMendedBy decides f most budget m
mended decides f most budget n answer (Found rules edits) within passed is answers =
    (n, within, passed, rw is at answers)
mended decides f most budget n answer None within passed is answers = absurd (rw is at answers)
mended decides f most budget n answer Spent within passed is answers = (n, within, passed, rw is at answers)
