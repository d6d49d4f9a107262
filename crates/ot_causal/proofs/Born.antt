-- What a sound past gives: being before is an order, and two operations of which none is before the other may
-- be with each other.
use Rattle.std.proofs.Common.{◌≡◌, ◌≢◌, ℕ, ◌<◌, true, false, List, [], ◌∷◌, Option, Some, None, sym, ◌∙◌, subst, inl}
use Rattle.std.proofs.Common.{inr}
use Rattle.std.specs.Prelude.{unwrap_or}
use Rattle.std.proofs.lemmas.Bool.{cases_Bool, false≢true, both_ways}
use Rattle.ot_model.specs.declared.cell.Cell.{Cell}
use Rattle.ot_model.specs.Operations.{site_of}
use Rattle.fn_rules.specs.Functions.{Function}
use Rattle.fn_rules.specs.Transformation.{Differ, IsAllowed}
use Rattle.ot_causal.specs.Members.{has}
use Rattle.ot_causal.specs.Past.{Past, IsClosed, IsOrderly}
use Rattle.ot_causal.specs.Sessions.{IsSoundPast}
use Rattle.ot_causal.proofs.Members.{has-cases}
use Rattle.ot_causal.proofs.Closed.{has-before}

-- a member of a closed list is not before itself: it would be a member twice
before-itself : (past : Past) (l : List ℕ) (o : ℕ) → IsClosed past l → has l o ≡ true → past.before o o ≡ true → ⊥
before-itself past [] o closed member before = false≢true member
before-itself past (y ∷ l) o closed member before = elim (has-cases y l o member) [
  | inl newest ↦ both_ways (has l o) (subst (λ (z : ℕ). has l z ≡ false) (sym newest) closed.0.new)
      (closed.0.knows o (subst (λ (z : ℕ). past.before o z ≡ true) newest before))
  | inr older ↦ before-itself past l o closed.1 older before
]

Differ-from : (s t : Option ℕ) → unwrap_or s 0 ≢ unwrap_or t 0 → Differ s t
Differ-from None t apart = tt
Differ-from (Some s) None apart = tt
Differ-from (Some s) (Some t) apart = apart

module _ (f : Function) (past : Past) (first : List Cell) (sound : IsSoundPast f past first) where
  -- in a sound past being before is an order
  pub IsOrderly-sound : IsOrderly past
  IsOrderly-sound = record {
    itself = λ o made. elim (cases_Bool (past.before o o)) [
      | inl before ↦ absurd (before-itself past (sound.born o made).known o (sound.born o made).closed
          ((sound.born o made).befores o ∙ before) before)
      | inr apart ↦ apart
    ];
    through = λ x y o made first_before then_before.
        sym ((sound.born o made).befores x)
        ∙ has-before past (sound.born o made).known x y (sound.born o made).closed
        ((sound.born o made).befores y ∙ then_before) first_before;
    ordered = sound.ordered;
  }

  -- operations of which none is before the other are of two sites
  pub IsAllowed-apart : f.head.chars_differ ≡ false → (x y : ℕ) → x < past.count → y < past.count → x ≢ y
      → past.before x y ≡ false → past.before y x ≡ false → IsAllowed f (past.operation x) (past.operation y)
  IsAllowed-apart no_chars x y made_x made_y differ apart apart_back = record {
    sites = λ assumed. Differ-from (site_of (past.operation x)) (site_of (past.operation y))
        (λ one_site. elim (sound.ordered x y made_x made_y one_site differ) [
          | inl before ↦ both_ways (past.before x y) apart before
          | inr behind ↦ both_ways (past.before y x) apart_back behind
        ]);
    chars = λ assumed. absurd (both_ways f.head.chars_differ no_chars assumed);
  }
