-- Evidence at level tp2 shows both properties, which no function for insertions and deletions on plain text has.
use Rattle.std.proofs.Common.{◌≡◌, ℕ, List, Option, Ok, subst}
use Rattle.fn_rules.specs.declared.function.Level.{Level}
use Rattle.fn_rules.specs.declared.function.Level.TheVariants.{Tp2}
use Rattle.fn_rules.specs.Functions.{Function}
use Rattle.fn_rules.specs.Properties.{HasTp1, HasTp2}
use Rattle.fn_grammar.specs.Grammar.{IsTextOf}
use Rattle.fn_text.specs.Reading.{function_in}
use Rattle.ot_heads.specs.Heads.{InsertsAndDeletesOnPlain}
use Rattle.ot_top.specs.Barred.{IsBarred}
use Rattle.ot_top.specs.Evidence.{Evidence, IsEvidence}
use Rattle.ot_top.specs.Shown.{HasLevel, IsProved}

module _ (lacks : (f : Function) → InsertsAndDeletesOnPlain f.head → ¬ (HasTp1 f × HasTp2 f)) where
  -- such a function has not what evidence at level tp2 shows
  lacks_level : (f : Function) → InsertsAndDeletesOnPlain f.head → ¬ HasLevel f Tp2
  lacks_level f plain has = lacks f plain (has.0, has.1)

  -- so there is none of it
  pub no_evidence :
      ((e : Evidence) (bytes : List ℕ) (f : Function) (level : Level) → IsEvidence e bytes f level → HasLevel f level)
      → (e : Evidence) (bytes : List ℕ) (f : Function) → InsertsAndDeletesOnPlain f.head → ¬ IsEvidence e bytes f Tp2
  no_evidence has_level e bytes f plain is = lacks_level f plain (has_level e bytes f Tp2 is)

  -- and none is written where the file is such a function's
  pub barred :
      ((bytes : List ℕ) (f : Function) → IsTextOf bytes f → function_in bytes ≡ Ok f) → (e : Evidence)
      (words : List (List ℕ)) (holds : List ℕ → Option (List ℕ)) (IsWritten : List ℕ → Type 0) (status : ℕ)
      → (status ≡ 0 → IsProved e words holds IsWritten) → IsBarred e words holds status
  barred is_read e words holds IsWritten status proved budget name bytes f named told text plain zero =
      let shown = proved zero Tp2 budget name bytes named told in
      let first : function_in bytes ≡ Ok shown.0 = is_read bytes shown.0 shown.2 in
      let second : function_in bytes ≡ Ok f = is_read bytes f text in
      let same : shown.0 ≡ f = cc in
      lacks_level f plain (subst (λ (g : Function). HasLevel g Tp2) same shown.5)
