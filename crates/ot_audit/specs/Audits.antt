-- What is answered of whole functions: of each case and each block of one, and of two functions on all blocks. Each
-- target and each block may have so many questions at the most.
use Rattle.std.specs.Prelude.{◌≡◌, ◌≢◌, ◌⊎◌, ℕ, ◌+◌, List, [], ◌∷◌, length, Option, Some, None}
use Rattle.ot_model.specs.declared.op.Kind.{Kind}
use Rattle.ot_model.specs.declared.op.Op.{Op}
use Rattle.fn_rules.specs.Functions.{Function, cases_of}
use Rattle.fn_rules.specs.Obligations.{declared_pairs}
use Rattle.ot_audit.specs.declared.audits.Audit.{Audit}
use Rattle.ot_audit.specs.declared.audits.Audit.TheVariants as audits
use Rattle.ot_audit.specs.declared.audits.BlockAudit.{BlockAudit}
use Rattle.ot_audit.specs.declared.audits.Same.{Same}
use Rattle.ot_audit.specs.declared.audits.Same.TheVariants as sames
use Rattle.ot_audit.specs.declared.found.Agree.{Agree}
use Rattle.ot_audit.specs.declared.found.Agree.TheVariants as agrees
use Rattle.ot_audit.specs.declared.found.Found.{Found}
use Rattle.ot_audit.specs.declared.found.Found.TheVariants as founds
use Rattle.ot_audit.specs.declared.target.Target.{Target}
use Rattle.ot_audit.specs.declared.target.Target.TheVariants as targets
use Rattle.ot_audit.specs.Answers.{IsReachedAs, IsAgreedAs}
use Rattle.ot_audit.specs.Goals.{IsTargetOf}

-- two operations, or none
abbrev pub found_of : Option (Op × Op) → Found
found_of None = founds.Never
found_of (Some ops) = founds.Pair ops.0 ops.1

-- what is found of the cases of a block from a number on
abbrev pub AreCases : Function → Kind → Kind → ℕ → ℕ → List (Option (Op × Op)) → Type 0
AreCases f k l budget i [] = Unit {0}
AreCases f k l budget i (x ∷ xs) = IsReachedAs f k l (targets.Case i) budget (found_of x)
    × AreCases f k l budget (i + 1) xs

-- what is found of a block: of each of its cases, and of its open end
pub record IsBlockAudit (f : Function) (budget : ℕ) (block : Kind × Kind) (x : BlockAudit) : Type 0 where
  pub first : x.first ≡ block.0
  pub second : x.second ≡ block.1
  pub count : length x.cases ≡ length (cases_of f block.0 block.1)
  pub cases : AreCases f block.0 block.1 budget 0 x.cases
  pub gap : IsReachedAs f block.0 block.1 targets.Open budget (found_of x.gap)

-- what is found of blocks, each in its turn
abbrev pub AreAudits : Function → ℕ → List (Kind × Kind) → List BlockAudit → Type 0
AreAudits f budget [] [] = Unit {0}
AreAudits f budget [] (x ∷ xs) = ⊥
AreAudits f budget (block ∷ blocks) [] = ⊥
AreAudits f budget (block ∷ blocks) (x ∷ xs) = IsBlockAudit f budget block x × AreAudits f budget blocks xs

-- a target of the block has more questions
pub record IsLong (f : Function) (budget : ℕ) (block : Kind × Kind) : Type 0 where
  pub target : Target
  pub there : IsTargetOf (length (cases_of f block.0 block.1)) target
  pub spent : IsReachedAs f block.0 block.1 target budget founds.Spent

-- one of the blocks has such a target
abbrev pub HasLong : Function → ℕ → List (Kind × Kind) → Type 0
HasLong f budget [] = ⊥
HasLong f budget (block ∷ blocks) = IsLong f budget block ⊎ HasLong f budget blocks

-- what is answered of a function
abbrev pub IsAuditedAs : Function → ℕ → Audit → Type 0
IsAuditedAs f budget (audits.Blocks xs) = AreAudits f budget (declared_pairs f.head) xs
IsAuditedAs f budget audits.Spent = HasLong f budget (declared_pairs f.head)

-- by what two functions are on a block: where they agree, what is answered behind it counts
abbrev pub GoesOnWhereSame : Kind × Kind → Agree → (Same → Type 0) → Same → Type 0
GoesOnWhereSame block agrees.Same Behind same = Behind same
GoesOnWhereSame block (agrees.Pair a b left right) Behind same = same ≡ sames.Differ block.0 block.1 a b left right
GoesOnWhereSame block agrees.Spent Behind same = same ≡ sames.Spent

-- what is answered of two functions on blocks, up to the first on which they do not agree
abbrev pub AreCompared : Function → Function → ℕ → List (Kind × Kind) → Same → Type 0
AreCompared f g budget [] same = same ≡ sames.Everywhere
AreCompared f g budget (block ∷ blocks) same =
    (agree : Agree) × IsAgreedAs f g block.0 block.1 budget agree
    × GoesOnWhereSame block agree (AreCompared f g budget blocks) same

-- what is answered of two functions: that their heads differ, or what they are on the blocks
abbrev pub IsComparedAs : Function → Function → ℕ → Same → Type 0
IsComparedAs f g budget same =
    ((f.head ≢ g.head) × (same ≡ sames.Heads)) ⊎ ((f.head ≡ g.head)
    × AreCompared f g budget (declared_pairs f.head) same)
