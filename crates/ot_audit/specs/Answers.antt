-- What is answered of a target of a block, and of two functions on a block: what the search finds, and what that says
-- of all operations.
use Rattle.std.specs.Prelude.{◌≡◌, ℕ}
use Rattle.ot_model.specs.declared.op.Kind.{Kind}
use Rattle.ot_model.specs.declared.op.Op.{Op}
use Rattle.fn_rules.specs.Functions.{Function}
use Rattle.fn_rules.specs.Transformation.{transform_of}
use Rattle.ot_audit.specs.declared.found.Agree.{Agree}
use Rattle.ot_audit.specs.declared.found.Agree.TheVariants as agrees
use Rattle.ot_audit.specs.declared.found.Found.{Found}
use Rattle.ot_audit.specs.declared.found.Found.TheVariants.{Never, Pair, Spent}
use Rattle.ot_audit.specs.declared.target.Target.{Target}
use Rattle.ot_audit.specs.Findings.{IsFoundIn}
use Rattle.ot_audit.specs.Goals.{target_goal, difference_goal}
use Rattle.ot_audit.specs.Reached as reached
use Rattle.ot_audit.specs.Reached.{AreMeant}
use Rattle.ot_audit.specs.Searches.{Differs, ReachesTarget}

-- the target is reached at no operations that are meant, or at these two
abbrev pub TellsTarget : Function → Kind → Kind → Target → Found → Type 0
TellsTarget f k l target Never = (a b : Op) → ReachesTarget f k l target a b → ⊥
TellsTarget f k l target (Pair a b) = ReachesTarget f k l target a b
TellsTarget f k l target Spent = Unit {0}

-- what is answered of a target of the block of two kinds by so many questions at the most
pub record IsReachedAs (f : Function) (k l : Kind) (target : Target) (budget : ℕ) (found : Found) : Type 0 where
  pub searched : IsFoundIn f k l (target_goal f k l target) budget found
  pub tells : TellsTarget f k l target found

-- the functions agree at all operations that are meant, or not at these two, of which they make so much
abbrev pub TellsFunctions : Function → Function → Kind → Kind → Agree → Type 0
TellsFunctions f g k l agrees.Same = (a b : Op) → AreMeant f k l a b → reached.Agree f g a b
TellsFunctions f g k l (agrees.Pair a b left right) =
    Differs f g k l a b × (left ≡ transform_of f a b) × (right ≡ transform_of g a b)
TellsFunctions f g k l agrees.Spent = Unit {0}

-- the finding behind the answer
abbrev pub finding_of : Agree → Found
finding_of agrees.Same = Never
finding_of (agrees.Pair a b left right) = Pair a b
finding_of agrees.Spent = Spent

-- what is answered of two functions on the block of two kinds by so many questions at the most
pub record IsAgreedAs (f g : Function) (k l : Kind) (budget : ℕ) (agree : Agree) : Type 0 where
  pub searched : IsFoundIn f k l (difference_goal f g k l) budget (finding_of agree)
  pub tells : TellsFunctions f g k l agree
